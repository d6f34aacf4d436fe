-- The payloads are spellings of orders of a PLC.
use Rattle.std.proofs.Common.{◌≡◌, ◌≢◌, ℕ, ◌+◌, ◌*◌, ◌/◌, ◌%◌, ◌≤◌, Bool, true, cond, leb, List, [], ◌∷◌, ◌++◌, length, Some, None, refl, sym, ap, subst, append_assoc, append-nil, arith}
use Rattle.std.specs.Option.{option_or, unwrap_or}
use Rattle.std.proofs.lemmas.Bool.{le-leb}
use Rattle.df1_base.specs.declared.file_type.FileType.{FileType}
use Rattle.df1_base.specs.declared.file_type.FileType.TheVariants.{Status, Bit, Timer, Counter, Control, Integer, Float}
use Rattle.logical_address.specs.declared.param.Param.{Param}
use Rattle.logical_address.specs.Spelling.{SpellsParam, inline, in_one}
use Rattle.logical_address.specs.Shortest.{shortest_levels}
use Rattle.logical_address.specs.Parameter.{array_size, written_array, written_element}
use Rattle.logical_address.proofs.Addresses.{levels_spelled}
use Rattle.data_files.specs.WordBytes.{bytes_of}
use Rattle.data_files.specs.Words.{words_per_element}
use Rattle.data_files.proofs.WordLists.{length-bytes_of}
use Rattle.data_addresses.specs.declared.address.Address.{Address}
use Rattle.data_addresses.specs.Fields.{levels_of}
use Rattle.plc_commands.specs.declared.order.Set.{Set}
use Rattle.plc_commands.specs.Order.{Echo, IsWords, Peek, Poke, window}
use Rattle.plc_commands.specs.Order.{Status as OrderStatus}
use Rattle.plc_commands.specs.Spelling.{SpellsWord, low_first, SpellsWindow, SpellsSets, no_set, one_set, SpellsElement, in_array}
use Rattle.plc_commands.specs.Spelling as spells
use Rattle.command_payloads.specs.Faults.{count_fault, element_fault, half_fault, room_fault, sub_fault, type_fault}
use Rattle.command_payloads.specs.Payloads.{echo_payload, elements_of, range, read_modify_write_payload, status_payload, two_bytes, typed_front, typed_read_payload, typed_write_fault, typed_write_payload, unprotected_front, unprotected_read_payload, unprotected_write_fault, unprotected_write_payload, word_range_front, word_range_read_payload, word_range_write_fault, word_range_write_payload}
use Rattle.command_payloads.specs.Orders.{SpellsPlc, param_of, read_modify_write_order, typed_read_order, typed_write_order, word_range_read_order, word_range_write_order}
use Rattle.command_payloads.proofs.Faults.{count_fits, neither, whole_elements}

pub word_spelled : (n : ℕ) → SpellsWord n (two_bytes n)
word_spelled n = low_first (omega arith)

range_spelled : (at : Address) (total : ℕ) → SpellsWindow (window 0 total (levels_of at)) (range total at)
range_spelled at total = record {
  offset = two_bytes 0;
  total = two_bytes total;
  at = shortest_levels (levels_of at);
  of_offset = word_spelled 0;
  of_total = word_spelled total;
  of_at = levels_spelled (levels_of at);
  whole = refl;
}

are_words : (words : List ℕ) → 1 ≤ length words → IsWords (bytes_of words)
are_words words some = record {
  count = length words;
  whole = length-bytes_of words;
  some = λ e. let none = ap length e in let size = length-bytes_of words in absurd (omega arith);
}

-- ---- word ranges

pub word_range_read_spelled : (at : Address) (count : ℕ) → SpellsPlc (word_range_read_order at count) (word_range_read_payload at count)
word_range_read_spelled at count = record {
  rest = 0x01 ∷ range count at ++ 2 * count ∷ [];
  whole = refl;
  spelled = record { fields = range count at ++ 2 * count ∷ []; of_cmd = refl; of_fields = spells.range_read (range_spelled at count); whole = refl };
}

pub word_range_write_spelled : (at : Address) (words : List ℕ) → word_range_write_fault at words ≡ None → SpellsPlc (word_range_write_order at words) (word_range_write_payload at words)
word_range_write_spelled at words e =
    let some = (count_fits (length words) (neither (count_fault (length words)) (room_fault (word_range_front at (length words)) words) e).0).0 in
    record {
      rest = 0x00 ∷ range (length words) at ++ bytes_of words;
      whole = refl;
      spelled = record { fields = range (length words) at ++ bytes_of words; of_cmd = refl; of_fields = spells.range_write (range_spelled at (length words)) (are_words words some); whole = refl };
    }

-- ---- typed

pub typed_read_spelled : (at : Address) (count : ℕ) → SpellsPlc (typed_read_order at count) (typed_read_payload at count)
typed_read_spelled at count = record {
  rest = 0x68 ∷ range count at ++ two_bytes count;
  whole = refl;
  spelled = record { fields = range count at ++ two_bytes count; of_cmd = refl; of_fields = spells.typed_read (range_spelled at count) (word_spelled count); whole = refl };
}

-- the parameters of an array of so many words and of its element
array_spelled : (element : Param) (inner : List ℕ) (words size : ℕ) → SpellsParam element inner → size ≡ length inner + 2 * words → SpellsElement element true (2 * words) (0x99 ∷ 9 ∷ size ∷ inner)
array_spelled element inner words size spelled is =
    let array : Param = record { kind = 9; size = size } in
    let outer : SpellsParam array (0x99 ∷ 9 ∷ size ∷ []) = record { flag = 0x99; kind = 9 ∷ []; size = size ∷ []; of_kind = in_one; of_size = in_one; whole = refl } in
    in_array outer refl spelled is

in_room : (kind : FileType) (element : Param) (words size : ℕ) → size ≤ 255 → SpellsElement element true (2 * words) (0x99 ∷ 9 ∷ size ∷ written_element kind)
    → SpellsElement element true (2 * words) (unwrap_or (cond (leb size 255) (Some (0x99 ∷ 9 ∷ size ∷ written_element kind)) None) [])
in_room kind element words size fits spelled =
    let P : Bool → Type 0 = λ b. SpellsElement element true (2 * words) (unwrap_or (cond b (Some (0x99 ∷ 9 ∷ size ∷ written_element kind)) None) []) in
    subst P (sym (le-leb size 255 fits)) spelled

integer_spelled : SpellsParam (record { kind = 4; size = 2 }) (0x42 ∷ [])
integer_spelled = record { flag = 0x42; kind = []; size = []; of_kind = inline (omega arith); of_size = inline (omega arith); whole = refl }

bit_spelled : SpellsParam (record { kind = 2; size = 2 }) (0x22 ∷ [])
bit_spelled = record { flag = 0x22; kind = []; size = []; of_kind = inline (omega arith); of_size = inline (omega arith); whole = refl }

float_spelled : SpellsParam (record { kind = 8; size = 4 }) (0x94 ∷ 0x08 ∷ [])
float_spelled = record { flag = 0x94; kind = 0x08 ∷ []; size = []; of_kind = in_one; of_size = inline (omega arith); whole = refl }

element_spelled : (kind : FileType) (words : ℕ) → type_fault kind ≡ None → words ≤ 122 → words % words_per_element kind ≡ 0
    → SpellsElement (param_of kind) true (2 * words) (unwrap_or (written_array kind (words / words_per_element kind)) [])
element_spelled Status words e few whole =
    in_room Status (param_of Status) words (array_size Status (words / 1) (param_of Status)) (omega arith) (array_spelled (param_of Status) (0x42 ∷ []) words _ integer_spelled (omega arith))
element_spelled Bit words e few whole =
    in_room Bit (param_of Bit) words (array_size Bit (words / 1) (param_of Bit)) (omega arith) (array_spelled (param_of Bit) (0x22 ∷ []) words _ bit_spelled (omega arith))
element_spelled Timer words e few whole = absurd cc
element_spelled Counter words e few whole = absurd cc
element_spelled Control words e few whole = absurd cc
element_spelled Integer words e few whole =
    in_room Integer (param_of Integer) words (array_size Integer (words / 1) (param_of Integer)) (omega arith) (array_spelled (param_of Integer) (0x42 ∷ []) words _ integer_spelled (omega arith))
element_spelled Float words e few whole =
    in_room Float (param_of Float) words (array_size Float (words / 2) (param_of Float)) (omega arith) (array_spelled (param_of Float) (0x94 ∷ 0x08 ∷ []) words _ float_spelled (omega arith))

pub typed_write_spelled : (at : Address) (words : List ℕ) → typed_write_fault at words ≡ None → SpellsPlc (typed_write_order at words) (typed_write_payload at words)
typed_write_spelled at words e =
    let count = elements_of at words in
    let room = room_fault (typed_front at count) words in
    let first = neither (element_fault at) (option_or (count_fault (length words)) (option_or (half_fault at.kind (length words)) room)) e in
    let second = neither (count_fault (length words)) (option_or (half_fault at.kind (length words)) room) first.1 in
    let third = neither (half_fault at.kind (length words)) room second.1 in
    let few = (count_fits (length words) second.0).1 in
    let has_type = (neither (type_fault at.kind) (sub_fault at) first.0).0 in
    let array = unwrap_or (written_array at.kind count) [] in
    let S : ℕ → Type 0 = λ n. SpellsElement (param_of at.kind) true n array in
    let element = subst S (sym (length-bytes_of words)) (element_spelled at.kind (length words) has_type few (whole_elements at.kind (length words) third.0)) in
    record {
      rest = (0x67 ∷ range count at ++ array) ++ bytes_of words;
      whole = refl;
      spelled = record {
        fields = range count at ++ (array ++ bytes_of words);
        of_cmd = refl;
        of_fields = spells.typed_write (range_spelled at count) element;
        whole = ap (λ (xs : List ℕ). 0x67 ∷ xs) (append_assoc (range count at) array (bytes_of words));
      };
    }

-- ---- bits of a word

pub read_modify_write_spelled : (at : Address) (and or : ℕ) → SpellsPlc (read_modify_write_order at and or) (read_modify_write_payload at and or)
read_modify_write_spelled at and or =
    let set : Set = record { at = levels_of at; and = and; or = or } in
    let front : List ℕ = shortest_levels (levels_of at) ++ two_bytes and ++ two_bytes or in
    let one : SpellsSets (set ∷ []) (front ++ []) =
    one_set (record { at = shortest_levels (levels_of at); and = two_bytes and; or = two_bytes or; of_at = levels_spelled (levels_of at); of_and = word_spelled and; of_or = word_spelled or; whole = refl }) no_set in
    let some : set ∷ [] ≢ [] = λ e. let none = ap length e in absurd (omega arith) in
    record {
      rest = 0x26 ∷ front;
      whole = refl;
      spelled = record { fields = front ++ []; of_cmd = refl; of_fields = spells.change one some; whole = ap (λ (xs : List ℕ). 0x26 ∷ xs) (sym (append-nil front)) };
    }

-- ---- what every station knows, and the compatibility file

pub echo_spelled : (bytes : List ℕ) → SpellsPlc (Echo bytes) (echo_payload bytes)
echo_spelled bytes = record {
  rest = 0x00 ∷ bytes;
  whole = refl;
  spelled = record { fields = bytes; of_cmd = refl; of_fields = spells.echo; whole = refl };
}

pub status_spelled : SpellsPlc OrderStatus status_payload
status_spelled = record { rest = 0x03 ∷ []; whole = refl; spelled = record { fields = []; of_cmd = refl; of_fields = spells.status; whole = refl } }

pub unprotected_read_spelled : (address count : ℕ) → SpellsPlc (Peek address (2 * count)) (unprotected_read_payload address count)
unprotected_read_spelled address count =
    let bytes : List ℕ = two_bytes address ++ 2 * count ∷ [] in
    record { rest = bytes; whole = refl; spelled = record { fields = bytes; of_cmd = refl; of_fields = spells.peek (word_spelled address); whole = refl } }

pub unprotected_write_spelled : (address : ℕ) (words : List ℕ) → unprotected_write_fault address words ≡ None → SpellsPlc (Poke address (bytes_of words)) (unprotected_write_payload address words)
unprotected_write_spelled address words e =
    let some = (count_fits (length words) (neither (count_fault (length words)) (room_fault (unprotected_front address) words) e).0).0 in
    let bytes : List ℕ = two_bytes address ++ bytes_of words in
    record { rest = bytes; whole = refl; spelled = record { fields = bytes; of_cmd = refl; of_fields = spells.poke (word_spelled address) (are_words words some); whole = refl } }
