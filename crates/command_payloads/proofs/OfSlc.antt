-- The payloads are spellings of orders of an SLC.
use Rattle.std.proofs.Common.{◌≡◌, ℕ, ◌+◌, ◌*◌, ◌/◌, ◌%◌, Bool, true, false, List, [], ◌∷◌, ◌++◌, length, None, refl, sym, ap, ◌∙◌, append-nil, arith}
use Rattle.std.specs.Option.{option_or}
use Rattle.std.proofs.lemmas.Bool.{true≢false}
use Rattle.logical_address.specs.declared.three.Three.{Three}
use Rattle.logical_address.specs.Shortest.{shortest_three}
use Rattle.logical_address.specs.Spelling.{SpellsThree}
use Rattle.logical_address.proofs.Addresses.{three_spelled}
use Rattle.data_files.specs.WordBytes.{bytes_of}
use Rattle.data_files.proofs.WordLists.{length-bytes_of}
use Rattle.data_addresses.specs.declared.address.Address.{Address}
use Rattle.data_addresses.specs.Fields.{three_of}
use Rattle.slc_commands.specs.Order.{given, left_out}
use Rattle.command_payloads.specs.Faults.{count_fault, room_fault}
use Rattle.command_payloads.specs.Payloads.{fields_fault, logical_front, logical_read_fault, logical_read_payload, logical_write_fault, logical_write_payload, masked_write_payload, two_bytes}
use Rattle.command_payloads.specs.Orders.{SpellsSlc, logical_read_order, logical_write_order, masked_write_order}
use Rattle.command_payloads.proofs.Faults.{neither, no_sub}

three_fields : (at : Three) → SpellsThree true at (shortest_three true at)
three_fields at = three_spelled true at (λ e. absurd (true≢false e))

twice_nothing : (front : List ℕ) → front ≡ (front ++ []) ++ []
twice_nothing front = sym (append-nil (front ++ []) ∙ append-nil front)

once_nothing : (front rest : List ℕ) → front ++ rest ≡ (front ++ []) ++ rest
once_nothing front rest = ap (λ (xs : List ℕ). xs ++ rest) (sym (append-nil front))

pub logical_read_spelled : (with_sub : Bool) (at : Address) (count : ℕ) → logical_read_fault with_sub at count ≡ None → SpellsSlc (logical_read_order with_sub at count) (logical_read_payload with_sub at count)
logical_read_spelled true at count e =
    let front : List ℕ = 0xA2 ∷ 2 * count ∷ shortest_three true (three_of at) in
    record {
      rest = front;
      whole = refl;
      spelled = record { at = shortest_three true (three_of at); mask = []; of_at = three_fields (three_of at); of_mask = left_out; of_data = refl; whole = twice_nothing front };
    }
logical_read_spelled false at count e =
    let front : List ℕ = 0xA1 ∷ 2 * count ∷ shortest_three false (three_of at) in
    let none = no_sub at (neither (fields_fault false at) (count_fault count) e).0 in
    record {
      rest = front;
      whole = refl;
      spelled = record { at = shortest_three false (three_of at); mask = []; of_at = three_spelled false (three_of at) (λ _. none); of_mask = left_out; of_data = refl; whole = twice_nothing front };
    }

pub logical_write_spelled : (with_sub : Bool) (at : Address) (words : List ℕ) → logical_write_fault with_sub at words ≡ None → SpellsSlc (logical_write_order with_sub at words) (logical_write_payload with_sub at words)
logical_write_spelled true at words e =
    let front : List ℕ = 0xAA ∷ 2 * length words ∷ shortest_three true (three_of at) in
    record {
      rest = front ++ bytes_of words;
      whole = refl;
      spelled = record { at = shortest_three true (three_of at); mask = []; of_at = three_fields (three_of at); of_mask = left_out; of_data = length-bytes_of words; whole = once_nothing front (bytes_of words) };
    }
logical_write_spelled false at words e =
    let front : List ℕ = 0xA9 ∷ 2 * length words ∷ shortest_three false (three_of at) in
    let none = no_sub at (neither (fields_fault false at) (option_or (count_fault (length words)) (room_fault (logical_front 0xA9 false at (length words)) words)) e).0 in
    record {
      rest = front ++ bytes_of words;
      whole = refl;
      spelled = record { at = shortest_three false (three_of at); mask = []; of_at = three_spelled false (three_of at) (λ _. none); of_mask = left_out; of_data = length-bytes_of words; whole = once_nothing front (bytes_of words) };
    }

pub masked_write_spelled : (at : Address) (mask : ℕ) (words : List ℕ) → SpellsSlc (masked_write_order at mask words) (masked_write_payload at mask words)
masked_write_spelled at mask words =
    let two : mask ≡ mask % 256 + 256 * (mask / 256) = omega arith in
    record {
      rest = (0xAB ∷ 2 * length words ∷ shortest_three true (three_of at) ++ two_bytes mask) ++ bytes_of words;
      whole = refl;
      spelled = record { at = shortest_three true (three_of at); mask = two_bytes mask; of_at = three_fields (three_of at); of_mask = given two; of_data = length-bytes_of words; whole = refl };
    }
