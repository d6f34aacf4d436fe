-- What is spelled as an address is read as it.
use Rattle.std.proofs.Common.{◌≡◌, ◌≢◌, ℕ, ◌≤◌, Bool, true, false, cond, ◌&&◌, eqb, leb, List, [], ◌∷◌, ◌++◌, Option, Some, None, Result, Ok, refl, sym, ap, ◌∙◌, append_assoc, append-nil, arith}
use Rattle.std.specs.Option.{option_map, option_or, ok_or}
use Rattle.std.proofs.lemmas.Bool.{and_parts, leb-true, ne_eqb}
use Rattle.df1_base.specs.declared.file_type.FileType.{FileType}
use Rattle.df1_base.specs.declared.file_type.FileType.TheVariants.{Status, Bit, Timer, Counter, Control, Integer, Float}
use Rattle.data_files.specs.Place.{is_status}
use Rattle.logical_address.proofs.Fronts.{ok_is}
use Rattle.data_addresses.specs.declared.address.Address.{Address}
use Rattle.data_addresses.specs.declared.address.AddressFault.{AddressFault}
use Rattle.data_addresses.specs.declared.address.AddressFault.TheVariants.{NoFile, NoSub, NoBit}
use Rattle.data_addresses.specs.Numbers.{is_digit, AreDigits, digits, number_front}
use Rattle.data_addresses.specs.Text.{letter, IsName, timer_control, timer_preset, timer_accumulator, counter_control, counter_preset, counter_accumulator, control_control, control_length, control_position, SpellsFile, file_number, status_file, SpellsSub, no_sub, sub_name, sub_number, SpellsBit, no_bit, bit_number, SpellsAddress}
use Rattle.data_addresses.specs.Reading.{type_part, begins_with_colon, file_part, most_sub, word_named, word_of_timer, word_of_control, name_front, sub_part, with_bit, bit_part, address_of}
use Rattle.data_addresses.proofs.Digits.{number_again}

type_again : (kind : FileType) (rest : List ℕ) → type_part (letter kind ∷ rest) ≡ Ok (kind, rest)
type_again Status rest = refl
type_again Bit rest = refl
type_again Timer rest = refl
type_again Counter rest = refl
type_again Control rest = refl
type_again Integer rest = refl
type_again Float rest = refl

-- ---- the file

digit_most : (b : ℕ) → is_digit b ≡ true → b ≤ 57
digit_most b is = leb-true b 57 (and_parts (leb 48 b) (leb b 57) is).1

no_colon : (front rest : List ℕ) → AreDigits front → front ≢ [] → begins_with_colon (front ++ rest) ≡ false
no_colon [] rest are some = absurd (some refl)
no_colon (b ∷ front) rest are some = let most = digit_most b are.0 in ne_eqb b 58 (λ e. omega arith)

and-false : (b : Bool) → (b && false) ≡ false
and-false true = refl
and-false false = refl

file_again : {kind : FileType} {file : ℕ} {front : List ℕ} → SpellsFile kind file front → (rest : List ℕ) → file_part kind (front ++ 58 ∷ rest) ≡ Ok (file, 58 ∷ rest)
file_again status_file rest = refl
file_again (file_number {kind} {file} {text = front} s) rest =
    let text = front ++ 58 ∷ rest in
    let numbered : Result (ℕ × List ℕ) AddressFault = ok_or (number_front 999 text) NoFile in
    ap (λ (is : Bool). cond (is_status kind && is) (Ok (2, text)) numbered) (no_colon front (58 ∷ rest) s.each s.some)
    ∙ ap (λ (is : Bool). cond is (Ok (2, text)) numbered) (and-false (is_status kind))
    ∙ ap (λ (o : Option (ℕ × List ℕ)). ok_or o NoFile) (number_again s (58 ∷ rest) refl)

-- ---- the sub-element

name_again : {kind : FileType} {sub : ℕ} {name : List ℕ} → IsName kind sub name → (rest : List ℕ) → name_front kind (name ++ rest) ≡ Some (sub, rest)
name_again timer_control rest = refl
name_again timer_preset rest = refl
name_again timer_accumulator rest = refl
name_again counter_control rest = refl
name_again counter_preset rest = refl
name_again counter_accumulator rest = refl
name_again control_control rest = refl
name_again control_length rest = refl
name_again control_position rest = refl

no_word_of_timer : (a b c : ℕ) → a ≤ 57 → word_of_timer a b c ≡ None
no_word_of_timer a b c most =
    let no_c : eqb a 67 ≡ false = ne_eqb a 67 (λ e. omega arith) in
    let no_p : eqb a 80 ≡ false = ne_eqb a 80 (λ e. omega arith) in
    let no_a : eqb a 65 ≡ false = ne_eqb a 65 (λ e. omega arith) in
    rw (no_c, no_p, no_a) refl

no_word_of_control : (a b c : ℕ) → a ≤ 57 → word_of_control a b c ≡ None
no_word_of_control a b c most =
    let no_c : eqb a 67 ≡ false = ne_eqb a 67 (λ e. omega arith) in
    let no_l : eqb a 76 ≡ false = ne_eqb a 76 (λ e. omega arith) in
    let no_p : eqb a 80 ≡ false = ne_eqb a 80 (λ e. omega arith) in
    rw (no_c, no_l, no_p) refl

no_word : (kind : FileType) (a b c : ℕ) → a ≤ 57 → word_named kind a b c ≡ None
no_word Status a b c most = refl
no_word Bit a b c most = refl
no_word Timer a b c most = no_word_of_timer a b c most
no_word Counter a b c most = no_word_of_timer a b c most
no_word Control a b c most = no_word_of_control a b c most
no_word Integer a b c most = refl
no_word Float a b c most = refl

no_name_after : (kind : FileType) (a : ℕ) (rest : List ℕ) → a ≤ 57 → name_front kind (a ∷ rest) ≡ None
no_name_after kind a [] most = refl
no_name_after kind a (b ∷ []) most = refl
no_name_after kind a (b ∷ c ∷ rest) most = ap (option_map (λ (sub : ℕ). let found : ℕ × List ℕ = (sub, rest) in found)) (no_word kind a b c most)

no_name : (kind : FileType) (front rest : List ℕ) → AreDigits front → front ≢ [] → name_front kind (front ++ rest) ≡ None
no_name kind [] rest are some = absurd (some refl)
no_name kind (a ∷ front) rest are some = no_name_after kind a (front ++ rest) (digit_most a are.0)

no_digit_of_bit : {kind : FileType} {bit : Option ℕ} {text : List ℕ} → SpellsBit kind bit text → digits text ≡ []
no_digit_of_bit no_bit = refl
no_digit_of_bit (bit_number has s) = refl

no_digit_of_sub : {kind : FileType} {sub : ℕ} {bit : Option ℕ} {front text : List ℕ} → SpellsSub kind sub front → SpellsBit kind bit text → digits (front ++ text) ≡ []
no_digit_of_sub no_sub b = no_digit_of_bit b
no_digit_of_sub (sub_name n) b = refl
no_digit_of_sub (sub_number s) b = refl

left_out_again : {kind : FileType} {bit : Option ℕ} {text : List ℕ} → SpellsBit kind bit text → sub_part kind text ≡ Ok (0, text)
left_out_again no_bit = refl
left_out_again (bit_number has s) = refl

sub_again : {kind : FileType} {sub : ℕ} {bit : Option ℕ} {front text : List ℕ} → SpellsSub kind sub front → SpellsBit kind bit text → sub_part kind (front ++ text) ≡ Ok (sub, text)
sub_again no_sub b = left_out_again b
sub_again {text} (sub_name {kind} {sub} {name} n) b =
    ap (λ (o : Option (ℕ × List ℕ)). ok_or (option_or o (number_front (most_sub kind) (name ++ text))) NoSub) (name_again n text)
sub_again {text} (sub_number {kind} {sub} {text = front} s) b =
    ap (λ (o : Option (ℕ × List ℕ)). ok_or (option_or o (number_front (most_sub kind) (front ++ text))) NoSub) (no_name kind front text s.each s.some)
    ∙ ap (λ (o : Option (ℕ × List ℕ)). ok_or o NoSub) (number_again s text (no_digit_of_bit b))

-- ---- the bit

bit_again : {kind : FileType} {bit : Option ℕ} {text : List ℕ} → SpellsBit kind bit text → bit_part kind text ≡ Ok (bit, [])
bit_again no_bit = refl
bit_again (bit_number {kind} {bit} {text} has s) =
    let whole : number_front 15 text ≡ Some (bit, []) = ap (number_front 15) (sym (append-nil text)) ∙ number_again s [] refl in
    ap (λ (is : Bool). ok_or (cond is (option_map with_bit (number_front 15 text)) None) NoBit) has
    ∙ ap (λ (o : Option (ℕ × List ℕ)). ok_or (option_map with_bit o) NoBit) whole

-- ---- the address

pub address_parts : (first : ℕ) (file element sub bit : List ℕ) → first ∷ file ++ 58 ∷ element ++ sub ++ bit ≡ first ∷ (file ++ 58 ∷ (element ++ (sub ++ bit)))
address_parts first file element sub bit = simp append_assoc

pub address_again : (at : Address) (text : List ℕ) → SpellsAddress at text → address_of text ≡ Ok at
unfolding address_of
address_again at text s =
    let last : List ℕ = s.sub ++ s.bit in
    let after : List ℕ = s.element ++ last in
    ap address_of (s.whole ∙ address_parts (letter at.kind) s.file s.element s.sub s.bit)
    ∙ rw (type_again at.kind (s.file ++ 58 ∷ after), file_again s.of_file after, number_again s.of_element last (no_digit_of_sub s.of_sub s.of_bit), sub_again s.of_sub s.of_bit, bit_again s.of_bit) refl

pub one_address : (at other : Address) (text : List ℕ) → SpellsAddress at text → SpellsAddress other text → at ≡ other
one_address at other text p q = ok_is {E = AddressFault} at other (sym (address_again at text p) ∙ address_again other text q)
