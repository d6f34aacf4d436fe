-- How the text of an address is read: part after part, each at the front of what the one before it left. The first part that
-- isn't as it should be gives the fault.
use Rattle.std.specs.Prelude.{ℕ, Bool, false, ◌&&◌, List, [], ◌∷◌, ◌==◌, if◌then◌else◌, Option, Some, None, Result, Ok, Err}
use Rattle.std.specs.Option.{option_map, option_or, ok_or}
use Rattle.df1_base.specs.declared.file_type.FileType.{FileType}
use Rattle.df1_base.specs.declared.file_type.FileType.TheVariants.{Status, Bit, Timer, Counter, Control, Integer, Float}
use Rattle.data_files.specs.Place.{is_status}
use Rattle.data_addresses.specs.declared.address.Address.{Address}
use Rattle.data_addresses.specs.declared.address.AddressFault.{AddressFault}
use Rattle.data_addresses.specs.declared.address.AddressFault.TheVariants.{NoType, NoFile, NoColon, NoElement, NoSub, NoBit, NoEnd}
use Rattle.data_addresses.specs.Numbers.{number_front}
use Rattle.data_addresses.specs.Text as spelled

infixl 10 ◌>>=◌
abbrev pub ◌>>=◌ : {A B : Type 0} → Result A AddressFault → (A → Result B AddressFault) → Result B AddressFault
(Ok a) >>= f = f a
(Err fault) >>= f = Err fault

-- ---- the type

abbrev pub type_of : ℕ → Option FileType
type_of b =
    if b == 83 then Some Status
    else if b == 66 then Some Bit
    else if b == 84 then Some Timer
    else if b == 67 then Some Counter
    else if b == 82 then Some Control
    else if b == 78 then Some Integer
    else if b == 70 then Some Float
    else None

abbrev pub type_front : List ℕ → Option (FileType × List ℕ)
type_front [] = None
type_front (b ∷ rest) = option_map (λ kind. (kind, rest)) (type_of b)

abbrev pub type_part : List ℕ → Result (FileType × List ℕ) AddressFault
type_part text = ok_or (type_front text) NoType

-- ---- the file and the element

abbrev pub begins_with_colon : List ℕ → Bool
begins_with_colon [] = false
begins_with_colon (b ∷ rest) = b == 58

abbrev pub file_part : FileType → List ℕ → Result (ℕ × List ℕ) AddressFault
file_part kind text = if is_status kind && begins_with_colon text then Ok (2, text) else ok_or (number_front 999 text) NoFile

abbrev pub colon_part : List ℕ → Result (List ℕ) AddressFault
colon_part [] = Err NoColon
colon_part (b ∷ rest) = if b == 58 then Ok rest else Err NoColon

abbrev pub element_part : List ℕ → Result (ℕ × List ℕ) AddressFault
element_part text = ok_or (number_front 999 text) NoElement

-- ---- the sub-element

abbrev pub most_sub : FileType → ℕ
most_sub kind = spelled.most_sub kind

-- three letters are those
abbrev pub are_letters : (a b c x y z : ℕ) → Bool
are_letters a b c x y z = (a == x) && (b == y) && (c == z)

-- of a timer or a counter: CTL, PRE and ACC
abbrev pub word_of_timer : (a b c : ℕ) → Option ℕ
word_of_timer a b c =
    if are_letters a b c 67 84 76 then Some 0
    else if are_letters a b c 80 82 69 then Some 1
    else if are_letters a b c 65 67 67 then Some 2
    else None

-- of a control: CTL, LEN and POS
abbrev pub word_of_control : (a b c : ℕ) → Option ℕ
word_of_control a b c =
    if are_letters a b c 67 84 76 then Some 0
    else if are_letters a b c 76 69 78 then Some 1
    else if are_letters a b c 80 79 83 then Some 2
    else None

abbrev pub word_named : FileType → (a b c : ℕ) → Option ℕ
word_named Status a b c = None
word_named Bit a b c = None
word_named Timer a b c = word_of_timer a b c
word_named Counter a b c = word_of_timer a b c
word_named Control a b c = word_of_control a b c
word_named Integer a b c = None
word_named Float a b c = None

abbrev pub name_front : FileType → List ℕ → Option (ℕ × List ℕ)
name_front kind [] = None
name_front kind (a ∷ []) = None
name_front kind (a ∷ b ∷ []) = None
name_front kind (a ∷ b ∷ c ∷ rest) = option_map (λ sub. (sub, rest)) (word_named kind a b c)

abbrev pub word_front : FileType → List ℕ → Option (ℕ × List ℕ)
word_front kind text = option_or (name_front kind text) (number_front (most_sub kind) text)

abbrev pub sub_part : FileType → List ℕ → Result (ℕ × List ℕ) AddressFault
sub_part kind [] = Ok (0, [])
sub_part kind (b ∷ rest) = if b == 46 then ok_or (word_front kind rest) NoSub else Ok (0, b ∷ rest)

-- ---- the bit and the end

abbrev pub with_bit : ℕ × List ℕ → Option ℕ × List ℕ
with_bit found = (Some found.0, found.1)

abbrev pub bit_front : FileType → List ℕ → Option (Option ℕ × List ℕ)
bit_front kind text = if spelled.has_bits kind then option_map with_bit (number_front 15 text) else None

abbrev pub bit_part : FileType → List ℕ → Result (Option ℕ × List ℕ) AddressFault
bit_part kind [] = Ok (None, [])
bit_part kind (b ∷ rest) = if b == 47 then ok_or (bit_front kind rest) NoBit else Ok (None, b ∷ rest)

abbrev pub end_part : List ℕ → Result (Unit {0}) AddressFault
end_part [] = Ok tt
end_part (b ∷ rest) = Err NoEnd

-- ---- the address

unfoldable pub address_of : List ℕ → Result Address AddressFault
address_of text = do
  kind ← type_part text
  file ← file_part kind.0 kind.1
  after ← colon_part file.1
  element ← element_part after
  sub ← sub_part kind.0 element.1
  bit ← bit_part kind.0 sub.1
  none ← end_part bit.1
  Ok (record { kind = kind.0; file = file.0; element = element.0; sub = sub.0; bit = bit.0 })
