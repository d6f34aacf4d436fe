-- Which text is which address.
use Rattle.std.specs.Prelude.{◌≡◌, ℕ, ◌-◌, Bool, true, false, List, [], ◌∷◌, ◌++◌, codes, Option, Some, None}
use Rattle.df1_base.specs.declared.file_type.FileType.{FileType}
use Rattle.df1_base.specs.declared.file_type.FileType.TheVariants.{Status, Bit, Timer, Counter, Control, Integer, Float}
use Rattle.data_files.specs.Words.{words_per_element}
use Rattle.data_addresses.specs.declared.address.Address.{Address}
use Rattle.data_addresses.specs.Numbers.{SpellsNumber}

-- the letter of a type
abbrev pub letter : FileType → ℕ
letter Status = 83
letter Bit = 66
letter Timer = 84
letter Counter = 67
letter Control = 82
letter Integer = 78
letter Float = 70

-- the bits of an element's words have addresses
abbrev pub has_bits : FileType → Bool
has_bits Status = true
has_bits Bit = true
has_bits Timer = true
has_bits Counter = true
has_bits Control = true
has_bits Integer = true
has_bits Float = false

-- the names of words of elements
pub data IsName : FileType → ℕ → List ℕ → Type 0 where
  timer_control : IsName Timer 0 (codes "CTL")
  timer_preset : IsName Timer 1 (codes "PRE")
  timer_accumulator : IsName Timer 2 (codes "ACC")
  counter_control : IsName Counter 0 (codes "CTL")
  counter_preset : IsName Counter 1 (codes "PRE")
  counter_accumulator : IsName Counter 2 (codes "ACC")
  control_control : IsName Control 0 (codes "CTL")
  control_length : IsName Control 1 (codes "LEN")
  control_position : IsName Control 2 (codes "POS")

-- the number of a file; a Status file may have none, and then is file 2
pub data SpellsFile : FileType → ℕ → List ℕ → Type 0 where
  file_number : {kind : FileType} {file : ℕ} {text : List ℕ} → SpellsNumber 999 file text → SpellsFile kind file text
  status_file : SpellsFile Status 2 []

-- the last word of an element
abbrev pub most_sub : FileType → ℕ
most_sub kind = words_per_element kind - 1

-- a sub-element: left out, and then 0; or a point, and a word of the element by its name or its number
pub data SpellsSub : FileType → ℕ → List ℕ → Type 0 where
  no_sub : {kind : FileType} → SpellsSub kind 0 []
  sub_name : {kind : FileType} {sub : ℕ} {name : List ℕ} → IsName kind sub name → SpellsSub kind sub (46 ∷ name)
  sub_number : {kind : FileType} {sub : ℕ} {text : List ℕ} → SpellsNumber (most_sub kind) sub text → SpellsSub kind sub (46 ∷ text)

-- a bit: none, or a slash and a number
pub data SpellsBit : FileType → Option ℕ → List ℕ → Type 0 where
  no_bit : {kind : FileType} → SpellsBit kind None []
  bit_number : {kind : FileType} {bit : ℕ} {text : List ℕ} → has_bits kind ≡ true → SpellsNumber 15 bit text → SpellsBit kind (Some bit) (47 ∷ text)

-- an address: the letter of its type, the file, a colon, the element, the sub-element and the bit
pub record SpellsAddress (at : Address) (text : List ℕ) : Type 0 where
  pub file : List ℕ
  pub element : List ℕ
  pub sub : List ℕ
  pub bit : List ℕ
  pub of_file : SpellsFile at.kind at.file file
  pub of_element : SpellsNumber 999 at.element element
  pub of_sub : SpellsSub at.kind at.sub sub
  pub of_bit : SpellsBit at.kind at.bit bit
  pub whole : text ≡ letter at.kind ∷ file ++ 58 ∷ element ++ sub ++ bit
