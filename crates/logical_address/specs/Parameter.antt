-- The parameters of the data of a file: of one element, and of an array of elements.
use Rattle.std.specs.Prelude.{◌≡◌, ℕ, ◌+◌, ◌*◌, List, [], ◌∷◌, length, nat_le, if◌then◌else◌, Option, Some, None, Ok}
use Rattle.df1_base.specs.declared.file_type.FileType.{FileType}
use Rattle.df1_base.specs.declared.file_type.FileType.TheVariants.{Status, Bit, Timer, Counter, Control, Integer, Float}
use Rattle.logical_address.specs.declared.param.Param.{Param}
use Rattle.logical_address.specs.Reading.{param_front}

-- the parameter of an element: 2 bit string, 4 integer, 8 floating point, and its size in bytes
abbrev pub element_param : FileType → Option Param
element_param Status = Some (record { kind = 4; size = 2 })
element_param Bit = Some (record { kind = 2; size = 2 })
element_param Timer = None
element_param Counter = None
element_param Control = None
element_param Integer = Some (record { kind = 4; size = 2 })
element_param Float = Some (record { kind = 8; size = 4 })

-- how it is written
abbrev pub written_element : FileType → List ℕ
written_element Status = 0x42 ∷ []
written_element Bit = 0x22 ∷ []
written_element Timer = []
written_element Counter = []
written_element Control = []
written_element Integer = 0x42 ∷ []
written_element Float = 0x94 ∷ 0x08 ∷ []

-- the size of an array: the bytes of the parameter of its element and of its data
abbrev pub array_size : FileType → ℕ → Param → ℕ
array_size kind count element = length (written_element kind) + element.size * count

-- an array's parameter with one byte for its kind, 9, and one for its size, then the parameter of its element, where
-- its elements have one and its size fits
abbrev pub array_of : FileType → ℕ → Option Param → Option (List ℕ)
array_of kind count None = None
array_of kind count (Some element) =
    if nat_le (array_size kind count element) 255 then Some (0x99 ∷ 9 ∷ array_size kind count element ∷ written_element kind) else None

abbrev pub written_array : FileType → ℕ → Option (List ℕ)
written_array kind count = array_of kind count (element_param kind)

-- the bytes begin with the parameter of an array of these elements, after it with that of an element, and the rest follows
pub record IsArrayOf (kind : FileType) (count : ℕ) (bytes rest : List ℕ) : Type 0 where
  pub element : Param
  pub after : List ℕ
  pub is_element : element_param kind ≡ Some element
  pub array : param_front bytes ≡ Ok (record { kind = 9; size = array_size kind count element }, after)
  pub of_element : param_front after ≡ Ok (element, rest)
