-- How addresses and parameters are spelled: which bytes stand for which numbers. Bytes are numbers below 256.
use Rattle.std.specs.Prelude.{◌≡◌, ℕ, ◌+◌, ◌*◌, ◌/◌, ◌%◌, ◌<◌, ◌≤◌, Bool, true, false, ◌==◌, List, [], ◌∷◌, ◌++◌, length, take}
use Rattle.std.specs.Int.{bit_at}
use Rattle.logical_address.specs.declared.levels.Levels.{Levels}
use Rattle.logical_address.specs.declared.three.Three.{Three}
use Rattle.logical_address.specs.declared.param.Param.{Param}

-- a value: one byte under FF, or FF and two bytes, low first
pub data SpellsValue : ℕ → List ℕ → Type 0 where
  one_byte : {n : ℕ} → n < 0xFF → SpellsValue n (n ∷ [])
  marked : {n low high : ℕ} → n ≡ low + 256 * high → SpellsValue n (0xFF ∷ low ∷ high ∷ [])

-- a value that may be left out, and then is 0
pub data SpellsOptional : Bool → ℕ → List ℕ → Type 0 where
  given : {n : ℕ} {bytes : List ℕ} → SpellsValue n bytes → SpellsOptional true n bytes
  left_out : SpellsOptional false 0 []

-- an address of two or three fields: the file, its type byte, the element and, with three fields, the sub-element
pub record SpellsThree (with_sub : Bool) (at : Three) (bytes : List ℕ) : Type 0 where
  pub file : List ℕ
  pub element : List ℕ
  pub sub : List ℕ
  pub of_file : SpellsValue at.file file
  pub of_element : SpellsValue at.element element
  pub of_sub : SpellsOptional with_sub at.sub sub
  pub whole : bytes ≡ file ++ at.kind ∷ element ++ sub

-- a level of the mask of a level address, which its bit says: 0 area, 1 file, 2 element, 3 sub-element
abbrev pub has_level : ℕ → ℕ → Bool
has_level mask level = bit_at mask level == 1

-- the mask of a level address: it has the file and the element, and no level after the sub-element
pub record IsMask (mask : ℕ) : Type 0 where
  pub no_more : mask < 16
  pub has_file : has_level mask 1 ≡ true
  pub has_element : has_level mask 2 ≡ true

-- a level address: the mask, and a value for each of its levels, in their order
pub record SpellsLevels (at : Levels) (bytes : List ℕ) : Type 0 where
  pub mask : ℕ
  pub area : List ℕ
  pub file : List ℕ
  pub element : List ℕ
  pub sub : List ℕ
  pub is_mask : IsMask mask
  pub of_area : SpellsOptional (has_level mask 0) at.area area
  pub of_file : SpellsValue at.file file
  pub of_element : SpellsValue at.element element
  pub of_sub : SpellsOptional (has_level mask 3) at.sub sub
  pub whole : bytes ≡ mask ∷ area ++ file ++ element ++ sub

-- a field of a parameter, beside its four bits of the flag byte: bit 3 clear, the field itself; bit 3 set, how many
-- bytes hold the field, 1 or 2, low first
pub data SpellsField : ℕ → ℕ → List ℕ → Type 0 where
  inline : {n : ℕ} → n < 8 → SpellsField n n []
  in_one : {n : ℕ} → SpellsField (8 + 1) n (n ∷ [])
  in_two : {n low high : ℕ} → n ≡ low + 256 * high → SpellsField (8 + 2) n (low ∷ high ∷ [])

-- a parameter: the flag byte, whose high four bits are of the kind and whose low four bits are of the size, then the
-- bytes of the kind, then the bytes of the size
pub record SpellsParam (param : Param) (bytes : List ℕ) : Type 0 where
  pub flag : ℕ
  pub kind : List ℕ
  pub size : List ℕ
  pub of_kind : SpellsField (flag / 16) param.kind kind
  pub of_size : SpellsField (flag % 16) param.size size
  pub whole : bytes ≡ flag ∷ kind ++ size

-- so many bytes at the front of these are a spelling
pub record IsFront (Spelled : List ℕ → Type 0) (used : ℕ) (bytes : List ℕ) : Type 0 where
  pub within : used ≤ length bytes
  pub spelled : Spelled (take used bytes)

-- the bytes are a spelling, and no spelling is shorter
pub record IsShortest (Spelled : List ℕ → Type 0) (bytes : List ℕ) : Type 0 where
  pub spelled : Spelled bytes
  pub none_shorter : (other : List ℕ) → Spelled other → length bytes ≤ length other
