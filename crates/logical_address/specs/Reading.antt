-- What stands at the front of bytes: the numbers that are spelled there beside the bytes after them, or the first fault.
use Rattle.std.specs.Prelude.{ℕ, ◌+◌, ◌*◌, ◌/◌, ◌%◌, ◌-◌, Bool, true, false, not, ◌&&◌, ◌||◌, List, [], ◌∷◌, length, Option, Some, None, Result, Ok, Err, ◌==◌, nat_lt, nat_le, if◌then◌else◌}
use Rattle.std.specs.Option.{option_map, ok_or}
use Rattle.logical_address.specs.declared.levels.Levels.{Levels}
use Rattle.logical_address.specs.declared.levels.LevelFault.{LevelFault}
use Rattle.logical_address.specs.declared.levels.LevelFault.TheVariants as level
use Rattle.logical_address.specs.declared.three.Three.{Three}
use Rattle.logical_address.specs.declared.param.Param.{Param}
use Rattle.logical_address.specs.declared.param.ParamFault.{ParamFault}
use Rattle.logical_address.specs.declared.param.ParamFault.TheVariants as param
use Rattle.logical_address.specs.Spelling.{has_level}

infixl 10 ◌>>=◌
abbrev pub ◌>>=◌ : {A B : Type 0} → Option A → (A → Option B) → Option B
None >>= f = None
(Some x) >>= f = f x

-- ---- values

-- one byte
abbrev pub byte_front : List ℕ → Option (ℕ × List ℕ)
byte_front [] = None
byte_front (b ∷ rest) = Some (b, rest)

-- two bytes, low first
abbrev pub word_front : List ℕ → Option (ℕ × List ℕ)
word_front [] = None
word_front (low ∷ []) = None
word_front (low ∷ high ∷ rest) = Some (low + 256 * high, rest)

-- a value
abbrev pub value_front : List ℕ → Option (ℕ × List ℕ)
value_front [] = None
value_front (b ∷ rest) = if b == 0xFF then word_front rest else Some (b, rest)

-- a value that may be left out, and then is 0
abbrev pub optional_front : Bool → List ℕ → Option (ℕ × List ℕ)
optional_front true bytes = value_front bytes
optional_front false bytes = Some (0, bytes)

-- ---- addresses

-- an address of two or three fields
unfoldable pub three_front : Bool → List ℕ → Option (Three × List ℕ)
three_front with_sub bytes = do
  file ← value_front bytes
  kind ← byte_front file.1
  element ← value_front kind.1
  sub ← optional_front with_sub element.1
  Some (record { file = file.0; kind = kind.0; element = element.0; sub = sub.0 }, sub.1)

-- the levels of a mask
unfoldable pub named_front : ℕ → List ℕ → Option (Levels × List ℕ)
named_front mask bytes = do
  area ← optional_front (has_level mask 0) bytes
  file ← value_front area.1
  element ← value_front file.1
  sub ← optional_front (has_level mask 3) element.1
  Some (record { area = area.0; file = file.0; element = element.0; sub = sub.0 }, sub.1)

-- a level address; its faults, the first of which is told: no mask; a level after the sub-element; no file or no
-- element; a level that is cut off
abbrev pub levels_front : List ℕ → Result (Levels × List ℕ) LevelFault
levels_front [] = Err level.Truncated
levels_front (mask ∷ rest) =
    if nat_le 16 mask then Err level.TooMany
    else if not (has_level mask 1 && has_level mask 2) then Err level.TooFew
    else ok_or (named_front mask rest) level.Truncated

-- ---- parameters

-- a field of a parameter, beside its four bits of the flag byte
abbrev pub field_front : ℕ → List ℕ → Option (ℕ × List ℕ)
field_front bits bytes =
    if nat_lt bits 8 then Some (bits, bytes)
    else if bits == 8 + 1 then byte_front bytes
    else if bits == 8 + 2 then word_front bytes
    else None

-- a field that another number of bytes than 1 or 2 would hold
abbrev pub is_wide : ℕ → Bool
is_wide bits = nat_le 8 bits && not (bits == 8 + 1) && not (bits == 8 + 2)

-- the fields of a flag byte
unfoldable pub fields_front : ℕ → List ℕ → Option (Param × List ℕ)
fields_front flag bytes = do
  kind ← field_front (flag / 16) bytes
  size ← field_front (flag % 16) kind.1
  Some (record { kind = kind.0; size = size.0 }, size.1)

-- a parameter; its faults, the first of which is told: no flag byte; a wide field; a field that is cut off
abbrev pub param_front : List ℕ → Result (Param × List ℕ) ParamFault
param_front [] = Err param.Truncated
param_front (flag ∷ rest) =
    if is_wide (flag / 16) || is_wide (flag % 16) then Err param.WideField
    else ok_or (fields_front flag rest) param.Truncated

-- ---- beside the number of bytes that were used, in place of the bytes after them

abbrev pub used : {X : Type 0} → List ℕ → X × List ℕ → X × ℕ
used bytes found = (found.0, length bytes - length found.1)

abbrev pub used_or_fault : {X E : Type 0} → List ℕ → Result (X × List ℕ) E → Result (X × ℕ) E
used_or_fault bytes (Ok found) = Ok (used bytes found)
used_or_fault bytes (Err fault) = Err fault

abbrev pub value_at : List ℕ → Option (ℕ × ℕ)
value_at bytes = option_map (used bytes) (value_front bytes)

abbrev pub three_at : Bool → List ℕ → Option (Three × ℕ)
three_at with_sub bytes = option_map (used bytes) (three_front with_sub bytes)

abbrev pub levels_at : List ℕ → Result (Levels × ℕ) LevelFault
levels_at bytes = used_or_fault bytes (levels_front bytes)

abbrev pub param_at : List ℕ → Result (Param × ℕ) ParamFault
param_at bytes = used_or_fault bytes (param_front bytes)
