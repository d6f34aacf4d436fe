-- The spelling that is written.
use Rattle.std.specs.Prelude.{ℕ, ◌+◌, ◌/◌, ◌%◌, Bool, List, [], ◌∷◌, ◌++◌, ◌==◌, nat_lt, if◌then◌else◌}
use Rattle.logical_address.specs.declared.levels.Levels.{Levels}
use Rattle.logical_address.specs.declared.three.Three.{Three}

-- a value under 255 is one byte, any other FF and two bytes, low first
abbrev pub shortest_value : ℕ → List ℕ
shortest_value n = if nat_lt n 255 then n ∷ [] else 0xFF ∷ n % 256 ∷ n / 256 ∷ []

-- a level that is left out where it is 0
abbrev pub shortest_level : ℕ → List ℕ
shortest_level n = if n == 0 then [] else shortest_value n

-- file, type byte, element and, with three fields, sub-element
abbrev pub shortest_three : Bool → Three → List ℕ
shortest_three with_sub at = shortest_value at.file ++ at.kind ∷ shortest_value at.element ++ (if with_sub then shortest_value at.sub else [])

-- the mask of the levels that are written: file and element always, area and sub-element where they aren't 0
abbrev pub shortest_mask : Levels → ℕ
shortest_mask at = 6 + (if at.area == 0 then 0 else 1) + (if at.sub == 0 then 0 else 8)

-- the mask and the levels
abbrev pub shortest_levels : Levels → List ℕ
shortest_levels at = shortest_mask at ∷ shortest_level at.area ++ shortest_value at.file ++ shortest_value at.element ++ shortest_level at.sub
