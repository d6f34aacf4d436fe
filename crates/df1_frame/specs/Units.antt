-- The units in which a frame without responses is given.
use Rattle.std.specs.Prelude.{ℕ, Bool, true, false, List, [], ◌∷◌, ◌++◌, Some, None, ◌==◌, if◌then◌else◌, map, option_to_list}
use Rattle.std.specs.List.{flat_map}
use Rattle.df1_check.specs.declared.Check.{Check}
use Rattle.df1_frame.specs.declared.framer.Unit.{Unit as Given}
use Rattle.df1_frame.specs.Spelling.{check_of}

-- a pair that begins with DLE
abbrev pub pair_unit : ℕ → Bool → Given
pair_unit code gap = record { first = 16; second = Some code; gap = gap; last = false }

-- one byte
abbrev pub byte_unit : ℕ → Bool → Bool → Given
byte_unit b gap last = record { first = b; second = None; gap = gap; last = last }

-- a byte of the body: a DLE is doubled, and a response may follow
abbrev pub body_unit : ℕ → Given
body_unit b = if b == 16 then pair_unit 16 true else byte_unit b true false

-- the check bytes, never doubled, and nothing may stand between them
abbrev pub check_units : List ℕ → List Given
check_units [] = []
check_units (b ∷ []) = byte_unit b false true ∷ []
check_units (b ∷ c ∷ more) = byte_unit b false false ∷ check_units (c ∷ more)

-- the end of a frame: DLE ETX, and the check bytes
abbrev pub closing_units : List ℕ → List Given
closing_units check = pair_unit 3 false ∷ check_units check

-- a frame: DLE STX, the body, and the end
abbrev pub units : Check → List ℕ → List Given
units check body = pair_unit 2 true ∷ (map body_unit body ++ closing_units (check_of check body))

-- the bytes of a unit
abbrev pub unit_bytes : Given → List ℕ
unit_bytes unit = unit.first ∷ option_to_list unit.second

-- the bytes of the units in order
abbrev pub bytes_of : List Given → List ℕ
bytes_of = flat_map unit_bytes
