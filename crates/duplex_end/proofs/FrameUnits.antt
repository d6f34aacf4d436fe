-- The units of a whole frame: its end, and how many bytes they are.
use Rattle.std.proofs.Common.{◌≡◌, ℕ, ◌≤◌, Bool, true, false, List, [], ◌∷◌, ◌++◌, length, map, ◌==◌, refl, arith}
use Rattle.std.specs.Prelude.{if◌then◌else◌}
use Rattle.df1_check.specs.declared.Check.{Check}
use Rattle.df1_check.specs.declared.Check.TheVariants as kind
use Rattle.df1_frame.specs.declared.framer.Unit.{Unit as Given}
use Rattle.df1_frame.specs.declared.framer.Part.TheVariants as part
use Rattle.df1_frame.specs.Spelling.{check_bytes, check_of}
use Rattle.df1_frame.specs.Units.{pair_unit, byte_unit, body_unit, check_units, units, bytes_of}
use Rattle.df1_frame.proofs.FrameLemmas.{left-length}
use Rattle.duplex_end.specs.Joined.{LastEnds}

-- a unit that isn't the last stands before others
LastEnds-cons : (unit : Given) (rest : List Given) → unit.last ≡ false → (rest ≡ [] → ⊥) → LastEnds rest → LastEnds (unit ∷ rest)
LastEnds-cons unit [] e some h = absurd (some refl)
LastEnds-cons unit (next ∷ more) e some h = (e, h)

check-last : (kind : Check) (value : ℕ) → LastEnds (pair_unit 3 false ∷ check_units (check_bytes kind value))
unfolding check_bytes
check-last kind.Bcc value = (refl, (refl, refl))
check-last kind.Crc value = (refl, (refl, (refl, refl)))

closing-some : (front rest : List Given) (unit : Given) → front ++ unit ∷ rest ≡ [] → ⊥
closing-some [] rest unit e = cc
closing-some (first ∷ front) rest unit e = cc

body-not-last : (b : ℕ) (dle : Bool) → (if dle then pair_unit 16 true else byte_unit b true false).last ≡ false
body-not-last b true = refl
body-not-last b false = refl

body-last : (body : List ℕ) (unit : Given) (rest : List Given) → LastEnds (unit ∷ rest) → LastEnds (map body_unit body ++ unit ∷ rest)
body-last [] unit rest h = h
body-last (b ∷ body) unit rest h =
    LastEnds-cons (body_unit b) (map body_unit body ++ unit ∷ rest) (body-not-last b (b == 16)) (closing-some (map body_unit body) rest unit) (body-last body unit rest h)

-- the last unit of a frame ends it
pub units-last : (check : Check) (body : List ℕ) → LastEnds (units check body)
units-last check body =
    let end = check_units (check_of check body) in
    LastEnds-cons (pair_unit 2 true) (map body_unit body ++ pair_unit 3 false ∷ end) refl (closing-some (map body_unit body) end (pair_unit 3 false)) (body-last body (pair_unit 3 false) end (check-last check _))

check-length : (kind : Check) (value : ℕ) → length (check_bytes kind value) ≤ 2
unfolding check_bytes
check-length kind.Bcc value = omega arith
check-length kind.Crc value = omega arith

-- a frame has at most 506 bytes
pub units-length : (check : Check) (body : List ℕ) → length body ≤ 250 → length (bytes_of (units check body)) ≤ 506
units-length check body fits = left-length part.Opening body (check_of check body) fits (check-length check _)
