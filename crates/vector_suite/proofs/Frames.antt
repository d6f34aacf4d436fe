-- The bytes of a frame, unit by unit.
use Rattle.std.proofs.Common.{◌≡◌, ◌≤◌, ℕ, List, ◌++◌, length, length-append, ap, arith, lit≤}
use Rattle.df1_check.specs.declared.Check.{Check}
use Rattle.df1_check.specs.declared.Check.TheVariants as kinds
use Rattle.df1_frame.specs.declared.framer.Part.TheVariants.{Opening}
use Rattle.df1_frame.specs.declared.framer.Unit.{Unit as Given}
use Rattle.df1_frame.specs.Spelling.{check_bytes, check_of}
use Rattle.df1_frame.specs.Units.{bytes_of, units}
use Rattle.df1_frame.proofs.FrameLemmas.{left-length}

few-checks : (kind : Check) (body : List ℕ) → length (check_of kind body) ≤ 2
unfolding check_bytes
few-checks kinds.Bcc body = lit≤ tt
few-checks kinds.Crc body = lit≤ tt

-- a frame has at most 506 bytes
pub frame-few : (kind : Check) (body : List ℕ) → length body ≤ 250 → length (bytes_of (units kind body)) ≤ 506
frame-few kind body few = left-length Opening body (check_of kind body) few (few-checks kind body)

-- what was given of it has no more
pub given-few : (given : List ℕ) (left : List Given) (all : List ℕ) → given ++ bytes_of left ≡ all → length all ≤ 506 → length given ≤ 506
given-few given left all are few = omega (arith, few, length-append given (bytes_of left), ap length are)
