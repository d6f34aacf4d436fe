-- What was taken of a capture so far, where what is heard in it is counted.
use Rattle.std.proofs.Common.{◌≡◌, ◌∙◌, ◌≤◌, ℕ, Bool, List, [], ◌++◌, Option, length, Result, Ok, Err, sym, ap, subst, arith, append-nil, append_assoc, length-append}
use Rattle.std.specs.Io.KnownBytes.{IsAtEnd, Keeps}
use Rattle.std.proofs.KnownBytes.{Consumes-nil, Consumes-trans, Consumes-kept}
use Rattle.df1_base.specs.Outside.{Rose, Took}
use Rattle.df1_base.specs.Signals.{input_limit}
use Rattle.df1_check.specs.declared.Check.{Check}
use Rattle.half_frame.specs.declared.side.Side.{Side}
use Rattle.df1_dissect.specs.Reading.{Reading, StandsFor, told}
use Rattle.df1_dissect.proofs.Sides.{fed-length}
use Rattle.df1_capture.specs.declared.capture.CaptureFault.{CaptureFault}
use Rattle.df1_capture.specs.declared.capture.CaptureFault.TheVariants as fault
use Rattle.df1_capture.specs.Captures.{IsWhole}
use Rattle.df1_capture.specs.Counted.{CheckEnd, CountEnd, CountedPiece, ToldCounts}
use Rattle.df1_capture.proofs.HeardSoFar.{same-rose}

-- ---- the whole input

-- these bytes were taken
pub record SoFar (of : Side) (check : Check) (left left' : Option (List ℕ)) (r : Reading) : Type 0 where
  pub bytes : List ℕ
  pub stands : StandsFor of check bytes r
  pub took : Took left left' bytes

pub none-so-far : (of : Side) (check : Check) (left : Option (List ℕ)) (r : Reading) → StandsFor of check [] r → SoFar of check left left r
none-so-far of check left r stands = record { bytes = []; stands = stands; took = Consumes-nil left }

size-of : (of : Side) (check : Check) (left left' : Option (List ℕ)) (r : Reading) (s : SoFar of check left left' r) → r.fed ≤ 268435456 → length s.bytes ≤ input_limit
size-of of check left left' r s few =
    let fed = fed-length of check s.bytes r s.stands in omega (arith, few, fed)

pub piece-so-far : (of : Side) (check : Check) (left left' left'' : Option (List ℕ)) (r r' : Reading) (piece : List ℕ) (s : SoFar of check left left' r) → Took left' left'' piece → StandsFor of check (s.bytes ++ piece) r'
    → SoFar of check left left'' r'
piece-so-far of check left left' left'' r r' piece s took stands = record { bytes = s.bytes ++ piece; stands = stands; took = Consumes-trans left left' left'' s.bytes piece s.took took }

-- a piece at which it ended
pub piece-ended : (of : Side) (check : Check) (left left' left'' : Option (List ℕ)) (input input' input'' : ℕ) (r r' : Reading) (piece : List ℕ) (why : CaptureFault) (s : SoFar of check left left' r) → Took left' left'' piece
    → length piece ≤ 4096 → input' ≡ input → input'' ≡ input' → CountedPiece of check s.bytes piece r' (Err why) → CountEnd of check left left'' input input'' r' (Err why)
piece-ended of check left left' left'' input input' input'' r r' piece fault.Input s took few calm calm' end = absurd end
piece-ended of check left left' left'' input input' input'' r r' piece fault.Output s took few calm calm' end = absurd end
piece-ended of check left left' left'' input input' input'' r r' piece fault.TooLong s took few calm calm' end =
    let front = end.0 in
    let o = end.1 in
    let split : s.bytes ++ piece ≡ (s.bytes ++ front) ++ o.over = ap (λ (l : List ℕ). s.bytes ++ l) o.whole ∙ sym (append_assoc s.bytes front o.over) in (
      (
        s.bytes ++ front,
        record {
          over = o.over;
          took = subst (λ (l : List ℕ). Took left left'' l) split (Consumes-trans left left' left'' s.bytes piece s.took took);
          all = o.all;
          some = o.some;
          few = omega (arith, few, ap length o.whole, length-append front o.over);
        },
      ),
      calm' ∙ calm,
    )

-- a read that failed
pub read-failed : (of : Side) (check : Check) (left left' left'' : Option (List ℕ)) (input input' input'' : ℕ) (r : Reading) (s : SoFar of check left left' r) → r.fed ≤ 268435456 → Keeps left' left'' → input' ≡ input → Rose input' input''
    → CountEnd of check left left'' input input'' r (Err fault.Input)
read-failed of check left left' left'' input input' input'' r s few kept calm rose =
    ((s.bytes, record { took = Consumes-kept left left' left'' s.bytes s.took kept; few = size-of of check left left' r s few }), same-rose input input' input'' calm rose)

-- the end of the input
pub all-counted : (of : Side) (check : Check) (left left' left'' : Option (List ℕ)) (input input' input'' : ℕ) (r : Reading) (s : SoFar of check left left' r) → r.fed ≤ 268435456 → Took left' left'' [] → IsAtEnd left'' → input' ≡ input → input'' ≡ input'
    → CountEnd of check left left'' input input'' r (Ok tt)
all-counted of check left left' left'' input input' input'' r s few took end calm calm' = (
  (
    s.bytes,
    record {
      took = subst (λ (l : List ℕ). Took left left'' l) (append-nil s.bytes) (Consumes-trans left left' left'' s.bytes [] s.took took);
      end = end;
      few = size-of of check left left' r s few;
    },
    s.stands,
  ),
  calm' ∙ calm,
)

-- ---- the line

-- the input was counted, and then the counts were told
pub told-counts : (of : Side) (check : Check) (left left' : Option (List ℕ)) (input input' : ℕ) (held held' : Option (List ℕ)) (out out' : ℕ) (bytes : List ℕ) (result : Result Bool CaptureFault) → IsWhole left left' bytes → input' ≡ input
    → ToldCounts of check bytes held held' out out' result → CheckEnd of check left left' input input' held held' out out' result
told-counts of check left left' input input' held held' out out' bytes (Ok faulty) whole calm told =
    let t = told.0 in
    (record { bytes = bytes; heard = t.0; bad = t.1; begun = t.2; input = whole; counts = t.3; put = t.4; faulty_is = t.5 }, calm, told.1)
told-counts of check left left' input input' held held' out out' bytes (Err fault.Input) whole calm told = absurd told
told-counts of check left left' input input' held held' out out' bytes (Err fault.Output) whole calm told =
    let t = told.0 in
    (record { bytes = bytes; heard = t.0; bad = t.1; begun = t.2; input = whole; counts = t.3; part = t.4 }, told.1, calm)
told-counts of check left left' input input' held held' out out' bytes (Err fault.TooLong) whole calm told = absurd told
