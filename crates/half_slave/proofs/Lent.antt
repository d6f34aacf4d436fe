-- Where a slave's ear hears a whole message, the body that it lends has at least 6 bytes.
use Rattle.std.proofs.Common.{◌≡◌, ℕ, ◌+◌, ◌≤◌, Bool, true, false, [], ◌∷◌, ◌++◌, length, nat_lt, Option, Some, None, refl, arith}
use Rattle.std.proofs.lemmas.Bool.Decides.{nat_tests}
use Rattle.std.specs.Prelude.{◌||◌, ◌==◌, if◌then◌else◌}
use Rattle.df1_check.specs.declared.Check.{Check}
use Rattle.df1_check.specs.Checks.{bcc}
use Rattle.df1_frame.specs.declared.heard.Heard.TheVariants as frame
use Rattle.df1_frame.specs.Gathered.{Gathered}
use Rattle.df1_frame.specs.Spelling.{check_len, check_bytes, same}
use Rattle.half_frame.specs.declared.heard.SlaveHeard.{SlaveHeard}
use Rattle.half_frame.specs.declared.heard.SlaveHeard.TheVariants as heard
use Rattle.half_frame.specs.TextStep.{Inside, InsideDle, AtCheck, Onward, Ends, is_good}
use Rattle.half_frame.specs.SlaveStanding.{Standing, Outside, Ended, AfterDle, AfterSoh, AfterEnq, AtPollCheck, AfterStation, AfterStationDle, AtText, Listening, lent_at}
use Rattle.half_frame.specs.SlaveStep.{outside_next, text_next, step, next}

abbrev AtLeast6 : Standing × Option SlaveHeard → Type 0
AtLeast6 to = (stn : ℕ) → to.1 ≡ Some (heard.Addressed stn) → 6 ≤ length (lent_at to.0)

either-6 : (b : Bool) (x y : Standing × Option SlaveHeard) → AtLeast6 x → AtLeast6 y → AtLeast6 (if b then x else y)
either-6 true x y first other = first
either-6 false x y first other = other

-- a pair and a poll are no message
pair-never : (ack nak : Bool) (code stn : ℕ) → Some (if ack then heard.Ack else (if nak then heard.Reset else heard.StrayPair code)) ≡ Some (heard.Addressed stn) → ⊥
pair-never true nak code stn is = cc
pair-never false true code stn is = cc
pair-never false false code stn is = cc

poll-never : (right : Bool) (polled stn : ℕ) → Some (if right then heard.Poll polled else heard.BadPoll) ≡ Some (heard.Addressed stn) → ⊥
poll-never true polled stn is = cc
poll-never false polled stn is = cc

outside-6 : (b : ℕ) → AtLeast6 (outside_next b)
outside-6 b = either-6 (b == 16) (AfterDle, None) (Outside, Some (heard.Stray b)) (λ stn is. cc) (λ stn is. cc)

-- what a text leads to
text-either : (stn : ℕ) (b : Bool) (x y : Onward) → AtLeast6 (text_next stn x) → AtLeast6 (text_next stn y) → AtLeast6 (text_next stn (if b then x else y))
text-either stn true x y first other = first
text-either stn false x y first other = other

ends-6 : (own : ℕ) (so_far : Gathered) (long right short : Bool) → nat_lt (length so_far.bytes) 6 ≡ short
    → AtLeast6 (text_next own (Ends (is_good (if long then frame.Long else (if right then (if short then frame.Short else frame.Good) else frame.BadCheck))) so_far))
ends-6 own so_far true right short is stn same = cc
ends-6 own so_far false true true is stn same = cc
ends-6 own so_far false true false is stn same = grind (arith, nat_tests)
ends-6 own so_far false false short is stn same = cc

step-6 : (check : Check) (N : ℕ) (at : Standing) (b : ℕ) → AtLeast6 (step check N at b)
step-6 check N Outside b = outside-6 b
step-6 check N (Ended body) b = outside-6 b
step-6 check N AfterDle b =
    either-6 (b == 1) _ _ (λ stn is. cc) (either-6 (b == 5) _ _ (λ stn is. cc) (λ stn is. absurd (pair-never (b == 6) ((b == 21) || (b == 15)) b stn is)))
step-6 check N AfterSoh b = λ stn is. cc
step-6 check N AfterEnq b = λ stn is. cc
step-6 check N (AtPollCheck polled) b = λ stn is. absurd (poll-never (b == bcc (polled ∷ [])) polled stn is)
step-6 check N (AfterStation own) b = either-6 (b == 16) _ _ (λ stn is. cc) (λ stn is. cc)
step-6 check N (AfterStationDle own) b = either-6 (b == 2) _ _ (λ stn is. cc) (λ stn is. cc)
step-6 check N (AtText own (Inside so_far)) b = text-either own (b == 16) _ _ (λ stn is. cc) (λ stn is. cc)
step-6 check N (AtText own (InsideDle so_far)) b =
    text-either own (b == 3) _ _ (λ stn is. cc) (text-either own (b == 16) _ _ (λ stn is. cc) (λ stn is. cc))
step-6 check N (AtText own (AtCheck so_far bytes)) b =
    text-either own (nat_lt (length bytes + 1) (check_len check)) _ _ (λ stn is. cc)
    (ends-6 own so_far so_far.long (same (bytes ++ b ∷ []) (check_bytes check so_far.running.value)) (nat_lt (length so_far.bytes) 6) refl)

pub lent-6 : (ear : Listening) (b stn : ℕ) → (next 250 ear b).1 ≡ Some (heard.Addressed stn) → 6 ≤ length (lent_at (next 250 ear b).0.standing)
lent-6 ear b stn is = step-6 ear.check 250 ear.standing b stn is
