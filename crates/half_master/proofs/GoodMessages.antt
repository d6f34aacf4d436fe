-- A message that is heard as good has at least 6 bytes.
use Rattle.std.proofs.Common.{◌≡◌, ℕ, ◌+◌, ◌≤◌, Bool, true, false, [], ◌∷◌, ◌++◌, length, nat_lt, Option, Some, refl, arith}
use Rattle.std.proofs.lemmas.Bool.{cond_both}
use Rattle.std.proofs.lemmas.Bool.Decides.{nat_tests}
use Rattle.std.specs.Prelude.{◌||◌, ◌==◌, if◌then◌else◌}
use Rattle.df1_check.specs.declared.Check.{Check}
use Rattle.df1_frame.specs.declared.heard.Heard.TheVariants as told
use Rattle.df1_frame.specs.Gathered.{Gathered, verdict}
use Rattle.df1_frame.specs.Spelling.{same, check_bytes, check_len}
use Rattle.half_frame.specs.declared.heard.MasterHeard.{MasterHeard}
use Rattle.half_frame.specs.declared.heard.MasterHeard.TheVariants as heard
use Rattle.half_frame.specs.TextStep.{Within, Inside, InsideDle, AtCheck, Onward, Ends, is_good, text_step}
use Rattle.half_frame.specs.MasterGrammar.{pair_heard}
use Rattle.half_frame.specs.MasterStanding.{Standing, Outside, Ended, AfterDle, AtText, Listening, lent_at}
use Rattle.half_frame.specs.MasterStep.{outside_next, text_next, step, next}

abbrev AtLeast6 : Standing × Option MasterHeard → Type 0
AtLeast6 to = to.1 ≡ Some heard.Good → 6 ≤ length (lent_at to.0)

outside-6 : (b : ℕ) → AtLeast6 (outside_next b)
outside-6 b = cond_both (b == 16) _ _ AtLeast6 (λ is good. absurd cc) (λ is good. absurd cc)

pair-never : (code : ℕ) → pair_heard code ≡ heard.Good → ⊥
pair-never code =
    let Never : MasterHeard → Type 0 = λ h. h ≡ heard.Good → ⊥ in
    cond_both (code == 6) _ _ Never (λ is good. cc) (λ other. cond_both ((code == 21) || (code == 15)) _ _ Never (λ is good. cc) (λ more. cond_both (code == 4) _ _ Never (λ is good. cc) (λ is good. cc)))

verdict-6 : (long right short : Bool) (n : ℕ) → nat_lt n 6 ≡ short
    → is_good (if long then told.Long else (if right then (if short then told.Short else told.Good) else told.BadCheck)) ≡ true → 6 ≤ n
verdict-6 true right short n is good = absurd cc
verdict-6 false true true n is good = absurd cc
verdict-6 false true false n is good = grind (arith, nat_tests)
verdict-6 false false short n is good = absurd cc

ends-6 : (check : Check) (so_far : Gathered) (right : Bool) → (right ≡ true → 6 ≤ length so_far.bytes) → AtLeast6 (text_next check (Ends right so_far))
ends-6 check so_far true least good = least refl
ends-6 check so_far false least good = absurd cc

text-6 : (check : Check) (at : Within) (b : ℕ) → AtLeast6 (text_next check (text_step check 250 at b))
text-6 check (Inside so_far) b = cond_both (b == 16) _ _ (λ (x : Onward). AtLeast6 (text_next check x)) (λ is good. absurd cc) (λ is good. absurd cc)
text-6 check (InsideDle so_far) b =
    let P : Onward → Type 0 = λ x. AtLeast6 (text_next check x) in
    cond_both (b == 3) _ _ P (λ is good. absurd cc) (λ other. cond_both (b == 16) _ _ P (λ is good. absurd cc) (λ is good. absurd cc))
text-6 check (AtCheck so_far bytes) b =
    cond_both (nat_lt (length bytes + 1) (check_len check)) _ _ (λ (x : Onward). AtLeast6 (text_next check x)) (λ is good. absurd cc)
    (λ is. ends-6 check so_far (is_good (verdict check so_far (bytes ++ b ∷ [])))
    (verdict-6 so_far.long (same (bytes ++ b ∷ []) (check_bytes check so_far.running.value)) (nat_lt (length so_far.bytes) 6) (length so_far.bytes) refl))

step-6 : (check : Check) (s : Standing) (b : ℕ) → AtLeast6 (step check 250 s b)
step-6 check Outside b = outside-6 b
step-6 check (Ended body) b = outside-6 b
step-6 check AfterDle b = cond_both (b == 2) _ _ AtLeast6 (λ is good. absurd cc) (λ is good. absurd (pair-never b cc))
step-6 check (AtText at) b = text-6 check at b

pub good-6 : (ear : Listening) (b : ℕ) → (next 250 ear b).1 ≡ Some heard.Good → 6 ≤ length (lent_at (next 250 ear b).0.standing)
good-6 ear b good = step-6 ear.check ear.standing b good
