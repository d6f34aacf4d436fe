-- A slave's ear at the bytes of a run, and what is heard over the whole of it.
use Rattle.std.proofs.Common.{◌≡◌, ◌≢◌, ℕ, List, None, Some, take, refl}
use Rattle.std.proofs.lemmas.Bool.{ne_eqb}
use Rattle.df1_check.specs.declared.Check.{Check}
use Rattle.df1_frame.specs.Gathered.{Gathered, gather}
use Rattle.df1_frame.specs.Runs.{heard_in_run, plain_len, steps}
use Rattle.df1_frame.proofs.RunLemmas.{run-inside, run-outside}
use Rattle.half_frame.specs.declared.heard.SlaveHeard.TheVariants as heard
use Rattle.half_frame.specs.TextStep.{Inside, InsideDle, AtCheck}
use Rattle.half_frame.specs.SlaveStanding.{Standing, Outside, Ended, AfterDle, AfterSoh, AfterEnq, AtPollCheck, AfterStation, AfterStationDle, AtText, Listening, is_inside}
use Rattle.half_frame.specs.SlaveStep.{next}
use Rattle.half_frame.specs.Runs.{slave_run_len}

abbrev pub placed : Check → Standing → Listening
placed check standing = record { check = check; standing = standing }

-- ---- at one byte

pub each-outside : (N : ℕ) (check : Check) (b : ℕ) → b ≢ 16 → next N (placed check Outside) b ≡ (placed check Outside, Some (heard.Stray b))
each-outside N check b plain = rw (ne_eqb b 16 plain) refl

pub each-ended : (N : ℕ) (check : Check) (body : List ℕ) (b : ℕ) → b ≢ 16 → next N (placed check (Ended body)) b ≡ (placed check Outside, Some (heard.Stray b))
each-ended N check body b plain = rw (ne_eqb b 16 plain) refl

pub each-inside : (N : ℕ) (check : Check) (stn : ℕ) (so_far : Gathered) (b : ℕ) → b ≢ 16 → next N (placed check (AtText stn (Inside so_far))) b ≡ (placed check (AtText stn (Inside (gather N so_far b))), None)
each-inside N check stn so_far b plain = rw (ne_eqb b 16 plain) refl

-- ---- over a run

pub run-heard : (N : ℕ) (check : Check) (standing : Standing) (bytes : List ℕ) → let run : List ℕ = take (slave_run_len standing bytes) bytes in
    (steps (next N) (placed check standing) run).1 ≡ heard_in_run heard.Stray (is_inside standing) run
run-heard N check Outside bytes = run-outside (next N) (λ b. Some (heard.Stray b)) (placed check Outside) (placed check Outside) (each-outside N check) (each-outside N check) (plain_len bytes) bytes refl
run-heard N check (Ended body) bytes = run-outside (next N) (λ b. Some (heard.Stray b)) (placed check (Ended body)) (placed check Outside) (each-ended N check body) (each-outside N check) (plain_len bytes) bytes refl
run-heard N check (AtText stn (Inside so_far)) bytes = run-inside (next N) (λ b. None) N (λ (g : Gathered). placed check (AtText stn (Inside g))) (each-inside N check stn) so_far (plain_len bytes) bytes refl
run-heard N check AfterDle bytes = refl
run-heard N check AfterSoh bytes = refl
run-heard N check AfterEnq bytes = refl
run-heard N check (AtPollCheck stn) bytes = refl
run-heard N check (AfterStation stn) bytes = refl
run-heard N check (AfterStationDle stn) bytes = refl
run-heard N check (AtText stn (InsideDle so_far)) bytes = refl
run-heard N check (AtText stn (AtCheck so_far check_bytes)) bytes = refl
