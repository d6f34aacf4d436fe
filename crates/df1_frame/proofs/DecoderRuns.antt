-- A decoder at the bytes of a run, and what is heard over the whole of it.
use Rattle.std.proofs.Common.{◌≡◌, ◌≢◌, ℕ, List, None, Some, take, refl}
use Rattle.std.proofs.lemmas.Bool.{ne_eqb}
use Rattle.df1_check.specs.declared.Check.{Check}
use Rattle.df1_frame.specs.declared.heard.Heard.TheVariants as heard
use Rattle.df1_frame.specs.Gathered.{Gathered, gather}
use Rattle.df1_frame.specs.Standing.{Standing, Outside, Ended, AfterDle, Inside, InsideDle, AtCheck, Decoding, is_inside}
use Rattle.df1_frame.specs.Step.{next}
use Rattle.df1_frame.specs.Runs.{heard_in_run, plain_len, run_len, steps}
use Rattle.df1_frame.proofs.RunLemmas.{run-inside, run-outside}

abbrev pub placed : Check → Standing → Decoding
placed check standing = record { check = check; standing = standing }

-- ---- at one byte

pub each-outside : (N : ℕ) (check : Check) (b : ℕ) → b ≢ 16 → next N (placed check Outside) b ≡ (placed check Outside, Some (heard.Stray b))
each-outside N check b plain = rw (ne_eqb b 16 plain) refl

pub each-ended : (N : ℕ) (check : Check) (body : List ℕ) (b : ℕ) → b ≢ 16 → next N (placed check (Ended body)) b ≡ (placed check Outside, Some (heard.Stray b))
each-ended N check body b plain = rw (ne_eqb b 16 plain) refl

pub each-inside : (N : ℕ) (check : Check) (so_far : Gathered) (b : ℕ) → b ≢ 16 → next N (placed check (Inside so_far)) b ≡ (placed check (Inside (gather N so_far b)), None)
each-inside N check so_far b plain = rw (ne_eqb b 16 plain) refl

-- ---- over a run

pub run-heard : (N : ℕ) (check : Check) (standing : Standing) (bytes : List ℕ) → let run : List ℕ = take (run_len standing bytes) bytes in
    (steps (next N) (placed check standing) run).1 ≡ heard_in_run heard.Stray (is_inside standing) run
run-heard N check Outside bytes = run-outside (next N) (λ b. Some (heard.Stray b)) (placed check Outside) (placed check Outside) (each-outside N check) (each-outside N check) (plain_len bytes) bytes refl
run-heard N check (Ended body) bytes = run-outside (next N) (λ b. Some (heard.Stray b)) (placed check (Ended body)) (placed check Outside) (each-ended N check body) (each-outside N check) (plain_len bytes) bytes refl
run-heard N check AfterDle bytes = refl
run-heard N check (Inside so_far) bytes = run-inside (next N) (λ b. None) N (λ (g : Gathered). placed check (Inside g)) (each-inside N check) so_far (plain_len bytes) bytes refl
run-heard N check (InsideDle so_far) bytes = refl
run-heard N check (AtCheck so_far check_bytes) bytes = refl
