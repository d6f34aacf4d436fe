-- What bytes lead to, one after another, and the runs of them before a DLE. 16 is DLE.
use Rattle.std.specs.Prelude.{ℕ, Bool, List, [], ◌∷◌, Option, Some, None, ◌==◌, if◌then◌else◌, map}
use Rattle.std.specs.List.{position_or_len}
use Rattle.df1_frame.specs.Standing.{Standing, Outside, Ended, AfterDle, Inside, InsideDle, AtCheck}

-- the value after these bytes, and what comes of each, where it is said of one byte more
abbrev pub steps : {D A : Type 0} → (D → ℕ → D × A) → D → List ℕ → D × List A
steps next d [] = (d, [])
steps next d (b ∷ more) = ((steps next (next d b).0 more).0, (next d b).1 ∷ (steps next (next d b).0 more).1)

-- how many bytes stand before the first DLE
abbrev pub plain_len : List ℕ → ℕ
plain_len bytes = position_or_len (λ b. b == 16) bytes

-- what is heard at each byte of a run: nothing in a body, and outside each as a stray one
abbrev pub heard_in_run : {H : Type 0} → (ℕ → H) → Bool → List ℕ → List (Option H)
heard_in_run stray inside bytes = map (λ b. if inside then None else Some (stray b)) bytes

-- how many bytes a run has where a decoder stands: those before a DLE, in a body or outside a frame
abbrev pub run_len : Standing → List ℕ → ℕ
run_len Outside bytes = plain_len bytes
run_len (Ended body) bytes = plain_len bytes
run_len AfterDle bytes = 0
run_len (Inside so_far) bytes = plain_len bytes
run_len (InsideDle so_far) bytes = 0
run_len (AtCheck so_far check) bytes = 0
