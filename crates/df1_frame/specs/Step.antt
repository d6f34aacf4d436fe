-- What a decoder's value is after one byte more, and what is heard at it.
use Rattle.std.specs.Prelude.{ℕ, ◌+◌, [], ◌∷◌, ◌++◌, length, Option, Some, None, nat_lt, ◌==◌, if◌then◌else◌}
use Rattle.df1_check.specs.declared.Check.{Check}
use Rattle.df1_frame.specs.declared.heard.Heard.{Heard}
use Rattle.df1_frame.specs.declared.heard.Heard.TheVariants as heard
use Rattle.df1_frame.specs.Spelling.{response, check_len}
use Rattle.df1_frame.specs.Grammar.{stray_pair_heard}
use Rattle.df1_frame.specs.Gathered.{Gathered, nothing_gathered, gather, close, verdict}
use Rattle.df1_frame.specs.Standing.{Standing, Outside, Ended, AfterDle, Inside, InsideDle, AtCheck, Decoding}

-- after the last check byte
abbrev pub left_by : Gathered → Standing
left_by so_far = if so_far.long then Outside else Ended so_far.bytes

-- outside a frame
abbrev pub outside_next : ℕ → Standing × Option Heard
outside_next b = if b == 16 then (AfterDle, None) else (Outside, Some (heard.Stray b))

-- inside a frame after a DLE: a response goes on, and anything else breaks the frame
abbrev pub response_next : Gathered → ℕ → Option Heard → Standing × Option Heard
response_next so_far b None = (Outside, Some (heard.Broken b))
response_next so_far b (Some h) = (Inside so_far, Some h)

abbrev pub step : Check → ℕ → Standing → ℕ → Standing × Option Heard
step check N Outside b = outside_next b
step check N (Ended body) b = outside_next b
step check N AfterDle b = if b == 2 then (Inside (nothing_gathered check), None) else (Outside, Some (stray_pair_heard (response b) b))
step check N (Inside so_far) b = if b == 16 then (InsideDle so_far, None) else (Inside (gather N so_far b), None)
step check N (InsideDle so_far) b =
    if b == 2 then (Inside (nothing_gathered check), Some heard.Restart)
    else (if b == 3 then (AtCheck (close check so_far) [], None)
    else (if b == 16 then (Inside (gather N so_far 16), None)
    else response_next so_far b (response b)))
step check N (AtCheck so_far bytes) b =
    if nat_lt (length bytes + 1) (check_len check)
    then (AtCheck so_far (bytes ++ b ∷ []), None)
    else (left_by so_far, Some (verdict check so_far (bytes ++ b ∷ [])))

-- a decoder's value after one byte more, and what is heard at it
abbrev pub next : ℕ → Decoding → ℕ → Decoding × Option Heard
next N d b = let to = step d.check N d.standing b in (record { check = d.check; standing = to.0 }, to.1)
