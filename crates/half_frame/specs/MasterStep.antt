-- What the master's ear is after one byte more, and what is heard at it.
use Rattle.std.specs.Prelude.{ℕ, [], Option, Some, None, ◌==◌, if◌then◌else◌}
use Rattle.df1_check.specs.declared.Check.{Check}
use Rattle.half_frame.specs.declared.heard.MasterHeard.{MasterHeard}
use Rattle.half_frame.specs.declared.heard.MasterHeard.TheVariants as heard
use Rattle.half_frame.specs.TextStep.{Onward, Goes, Ends, Breaks, begun, text_step}
use Rattle.half_frame.specs.MasterGrammar.{pair_heard}
use Rattle.half_frame.specs.MasterStanding.{Standing, Outside, Ended, AfterDle, AtText, Listening}

-- outside
abbrev pub outside_next : ℕ → Standing × Option MasterHeard
outside_next b = if b == 16 then (AfterDle, None) else (Outside, Some (heard.Stray b))

-- after a pair with this code, which ended what was there
abbrev pub begun_by : Check → ℕ → Standing
begun_by check code = if code == 2 then AtText (begun check []) else Outside

-- after a pair outside
abbrev pub pair_next : Check → ℕ → Standing × Option MasterHeard
pair_next check code = if code == 2 then (AtText (begun check []), None) else (Outside, Some (pair_heard code))

-- after what a byte of a text led to
abbrev pub text_next : Check → Onward → Standing × Option MasterHeard
text_next check (Goes to) = (AtText to, None)
text_next check (Ends right so_far) = (if right then Ended so_far.bytes else Outside, Some (if right then heard.Good else heard.Damaged))
text_next check (Breaks code) = (begun_by check code, Some heard.Damaged)

abbrev pub step : Check → ℕ → Standing → ℕ → Standing × Option MasterHeard
step check N Outside b = outside_next b
step check N (Ended body) b = outside_next b
step check N AfterDle b = pair_next check b
step check N (AtText at) b = text_next check (text_step check N at b)

-- an ear's value after one byte more, and what is heard at it
abbrev pub next : ℕ → Listening → ℕ → Listening × Option MasterHeard
next N ear b = let to = step ear.check N ear.standing b in (record { check = ear.check; standing = to.0 }, to.1)
