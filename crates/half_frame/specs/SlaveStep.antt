-- What a slave's ear is after one byte more, and what is heard at it.
use Rattle.std.specs.Prelude.{ℕ, Option, Some, None, ◌==◌, if◌then◌else◌}
use Rattle.df1_check.specs.declared.Check.{Check}
use Rattle.half_frame.specs.declared.heard.SlaveHeard.{SlaveHeard}
use Rattle.half_frame.specs.declared.heard.SlaveHeard.TheVariants as heard
use Rattle.half_frame.specs.Spelling.{station_head}
use Rattle.half_frame.specs.TextStep.{Onward, Goes, Ends, Breaks, begun, text_step}
use Rattle.half_frame.specs.SlaveGrammar.{pair_heard, poll_heard}
use Rattle.half_frame.specs.SlaveStanding.{Standing, Outside, Ended, AfterDle, AfterSoh, AfterEnq, AtPollCheck, AfterStation, AfterStationDle, AtText, Listening}

-- outside
abbrev pub outside_next : ℕ → Standing × Option SlaveHeard
outside_next b = if b == 16 then (AfterDle, None) else (Outside, Some (heard.Stray b))

-- after a pair with this code, which ended what was there
abbrev pub begun_by : ℕ → Standing
begun_by code = if code == 1 then AfterSoh else (if code == 5 then AfterEnq else Outside)

-- after a pair outside
abbrev pub pair_next : ℕ → Standing × Option SlaveHeard
pair_next code = if code == 1 then (AfterSoh, None) else (if code == 5 then (AfterEnq, None) else (Outside, Some (pair_heard code)))

-- after what a byte of a text led to
abbrev pub text_next : ℕ → Onward → Standing × Option SlaveHeard
text_next stn (Goes to) = (AtText stn to, None)
text_next stn (Ends right so_far) = (if right then Ended so_far.bytes else Outside, Some (if right then heard.Addressed stn else heard.Damaged stn))
text_next stn (Breaks code) = (begun_by code, Some (heard.Damaged stn))

-- after a station
abbrev pub station_next : ℕ → ℕ → Standing × Option SlaveHeard
station_next stn b = if b == 16 then (AfterStationDle stn, None) else (Outside, Some (heard.Damaged stn))

-- after a station and a DLE
abbrev pub header_next : Check → ℕ → ℕ → Standing × Option SlaveHeard
header_next check stn b =
    if b == 2
    then (AtText stn (begun check (station_head check stn)), Some (heard.Header stn))
    else (begun_by b, Some (heard.Damaged stn))

abbrev pub step : Check → ℕ → Standing → ℕ → Standing × Option SlaveHeard
step check N Outside b = outside_next b
step check N (Ended body) b = outside_next b
step check N AfterDle b = pair_next b
step check N AfterSoh b = (AfterStation b, None)
step check N AfterEnq b = (AtPollCheck b, None)
step check N (AtPollCheck stn) b = (Outside, Some (poll_heard stn b))
step check N (AfterStation stn) b = station_next stn b
step check N (AfterStationDle stn) b = header_next check stn b
step check N (AtText stn at) b = text_next stn (text_step check N at b)

-- an ear's value after one byte more, and what is heard at it
abbrev pub next : ℕ → Listening → ℕ → Listening × Option SlaveHeard
next N ear b = let to = step ear.check N ear.standing b in (record { check = ear.check; standing = to.0 }, to.1)
