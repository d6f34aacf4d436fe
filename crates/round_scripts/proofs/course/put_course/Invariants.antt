-- The events of the steps so far.
use Rattle.std.proofs.Common.{◌≡◌, ◌++◌, map, take}
use Rattle.round_scripts.specs.Rounds.{event_of}
use Rattle.round_scripts.proofs.course.put_course.Given as goal

abbrev pub invariant-loop-step : goal.invariant-loop-step
invariant-loop-step l = l.events ≡ l.fn.events ++ map event_of (take l.step-index l.course)
