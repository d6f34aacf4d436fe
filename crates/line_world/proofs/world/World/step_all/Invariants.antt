-- The events so far are played, and the others may happen.
use Rattle.std.proofs.Common.{◌≡◌, take, drop}
use Rattle.line_world.specs.Runs.{AreNext, all_played}
use Rattle.line_world.proofs.world.World.step_all.Given as goal

abbrev pub invariant-loop-event : goal.invariant-loop-event
invariant-loop-event l = record {
  world : l.self ≡ all_played l.fn.self (take l.event-index l.events);
  next : AreNext l.self (drop l.event-index l.events);
}
