-- The events so far are done, and the others may happen.
use Rattle.std.proofs.Common.{◌≡◌, take, drop}
use Rattle.half_route.specs.Run.{after_events, begun}
use Rattle.half_route.proofs.EventsToCome.{AreNext}
use Rattle.half_route.proofs.running.route.Given as goal

abbrev pub invariant-loop-event : goal.invariant-loop-event
invariant-loop-event l = record {
  world : l.world ≡ after_events (begun l.script.script) (take l.event-index l.event-items);
  next : AreNext l.world (drop l.event-index l.event-items);
}
