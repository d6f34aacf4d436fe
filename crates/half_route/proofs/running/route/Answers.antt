-- One event more, and all of them; and what the run shows.
use Rattle.std.proofs.Common.{◌∙◌, refl, ap, sym, subst}
use Rattle.std.proofs.lemmas.List.{take_all}
use Rattle.replay_report.specs.declared.record.Record.{Record}
use Rattle.half_route.specs.Once.{RoutedOnce}
use Rattle.half_route.specs.Run.{after_events, begun}
use Rattle.half_route.proofs.EventsToCome.{AreNext, all-next}
use Rattle.half_route.proofs.EventByEvent.{is-record, one-after, to-come}
use Rattle.half_route.proofs.Once.RunShows.{run-shows}
use Rattle.half_route.proofs.running.route.Goals as goal

pub step-requires : goal.step-requires
step-requires c =
    let left = to-come c.as_slice-event-items.result.now c.loop-event.event-index c.event-item.result c.loop-event-test.true c.event-item.is in
    (subst (AreNext c.loop-event.world) left c.loop-event.invariant.next).0

pub loop-event-init : goal.loop-event-init
loop-event-init c = rw (c.as_slice-event-items.ensures, c.in_ok-world.ensures) (record { world = refl; next = all-next c.args.script.now.script c.requires })

pub loop-event-preserved : goal.loop-event-preserved
loop-event-preserved c =
    let events = c.as_slice-event-items.result.now in
    let i = c.loop-event.event-index in
    let e = c.event-item.result in
    let left = to-come events i e c.loop-event-test.true c.event-item.is in
    rw c.in_ok-step.ensures (record {
      world = one-after (begun c.args.script.now.script) c.loop-event.world events i e c.loop-event-test.true c.event-item.is c.loop-event.invariant.world;
      next = (subst (AreNext c.loop-event.world) left c.loop-event.invariant.next).1;
    })

pub returns : goal.returns
returns c =
    let script = c.args.script.now.script in
    let all = take_all c.loop-event.event-index c.as_slice-event-items.result.now c.loop-event-test.false ∙ c.as_slice-event-items.ensures in
    let is = c.in_ok-finish.ensures ∙ is-record script c.loop-event.world (c.loop-event.invariant.world ∙ ap (after_events (begun script)) all) in
    record {
      exact = is;
      once = λ none. subst (RoutedOnce script) (sym is) (run-shows script c.requires (ap (λ (r : Record). r.deceived) (sym is) ∙ none));
    }
