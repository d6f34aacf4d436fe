-- One event more, and all of them.
use Rattle.std.proofs.Common.{◌∙◌, [], ◌∷◌, ◌++◌, take, ap, sym, subst}
use Rattle.std.proofs.lemmas.List.{take_more, take_all}
use Rattle.script_parts.specs.declared.script.Event.{Event}
use Rattle.line_world.specs.declared.world.World.{World}
use Rattle.line_world.specs.Runs.{AreNext, all_played, played}
use Rattle.line_world.proofs.EitherMode.{events-next}
use Rattle.line_world.proofs.Standing.{all-behind}
use Rattle.line_world.proofs.world.World.step_all.Goals as goal

pub step-requires : goal.step-requires
step-requires c =
    let left = events-next c.args.events.now c.loop-event.event-index c.event-item.result c.loop-event-test.true c.event-item.is in
    (subst (AreNext c.loop-event.self) left c.loop-event.invariant.next).0

pub loop-event-preserved : goal.loop-event-preserved
loop-event-preserved c =
    let events = c.args.events.now in
    let i = c.loop-event.event-index in
    let e = c.event-item.result in
    let first = c.args.self.now in
    let left = events-next events i e c.loop-event-test.true c.event-item.is in
    rw c.in_ok-step.ensures.ok (record {
      world =
          ap (λ (w : World). played w e) c.loop-event.invariant.world ∙ sym (all-behind first (take i events) (e ∷ []))
          ∙ ap (all_played first) (ap (λ (x : Event). take i events ++ x ∷ []) c.event-item.is ∙ sym (take_more events i e c.loop-event-test.true));
      next = (subst (AreNext c.loop-event.self) left c.loop-event.invariant.next).1;
    })

pub returns : goal.returns
returns c = c.loop-event.invariant.world ∙ ap (all_played c.args.self.now) (take_all c.loop-event.event-index c.args.events.now c.loop-event-test.false)
