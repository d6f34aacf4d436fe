-- One order more.
use Rattle.std.proofs.Common.{◌≡◌, ◌∙◌, ◌+◌, ◌≤◌, sym, ap₂, subst, arith, ap}
use Rattle.bulk_orders.specs.Orders.{orders_of, pull_payload}
use Rattle.duplex_line.specs.Run.{plan_of_b}
use Rattle.line_world.specs.declared.world.World.{World}
use Rattle.line_world.specs.Runs.{IsNext, played}
use Rattle.line_world.proofs.Standing.{all-next}
use Rattle.bulk_transfer.specs.Rehearsal.{order_event, pull_script}
use Rattle.bulk_transfer.proofs.Playing.{pull-played}
use Rattle.bulk_transfer.proofs.ToCome.{Plays, order-is, plays-first, plays-more, plays-next}
use Rattle.bulk_transfer.proofs.pull.play.Goals as goal

pub loop-j-init : goal.loop-j-init
loop-j-init c =
    plays-first c.args.script.now (pull_payload c.args.file c.args.words) (orders_of c.args.words) c.in_ok-world.world c.in_ok-world.ensures
    (all-next (pull_script c.args.script.now c.args.file c.args.words) (pull-played c.args.script.now c.args.file c.args.words c.requires.script c.requires.words.1))

pub issue-requires : goal.issue-requires
issue-requires c =
    let within : c.loop-j.j ≤ orders_of c.args.words = omega (arith, c.loop-j-test.true, c.order_count-j-end.ensures.count) in
    let payload : c.deref.result.now ≡ pull_payload c.args.file c.args.words c.loop-j.j = c.deref.ensures.0 ∙ c.pull_order.ensures.order ∙ order-is (pull_payload c.args.file c.args.words c.loop-j.j) c.args.words c.loop-j.j c.loop-j.auto.j within in
    let order : order_event c.node_of_b-node.result c.deref.result.now ≡ order_event (plan_of_b c.args.script.now).node (pull_payload c.args.file c.args.words c.loop-j.j) = ap₂ order_event c.node_of_b-node.ensures payload in
    subst (IsNext c.loop-j.world) (sym order) (plays-next c.args.script.now (pull_payload c.args.file c.args.words) (orders_of c.args.words) c.loop-j.world c.loop-j.j c.loop-j.invariant within)

pub loop-j-preserved : goal.loop-j-preserved
loop-j-preserved c =
    let within : c.loop-j.j ≤ orders_of c.args.words = omega (arith, c.loop-j-test.true, c.order_count-j-end.ensures.count) in
    let payload : c.deref.result.now ≡ pull_payload c.args.file c.args.words c.loop-j.j = c.deref.ensures.0 ∙ c.pull_order.ensures.order ∙ order-is (pull_payload c.args.file c.args.words c.loop-j.j) c.args.words c.loop-j.j c.loop-j.auto.j within in
    let order : order_event c.node_of_b-node.result c.deref.result.now ≡ order_event (plan_of_b c.args.script.now).node (pull_payload c.args.file c.args.words c.loop-j.j) = ap₂ order_event c.node_of_b-node.ensures payload in
    subst (λ (w : World). Plays c.args.script.now (pull_payload c.args.file c.args.words) (orders_of c.args.words) w (c.loop-j.j + 1)) (sym (c.in_ok-issue.ensures ∙ ap (played c.loop-j.world) order))
    (plays-more c.args.script.now (pull_payload c.args.file c.args.words) (orders_of c.args.words) c.loop-j.world c.loop-j.j c.loop-j.invariant within)
