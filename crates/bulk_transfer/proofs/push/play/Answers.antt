-- One order more.
use Rattle.std.proofs.Common.{◌≡◌, ◌∙◌, ◌/◌, ◌+◌, ◌≤◌, length, sym, ap₂, subst, arith, ap}
use Rattle.bulk_orders.specs.Orders.{orders_of, push_payload}
use Rattle.duplex_line.specs.Run.{plan_of_b}
use Rattle.line_world.specs.declared.world.World.{World}
use Rattle.line_world.specs.Runs.{IsNext, played}
use Rattle.line_world.proofs.Standing.{all-next}
use Rattle.bulk_transfer.specs.Rehearsal.{order_event, push_script}
use Rattle.bulk_transfer.proofs.Playing.{push-played}
use Rattle.bulk_transfer.proofs.ToCome.{Plays, order-is, plays-first, plays-more, plays-next}
use Rattle.bulk_transfer.proofs.push.play.Goals as goal

pub loop-j-init : goal.loop-j-init
loop-j-init c =
    plays-first c.args.script.now (push_payload c.args.file c.args.bytes.now) (orders_of (length c.args.bytes.now / 2)) c.in_ok-world.world c.in_ok-world.ensures
    (all-next (push_script c.args.script.now c.args.file c.args.bytes.now) (push-played c.args.script.now c.args.file c.args.bytes.now c.requires.script c.requires.words.1))

pub issue-requires : goal.issue-requires
issue-requires c =
    let within : c.loop-j.j ≤ orders_of (length c.args.bytes.now / 2) = omega (arith, c.loop-j-test.true, c.order_count-j-end.ensures.count) in
    let payload : c.deref.result.now ≡ push_payload c.args.file c.args.bytes.now c.loop-j.j = c.deref.ensures.0 ∙ c.push_order.ensures.order ∙ order-is (push_payload c.args.file c.args.bytes.now c.loop-j.j) (length c.args.bytes.now / 2) c.loop-j.j c.loop-j.auto.j within in
    let order : order_event c.node_of_b-node.result c.deref.result.now ≡ order_event (plan_of_b c.args.script.now).node (push_payload c.args.file c.args.bytes.now c.loop-j.j) = ap₂ order_event c.node_of_b-node.ensures payload in
    subst (IsNext c.loop-j.world) (sym order) (plays-next c.args.script.now (push_payload c.args.file c.args.bytes.now) (orders_of (length c.args.bytes.now / 2)) c.loop-j.world c.loop-j.j c.loop-j.invariant within)

pub loop-j-preserved : goal.loop-j-preserved
loop-j-preserved c =
    let within : c.loop-j.j ≤ orders_of (length c.args.bytes.now / 2) = omega (arith, c.loop-j-test.true, c.order_count-j-end.ensures.count) in
    let payload : c.deref.result.now ≡ push_payload c.args.file c.args.bytes.now c.loop-j.j = c.deref.ensures.0 ∙ c.push_order.ensures.order ∙ order-is (push_payload c.args.file c.args.bytes.now c.loop-j.j) (length c.args.bytes.now / 2) c.loop-j.j c.loop-j.auto.j within in
    let order : order_event c.node_of_b-node.result c.deref.result.now ≡ order_event (plan_of_b c.args.script.now).node (push_payload c.args.file c.args.bytes.now c.loop-j.j) = ap₂ order_event c.node_of_b-node.ensures payload in
    subst (λ (w : World). Plays c.args.script.now (push_payload c.args.file c.args.bytes.now) (orders_of (length c.args.bytes.now / 2)) w (c.loop-j.j + 1)) (sym (c.in_ok-issue.ensures ∙ ap (played c.loop-j.world) order))
    (plays-more c.args.script.now (push_payload c.args.file c.args.bytes.now) (orders_of (length c.args.bytes.now / 2)) c.loop-j.world c.loop-j.j c.loop-j.invariant within)
