use Rattle.std.proofs.Common.{◌≡◌, ◌<◌, ◌+◌, ℕ, List, ap, ◌∙◌, subst, refl, arith, length, remove}
use Rattle.df1_node.specs.Queue.{places, out_now}
use Rattle.df1_node.proofs.Ticks.{tick_out, length-removed}
use Rattle.df1_node.proofs.initiator.Initiator.tick.Goals as goal

pub loop-at-init : goal.loop-at-init
loop-at-init c = record { same = tick_out c.args.self.now.issued; rest = refl }

pub loop-at-smaller : goal.loop-at-smaller
loop-at-smaller c =
    let ps : List ℕ = places out_now c.loop-at.self.issued in
    let below : c.loop-at.at < length ps =
    subst (λ l. c.loop-at.at < l) (c.len.ensures.value ∙ ap length (c.self-in-loop-at.invariant.ordered.out ∙ ap (λ s. places out_now s.issued) c.self-in-loop-at.view_is)) c.loop-at-test.true in
    let fewer : length (remove ps c.loop-at.at) + 1 ≡ length ps = length-removed ps c.loop-at.at below in
    let new : length (places out_now c.tick_at.new.self.issued) ≡ length (remove ps c.loop-at.at) = ap length c.if-tick_at.ensures.out in
    omega arith
