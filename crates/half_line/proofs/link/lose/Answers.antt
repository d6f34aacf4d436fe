-- Losses, one after another.
use Rattle.std.proofs.Common.{◌≡◌, ◌-◌, ◌∙◌, sym, ap, None}
use Rattle.std.specs.Prelude.{slice_get}
use Rattle.half_line.specs.Behind.{behind}
use Rattle.half_line.specs.Acts.{LineStationState, OnLane, Lose, lane_of, link_state}
use Rattle.each_once.proofs.CountedUp.{repeat-next}
use Rattle.half_line.proofs.Steps.LinkSteps.{leave-none, loses-none}
use Rattle.half_line.proofs.link.lose.Goals as goal

pub loop-preserved : goal.loop-preserved
loop-preserved g c master deceived = rw (c.keep.ensures, c.leave.ensures.state) (rw (repeat-next (OnLane c.args.way Lose) c.args.n c.loop.counter c.loop-test.true) at (c.loop.invariant master deceived))

pub returns-in_default : goal.returns-in_default
returns-in_default g c master deceived =
    let nothing : slice_get (lane_of c.args.way c.loop.side) 0 ≡ None = sym c.leave.ensures.cell ∙ c.in_default.is in
    ap (λ (side : LineStationState). link_state master side deceived) (c.leave.ensures.state ∙ leave-none c.args.way c.loop.side nothing)
    ∙ sym (loses-none (behind g.H.Host g.H.MasterHost) c.args.way (c.args.n - c.loop.counter) (link_state master c.loop.side deceived) nothing)
    ∙ c.loop.invariant master deceived
