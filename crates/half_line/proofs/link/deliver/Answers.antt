-- Deliveries, one after another.
use Rattle.std.proofs.Common.{◌≡◌, ◌-◌, ◌+◌, ◌∙◌, ◌++◌, List, None, Some, sym, ap, append_assoc, append-nil, arith}
use Rattle.std.specs.Prelude.{replicate, slice_get}
use Rattle.replay_report.specs.declared.record.Line.{Line}
use Rattle.half_line.specs.Behind.{behind}
use Rattle.half_line.specs.Acts.{LineStationState, LinkState, OnLane, Deliver, lane_of, link_state}
use Rattle.half_line.specs.Steps.{after_link_deeds}
use Rattle.each_once.proofs.CountedUp.{repeat-next}
use Rattle.half_line.proofs.Steps.LinkSteps.{leave-none, delivers-none, delivers-no-lines, deliver-one, deliver-lines}
use Rattle.half_line.proofs.link.deliver.Goals as goal

pub loop-preserved : goal.loop-preserved
loop-preserved g c =
    let way = c.args.way in
    let next = repeat-next (OnLane way Deliver) c.args.n c.loop.counter c.loop-test.true in
    let s : LinkState g.row.H.Denot = link_state c.loop.master c.loop.side c.loop.reported.deceived in
    let head : slice_get (lane_of way s.side) 0 ≡ Some c.in-Some.cell = sym c.in-Some.ensures.cell in
    let rest = replicate (c.args.n - (c.loop.counter + 1)) (OnLane way Deliver) in
    let kept = ap (λ (side : LineStationState). link_state c.arrive.new.master side c.arrive.new.reported.deceived) c.keep.ensures in
    let arrived = kept ∙ (rw c.leave.ensures.state at c.in_ok-arrive.ensures.state) in
    let told = rw c.leave.ensures.state at c.in_ok-arrive.ensures.lines in
    record {
      state = ap (λ (t : LinkState g.row.H.Denot). after_link_deeds (behind g.H.Host g.H.MasterHost) t rest) (arrived ∙ sym (deliver-one (behind g.H.Host g.H.MasterHost) way s c.in-Some.cell head)) ∙ (rw next at c.loop.invariant.state);
      lines = rw (told, arrived, append_assoc)
          (ap (λ (lines : List Line). c.loop.reported.lines ++ lines) (sym (deliver-lines (behind g.H.Host g.H.MasterHost) way s c.in-Some.cell rest head)) ∙ (rw next at c.loop.invariant.lines));
      few = omega (arith, c.arrive.ensures.few);
    }

pub returns-in_default-clause-state : goal.returns-in_default-clause-state
returns-in_default-clause-state g c =
    let way = c.args.way in
    let s : LinkState g.row.H.Denot = link_state c.loop.master c.loop.side c.loop.reported.deceived in
    let nothing : slice_get (lane_of way s.side) 0 ≡ None = sym c.leave.ensures.cell ∙ c.in_default.is in
    ap (λ (side : LineStationState). link_state c.loop.master side c.loop.reported.deceived) (c.leave.ensures.state ∙ leave-none way c.loop.side nothing)
    ∙ sym (delivers-none (behind g.H.Host g.H.MasterHost) way (c.args.n - c.loop.counter) s nothing) ∙ c.loop.invariant.state

pub returns-in_default-clause-lines : goal.returns-in_default-clause-lines
returns-in_default-clause-lines g c =
    let way = c.args.way in
    let s : LinkState g.row.H.Denot = link_state c.loop.master c.loop.side c.loop.reported.deceived in
    let nothing : slice_get (lane_of way s.side) 0 ≡ None = sym c.leave.ensures.cell ∙ c.in_default.is in
    sym (append-nil c.loop.reported.lines)
    ∙ ap (λ (lines : List Line). c.loop.reported.lines ++ lines) (sym (delivers-no-lines (behind g.H.Host g.H.MasterHost) way (c.args.n - c.loop.counter) s nothing))
    ∙ c.loop.invariant.lines
