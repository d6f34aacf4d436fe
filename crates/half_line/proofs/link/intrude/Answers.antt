-- Foreign bytes, one after another.
use Rattle.std.proofs.Common.{◌+◌, ◌∙◌, ap, drop, map, arith}
use Rattle.half_line.specs.Behind.{behind}
use Rattle.half_line.specs.Acts.{LinkState, OnLane, Foreign, link_state}
use Rattle.half_line.specs.Steps.{after_link_deeds}
use Rattle.each_once.proofs.CountedUp.{drop-next}
use Rattle.half_line.proofs.Steps.LinkSteps.{foreign-arrived, foreign-lines}
use Rattle.half_line.proofs.link.intrude.Goals as goal

pub loop-byte-preserved : goal.loop-byte-preserved
loop-byte-preserved g c =
    let way = c.args.way in
    let next = drop-next c.args.bytes.now c.loop-byte.byte-index c.loop-byte-test.true in
    let rest = map (λ byte. OnLane way (Foreign byte)) (drop (c.loop-byte.byte-index + 1) c.args.bytes.now) in
    let s : LinkState g.row.H.Denot = link_state c.loop-byte.master c.loop-byte.side c.loop-byte.reported.deceived in
    record {
      state = ap (λ (t : LinkState g.row.H.Denot). after_link_deeds (behind g.H.Host g.H.MasterHost) t rest) (foreign-arrived (behind g.H.Host g.H.MasterHost) way s _ _ _ c.bare-cell.ensures c.in_ok-arrive.ensures.state) ∙ (rw next at c.loop-byte.invariant.state);
      lines = foreign-lines (behind g.H.Host g.H.MasterHost) way s _ _ _ rest _ _ c.bare-cell.ensures c.in_ok-arrive.ensures.state c.in_ok-arrive.ensures.lines ∙ (rw next at c.loop-byte.invariant.lines);
      few = omega (arith, c.arrive.ensures.few);
    }
