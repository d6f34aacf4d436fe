use Rattle.std.proofs.Common.{◌+◌, ◌∙◌, ap, drop, map, arith}
use Rattle.duplex_line.specs.Acts.{LineState, Foreign, after_deeds}
use Rattle.each_once.proofs.CountedUp.{drop-next}
use Rattle.duplex_line.proofs.Steps.EventSteps.{foreign-one, foreign-lines-one}
use Rattle.duplex_line.proofs.deal.intrude.Goals as goal

pub loop-byte-preserved : goal.loop-byte-preserved
loop-byte-preserved c =
    let next = drop-next c.args.bytes.now c.loop-byte.byte-index c.loop-byte-test.true in
    let rest = map Foreign (drop (c.loop-byte.byte-index + 1) c.args.bytes.now) in
    record {
      state = λ near. ap (λ (t : LineState). after_deeds t rest) (foreign-one near _ _ _ _ _ _ c.bare-cell.ensures c.in_ok-arrive.ensures.side c.in_ok-arrive.ensures.deceived) ∙ (rw next at (c.loop-byte.invariant.state near));
      lines = λ from near. foreign-lines-one from c.args.to near _ _ _ _ _ _ rest _ _ c.bare-cell.ensures c.in_ok-arrive.ensures.side c.in_ok-arrive.ensures.deceived c.in_ok-arrive.ensures.lines ∙ (rw next at (c.loop-byte.invariant.lines from near));
      few = omega (arith, c.arrive.ensures.few);
    }
