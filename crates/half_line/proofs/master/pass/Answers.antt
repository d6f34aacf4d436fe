-- Ticks at the master, one after another.
use Rattle.std.proofs.Common.{append_assoc}
use Rattle.half_line.specs.Acts.{Tick}
use Rattle.each_once.proofs.CountedUp.{repeat-next}
use Rattle.half_line.proofs.master.pass.Goals as goal

pub loop-preserved : goal.loop-preserved
loop-preserved g c =
    let next = repeat-next Tick c.args.n c.loop.counter c.loop-test.true in
    record {
      state = λ stations deceived. rw c.in_ok-tick.ensures.master (rw next at (c.loop.invariant.state stations deceived));
      lines = rw (c.in_ok-tick.ensures.lines, c.in_ok-tick.ensures.master, append_assoc) (rw next at c.loop.invariant.lines);
    }
