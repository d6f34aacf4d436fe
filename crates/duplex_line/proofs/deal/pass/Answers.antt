use Rattle.std.proofs.Common.{◌++◌, ◌-◌, ◌∙◌, List, ap, append_assoc, append-nil, sym}
use Rattle.replay_report.specs.declared.record.Line.{Line}
use Rattle.duplex_line.specs.Acts.{Tick}
use Rattle.each_once.proofs.CountedUp.{repeat-next}
use Rattle.duplex_line.proofs.Steps.UnitSteps.{still, still-silent}
use Rattle.duplex_line.proofs.deal.pass.Goals as goal

pub loop-preserved : goal.loop-preserved
loop-preserved c =
    let next = repeat-next Tick c.args.n c.loop.counter c.loop-test.true in
    record {
      near = rw c.in_ok-tick.ensures.near (rw next at c.loop.invariant.near);
      lines = rw (c.in_ok-tick.ensures.lines, c.in_ok-tick.ensures.near, append_assoc) (rw next at c.loop.invariant.lines);
    }

pub returns-then-not-counts_ticks-clause-near : goal.returns-then-not-counts_ticks-clause-near
returns-then-not-counts_ticks-clause-near c =
    let idle = c.counts_ticks.ensures.still c.if-not-counts_ticks.true in
    sym (still Tick c.loop.near idle.0 (c.args.n - c.loop.counter)) ∙ c.loop.invariant.near

pub returns-then-not-counts_ticks-clause-lines : goal.returns-then-not-counts_ticks-clause-lines
returns-then-not-counts_ticks-clause-lines c =
    let idle = c.counts_ticks.ensures.still c.if-not-counts_ticks.true in
    let silent = still-silent c.args.who Tick c.loop.near idle.0 (idle.1 c.args.who) (c.args.n - c.loop.counter) in
    sym (append-nil c.loop.lines) ∙ ap (λ (lines : List Line). c.loop.lines ++ lines) (sym silent) ∙ c.loop.invariant.lines
