-- An event at the master, by what its steps do there.
use Rattle.outset.proofs.IssuedPayloads.{payload-issues}
use Rattle.half_line.specs.Behind.{behind}
use Rattle.half_line.proofs.Steps.MasterSteps.{gives-lines, ticks-lines}
use Rattle.half_line.proofs.Steps.LinkSteps.{on_ok}
use Rattle.half_line.proofs.deal.deal_at_master.Goals as goal

pub issue-requires : goal.issue-requires
issue-requires g c =
    let possible = rw c.in-Issue.is at c.requires.possible.1 in
    let unspent = rw c.in-Issue.is at c.requires.unspent in
    rw c.as_slice.ensures (payload-issues (g.H.MasterHost.node c.args.master.now.host).initiator c.in-Issue.payload possible.2 unspent)

pub returns-in-Take-clause-lines : goal.returns-in-Take-clause-lines
returns-in-Take-clause-lines g c =
    rw c.in-Take.is (on_ok c.give.result (gives-lines (behind g.H.Host g.H.MasterHost) c.in-Take.n c.args.master.now c.args.lines.now c.give.new.lines) c.give.ensures.lines)

pub returns-in-Tick-clause-lines : goal.returns-in-Tick-clause-lines
returns-in-Tick-clause-lines g c =
    rw c.in-Tick.is (on_ok c.pass.result (ticks-lines (behind g.H.Host g.H.MasterHost) c.in-Tick.n c.args.master.now c.args.lines.now c.pass.new.lines) c.pass.ensures.lines)
