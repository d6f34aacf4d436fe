use Rattle.std.proofs.Common.{map}
use Rattle.std.specs.Prelude.{replicate}
use Rattle.duplex_line.specs.Acts.{LineState, Deliver, Foreign}
use Rattle.outset.proofs.IssuedPayloads.{payload-issues}
use Rattle.duplex_line.proofs.Steps.EventSteps.{on_ok, without-bytes, delivers-give-none, foreign-give-none, takes-state, takes-lines, losses-state, losses-lines, ticks-state, ticks-lines}
use Rattle.duplex_line.specs.Told.{with_sent}
use Rattle.duplex_line.proofs.Told.{behind, given}
use Rattle.duplex_line.proofs.deal.deal.Goals as goal

pub issue-requires : goal.issue-requires
issue-requires c =
    let possible = rw c.in-Issue.is at c.requires.possible in
    let unspent = rw c.in-Issue.is at c.requires.unspent in
    rw c.as_slice.ensures (payload-issues c.args.near.now.end.host.initiator c.in-Issue.payload possible.1 unspent)

pub returns-in_ok-settle-in-Take-clause-state : goal.returns-in_ok-settle-in-Take-clause-state
returns-in_ok-settle-in-Take-clause-state c =
    let s : LineState = record { a = c.args.near.now; b = c.args.far.now; deceived = c.args.reported.now.deceived } in
    rw c.in-Take.is (on_ok c.give.result (takes-state c.in-Take.n s c.give.new.near) c.give.ensures.near)

pub returns-in_ok-settle-in-Take-clause-lines : goal.returns-in_ok-settle-in-Take-clause-lines
returns-in_ok-settle-in-Take-clause-lines c =
    let s : LineState = record { a = c.args.near.now; b = c.args.far.now; deceived = c.args.reported.now.deceived } in
    let old = with_sent c.args.reported.now.lines c.args.sent.now in
    let lines = c.settle.new.lines in
    rw c.in-Take.is (on_ok c.give.result
    (λ is. takes-lines c.args.who c.in-Take.n s old (with_sent lines c.give.new.sent) (given old lines c.args.who _ c.give.new.sent c.in_ok-settle-in-Take.ensures.lines is))
    c.give.ensures.sent)

pub returns-in_ok-settle-in-Deliver-clause-lines : goal.returns-in_ok-settle-in-Deliver-clause-lines
returns-in_ok-settle-in-Deliver-clause-lines c =
    let s : LineState = record { a = c.args.near.now; b = c.args.far.now; deceived = c.args.reported.now.deceived } in
    let n = c.in-Deliver.n in
    let old = with_sent c.args.reported.now.lines c.args.sent.now in
    rw c.in-Deliver.is (on_ok c.deliver.result
    (λ is. without-bytes c.args.who s (replicate n Deliver) (delivers-give-none n s.a) old (with_sent c.deliver.new.reported.lines c.settle-in-Deliver.new.self)
    (behind old c.settle-in-Deliver.new.lines c.deliver.new.reported.lines _ c.settle-in-Deliver.new.self c.in_ok-settle-in-Deliver.ensures.lines c.in_ok-settle-in-Deliver.ensures.none is))
    (rw c.other.ensures at (c.deliver.ensures.lines c.args.who)))

pub returns-in-Lose-clause-state : goal.returns-in-Lose-clause-state
returns-in-Lose-clause-state c =
    let s : LineState = record { a = c.args.near.now; b = c.args.far.now; deceived = c.args.reported.now.deceived } in
    rw c.in-Lose.is (losses-state c.in-Lose.n s c.lose.new.near c.lose.ensures)

pub returns-in-Lose-clause-lines : goal.returns-in-Lose-clause-lines
returns-in-Lose-clause-lines c =
    let s : LineState = record { a = c.args.near.now; b = c.args.far.now; deceived = c.args.reported.now.deceived } in
    rw c.in-Lose.is (losses-lines c.args.who c.in-Lose.n s (with_sent c.args.reported.now.lines c.args.sent.now))

pub returns-in_ok-settle-in-Foreign-clause-lines : goal.returns-in_ok-settle-in-Foreign-clause-lines
returns-in_ok-settle-in-Foreign-clause-lines c =
    let s : LineState = record { a = c.args.near.now; b = c.args.far.now; deceived = c.args.reported.now.deceived } in
    let bytes = c.in-Foreign.bytes in
    let old = with_sent c.args.reported.now.lines c.args.sent.now in
    rw c.in-Foreign.is (on_ok c.intrude.result
    (λ is. without-bytes c.args.who s (map Foreign bytes) (foreign-give-none bytes s.a) old (with_sent c.intrude.new.reported.lines c.settle-in-Foreign.new.self)
    (behind old c.settle-in-Foreign.new.lines c.intrude.new.reported.lines _ c.settle-in-Foreign.new.self c.in_ok-settle-in-Foreign.ensures.lines c.in_ok-settle-in-Foreign.ensures.none is))
    (rw (c.other-in-Foreign.ensures, c.as_slice-in-Foreign.ensures) at (c.intrude.ensures.lines c.args.who s.a)))

pub returns-in_ok-settle-in-Tick-clause-state : goal.returns-in_ok-settle-in-Tick-clause-state
returns-in_ok-settle-in-Tick-clause-state c =
    let s : LineState = record { a = c.args.near.now; b = c.args.far.now; deceived = c.args.reported.now.deceived } in
    rw c.in-Tick.is (on_ok c.pass.result (ticks-state c.in-Tick.n s c.pass.new.near) c.pass.ensures.near)

pub returns-in_ok-settle-in-Tick-clause-lines : goal.returns-in_ok-settle-in-Tick-clause-lines
returns-in_ok-settle-in-Tick-clause-lines c =
    let s : LineState = record { a = c.args.near.now; b = c.args.far.now; deceived = c.args.reported.now.deceived } in
    let old = with_sent c.args.reported.now.lines c.args.sent.now in
    rw c.in-Tick.is (on_ok c.pass.result
    (λ is. ticks-lines c.args.who c.in-Tick.n s old (with_sent c.pass.new.lines c.settle-in-Tick.new.self)
    (behind old c.settle-in-Tick.new.lines c.pass.new.lines _ c.settle-in-Tick.new.self c.in_ok-settle-in-Tick.ensures.lines c.in_ok-settle-in-Tick.ensures.none is))
    c.pass.ensures.lines)
