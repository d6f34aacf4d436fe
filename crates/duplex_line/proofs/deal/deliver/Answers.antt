use Rattle.std.proofs.Common.{◌≡◌, ◌-◌, ◌+◌, ◌∙◌, ◌++◌, List, None, Some, sym, ap, append_assoc, append-nil, arith}
use Rattle.std.specs.Prelude.{replicate, slice_get}
use Rattle.replay_report.specs.declared.record.Line.{Line}
use Rattle.duplex_line.specs.Acts.{LineEndState, LineState, Deliver, after_deeds}
use Rattle.each_once.proofs.CountedUp.{repeat-next}
use Rattle.duplex_line.proofs.Steps.NothingToGive.{leave-none, delivers-none, delivers-no-lines, deliver-one, deliver-lines}
use Rattle.duplex_line.proofs.deal.deliver.Goals as goal

pub loop-preserved : goal.loop-preserved
loop-preserved c =
    let next = repeat-next Deliver c.args.n c.loop.counter c.loop-test.true in
    let s : LineState = record { a = c.loop.near; b = c.loop.far; deceived = c.loop.reported.deceived } in
    let head : slice_get s.a.lane 0 ≡ Some c.in-Some.cell = sym c.in-Some.ensures.cell in
    let rest = replicate (c.args.n - (c.loop.counter + 1)) Deliver in
    record {
      state = rw (c.keep.ensures, c.leave.ensures.state, c.in_ok-arrive.ensures.side, c.in_ok-arrive.ensures.deceived)
          (ap (λ (t : LineState). after_deeds t rest) (sym (deliver-one s c.in-Some.cell head)) ∙ (rw next at c.loop.invariant.state));
      lines = λ from. rw (c.keep.ensures, c.leave.ensures.state, c.in_ok-arrive.ensures.lines, c.in_ok-arrive.ensures.side, c.in_ok-arrive.ensures.deceived, append_assoc)
          (ap (λ (lines : List Line). c.loop.reported.lines ++ lines) (sym (deliver-lines from c.args.to s c.in-Some.cell rest head)) ∙ (rw next at (c.loop.invariant.lines from)));
      few = omega (arith, c.arrive.ensures.few);
    }

pub returns-in_default-clause-state : goal.returns-in_default-clause-state
returns-in_default-clause-state c =
    let s : LineState = record { a = c.loop.near; b = c.loop.far; deceived = c.loop.reported.deceived } in
    let nothing : slice_get s.a.lane 0 ≡ None = sym c.leave.ensures.cell ∙ c.in_default.is in
    ap (λ (a : LineEndState). let after : LineState = record { a = a; b = c.loop.far; deceived = c.loop.reported.deceived } in after) (c.leave.ensures.state ∙ leave-none c.loop.near nothing)
    ∙ sym (delivers-none s nothing (c.args.n - c.loop.counter)) ∙ c.loop.invariant.state

pub returns-in_default-clause-lines : goal.returns-in_default-clause-lines
returns-in_default-clause-lines c = λ from.
    let s : LineState = record { a = c.loop.near; b = c.loop.far; deceived = c.loop.reported.deceived } in
    let nothing : slice_get s.a.lane 0 ≡ None = sym c.leave.ensures.cell ∙ c.in_default.is in
    sym (append-nil c.loop.reported.lines)
    ∙ ap (λ (lines : List Line). c.loop.reported.lines ++ lines) (sym (delivers-no-lines from c.args.to s nothing (c.args.n - c.loop.counter)))
    ∙ c.loop.invariant.lines from
