use Rattle.std.proofs.Common.{◌≡◌, ◌-◌, ◌∙◌, sym, None}
use Rattle.std.specs.Prelude.{slice_get}
use Rattle.duplex_line.specs.Acts.{Lose}
use Rattle.each_once.proofs.CountedUp.{repeat-next}
use Rattle.duplex_line.proofs.Steps.NothingToGive.{leave-none, loses-none}
use Rattle.duplex_line.proofs.deal.lose.Goals as goal

pub loop-preserved : goal.loop-preserved
loop-preserved c = rw (c.keep.ensures, c.leave.ensures.state) (rw (repeat-next Lose c.args.n c.loop.counter c.loop-test.true) at c.loop.invariant)

pub returns-in_default : goal.returns-in_default
returns-in_default c =
    let nothing : slice_get c.loop.near.lane 0 ≡ None = sym c.leave.ensures.cell ∙ c.in_default.is in
    c.leave.ensures.state ∙ leave-none c.loop.near nothing ∙ sym (loses-none c.loop.near nothing (c.args.n - c.loop.counter)) ∙ c.loop.invariant
