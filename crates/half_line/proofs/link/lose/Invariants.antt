-- What is done and what is still to be done.
use Rattle.std.proofs.Common.{◌≡◌, ◌-◌, ℕ}
use Rattle.std.specs.Prelude.{replicate}
use Rattle.half_master.specs.Master.{MasterState}
use Rattle.half_line.specs.Behind.{behind}
use Rattle.half_line.specs.Acts.{OnLane, Lose, link_state}
use Rattle.half_line.specs.Steps.{after_link_deeds}
use Rattle.half_line.proofs.link.lose.Given as goal

abbrev pub invariant-loop : goal.invariant-loop
invariant-loop g l = (master : MasterState g.row.H.Denot) (deceived : ℕ) → after_link_deeds (behind g.H.Host g.H.MasterHost) (link_state master l.side deceived) (replicate (l.n - l.counter) (OnLane l.way Lose))
    ≡ after_link_deeds (behind g.H.Host g.H.MasterHost) (link_state master l.fn.side deceived) (replicate l.n (OnLane l.way Lose))
