-- What is done and what is still to be done.
use Rattle.std.proofs.Common.{◌≡◌, ◌++◌, ◌-◌, ℕ}
use Rattle.std.specs.Prelude.{replicate}
use Rattle.half_master.specs.Master.{MasterState}
use Rattle.half_line.specs.Behind.{behind}
use Rattle.half_line.specs.Acts.{StationGives, link_state}
use Rattle.half_line.specs.Steps.{after_link_deeds, link_bytes_over}
use Rattle.half_line.proofs.link.take_all.Given as goal

abbrev pub invariant-loop : goal.invariant-loop
invariant-loop g l = record {
  state : (master : MasterState g.row.H.Denot) (deceived : ℕ) → after_link_deeds (behind g.H.Host g.H.MasterHost) (link_state master l.side deceived) (replicate (l.n - l.counter) StationGives)
      ≡ after_link_deeds (behind g.H.Host g.H.MasterHost) (link_state master l.fn.side deceived) (replicate l.n StationGives);
  bytes : (master : MasterState g.row.H.Denot) (deceived : ℕ) → l.bytes ++ link_bytes_over (behind g.H.Host g.H.MasterHost) (link_state master l.side deceived) (replicate (l.n - l.counter) StationGives)
      ≡ l.fn.bytes ++ link_bytes_over (behind g.H.Host g.H.MasterHost) (link_state master l.fn.side deceived) (replicate l.n StationGives);
}
