-- What is done and what is still to be done.
use Rattle.std.proofs.Common.{◌≡◌, ◌++◌, ◌-◌, ℕ}
use Rattle.std.specs.Prelude.{replicate}
use Rattle.half_line.specs.Behind.{behind}
use Rattle.half_line.specs.Acts.{Give, half_state}
use Rattle.half_line.specs.Steps.{after_master_deeds, master_bytes_over}
use Rattle.half_line.proofs.master.take_all.Given as goal

abbrev pub invariant-loop : goal.invariant-loop
invariant-loop g l = record {
  state : (deceived : ℕ) → after_master_deeds (behind g.H.Host g.H.MasterHost) (half_state l.master l.stations.items deceived) (replicate (l.n - l.counter) Give)
      ≡ after_master_deeds (behind g.H.Host g.H.MasterHost) (half_state l.fn.master l.fn.stations.items deceived) (replicate l.n Give);
  bytes : l.bytes ++ master_bytes_over (behind g.H.Host g.H.MasterHost) l.master (replicate (l.n - l.counter) Give) ≡ l.fn.bytes ++ master_bytes_over (behind g.H.Host g.H.MasterHost) l.fn.master (replicate l.n Give);
}
