-- What is done and what is still to be done.
use Rattle.std.proofs.Common.{◌≡◌, ◌++◌, ◌-◌, ℕ, List}
use Rattle.std.specs.Prelude.{replicate}
use Rattle.half_line.specs.Behind.{behind}
use Rattle.half_line.specs.Acts.{LineStationState, Tick, half_state}
use Rattle.half_line.specs.Steps.{after_master_deeds, master_lines_over}
use Rattle.half_line.proofs.master.pass.Given as goal

abbrev pub invariant-loop : goal.invariant-loop
invariant-loop g l = record {
  state : (stations : List LineStationState) (deceived : ℕ) → after_master_deeds (behind g.H.Host g.H.MasterHost) (half_state l.master stations deceived) (replicate (l.n - l.counter) Tick)
      ≡ after_master_deeds (behind g.H.Host g.H.MasterHost) (half_state l.fn.master stations deceived) (replicate l.n Tick);
  lines : l.lines ++ master_lines_over (behind g.H.Host g.H.MasterHost) l.master (replicate (l.n - l.counter) Tick) ≡ l.fn.lines ++ master_lines_over (behind g.H.Host g.H.MasterHost) l.fn.master (replicate l.n Tick);
}
