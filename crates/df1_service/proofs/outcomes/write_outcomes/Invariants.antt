use Rattle.std.proofs.Common.{◌≡◌, ◌≤◌, ◌-◌, drop}
use Rattle.df1_base.specs.Outside.{Wrote, Later}
use Rattle.df1_service.specs.Service.{outcome_lines, outcomes_text}
use Rattle.df1_service.proofs.outcomes.write_outcomes.Given as goal

abbrev pub invariant-loop-outcome : goal.invariant-loop-outcome
invariant-loop-outcome g l = record {
  some : 1 ≤ l.n;
  wrote : Wrote (g.K.Sink.held l.initial.sink) (g.K.Sink.held l.sink) (outcomes_text l.initiator) (outcome_lines l.n (drop (l.n - 1) l.initiator.issued));
  calm : g.K.Sink.faults l.sink ≡ g.K.Sink.faults l.initial.sink;
  later : Later (g.K.Sink.mark l.initial.sink) (g.K.Sink.mark l.sink) (g.K.Sink.faults l.initial.sink) (g.K.Sink.faults l.sink);
}

abbrev pub decreases-loop-outcome : goal.decreases-loop-outcome
decreases-loop-outcome g l = 65536 - l.n
