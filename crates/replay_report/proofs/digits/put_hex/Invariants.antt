use Rattle.std.proofs.Common.{◌≡◌, length}
use Rattle.hex.specs.Hex.{encode_upper}
use Rattle.df1_base.specs.Outside.{Wrote, Later}
use Rattle.replay_report.proofs.digits.put_hex.Given as goal

abbrev pub invariant-loop-rest : goal.invariant-loop-rest
invariant-loop-rest g l = record {
  wrote : Wrote (g.K.Sink.held l.initial.sink) (g.K.Sink.held l.sink) (encode_upper l.bytes) (encode_upper l.rest);
  calm : g.K.Sink.faults l.sink ≡ g.K.Sink.faults l.initial.sink;
  later : Later (g.K.Sink.mark l.initial.sink) (g.K.Sink.mark l.sink) (g.K.Sink.faults l.initial.sink) (g.K.Sink.faults l.sink);
}

abbrev pub decreases-loop-rest : goal.decreases-loop-rest
decreases-loop-rest g l = length l.rest
