use Rattle.std.proofs.Common.{◌≡◌, [], take}
use Rattle.std.specs.List.{flat_map}
use Rattle.df1_base.specs.Outside.{Put, Later}
use Rattle.replay_report.specs.Report.{line_text}
use Rattle.replay_report.proofs.printing.print_lines.Given as goal

abbrev pub invariant-loop-line : goal.invariant-loop-line
invariant-loop-line g l = record {
  put : Put (g.K.Sink.held l.initial.sink) (g.K.Sink.held l.sink) (flat_map line_text (take l.line-index l.lines));
  untouched : l.lines ≡ [] → l.sink ≡ l.initial.sink;
  calm : g.K.Sink.faults l.sink ≡ g.K.Sink.faults l.initial.sink;
  later : Later (g.K.Sink.mark l.initial.sink) (g.K.Sink.mark l.sink) (g.K.Sink.faults l.initial.sink) (g.K.Sink.faults l.sink);
}
