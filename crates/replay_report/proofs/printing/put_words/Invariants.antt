use Rattle.std.proofs.Common.{◌≡◌, take}
use Rattle.std.specs.List.{flat_map}
use Rattle.df1_base.specs.Outside.{Put, Later}
use Rattle.replay_report.specs.Report.{word_text}
use Rattle.replay_report.proofs.printing.put_words.Given as goal

abbrev pub invariant-loop-word : goal.invariant-loop-word
invariant-loop-word g l = record {
  put : Put (g.K.Sink.held l.initial.sink) (g.K.Sink.held l.sink) (flat_map word_text (take l.word-index l.words));
  calm : g.K.Sink.faults l.sink ≡ g.K.Sink.faults l.initial.sink;
  later : Later (g.K.Sink.mark l.initial.sink) (g.K.Sink.mark l.sink) (g.K.Sink.faults l.initial.sink) (g.K.Sink.faults l.sink);
}
