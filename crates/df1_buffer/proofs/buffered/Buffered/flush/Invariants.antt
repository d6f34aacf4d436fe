use Rattle.std.proofs.Common.{◌≡◌, [], length}
use Rattle.std.specs.Io.KnownBytes.{Keeps}
use Rattle.df1_base.specs.Outside.{Later}
use Rattle.df1_buffer.specs.Buffered.{buffer_waiting, buffer_mark, buffer_held, buffer_faults}
use Rattle.df1_buffer.proofs.buffered.Buffered.flush.Given as goal

abbrev pub invariant-loop-self : goal.invariant-loop-self
invariant-loop-self g l = record {
  idle : buffer_waiting l.initial.self ≡ [] → l.self ≡ l.initial.self;
  kept : Keeps (buffer_held g.K.Sink.held l.initial.self) (buffer_held g.K.Sink.held l.self);
  calm : buffer_faults g.K.Sink.faults l.self ≡ buffer_faults g.K.Sink.faults l.initial.self;
  later : Later (buffer_mark g.K.Sink.held g.K.Sink.mark l.initial.self) (buffer_mark g.K.Sink.held g.K.Sink.mark l.self)
      (buffer_faults g.K.Sink.faults l.initial.self) (buffer_faults g.K.Sink.faults l.self);
}

abbrev pub decreases-loop-self : goal.decreases-loop-self
decreases-loop-self g l = length (buffer_waiting l.self)
