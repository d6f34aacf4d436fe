use Rattle.std.proofs.Common.{◌≡◌, ◌+◌, ◌-◌, [], length}
use Rattle.df1_buffer.specs.Buffered.{buffer_name, buffer_out, buffer_waiting}
use Rattle.df1_replay.proofs.Taken.{SoFar}
use Rattle.df1_replay.proofs.replaying.replay_all.Given as goal

-- what was taken is replayed, and what it shows is written
abbrev pub invariant-loop-piece : goal.invariant-loop-piece
invariant-loop-piece g l = record {
  none : buffer_waiting l.report ≡ [];
  same : buffer_name l.report ≡ buffer_name l.fn.report;
  so_far : SoFar (g.S.Source.left l.fn.input) (g.S.Source.left l.input) (g.K.Sink.held (buffer_out l.fn.report)) (g.K.Sink.held (buffer_out l.report)) l.replayer;
  input_calm : g.S.Source.faults l.input ≡ g.S.Source.faults l.fn.input;
  out_calm : g.K.Sink.faults (buffer_out l.report) ≡ g.K.Sink.faults (buffer_out l.fn.report);
}

abbrev pub decreases-loop-piece : goal.decreases-loop-piece
decreases-loop-piece g l = 16777217 - (l.replayer.text.start + length l.replayer.text.line)
