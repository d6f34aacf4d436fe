-- The lines before the rest are replayed, and what they show is written.
use Rattle.std.proofs.Common.{◌≡◌, ℕ, List, ◌++◌, length}
use Rattle.df1_base.specs.Outside.{Later}
use Rattle.line_replay.specs.Fed.{IsReplay, IsReplayOf, ShowsMore, shown, told}
use Rattle.line_replay.proofs.replayer.Replayer.feed_all.Given as goal

abbrev pub invariant-loop-self : goal.invariant-loop-self
invariant-loop-self g l = record {
  replay : IsReplay l.self;
  front : List ℕ;
  bytes_are : l.fn.bytes ≡ front ++ l.rest;
  shows : (text : List ℕ) → IsReplayOf text l.fn.self → IsReplayOf (text ++ front) l.self
      × ShowsMore (shown text) (shown (text ++ front)) (g.K.Sink.held l.fn.sink) (g.K.Sink.held l.sink);
  untouched : (text : List ℕ) → IsReplayOf text l.fn.self → told (text ++ l.fn.bytes) ≡ shown text → l.sink ≡ l.fn.sink;
  calm : g.K.Sink.faults l.sink ≡ g.K.Sink.faults l.fn.sink;
  later : Later (g.K.Sink.mark l.fn.sink) (g.K.Sink.mark l.sink) (g.K.Sink.faults l.fn.sink) (g.K.Sink.faults l.sink);
}

abbrev pub decreases-loop-self : goal.decreases-loop-self
decreases-loop-self g l = length l.rest
