-- The bytes so far are heard, and what of their lines isn't written waits.
use Rattle.std.proofs.Common.{◌≡◌, ◌≤◌, ℕ, ◌+◌, ◌-◌, List, ◌++◌, length, take}
use Rattle.df1_check.specs.declared.Check.{Check}
use Rattle.half_frame.specs.declared.side.Side.{Side}
use Rattle.df1_capture.specs.Dissected.{HasHeard}
use Rattle.df1_capture.proofs.HeardSoFar.{Waiting}
use Rattle.df1_capture.proofs.dissecting.put_lines.Given as goal

abbrev pub invariant-loop-at : goal.invariant-loop-at
invariant-loop-at g l = record {
  within : l.at ≤ length l.heard;
  fed : l.dissector.fed ≡ l.fn.dissector.fed + l.at;
  calm : g.K.Sink.faults l.out ≡ g.K.Sink.faults l.fn.out;
  waits : (side : Side) (check : Check) (bytes text : List ℕ) → HasHeard side check bytes text l.fn.dissector
      → Waiting side check (bytes ++ take l.at l.heard) text l.dissector (g.K.Sink.held l.fn.out) (g.K.Sink.held l.out) l.lines.items;
}

abbrev pub decreases-loop-at : goal.decreases-loop-at
decreases-loop-at g l = length l.heard - l.at
