-- What was taken is heard, and its lines are written.
use Rattle.std.proofs.Common.{◌≡◌, ◌-◌, ◌≤◌, []}
use Rattle.df1_check.specs.declared.Check.{Check}
use Rattle.half_frame.specs.declared.side.Side.{Side}
use Rattle.df1_dissect.specs.Reading.{StandsFor}
use Rattle.df1_capture.proofs.HeardSoFar.{SoFar}
use Rattle.df1_capture.proofs.dissecting.dissect_all.Given as goal

abbrev pub invariant-pieces : goal.invariant-pieces
invariant-pieces g l = record {
  none : l.lines.items ≡ [];
  few : l.dissector.fed ≤ 268435456;
  so_far : (side : Side) (check : Check) → StandsFor side check [] l.fn.dissector
      → SoFar side check (g.S.Source.left l.fn.input) (g.S.Source.left l.input) (g.K.Sink.held l.fn.out) (g.K.Sink.held l.out) l.dissector;
  calm : g.S.Source.faults l.input ≡ g.S.Source.faults l.fn.input;
  steady : g.K.Sink.faults l.out ≡ g.K.Sink.faults l.fn.out;
}

abbrev pub decreases-pieces : goal.decreases-pieces
decreases-pieces g l = 268435457 - l.dissector.fed
