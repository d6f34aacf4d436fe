-- What was taken is heard.
use Rattle.std.proofs.Common.{◌≡◌, ◌-◌, ◌≤◌, []}
use Rattle.df1_check.specs.declared.Check.{Check}
use Rattle.half_frame.specs.declared.side.Side.{Side}
use Rattle.df1_dissect.specs.Reading.{StandsFor}
use Rattle.df1_capture.proofs.Counting.{SoFar}
use Rattle.df1_capture.proofs.checking.count_all.Given as goal

abbrev pub invariant-pieces : goal.invariant-pieces
invariant-pieces g l = record {
  few : l.reader.fed ≤ 268435456;
  so_far : (side : Side) (check : Check) → StandsFor side check [] l.fn.reader → SoFar side check (g.S.Source.left l.fn.input) (g.S.Source.left l.input) l.reader;
  calm : g.S.Source.faults l.input ≡ g.S.Source.faults l.fn.input;
}

abbrev pub decreases-pieces : goal.decreases-pieces
decreases-pieces g l = 268435457 - l.reader.fed
