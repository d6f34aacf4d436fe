-- What is given and what is left is the frame.
use Rattle.std.proofs.Common.{◌≡◌, ◌++◌, length}
use Rattle.df1_frame.specs.Units.{bytes_of, units}
use Rattle.vector_suite.proofs.table.frame.Given as goal

abbrev pub decreases-loop-unit : goal.decreases-loop-unit
decreases-loop-unit l = length l.framer

abbrev pub invariant-loop-unit : goal.invariant-loop-unit
invariant-loop-unit l = l.bytes.items ++ bytes_of l.framer ≡ bytes_of (units l.fn.check l.fn.body)
