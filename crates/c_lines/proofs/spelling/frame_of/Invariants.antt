use Rattle.std.proofs.Common.{◌≡◌, ◌≤◌, ◌++◌, length}
use Rattle.c_lines.specs.Spelled.{frame_of}
use Rattle.df1_frame.specs.Units.{bytes_of}
use Rattle.c_lines.proofs.spelling.frame_of.Given as goal

abbrev pub invariant-loop-unit : goal.invariant-loop-unit
invariant-loop-unit l = record {
  so_far : l.frame.items ++ bytes_of l.framer ≡ frame_of l.fn.check l.fn.body;
  most : length (frame_of l.fn.check l.fn.body) ≤ 506;
}

abbrev pub decreases-loop-unit : goal.decreases-loop-unit
decreases-loop-unit l = length l.framer
