use Rattle.std.proofs.Common.{◌≡◌, ◌≤◌, ◌++◌, length}
use Rattle.half_frame.specs.Spelling.{bytes_of}
use Rattle.c_lines.proofs.spelling.given_by.Given as goal

-- what is given and what is left are the bytes of all
abbrev pub invariant-loop-byte : goal.invariant-loop-byte
invariant-loop-byte l = record {
  so_far : l.bytes.items ++ bytes_of l.framer ≡ bytes_of l.fn.framer;
  most : length l.fn.framer ≤ 509;
}

abbrev pub decreases-loop-byte : goal.decreases-loop-byte
decreases-loop-byte l = length l.framer
