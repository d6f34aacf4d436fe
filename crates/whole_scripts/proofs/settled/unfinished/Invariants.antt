use Rattle.std.proofs.Common.{◌≡◌, ◌≤◌, take}
use Rattle.line_script.specs.Unfinished.{unfinished_after}
use Rattle.whole_scripts.proofs.settled.unfinished.Given as goal

-- so many of the bytes so far stand behind the last line feed
abbrev pub invariant-loop-byte : goal.invariant-loop-byte
invariant-loop-byte l = record {
  counts : l.begun ≡ unfinished_after 0 (take l.byte-index l.text);
  most : l.begun ≤ l.byte-index;
}
