-- The digits so far, and how many there are.
use Rattle.std.proofs.Common.{◌≡◌, ◌+◌, ◌*◌, ◌++◌, length, take}
use Rattle.std.specs.List.{flat_map}
use Rattle.replay_report.proofs.Pairs.{pair_of}
use Rattle.replay_report.proofs.digits.append_pairs.Given as goal

abbrev pub invariant-loop-byte : goal.invariant-loop-byte
invariant-loop-byte l = record {
  digits : l.line.items ≡ l.fn.line.items ++ flat_map pair_of (take l.byte-index l.bytes);
  size : length l.line.items ≡ length l.fn.line.items + 2 * l.byte-index;
}
