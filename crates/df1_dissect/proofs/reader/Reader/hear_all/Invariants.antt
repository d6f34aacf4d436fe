-- What is left leads to what all bytes lead to.
use Rattle.std.proofs.Common.{◌≡◌, ◌≤◌, ◌+◌, ◌-◌, drop, length}
use Rattle.df1_dissect.specs.Runs.{after}
use Rattle.df1_dissect.proofs.reader.Reader.hear_all.Given as goal

abbrev pub invariant-loop-at : goal.invariant-loop-at
invariant-loop-at l = record {
  within : l.at ≤ length l.bytes;
  few : l.self.fed + (length l.bytes - l.at) ≤ 268435456;
  value : after l.fn.self l.bytes ≡ after l.self (drop l.at l.bytes);
}

abbrev pub decreases-loop-at : goal.decreases-loop-at
decreases-loop-at l = length l.bytes - l.at
