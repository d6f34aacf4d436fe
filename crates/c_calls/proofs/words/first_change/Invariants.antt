use Rattle.std.proofs.Common.{◌≡◌, ◌+◌, drop}
use Rattle.c_calls.specs.Words.{first_change}
use Rattle.c_calls.proofs.words.first_change.Given as goal

-- the first change of all is that of the words that are left
abbrev pub invariant-loop-place : goal.invariant-loop-place
invariant-loop-place l = l.place + first_change (drop l.place l.words) (drop l.place l.seen) ≡ first_change l.words l.seen
