-- No byte so far is DLE.
use Rattle.std.proofs.Common.{◌≡◌, ◌<◌, ℕ, eqb, false, get_or}
use Rattle.df1_frame.proofs.plain.plain_len.Given as goal

abbrev pub invariant-loop-at : goal.invariant-loop-at
invariant-loop-at l = (k : ℕ) → k < l.at → eqb (get_or l.bytes k 0) 16 ≡ false
