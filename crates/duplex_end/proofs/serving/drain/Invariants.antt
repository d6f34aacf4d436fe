use Rattle.std.proofs.Common.{◌≡◌, ◌+◌, ◌≤◌, ℕ, [], length}
use Rattle.std.specs.Prelude.{◌⊎◌}
use Rattle.duplex_end.specs.Emission.{end_after_all, takes}
use Rattle.duplex_end.specs.Joined.{most_left}
use Rattle.duplex_end.specs.Serving.{bytes_given}
use Rattle.duplex_end.proofs.serving.drain.Given as goal

abbrev pub invariant-loop-out : goal.invariant-loop-out
invariant-loop-out g l = record {
  taken : (n : ℕ) × (l.end ≡ end_after_all g.H.Host l.initial.end (takes n)) × (l.given.items ≡ bytes_given g.H.Host l.initial.end (takes n));
  few : (l.given.items ≡ []) ⊎ (length l.given.items + most_left g.H.Host l.end ≤ 511);
}

abbrev pub decreases-loop-out : goal.decreases-loop-out
decreases-loop-out g l = most_left g.H.Host l.end
