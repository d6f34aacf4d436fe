-- The hits so far.
use Rattle.std.proofs.Common.{◌≡◌, ◌++◌, ◌-◌}
use Rattle.round_scripts.specs.Rounds.{parts}
use Rattle.df1_drill.specs.Storm.{hit_of}
use Rattle.df1_drill.proofs.storm_script.put_hits.Given as goal

abbrev pub invariant-loop-hit : goal.invariant-loop-hit
invariant-loop-hit l = l.events ≡ l.fn.events ++ parts (hit_of l.turn) (l.hit - 1)
