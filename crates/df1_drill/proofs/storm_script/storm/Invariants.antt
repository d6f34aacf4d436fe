-- The rounds so far.
use Rattle.std.proofs.Common.{◌≡◌, ◌-◌}
use Rattle.round_scripts.specs.Rounds.{script_of}
use Rattle.df1_drill.specs.Storm.{round_of}
use Rattle.df1_drill.proofs.storm_script.storm.Given as goal

abbrev pub invariant-loop-round : goal.invariant-loop-round
invariant-loop-round l = l.script ≡ script_of (round_of l.seed) (l.round - 1)
