-- The rounds so far.
use Rattle.std.proofs.Common.{◌≡◌, ◌-◌}
use Rattle.round_scripts.specs.Rounds.{script_of}
use Rattle.df1_drill.specs.Drill.{round_of}
use Rattle.df1_drill.proofs.script.drill_script.Given as goal

abbrev pub invariant-loop-round : goal.invariant-loop-round
invariant-loop-round l = l.script ≡ script_of (round_of l.seed) (l.round - 1)
