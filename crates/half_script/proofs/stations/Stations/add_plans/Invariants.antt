-- The plans of the stations so far stand behind those of the other ends.
use Rattle.std.proofs.Common.{◌≡◌, ◌++◌, take}
use Rattle.half_script.specs.Stations.{plans_of}
use Rattle.half_script.proofs.stations.Stations.add_plans.Given as goal

abbrev pub invariant-loop-station : goal.invariant-loop-station
invariant-loop-station l = l.ends ≡ l.initial.ends ++ plans_of (take l.station-index l.station-items)
