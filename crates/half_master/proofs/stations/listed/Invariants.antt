use Rattle.std.proofs.Common.{◌≡◌, take}
use Rattle.half_master.specs.Stations.{listed}
use Rattle.half_master.proofs.stations.listed.Given as goal

abbrev pub invariant-loop-number : goal.invariant-loop-number
invariant-loop-number l = l.stations.items ≡ listed (take l.number-index l.numbers)
