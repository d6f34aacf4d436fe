-- The words of the stations so far.
use Rattle.std.proofs.Common.{◌≡◌, ◌++◌, take}
use Rattle.half_line.specs.Run.{station_words}
use Rattle.half_line.proofs.world.push_stations.Given as goal

abbrev pub invariant-loop-side : goal.invariant-loop-side
invariant-loop-side l = l.words ≡ l.fn.words ++ station_words (take l.side-index l.stations)
