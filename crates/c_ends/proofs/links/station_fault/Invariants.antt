use Rattle.std.proofs.Common.{◌≡◌, [], take, drop}
use Rattle.c_ends.specs.Links.{station_fault}
use Rattle.c_ends.proofs.links.station_fault.Given as goal

-- what is wrong with the stations that are left is what is wrong with all
abbrev pub invariant-loop-place : goal.invariant-loop-place
invariant-loop-place l = station_fault (take l.place l.stations) (drop l.place l.stations) ≡ station_fault [] l.stations
