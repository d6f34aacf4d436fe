-- The cells that have joined, and the stations that they are still to join.
use Rattle.std.proofs.Common.{◌≡◌, ◌++◌, [], ◌∷◌, map, take, drop}
use Rattle.lane_cells.specs.Cells.{cell_of}
use Rattle.half_line.specs.Acts.{joined}
use Rattle.half_line.proofs.master.join_all.Given as goal

abbrev pub invariant-loop-side : goal.invariant-loop-side
invariant-loop-side l = l.side-items ≡ map (joined (cell_of l.sending l.out ∷ [])) (take l.side-index l.fn.stations.items) ++ drop l.side-index l.fn.stations.items
