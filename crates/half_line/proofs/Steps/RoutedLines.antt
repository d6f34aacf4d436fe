-- What is told at a station, where nothing is carried.
use Rattle.std.proofs.Common.{◌≡◌, Bool, true, false, refl, sym, ap}
use Rattle.script_statement.specs.declared.who.Who.TheVariants.{S}
use Rattle.lane_cells.specs.Cells.{LaneCell}
use Rattle.report_lines.specs.NodeLines.{step_lines}
use Rattle.half_line.specs.declared.way.Way.TheVariants.{ToStation}
use Rattle.half_line.specs.Behind.{Behind}
use Rattle.half_line.specs.Acts.{LinkState, body_heard, carries_at, cell_lines, step_lines_at, step_of}

-- a station carries nothing
carries-none : (carries : Bool) → carries_at carries ToStation ≡ false
carries-none true = refl
carries-none false = refl

pub told-at-station : {H : Type 0} (h : Behind H) (s : LinkState H) (cell : LaneCell) → step_lines (S s.side.number) (step_of h ToStation s cell) (body_heard h ToStation s cell) ≡ cell_lines h ToStation s cell
told-at-station h s cell = ap (λ (carries : Bool). step_lines_at carries (S s.side.number) (step_of h ToStation s cell) (body_heard h ToStation s cell)) (sym (carries-none (h.carries s.master.host (body_heard h ToStation s cell))))
