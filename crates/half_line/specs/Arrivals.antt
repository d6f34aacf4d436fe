-- The bytes that arrive at the ends of a half-duplex line, and whether a whole message is heard at each.
use Rattle.std.specs.Prelude.{ℕ, List, [], ◌∷◌, ◌++◌, Option, Some, None, ◌==◌, slice_get, if◌then◌else◌}
use Rattle.df1_node.specs.Node.{NodeState}
use Rattle.half_slave.specs.Arrived as slave
use Rattle.half_master.specs.Arrived as master
use Rattle.script_parts.specs.declared.script.Event.{Event}
use Rattle.lane_cells.specs.Cells.{LaneCell}
use Rattle.half_line.specs.Behind.{plain_node}
use Rattle.half_line.specs.declared.way.Way.{Way}
use Rattle.half_line.specs.declared.way.Way.TheVariants.{ToStation, ToMaster}
use Rattle.half_line.specs.Acts.{LineStationState, HalfState, LinkState, LinkDeed, StationGives, OnLane, lane_of, arriving, step_of}
use Rattle.half_line.specs.Steps.{UnitStep, AtMaster, AtStation, link_of, after_step}
use Rattle.half_line.specs.Run.{steps_of, after_event}

-- ---- at a station

-- what arrives at the station with a cell that goes this way
abbrev pub station_arrived : Way → LinkState NodeState → Option LaneCell → List slave.Arrival
station_arrived ToStation s None = []
station_arrived ToStation s (Some cell) =
    record { byte = cell.byte; whole = (step_of plain_node ToStation s cell).whole; station = (step_of plain_node ToStation s cell).station } ∷ []
station_arrived ToMaster s cell = []

abbrev pub station_arrivals : LinkState NodeState → LinkDeed → List slave.Arrival
station_arrivals s StationGives = []
station_arrivals s (OnLane way deed) = station_arrived way s (arriving (lane_of way s.side) deed)

abbrev pub station_arrivals_with : HalfState NodeState → LinkDeed → Option LineStationState → List slave.Arrival
station_arrivals_with s deed None = []
station_arrivals_with s deed (Some side) = station_arrivals (link_of s side) deed

-- what arrives at the station that was declared at this place, counted from 0
abbrev pub station_arrivals_at : ℕ → HalfState NodeState → UnitStep → List slave.Arrival
station_arrivals_at place s (AtMaster deed) = []
station_arrivals_at place s (AtStation at deed) = if at == place then station_arrivals_with s deed (slice_get s.stations at) else []

abbrev pub station_arrivals_over : ℕ → HalfState NodeState → List UnitStep → List slave.Arrival
station_arrivals_over place s [] = []
station_arrivals_over place s (step ∷ steps) = station_arrivals_at place s step ++ station_arrivals_over place (after_step plain_node s step) steps

-- over these events
abbrev pub station_arrivals_in : ℕ → HalfState NodeState → List Event → List slave.Arrival
station_arrivals_in place s [] = []
station_arrivals_in place s (e ∷ events) = station_arrivals_over place s (steps_of s e) ++ station_arrivals_in place (after_event plain_node s e) events

-- ---- at the master, from all stations

abbrev pub master_arrived : Way → LinkState NodeState → Option LaneCell → List master.Arrival
master_arrived ToStation s cell = []
master_arrived ToMaster s None = []
master_arrived ToMaster s (Some cell) = record { byte = cell.byte; whole = (step_of plain_node ToMaster s cell).whole } ∷ []

abbrev pub master_arrivals : LinkState NodeState → LinkDeed → List master.Arrival
master_arrivals s StationGives = []
master_arrivals s (OnLane way deed) = master_arrived way s (arriving (lane_of way s.side) deed)

abbrev pub master_arrivals_with : HalfState NodeState → LinkDeed → Option LineStationState → List master.Arrival
master_arrivals_with s deed None = []
master_arrivals_with s deed (Some side) = master_arrivals (link_of s side) deed

abbrev pub master_arrivals_at : HalfState NodeState → UnitStep → List master.Arrival
master_arrivals_at s (AtMaster deed) = []
master_arrivals_at s (AtStation at deed) = master_arrivals_with s deed (slice_get s.stations at)

abbrev pub master_arrivals_over : HalfState NodeState → List UnitStep → List master.Arrival
master_arrivals_over s [] = []
master_arrivals_over s (step ∷ steps) = master_arrivals_at s step ++ master_arrivals_over (after_step plain_node s step) steps

-- over these events, in the order of delivery
abbrev pub master_arrivals_in : HalfState NodeState → List Event → List master.Arrival
master_arrivals_in s [] = []
master_arrivals_in s (e ∷ events) = master_arrivals_over s (steps_of s e) ++ master_arrivals_in (after_event plain_node s e) events
