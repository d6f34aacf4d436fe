-- The transmissions of a half-duplex run: those that an end began, and those whose last byte arrived at another end or is on its way there.
use Rattle.std.specs.Prelude.{◌≡◌, ℕ, List, [], ◌∷◌, ◌++◌, map, All, slice_get, Option, Some, None, ◌==◌, if◌then◌else◌}
use Rattle.std.specs.Option.{option_to_list}
use Rattle.std.specs.List.{filter_map}
use Rattle.std.specs.List.Sorted.{IsStrictlyIncreasing}
use Rattle.df1_node.specs.Node.{NodeState}
use Rattle.half_mouth.specs.Transmissions.{transmission_at}
use Rattle.half_slave.specs.Emission as slave
use Rattle.half_slave.specs.Fates as slave_fates
use Rattle.half_slave.specs.Past as slave_past
use Rattle.half_master.specs.Emission as master
use Rattle.half_master.specs.Fates as master_fates
use Rattle.half_master.specs.Past as master_past
use Rattle.script_parts.specs.declared.script.Event.{Event}
use Rattle.script_parts.specs.declared.script.Script.{Script}
use Rattle.lane_cells.specs.Cells.{LaneCell, Ending}
use Rattle.each_once.specs.NodeHost.{node_host}
use Rattle.half_line.specs.Behind.{plain_node}
use Rattle.half_line.specs.declared.way.Way.{Way}
use Rattle.half_line.specs.declared.way.Way.TheVariants.{ToStation, ToMaster}
use Rattle.half_line.specs.Acts.{LineStationState, HalfState, Issue, Give, Tick, LinkDeed, StationGives, OnLane, arriving}
use Rattle.half_line.specs.Steps.{UnitStep, AtMaster, AtStation, after_step}
use Rattle.half_line.specs.Run.{start, steps_of, after_event, last_state}

-- ---- over a run

-- what comes about at each of these steps, in order
abbrev pub over_steps : {X : Type 0} → (HalfState NodeState → UnitStep → List X) → HalfState NodeState → List UnitStep → List X
over_steps at s [] = []
over_steps at s (step ∷ steps) = at s step ++ over_steps at (after_step plain_node s step) steps

-- at the steps of each of these events
abbrev pub over_events : {X : Type 0} → (HalfState NodeState → UnitStep → List X) → HalfState NodeState → List Event → List X
over_events at s [] = []
over_events at s (e ∷ events) = over_steps at s (steps_of s e) ++ over_events at (after_event plain_node s e) events

-- ---- what arrives

-- the cell that arrives and goes this way, if one does
abbrev pub cells_at : Way → LineStationState → LinkDeed → List LaneCell
cells_at way side StationGives = []
cells_at ToStation side (OnLane ToStation deed) = option_to_list (arriving side.to_it deed)
cells_at ToStation side (OnLane ToMaster deed) = []
cells_at ToMaster side (OnLane ToStation deed) = []
cells_at ToMaster side (OnLane ToMaster deed) = option_to_list (arriving side.from_it deed)

abbrev pub cells_with : Way → LinkDeed → Option LineStationState → List LaneCell
cells_with way deed None = []
cells_with way deed (Some side) = cells_at way side deed

-- between the master and the station that was declared at this place
abbrev pub arrived : Way → ℕ → HalfState NodeState → UnitStep → List LaneCell
arrived way place s (AtMaster deed) = []
arrived way place s (AtStation at deed) = if at == place then cells_with way deed (slice_get s.stations at) else []

-- ---- what an end began

-- the signals that come to the master
abbrev pub master_signals : HalfState NodeState → UnitStep → List master.Letter
master_signals s (AtMaster (Issue src dst payload)) = []
master_signals s (AtMaster Give) = master.Take ∷ []
master_signals s (AtMaster Tick) = master.Tick ∷ []
master_signals s (AtStation place deed) = map (λ (cell : LaneCell). master.Byte cell.byte) (cells_with ToMaster deed (slice_get s.stations place))

-- what happens to the messages of its host
abbrev pub master_events : HalfState NodeState → UnitStep → List master_fates.Event
master_events s step = master_fates.events node_host s.master (master_signals s step)

-- the same of a station
abbrev pub side_events : LineStationState → LinkDeed → List slave_fates.Event
side_events side StationGives = slave_fates.events node_host side.slave (slave.Take ∷ [])
side_events side (OnLane way deed) = slave_fates.events node_host side.slave (map (λ (cell : LaneCell). slave.Byte cell.byte) (cells_at ToStation side (OnLane way deed)))

abbrev pub events_with : LinkDeed → Option LineStationState → List slave_fates.Event
events_with deed None = []
events_with deed (Some side) = side_events side deed

abbrev pub station_events : ℕ → HalfState NodeState → UnitStep → List slave_fates.Event
station_events place s (AtMaster deed) = []
station_events place s (AtStation at deed) = if at == place then events_with deed (slice_get s.stations at) else []

-- the bodies of the transmissions that the master began in a run, and a station
abbrev pub transmissions_of_m : Script → List (List ℕ)
transmissions_of_m script = master_past.transmissions (over_events master_events (start script) script.events)

abbrev pub transmissions_of : Script → ℕ → List (List ℕ)
transmissions_of script place = slave_past.transmissions (over_events (station_events place) (start script) script.events)

-- ---- the order

-- the ends of transmissions in these cells
abbrev pub ends_in : List LaneCell → List Ending
ends_in cells = filter_map (λ (cell : LaneCell). cell.ends) cells

-- of the transmissions of these bodies some ended in what arrived, and some end in what is on its way: their numbers rise strictly, those on their way behind those that arrived; and the end of transmission n carries its body
pub record AreInOrder (bodies : List (List ℕ)) (came on_way : List LaneCell) : Type 0 where
  pub rise : IsStrictlyIncreasing (map (λ (e : Ending). e.number) (ends_in came ++ ends_in on_way))
  pub carry : All (λ (e : Ending). transmission_at bodies e.number ≡ Some e.body) (ends_in came ++ ends_in on_way)

-- both ways between the master and the station at a place
pub record LinkInOrder (script : Script) (place : ℕ) (side : LineStationState) : Type 0 where
  pub to_it : AreInOrder (transmissions_of_m script) (over_events (arrived ToStation place) (start script) script.events) side.to_it
  pub from_it : AreInOrder (transmissions_of script place) (over_events (arrived ToMaster place) (start script) script.events) side.from_it

-- of each station at the end of a run
abbrev pub AreAllInOrder : Script → Type 0
AreAllInOrder script = (place : ℕ) (side : LineStationState) → slice_get (last_state script).stations place ≡ Some side → LinkInOrder script place side
