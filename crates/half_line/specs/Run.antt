-- The run of a half-duplex script: its first state, what each event leaves, the lines of the report that it makes, and the record.
use Rattle.std.specs.Prelude.{ℕ, List, [], ◌∷◌, ◌++◌, map, replicate, Option, Some, None, ◌==◌, slice_index_or, position}
use Rattle.std.specs.List.{flat_map}
use Rattle.df1_node.specs.Node.{NodeState}
use Rattle.df1_check.specs.declared.Check.{Check}
use Rattle.data_files.specs.Tables.{DataTables}
use Rattle.half_slave.specs.declared.SlaveSetup.{SlaveSetup}
use Rattle.half_slave.specs.Slave.{new_slave}
use Rattle.half_master.specs.declared.MasterSetup.{MasterSetup}
use Rattle.half_master.specs.Master.{new_master}
use Rattle.script_statement.specs.declared.who.Who.{Who}
use Rattle.script_statement.specs.declared.who.Who.TheVariants.{M, S}
use Rattle.script_parts.specs.declared.script.Event.{Event}
use Rattle.script_parts.specs.declared.script.Event.TheVariants as event
use Rattle.script_parts.specs.declared.script.EndPlan.{EndPlan}
use Rattle.script_parts.specs.declared.script.Script.{Script}
use Rattle.script_parts.specs.declared.script.WordOf.{WordOf}
use Rattle.script_parts.specs.Plans.{first_plan}
use Rattle.script_parts.specs.HalfPlayable.{station_plans, numbers_of}
use Rattle.replay_report.specs.declared.record.Line.{Line}
use Rattle.replay_report.specs.declared.record.Record.{Record}
use Rattle.replay_report.specs.Report.{sent_lines}
use Rattle.outset.specs.Outset.{first_node}
use Rattle.report_lines.specs.Words.{words_of}
use Rattle.half_line.specs.Behind.{Behind, plain_node}
use Rattle.half_line.specs.declared.way.Way.{Way}
use Rattle.half_line.specs.declared.way.Way.TheVariants.{ToStation, ToMaster}
use Rattle.half_line.specs.Acts.{LineStationState, HalfState, MasterDeed, LinkDeed, Issue, Give, Tick, StationGives, OnLane, Deliver, Lose, Alter, Foreign}
use Rattle.half_line.specs.Steps.{UnitStep, AtMaster, AtStation, after_steps, lines_over, bytes_over}

-- ---- the first state

-- how the master is set up, and how a station is
abbrev pub master_setup : Check → EndPlan → MasterSetup
master_setup check plan = record { check = check; ack_ticks = plan.ack_ticks; max_resends = plan.max_resends; poll_ticks = plan.poll_ticks }

abbrev pub slave_setup : Check → EndPlan → SlaveSetup
slave_setup check plan = record { station = plan.node; check = check; max_sends = plan.max_sends }

-- a station's number is the address of its plan
abbrev pub first_side : Check → EndPlan → LineStationState
first_side check plan = record { number = plan.node; slave = new_slave (slave_setup check plan) (first_node plan); to_it = []; from_it = [] }

-- the plan of the master; where a script has none, it is as it is where no line tells of it
abbrev pub plan_of_m : Script → EndPlan
plan_of_m script = slice_index_or script.ends 0 (first_plan M 0)

-- with this host behind the master
abbrev pub start_with : {H : Type 0} → Script → H → HalfState H
start_with script host = record {
  master = new_master (master_setup script.check (plan_of_m script)) (numbers_of script.ends) host;
  stations = map (first_side script.check) (station_plans script.ends);
  deceived = 0;
}

-- in a replay it is the node of its plan
abbrev pub start : Script → HalfState NodeState
start script = start_with script (first_node (plan_of_m script))

-- ---- where an event happens

-- the number of the station, if it is one
abbrev pub number_of : Who → Option ℕ
number_of (S number) = Some number
number_of other = None

-- the station of a lane, and which way its bytes go
abbrev pub station_between : Who → Who → ℕ
station_between (S number) to = number
station_between from (S number) = number
station_between from to = 0

abbrev pub way_from : Who → Way
way_from (S number) = ToMaster
way_from other = ToStation

-- the number of the station at which an event happens, or between which and the master its bytes are; none where it happens at the master
abbrev pub station_at : Event → Option ℕ
station_at (event.Issue who src dst payload) = None
station_at (event.Take who n) = number_of who
station_at (event.Deliver lane n) = Some (station_between lane.from lane.to)
station_at (event.Lose lane n) = Some (station_between lane.from lane.to)
station_at (event.Alter lane mask) = Some (station_between lane.from lane.to)
station_at (event.Foreign lane bytes) = Some (station_between lane.from lane.to)
station_at (event.Tick who n) = None

-- ---- the unit steps of an event

-- at the master
abbrev pub master_deeds : Event → List MasterDeed
master_deeds (event.Issue who src dst payload) = Issue src dst payload ∷ []
master_deeds (event.Take who n) = replicate n Give
master_deeds (event.Tick who n) = replicate n Tick
master_deeds other = []

-- at a station, or with the bytes to it or from it
abbrev pub link_deeds : Event → List LinkDeed
link_deeds (event.Issue who src dst payload) = []
link_deeds (event.Take who n) = replicate n StationGives
link_deeds (event.Deliver lane n) = replicate n (OnLane (way_from lane.from) Deliver)
link_deeds (event.Lose lane n) = replicate n (OnLane (way_from lane.from) Lose)
link_deeds (event.Alter lane mask) = OnLane (way_from lane.from) (Alter mask) ∷ []
link_deeds (event.Foreign lane bytes) = map (λ byte. OnLane (way_from lane.from) (Foreign byte)) bytes
link_deeds (event.Tick who n) = []

-- the place of the station with this number
abbrev pub place_of : List LineStationState → ℕ → Option ℕ
place_of stations number = position (λ (side : LineStationState). side.number == number) stations

abbrev pub steps_with : Option ℕ → List LinkDeed → List UnitStep
steps_with None deeds = []
steps_with (Some place) deeds = map (AtStation place) deeds

abbrev pub steps_at : List LineStationState → Option ℕ → Event → List UnitStep
steps_at stations None e = map AtMaster (master_deeds e)
steps_at stations (Some number) e = steps_with (place_of stations number) (link_deeds e)

abbrev pub steps_of : {H : Type 0} → HalfState H → Event → List UnitStep
steps_of s e = steps_at s.stations (station_at e) e

-- ---- events

abbrev pub after_event : {H : Type 0} → Behind H → HalfState H → Event → HalfState H
after_event h s e = after_steps h s (steps_of s e)

-- the end that gives bytes at an event, if one gives any
abbrev pub giver : Option ℕ → Who
giver None = M
giver (Some number) = S number

-- the lines of the unit steps, and then the bytes that were given
abbrev pub lines_of : {H : Type 0} → Behind H → HalfState H → Event → List Line
lines_of h s e = lines_over h s (steps_of s e) ++ sent_lines (giver (station_at e)) (bytes_over h s (steps_of s e))

abbrev pub state_after : {H : Type 0} → Behind H → HalfState H → List Event → HalfState H
state_after h s [] = s
state_after h s (e ∷ events) = state_after h (after_event h s e) events

abbrev pub lines_after : {H : Type 0} → Behind H → HalfState H → List Event → List Line
lines_after h s [] = []
lines_after h s (e ∷ events) = lines_of h s e ++ lines_after h (after_event h s e) events

-- the last state of a run
abbrev pub last_state : Script → HalfState NodeState
last_state script = state_after plain_node (start script) script.events

-- ---- the record

-- the tables of the master, and of a station
abbrev pub tables_of_m : {H : Type 0} → Behind H → HalfState H → DataTables
tables_of_m h s = (h.node s.master.host).station.tables

abbrev pub tables_of : LineStationState → DataTables
tables_of side = side.slave.host.station.tables

-- the words of the stations, in their order
abbrev pub station_words : List LineStationState → List WordOf
station_words stations = flat_map (λ (side : LineStationState). words_of (S side.number) (tables_of side)) stations

-- the words of the master, then those of the stations
abbrev pub all_words : {H : Type 0} → Behind H → HalfState H → List WordOf
all_words h s = words_of M (tables_of_m h s) ++ station_words s.stations

abbrev pub record_from : {H : Type 0} → Behind H → HalfState H → List Line → Record
record_from h s lines = record { lines = lines; words = all_words h s; deceived = s.deceived }

-- the record of a script's run
unfoldable pub record_of : Script → Record
record_of script = record_from plain_node (last_state script) (lines_after plain_node (start script) script.events)
