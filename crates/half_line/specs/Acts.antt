-- The unit steps on a half-duplex line between a master and its stations: what each does to the ends and to the bytes on their way.
use Rattle.std.specs.Prelude.{ℕ, ◌+◌, Bool, true, false, List, [], ◌∷◌, ◌++◌, drop, map, slice_get, unwrap_or, Option, Some, None}
use Rattle.std.specs.Option.{option_map, option_to_list}
use Rattle.df1_base.specs.declared.host.Did.{Did}
use Rattle.df1_base.specs.declared.host.Did.TheVariants as did
use Rattle.df1_base.specs.declared.link.Act.{Act}
use Rattle.df1_base.specs.declared.link.Act.TheVariants as act
use Rattle.df1_base.specs.declared.link.Step.{Step}
use Rattle.df1_node.specs.Node.{NodeState, after_node_issue}
use Rattle.half_slave.specs.Slave.{SlaveState, slave_after_byte, slave_after_take}
use Rattle.half_slave.specs.Slave as slave
use Rattle.half_master.specs.Master.{MasterState, with_host, master_after_byte, master_after_tick, turn_at_tick, gone_at_tick, master_after_take}
use Rattle.half_master.specs.Master as master
use Rattle.script_statement.specs.declared.who.Who.{Who}
use Rattle.script_statement.specs.declared.who.Who.TheVariants.{M, S}
use Rattle.replay_report.specs.declared.record.Line.{Line}
use Rattle.replay_report.specs.declared.record.Line.TheVariants as line
use Rattle.lane_cells.specs.Cells.{LaneCell, altered, bare, cell_of}
use Rattle.lane_cells.specs.Deception.{deceptions, station_deceptions}
use Rattle.each_once.specs.NodeHost.{node_host}
use Rattle.report_lines.specs.NodeLines.{act_lines, news_lines, turn_lines, gone_lines}
use Rattle.half_line.specs.Behind.{Behind}
use Rattle.half_line.specs.declared.way.Way.{Way}
use Rattle.half_line.specs.declared.way.Way.TheVariants.{ToStation, ToMaster}

-- a station with its number and its node, the bytes on their way to it, and those on their way from it
pub record LineStationState : Type 0 where
  pub number : ℕ
  pub slave : SlaveState NodeState
  pub to_it : List LaneCell
  pub from_it : List LaneCell

-- a master, its stations, and how often an end was deceived
pub record HalfState (H : Type 0) : Type 0 where
  pub master : MasterState H
  pub stations : List LineStationState
  pub deceived : ℕ

-- the master and one station alone
pub record LinkState (H : Type 0) : Type 0 where
  pub master : MasterState H
  pub side : LineStationState
  pub deceived : ℕ

abbrev pub half_state : {H : Type 0} → MasterState H → List LineStationState → ℕ → HalfState H
half_state m stations deceived = record { master = m; stations = stations; deceived = deceived }

abbrev pub link_state : {H : Type 0} → MasterState H → LineStationState → ℕ → LinkState H
link_state m side deceived = record { master = m; side = side; deceived = deceived }

-- ---- at the master

-- what happens at the master
pub data MasterDeed : Type 0 where
  Issue : (src : Option ℕ) (dst : ℕ) (payload : List ℕ) → MasterDeed
  Give : MasterDeed
  Tick : MasterDeed

-- a command is issued in the name of a source, or else in that of the node itself
abbrev pub after_issue : {H : Type 0} → Behind H → MasterState H → Option ℕ → ℕ → List ℕ → MasterState H
after_issue h m src dst payload = with_host m (h.with_node m.host (after_node_issue (h.node m.host) (unwrap_or src (h.node m.host).initiator.node) dst payload))

-- the cells that a take puts into each lane: one, or none where the master has nothing to give
abbrev pub cells_given : {H : Type 0} → Behind H → MasterState H → List LaneCell
cells_given h m = option_to_list (option_map (cell_of (master_after_take h.host m).sending) (master.out_at_take h.host m))

-- the byte that a take gives
abbrev pub byte_given : {H : Type 0} → Behind H → MasterState H → Option ℕ
byte_given h m = option_map (λ out. out.byte) (master.out_at_take h.host m)

abbrev pub master_after : {H : Type 0} → Behind H → MasterState H → MasterDeed → MasterState H
master_after h m (Issue src dst payload) = after_issue h m src dst payload
master_after h m Give = master_after_take h.host m
master_after h m Tick = master_after_tick h.host m

-- cells join the lane to a station
abbrev pub joined : List LaneCell → LineStationState → LineStationState
joined cells side = record side { to_it = side.to_it ++ cells }

-- a byte of the master joins the lane to each station
abbrev pub stations_after : {H : Type 0} → Behind H → List LineStationState → MasterState H → MasterDeed → List LineStationState
stations_after h stations m (Issue src dst payload) = stations
stations_after h stations m Give = map (joined (cells_given h m)) stations
stations_after h stations m Tick = stations

abbrev pub after_master_deed : {H : Type 0} → Behind H → HalfState H → MasterDeed → HalfState H
after_master_deed h s deed = record {
  master = master_after h s.master deed;
  stations = stations_after h s.stations s.master deed;
  deceived = s.deceived;
}

-- the lines: at a tick first that of the message that was given up, then the unanswered commands
abbrev pub master_lines : {H : Type 0} → Behind H → MasterState H → MasterDeed → List Line
master_lines h m (Issue src dst payload) = []
master_lines h m Give = []
master_lines h m Tick = turn_lines M (turn_at_tick h.host m) ++ gone_lines M (gone_at_tick h.host m)

-- the bytes that the master gives
abbrev pub master_bytes : {H : Type 0} → Behind H → MasterState H → MasterDeed → List ℕ
master_bytes h m (Issue src dst payload) = []
master_bytes h m Give = option_to_list (byte_given h m)
master_bytes h m Tick = []

-- ---- with the bytes between the master and a station

-- what happens to the bytes of a lane: its head arrives, is lost or altered; or a byte arrives that isn't of the lane
pub data LaneDeed : Type 0 where
  Deliver : LaneDeed
  Lose : LaneDeed
  Alter : (mask : ℕ) → LaneDeed
  Foreign : (byte : ℕ) → LaneDeed

-- the lane that goes this way
abbrev pub lane_of : Way → LineStationState → List LaneCell
lane_of ToStation side = side.to_it
lane_of ToMaster side = side.from_it

abbrev pub with_lane : Way → LineStationState → List LaneCell → LineStationState
with_lane ToStation side lane = record side { to_it = lane }
with_lane ToMaster side lane = record side { from_it = lane }

-- what is left of a lane
abbrev pub lane_after : List LaneCell → LaneDeed → List LaneCell
lane_after lane Deliver = drop 1 lane
lane_after lane Lose = drop 1 lane
lane_after lane (Alter mask) = altered mask lane
lane_after lane (Foreign byte) = lane

-- what arrives
abbrev pub arriving : List LaneCell → LaneDeed → Option LaneCell
arriving lane Deliver = slice_get lane 0
arriving lane Lose = None
arriving lane (Alter mask) = None
arriving lane (Foreign byte) = Some (bare byte)

-- the end at which bytes arrive that go this way
abbrev pub hearer : Way → LineStationState → Who
hearer ToStation side = S side.number
hearer ToMaster side = M

-- what that end makes of a cell
abbrev pub step_of : {H : Type 0} → Behind H → Way → LinkState H → LaneCell → Step
step_of h ToStation s cell = slave.step_at_byte node_host s.side.slave cell.byte
step_of h ToMaster s cell = master.step_at_byte h.host s.master cell.byte

-- the body of the message that is heard at a cell
abbrev pub body_heard : {H : Type 0} → Behind H → Way → LinkState H → LaneCell → List ℕ
body_heard h ToStation s cell = slave.body_of (slave_after_byte node_host s.side.slave cell.byte)
body_heard h ToMaster s cell = master.body_of (master_after_byte h.host s.master cell.byte)

-- how often the end is deceived at a cell: a station also by a message that names another station than its transmission
abbrev pub deceptions_of : Way → Step → LaneCell → List ℕ → ℕ
deceptions_of ToStation step cell body = station_deceptions step.whole step.station cell.ends body
deceptions_of ToMaster step cell body = deceptions step.whole cell.ends body

abbrev pub deceptions_at : {H : Type 0} → Behind H → Way → LinkState H → LaneCell → ℕ
deceptions_at h way s cell = deceptions_of way (step_of h way s cell) cell (body_heard h way s cell)

-- the station hears a byte, or the master does
abbrev pub station_heard : LineStationState → ℕ → LineStationState
station_heard side byte = record side { slave = slave_after_byte node_host side.slave byte }

abbrev pub side_after_cell : Way → LineStationState → LaneCell → LineStationState
side_after_cell ToStation side cell = station_heard side cell.byte
side_after_cell ToMaster side cell = side

abbrev pub master_after_cell : {H : Type 0} → Behind H → Way → MasterState H → LaneCell → MasterState H
master_after_cell h ToStation m cell = m
master_after_cell h ToMaster m cell = master_after_byte h.host m cell.byte

-- a cell arrives
abbrev pub after_cell : {H : Type 0} → Behind H → Way → LinkState H → LaneCell → LinkState H
after_cell h way s cell = record {
  master = master_after_cell h way s.master cell;
  side = side_after_cell way s.side cell;
  deceived = s.deceived + deceptions_at h way s cell;
}

abbrev pub after_arrival : {H : Type 0} → Behind H → Way → LinkState H → Option LaneCell → LinkState H
after_arrival h way s None = s
after_arrival h way s (Some cell) = after_cell h way s cell

-- whether a host that carries a body does so here: the master's host does, and a station's doesn't
abbrev pub carries_at : Bool → Way → Bool
carries_at false way = false
carries_at true ToStation = false
carries_at true ToMaster = true

-- the line of an act with a message that a host carries: an accepted one is told as routed, and not as astray
abbrev pub routed_lines : Who → Act → Option Did → List ℕ → List Line
routed_lines who act.Accept (Some did.Stray) body = line.Routed who body ∷ []
routed_lines who what done body = act_lines who what done body

abbrev pub act_lines_at : Bool → Who → Act → Option Did → List ℕ → List Line
act_lines_at false who what done body = act_lines who what done body
act_lines_at true who what done body = routed_lines who what done body

-- at a byte: where nothing is carried, as of every end
abbrev pub step_lines_at : Bool → Who → Step → List ℕ → List Line
step_lines_at carries who step body = act_lines_at carries who step.act step.did body ++ news_lines who step.news

-- the host carries the body that is heard at a cell to a station
abbrev pub is_carried_at : {H : Type 0} → Behind H → Way → LinkState H → LaneCell → Bool
is_carried_at h way s cell = carries_at (h.carries (master_after_cell h way s.master cell).host (body_heard h way s cell)) way

-- the lines at a cell that arrives
abbrev pub cell_lines : {H : Type 0} → Behind H → Way → LinkState H → LaneCell → List Line
cell_lines h way s cell = step_lines_at (is_carried_at h way s cell) (hearer way s.side) (step_of h way s cell) (body_heard h way s cell)

abbrev pub arrival_lines : {H : Type 0} → Behind H → Way → LinkState H → Option LaneCell → List Line
arrival_lines h way s None = []
arrival_lines h way s (Some cell) = cell_lines h way s cell

-- the station with what is left of a lane
abbrev pub side_moved : Way → LineStationState → LaneDeed → LineStationState
side_moved way side deed = with_lane way side (lane_after (lane_of way side) deed)

abbrev pub moved : {H : Type 0} → Way → LinkState H → LaneDeed → LinkState H
moved way s deed = record { master = s.master; side = side_moved way s.side deed; deceived = s.deceived }

-- ---- at a station, or with the bytes to it or from it

pub data LinkDeed : Type 0 where
  StationGives : LinkDeed
  OnLane : (way : Way) (deed : LaneDeed) → LinkDeed

-- the cells that a take of the station puts into its lane
abbrev pub taken : LineStationState → List LaneCell
taken side = option_to_list (option_map (cell_of (slave_after_take side.slave).sending) (slave.out_at_take side.slave))

-- the byte that it gives
abbrev pub byte_taken : LineStationState → Option ℕ
byte_taken side = option_map (λ out. out.byte) (slave.out_at_take side.slave)

abbrev pub after_take : LineStationState → LineStationState
after_take side = record { number = side.number; slave = slave_after_take side.slave; to_it = side.to_it; from_it = side.from_it ++ taken side }

abbrev pub after_link_deed : {H : Type 0} → Behind H → LinkState H → LinkDeed → LinkState H
after_link_deed h s StationGives = record { master = s.master; side = after_take s.side; deceived = s.deceived }
after_link_deed h s (OnLane way deed) = after_arrival h way (moved way s deed) (arriving (lane_of way s.side) deed)

abbrev pub link_lines : {H : Type 0} → Behind H → LinkState H → LinkDeed → List Line
link_lines h s StationGives = []
link_lines h s (OnLane way deed) = arrival_lines h way s (arriving (lane_of way s.side) deed)

-- the bytes that the station gives
abbrev pub link_bytes : LineStationState → LinkDeed → List ℕ
link_bytes side StationGives = option_to_list (byte_taken side)
link_bytes side (OnLane way deed) = []
