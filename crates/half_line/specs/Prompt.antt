-- Half-duplex runs that nothing disturbs: no byte is lost, altered or foreign, few ticks come between two states in which nothing is under way, and in the end no reply is left at a station.
use Rattle.std.specs.Prelude.{◌≡◌, ℕ, ◌+◌, ◌*◌, ◌<◌, ◌≤◌, Bool, ◌&&◌, All, List, [], ◌∷◌, slice_get, is_none, length, min, Option, Some, None, IsTrue, if◌then◌else◌}
use Rattle.std.specs.List.{list_all}
use Rattle.df1_node.specs.Node.{NodeState}
use Rattle.half_slave.specs.Slave as slave
use Rattle.half_master.specs.Master as master
use Rattle.script_parts.specs.declared.script.Event.{Event}
use Rattle.script_parts.specs.declared.script.Script.{Script}
use Rattle.script_parts.specs.HalfPlayable.{station_plans}
use Rattle.lane_cells.specs.Cells.{LaneCell}
use Rattle.each_once.specs.NodeHost.{node_host}
use Rattle.half_line.specs.Behind.{plain_node}
use Rattle.half_line.specs.Acts.{LineStationState, HalfState, MasterDeed, Issue, Give, Tick, LaneDeed, Deliver, Lose, Alter, Foreign, lane_of, LinkDeed, StationGives, OnLane}
use Rattle.half_line.specs.Steps.{UnitStep, AtMaster, AtStation, after_step}
use Rattle.half_line.specs.Run.{plan_of_m, start, steps_of, after_event, last_state}

-- ---- quiet

-- a station gives nothing, and no byte is on its way to it or from it
abbrev pub is_idle : LineStationState → Bool
is_idle side = is_none (slice_get side.to_it 0) && (is_none (slice_get side.from_it 0) && is_none (slave.out_at_take side.slave))

-- nothing is under way
abbrev pub is_quiet : HalfState NodeState → Bool
is_quiet s = is_none (master.out_at_take node_host s.master) && list_all is_idle s.stations

-- ---- late ticks: those of the master that came while something was under way

abbrev pub master_ticks : MasterDeed → ℕ
master_ticks (Issue src dst payload) = 0
master_ticks Give = 0
master_ticks Tick = 1

abbrev pub ticks_of : UnitStep → ℕ
ticks_of (AtMaster deed) = master_ticks deed
ticks_of (AtStation place deed) = 0

-- with one step more; where nothing is under way after it, the count begins anew
abbrev pub late_after : ℕ → HalfState NodeState → UnitStep → ℕ
late_after late s step = if is_quiet (after_step plain_node s step) then 0 else (if is_quiet s then late else late + ticks_of step)

-- fewer than the master waits for an ACK, and after a poll
abbrev pub patience : HalfState NodeState → ℕ
patience s = min s.master.setup.ack_ticks s.master.setup.poll_ticks

-- ---- a step loses, alters and adds no byte

abbrev pub IsGentleOn : List LaneCell → LaneDeed → Type 0
IsGentleOn lane Deliver = Unit {0}
IsGentleOn lane Lose = slice_get lane 0 ≡ None
IsGentleOn lane (Alter mask) = slice_get lane 0 ≡ None
IsGentleOn lane (Foreign byte) = ⊥

abbrev pub IsGentleAt : LineStationState → LinkDeed → Type 0
IsGentleAt side StationGives = Unit {0}
IsGentleAt side (OnLane way deed) = IsGentleOn (lane_of way side) deed

abbrev pub IsGentleWith : LinkDeed → Option LineStationState → Type 0
IsGentleWith deed None = Unit {0}
IsGentleWith deed (Some side) = IsGentleAt side deed

abbrev pub IsGentle : HalfState NodeState → UnitStep → Type 0
IsGentle s (AtMaster deed) = Unit {0}
IsGentle s (AtStation place deed) = IsGentleWith deed (slice_get s.stations place)

-- ---- one step after another

abbrev pub late_over : ℕ → HalfState NodeState → List UnitStep → ℕ
late_over late s [] = late
late_over late s (step ∷ steps) = late_over (late_after late s step) (after_step plain_node s step) steps

abbrev pub IsPromptOver : ℕ → HalfState NodeState → List UnitStep → Type 0
IsPromptOver late s [] = Unit {0}
IsPromptOver late s (step ∷ steps) = IsGentle s step × (late_after late s step < patience (after_step plain_node s step)) × IsPromptOver (late_after late s step) (after_step plain_node s step) steps

-- the late ticks after an event
abbrev pub late_event : ℕ → HalfState NodeState → Event → ℕ
late_event late s e = late_over late s (steps_of s e)

abbrev pub IsPromptAfter : ℕ → HalfState NodeState → List Event → Type 0
IsPromptAfter late s [] = Unit {0}
IsPromptAfter late s (e ∷ events) = IsPromptOver late s (steps_of s e) × IsPromptAfter (late_event late s e) (after_event plain_node s e) events

-- ---- a run

-- nothing disturbs it
abbrev pub IsPrompt : Script → Type 0
IsPrompt script = IsPromptAfter 0 (start script) script.events

-- it ends with nothing under way
abbrev pub EndsQuiet : Script → Type 0
EndsQuiet script = IsTrue (is_quiet (last_state script))

-- each station's turn comes in time: the master waits more ticks for a reply than there are polls in as many rounds of all stations as it
-- may have commands out
abbrev pub HasTurns : Script → Type 0
HasTurns script = (plan_of_m script).window * length (station_plans script.ends) < (plan_of_m script).reply_ticks

-- no reply waits at a station's node, and its slave holds none
abbrev pub keeps_none : LineStationState → Bool
keeps_none side = is_none (slice_get side.slave.host.replies 0) && is_none side.slave.held

-- no reply is left at a station
abbrev pub is_fetched : HalfState NodeState → Bool
is_fetched s = list_all keeps_none s.stations

-- so it is in the last state
abbrev pub EndsFetched : Script → Type 0
EndsFetched script = IsTrue (is_fetched (last_state script))

-- each station has room for as many replies as the master may have commands out
abbrev pub HasRooms : Script → Type 0
HasRooms script = All (λ plan. (plan_of_m script).window ≤ plan.room) (station_plans script.ends)

-- a run whose stations have room and their turns in time, that nothing disturbs, that ends with nothing under way and no reply left at a station
pub record IsUndisturbed (script : Script) : Type 0 where
  pub rooms : HasRooms script
  pub prompt : IsPrompt script
  pub quiet : EndsQuiet script
  pub turns : HasTurns script
  pub fetched : EndsFetched script
