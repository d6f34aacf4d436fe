-- The world of a half-duplex script: what it holds while the script is played, and which event may come next.
use Rattle.std.specs.Prelude.{◌≡◌, ℕ, ◌+◌, ◌<◌, ◌≤◌, Bool, true, false, List, [], ◌++◌, length, map, slice_get, slice_set, Option, Some, None, IfSome}
use Rattle.std.specs.Option.{option_map}
use Rattle.df1_node.specs.Initiator.{InitiatorState, issue_fault}
use Rattle.df1_node.specs.Node.{NodeState, after_node_issue}
use Rattle.half_slave.specs.Slave.{with_host}
use Rattle.half_master.specs.Master.{MasterState}
use Rattle.script_statement.specs.declared.who.Who.{Who}
use Rattle.script_statement.specs.declared.who.Who.TheVariants.{M, S}
use Rattle.script_parts.specs.declared.script.Event.{Event}
use Rattle.script_parts.specs.declared.script.Event.TheVariants as event
use Rattle.script_parts.specs.declared.script.Script.{Script}
use Rattle.script_parts.specs.HalfPlayable.{IsHalfPossible, half_count_of}
use Rattle.replay_report.specs.declared.record.Line.{Line}
use Rattle.outset.specs.Outset.{first_node}
use Rattle.half_line.specs.Behind.{Behind}
use Rattle.half_line.specs.Acts.{LineStationState, HalfState}
use Rattle.half_line.specs.Run.{plan_of_m, start_with, after_event, lines_of, place_of}

-- the state, the lines of the report so far, and the sum of the events so far
pub record Played (H : Type 0) : Type 0 where
  pub state : HalfState H
  pub lines : List Line
  pub events : ℕ

-- the numbers of the stations
abbrev pub numbers_at : List LineStationState → List ℕ
numbers_at stations = map (λ (side : LineStationState). side.number) stations

-- before the first event of a script, with this host behind the master
abbrev pub begun_with : {H : Type 0} → Script → H → Played H
begun_with script host = record { state = start_with script host; lines = []; events = 0 }

-- in a replay it is the node of its plan
abbrev pub begun : Script → Played NodeState
begun script = begun_with script (first_node (plan_of_m script))

-- how many events an event counts
abbrev pub weight : {H : Type 0} → Played H → Event → ℕ
weight p e = half_count_of (numbers_at p.state.stations) e

-- after an event more
abbrev pub played : {H : Type 0} → Behind H → Played H → Event → Played H
played h p e = record { state = after_event h p.state e; lines = p.lines ++ lines_of h p.state e; events = p.events + weight p e }

-- after the lines so far are printed
abbrev pub printed : {H : Type 0} → Played H → Played H
printed p = record p { lines = [] }

-- the initiator of the station at a place, if there is one
abbrev pub initiator_at : List LineStationState → Option ℕ → Option InitiatorState
initiator_at stations None = None
initiator_at stations (Some place) = option_map (λ (side : LineStationState). side.slave.host.initiator) (slice_get stations place)

-- the initiator of an end, where the line has that end
abbrev pub initiator_of : {H : Type 0} → Behind H → HalfState H → Who → Option InitiatorState
initiator_of h s M = Some (h.node s.master.host).initiator
initiator_of h s (S number) = initiator_at s.stations (place_of s.stations number)
initiator_of h s other = None

-- what the events of a world may sum to, as those of a script that can be played
abbrev pub most_events : ℕ
most_events = 5000000

-- how many commands the master has issued
abbrev pub issued_by : {H : Type 0} → Behind H → MasterState H → ℕ
issued_by h m = length (h.node m.host).initiator.issued

-- a command is not the master's 65,536th
abbrev pub IsUnspent : {H : Type 0} → Behind H → MasterState H → Event → Type 0
IsUnspent h m (event.Issue who src dst payload) = issued_by h m < 65535
IsUnspent h m (event.Take who n) = Unit {0}
IsUnspent h m (event.Deliver lane n) = Unit {0}
IsUnspent h m (event.Lose lane n) = Unit {0}
IsUnspent h m (event.Alter lane mask) = Unit {0}
IsUnspent h m (event.Foreign lane bytes) = Unit {0}
IsUnspent h m (event.Tick who n) = Unit {0}

-- an event that may happen next
pub record IsNext {H : Type 0} (h : Behind H) (p : Played H) (e : Event) : Type 0 where
  pub possible : IsHalfPossible (numbers_at p.state.stations) e
  pub unspent : IsUnspent h p.state.master e
  pub sum : p.events + weight p e ≤ most_events

-- ---- a station issues a command, by a call of its own: no event of a script does so

-- its node does, in its own name
abbrev pub side_issued : LineStationState → ℕ → List ℕ → LineStationState
side_issued side dst payload = record side { slave = with_host side.slave (after_node_issue side.slave.host side.slave.host.initiator.node dst payload) }

-- where no station is, nothing happens
abbrev pub issued_with : List LineStationState → ℕ → ℕ → List ℕ → Option LineStationState → List LineStationState
issued_with stations place dst payload None = stations
issued_with stations place dst payload (Some side) = slice_set stations place (side_issued side dst payload)

abbrev pub stations_issued : List LineStationState → Option ℕ → ℕ → List ℕ → List LineStationState
stations_issued stations None dst payload = stations
stations_issued stations (Some place) dst payload = issued_with stations place dst payload (slice_get stations place)

-- after the station of this number issued; it counts as one event
abbrev pub issued_at : {H : Type 0} → Played H → ℕ → ℕ → List ℕ → Played H
issued_at p number dst payload = record p {
  state = record p.state { stations = stations_issued p.state.stations (place_of p.state.stations number) dst payload };
  events = p.events + 1;
}

-- the station of this number, if there is one, may issue a command of this payload
pub record MayIssueAt {H : Type 0} (p : Played H) (number : ℕ) (payload : List ℕ) : Type 0 where
  pub unspent : IfSome (initiator_at p.state.stations (place_of p.state.stations number)) (λ initiator. issue_fault initiator payload ≡ None)
  pub sum : p.events + 1 ≤ most_events

-- ---- what takes no memory

-- an event that takes bytes away or changes one: it takes no memory
abbrev pub takes_no_memory : Event → Bool
takes_no_memory (event.Issue who src dst payload) = false
takes_no_memory (event.Take who n) = false
takes_no_memory (event.Deliver lane n) = false
takes_no_memory (event.Lose lane n) = true
takes_no_memory (event.Alter lane mask) = true
takes_no_memory (event.Foreign lane bytes) = false
takes_no_memory (event.Tick who n) = false
