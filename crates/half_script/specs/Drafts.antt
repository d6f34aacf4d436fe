-- What the lines of a half-duplex script so far say, what is wrong with a statement that follows them, and what it changes.
use Rattle.std.specs.Prelude.{ℕ, ◌-◌, ◌*◌, Bool, true, false, List, [], ◌∷◌, length, Option, None, Some, is_none, is_some, option_map, not, Result, unwrap_or, nat_le, nat_lt, ◌==◌, ◌&&◌, ◌||◌, if◌then◌else◌}
use Rattle.std.specs.Option.{option_map_or}
use Rattle.df1_check.specs.declared.Check.TheVariants.{Bcc}
use Rattle.end_drafts.specs.declared.end_draft.EndDraft.{EndDraft}
use Rattle.end_drafts.specs.declared.flaw.Flaw.{Flaw}
use Rattle.end_drafts.specs.declared.flaw.Flaw.TheVariants as flaw
use Rattle.end_settings.specs.declared.key.EndKey.{EndKey}
use Rattle.end_settings.specs.declared.key.EndKey.TheVariants.{Node}
use Rattle.end_settings.specs.declared.row.Role.{Role}
use Rattle.end_settings.specs.declared.row.Role.TheVariants as role
use Rattle.end_drafts.specs.declared.stage.Stage.{Stage}
use Rattle.end_drafts.specs.declared.stage.Stage.TheVariants.{Settings}
use Rattle.end_drafts.specs.Drafts.{fresh_end, node_of, plan_of, lacks, exceeds, repeats, with_line}
use Rattle.end_drafts.specs.Flaws.{first_of, unless_wrong}
use Rattle.end_drafts.specs.Stages.{is_fresh, is_set_up, stage_after}
use Rattle.script_statement.specs.declared.who.Who.{Who}
use Rattle.script_statement.specs.declared.who.Who.TheVariants.{M, S}
use Rattle.script_statement.specs.declared.setup_statement.SetupStatement.{SetupStatement}
use Rattle.script_statement.specs.declared.setup_statement.SetupStatement.TheVariants.{Set}
use Rattle.script_statement.specs.declared.half_event.Way.{Way}
use Rattle.script_statement.specs.declared.half_event.Way.TheVariants.{ToStation, ToMaster}
use Rattle.script_statement.specs.declared.half_event.HalfEvent.{HalfEvent}
use Rattle.script_statement.specs.declared.half_event.HalfEvent.TheVariants as half
use Rattle.script_statement.specs.declared.statement.EndName.{EndName}
use Rattle.script_statement.specs.declared.statement.EndName.TheVariants.{Known, Master, Station}
use Rattle.script_statement.specs.declared.statement.Statement.{Statement}
use Rattle.script_statement.specs.declared.statement.Statement.TheVariants as statement
use Rattle.script_statement.specs.declared.statement.Statement.TheVariants.{Mode, Check, Setup, Issue, IssueFrom, Times, Alter, Foreign, Half, End}
use Rattle.script_parts.specs.declared.script.EndPlan.{EndPlan}
use Rattle.script_parts.specs.declared.script.Event.{Event}
use Rattle.script_parts.specs.declared.script.Event.TheVariants as event
use Rattle.script_parts.specs.declared.script.Lane.{Lane}
use Rattle.script_parts.specs.declared.script.Script.{Script}
use Rattle.script_parts.specs.HalfPlayable.{is_declared, master_weight}
use Rattle.script_parts.specs.RoutePlayable.{is_reached}
use Rattle.half_script.specs.declared.reader.HalfReader.{HalfReader}
use Rattle.half_script.specs.declared.stations.StationDraft.{StationDraft}
use Rattle.half_script.specs.Stations.{declared, numbers_in, plans_of, station_at, with_station, with_station_command, with_station_line}

-- after `set mode half` alone, of a master that carries messages between its stations or not: 4,000,000 events may come
abbrev pub fresh_reader : Bool → HalfReader
fresh_reader routes = record { stage = Settings; routes = routes; check = None; master = fresh_end; stations = []; events_left = 4000000 }

-- the numbers of the stations that are declared
abbrev pub numbers : HalfReader → List ℕ
numbers d = numbers_in d.stations

-- what is known of an end, where there is such an end
abbrev pub draft_at : HalfReader → EndName → Option EndDraft
draft_at d (Known side) = None
draft_at d Master = Some d.master
draft_at d (Station number) = option_map (λ (station : StationDraft). station.end) (station_at d.stations number)

-- the kind of an end, on a line whose master carries messages or not
abbrev pub role_of : Bool → EndName → Role
role_of routes (Known side) = role.Duplex
role_of routes Master = role.Master
role_of routes (Station number) = if routes then role.RoutedStation else role.Station

-- the address of the master, which is 0 where no line sets it
abbrev pub master_node : HalfReader → ℕ
master_node d = node_of d.master 0

-- ---- what may be wrong with a statement, one test for each flaw

-- `set mode` isn't first, or a setting, a station, a file or a word comes after an event
abbrev pub is_misplaced : Stage → Statement → Bool
is_misplaced stage (Mode half) = not (is_fresh stage)
is_misplaced stage (Check check) = is_set_up stage
is_misplaced stage (statement.Station number) = is_set_up stage
is_misplaced stage (Setup end line) = is_set_up stage
is_misplaced stage statement = false

-- the station that a way joins with the master
abbrev pub station_of : Way → ℕ
station_of (ToStation station) = station
station_of (ToMaster station) = station

-- the station that an event names, if it names one
abbrev pub named_by : HalfEvent → Option ℕ
named_by (half.Issue station payload) = Some station
named_by (half.IssueFrom station src payload) = Some station
named_by (half.StationIssue station to payload) = Some station
named_by (half.MasterTake n) = None
named_by (half.MasterTick n) = None
named_by (half.StationTake station n) = Some station
named_by (half.Deliver way n) = Some (station_of way)
named_by (half.Lose way n) = Some (station_of way)
named_by (half.Alter way mask) = Some (station_of way)
named_by (half.Foreign way bytes) = Some (station_of way)

-- an event names a station that isn't declared
abbrev pub names_none : HalfReader → HalfEvent → Bool
names_none d event = option_map_or (λ station. not (is_declared (numbers d) station)) (named_by event) false

-- a command of a station is for neither another station nor the master, or the master carries none
abbrev pub leads_nowhere : HalfReader → HalfEvent → Bool
leads_nowhere d (half.StationIssue station to payload) = not (d.routes && is_reached (numbers d) (master_node d) station to)
leads_nowhere d event = false

-- it names an end or an event that half duplex hasn't, a station that isn't declared, an end to which no command of a station gets, a key that isn't for that end, or a file that isn't declared
abbrev pub is_missing : HalfReader → Statement → Bool
is_missing d (Setup end line) = option_map_or (λ draft. lacks (role_of d.routes end) draft line) (draft_at d end) true
is_missing d (Issue side payload) = true
is_missing d (IssueFrom side src payload) = true
is_missing d (Times side verb n) = true
is_missing d (Alter side mask) = true
is_missing d (Foreign side bytes) = true
is_missing d (Half event) = leads_nowhere d event || names_none d event
is_missing d statement = false

-- a number or a length of an event is out of its range
abbrev pub is_outside : HalfEvent → Bool
is_outside (half.Issue station payload) = is_none payload
is_outside (half.IssueFrom station src payload) = is_none src || is_none payload
is_outside (half.StationIssue station to payload) = is_none payload
is_outside (half.MasterTake n) = is_none n
is_outside (half.MasterTick n) = is_none n
is_outside (half.StationTake station n) = is_none n
is_outside (half.Deliver way n) = is_none n
is_outside (half.Lose way n) = is_none n
is_outside (half.Alter way mask) = is_none mask
is_outside (half.Foreign way bytes) = is_none bytes

-- the number of a station is the address of a master that carries messages
abbrev pub is_masters : HalfReader → Option ℕ → Bool
is_masters d number = option_map_or (λ n. d.routes && (n == master_node d)) number false

-- a number, a word or a length of a line of an end is out of its range, or a compatibility file is of another type than bit or integer
abbrev pub exceeds_at : HalfReader → EndName → SetupStatement → Bool
exceeds_at d end line = option_map_or (λ draft. exceeds draft line) (draft_at d end) false

-- a master that carries messages would have this address, which is the number of a station
abbrev pub is_stations : HalfReader → EndKey → Option ℕ → Bool
is_stations d Node (Some node) = d.routes && is_declared (numbers d) node
is_stations d key value = false

-- a line gives a master that carries messages the number of a station as its address
abbrev pub names_station : HalfReader → EndName → SetupStatement → Bool
names_station d Master (Set setting) = is_stations d setting.key setting.value
names_station d end line = false

-- a number, a word or a length is out of its range, the station is the 33rd, a master that carries messages would have the address of a station, or a compatibility file is of another type than bit or integer
abbrev pub is_out_of_range : HalfReader → Statement → Bool
is_out_of_range d (Check check) = is_none check
is_out_of_range d (statement.Station number) = (is_none number || nat_le 32 (length d.stations)) || is_masters d number
is_out_of_range d (Setup end line) = exceeds_at d end line || names_station d end line
is_out_of_range d (Half event) = is_outside event
is_out_of_range d statement = false

-- an earlier line gave the key, the station, the file or the word
abbrev pub is_twice : HalfReader → Statement → Bool
is_twice d (Check check) = is_some d.check
is_twice d (statement.Station number) = option_map_or (λ station. is_declared (numbers d) station) number false
is_twice d (Setup end line) = option_map_or (λ draft. repeats draft line) (draft_at d end) false
is_twice d statement = false

-- it is a command of an end that may issue no more
abbrev pub is_spent : HalfReader → Statement → Bool
is_spent d (Half (half.Issue station payload)) = d.master.commands_left == 0
is_spent d (Half (half.IssueFrom station src payload)) = d.master.commands_left == 0
is_spent d (Half (half.StationIssue station to payload)) = option_map_or (λ (s : StationDraft). s.end.commands_left == 0) (station_at d.stations station) false
is_spent d statement = false

-- how many events an event of a line counts: each byte of the master goes into the queue of each station
abbrev pub event_steps : List ℕ → HalfEvent → ℕ
event_steps numbers (half.Issue station payload) = 1
event_steps numbers (half.IssueFrom station src payload) = 1
event_steps numbers (half.StationIssue station to payload) = 1
event_steps numbers (half.MasterTake n) = unwrap_or n 0 * master_weight numbers
event_steps numbers (half.MasterTick n) = unwrap_or n 0
event_steps numbers (half.StationTake station n) = unwrap_or n 0
event_steps numbers (half.Deliver way n) = unwrap_or n 0
event_steps numbers (half.Lose way n) = unwrap_or n 0
event_steps numbers (half.Alter way mask) = 1
event_steps numbers (half.Foreign way bytes) = option_map_or (λ all. length all) bytes 0

-- how many events a statement counts
abbrev pub steps_of : HalfReader → Statement → ℕ
steps_of d (Half event) = event_steps (numbers d) event
steps_of d statement = 0

-- the sum of events passes 4,000,000
abbrev pub is_too_many : HalfReader → Statement → Bool
is_too_many d statement = nat_lt d.events_left (steps_of d statement)

-- what is wrong with a statement
abbrev pub flaw_of : HalfReader → Statement → Option Flaw
flaw_of d statement = first_of (
    (is_misplaced d.stage statement, flaw.Place)
    ∷ (is_missing d statement, flaw.Missing)
    ∷ (is_out_of_range d statement, flaw.Value)
    ∷ (is_twice d statement, flaw.Twice)
    ∷ (is_spent d statement, flaw.Spent)
    ∷ (is_too_many d statement, flaw.Events)
    ∷ [])

-- ---- what a statement changes

-- a line of an end
abbrev pub with_end_line : HalfReader → EndName → SetupStatement → HalfReader
with_end_line d (Known side) line = d
with_end_line d Master line = record d { master = with_line M d.master line }
with_end_line d (Station number) line = record d { stations = with_station_line d.stations number line }

-- a statement is a line of an end
abbrev pub sets_up : Statement → Bool
sets_up (Setup end line) = true
sets_up statement = false

-- what a statement changes beside the stage and the sum of events
abbrev pub settled : HalfReader → Statement → HalfReader
settled d (Check (Some check)) = record d { check = Some check }
settled d (statement.Station (Some number)) = record d { stations = with_station d.stations number }
settled d (Setup end line) = with_end_line d end line
settled d (Half (half.Issue station payload)) = record d { master = record d.master { commands_left = d.master.commands_left - 1 } }
settled d (Half (half.IssueFrom station src payload)) = record d { master = record d.master { commands_left = d.master.commands_left - 1 } }
settled d (Half (half.StationIssue station to payload)) = record d { stations = with_station_command d.stations station }
settled d statement = d

abbrev pub who_at : List ℕ → ℕ → Option Who
who_at numbers station = option_map S (declared numbers station)

-- the queue of a way
abbrev pub lane_to : ℕ → Lane
lane_to station = record { from = M; to = S station }

abbrev pub lane_from : ℕ → Lane
lane_from station = record { from = S station; to = M }

abbrev pub lane_at : List ℕ → Way → Option Lane
lane_at numbers (ToStation station) = option_map lane_to (declared numbers station)
lane_at numbers (ToMaster station) = option_map lane_from (declared numbers station)

-- a command of the master to a station, in the name of a source or else in its own
abbrev pub issued : Option ℕ → Option ℕ → Option (List ℕ) → Option Event
issued src (Some station) (Some payload) = Some (event.Issue M src station payload)
issued src station payload = None

abbrev pub issued_from : Option ℕ → Option ℕ → Option (List ℕ) → Option Event
issued_from None station payload = None
issued_from (Some src) station payload = issued (Some src) station payload

-- a command of an end, in its own name
abbrev pub issued_by : Option Who → Option ℕ → Option (List ℕ) → Option Event
issued_by (Some who) (Some dst) (Some payload) = Some (event.Issue who None dst payload)
issued_by who dst payload = None

-- a number, where it can be an address
abbrev pub address_of : ℕ → Option ℕ
address_of number = if nat_le number 255 then Some number else None

abbrev pub taken : Option Who → Option ℕ → Option Event
taken (Some who) (Some n) = Some (event.Take who n)
taken who n = None

abbrev pub ticked : Option ℕ → Option Event
ticked None = None
ticked (Some n) = Some (event.Tick M n)

abbrev pub delivered : Option Lane → Option ℕ → Option Event
delivered (Some lane) (Some n) = Some (event.Deliver lane n)
delivered lane n = None

abbrev pub lost : Option Lane → Option ℕ → Option Event
lost (Some lane) (Some n) = Some (event.Lose lane n)
lost lane n = None

abbrev pub altered : Option Lane → Option ℕ → Option Event
altered (Some lane) (Some mask) = Some (event.Alter lane mask)
altered lane mask = None

abbrev pub heard : Option Lane → Option (List ℕ) → Option Event
heard (Some lane) (Some bytes) = Some (event.Foreign lane bytes)
heard lane bytes = None

-- the event of a half-duplex line, where its station is declared and its values are there
abbrev pub happening : List ℕ → HalfEvent → Option Event
happening numbers (half.Issue station payload) = issued None (declared numbers station) payload
happening numbers (half.IssueFrom station src payload) = issued_from src (declared numbers station) payload
happening numbers (half.StationIssue station to payload) = issued_by (who_at numbers station) (address_of to) payload
happening numbers (half.MasterTake n) = taken (Some M) n
happening numbers (half.MasterTick n) = ticked n
happening numbers (half.StationTake station n) = taken (who_at numbers station) n
happening numbers (half.Deliver way n) = delivered (lane_at numbers way) n
happening numbers (half.Lose way n) = lost (lane_at numbers way) n
happening numbers (half.Alter way mask) = altered (lane_at numbers way) mask
happening numbers (half.Foreign way bytes) = heard (lane_at numbers way) bytes

-- the event that a statement is
abbrev pub event_of : List ℕ → Statement → Option Event
event_of numbers (Half event) = happening numbers event
event_of numbers statement = None

-- the stage and the sum of events after a statement
abbrev pub counted : HalfReader → Statement → HalfReader
counted d statement = record d { stage = stage_after statement; events_left = d.events_left - steps_of d statement }

-- what is known after a statement, and its event
abbrev pub with_statement : HalfReader → Statement → HalfReader × Option Event
with_statement d statement = (settled (counted d statement) statement, event_of (numbers (settled (counted d statement) statement)) statement)

-- a statement after those so far
abbrev pub after_statement : HalfReader → Statement → Result (HalfReader × Option Event) Flaw
after_statement d statement = unless_wrong (flaw_of d statement) (with_statement d statement)

-- ---- the script

-- the plans of the master, whose address is 0 where no line sets it, and of the stations
abbrev pub ends_of : HalfReader → List EndPlan
ends_of d = plan_of M 0 d.master ∷ plans_of d.stations

abbrev pub script_with : HalfReader → List Event → Script
script_with d events = record { half = true; check = unwrap_or d.check Bcc; ends = ends_of d; events = events }
