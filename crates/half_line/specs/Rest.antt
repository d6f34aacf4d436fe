-- A half-duplex line at rest, and what follows for the commands that the master hands out from there on, whatever happened before.
use Rattle.std.specs.Prelude.{◌≡◌, ◌≤◌, ℕ, Bool, true, false, ◌&&◌, List, ◌++◌, length}
use Rattle.std.specs.List.{list_all}
use Rattle.std.specs.Option.{option_map_or}
use Rattle.df1_node.specs.Initiator.{is_waiting}
use Rattle.df1_node.specs.Node.{NodeState}
use Rattle.half_frame.specs.SlaveStanding as call
use Rattle.half_frame.specs.MasterStanding as answer
use Rattle.half_master.specs.Master.{MasterState}
use Rattle.half_master.specs.Master as master
use Rattle.script_parts.specs.declared.script.Event.{Event}
use Rattle.script_parts.specs.declared.script.Script.{Script}
use Rattle.replay_report.specs.declared.record.Record.{Record}
use Rattle.each_once.specs.Commands.{command_at}
use Rattle.half_line.specs.Behind.{plain_node}
use Rattle.half_line.specs.Acts.{LineStationState, HalfState}
use Rattle.half_line.specs.Complete.{IsAnsweredByOne}
use Rattle.half_line.specs.Issues.{commands_of_m, issued_of}
use Rattle.half_line.specs.Prompt.{is_quiet, keeps_none, IsPromptAfter, EndsQuiet, EndsFetched, HasRooms, HasTurns}
use Rattle.half_line.specs.Run.{start, state_after, last_state}

-- ---- rest

-- a station's ear that takes the next byte for the first of an item
abbrev pub is_between_calls : call.Standing → Bool
is_between_calls call.Outside = true
is_between_calls (call.Ended body) = true
is_between_calls call.AfterDle = false
is_between_calls call.AfterSoh = false
is_between_calls call.AfterEnq = false
is_between_calls (call.AtPollCheck stn) = false
is_between_calls (call.AfterStation stn) = false
is_between_calls (call.AfterStationDle stn) = false
is_between_calls (call.AtText stn at) = false

-- the master's ear that takes the next byte for the first of an item
abbrev pub is_between_answers : answer.Standing → Bool
is_between_answers answer.Outside = true
is_between_answers (answer.Ended body) = true
is_between_answers answer.AfterDle = false
is_between_answers (answer.AtText at) = false

-- no reply is left at a station, and its ear is inside no item
abbrev pub is_resting : LineStationState → Bool
is_resting side = keeps_none side && is_between_calls side.slave.ear.standing

-- nothing is under way, the master waits for nothing, no reply is left at a station, and no ear is inside an item
abbrev pub is_at_rest : HalfState NodeState → Bool
is_at_rest s = is_quiet s && (master.is_idle s.master.phase && (is_between_answers s.master.ear.standing && list_all is_resting s.stations))

-- a run that is at rest after the events `front`, where no end was deceived so far, and that nothing disturbs from there on; it ends
-- with nothing under way and no reply left at a station, and its stations have room and their turns in time
pub record IsCalmAfter (script : Script) (front rest : List Event) : Type 0 where
  pub events : script.events ≡ front ++ rest
  pub undeceived : (state_after plain_node (start script) front).deceived ≡ 0
  pub at_rest : is_at_rest (state_after plain_node (start script) front) ≡ true
  pub prompt : IsPromptAfter 0 (state_after plain_node (start script) front) rest
  pub quiet : EndsQuiet script
  pub fetched : EndsFetched script
  pub rooms : HasRooms script
  pub turns : HasTurns script

-- ---- what follows

-- command n of the master, counted from 1, wasn't handed out yet: it waits, or isn't issued yet
abbrev pub is_to_come : MasterState NodeState → ℕ → Bool
is_to_come m n = option_map_or (λ c. is_waiting c.standing) (command_at (issued_of m) n) true

-- no end was deceived, and each command that the master handed out after the events `front` was answered, by what a station of the
-- script answered to that very command
pub record IsWellAfter (script : Script) (front : List Event) (r : Record) : Type 0 where
  pub honest : r.deceived ≡ 0
  pub answered : (n : ℕ) → 1 ≤ n → n ≤ length (commands_of_m script) → is_to_come (state_after plain_node (start script) front).master n ≡ true → is_to_come (last_state script).master n ≡ false → IsAnsweredByOne script r n
