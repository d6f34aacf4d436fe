-- A line at rest, and what follows for the commands that its ends hand out from there on, whatever happened before.
use Rattle.std.specs.Prelude.{◌≡◌, ◌≤◌, ◌⊎◌, ℕ, Bool, true, false, ◌&&◌, not, List, ◌++◌, length}
use Rattle.std.specs.Option.{option_map_or}
use Rattle.df1_frame.specs.Standing.{Standing, Outside, Ended, AfterDle, Inside, InsideDle, AtCheck}
use Rattle.df1_node.specs.Answer.{StationState}
use Rattle.df1_node.specs.Initiator.{is_waiting}
use Rattle.duplex_end.specs.End.{holds_message}
use Rattle.script_statement.specs.declared.who.Who.{Who}
use Rattle.script_statement.specs.declared.who.Who.TheVariants.{A, B}
use Rattle.script_parts.specs.declared.script.Event.{Event}
use Rattle.script_parts.specs.declared.script.Script.{Script}
use Rattle.replay_report.specs.declared.record.Line.{Line}
use Rattle.replay_report.specs.declared.record.Record.{Record}
use Rattle.each_once.specs.Commands.{command_at}
use Rattle.each_once.specs.Exchanges.{exchanges}
use Rattle.each_once.specs.Once.{IsAnswered}
use Rattle.each_once.specs.Tells.{executed_in}
use Rattle.duplex_line.specs.Acts.{LineEndState, LineState}
use Rattle.duplex_line.specs.Issues.{commands_of_a, commands_of_b, issued_of}
use Rattle.duplex_line.specs.Prompt.{none_late, is_quiet, IsPromptAfter, EndsQuiet, HasRooms}
use Rattle.duplex_line.specs.Recoverable.{no_damages, IsMildAfter, HasFewTicksAfter}
use Rattle.duplex_line.specs.Run.{first_station, plan_of_a, plan_of_b, start, state_after, last_state}

-- ---- rest

-- a decoder that takes the next byte for the first of an item
abbrev pub is_between : Standing → Bool
is_between Outside = true
is_between (Ended body) = true
is_between AfterDle = false
is_between (Inside so_far) = false
is_between (InsideDle so_far) = false
is_between (AtCheck so_far bytes) = false

-- an end whose sender has no message, and whose decoder is inside no item
abbrev pub is_resting : LineEndState → Bool
is_resting side = not (holds_message side.end) && is_between side.end.receiver.decoding.standing

-- nothing is under way, no sender waits, and no decoder is inside an item
abbrev pub is_at_rest : LineState → Bool
is_at_rest s = is_quiet s && (is_resting s.a && is_resting s.b)

-- a run that is at rest after the events `front`, where no end was deceived so far, and that nothing disturbs from there on; it ends
-- with nothing under way, and each end has room for as many replies as the other may have commands out
pub record IsCalmAfter (script : Script) (front rest : List Event) : Type 0 where
  pub events : script.events ≡ front ++ rest
  pub undeceived : (state_after (start script) front).deceived ≡ 0
  pub at_rest : is_at_rest (state_after (start script) front) ≡ true
  pub prompt : IsPromptAfter none_late (state_after (start script) front) rest
  pub quiet : EndsQuiet script
  pub rooms : HasRooms script

-- a run that deceives no end, that is at rest after the events `front`, and of which the line recovers from there on: bytes of bodies alone are
-- altered, in few transmissions of each message
pub record IsMildAfterRest (script : Script) (front rest : List Event) : Type 0 where
  pub events : script.events ≡ front ++ rest
  pub undeceived : (last_state script).deceived ≡ 0
  pub at_rest : is_at_rest (state_after (start script) front) ≡ true
  pub mild : IsMildAfter no_damages (state_after (start script) front) rest
  pub few : HasFewTicksAfter none_late (state_after (start script) front) rest
  pub quiet : EndsQuiet script
  pub rooms : HasRooms script

-- nothing disturbs the line from a state at rest on, or it recovers from what does
abbrev pub IsSoundAfter : Script → (front rest : List Event) → Type 0
IsSoundAfter script front rest = IsCalmAfter script front rest ⊎ IsMildAfterRest script front rest

-- ---- what follows

-- command n of an end, counted from 1, wasn't handed out yet: it waits, or isn't issued yet
abbrev pub is_to_come : LineEndState → ℕ → Bool
is_to_come side n = option_map_or (λ c. is_waiting c.standing) (command_at (issued_of side) n) true

-- each command that an end handed out between two states of a run is answered, by what the station answered to that very command
abbrev pub AreAnsweredSince : (from to : Who) (before after : LineEndState) (issued : List (List ℕ)) (first : StationState) (lines : List Line) → Type 0
AreAnsweredSince from to before after issued first lines =
    (n : ℕ) → 1 ≤ n → n ≤ length issued → is_to_come before n ≡ true → is_to_come after n ≡ false → IsAnswered from issued (exchanges first (executed_in to lines)) lines n

-- no end was deceived, and each command that either end handed out after the events `front` was executed and answered
pub record IsWellAfter (script : Script) (front : List Event) (r : Record) : Type 0 where
  pub honest : r.deceived ≡ 0
  pub of_a : AreAnsweredSince A B (state_after (start script) front).a (last_state script).a (commands_of_a script) (first_station (plan_of_b script)) r.lines
  pub of_b : AreAnsweredSince B A (state_after (start script) front).b (last_state script).b (commands_of_b script) (first_station (plan_of_a script)) r.lines
