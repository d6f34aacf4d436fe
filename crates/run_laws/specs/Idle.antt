-- An end of a full-duplex line comes to idle: so many drained ticks are enough, counted anew at each command that it issues and at each that its station executes.
use Rattle.std.specs.Prelude.{◌≡◌, ◌≤◌, ◌+◌, ◌*◌, ℕ, Bool, true, false, ◌||◌, List, [], ◌∷◌, length, if◌then◌else◌}
use Rattle.duplex_end.specs.End.{holds_message}
use Rattle.duplex_line.specs.Acts.{LineEndState, LineState}
use Rattle.duplex_line.specs.Issues.{commands_of_a, commands_of_b}
use Rattle.duplex_line.specs.Prompt.{is_quiet}
use Rattle.duplex_line.specs.Rest.{is_between}
use Rattle.duplex_line.specs.Run as duplex
use Rattle.duplex_line.specs.Run.{plan_of_a, plan_of_b, last_state}
use Rattle.each_once.specs.Tells.{executed_in}
use Rattle.replay_report.specs.declared.record.Line.{Line}
use Rattle.replay_report.specs.declared.record.Record.{Record}
use Rattle.script_parts.specs.declared.script.Event.{Event}
use Rattle.script_parts.specs.declared.script.Script.{Script}
use Rattle.script_parts.specs.Playable.{issues}
use Rattle.script_statement.specs.declared.who.Who.{Who}
use Rattle.script_statement.specs.declared.who.Who.TheVariants.{A, B}
use Rattle.run_laws.specs.Bounds.{message_ticks, command_ticks, AreAllTold}
use Rattle.run_laws.specs.Drained.{drained_in}

-- ---- the drained ticks since the last command on that the end issued or that its station executed

-- there are bodies
abbrev pub are_some : List (List ℕ) → Bool
are_some [] = false
are_some (body ∷ bodies) = true

-- at the event the end issues a command, or its station executes one
abbrev pub takes_up : Who → LineState → Event → Bool
takes_up who s e = issues who e || are_some (executed_in who (duplex.lines_of s e))

-- with one event more
abbrev pub left_alone_with : Who → ℕ → LineState → Event → ℕ
left_alone_with who count s e = if takes_up who s e then 0 else count + drained_in who s e

abbrev pub left_alone_after : Who → ℕ → LineState → List Event → ℕ
left_alone_after who count s [] = count
left_alone_after who count s (e ∷ events) = left_alone_after who (left_alone_with who count s e) (duplex.after_event s e) events

-- those of a script
abbrev pub left_alone_ticks : Who → Script → ℕ
left_alone_ticks who script = left_alone_after who 0 (duplex.start script) script.events

-- ---- an end at idle

-- each command that the end issued has its outcome, its sender holds no message, and no reply of its station waits to be handed out
pub record IsIdleAt (who : Who) (issued : List (List ℕ)) (side : LineEndState) (lines : List Line) : Type 0 where
  pub all_told : AreAllTold who issued lines
  pub holds_none : holds_message side.end ≡ false
  pub no_reply : side.end.host.replies ≡ []

-- so many drained ticks for each command of an end and so many for each that its station executed are not more than these
abbrev pub AreEnough : Who → ℕ → ℕ → List (List ℕ) → ℕ → List Line → Type 0
AreEnough who command message issued drained lines = length issued * command + length (executed_in who lines) * message ≤ drained

-- ---- in a run

-- enough drained ticks came at end a, and at end b, since it issued its last command and its station executed the last
abbrev pub IsLeftAloneAtA : Script → Record → Type 0
IsLeftAloneAtA script r = AreEnough A (command_ticks (plan_of_a script)) (message_ticks (plan_of_a script)) (commands_of_a script) (left_alone_ticks A script) r.lines

abbrev pub IsLeftAloneAtB : Script → Record → Type 0
IsLeftAloneAtB script r = AreEnough B (command_ticks (plan_of_b script)) (message_ticks (plan_of_b script)) (commands_of_b script) (left_alone_ticks B script) r.lines

pub record AreIdleThen (script : Script) (r : Record) : Type 0 where
  pub at_a : IsLeftAloneAtA script r → IsIdleAt A (commands_of_a script) (last_state script).a r.lines
  pub at_b : IsLeftAloneAtB script r → IsIdleAt B (commands_of_b script) (last_state script).b r.lines

-- each end of a full-duplex line is at idle in the end, whatever the line does, once enough drained ticks came there
abbrev pub EndsComeToIdle : Script → Record → Type 0
EndsComeToIdle script r = script.half ≡ false → AreIdleThen script r

-- ---- a line at rest

-- a full-duplex run at both of whose ends enough drained ticks came, that ends with nothing under way and with no decoder inside an item
pub record IsLeftAlone (script : Script) (r : Record) : Type 0 where
  pub mode : script.half ≡ false
  pub at_a : IsLeftAloneAtA script r
  pub at_b : IsLeftAloneAtB script r
  pub quiet : is_quiet (last_state script) ≡ true
  pub between_a : is_between (last_state script).a.end.receiver.decoding.standing ≡ true
  pub between_b : is_between (last_state script).b.end.receiver.decoding.standing ≡ true
