-- Each command once between the ends of a route: over the commands that a script issues at each end, and what the report tells of all of them. It
-- knows nothing of frames, checks, acknowledgements, polls, timers, repeats and of the way by the master.
use Rattle.std.specs.Prelude.{◌≡◌, ◌≤◌, ℕ, Bool, List, length, slice_index, Contains, Option, Some, None, ◌==◌, IsTrue, if◌then◌else◌}
use Rattle.std.specs.List.{All, filter, filter_map, flat_map, list_any}
use Rattle.data_files.specs.Tables.{DataTables}
use Rattle.each_once.specs.Commands.{Request, command_at, command_bodies}
use Rattle.each_once.specs.Direction.{AreSomeOf}
use Rattle.each_once.specs.Exchanges.{exchanges, station_after}
use Rattle.each_once.specs.OfStation.{is_from}
use Rattle.each_once.specs.Once.{AreApart}
use Rattle.each_once.specs.Tells.{answers_in, executed_in, given_up_in, outcomes_in, strays_in}
use Rattle.outset.specs.Outset.{first_station}
use Rattle.replay_report.specs.declared.record.Record.{Record}
use Rattle.report_lines.specs.Words.{words_of}
use Rattle.script_parts.specs.declared.script.EndPlan.{EndPlan}
use Rattle.script_parts.specs.declared.script.Event.{Event}
use Rattle.script_parts.specs.declared.script.Event.TheVariants as event
use Rattle.script_parts.specs.declared.script.Script.{Script}
use Rattle.script_parts.specs.declared.script.WordOf.{WordOf}
use Rattle.script_parts.specs.RoutePlayable.{is_same_half_end}
use Rattle.script_statement.specs.declared.who.Who.{Who}

-- ---- what is issued

-- what an end of this address issues at an event, in its own name
abbrev pub request_at : Who → ℕ → Event → Option Request
request_at who node (event.Issue by src dst payload) = if is_same_half_end who by then Some (record { src = node; dst = dst; payload = payload }) else None
request_at who node other = None

-- the bodies of the commands of an end: in the order of the script, numbered from its first TNS on
abbrev pub commands_of : Script → EndPlan → List (List ℕ)
commands_of script end = command_bodies end.tns (filter_map (request_at end.who end.node) script.events)

-- a command is for the end of this address: DST is its first byte
abbrev pub is_for : ℕ → List ℕ → Bool
is_for node body = slice_index body 0 == node

-- the address of an end of the script
abbrev pub is_address : Script → ℕ → Bool
is_address script node = list_any (λ (end : EndPlan). end.node == node) script.ends

-- ---- what is executed and answered

-- what an end executed in the name of another, or in its own, it executed once, in the order in which that end issued it for this one
abbrev pub IsInOrder : Script → Record → EndPlan → EndPlan → Type 0
IsInOrder script r to from = AreSomeOf (filter (is_from from.node) (executed_in to.who r.lines)) (filter (is_for to.node) (commands_of script from))

-- the commands that an end executed, each with what it answered from the tables that stood before it
abbrev pub answered_by : Record → EndPlan → List (List ℕ × List ℕ)
answered_by r end = exchanges (first_station end) (executed_in end.who r.lines)

-- a reply is what the end that command n is for answered to it when it executed that command
pub record IsReplyTo (script : Script) (r : Record) (from : EndPlan) (number : ℕ) (reply : List ℕ) : Type 0 where
  pub to : EndPlan
  pub is_end : Contains script.ends to
  pub body : List ℕ
  pub is_command : command_at (commands_of script from) number ≡ Some body
  pub is_for_it : IsTrue (is_for to.node body)
  pub is_answer : Contains (answered_by r to) (body, reply)

-- a reply is what was answered to a command that was given up
pub record IsAstray (script : Script) (r : Record) (from : EndPlan) (reply : List ℕ) : Type 0 where
  pub number : ℕ
  pub replies : IsReplyTo script r from number reply
  pub is_given_up : Contains (given_up_in from.who r.lines) number

-- the words that the commands which an end is told to have executed make of its first tables
abbrev pub tables_made : Record → EndPlan → DataTables
tables_made r end = (station_after (first_station end) (executed_in end.who r.lines)).tables

abbrev pub words_made : Record → EndPlan → List WordOf
words_made r end = words_of end.who (tables_made r end)

-- Of any two ends, what one executed in the name of the other are commands that this one issued for it, each once and in order. Each command
-- that an end executed was issued by an end. The words in the end are those that the executed commands make of the first ones, end by end. A
-- reply that is told as the answer to command n is what the end that it is for answered to that very command. Of each command one outcome is
-- told at most. A stray reply is the answer to a command that is told as given up.
pub record RoutedOnce (script : Script) (r : Record) : Type 0 where
  pub apart : All (λ from. AreApart (commands_of script from)) script.ends
  pub in_order : All (λ to. All (IsInOrder script r to) script.ends) script.ends
  pub sources : All (λ to. All (λ body. IsTrue (is_address script (slice_index body 1))) (executed_in to.who r.lines)) script.ends
  pub words : r.words ≡ flat_map (words_made r) script.ends
  pub answers : All (λ from. All (λ a. IsReplyTo script r from a.0 a.1) (answers_in from.who r.lines)) script.ends
  pub outcomes : All (λ from. (n : ℕ) → length (outcomes_in from.who n r.lines) ≤ 1) script.ends
  pub strays : All (λ from. All (IsAstray script r from) (strays_in from.who r.lines)) script.ends
