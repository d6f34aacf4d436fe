-- No command is overtaken: what is executed or answered up to an event of a script, and what its stations execute after it.
use Rattle.std.specs.Prelude.{◌≡◌, ◌⊎◌, ◌<◌, ℕ, Bool, true, false, List, ◌++◌, slice_index, Option, Some, Contains, All}
use Rattle.std.specs.Option.{option_map}
use Rattle.each_once.specs.Commands.{command_at}
use Rattle.each_once.specs.OfStation.{lines_of}
use Rattle.each_once.specs.Tells.{answers_in, executed_in}
use Rattle.duplex_line.specs.Issues.{commands_of_a, commands_of_b}
use Rattle.half_line.specs.Issues.{commands_of_m}
use Rattle.line_world.specs.Runs.{record_of}
use Rattle.replay_report.specs.declared.record.Line.{Line}
use Rattle.replay_report.specs.declared.record.Record.{Record}
use Rattle.script_parts.specs.declared.script.EndPlan.{EndPlan}
use Rattle.script_parts.specs.declared.script.Event.{Event}
use Rattle.script_parts.specs.declared.script.Script.{Script}
use Rattle.script_parts.specs.HalfPlayable.{station_plans}
use Rattle.script_statement.specs.declared.who.Who.{Who}
use Rattle.script_statement.specs.declared.who.Who.TheVariants.{A, B, M, S}

-- ---- by the lines of a report

-- the station executed command n of those that an end issues
pub record IsExecuted (to : Who) (issued : List (List ℕ)) (lines : List Line) (n : ℕ) : Type 0 where
  pub body : List ℕ
  pub is_command : command_at issued n ≡ Some body
  pub is_executed : Contains (executed_in to lines) body

-- a reply is told as the answer to command n
pub record HasAnswer (from : Who) (lines : List Line) (n : ℕ) : Type 0 where
  pub reply : List ℕ
  pub is_answer : Contains (answers_in from lines) (n, reply)

-- command n was executed, or it is told as answered
abbrev pub IsExecutedOrAnswered : Who → Who → List (List ℕ) → List Line → ℕ → Type 0
IsExecutedOrAnswered from to issued lines n = IsExecuted to issued lines n ⊎ HasAnswer from lines n

-- the source of command n: SRC, its second byte
abbrev pub source_of : List (List ℕ) → ℕ → Option ℕ
source_of issued n = option_map (λ body. slice_index body 1) (command_at issued n)

-- where a command was executed or answered before, each command of its source that is executed after it has a higher number
abbrev pub NothingOvertakes : Who → Who → List (List ℕ) → List Line → List Line → Type 0
NothingOvertakes from to issued before after = (m n : ℕ) → IsExecutedOrAnswered from to issued before m → IsExecuted to issued after n → source_of issued m ≡ source_of issued n → m < n

-- ---- in a run

-- at both ends of a full-duplex line
pub record AtBothEnds (script : Script) (before after : List Line) : Type 0 where
  pub at_b : NothingOvertakes A B (commands_of_a script) before after
  pub at_a : NothingOvertakes B A (commands_of_b script) before after

-- at each station of a half-duplex line, where a command is answered by a reply of that station
abbrev pub AtEachStation : Script → List Line → List Line → Type 0
AtEachStation script before after = All (λ (plan : EndPlan). NothingOvertakes M (S plan.node) (commands_of_m script) (lines_of plan.node before) (lines_of plan.node after)) (station_plans script.ends)

abbrev pub AtStationsOf : Bool → Script → List Line → List Line → Type 0
AtStationsOf true script before after = AtEachStation script before after
AtStationsOf false script before after = AtBothEnds script before after

-- a script with these events alone
abbrev pub with_events : Script → List Event → Script
with_events script events = record { half = script.half; check = script.check; ends = script.ends; events = events }

-- After whichever event a script is cut, the lines of a record are those of what stands before, and then those behind; and nothing overtakes.
pub record IsInOrderAfter (script : Script) (r : Record) (front : List Event) : Type 0 where
  pub after : List Line
  pub lines : r.lines ≡ (record_of (with_events script front)).lines ++ after
  pub behind : AtStationsOf script.half script (record_of (with_events script front)).lines after

abbrev pub NothingIsOvertaken : Script → Record → Type 0
NothingIsOvertaken script r = (front back : List Event) → script.events ≡ front ++ back → IsInOrderAfter script r front
