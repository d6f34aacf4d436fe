-- What is known after some statements, one after another; and what is left then of the limits.
use Rattle.std.specs.Prelude.{◌≡◌, ◌-◌, ℕ, Bool, List, [], ◌∷◌, ◌++◌, Some, count_by, sum_by, Result, Ok, Err}
use Rattle.std.specs.Option.{option_to_list}
use Rattle.end_drafts.specs.declared.flaw.Flaw.{Flaw}
use Rattle.script_statement.specs.declared.statement.Statement.{Statement}
use Rattle.script_statement.specs.declared.who.Who.TheVariants.{M, S}
use Rattle.script_parts.specs.declared.script.Event.{Event}
use Rattle.script_parts.specs.HalfPlayable.{half_count_of}
use Rattle.script_parts.specs.RoutePlayable.{is_issue_of}
use Rattle.half_script.specs.declared.reader.HalfReader.{HalfReader}
use Rattle.half_script.specs.Drafts.{after_statement, numbers}
use Rattle.half_script.specs.Forms.{said_by}
use Rattle.half_script.specs.Stations.{commands_left_at}

-- an answer, where there is one, goes on
abbrev pub and_then : {S T : Type 0} → Result S Flaw → (S → Result T Flaw) → Result T Flaw
and_then (Err flaw) next = Err flaw
and_then (Ok answer) next = next answer

-- what is known after these statements, and the events with theirs; or the flaw of the first that has one
abbrev pub after_statements : HalfReader → List Event → List Statement → Result (HalfReader × List Event) Flaw
after_statements d events [] = Ok (d, events)
after_statements d events (statement ∷ statements) =
    and_then (after_statement d statement) (λ step. after_statements step.0 (events ++ option_to_list step.1) statements)

-- the words of some line say it, on a line whose master carries messages or not
pub record IsSaid (routes : Bool) (statement : Statement) : Type 0 where
  pub words : List (List ℕ)
  pub says : said_by routes words ≡ Some statement

-- 65,535 commands of the master and of each station, and 4,000,000 events, less those of the statements so far
pub record IsLeft (d : HalfReader) (events : List Event) : Type 0 where
  pub commands : d.master.commands_left ≡ 65535 - count_by (is_issue_of M) events
  pub commands_of_stations : (number : ℕ) → commands_left_at d.stations number ≡ 65535 - count_by (is_issue_of (S number)) events
  pub events_are : d.events_left ≡ 4000000 - sum_by (half_count_of (numbers d)) events
