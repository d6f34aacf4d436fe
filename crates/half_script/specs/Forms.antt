-- What the words of a line say, on a line whose master carries messages or not.
use Rattle.std.specs.Prelude.{Bool, true, false, ℕ, List, Option, Some, None, if◌then◌else◌}
use Rattle.script_statement.specs.declared.half_event.HalfEvent.{HalfEvent}
use Rattle.script_statement.specs.declared.half_event.HalfEvent.TheVariants as half
use Rattle.script_statement.specs.declared.statement.Statement.{Statement}
use Rattle.script_statement.specs.declared.statement.Statement.TheVariants.{Mode, Half}
use Rattle.script_statement.specs.Statements.{station_issue, statement_of}

-- a form that isn't there where the master carries messages: `set mode`, and a command of the master in the name of a source
abbrev pub is_kept_out : Statement → Bool
is_kept_out (Mode half) = true
is_kept_out (Half (half.IssueFrom station src payload)) = true
is_kept_out statement = false

abbrev pub kept : Option Statement → Option Statement
kept None = None
kept (Some statement) = if is_kept_out statement then None else Some statement

-- a command of a station, or else one of the other forms
abbrev pub routed : Option HalfEvent → Option Statement → Option Statement
routed None statement = kept statement
routed (Some event) statement = Some (Half event)

-- what the words of a line say, if they are one of the forms
abbrev pub said_by : Bool → List (List ℕ) → Option Statement
said_by false words = statement_of words
said_by true words = routed (station_issue words) (statement_of words)
