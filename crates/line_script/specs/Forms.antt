-- What the words of a line say, by what the script is read for. A route is a half-duplex script whose master carries messages between the stations,
-- which issue commands too. A rehearsal is a full-duplex script that has no command of end a: the program puts those in front of it.
use Rattle.std.specs.Prelude.{ℕ, Bool, true, false, List, Option, None, Some, if◌then◌else◌}
use Rattle.half_script.specs.Forms.{said_by}
use Rattle.line_script.specs.declared.profile.Profile.{Profile}
use Rattle.line_script.specs.declared.profile.Profile.TheVariants.{Replay, Route, Rehearse}
use Rattle.script_statement.specs.declared.half_event.HalfEvent.{HalfEvent}
use Rattle.script_statement.specs.declared.half_event.HalfEvent.TheVariants as event
use Rattle.script_statement.specs.declared.half_event.Way.{Way}
use Rattle.script_statement.specs.declared.half_event.Way.TheVariants.{ToStation, ToMaster}
use Rattle.script_statement.specs.declared.statement.EndLetter.TheVariants.{A}
use Rattle.script_statement.specs.declared.statement.Statement.{Statement}
use Rattle.script_statement.specs.declared.statement.Statement.TheVariants.{Mode, Station, Issue, IssueFrom, Half}
use Rattle.script_statement.specs.Statements.{statement_of}

-- ---- what a rehearsal keeps out

abbrev pub is_to_station : Way → Bool
is_to_station (ToStation station) = true
is_to_station (ToMaster station) = false

-- an event names the master and a station: `mi S HEX`, `mi S SRC HEX`, `md S n`, `mx S n`, `mc S HH`, `mn S HEX`
abbrev pub names_both : HalfEvent → Bool
names_both (event.Issue station payload) = true
names_both (event.IssueFrom station src payload) = true
names_both (event.Deliver way n) = is_to_station way
names_both (event.Lose way n) = is_to_station way
names_both (event.Alter way mask) = is_to_station way
names_both (event.Foreign way bytes) = is_to_station way
names_both other = false

-- a form that only half mode has: `set mode half`, `station S`, and those with the master and a station
abbrev pub is_half_form : Statement → Bool
is_half_form (Mode half) = half
is_half_form (Station number) = true
is_half_form (Half happening) = names_both happening
is_half_form statement = false

-- a command of end a: `ai HEX`, `ai SRC HEX`
abbrev pub issues_at_a : Statement → Bool
issues_at_a (Issue A payload) = true
issues_at_a (IssueFrom A src payload) = true
issues_at_a statement = false

-- ---- what a line says, by what it is read for

-- a full-duplex form
abbrev pub full_form : Option Statement → Option Statement
full_form None = None
full_form (Some statement) = if is_half_form statement then None else Some statement

-- what the words of a line say, if they are one of the forms: for a rehearsal none that only half mode has, for a route those of a line whose
-- master carries messages
abbrev pub said_for : Profile → List (List ℕ) → Option Statement
said_for Replay line = statement_of line
said_for Route line = said_by true line
said_for Rehearse line = full_form (statement_of line)

-- a form may not stand there, whatever else is wrong with it: in a rehearsal a command of end a
abbrev pub is_barred : Profile → Statement → Bool
is_barred Rehearse statement = issues_at_a statement
is_barred other statement = false
