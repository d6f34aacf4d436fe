-- What the lines of a report tell of an end: the commands that it executed, the replies that it accepted, and what became of
-- its own commands.
use Rattle.std.specs.Prelude.{ℕ, List, Option, Some, None, ◌==◌, if◌then◌else◌}
use Rattle.std.specs.List.{filter_map}
use Rattle.df1_node.specs.Initiator.{Standing, Answered, Undelivered, Unanswered}
use Rattle.script_statement.specs.declared.who.Who.{Who}
use Rattle.replay_report.specs.declared.record.Line.{Line}
use Rattle.replay_report.specs.declared.record.Line.TheVariants as line
pub use Rattle.report_lines.specs.Whose.{is_who, where_of}

-- the body of a command that the end executed
abbrev pub executed_at : Who → Line → Option (List ℕ)
executed_at who (line.Exec by body) = where_of who by body
executed_at who other = None

-- the number of a command of the end, and the reply by which it was answered
abbrev pub answer_at : Who → Line → Option (ℕ × List ℕ)
answer_at who (line.Answered by number body) = where_of who by (number, body)
answer_at who other = None

-- a reply that the end accepted and that answered no command
abbrev pub stray_at : Who → Line → Option (List ℕ)
stray_at who (line.Stray by body) = where_of who by body
stray_at who other = None

-- an outcome, where it is of command n of this end
abbrev pub where_of_command : Who → ℕ → Who → ℕ → Standing → Option Standing
where_of_command who n by number outcome = if is_who who by then (if number == n then Some outcome else None) else None

-- how command n of the end ended: by this reply, undelivered, or unanswered
abbrev pub outcome_at : Who → ℕ → Line → Option Standing
outcome_at who n (line.Answered by number body) = where_of_command who n by number (Answered body)
outcome_at who n (line.Undelivered by number) = where_of_command who n by number Undelivered
outcome_at who n (line.Unanswered by number) = where_of_command who n by number Unanswered
outcome_at who n other = None

-- the number of a command of the end that was given up: it is undelivered or unanswered
abbrev pub given_up_at : Who → Line → Option ℕ
given_up_at who (line.Undelivered by number) = where_of who by number
given_up_at who (line.Unanswered by number) = where_of who by number
given_up_at who other = None

-- all of these, in their order
abbrev pub executed_in : Who → List Line → List (List ℕ)
executed_in who lines = filter_map (executed_at who) lines

abbrev pub answers_in : Who → List Line → List (ℕ × List ℕ)
answers_in who lines = filter_map (answer_at who) lines

abbrev pub strays_in : Who → List Line → List (List ℕ)
strays_in who lines = filter_map (stray_at who) lines

abbrev pub outcomes_in : Who → ℕ → List Line → List Standing
outcomes_in who n lines = filter_map (outcome_at who n) lines

abbrev pub given_up_in : Who → List Line → List ℕ
given_up_in who lines = filter_map (given_up_at who) lines
