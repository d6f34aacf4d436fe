-- What the lines of a full-duplex script so far say, what is wrong with a statement that follows them, and what it changes.
use Rattle.std.specs.Prelude.{ℕ, ◌-◌, Bool, true, false, List, [], ◌∷◌, length, Option, None, Some, is_none, is_some, not, Result, unwrap_or, nat_lt, ◌==◌, ◌||◌}
use Rattle.end_drafts.specs.declared.end_draft.EndDraft.{EndDraft}
use Rattle.end_drafts.specs.declared.flaw.Flaw.{Flaw}
use Rattle.end_drafts.specs.declared.flaw.Flaw.TheVariants as flaw
use Rattle.end_settings.specs.declared.row.Role.TheVariants.{Duplex}
use Rattle.end_drafts.specs.declared.stage.Stage.{Stage}
use Rattle.end_drafts.specs.declared.stage.Stage.TheVariants.{Fresh}
use Rattle.end_drafts.specs.Drafts.{fresh_end, node_of, plan_of, lacks, exceeds, repeats, with_line}
use Rattle.end_drafts.specs.Flaws.{first_of, unless_wrong}
use Rattle.end_drafts.specs.Stages.{is_fresh, is_set_up, stage_after}
use Rattle.df1_check.specs.declared.Check.TheVariants.{Bcc}
use Rattle.script_statement.specs.declared.who.Who.TheVariants as who
use Rattle.script_parts.specs.declared.script.EndPlan.{EndPlan}
use Rattle.script_parts.specs.declared.script.Script.{Script}
use Rattle.script_parts.specs.declared.script.Lane.{Lane}
use Rattle.script_parts.specs.declared.script.Event.{Event}
use Rattle.script_parts.specs.declared.script.Event.TheVariants as event
use Rattle.script_statement.specs.declared.statement.EndLetter.{EndLetter}
use Rattle.script_statement.specs.declared.statement.EndLetter.TheVariants.{A, B}
use Rattle.script_statement.specs.declared.setup_statement.SetupStatement.TheVariants.{Word}
use Rattle.script_statement.specs.declared.statement.EndName.TheVariants.{Known}
use Rattle.script_statement.specs.declared.statement.Verb.{Verb}
use Rattle.script_statement.specs.declared.statement.Verb.TheVariants.{Take, Tick, Deliver, Lose}
use Rattle.script_statement.specs.declared.statement.Statement.{Statement}
use Rattle.script_statement.specs.declared.statement.Statement.TheVariants.{Mode, Check, Station, Setup, Issue, IssueFrom, Times, Alter, Foreign, Half}
use Rattle.duplex_script.specs.declared.reader.DuplexReader.{DuplexReader}
use Rattle.script_statement.specs.Statements.{who_of, other_end}

-- before any line: 4,000,000 events may come
abbrev pub fresh : DuplexReader
fresh = record { stage = Fresh; check = None; a = fresh_end; b = fresh_end; events_left = 4000000 }

-- what is known of an end
abbrev pub end_at : DuplexReader → EndLetter → EndDraft
end_at d A = d.a
end_at d B = d.b

abbrev pub with_end : DuplexReader → EndLetter → EndDraft → DuplexReader
with_end d A end = record d { a = end }
with_end d B end = record d { b = end }

-- ---- what may be wrong with a statement, one test for each flaw

-- `set mode` isn't first, a setting, a file or a word comes after an event, or it declares a station
abbrev pub is_misplaced : Stage → Statement → Bool
is_misplaced stage (Mode half) = not (is_fresh stage)
is_misplaced stage (Check check) = is_set_up stage
is_misplaced stage (Station number) = true
is_misplaced stage (Setup end line) = is_set_up stage
is_misplaced stage statement = false

-- it names an end or an event that full duplex hasn't, a key that isn't for its ends, or a file that isn't declared
abbrev pub is_missing : DuplexReader → Statement → Bool
is_missing d (Mode half) = half
is_missing d (Setup (Known side) line) = lacks Duplex (end_at d side) line
is_missing d (Setup end line) = true
is_missing d (Half event) = true
is_missing d statement = false

-- a number, a word or a length is out of its range, or a compatibility file is of another type than bit or integer
abbrev pub is_out_of_range : DuplexReader → Statement → Bool
is_out_of_range d (Check check) = is_none check
is_out_of_range d (Setup (Known side) line) = exceeds (end_at d side) line
is_out_of_range d (Issue side payload) = is_none payload
is_out_of_range d (IssueFrom side src payload) = is_none src || is_none payload
is_out_of_range d (Times side verb n) = is_none n
is_out_of_range d (Alter side mask) = is_none mask
is_out_of_range d (Foreign side bytes) = is_none bytes
is_out_of_range d statement = false

-- an earlier line gave the key, the file or the word
abbrev pub is_twice : DuplexReader → Statement → Bool
is_twice d (Check check) = is_some d.check
is_twice d (Setup (Known side) line) = repeats (end_at d side) line
is_twice d statement = false

-- it is a command of an end that may issue no more
abbrev pub is_spent : DuplexReader → Statement → Bool
is_spent d (Issue side payload) = (end_at d side).commands_left == 0
is_spent d (IssueFrom side src payload) = (end_at d side).commands_left == 0
is_spent d statement = false

-- how many events a statement counts
abbrev pub steps_of : Statement → ℕ
steps_of (Issue side payload) = 1
steps_of (IssueFrom side src payload) = 1
steps_of (Times side verb (Some n)) = n
steps_of (Alter side mask) = 1
steps_of (Foreign side (Some bytes)) = length bytes
steps_of statement = 0

-- the sum of events passes 4,000,000
abbrev pub is_too_many : DuplexReader → Statement → Bool
is_too_many d statement = nat_lt d.events_left (steps_of statement)

-- what is wrong with a statement
abbrev pub flaw_of : DuplexReader → Statement → Option Flaw
flaw_of d statement = first_of (
    (is_misplaced d.stage statement, flaw.Place)
    ∷ (is_missing d statement, flaw.Missing)
    ∷ (is_out_of_range d statement, flaw.Value)
    ∷ (is_twice d statement, flaw.Twice)
    ∷ (is_spent d statement, flaw.Spent)
    ∷ (is_too_many d statement, flaw.Events)
    ∷ [])

-- ---- what a statement changes

-- a statement is a line of an end
abbrev pub sets_up : Statement → Bool
sets_up (Setup end line) = true
sets_up statement = false

-- what a statement changes beside the stage and the sum of events
abbrev pub settled : DuplexReader → Statement → DuplexReader
settled d (Check (Some check)) = record d { check = Some check }
settled d (Setup (Known side) line) = with_end d side (with_line (who_of side) (end_at d side) line)
settled d (Issue side payload) = with_end d side (record (end_at d side) { commands_left = (end_at d side).commands_left - 1 })
settled d (IssueFrom side src payload) = with_end d side (record (end_at d side) { commands_left = (end_at d side).commands_left - 1 })
settled d statement = d

-- the address of an end
abbrev pub address_of : DuplexReader → EndLetter → ℕ
address_of d A = node_of d.a 0
address_of d B = node_of d.b 1

-- the event that issues a command at an end, for the other one, in the name of a source or else in its own
abbrev pub command : DuplexReader → EndLetter → Option ℕ → List ℕ → Event
command d side src payload = event.Issue (who_of side) src (address_of d (other_end side)) payload

-- the queue of an end
abbrev pub lane_from : EndLetter → Lane
lane_from side = record { from = who_of side; to = who_of (other_end side) }

abbrev pub times_event : EndLetter → Verb → ℕ → Event
times_event side Take n = event.Take (who_of side) n
times_event side Tick n = event.Tick (who_of side) n
times_event side Deliver n = event.Deliver (lane_from side) n
times_event side Lose n = event.Lose (lane_from side) n

-- the statement that gives the first value of a word of a file of an end
abbrev pub word_given : EndLetter → ℕ → ℕ → ℕ → Statement
word_given side file index value = Setup (Known side) (Word (Some file) index value)

-- the event that a statement is
abbrev pub event_of : DuplexReader → Statement → Option Event
event_of d (Issue side (Some payload)) = Some (command d side None payload)
event_of d (IssueFrom side (Some src) (Some payload)) = Some (command d side (Some src) payload)
event_of d (Times side verb (Some n)) = Some (times_event side verb n)
event_of d (Alter side (Some mask)) = Some (event.Alter (lane_from side) mask)
event_of d (Foreign side (Some bytes)) = Some (event.Foreign (lane_from side) bytes)
event_of d statement = None

-- the stage and the sum of events after a statement
abbrev pub counted : DuplexReader → Statement → DuplexReader
counted d statement = record d { stage = stage_after statement; events_left = d.events_left - steps_of statement }

-- what is known after a statement, and its event
abbrev pub with_statement : DuplexReader → Statement → DuplexReader × Option Event
with_statement d statement = (settled (counted d statement) statement, event_of (settled (counted d statement) statement) statement)

-- a statement after the lines so far
abbrev pub after_statement : DuplexReader → Statement → Result (DuplexReader × Option Event) Flaw
after_statement d statement = unless_wrong (flaw_of d statement) (with_statement d statement)

-- ---- the script

-- the plans of the ends a and b, whose addresses are 0 and 1 where no line sets them
abbrev pub ends : EndDraft → EndDraft → List EndPlan
ends a b = plan_of who.A 0 a ∷ plan_of who.B 1 b ∷ []

abbrev pub script_with : DuplexReader → List Event → Script
script_with d events = record { half = false; check = unwrap_or d.check Bcc; ends = ends d.a d.b; events = events }
