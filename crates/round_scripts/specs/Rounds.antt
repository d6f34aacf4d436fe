-- Scripts of rounds: in each round end a writes a word of end b's file, and things happen to the bytes behind it.
use Rattle.std.specs.Prelude.{ℕ, ◌+◌, ◌/◌, ◌%◌, false, List, [], ◌∷◌, None}
use Rattle.std.specs.List.{flat_map, range_with_len}
use Rattle.df1_base.specs.declared.file_type.FileType.TheVariants.{Integer}
use Rattle.df1_check.specs.declared.Check.TheVariants.{Bcc}
use Rattle.data_files.specs.declared.file_spec.FileSpec.{FileSpec}
use Rattle.script_statement.specs.declared.who.Who.TheVariants.{A, B}
use Rattle.script_parts.specs.declared.script.Lane.{Lane}
use Rattle.script_parts.specs.declared.script.Event.{Event}
use Rattle.script_parts.specs.declared.script.Event.TheVariants.{Issue, Take, Deliver, Lose, Alter, Foreign, Tick}
use Rattle.script_parts.specs.declared.script.EndPlan.{EndPlan}
use Rattle.script_parts.specs.declared.script.Script.{Script}
use Rattle.script_parts.specs.Plans.{first_plan}
use Rattle.round_scripts.specs.declared.course.CourseEvent.{CourseEvent}
use Rattle.round_scripts.specs.declared.course.CourseEvent.TheVariants as step

-- ---- the ends

-- `file b 7 89 16`
abbrev pub the_file : FileSpec
the_file = record { number = 7; kind = Integer; count = 16 }

-- all else of the two ends is as it is at first
abbrev pub plan_of_b : EndPlan
plan_of_b = record (first_plan B 1) { files = the_file ∷ [] }

abbrev pub setup : Script
setup = record { half = false; check = Bcc; ends = first_plan A 0 ∷ plan_of_b ∷ []; events = [] }

-- ---- the commands

-- the word that the command of a round writes
abbrev pub word_of : ℕ → ℕ → ℕ
word_of seed round = (seed + round) % 65536

-- the write of that word to element `round` modulo 16 of file 7
abbrev pub payload_of : ℕ → ℕ → List ℕ
payload_of seed round =
    0x0F ∷ 0xAA ∷ 0x02 ∷ 0x07 ∷ 0x89 ∷ round % 16 ∷ 0x00 ∷ word_of seed round % 256 ∷ word_of seed round / 256 ∷ []

abbrev pub command_of : ℕ → ℕ → Event
command_of seed round = Issue A None plan_of_b.node (payload_of seed round)

-- ---- behind a command

-- the queues to the ends
abbrev pub to_a : Lane
to_a = record { from = B; to = A }

abbrev pub to_b : Lane
to_b = record { from = A; to = B }

-- the command and its reply arrive, each with its ACK
abbrev pub undisturbed : List Event
undisturbed =
    Take A 23 ∷ Deliver to_b 23
    ∷ Take B 15 ∷ Deliver to_a 15
    ∷ Take A 2 ∷ Deliver to_b 2
    ∷ []

-- the event that a step is
abbrev pub event_of : CourseEvent → Event
event_of (step.Take who n) = Take who n
event_of (step.Deliver lane n) = Deliver lane n
event_of (step.Lose lane n) = Lose lane n
event_of (step.Alter lane mask) = Alter lane mask
event_of (step.Nak lane) = Foreign lane (0x10 ∷ 0x15 ∷ [])
event_of (step.Tick who n) = Tick who n

-- ---- the rounds

-- so many parts from this number on, one after another
abbrev pub parts_from : (ℕ → List Event) → ℕ → ℕ → List Event
parts_from part first count = flat_map part (range_with_len first count)

-- those from 1 on
abbrev pub parts : (ℕ → List Event) → ℕ → List Event
parts part count = parts_from part 1 count

-- the script of so many rounds, given each of them
abbrev pub script_of : (ℕ → List Event) → ℕ → Script
script_of round count = record setup { events = parts round count }
