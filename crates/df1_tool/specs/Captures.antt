-- What a run of `dissect` or `check` shows: its status, what it read and wrote, and its note.
use Rattle.std.specs.Prelude.{◌≡◌, ◌≢◌, ◌⊎◌, ◌<◌, ◌≤◌, ℕ, Bool, List, length, Option, Some, nat_lt, if◌then◌else◌}
use Rattle.df1_base.specs.Outside.{Rose}
use Rattle.df1_base.specs.Signals.{input_limit}
use Rattle.df1_check.specs.declared.Check.{Check}
use Rattle.half_frame.specs.declared.side.Side.{Side}
use Rattle.df1_capture.specs.declared.capture.CaptureFault.{CaptureFault}
use Rattle.df1_capture.specs.declared.capture.CaptureFault.TheVariants as fault
use Rattle.df1_capture.specs.Captures.{IsOver, IsTaken}
use Rattle.df1_capture.specs.Counted.{Counts, IsCounted, IsCountedInPart, is_faulty}
use Rattle.df1_capture.specs.Dissected.{HasWritten, IsCutShort, IsDissected}
use Rattle.df1_tool.specs.Notes.{IsNoted, input_failed, input_too_long, output_failed}

-- ---- statuses and notes

abbrev pub status_of_capture : CaptureFault → ℕ
status_of_capture fault.Input = 4
status_of_capture fault.Output = 5
status_of_capture fault.TooLong = 8

abbrev pub note_of_capture : CaptureFault → List ℕ
note_of_capture fault.Input = input_failed
note_of_capture fault.Output = output_failed
note_of_capture fault.TooLong = input_too_long

-- the status of a capture that was read to its end
abbrev pub status_of_counts : Bool → ℕ
status_of_counts faulty = if faulty then 1 else 0

-- ---- the outside

-- what is left of the input, what the output and the note hold, and how often each has failed
pub record Streams : Type 0 where
  pub left : Option (List ℕ)
  pub input_faults : ℕ
  pub held : Option (List ℕ)
  pub out_faults : ℕ
  pub noted : Option (List ℕ)
  pub note_faults : ℕ

-- the note of a fault is written, or a part of it where the note failed
abbrev pub Notes : Streams → Streams → CaptureFault → Type 0
Notes before after why = IsNoted before.noted after.noted before.note_faults after.note_faults (note_of_capture why)

-- nothing is written to the note
abbrev pub IsWithoutNote : Streams → Streams → Type 0
IsWithoutNote before after = (after.noted ≡ before.noted) × (after.note_faults ≡ before.note_faults)

-- ---- `check`

-- What a run of `check` over a capture of this side, of a line with this check, shows, by its status.
--
-- 0: the input was read to its end, the line of its counts is written, and nothing is a fault of the line or unfinished.
-- 1: the same, but something is.
-- 4: the input has failed, and nothing is written. 5: the output has failed: a part of the line is written,
-- and not all.
-- 8: 268,435,456 bytes were taken and another is there, and nothing is written.
pub record CheckRun (of : Side) (check : Check) (before after : Streams) (status : ℕ) : Type 0 where
  pub statuses : (status ≡ 0) ⊎ (status ≡ 1) ⊎ (status ≡ 4) ⊎ (status ≡ 5) ⊎ (status ≡ 8)
  pub done : (status ≡ 0) ⊎ (status ≡ 1) → ((faulty : Bool) × IsCounted of check before.left after.left before.held after.held faulty × (status ≡ status_of_counts faulty)) × IsWithoutNote before after
  pub broken : status ≡ 4 → Rose before.input_faults after.input_faults × ((bytes : List ℕ) × IsTaken before.left after.left bytes) × (after.held ≡ before.held) × Notes before after fault.Input
  pub cut : status ≡ 5 → Rose before.out_faults after.out_faults × IsCountedInPart of check before.left after.left before.held after.held × Notes before after fault.Output
  pub long : status ≡ 8 → ((bytes : List ℕ) × IsOver before.left after.left bytes) × (after.held ≡ before.held) × Notes before after fault.TooLong
  pub calm : status ≢ 4 → after.input_faults ≡ before.input_faults
  pub steady : status ≢ 5 → after.out_faults ≡ before.out_faults
  pub exact : (bytes : List ℕ) → before.left ≡ Some bytes
      → (Rose before.input_faults after.input_faults → ⊥) → (Rose before.out_faults after.out_faults → ⊥)
      → ((status ≡ 8) × (input_limit < length bytes))
      ⊎ ((heard : ℕ) × (bad : ℕ) × (begun : ℕ) × Counts of check bytes heard bad begun × (status ≡ status_of_counts (is_faulty bad begun)) × (length bytes ≤ input_limit))

-- ---- `dissect`

-- What a run of `dissect` over a capture of this side, of a line with this check, shows, by its status.
--
-- 0: the input was read to its end, and its dissection is written.
-- 4: the input has failed: the lines of all that is heard in the bytes taken are written.
-- 5: the output has failed: a first part of what is due is written, and at most 4,096 bytes were taken after the one that made
-- the first missing line due; that of the unfinished item is due at the end of the input.
-- 8: 268,435,456 bytes were taken and another is there: the lines of all that is heard in them are written.
pub record DissectRun (of : Side) (check : Check) (before after : Streams) (status : ℕ) : Type 0 where
  pub statuses : (status ≡ 0) ⊎ (status ≡ 4) ⊎ (status ≡ 5) ⊎ (status ≡ 8)
  pub done : status ≡ 0 → IsDissected of check before.left after.left before.held after.held × IsWithoutNote before after
  pub broken : status ≡ 4 → Rose before.input_faults after.input_faults
      × ((bytes : List ℕ) × IsTaken before.left after.left bytes × HasWritten of check before.held after.held bytes)
      × Notes before after fault.Input
  pub cut : status ≡ 5 → Rose before.out_faults after.out_faults
      × IsCutShort of check before.left after.left before.held after.held
      × Notes before after fault.Output
  pub long : status ≡ 8 → ((bytes : List ℕ) × IsOver before.left after.left bytes × HasWritten of check before.held after.held bytes)
      × Notes before after fault.TooLong
  pub calm : status ≢ 4 → after.input_faults ≡ before.input_faults
  pub steady : status ≢ 5 → after.out_faults ≡ before.out_faults
  pub exact : (bytes : List ℕ) → before.left ≡ Some bytes
      → (Rose before.input_faults after.input_faults → ⊥) → (Rose before.out_faults after.out_faults → ⊥)
      → status ≡ (if nat_lt input_limit (length bytes) then 8 else 0)
