-- What a run of a command shows that reads a script whole and writes a text for it: its status, what it read and wrote, and its note.
use Rattle.std.specs.Prelude.{◌≡◌, ◌≢◌, ◌⊎◌, ℕ, List, Some, Result, Ok, Err}
use Rattle.df1_base.specs.Outside.{Rose}
use Rattle.line_script.specs.declared.fault.Cause.{Cause}
use Rattle.line_script.specs.declared.profile.Profile.{Profile}
use Rattle.line_script.specs.ScriptText.{script_for}
use Rattle.script_parts.specs.declared.script.Script.{Script}
use Rattle.whole_scripts.specs.Whole.{BrokenOff, IsAnswered, IsCut, Refused, TookFew}
use Rattle.whole_scripts.specs.declared.fault.RunFault.{RunFault}
use Rattle.whole_scripts.specs.declared.fault.RunFault.TheVariants as fault
use Rattle.df1_tool.specs.Captures.{IsWithoutNote, Streams}
use Rattle.df1_tool.specs.Notes.{IsNoted, input_failed, no_memory, output_failed}
use Rattle.df1_tool.specs.Replays.{IsReplayStatus, line_note}

-- ---- statuses and notes

abbrev pub status_of_run : RunFault → ℕ
status_of_run (fault.Refusal line cause) = 3
status_of_run fault.Input = 4
status_of_run fault.Output = 5
status_of_run fault.NoMemory = 7

abbrev pub note_of_run : RunFault → List ℕ
note_of_run (fault.Refusal line cause) = line_note line cause
note_of_run fault.Input = input_failed
note_of_run fault.Output = output_failed
note_of_run fault.NoMemory = no_memory

-- the status for what an input says, where nothing fails
abbrev pub status_of_script : Result Script (ℕ × Cause) → ℕ
status_of_script (Ok script) = 0
status_of_script (Err refusal) = 3

-- ---- a run

abbrev pub Notes : Streams → Streams → List ℕ → Type 0
Notes before after note = IsNoted before.noted after.noted before.note_faults after.note_faults note

-- What a run shows whose script is read for this purpose, and whose text answers it, by its status.
--
-- 0: the input was read to its end, the text for its script is written, what is promised of it holds, and nothing has failed.
-- 3: the bytes taken show the first faulty line and its cause, and the note tells them. 4: the input has failed, and no line is refused yet.
-- 5: the output has failed: a first part of the text is written, and not all. 7: no memory.
-- Where neither has failed, the status is the one that is defined, or there was no memory.
pub record ScriptRun (profile : Profile) (answer : Script → List ℕ) (Holds : Script → Type 0) (before after : Streams) (status : ℕ) : Type 0 where
  pub statuses : IsReplayStatus status
  pub done : status ≡ 0 → IsAnswered profile answer Holds before.left after.left before.held after.held × (after.input_faults ≡ before.input_faults) × IsWithoutNote before after
  pub refused : status ≡ 3 → (line : ℕ) × (cause : Cause) × Refused profile before.left after.left line cause × Notes before after (line_note line cause)
  pub broken : status ≡ 4 → BrokenOff profile before.left after.left before.input_faults after.input_faults × Notes before after input_failed
  pub cut : status ≡ 5 → Rose before.out_faults after.out_faults × (after.input_faults ≡ before.input_faults) × IsCut profile answer before.left after.left before.held after.held
      × Notes before after output_failed
  pub wanting : status ≡ 7 → Notes before after no_memory
  pub steady : status ≢ 5 → after.out_faults ≡ before.out_faults
  pub taken : TookFew before.left after.left
  pub exact : (bytes : List ℕ) → before.left ≡ Some bytes → ¬ Rose before.input_faults after.input_faults → ¬ Rose before.out_faults after.out_faults
      → (status ≡ status_of_script (script_for profile bytes)) ⊎ (status ≡ 7)
