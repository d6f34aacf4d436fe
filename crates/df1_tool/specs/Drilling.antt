-- What a run of `drill` or `storm` shows: its status, what it wrote, and its note.
use Rattle.std.specs.Prelude.{◌≡◌, ◌≢◌, ◌⊎◌, ℕ, List, Option}
use Rattle.df1_base.specs.Outside.{Rose, Put, WroteLess}
use Rattle.df1_drill.specs.declared.telling.DrillFault.{DrillFault}
use Rattle.df1_drill.specs.declared.telling.DrillFault.TheVariants as fault
use Rattle.df1_tool.specs.Notes.{IsNoted, no_memory, output_failed}

abbrev pub status_of_drill : DrillFault → ℕ
status_of_drill fault.Output = 5
status_of_drill fault.NoMemory = 7

abbrev pub note_of_drill : DrillFault → List ℕ
note_of_drill fault.Output = output_failed
note_of_drill fault.NoMemory = no_memory

-- what the output and the note hold, and how often each has failed
pub record Sinks : Type 0 where
  pub held : Option (List ℕ)
  pub out_faults : ℕ
  pub noted : Option (List ℕ)
  pub note_faults : ℕ

-- What a run of `drill` or `storm` shows that is to write this line, by its status.
--
-- 0: the line is written, and nothing has failed.
-- 5: the output has failed: a first part of the line is written, not all, and the note tells it.
-- 7: no memory: nothing is written, and the note tells it.
pub record LineRun (line : List ℕ) (before after : Sinks) (status : ℕ) : Type 0 where
  pub statuses : (status ≡ 0) ⊎ (status ≡ 5) ⊎ (status ≡ 7)
  pub done : status ≡ 0 → Put before.held after.held line × (after.noted ≡ before.noted) × (after.note_faults ≡ before.note_faults)
  pub cut : status ≡ 5 → Rose before.out_faults after.out_faults × WroteLess before.held after.held line
      × IsNoted before.noted after.noted before.note_faults after.note_faults output_failed
  pub wanting : status ≡ 7 → (after.held ≡ before.held) × IsNoted before.noted after.noted before.note_faults after.note_faults no_memory
  pub steady : status ≢ 5 → after.out_faults ≡ before.out_faults
