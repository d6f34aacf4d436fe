-- What a run of `vectors` shows: its status, what it wrote, and its note.
use Rattle.std.specs.Prelude.{◌≡◌, ◌≢◌, ◌⊎◌, ℕ, List, Option, Some, None}
use Rattle.df1_base.specs.Outside.{Rose, Put, WroteLess}
use Rattle.vector_suite.specs.Telling.{differing, line_of}
use Rattle.vector_suite.specs.declared.telling.VectorsFault.{VectorsFault}
use Rattle.vector_suite.specs.declared.telling.VectorsFault.TheVariants as fault
use Rattle.df1_tool.specs.Drilling.{Sinks}
use Rattle.df1_tool.specs.Notes.{IsNoted, no_memory, output_failed}

abbrev pub status_of_vectors : VectorsFault → ℕ
status_of_vectors fault.Output = 5
status_of_vectors fault.NoMemory = 7

abbrev pub note_of_vectors : VectorsFault → List ℕ
note_of_vectors fault.Output = output_failed
note_of_vectors fault.NoMemory = no_memory

-- the status where the line is written: 1 where a case differs
abbrev pub status_by : Option ℕ → ℕ
status_by None = 0
status_by (Some place) = 1

-- What a run of `vectors` shows, by its status.
--
-- 0 and 1: the line that tells the place of the first of the forty cases that differs, or that none does, is written, and nothing has failed; it is 1
-- exactly where one differs.
-- 5: the output has failed: a first part of the line is written, not all, and the note tells it.
-- 7: no memory: nothing is written, and the note tells it.
pub record VectorsRun (before after : Sinks) (status : ℕ) : Type 0 where
  pub statuses : (status ≡ status_by differing) ⊎ (status ≡ 5) ⊎ (status ≡ 7)
  pub done : status ≡ status_by differing → Put before.held after.held (line_of differing) × (after.noted ≡ before.noted) × (after.note_faults ≡ before.note_faults)
  pub cut : status ≡ 5 → Rose before.out_faults after.out_faults × WroteLess before.held after.held (line_of differing)
      × IsNoted before.noted after.noted before.note_faults after.note_faults output_failed
  pub wanting : status ≡ 7 → (after.held ≡ before.held) × IsNoted before.noted after.noted before.note_faults after.note_faults no_memory
  pub steady : status ≢ 5 → after.out_faults ≡ before.out_faults
