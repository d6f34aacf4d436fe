-- What a run of `replay` answers, and with which note.
use Rattle.std.specs.Prelude.{◌≡◌, ◌⊎◌, ℕ, List, [], ◌++◌, if◌then◌else◌, ◌==◌, is_none, codes, decimal}
use Rattle.line_script.specs.declared.fault.Cause.{Cause}
use Rattle.line_script.specs.declared.fault.Cause.TheVariants as cause
use Rattle.df1_replay.specs.Outcome.{replayed}
use Rattle.df1_replay.specs.declared.fault.ReplayFault.{ReplayFault}
use Rattle.df1_replay.specs.declared.fault.ReplayFault.TheVariants as fault
use Rattle.df1_tool.specs.Notes.{input_failed, no_memory, output_failed}

-- ---- statuses and notes

abbrev pub status_of_replay : ReplayFault → ℕ
status_of_replay (fault.Refusal line cause) = 3
status_of_replay fault.Input = 4
status_of_replay fault.Output = 5
status_of_replay fault.NoMemory = 7

abbrev pub cause_text : Cause → List ℕ
cause_text cause.Size = codes "size"
cause_text cause.Long = codes "long"
cause_text cause.After = codes "after"
cause_text cause.Form = codes "form"
cause_text cause.Place = codes "place"
cause_text cause.Missing = codes "missing"
cause_text cause.Value = codes "value"
cause_text cause.Twice = codes "twice"
cause_text cause.Spent = codes "spent"
cause_text cause.Events = codes "events"
cause_text cause.NoEnd = codes "open"

-- the note of a refused line
abbrev pub line_note : ℕ → Cause → List ℕ
line_note line fault = codes "df1: line " ++ decimal line ++ codes ": " ++ cause_text fault ++ codes "\n"

abbrev pub note_of_replay : ReplayFault → List ℕ
note_of_replay (fault.Refusal line cause) = line_note line cause
note_of_replay fault.Input = input_failed
note_of_replay fault.Output = output_failed
note_of_replay fault.NoMemory = no_memory

-- the note of a replay with this status, which isn't 3
abbrev pub note_at : ℕ → List ℕ
note_at status =
    if status == 4 then input_failed
    else if status == 5 then output_failed
    else if status == 7 then no_memory
    else []

-- the status of a replay of an input, where nothing fails
abbrev pub status_for : List ℕ → ℕ
status_for input = if is_none (replayed input) then 3 else 0

-- one of the statuses of a replay
abbrev pub IsReplayStatus : ℕ → Type 0
IsReplayStatus status = (status ≡ 0) ⊎ (status ≡ 3) ⊎ (status ≡ 4) ⊎ (status ≡ 5) ⊎ (status ≡ 7)
