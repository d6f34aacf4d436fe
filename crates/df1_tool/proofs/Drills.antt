-- What a run of `drill` or `storm` shows, by how it ended.
use Rattle.std.proofs.Common.{◌≡◌, ℕ, List, Result, Ok, Err, inl, inr, arith}
use Rattle.df1_drill.specs.Telling.{LineWritten}
use Rattle.df1_drill.specs.declared.telling.DrillFault.{DrillFault}
use Rattle.df1_drill.specs.declared.telling.DrillFault.TheVariants as fault
use Rattle.df1_tool.specs.Notes.{IsNoted}
use Rattle.df1_tool.specs.Drilling.{LineRun, Sinks, note_of_drill, status_of_drill}

-- what is told of a run that ended so
abbrev pub Told : Sinks → Sinks → ℕ → Result (Unit {0}) DrillFault → Type 0
Told before after status (Ok done) = (status ≡ 0) × (after.noted ≡ before.noted) × (after.note_faults ≡ before.note_faults)
Told before after status (Err why) = (status ≡ status_of_drill why) × IsNoted before.noted after.noted before.note_faults after.note_faults (note_of_drill why)

pub line-ended : (line : List ℕ) (before after : Sinks) (status : ℕ) (ended : Result (Unit {0}) DrillFault) → Told before after status ended
    → LineWritten line before.held after.held before.out_faults after.out_faults ended → LineRun line before after status
line-ended line before after status (Ok done) (is, silent, calm) (put, steady) = record {
  statuses = inl is;
  done = λ at. (put, silent, calm);
  cut = λ at. absurd (omega (arith, is, at));
  wanting = λ at. absurd (omega (arith, is, at));
  steady = λ at. steady;
}
line-ended line before after status (Err fault.Output) (is, told) (part, rose) = record {
  statuses = inr (inl is);
  done = λ at. absurd (omega (arith, is, at));
  cut = λ at. (rose, part, told);
  wanting = λ at. absurd (omega (arith, is, at));
  steady = λ at. absurd (at is);
}
line-ended line before after status (Err fault.NoMemory) (is, told) (same, steady) = record {
  statuses = inr (inr is);
  done = λ at. absurd (omega (arith, is, at));
  cut = λ at. absurd (omega (arith, is, at));
  wanting = λ at. (same, told);
  steady = λ at. steady;
}
