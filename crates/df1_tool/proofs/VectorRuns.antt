-- What a run of `vectors` shows whose line isn't written.
use Rattle.std.proofs.Common.{◌≡◌, ◌≤◌, ℕ, Option, None, Some, Err, inl, inr, arith, lit≤}
use Rattle.vector_suite.specs.Telling.{VectorsEnd, differing}
use Rattle.vector_suite.specs.declared.telling.VectorsFault.{VectorsFault}
use Rattle.vector_suite.specs.declared.telling.VectorsFault.TheVariants as fault
use Rattle.df1_tool.specs.Notes.{IsNoted}
use Rattle.df1_tool.specs.Drilling.{Sinks}
use Rattle.df1_tool.specs.Vectors.{VectorsRun, note_of_vectors, status_by, status_of_vectors}

few : (place : Option ℕ) → status_by place ≤ 1
few None = lit≤ tt
few (Some place) = lit≤ tt

pub vectors-refused : (before after : Sinks) (status : ℕ) (why : VectorsFault) → status ≡ status_of_vectors why → IsNoted before.noted after.noted before.note_faults after.note_faults (note_of_vectors why)
    → VectorsEnd before.held after.held before.out_faults after.out_faults (Err why) → VectorsRun before after status
vectors-refused before after status fault.Output is told (part, rose) = record {
  statuses = inr (inl is);
  done = λ at. absurd (omega (arith, is, at, few differing));
  cut = λ at. (rose, part, told);
  wanting = λ at. absurd (omega (arith, is, at));
  steady = λ at. absurd (at is);
}
vectors-refused before after status fault.NoMemory is told (same, steady) = record {
  statuses = inr (inr is);
  done = λ at. absurd (omega (arith, is, at, few differing));
  cut = λ at. absurd (omega (arith, is, at));
  wanting = λ at. (same, told);
  steady = λ at. steady;
}
