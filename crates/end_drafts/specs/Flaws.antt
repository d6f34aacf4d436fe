-- The first of the flaws that fit, and an answer where none does.
use Rattle.std.specs.Prelude.{◌≡◌, Bool, List, [], ◌∷◌, Option, None, Some, Result, Ok, Err, if◌then◌else◌}
use Rattle.end_drafts.specs.declared.flaw.Flaw.{Flaw}
use Rattle.end_drafts.specs.declared.flaw.StatementFault.{StatementFault}
use Rattle.end_drafts.specs.declared.flaw.StatementFault.TheVariants as fault

-- the first flaw whose test fits
abbrev pub first_of : List (Bool × Flaw) → Option Flaw
first_of [] = None
first_of (test ∷ tests) = if test.0 then Some test.1 else first_of tests

-- an answer, unless something is wrong
abbrev pub unless_wrong : {T : Type 0} → Option Flaw → T → Result T Flaw
unless_wrong None answer = Ok answer
unless_wrong (Some flaw) answer = Err flaw

-- the fault tells the flaw; want of memory says nothing
abbrev pub IsFlawed : {T : Type 0} → StatementFault → Result T Flaw → Type 0
IsFlawed (fault.Flawed flaw) read = read ≡ Err flaw
IsFlawed fault.NoMemory read = Unit {0}
