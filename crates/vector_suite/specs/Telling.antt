-- The line of the forty cases, and how writing it ends.
use Rattle.std.specs.Prelude.{◌≡◌, ℕ, List, ◌++◌, Option, Some, None, Result, Ok, Err, codes, decimal, position}
use Rattle.df1_base.specs.Outside.{Rose, Put, WroteLess}
use Rattle.vector_suite.specs.Vectors.{is_other}
use Rattle.vector_suite.specs.Forty.{forty}
use Rattle.vector_suite.specs.declared.telling.VectorsFault.{VectorsFault}
use Rattle.vector_suite.specs.declared.telling.VectorsFault.TheVariants as fault

-- the place of the first of the forty that differs
abbrev pub differing : Option ℕ
differing = position is_other forty

-- the line for the place of the first case that differs
abbrev pub line_of : Option ℕ → List ℕ
line_of None = codes "cases 40\n"
line_of (Some place) = codes "case " ++ decimal place ++ codes " differs\n"

-- the line is written, and its place answered; or the output failed, and a first part of it is written, not all; or there was no memory, and
-- nothing is
abbrev pub VectorsEnd : (held held' : Option (List ℕ)) (faults faults' : ℕ) → Result (Option ℕ) VectorsFault → Type 0
VectorsEnd held held' faults faults' (Ok place) = (place ≡ differing) × Put held held' (line_of differing) × (faults' ≡ faults)
VectorsEnd held held' faults faults' (Err fault.Output) = WroteLess held held' (line_of differing) × Rose faults faults'
VectorsEnd held held' faults faults' (Err fault.NoMemory) = (held' ≡ held) × (faults' ≡ faults)
