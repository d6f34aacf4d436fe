-- No case up to here differs.
use Rattle.std.proofs.Common.{◌≡◌, None, take}
use Rattle.std.specs.Prelude.{position}
use Rattle.vector_suite.specs.Vectors.{differs}
use Rattle.vector_suite.proofs.table.run_table.Given as goal

abbrev pub invariant-loop-place : goal.invariant-loop-place
invariant-loop-place g l = position differs (take l.place l.cases) ≡ None
