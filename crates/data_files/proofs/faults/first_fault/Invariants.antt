use Rattle.std.proofs.Common.{◌≡◌, [], take, drop}
use Rattle.data_files.specs.Tables.{first_fault}
use Rattle.data_files.proofs.faults.first_fault.Given as goal

-- what is wrong with the files that are left is what is wrong with all
abbrev pub invariant-loop-place : goal.invariant-loop-place
invariant-loop-place l = first_fault (take l.place l.specs) (drop l.place l.specs) ≡ first_fault [] l.specs
