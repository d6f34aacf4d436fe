use Rattle.std.proofs.Common.{◌≡◌, [], take, drop}
use Rattle.data_files.specs.Tables.{first_fault}
use Rattle.c_ends.specs.Parts.{specs_of}
use Rattle.c_ends.proofs.files.first_fault.Given as goal

-- what is wrong with the files that are left is what is wrong with all
abbrev pub invariant-loop-place : goal.invariant-loop-place
invariant-loop-place l = first_fault (specs_of (take l.place l.files)) (specs_of (drop l.place l.files)) ≡ first_fault [] (specs_of l.files)
