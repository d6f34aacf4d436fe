use Rattle.std.proofs.Common.{◌≡◌, take}
use Rattle.df1_plan.specs.Files.{specs_of}
use Rattle.df1_plan.proofs.files.specs_of.Given as goal

abbrev pub invariant-loop-file : goal.invariant-loop-file
invariant-loop-file l = l.specs ≡ specs_of (take l.file-index l.files)
