use Rattle.std.proofs.Common.{◌≡◌, take}
use Rattle.c_ends.specs.Parts.{specs_of}
use Rattle.c_ends.proofs.files.specs_in.Given as goal

-- the files so far
abbrev pub invariant-loop-file : goal.invariant-loop-file
invariant-loop-file l = l.specs.items ≡ specs_of (take l.file-index l.files)
