use Rattle.std.proofs.Common.{◌≡◌, take}
use Rattle.df1_plan.specs.Files.{words_of_all}
use Rattle.df1_plan.proofs.files.words_of_all.Given as goal

abbrev pub invariant-loop-file : goal.invariant-loop-file
invariant-loop-file l = l.words ≡ words_of_all (take l.file-index l.files)
