use Rattle.std.proofs.Common.{◌≡◌, ◌++◌, length}
use Rattle.data_files.specs.WordBytes.{words_of}
use Rattle.df1_plan.proofs.files.words_of.Given as goal

abbrev pub invariant-loop-rest : goal.invariant-loop-rest
invariant-loop-rest l = l.words ++ words_of l.rest ≡ words_of l.bytes

abbrev pub decreases-loop-rest : goal.decreases-loop-rest
decreases-loop-rest l = length l.rest
