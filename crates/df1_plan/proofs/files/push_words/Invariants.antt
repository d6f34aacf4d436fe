use Rattle.std.proofs.Common.{◌≡◌, ◌++◌, drop}
use Rattle.df1_plan.specs.Files.{numbered}
use Rattle.df1_plan.proofs.files.push_words.Given as goal

abbrev pub invariant-loop-value : goal.invariant-loop-value
invariant-loop-value l = record {
  so_far : l.words ++ numbered l.number l.index (drop l.value-index l.values) ≡ l.initial.words ++ numbered l.number 0 l.values;
  index : l.index ≡ l.value-index;
}
