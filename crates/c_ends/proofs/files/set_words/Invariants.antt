use Rattle.std.proofs.Common.{◌≡◌, drop}
use Rattle.c_ends.specs.Parts.{with_all}
use Rattle.c_ends.proofs.files.set_words.Given as goal

-- what is set and what is still to be set
abbrev pub invariant-loop-word : goal.invariant-loop-word
invariant-loop-word l = with_all l.tables (drop l.word-index l.words) ≡ with_all l.fn.tables l.words
