use Rattle.std.proofs.Common.{◌≡◌, ◌+◌, drop}
use Rattle.c_calls.specs.Words.{node_words_set}
use Rattle.c_calls.proofs.words.set_each.Given as goal

-- what is set and what is still to be set
abbrev pub invariant-loop-place : goal.invariant-loop-place
invariant-loop-place l = node_words_set l.file (l.first + l.place) (drop l.place l.values) l.node ≡ node_words_set l.file l.first l.values l.fn.node
