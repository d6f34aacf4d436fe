use Rattle.std.proofs.Common.{◌≡◌, ◌-◌, ◌++◌, length, map, take}
use Rattle.script_statement.specs.Words.{words}
use Rattle.script_statement.proofs.words.first_words.Given as goal

abbrev pub invariant-loop-rest : goal.invariant-loop-rest
invariant-loop-rest l = map (λ x. x.now) l.words.items ++ take (6 - length l.words.items) (words l.rest) ≡ take 6 (words l.line)

abbrev pub decreases-loop-rest : goal.decreases-loop-rest
decreases-loop-rest l = length l.rest
