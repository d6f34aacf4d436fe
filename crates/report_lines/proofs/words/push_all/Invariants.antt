use Rattle.std.proofs.Common.{◌≡◌, ◌++◌, take, drop}
use Rattle.std.specs.List.{flat_map}
use Rattle.report_lines.specs.Words.{words_from}
use Rattle.report_lines.proofs.FileWords.{values_of}
use Rattle.report_lines.proofs.words.push_all.Given as goal

-- what is told of the files so far, and the words of those that are left
abbrev pub invariant-loop-place : goal.invariant-loop-place
invariant-loop-place l =
    (l.words ≡ l.fn.words ++ flat_map (λ spec. words_from l.who spec.number 0 (values_of l.tables spec)) (take l.place l.tables.specs))
    × (l.rest ≡ flat_map (values_of l.tables) (drop l.place l.tables.specs))
