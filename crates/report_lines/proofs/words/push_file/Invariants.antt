use Rattle.std.proofs.Common.{◌≡◌, ◌++◌, drop}
use Rattle.report_lines.specs.Words.{words_from}
use Rattle.report_lines.proofs.words.push_file.Given as goal

-- what is there and what is still to come
abbrev pub invariant-loop-index : goal.invariant-loop-index
invariant-loop-index l =
    l.words ++ words_from l.who l.file l.index (drop l.index l.values) ≡ l.fn.words ++ words_from l.who l.file 0 l.values
