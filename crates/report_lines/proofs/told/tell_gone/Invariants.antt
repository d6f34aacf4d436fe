use Rattle.std.proofs.Common.{◌≡◌, ◌++◌, drop}
use Rattle.report_lines.specs.NodeLines.{gone_lines}
use Rattle.report_lines.proofs.told.tell_gone.Given as goal

-- what is told and what is still to be told
abbrev pub invariant-loop-n : goal.invariant-loop-n
invariant-loop-n l = l.lines ++ gone_lines l.who (drop l.n-index l.gone) ≡ l.fn.lines ++ gone_lines l.who l.gone
