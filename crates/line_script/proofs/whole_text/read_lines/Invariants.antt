use Rattle.std.proofs.Common.{◌≡◌, ◌+◌, ◌≤◌, length}
use Rattle.line_script.specs.Lines.{lines_from}
use Rattle.line_script.specs.ScriptText.{lines_for, parts, text_for}
use Rattle.line_script.proofs.whole_text.read_lines.Given as goal

-- what is read so far goes on as the whole does
abbrev pub invariant-loop-line : goal.invariant-loop-line
invariant-loop-line l = record {
  same : lines_for l.fn.profile l.reader l.events l.number (lines_from l.start (parts l.rest)) ≡ text_for l.fn.profile l.fn.text;
  numbered : l.number ≤ l.start + 1;
  within : l.start ≤ 16777216;
}

abbrev pub decreases-loop-line : goal.decreases-loop-line
decreases-loop-line l = length l.rest
