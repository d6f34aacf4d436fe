use Rattle.line_script.specs.Readers.{fresh}
use Rattle.std.proofs.Common.{[]}
use Rattle.line_script.proofs.Counts.{left-after}
use Rattle.line_script.proofs.Standing.{stands_at_first}
use Rattle.line_script.proofs.laws.what_is_left_is_what_the_lines_leave.Goals as goal

pub returns : goal.returns
returns c lines = left-after lines fresh [] stands_at_first
