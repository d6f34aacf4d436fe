use Rattle.std.proofs.Common.{length}
use Rattle.replay_report.proofs.page.Page.clear.Given as goal

abbrev pub decreases-loop-line : goal.decreases-loop-line
decreases-loop-line l = length l.self
