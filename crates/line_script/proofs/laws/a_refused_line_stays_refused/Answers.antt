use Rattle.line_script.proofs.Unfinished.{stays_refused}
use Rattle.line_script.proofs.laws.a_refused_line_stays_refused.Goals as goal

pub returns : goal.returns
returns c = stays_refused
