use Rattle.line_script.proofs.LongTexts.{refused_over}
use Rattle.line_script.proofs.laws.refused_over_the_limit.Goals as goal

pub returns : goal.returns
returns c = refused_over
