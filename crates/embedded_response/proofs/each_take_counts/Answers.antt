use Rattle.embedded_response.proofs.GivingLemmas.{take-none, none-take}
use Rattle.embedded_response.proofs.each_take_counts.Goals as goal

pub returns-clause-none : goal.returns-clause-none
returns-clause-none c = λ g. (take-none g, none-take g)
