use Rattle.run_laws.proofs.Cut.{nothing-is-overtaken}
use Rattle.run_laws.proofs.overtaking.nothing_is_overtaken.Goals as goal

pub returns : goal.returns
returns c = nothing-is-overtaken
