use Rattle.half_line.proofs.Once.MasterOutcomes.{outcomes-run}
use Rattle.half_line.proofs.once_law.outcomes_are_told.Goals as goal

pub returns : goal.returns
returns c script playable = outcomes-run script playable
