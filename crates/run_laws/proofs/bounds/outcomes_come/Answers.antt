use Rattle.run_laws.proofs.EitherMode.{outcomes-come}
use Rattle.run_laws.proofs.bounds.outcomes_come.Goals as goal

pub returns : goal.returns
returns c = outcomes-come
