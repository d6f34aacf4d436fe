use Rattle.run_laws.proofs.BoundsWitness.{two_waits-short}
use Rattle.run_laws.proofs.bounds.the_bound_is_reached.Goals as goal

pub returns : goal.returns
returns c = two_waits-short
