use Rattle.run_laws.proofs.BoundsWitness.{no_poll_answered-short}
use Rattle.run_laws.proofs.bounds.the_bound_of_a_master_is_near.Goals as goal

pub returns : goal.returns
returns c = no_poll_answered-short
