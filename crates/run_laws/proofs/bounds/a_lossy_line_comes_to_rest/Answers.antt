use Rattle.run_laws.proofs.IdleWitness.{lost_both_ways-rests}
use Rattle.run_laws.proofs.bounds.a_lossy_line_comes_to_rest.Goals as goal

pub returns : goal.returns
returns c = lost_both_ways-rests
