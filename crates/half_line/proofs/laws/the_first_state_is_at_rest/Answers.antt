use Rattle.half_line.proofs.Complete.WholeRun.{first-rests}
use Rattle.half_line.proofs.laws.the_first_state_is_at_rest.Goals as goal

pub returns : goal.returns
returns c = first-rests
