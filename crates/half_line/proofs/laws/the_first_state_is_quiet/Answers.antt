use Rattle.half_line.proofs.Wire.FirstState.{first-quiet}
use Rattle.half_line.proofs.laws.the_first_state_is_quiet.Goals as goal

pub returns : goal.returns
returns c = first-quiet
