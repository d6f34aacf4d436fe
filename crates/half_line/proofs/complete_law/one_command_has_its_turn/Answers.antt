use Rattle.half_line.proofs.Complete.WholeRun.{one-turn}
use Rattle.half_line.proofs.complete_law.one_command_has_its_turn.Goals as goal

pub returns : goal.returns
returns c = one-turn
