use Rattle.df1_node.proofs.Locked.{locked-stays}
use Rattle.df1_node.proofs.laws.no_command_writes_a_locked_file.Goals as goal

pub returns : goal.returns
returns c = locked-stays
