-- The master's commands are those of the script.
use Rattle.half_line.proofs.Once.MasterCommands.{issued-run}
use Rattle.half_line.proofs.laws.commands_are_issued.Goals as goal

pub returns : goal.returns
returns c script = (issued-run script).bodies
