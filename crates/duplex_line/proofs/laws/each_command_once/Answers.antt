use Rattle.duplex_line.specs.Run.{record_of}
use Rattle.duplex_line.proofs.Once.WholeRun.{each-once}
use Rattle.duplex_line.proofs.laws.each_command_once.Goals as goal

pub returns : goal.returns
unfolding record_of
returns c script playable none = each-once script playable none
