use Rattle.half_line.specs.Run.{record_of}
use Rattle.half_line.proofs.Once.EachStation.{each-once}
use Rattle.half_line.proofs.Once.MasterCommands.{issued-run}
use Rattle.half_line.proofs.Once.MasterOutcomes.{outcomes-run}
use Rattle.half_line.proofs.once_law.each_command_once_at_each_station.Goals as goal

pub returns : goal.returns
unfolding record_of
returns c script playable none = each-once script playable (issued-run script).bodies (outcomes-run script playable) none
