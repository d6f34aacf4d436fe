use Rattle.duplex_line.specs.Run.{record_of}
use Rattle.duplex_line.proofs.Complete.WholeRun.{recovers}
use Rattle.duplex_line.proofs.laws.a_damaged_run_recovers.Goals as goal

pub returns : goal.returns
unfolding record_of
returns c script playable recoverable = recovers script playable recoverable
