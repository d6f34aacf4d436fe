use Rattle.duplex_line.specs.Run.{record_of}
use Rattle.duplex_line.proofs.Complete.WholeRun.{is-complete}
use Rattle.duplex_line.proofs.laws.an_undisturbed_run_is_complete.Goals as goal

pub returns : goal.returns
unfolding record_of
returns c script playable rooms prompt quiet = is-complete script playable rooms prompt quiet
