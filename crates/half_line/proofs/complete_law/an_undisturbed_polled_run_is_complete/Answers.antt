use Rattle.half_line.specs.Run.{record_of}
use Rattle.half_line.proofs.Complete.WholeRun.{is-complete}
use Rattle.half_line.proofs.complete_law.an_undisturbed_polled_run_is_complete.Goals as goal

pub returns : goal.returns
unfolding record_of
returns c script playable undisturbed = is-complete script playable undisturbed
