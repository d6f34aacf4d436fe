use Rattle.duplex_line.specs.Run.{record_of}
use Rattle.duplex_line.proofs.Complete.AfterRest.{goes-calmly, goes-mildly}
use Rattle.duplex_line.proofs.laws.after_rest_all_is_well.Goals as goal

pub returns-clause-undisturbed : goal.returns-clause-undisturbed
unfolding record_of
returns-clause-undisturbed c script front rest playable calm = goes-calmly script front rest playable calm

pub returns-clause-damaged : goal.returns-clause-damaged
unfolding record_of
returns-clause-damaged c script front rest playable mild = goes-mildly script front rest playable mild
