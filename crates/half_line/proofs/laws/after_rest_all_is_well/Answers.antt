use Rattle.half_line.specs.Run.{record_of}
use Rattle.half_line.proofs.Complete.AfterRest.{goes-well}
use Rattle.half_line.proofs.laws.after_rest_all_is_well.Goals as goal

pub returns : goal.returns
unfolding record_of
returns c script front rest playable calm = goes-well script front rest playable calm
