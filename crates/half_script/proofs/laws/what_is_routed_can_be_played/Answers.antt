-- The reader's invariant gives a script that can be played.
use Rattle.half_script.proofs.Standing.{routed_is_playable}
use Rattle.half_script.proofs.laws.what_is_routed_can_be_played.Goals as goal

pub returns : goal.returns
returns c = routed_is_playable
