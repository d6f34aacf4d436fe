use Rattle.duplex_receiver.specs.Hearing.{offers}
use Rattle.duplex_receiver.proofs.Runs.{KeysChange-accepted}
use Rattle.duplex_receiver.proofs.laws.accepted_keys_change.Goals as goal

pub returns : goal.returns
returns c = λ hearings. KeysChange-accepted (offers hearings)
