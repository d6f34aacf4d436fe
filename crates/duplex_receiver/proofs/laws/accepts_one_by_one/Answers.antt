use Rattle.duplex_receiver.proofs.Keeping.{accepted_of-more}
use Rattle.duplex_receiver.proofs.laws.accepts_one_by_one.Goals as goal

pub returns : goal.returns
returns c = accepted_of-more
