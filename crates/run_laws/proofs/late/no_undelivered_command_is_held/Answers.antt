use Rattle.run_laws.proofs.NoneUndelivered.{no-undelivered-held}
use Rattle.run_laws.proofs.NothingLate.{duplex-honest}
use Rattle.run_laws.proofs.late.no_undelivered_command_is_held.Goals as goal

pub returns : goal.returns
returns c script playable none = no-undelivered-held script playable (duplex-honest script playable.mode none)
