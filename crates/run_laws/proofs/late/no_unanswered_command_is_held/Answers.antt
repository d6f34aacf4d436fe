use Rattle.run_laws.proofs.NoneUnanswered.{no-unanswered-held}
use Rattle.run_laws.proofs.NothingLate.{duplex-honest}
use Rattle.run_laws.proofs.late.no_unanswered_command_is_held.Goals as goal

pub returns : goal.returns
returns c script playable none = no-unanswered-held script playable (duplex-honest script playable.mode none)
