use Rattle.run_laws.proofs.NoneSettled.{no-settled-held}
use Rattle.run_laws.proofs.NothingLate.{polled-honest}
use Rattle.run_laws.proofs.late.no_settled_command_is_held.Goals as goal

pub returns : goal.returns
returns c script playable none = no-settled-held script playable (polled-honest script playable.mode none)
