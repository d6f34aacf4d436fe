use Rattle.run_laws.proofs.OverAtCut.{over-for-good}
use Rattle.run_laws.proofs.NothingLate.{duplex-honest}
use Rattle.run_laws.proofs.late.no_late_execution.Goals as goal

pub returns : goal.returns
returns c script playable none = over-for-good script playable (duplex-honest script playable.mode none)
