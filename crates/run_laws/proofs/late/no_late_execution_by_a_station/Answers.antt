use Rattle.run_laws.proofs.OverAtPolledCut.{over-there-for-good}
use Rattle.run_laws.proofs.NothingLate.{polled-honest}
use Rattle.run_laws.proofs.late.no_late_execution_by_a_station.Goals as goal

pub returns : goal.returns
returns c script playable none = over-there-for-good script playable (polled-honest script playable.mode none)
