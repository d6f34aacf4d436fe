use Rattle.run_laws.proofs.NothingLate.{nothing-comes-late}
use Rattle.run_laws.proofs.late.nothing_comes_late.Goals as goal

pub returns : goal.returns
returns c = nothing-comes-late
