use Rattle.run_laws.proofs.IdleRun.{ends-come-to-idle}
use Rattle.run_laws.proofs.bounds.ends_come_to_idle.Goals as goal

pub returns : goal.returns
returns c = ends-come-to-idle
