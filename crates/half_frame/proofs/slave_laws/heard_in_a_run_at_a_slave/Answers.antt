use Rattle.half_frame.proofs.SlaveRuns.{run-heard}
use Rattle.half_frame.proofs.slave_laws.heard_in_a_run_at_a_slave.Goals as goal

pub returns : goal.returns
returns c = λ N d bytes. run-heard N d.check d.standing bytes
