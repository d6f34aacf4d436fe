use Rattle.half_frame.proofs.MasterRuns.{run-heard}
use Rattle.half_frame.proofs.master_laws.heard_in_a_run_at_the_master.Goals as goal

pub returns : goal.returns
returns c = λ N d bytes. run-heard N d.check d.standing bytes
