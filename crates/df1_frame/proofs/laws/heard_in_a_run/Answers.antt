use Rattle.df1_frame.proofs.DecoderRuns.{run-heard}
use Rattle.df1_frame.proofs.laws.heard_in_a_run.Goals as goal

pub returns : goal.returns
returns c = λ N d bytes. run-heard N d.check d.standing bytes
