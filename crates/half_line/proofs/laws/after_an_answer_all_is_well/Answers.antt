use Rattle.half_line.specs.Run.{record_of}
use Rattle.half_line.proofs.Certified.AloneRun.{well-alone}
use Rattle.half_line.proofs.Certified.WholeRun.{well-after}
use Rattle.half_line.proofs.laws.after_an_answer_all_is_well.Goals as goal

pub returns-clause-with_others : goal.returns-clause-with_others
unfolding record_of
returns-clause-with_others c = well-after

pub returns-clause-alone : goal.returns-clause-alone
unfolding record_of
returns-clause-alone c = well-alone
