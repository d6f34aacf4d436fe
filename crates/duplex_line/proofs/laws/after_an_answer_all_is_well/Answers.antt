use Rattle.duplex_line.specs.Run.{record_of}
use Rattle.duplex_line.proofs.Certified.WholeRun.{well-after-a, well-after-b}
use Rattle.duplex_line.proofs.laws.after_an_answer_all_is_well.Goals as goal

pub returns-clause-of_a : goal.returns-clause-of_a
unfolding record_of
returns-clause-of_a c = well-after-a

pub returns-clause-of_b : goal.returns-clause-of_b
unfolding record_of
returns-clause-of_b c = well-after-b
