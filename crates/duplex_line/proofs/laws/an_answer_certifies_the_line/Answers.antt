use Rattle.duplex_line.proofs.Certified.WholeRun.{certified-by-a, certified-by-b}
use Rattle.duplex_line.proofs.laws.an_answer_certifies_the_line.Goals as goal

pub returns-clause-of_a : goal.returns-clause-of_a
returns-clause-of_a c = certified-by-a

pub returns-clause-of_b : goal.returns-clause-of_b
returns-clause-of_b c = certified-by-b
