use Rattle.half_line.proofs.Certified.WholeRun.{certified}
use Rattle.half_line.proofs.laws.an_answer_certifies_the_stations.Goals as goal

pub returns : goal.returns
returns c = certified
