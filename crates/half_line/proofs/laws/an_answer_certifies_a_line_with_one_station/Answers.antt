use Rattle.half_line.proofs.Certified.AloneRun.{certified-alone}
use Rattle.half_line.proofs.laws.an_answer_certifies_a_line_with_one_station.Goals as goal

pub returns : goal.returns
returns c = certified-alone
