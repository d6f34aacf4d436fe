use Rattle.half_line.specs.Run.{record_of}
use Rattle.half_line.proofs.Certified.TwoStations.{beside-playable, beside-answered, beside-unrest, beside-master, beside-goes_on, beside-answers}
use Rattle.half_line.proofs.laws.a_write_certifies_two_stations_after_noise.Goals as goal

pub returns-clause-playable : goal.returns-clause-playable
returns-clause-playable c = beside-playable

pub returns-clause-answered : goal.returns-clause-answered
returns-clause-answered c = beside-answered

pub returns-clause-disturbed : goal.returns-clause-disturbed
returns-clause-disturbed c = beside-unrest

pub returns-clause-in_step : goal.returns-clause-in_step
returns-clause-in_step c = beside-master

pub returns-clause-goes_on : goal.returns-clause-goes_on
returns-clause-goes_on c = beside-goes_on

pub returns-clause-answers : goal.returns-clause-answers
unfolding record_of
returns-clause-answers c = beside-answers
