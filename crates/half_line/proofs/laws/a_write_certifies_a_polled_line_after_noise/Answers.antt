use Rattle.half_line.specs.Run.{record_of}
use Rattle.half_line.proofs.Certified.Witness.{noise-playable, noise-answered, noise-alone, noise-unrest, noise-lost, noise-master, noise-goes_on, noise-answers}
use Rattle.half_line.proofs.laws.a_write_certifies_a_polled_line_after_noise.Goals as goal

pub returns-clause-playable : goal.returns-clause-playable
returns-clause-playable c = noise-playable

pub returns-clause-answered : goal.returns-clause-answered
returns-clause-answered c = noise-answered

pub returns-clause-disturbed : goal.returns-clause-disturbed
returns-clause-disturbed c = noise-unrest

pub returns-clause-lost : goal.returns-clause-lost
unfolding record_of
returns-clause-lost c = noise-lost

pub returns-clause-goes_on : goal.returns-clause-goes_on
returns-clause-goes_on c = noise-goes_on

pub returns-clause-answers : goal.returns-clause-answers
unfolding record_of
returns-clause-answers c = noise-answers

pub returns-clause-alone : goal.returns-clause-alone
returns-clause-alone c = noise-alone

pub returns-clause-in_step : goal.returns-clause-in_step
returns-clause-in_step c = noise-master
