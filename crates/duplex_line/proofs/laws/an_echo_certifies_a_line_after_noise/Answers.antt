use Rattle.duplex_line.specs.Run.{record_of}
use Rattle.duplex_line.proofs.Certified.Witness.{noise-playable, noise-answered, noise-unrest, noise-lost, noise-rest, noise-goes_on, noise-answers}
use Rattle.duplex_line.proofs.laws.an_echo_certifies_a_line_after_noise.Goals as goal

pub returns-clause-playable : goal.returns-clause-playable
returns-clause-playable c = noise-playable

pub returns-clause-answered : goal.returns-clause-answered
returns-clause-answered c = noise-answered

pub returns-clause-disturbed : goal.returns-clause-disturbed
returns-clause-disturbed c = noise-unrest

pub returns-clause-lost : goal.returns-clause-lost
unfolding record_of
returns-clause-lost c = noise-lost

pub returns-clause-rests : goal.returns-clause-rests
returns-clause-rests c = noise-rest

pub returns-clause-goes_on : goal.returns-clause-goes_on
returns-clause-goes_on c = noise-goes_on

pub returns-clause-answers : goal.returns-clause-answers
unfolding record_of
returns-clause-answers c = noise-answers
