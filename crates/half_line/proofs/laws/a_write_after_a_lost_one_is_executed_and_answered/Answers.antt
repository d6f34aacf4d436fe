use Rattle.half_line.specs.Run.{record_of}
use Rattle.half_line.proofs.Complete.RestWitness.{rested-playable, rested-calm, rested-gives_up, rested-executed, rested-answered}
use Rattle.half_line.proofs.laws.a_write_after_a_lost_one_is_executed_and_answered.Goals as goal

pub returns-clause-playable : goal.returns-clause-playable
returns-clause-playable c = rested-playable

pub returns-clause-calm : goal.returns-clause-calm
returns-clause-calm c = rested-calm

pub returns-clause-given_up : goal.returns-clause-given_up
unfolding record_of
returns-clause-given_up c = rested-gives_up

pub returns-clause-executed : goal.returns-clause-executed
unfolding record_of
returns-clause-executed c = rested-executed

pub returns-clause-answered : goal.returns-clause-answered
unfolding record_of
returns-clause-answered c = rested-answered
