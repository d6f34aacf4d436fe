use Rattle.duplex_line.specs.Run.{record_of}
use Rattle.duplex_line.proofs.Complete.RestWitness.{mended-playable, mended-rest, mended-gives_up, mended-executed, mended-answered}
use Rattle.duplex_line.proofs.laws.a_hit_write_after_a_lost_one_is_executed_and_answered.Goals as goal

pub returns-clause-playable : goal.returns-clause-playable
returns-clause-playable c = mended-playable

pub returns-clause-mild : goal.returns-clause-mild
returns-clause-mild c = mended-rest

pub returns-clause-given_up : goal.returns-clause-given_up
unfolding record_of
returns-clause-given_up c = mended-gives_up

pub returns-clause-executed : goal.returns-clause-executed
unfolding record_of
returns-clause-executed c = mended-executed

pub returns-clause-answered : goal.returns-clause-answered
unfolding record_of
returns-clause-answered c = mended-answered
