use Rattle.half_line.specs.Run.{record_of}
use Rattle.half_line.proofs.Complete.RestWitness.{left-playable, left-calm, left-out, left-executed, left-answered}
use Rattle.half_line.proofs.laws.a_write_after_a_lost_reply_is_executed_and_answered.Goals as goal

pub returns-clause-playable : goal.returns-clause-playable
returns-clause-playable c = left-playable

pub returns-clause-calm : goal.returns-clause-calm
returns-clause-calm c = left-calm

pub returns-clause-outstanding : goal.returns-clause-outstanding
unfolding record_of
returns-clause-outstanding c = left-out

pub returns-clause-executed : goal.returns-clause-executed
unfolding record_of
returns-clause-executed c = left-executed

pub returns-clause-answered : goal.returns-clause-answered
unfolding record_of
returns-clause-answered c = left-answered
