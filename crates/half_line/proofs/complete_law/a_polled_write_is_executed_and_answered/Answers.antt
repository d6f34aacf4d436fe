use Rattle.half_line.specs.Run.{record_of}
use Rattle.half_line.proofs.Complete.Witness.{polled_write-playable, polled_write-undisturbed, polled_write-complete, polled_write-executed, polled_write-executed-none, polled_write-answered}
use Rattle.half_line.proofs.complete_law.a_polled_write_is_executed_and_answered.Goals as goal

pub returns-clause-playable : goal.returns-clause-playable
returns-clause-playable c = polled_write-playable

pub returns-clause-undisturbed : goal.returns-clause-undisturbed
returns-clause-undisturbed c = polled_write-undisturbed

pub returns-clause-complete : goal.returns-clause-complete
unfolding record_of
returns-clause-complete c = polled_write-complete

pub returns-clause-executed : goal.returns-clause-executed
unfolding record_of
returns-clause-executed c = polled_write-executed

pub returns-clause-executed_none : goal.returns-clause-executed_none
unfolding record_of
returns-clause-executed_none c = polled_write-executed-none

pub returns-clause-answered : goal.returns-clause-answered
unfolding record_of
returns-clause-answered c = polled_write-answered
