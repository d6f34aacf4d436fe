use Rattle.half_line.specs.Run.{record_of}
use Rattle.half_line.proofs.Complete.Witness.{two_stations-playable, two_stations-undisturbed, two_stations-complete, two_stations-executed, two_stations-executed-too, two_stations-answered}
use Rattle.half_line.proofs.complete_law.commands_of_two_stations_are_executed_and_answered.Goals as goal

pub returns-clause-playable : goal.returns-clause-playable
returns-clause-playable c = two_stations-playable

pub returns-clause-undisturbed : goal.returns-clause-undisturbed
returns-clause-undisturbed c = two_stations-undisturbed

pub returns-clause-complete : goal.returns-clause-complete
unfolding record_of
returns-clause-complete c = two_stations-complete

pub returns-clause-executed : goal.returns-clause-executed
unfolding record_of
returns-clause-executed c = two_stations-executed

pub returns-clause-executed_too : goal.returns-clause-executed_too
unfolding record_of
returns-clause-executed_too c = two_stations-executed-too

pub returns-clause-answered : goal.returns-clause-answered
unfolding record_of
returns-clause-answered c = two_stations-answered
