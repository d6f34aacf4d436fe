-- Whole messages are those of the grammar.
use Rattle.half_line.proofs.Once.Hearing.{run-hears}
use Rattle.half_line.proofs.laws.whole_messages_are_heard_by_the_grammar.Goals as goal

pub returns-clause-at_stations : goal.returns-clause-at_stations
returns-clause-at_stations c script place = (run-hears script).heard place

pub returns-clause-at_master : goal.returns-clause-at_master
returns-clause-at_master c script = (run-hears script).of_master.heard
