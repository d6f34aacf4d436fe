use Rattle.duplex_line.specs.Run.{record_of}
use Rattle.duplex_line.proofs.Complete.Witness.{two_sources-playable, two_sources-rooms, two_sources-prompt, two_sources-quiet, two_sources-honest, two_sources-executed, two_sources-answered}
use Rattle.duplex_line.proofs.laws.commands_of_two_sources_are_executed_and_answered.Goals as goal

pub returns-clause-playable : goal.returns-clause-playable
returns-clause-playable c = two_sources-playable

pub returns-clause-honest : goal.returns-clause-honest
unfolding record_of
returns-clause-honest c = two_sources-honest

pub returns-clause-executed : goal.returns-clause-executed
unfolding record_of
returns-clause-executed c = two_sources-executed

pub returns-clause-answered : goal.returns-clause-answered
unfolding record_of
returns-clause-answered c = two_sources-answered

pub returns-clause-prompt : goal.returns-clause-prompt
returns-clause-prompt c = two_sources-prompt

pub returns-clause-quiet : goal.returns-clause-quiet
returns-clause-quiet c = two_sources-quiet

pub returns-clause-rooms : goal.returns-clause-rooms
returns-clause-rooms c = two_sources-rooms
