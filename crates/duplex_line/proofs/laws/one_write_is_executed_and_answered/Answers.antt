use Rattle.duplex_line.specs.Run.{record_of}
use Rattle.duplex_line.proofs.Complete.Witness.{one_write-playable, one_write-rooms, one_write-prompt, one_write-quiet, one_write-honest, one_write-executed, one_write-answered}
use Rattle.duplex_line.proofs.laws.one_write_is_executed_and_answered.Goals as goal

pub returns-clause-playable : goal.returns-clause-playable
returns-clause-playable c = one_write-playable

pub returns-clause-honest : goal.returns-clause-honest
unfolding record_of
returns-clause-honest c = one_write-honest

pub returns-clause-executed : goal.returns-clause-executed
unfolding record_of
returns-clause-executed c = one_write-executed

pub returns-clause-answered : goal.returns-clause-answered
unfolding record_of
returns-clause-answered c = one_write-answered

pub returns-clause-prompt : goal.returns-clause-prompt
returns-clause-prompt c = one_write-prompt

pub returns-clause-quiet : goal.returns-clause-quiet
returns-clause-quiet c = one_write-quiet

pub returns-clause-rooms : goal.returns-clause-rooms
returns-clause-rooms c = one_write-rooms
