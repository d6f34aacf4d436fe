use Rattle.duplex_line.specs.Run.{record_of}
use Rattle.duplex_line.proofs.Complete.DamagedWitness.{hit_write-playable, hit_write-recoverable, hit_write-damaged, hit_write-executed, hit_write-answered}
use Rattle.duplex_line.proofs.laws.a_hit_write_is_executed_and_answered.Goals as goal

pub returns-clause-playable : goal.returns-clause-playable
returns-clause-playable c = hit_write-playable

pub returns-clause-recoverable : goal.returns-clause-recoverable
returns-clause-recoverable c = hit_write-recoverable

pub returns-clause-damaged : goal.returns-clause-damaged
unfolding record_of
returns-clause-damaged c = hit_write-damaged

pub returns-clause-executed : goal.returns-clause-executed
unfolding record_of
returns-clause-executed c = hit_write-executed

pub returns-clause-answered : goal.returns-clause-answered
unfolding record_of
returns-clause-answered c = hit_write-answered
