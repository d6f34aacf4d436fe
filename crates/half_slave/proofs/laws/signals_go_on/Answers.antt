use Rattle.half_slave.proofs.Runs.{slave-more, emission-more}
use Rattle.half_slave.proofs.laws.signals_go_on.Goals as goal

pub returns-clause-slave : goal.returns-clause-slave
returns-clause-slave g c = slave-more g.H.Host

pub returns-clause-given : goal.returns-clause-given
returns-clause-given g c = emission-more g.H.Host
