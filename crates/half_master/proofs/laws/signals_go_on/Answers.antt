use Rattle.half_master.proofs.Runs.{master-more, emission-more}
use Rattle.half_master.proofs.laws.signals_go_on.Goals as goal

pub returns-clause-master : goal.returns-clause-master
returns-clause-master g c = master-more g.H.Host

pub returns-clause-given : goal.returns-clause-given
returns-clause-given g c = emission-more g.H.Host
