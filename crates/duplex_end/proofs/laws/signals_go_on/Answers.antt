use Rattle.duplex_end.proofs.Runs.{end-more, emission-more}
use Rattle.duplex_end.proofs.laws.signals_go_on.Goals as goal

pub returns-clause-end : goal.returns-clause-end
returns-clause-end g c = end-more g.H.Host

pub returns-clause-given : goal.returns-clause-given
returns-clause-given g c = emission-more g.H.Host
