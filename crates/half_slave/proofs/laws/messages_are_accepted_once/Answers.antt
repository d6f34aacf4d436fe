use Rattle.std.proofs.Common.{refl}
use Rattle.half_slave.proofs.Receiving.{signals-hand, signals-kept}
use Rattle.half_slave.proofs.laws.messages_are_accepted_once.Goals as goal

pub returns-clause-start : goal.returns-clause-start
returns-clause-start g c = λ setup host. refl

pub returns-clause-handed : goal.returns-clause-handed
returns-clause-handed g c = signals-hand g.H.Host

pub returns-clause-kept : goal.returns-clause-kept
returns-clause-kept g c = signals-kept g.H.Host
