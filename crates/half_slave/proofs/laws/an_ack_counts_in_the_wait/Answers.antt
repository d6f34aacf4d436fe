use Rattle.std.proofs.Common.{refl}
use Rattle.half_slave.proofs.Waiting.{byte-delivers, signals-wait}
use Rattle.half_slave.proofs.laws.an_ack_counts_in_the_wait.Goals as goal

pub returns-clause-delivers : goal.returns-clause-delivers
returns-clause-delivers g c = byte-delivers

pub returns-clause-start : goal.returns-clause-start
returns-clause-start g c = λ setup host. refl

pub returns-clause-waits : goal.returns-clause-waits
returns-clause-waits g c = signals-wait g.H.Host
