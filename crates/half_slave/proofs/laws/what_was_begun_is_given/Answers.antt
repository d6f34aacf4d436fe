use Rattle.half_slave.specs.Slave.{heard_at, listened}
use Rattle.half_slave.proofs.Rows.{heard-mouth}
use Rattle.half_slave.proofs.laws.what_was_begun_is_given.Goals as goal

pub returns : goal.returns
returns g c = λ s b busy. heard-mouth g.H.Host (listened s b) (heard_at s b) busy
