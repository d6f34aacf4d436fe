-- The count of faults is that of what was told.
use Rattle.df1_dissect.proofs.Sides.{bad-among}
use Rattle.df1_dissect.proofs.reader.Reader.bad.Goals as goal

pub returns-clause-bad : goal.returns-clause-bad
returns-clause-bad c = λ side check bytes things r q. bad-among side check bytes _ things (rw (← c.self.view_is) at r) q
