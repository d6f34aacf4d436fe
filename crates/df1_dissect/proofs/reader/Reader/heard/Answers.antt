-- The count of things is that of what was told.
use Rattle.df1_dissect.proofs.Sides.{heard-length}
use Rattle.df1_dissect.proofs.reader.Reader.heard.Goals as goal

pub returns-clause-heard : goal.returns-clause-heard
returns-clause-heard c = λ side check bytes things r q. heard-length side check bytes _ things (rw (← c.self.view_is) at r) q
