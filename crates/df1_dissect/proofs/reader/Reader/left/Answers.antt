-- What lies behind the start of the item under way is its front.
use Rattle.df1_dissect.proofs.Sides.{left-unfinished}
use Rattle.df1_dissect.proofs.reader.Reader.left.Goals as goal

pub returns-clause-left : goal.returns-clause-left
returns-clause-left c = λ side check bytes r. left-unfinished side check bytes _ (rw (← c.self.view_is) at r)
