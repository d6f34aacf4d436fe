-- The count of faults is the reader's.
use Rattle.df1_dissect.proofs.dissector.Dissector.bad.Goals as goal

pub returns-clause-bad : goal.returns-clause-bad
returns-clause-bad c = λ side check bytes things r q. c.bad.ensures.bad side check bytes things (rw (← c.self.view_is) at r) q
