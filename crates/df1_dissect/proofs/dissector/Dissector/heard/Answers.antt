-- The count of things is the reader's.
use Rattle.df1_dissect.proofs.dissector.Dissector.heard.Goals as goal

pub returns-clause-heard : goal.returns-clause-heard
returns-clause-heard c = λ side check bytes things r q. c.heard.ensures.heard side check bytes things (rw (← c.self.view_is) at r) q
