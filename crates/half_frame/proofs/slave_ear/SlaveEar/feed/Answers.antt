use Rattle.half_frame.specs.SlaveGrammar.{slave_hears}
use Rattle.df1_frame.proofs.LineLemmas.{stands-next, heard-next, answers-next}
use Rattle.half_frame.proofs.SlaveLemmas.{machine, works}
use Rattle.half_frame.proofs.slave_ear.SlaveEar.feed.Goals as goal

pub returns-clause-stands : goal.returns-clause-stands
returns-clause-stands g c = λ check l r. rw c.advance.ensures.value (stands-next (slave_hears check g.row.N) (machine check g.row.N) (works check g.row.N) c.args.b l c.args.self.now r)

pub returns-clause-heard : goal.returns-clause-heard
returns-clause-heard g c = λ check l r. rw c.advance.ensures.answer (heard-next (slave_hears check g.row.N) (machine check g.row.N) (works check g.row.N) c.args.b l c.args.self.now r)

pub returns-clause-answers : goal.returns-clause-answers
returns-clause-answers g c = λ check l so_far r q. rw c.advance.ensures.answer (answers-next (slave_hears check g.row.N) (machine check g.row.N) (works check g.row.N) c.args.b l c.args.self.now so_far r q)
