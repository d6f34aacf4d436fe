use Rattle.half_frame.specs.MasterGrammar.{master_hears}
use Rattle.df1_frame.proofs.LineLemmas.{one-exists, one-only, answers-length}
use Rattle.half_frame.proofs.MasterLemmas.{machine, works}
use Rattle.half_frame.proofs.master_laws.one_split_at_the_master.Goals as goal

pub returns-clause-exists : goal.returns-clause-exists
returns-clause-exists c = λ N. one-exists (master_hears c.args.check N) (machine c.args.check N) (works c.args.check N)

pub returns-clause-only : goal.returns-clause-only
returns-clause-only c = λ N. one-only (master_hears c.args.check N) (machine c.args.check N) (works c.args.check N)

pub returns-clause-answered : goal.returns-clause-answered
returns-clause-answered c = λ N. answers-length (master_hears c.args.check N) (machine c.args.check N) (works c.args.check N)
