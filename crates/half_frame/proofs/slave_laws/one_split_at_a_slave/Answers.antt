use Rattle.half_frame.specs.SlaveGrammar.{slave_hears}
use Rattle.df1_frame.proofs.LineLemmas.{one-exists, one-only, answers-length}
use Rattle.half_frame.proofs.SlaveLemmas.{machine, works}
use Rattle.half_frame.proofs.slave_laws.one_split_at_a_slave.Goals as goal

pub returns-clause-exists : goal.returns-clause-exists
returns-clause-exists c = λ N. one-exists (slave_hears c.args.check N) (machine c.args.check N) (works c.args.check N)

pub returns-clause-only : goal.returns-clause-only
returns-clause-only c = λ N. one-only (slave_hears c.args.check N) (machine c.args.check N) (works c.args.check N)

pub returns-clause-answered : goal.returns-clause-answered
returns-clause-answered c = λ N. answers-length (slave_hears c.args.check N) (machine c.args.check N) (works c.args.check N)
