use Rattle.df1_frame.specs.Grammar.{full_duplex}
use Rattle.df1_frame.proofs.LineLemmas.{one-exists, one-only, answers-length}
use Rattle.df1_frame.proofs.GrammarLemmas.{machine, works}
use Rattle.df1_frame.proofs.laws.one_split.Goals as goal

pub returns-clause-exists : goal.returns-clause-exists
returns-clause-exists c = λ N. one-exists (full_duplex c.args.check N) (machine c.args.check N) (works c.args.check N)

pub returns-clause-only : goal.returns-clause-only
returns-clause-only c = λ N. one-only (full_duplex c.args.check N) (machine c.args.check N) (works c.args.check N)

pub returns-clause-answered : goal.returns-clause-answered
returns-clause-answered c = λ N. answers-length (full_duplex c.args.check N) (machine c.args.check N) (works c.args.check N)
