use Rattle.df1_frame.proofs.FrameLemmas.{silent-within, good-within}
use Rattle.df1_frame.proofs.laws.whole_frame.Goals as goal

pub returns-clause-before : goal.returns-clause-before
returns-clause-before c = silent-within c.args.check

pub returns-clause-end : goal.returns-clause-end
returns-clause-end c = good-within c.args.check
