use Rattle.std.proofs.Common.{◌++◌}
use Rattle.df1_frame.specs.Line.{answers}
use Rattle.df1_frame.specs.Grammar.{Nothing, full_duplex, good_answers}
use Rattle.df1_frame.proofs.LineLemmas.{answered-on}
use Rattle.df1_frame.proofs.GrammarLemmas.{machine, works, good-heard, good-lent}
use Rattle.df1_frame.proofs.laws.round_trip.Goals as goal

pub returns-clause-heard : goal.returns-clause-heard
returns-clause-heard c = good-heard c.args.check

pub returns-clause-lent : goal.returns-clause-lent
returns-clause-lent c = λ N before body bytes items pieces s p least most. good-lent c.args.check N before body bytes items pieces s p most

pub returns-clause-later : goal.returns-clause-later
returns-clause-later c = λ N before body bytes more items pieces s p least most.
    let G = full_duplex c.args.check N in
    answered-on G (machine c.args.check N) (works c.args.check N) more (before ++ bytes) (answers G items Nothing ++ good_answers c.args.check pieces) (good-heard c.args.check N before body bytes items pieces s p least most)
