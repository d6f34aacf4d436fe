use Rattle.std.proofs.Common.{rules}
use Rattle.df1_c.specs.Held.{holding, value_in}
use Rattle.df1_c.proofs.Arriving.{take-stands}
use Rattle.df1_c.proofs.ends.df1_end_take.Goals as goal

pub returns-clause-stands : goal.returns-clause-stands
unfolding value_in
returns-clause-stands c = take-stands (holding c.args.end.now) (holding c.of.result) (search rules)
