use Rattle.std.proofs.Common.{rules}
use Rattle.df1_c.specs.Held.{holding, value_in}
use Rattle.df1_c.proofs.Arriving.{body-copied}
use Rattle.df1_c.proofs.ends.df1_end_body.Goals as goal

pub returns-clause-lent : goal.returns-clause-lent
unfolding value_in
returns-clause-lent c =
    body-copied (holding c.args.end.now) c.args.into.now c.copy_body-code.new.into c.args.count.now c.copy_body-code.new.count c.number-2.result
    (search rules) (search rules) (search rules)
