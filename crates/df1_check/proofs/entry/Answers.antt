use Rattle.df1_check.proofs.LookUps.{entry}
use Rattle.df1_check.proofs.entry.Goals as goal

pub returns : goal.returns
returns c = entry c.args.register 0 c.requires
