use Rattle.std.proofs.Common.{rules}
use Rattle.df1_plan.specs.Keys.{is_known}
use Rattle.df1_plan.proofs.Names.{other-any}
use Rattle.df1_plan.proofs.reading.has_other_key.Goals as goal

pub loop-name-init : goal.loop-name-init
loop-name-init c = search (rules, other-any is_known c.args.table.now.entries)
