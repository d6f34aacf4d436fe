use Rattle.std.proofs.Common.{rules}
use Rattle.df1_plan.specs.Issues.{is_command_field}
use Rattle.df1_plan.proofs.Names.{other-any}
use Rattle.df1_plan.proofs.issue.has_other_field.Goals as goal

pub loop-name-init : goal.loop-name-init
loop-name-init c = search (rules, other-any is_command_field c.args.fields.now.entries)
