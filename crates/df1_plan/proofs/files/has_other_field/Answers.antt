use Rattle.std.proofs.Common.{rules}
use Rattle.df1_plan.specs.Files.{is_field}
use Rattle.df1_plan.proofs.Names.{other-any}
use Rattle.df1_plan.proofs.files.has_other_field.Goals as goal

pub loop-name-init : goal.loop-name-init
loop-name-init c = search (rules, other-any is_field c.args.fields.now.entries)
