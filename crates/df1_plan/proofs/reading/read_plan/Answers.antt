use Rattle.std.proofs.Common.{rules}
use Rattle.toml.specs.View.{table_view}
use Rattle.df1_plan.proofs.Valid.{says_valid}
use Rattle.df1_plan.proofs.reading.read_plan.Goals as goal

pub returns-in-Ok-clause-valid : goal.returns-in-Ok-clause-valid
returns-in-Ok-clause-valid c = search (rules, says_valid (table_view c.in-Ok.table))
