use Rattle.df1_check.proofs.LookUps.{entry_at}
use Rattle.df1_check.proofs.table_entries.Goals as goal

pub returns-clause-entries : goal.returns-clause-entries
returns-clause-entries c = entry_at
