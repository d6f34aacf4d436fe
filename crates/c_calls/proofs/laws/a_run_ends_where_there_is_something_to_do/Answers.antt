use Rattle.c_calls.proofs.Hearing.{run-ends}
use Rattle.c_calls.proofs.laws.a_run_ends_where_there_is_something_to_do.Goals as goal

pub returns : goal.returns
returns c = run-ends
