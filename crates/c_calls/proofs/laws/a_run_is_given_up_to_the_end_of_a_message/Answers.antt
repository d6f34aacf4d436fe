use Rattle.c_calls.proofs.Giving.{run-ends}
use Rattle.c_calls.proofs.laws.a_run_is_given_up_to_the_end_of_a_message.Goals as goal

pub returns : goal.returns
returns c = run-ends
