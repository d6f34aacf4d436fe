-- The reader's invariant says what is left.
use Rattle.half_script.proofs.Standing.{left_after}
use Rattle.half_script.proofs.laws.what_is_left_is_what_the_statements_leave.Goals as goal

pub returns : goal.returns
returns c = left_after
