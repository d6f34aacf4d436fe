use Rattle.std.proofs.Common.{refl}
use Rattle.df1_check.specs.Checks.{eight_shifts}
use Rattle.df1_frame.specs.Spelling.{check_bytes}
use Rattle.df1_frame.proofs.laws.worked_frames.Goals as goal

pub returns-clause-block : goal.returns-clause-block
unfolding check_bytes
returns-clause-block c = refl

pub returns-clause-cyclic : goal.returns-clause-cyclic
unfolding check_bytes eight_shifts
returns-clause-cyclic c = refl

pub returns-clause-check_of_16 : goal.returns-clause-check_of_16
unfolding check_bytes
returns-clause-check_of_16 c = refl

pub returns-clause-body_of_16 : goal.returns-clause-body_of_16
unfolding check_bytes
returns-clause-body_of_16 c = refl
