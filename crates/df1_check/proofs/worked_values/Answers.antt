use Rattle.std.proofs.Common.{refl}
use Rattle.df1_check.specs.Checks.{eight_shifts}
use Rattle.df1_check.proofs.worked_values.Goals as goal

pub returns-clause-digits : goal.returns-clause-digits
unfolding eight_shifts
returns-clause-digits c = refl
