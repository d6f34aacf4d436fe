use Rattle.std.proofs.Common.{refl}
use Rattle.logical_address.specs.Reading.{fields_front}
use Rattle.reply_values.proofs.laws.worked_values.Goals as goal

pub returns-clause-integers : goal.returns-clause-integers
unfolding fields_front
returns-clause-integers c = refl

pub returns-clause-one_integer : goal.returns-clause-one_integer
unfolding fields_front
returns-clause-one_integer c = refl

pub returns-clause-another_size : goal.returns-clause-another_size
unfolding fields_front
returns-clause-another_size c = refl
