use Rattle.std.proofs.Common.{refl}
use Rattle.logical_address.specs.Reading.{three_front}
use Rattle.slc_commands.specs.Order.{fields, spelled_order}
use Rattle.slc_commands.proofs.laws.worked_values.Goals as goal

pub returns-clause-masked_write : goal.returns-clause-masked_write
unfolding spelled_order fields three_front
returns-clause-masked_write c = refl

pub returns-clause-cut_off : goal.returns-clause-cut_off
unfolding spelled_order fields three_front
returns-clause-cut_off c = refl
