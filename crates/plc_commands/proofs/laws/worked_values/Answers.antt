use Rattle.std.proofs.Common.{refl}
use Rattle.logical_address.specs.Reading.{named_front}
use Rattle.plc_commands.specs.Fields.{set, sets_within}
use Rattle.plc_commands.specs.Reading.{unprotected_read, change, range_read}
use Rattle.plc_commands.proofs.laws.worked_values.Goals as goal

pub returns-clause-unprotected_read : goal.returns-clause-unprotected_read
unfolding unprotected_read
returns-clause-unprotected_read c = refl

pub returns-clause-read_modify_write : goal.returns-clause-read_modify_write
unfolding change sets_within set named_front
returns-clause-read_modify_write c = refl

pub returns-clause-too_few : goal.returns-clause-too_few
unfolding range_read
returns-clause-too_few c = refl

pub returns-clause-too_many : goal.returns-clause-too_many
unfolding range_read
returns-clause-too_many c = refl
