use Rattle.logical_address.proofs.Addresses.{three_read_back, levels_read_back}
use Rattle.logical_address.proofs.laws.written_is_read.Goals as goal

pub returns-clause-three : goal.returns-clause-three
returns-clause-three c = three_read_back

pub returns-clause-levels : goal.returns-clause-levels
returns-clause-levels c = levels_read_back
