use Rattle.data_addresses.proofs.Known.{one_address}
use Rattle.data_addresses.proofs.laws.one_address.Goals as goal

pub returns : goal.returns
returns c = one_address
