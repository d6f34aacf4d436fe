use Rattle.slc_commands.proofs.Orders.{one_order}
use Rattle.slc_commands.proofs.laws.one_order.Goals as goal

pub returns : goal.returns
returns c = one_order
