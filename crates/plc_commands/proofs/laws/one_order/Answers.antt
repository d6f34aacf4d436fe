use Rattle.plc_commands.proofs.Known.{one_order}
use Rattle.plc_commands.proofs.laws.one_order.Goals as goal

pub returns : goal.returns
returns c = one_order
