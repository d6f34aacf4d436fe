use Rattle.slc_commands.proofs.Orders.{order_spelled, spelled_is_order}
use Rattle.slc_commands.proofs.laws.orders_are_spelled.Goals as goal

pub returns-clause-spelled : goal.returns-clause-spelled
returns-clause-spelled c = order_spelled

pub returns-clause-only : goal.returns-clause-only
returns-clause-only c = spelled_is_order
