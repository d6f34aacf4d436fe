use Rattle.bulk_orders.proofs.Faults.{numbered}
use Rattle.bulk_orders.proofs.laws.orders_are_numbered_from_the_first.Goals as goal

pub returns : goal.returns
returns c = numbered
