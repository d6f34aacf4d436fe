use Rattle.bulk_orders.proofs.Ranges.{all-data}
use Rattle.bulk_orders.proofs.laws.orders_have_all_data.Goals as goal

pub returns : goal.returns
returns c = all-data
