use Rattle.each_once.proofs.RisingPlaces.{some-of-one-source}
use Rattle.each_once.proofs.laws.commands_of_one_source_stay_in_order.Goals as goal

pub returns : goal.returns
returns c some all source one once = some-of-one-source some all source one once
