use Rattle.each_once.proofs.RisingPlaces.{all-of-one-source}
use Rattle.each_once.proofs.laws.all_commands_of_one_source_are_the_list.Goals as goal

pub returns : goal.returns
returns c some all source one whole = all-of-one-source some all source one whole
