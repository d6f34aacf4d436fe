use Rattle.logical_address.proofs.Values.{value_shortest}
use Rattle.logical_address.proofs.Addresses.{three_shortest, levels_shortest}
use Rattle.logical_address.proofs.laws.shortest_is_shortest.Goals as goal

pub returns-clause-value : goal.returns-clause-value
returns-clause-value c = value_shortest

pub returns-clause-three : goal.returns-clause-three
returns-clause-three c = three_shortest

pub returns-clause-levels : goal.returns-clause-levels
returns-clause-levels c = levels_shortest
