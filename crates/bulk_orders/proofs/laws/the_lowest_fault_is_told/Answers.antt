use Rattle.bulk_orders.proofs.Faults.{none-each, each-none, lowest}
use Rattle.bulk_orders.proofs.laws.the_lowest_fault_is_told.Goals as goal

pub returns-clause-none : goal.returns-clause-none
returns-clause-none c = λ fault count. (none-each fault count, each-none fault count)

pub returns-clause-lowest : goal.returns-clause-lowest
returns-clause-lowest c = lowest
