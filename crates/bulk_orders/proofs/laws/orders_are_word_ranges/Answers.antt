use Rattle.bulk_orders.proofs.Ranges.{reads, writes}
use Rattle.bulk_orders.proofs.laws.orders_are_word_ranges.Goals as goal

pub returns-clause-reads : goal.returns-clause-reads
returns-clause-reads c = reads

pub returns-clause-writes : goal.returns-clause-writes
returns-clause-writes c = writes
