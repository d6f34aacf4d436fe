use Rattle.outset.proofs.FirstTables.{first_files}
use Rattle.outset.proofs.node.station_of.Goals as goal

pub new-requires-clause-compat : goal.new-requires-clause-compat
new-requires-clause-compat c = rw (c.in_ok-tables.ensures, first_files c.args.plan.now) c.requires.compat
