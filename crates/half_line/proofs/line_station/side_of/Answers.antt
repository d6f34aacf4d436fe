use Rattle.end_settings.specs.declared.key.EndKey.TheVariants.{MaxSends}
use Rattle.half_line.proofs.line_station.side_of.Goals as goal

pub new-slave-requires-clause-sends : goal.new-slave-requires-clause-sends
new-slave-requires-clause-sends c = rw c.slave_setup.ensures (c.requires.plan.settings MaxSends).0
