use Rattle.std.proofs.Common.{arith}
use Rattle.end_settings.specs.declared.key.EndKey.TheVariants.{AckTicks}
use Rattle.duplex_line.proofs.line_end.side_of.Goals as goal

pub new-requires : goal.new-requires
new-requires c = let ticks = c.requires.settings AckTicks in rw c.setup_of.ensures (omega (arith, ticks))
