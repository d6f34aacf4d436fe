use Rattle.std.proofs.Common.{arith}
use Rattle.end_settings.specs.declared.key.EndKey.TheVariants.{AckTicks}
use Rattle.df1_service.proofs.service.end_of.Goals as goal

pub new-requires : goal.new-requires
new-requires g c = let ticks = c.in_ok-plan.ensures.valid.0.settings AckTicks in rw c.setup_of.ensures (omega (arith, ticks))
