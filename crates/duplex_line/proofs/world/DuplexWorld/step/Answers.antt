use Rattle.std.proofs.Common.{arith}
use Rattle.duplex_line.proofs.world.DuplexWorld.step.Goals as goal

pub invariant_of-self : goal.invariant_of-self
invariant_of-self c = omega (arith, c.deal.ensures.few, c.count.ensures, c.self.invariant)

pub invariant_of-self-in-B : goal.invariant_of-self-in-B
invariant_of-self-in-B c = omega (arith, c.deal-in-B.ensures.few, c.count.ensures, c.self.invariant)
