-- The stations of the plans so far.
use Rattle.std.proofs.Common.{◌≡◌, map, take}
use Rattle.half_line.specs.Run.{first_side}
use Rattle.half_line.proofs.world.sides_of.Given as goal

abbrev pub invariant-loop-plan : goal.invariant-loop-plan
invariant-loop-plan l = l.sides.items ≡ map (first_side l.check) (take l.plan-index l.plans)
