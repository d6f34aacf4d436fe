-- The numbers of the plans so far.
use Rattle.std.proofs.Common.{◌≡◌, map, take}
use Rattle.script_parts.specs.declared.script.EndPlan.{EndPlan}
use Rattle.half_line.proofs.world.numbers_of.Given as goal

abbrev pub invariant-loop-plan : goal.invariant-loop-plan
invariant-loop-plan l = l.numbers.items ≡ map (λ (plan : EndPlan). plan.node) (take l.plan-index l.plans)
