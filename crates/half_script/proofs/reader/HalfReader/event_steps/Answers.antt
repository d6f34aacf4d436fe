-- Fewer than 2 ^ 32 bytes for at most 32 stations.
use Rattle.std.proofs.Common.{◌≤◌, ◌*◌, ◌^◌, arith}
use Rattle.std.proofs.Math.Nat.{mul-le-mul}
use Rattle.half_script.proofs.reader.HalfReader.event_steps.Goals as goal

pub overflow_mul-result : goal.overflow_mul-result
overflow_mul-result c =
    let few = c.number_of.ensures.most in
    let most : c.number_of.result * c.weight.result ≤ 2 ^ 32 * 32 = mul-le-mul {n₁ = c.number_of.result} {m₁ = c.weight.result} {n₂ = 2 ^ 32} {m₂ = 32} (omega (arith, few)) c.weight.ensures.most in
    omega (arith, most)
