use Rattle.std.proofs.Common.{rules, arith}
use Rattle.logical_address.proofs.Values.{value_at_spelled}
use Rattle.logical_address.proofs.value.read_value.Goals as goal

pub returns-clause-spelled : goal.returns-clause-spelled
returns-clause-spelled c = value_at_spelled c.args.bytes.now _ (λ i. omega (arith, c.type_inv.bytes i)) (search rules)
