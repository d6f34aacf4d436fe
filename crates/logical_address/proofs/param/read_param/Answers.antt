use Rattle.std.proofs.Common.{rules, arith}
use Rattle.logical_address.proofs.Parameters.{param_at_spelled, param_at_known}
use Rattle.logical_address.proofs.param.read_param.Goals as goal

pub returns-in-Ok-clause-spelled : goal.returns-in-Ok-clause-spelled
returns-in-Ok-clause-spelled c = param_at_spelled c.args.bytes.now _ (λ i. omega (arith, c.type_inv.bytes i)) (search rules)

pub returns-in-Ok-clause-known : goal.returns-in-Ok-clause-known
returns-in-Ok-clause-known c p front rest s parts =
    rw (← param_at_known p c.args.bytes.now front rest s parts) (search rules)

pub returns-in-Err-clause-known : goal.returns-in-Err-clause-known
returns-in-Err-clause-known c p front rest s parts =
    rw (← param_at_known p c.args.bytes.now front rest s parts) (search rules)
