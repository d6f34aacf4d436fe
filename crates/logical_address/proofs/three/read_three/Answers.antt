use Rattle.std.proofs.Common.{rules, arith}
use Rattle.logical_address.proofs.Addresses.{three_at_spelled, three_at_known}
use Rattle.logical_address.proofs.three.read_three.Goals as goal

pub returns-in_err-at-clause-known : goal.returns-in_err-at-clause-known
returns-in_err-at-clause-known c at front rest s parts =
    rw (← three_at_known c.args.with_sub at c.args.bytes.now front rest s parts) (search rules)

pub returns-clause-spelled : goal.returns-clause-spelled
returns-clause-spelled c =
    three_at_spelled c.args.with_sub c.args.bytes.now _ (λ i. omega (arith, c.type_inv.bytes i)) (search rules)

pub returns-clause-known : goal.returns-clause-known
returns-clause-known c at front rest s parts =
    rw (← three_at_known c.args.with_sub at c.args.bytes.now front rest s parts) (search rules)
