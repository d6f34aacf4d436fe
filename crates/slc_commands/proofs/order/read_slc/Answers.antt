use Rattle.std.proofs.Common.{rules, arith, ap}
use Rattle.std.specs.Option.{ok_or}
use Rattle.df1_base.specs.declared.code.Code.TheVariants.{Sts}
use Rattle.slc_commands.proofs.Orders.{spelled_takes, spelled_again, spelled_is_order}
use Rattle.slc_commands.proofs.order.read_slc.Goals as goal

pub returns-in-Some-clause-spelled : goal.returns-in-Some-clause-spelled
returns-in-Some-clause-spelled c = spelled_takes c.args.payload.now _ (λ i. omega (arith, c.type_inv.payload i)) (search rules)

pub returns-in-Some-clause-known : goal.returns-in-Some-clause-known
returns-in-Some-clause-known c order s = rw (← ap (λ o. ok_or o (Sts 0x10)) (spelled_again order c.args.payload.now s)) (search rules)

pub returns-in-Some-clause-order : goal.returns-in-Some-clause-order
returns-in-Some-clause-order c =
    spelled_is_order _ c.args.payload.now (spelled_takes c.args.payload.now _ (λ i. omega (arith, c.type_inv.payload i)) (search rules))

pub returns-in-None-clause-known : goal.returns-in-None-clause-known
returns-in-None-clause-known c order s = rw (← ap (λ o. ok_or o (Sts 0x10)) (spelled_again order c.args.payload.now s)) (search rules)
