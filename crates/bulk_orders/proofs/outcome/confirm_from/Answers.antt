use Rattle.std.proofs.Common.{◌≡◌, ◌+◌, ◌≤◌, ℕ, Some, None, sym, ap, arith}
use Rattle.bulk_orders.specs.Orders.{orders_of}
use Rattle.bulk_orders.specs.Outcomes.{push_fault_from}
use Rattle.bulk_orders.proofs.Faults.{fault-at-number, next-numbers, none-more, told-first}
use Rattle.bulk_orders.proofs.outcome.confirm_from.Goals as goal

pub returns-in-Err : goal.returns-in-Err
returns-in-Err c =
    let within : c.loop-n.n + 1 ≤ orders_of c.args.words = omega arith in
    let here : push_fault_from c.args.from.now c.args.first (c.loop-n.n + 1) ≡ Some c.in-Err.fault =
    fault-at-number c.args.from.now 0 c.args.first c.loop-n.n (c.args.first + c.from.result) (Some c.in-Err.fault) (λ some. (c.loop-n.invariant.numbers some).0) (ap (λ (k : ℕ). c.args.first + k) c.from.ensures) c.in-Err.ensures.data in
    sym (told-first (push_fault_from c.args.from.now c.args.first) c.loop-n.n (orders_of c.args.words) c.in-Err.fault c.loop-n.invariant.none here within)

pub loop-n-preserved : goal.loop-n-preserved
loop-n-preserved c =
    let number_is : c.args.first + c.from.result ≡ c.args.first + c.loop-n.n = ap (λ (k : ℕ). c.args.first + k) c.from.ensures in
    record {
      none =
          none-more (push_fault_from c.args.from.now c.args.first) c.loop-n.n c.loop-n.invariant.none
          (fault-at-number c.args.from.now 0 c.args.first c.loop-n.n (c.args.first + c.from.result) None (λ some. (c.loop-n.invariant.numbers some).0) number_is c.in_default.ensures.data.0);
      numbers = λ some. next-numbers c.args.first c.loop-n.n (c.args.first + c.from.result) c.loop-n.invariant.numbers number_is c.in_default.ensures.number.0 c.in_default.ensures.number.1;
    }
