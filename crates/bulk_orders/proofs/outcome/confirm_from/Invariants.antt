use Rattle.std.proofs.Common.{◌≡◌, ◌+◌, ◌≤◌, None}
use Rattle.bulk_orders.specs.Outcomes.{first_fault, push_fault_from}
use Rattle.bulk_orders.proofs.outcome.confirm_from.Given as goal

-- the orders so far have no fault, and their commands have numbers
abbrev pub invariant-loop-n : goal.invariant-loop-n
invariant-loop-n l = record {
  none : first_fault (push_fault_from l.from l.first) l.n ≡ None;
  numbers : 1 ≤ l.n → (1 ≤ l.first) × (l.first + l.n ≤ 65536);
}
