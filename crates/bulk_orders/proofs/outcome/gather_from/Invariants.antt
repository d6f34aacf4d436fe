use Rattle.std.proofs.Common.{◌≡◌, ◌+◌, ◌*◌, ◌≤◌, None, length, min}
use Rattle.bulk_orders.specs.Outcomes.{data_pulled_from, first_fault, pull_fault_from}
use Rattle.bulk_orders.proofs.outcome.gather_from.Given as goal

-- the orders so far have no fault, their data are here, and their commands have numbers
abbrev pub invariant-loop-n : goal.invariant-loop-n
invariant-loop-n l = record {
  none : first_fault (pull_fault_from l.from l.first l.words) l.n ≡ None;
  bytes : l.into.items ≡ data_pulled_from l.from l.first l.n;
  size : length l.into.items ≡ 2 * min l.words (100 * l.n);
  numbers : 1 ≤ l.n → (1 ≤ l.first) × (l.first + l.n ≤ 65536);
}
