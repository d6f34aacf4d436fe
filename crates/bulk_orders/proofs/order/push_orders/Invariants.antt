use Rattle.std.proofs.Common.{◌≡◌, length, map}
use Rattle.std.specs.List.{All}
use Rattle.df1_node.specs.Together.{IsPayload}
use Rattle.bulk_orders.specs.Orders.{all_orders, push_payload}
use Rattle.bulk_orders.proofs.order.push_orders.Given as goal

-- the orders so far
abbrev pub invariant-loop-n : goal.invariant-loop-n
invariant-loop-n l = record {
  orders : map (λ order. order.items) l.orders.items ≡ all_orders (push_payload l.file l.bytes) l.n;
  count : length l.orders.items ≡ l.n;
  payloads : All (λ order. IsPayload order.items) l.orders.items;
}
