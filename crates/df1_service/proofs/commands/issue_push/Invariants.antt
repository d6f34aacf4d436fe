use Rattle.std.proofs.Common.{◌≡◌, length}
use Rattle.bulk_orders.specs.Orders.{push_payload}
use Rattle.df1_service.specs.Service.{orders_issued}
use Rattle.df1_service.proofs.commands.issue_push.Given as goal

-- what is issued, and how much
abbrev pub invariant-loop-n : goal.invariant-loop-n
invariant-loop-n l = record {
  issued : l.node ≡ orders_issued l.fn.node l.dst (push_payload l.file l.bytes) l.n;
  count : length l.node.initiator.issued ≡ l.n;
}
