use Rattle.std.proofs.Common.{◌≡◌, length}
use Rattle.bulk_orders.specs.Orders.{pull_payload}
use Rattle.df1_service.specs.Service.{orders_issued}
use Rattle.df1_service.proofs.commands.issue_pull.Given as goal

-- what is issued, and how much
abbrev pub invariant-loop-n : goal.invariant-loop-n
invariant-loop-n l = record {
  issued : l.node ≡ orders_issued l.fn.node l.dst (pull_payload l.file l.words) l.n;
  count : length l.node.initiator.issued ≡ l.n;
}
