use Rattle.std.proofs.Common.{◌≡◌, ◌+◌, drop, length}
use Rattle.df1_service.specs.Service.{all_issued}
use Rattle.df1_service.proofs.commands.issue_all.Given as goal

-- what is issued and what is still to be issued, and how many commands there are
abbrev pub invariant-loop-command : goal.invariant-loop-command
invariant-loop-command l = record {
  issued : all_issued l.node l.dst (drop l.command-index l.commands) ≡ all_issued l.fn.node l.dst l.commands;
  count : length l.node.initiator.issued ≡ length l.fn.node.initiator.issued + l.command-index;
}
