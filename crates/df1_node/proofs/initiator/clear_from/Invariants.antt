use Rattle.std.proofs.Common.{◌≡◌, ◌++◌, map, take, drop}
use Rattle.df1_node.specs.Commands.{cleared_state}
use Rattle.df1_node.specs.declared.issued.Command.{Command}
use Rattle.df1_node.proofs.initiator.clear_from.Given as goal

-- those up to here are given up
abbrev pub invariant-loop-command : goal.invariant-loop-command
invariant-loop-command l =
    l.command-items
    ≡ map {A = Command} (λ c. record c { state = cleared_state c.state }) (take l.command-index l.initial.command-items) ++ drop l.command-index l.initial.command-items
