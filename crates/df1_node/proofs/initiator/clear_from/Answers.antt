use Rattle.std.proofs.Common.{◌<◌, ◌-◌, ℕ, List, ap, ◌∙◌, length, take, drop, get_or, set}
use Rattle.df1_node.specs.declared.issued.Command.{Command}
use Rattle.df1_node.specs.declared.issued.State.{State}
use Rattle.df1_node.specs.declared.issued.State.TheVariants as stands
use Rattle.df1_node.proofs.Cleared.{given_up, front-more}
use Rattle.df1_node.proofs.initiator.clear_from.Goals as goal

pub loop-command-preserved : goal.loop-command-preserved
loop-command-preserved c =
    let xs : List Command = take (length c.args.issued.now - c.args.place) (drop c.args.place c.args.issued.now) in
    let ys : List Command = c.loop-command.command-items in
    let i : ℕ = c.loop-command.command-index in
    let d : Command = record { body = record { start = 0; end = 0 }; state = stands.Waiting } in
    let within : i < length xs = c.loop-command-test.true in
    ap (λ (s : State). let k : Command = record { body = (get_or ys i d).body; state = s } in set ys i k) c.cleared-command.ensures ∙ ap (λ zs. set zs i (given_up (get_or zs i d))) c.loop-command.invariant ∙ front-more xs i d within
