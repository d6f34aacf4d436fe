use Rattle.std.proofs.Common.{◌≡◌, ◌<◌, ◌+◌, length, arith}
use Rattle.std.specs.Prelude.{IsTrue}
use Rattle.std.proofs.lemmas.List.Elements.{All-get_or}
use Rattle.script_statement.specs.Statements.{is_payload}
use Rattle.outset.proofs.IssuedPayloads.{payload-issues}
use Rattle.df1_plan.specs.declared.plan.PlannedCommand.{PlannedCommand}
use Rattle.df1_service.proofs.commands.issue_all.Goals as goal

pub issue-requires : goal.issue-requires
issue-requires c =
    let command : PlannedCommand = c.command-item.result in
    let count : length c.loop-command.node.initiator.issued ≡ length c.args.node.now.initiator.issued + c.loop-command.command-index = c.loop-command.invariant.count in
    let left : length c.loop-command.node.initiator.issued < 65535 = omega (arith, c.requires.few, c.loop-command-test.true) in
    let may : IsTrue (is_payload command.payload) =
    rw c.command-item.is (All-get_or (λ (x : PlannedCommand). IsTrue (is_payload x.payload)) c.args.commands.now c.loop-command.command-index command c.loop-command-test.true c.requires.payloads) in
    payload-issues c.loop-command.node.initiator command.payload may left
