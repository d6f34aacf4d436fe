-- What the world at the end of the run has.
use Rattle.std.proofs.Common.{◌≡◌, ◌∙◌, ◌/◌, length, ap}
use Rattle.df1_node.specs.Initiator.{InitiatorState}
use Rattle.replay_report.specs.declared.record.Record.{Record}
use Rattle.bulk_orders.specs.Outcomes.{push_result}
use Rattle.line_world.specs.Complete.{IsUndisturbed, IsComplete}
use Rattle.line_world.specs.Once.{EachCommandOnce}
use Rattle.line_world.specs.Recovery.{Recovers}
use Rattle.line_world.specs.Wire.{AreDf1Wires}
use Rattle.line_world.proofs.EitherMode.{all-complete, all-recover, all-wires, each-command-once}
use Rattle.bulk_transfer.specs.Rehearsal.{push_script}
use Rattle.bulk_transfer.proofs.MovedRuns.{pushed-is, pushed-whole}
use Rattle.bulk_transfer.proofs.Playing.{push-played}
use Rattle.bulk_transfer.proofs.Rehearsed.{has-initiator, holds, initiator-same, record-is}
use Rattle.bulk_transfer.proofs.push.rehearse_push.Goals as goal

pub initiator_of_a-requires : goal.initiator_of_a-requires
initiator_of_a-requires c = has-initiator (push_script c.args.script.now c.args.file c.args.bytes.now) c.in_ok-world.world c.requires.script.playable.mode c.in_ok-world.ensures

pub returns-clause-report : goal.returns-clause-report
returns-clause-report c = record-is (push_script c.args.script.now c.args.file c.args.bytes.now) c.in_ok-world.world c.in_ok-finish.field-0 c.in_ok-world.ensures c.in_ok-finish.ensures

pub returns-clause-bulk : goal.returns-clause-bulk
returns-clause-bulk c =
    let same = initiator-same (push_script c.args.script.now c.args.file c.args.bytes.now) c.in_ok-world.world c.initiator_of_a.result.now c.requires.script.playable.mode c.in_ok-world.ensures c.initiator_of_a.ensures in
    c.confirm-bulk.ensures ∙ ap (λ (i : InitiatorState). push_result i (length c.args.bytes.now / 2)) same

pub returns-clause-complete : goal.returns-clause-complete
returns-clause-complete c =
    holds (λ (r : Record). IsUndisturbed (push_script c.args.script.now c.args.file c.args.bytes.now) → IsComplete (push_script c.args.script.now c.args.file c.args.bytes.now) r) (push_script c.args.script.now c.args.file c.args.bytes.now) c.in_ok-world.world c.in_ok-finish.field-0 c.in_ok-world.ensures c.in_ok-finish.ensures
    (all-complete (push_script c.args.script.now c.args.file c.args.bytes.now) (push-played c.args.script.now c.args.file c.args.bytes.now c.requires.script c.requires.words.1))

pub returns-clause-recovered : goal.returns-clause-recovered
returns-clause-recovered c =
    holds (Recovers (push_script c.args.script.now c.args.file c.args.bytes.now)) (push_script c.args.script.now c.args.file c.args.bytes.now) c.in_ok-world.world c.in_ok-finish.field-0 c.in_ok-world.ensures c.in_ok-finish.ensures
    (all-recover (push_script c.args.script.now c.args.file c.args.bytes.now) (push-played c.args.script.now c.args.file c.args.bytes.now c.requires.script c.requires.words.1))

pub returns-clause-once : goal.returns-clause-once
returns-clause-once c =
    holds (λ (r : Record). r.deceived ≡ 0 → EachCommandOnce (push_script c.args.script.now c.args.file c.args.bytes.now) r) (push_script c.args.script.now c.args.file c.args.bytes.now) c.in_ok-world.world c.in_ok-finish.field-0 c.in_ok-world.ensures c.in_ok-finish.ensures
    (each-command-once (push_script c.args.script.now c.args.file c.args.bytes.now) (push-played c.args.script.now c.args.file c.args.bytes.now c.requires.script c.requires.words.1))

pub returns-clause-wires : goal.returns-clause-wires
returns-clause-wires c =
    holds (AreDf1Wires (push_script c.args.script.now c.args.file c.args.bytes.now)) (push_script c.args.script.now c.args.file c.args.bytes.now) c.in_ok-world.world c.in_ok-finish.field-0 c.in_ok-world.ensures c.in_ok-finish.ensures
    (all-wires (push_script c.args.script.now c.args.file c.args.bytes.now) (push-played c.args.script.now c.args.file c.args.bytes.now c.requires.script c.requires.words.1))

pub returns-clause-pushed : goal.returns-clause-pushed
returns-clause-pushed c none =
    pushed-is c.args.script.now c.args.file c.args.bytes.now _ _ c.requires.script c.requires.even c.requires.words.0 c.requires.words.1 (returns-clause-report c) (returns-clause-bulk c) none

pub returns-clause-whole : goal.returns-clause-whole
returns-clause-whole c sound has may = returns-clause-bulk c ∙ pushed-whole c.args.script.now c.args.file c.args.bytes.now c.requires.script c.requires.even c.requires.words.1 sound has may
