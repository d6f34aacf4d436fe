-- What the world at the end of the run has.
use Rattle.std.proofs.Common.{◌≡◌, ◌∙◌, ap}
use Rattle.df1_node.specs.Initiator.{InitiatorState}
use Rattle.replay_report.specs.declared.record.Record.{Record}
use Rattle.bulk_orders.specs.Outcomes.{pull_result, words_pulled}
use Rattle.line_world.specs.Complete.{IsUndisturbed, IsComplete}
use Rattle.line_world.specs.Once.{EachCommandOnce}
use Rattle.line_world.specs.Recovery.{Recovers}
use Rattle.line_world.specs.Wire.{AreDf1Wires}
use Rattle.line_world.proofs.EitherMode.{all-complete, all-recover, all-wires, each-command-once}
use Rattle.bulk_transfer.specs.Rehearsal.{pull_script}
use Rattle.bulk_transfer.proofs.MovedRuns.{pulled-is, pulled-whole}
use Rattle.bulk_transfer.proofs.Playing.{pull-played}
use Rattle.bulk_transfer.proofs.Rehearsed.{has-initiator, holds, initiator-same, record-is}
use Rattle.bulk_transfer.proofs.pull.rehearse_pull.Goals as goal

pub initiator_of_a-requires : goal.initiator_of_a-requires
initiator_of_a-requires c = has-initiator (pull_script c.args.script.now c.args.file c.args.words) c.in_ok-world.world c.requires.script.playable.mode c.in_ok-world.ensures

pub returns-clause-report : goal.returns-clause-report
returns-clause-report c = record-is (pull_script c.args.script.now c.args.file c.args.words) c.in_ok-world.world c.in_ok-finish.field-0 c.in_ok-world.ensures c.in_ok-finish.ensures

pub returns-clause-bulk : goal.returns-clause-bulk
returns-clause-bulk c =
    let same = initiator-same (pull_script c.args.script.now c.args.file c.args.words) c.in_ok-world.world c.initiator_of_a.result.now c.requires.script.playable.mode c.in_ok-world.ensures c.initiator_of_a.ensures in
    c.gather-bulk.ensures.result ∙ ap (λ (i : InitiatorState). pull_result i c.args.words) same

pub returns-clause-words : goal.returns-clause-words
returns-clause-words c =
    let same = initiator-same (pull_script c.args.script.now c.args.file c.args.words) c.in_ok-world.world c.initiator_of_a.result.now c.requires.script.playable.mode c.in_ok-world.ensures c.initiator_of_a.ensures in
    c.in_ok-copy_of.ensures ∙ c.deref.ensures.0 ∙ c.gather-bulk.ensures.words ∙ ap (λ (i : InitiatorState). words_pulled i c.args.words) same

pub returns-clause-complete : goal.returns-clause-complete
returns-clause-complete c =
    holds (λ (r : Record). IsUndisturbed (pull_script c.args.script.now c.args.file c.args.words) → IsComplete (pull_script c.args.script.now c.args.file c.args.words) r) (pull_script c.args.script.now c.args.file c.args.words) c.in_ok-world.world c.in_ok-finish.field-0 c.in_ok-world.ensures c.in_ok-finish.ensures
    (all-complete (pull_script c.args.script.now c.args.file c.args.words) (pull-played c.args.script.now c.args.file c.args.words c.requires.script c.requires.words.1))

pub returns-clause-recovered : goal.returns-clause-recovered
returns-clause-recovered c =
    holds (Recovers (pull_script c.args.script.now c.args.file c.args.words)) (pull_script c.args.script.now c.args.file c.args.words) c.in_ok-world.world c.in_ok-finish.field-0 c.in_ok-world.ensures c.in_ok-finish.ensures
    (all-recover (pull_script c.args.script.now c.args.file c.args.words) (pull-played c.args.script.now c.args.file c.args.words c.requires.script c.requires.words.1))

pub returns-clause-once : goal.returns-clause-once
returns-clause-once c =
    holds (λ (r : Record). r.deceived ≡ 0 → EachCommandOnce (pull_script c.args.script.now c.args.file c.args.words) r) (pull_script c.args.script.now c.args.file c.args.words) c.in_ok-world.world c.in_ok-finish.field-0 c.in_ok-world.ensures c.in_ok-finish.ensures
    (each-command-once (pull_script c.args.script.now c.args.file c.args.words) (pull-played c.args.script.now c.args.file c.args.words c.requires.script c.requires.words.1))

pub returns-clause-wires : goal.returns-clause-wires
returns-clause-wires c =
    holds (AreDf1Wires (pull_script c.args.script.now c.args.file c.args.words)) (pull_script c.args.script.now c.args.file c.args.words) c.in_ok-world.world c.in_ok-finish.field-0 c.in_ok-world.ensures c.in_ok-finish.ensures
    (all-wires (pull_script c.args.script.now c.args.file c.args.words) (pull-played c.args.script.now c.args.file c.args.words c.requires.script c.requires.words.1))

pub returns-clause-pulled : goal.returns-clause-pulled
returns-clause-pulled c none =
    pulled-is c.args.script.now c.args.file c.args.words _ _ _ c.requires.script c.requires.words.0 c.requires.words.1 (returns-clause-report c) (returns-clause-bulk c) (returns-clause-words c) none

pub returns-clause-whole : goal.returns-clause-whole
returns-clause-whole c sound has = returns-clause-bulk c ∙ pulled-whole c.args.script.now c.args.file c.args.words c.requires.script c.requires.words.1 sound has
