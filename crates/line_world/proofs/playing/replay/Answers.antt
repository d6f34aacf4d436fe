use Rattle.std.proofs.Common.{◌≡◌, refl}
use Rattle.replay_report.specs.declared.record.Record.{Record}
use Rattle.line_world.specs.Complete.{IsUndisturbed, IsComplete}
use Rattle.line_world.specs.Once.{EachCommandOnce}
use Rattle.line_world.specs.Recovery.{Recovers}
use Rattle.line_world.specs.Rested.{GoesWellAfterRest}
use Rattle.line_world.specs.Runs.{record_of}
use Rattle.line_world.specs.Wire.{AreDf1Wires}
use Rattle.line_world.proofs.EitherMode.{all-complete, all-recover, all-rested, all-wires, each-command-once}
use Rattle.line_world.proofs.Standing.{of-record}
use Rattle.line_world.proofs.playing.replay.Goals as goal

pub returns-clause-record : goal.returns-clause-record
returns-clause-record c =
    let script = c.args.script.now in
    of-record (λ (r : Record). r ≡ record_of script) script c.in_ok-play.field-0 c.in_ok-play.ensures c.finish.result c.finish.ensures refl

pub returns-clause-complete : goal.returns-clause-complete
returns-clause-complete c =
    let script = c.args.script.now in
    of-record (λ (r : Record). IsUndisturbed script → IsComplete script r) script c.in_ok-play.field-0 c.in_ok-play.ensures c.finish.result c.finish.ensures (all-complete script c.requires)

pub returns-clause-recovered : goal.returns-clause-recovered
returns-clause-recovered c =
    let script = c.args.script.now in
    of-record (Recovers script) script c.in_ok-play.field-0 c.in_ok-play.ensures c.finish.result c.finish.ensures (all-recover script c.requires)

pub returns-clause-rested : goal.returns-clause-rested
returns-clause-rested c =
    let script = c.args.script.now in
    of-record (GoesWellAfterRest script) script c.in_ok-play.field-0 c.in_ok-play.ensures c.finish.result c.finish.ensures (all-rested script c.requires)

pub returns-clause-once : goal.returns-clause-once
returns-clause-once c =
    let script = c.args.script.now in
    of-record (λ (r : Record). r.deceived ≡ 0 → EachCommandOnce script r) script c.in_ok-play.field-0 c.in_ok-play.ensures c.finish.result c.finish.ensures (each-command-once script c.requires)

pub returns-clause-wires : goal.returns-clause-wires
returns-clause-wires c =
    let script = c.args.script.now in
    of-record (AreDf1Wires script) script c.in_ok-play.field-0 c.in_ok-play.ensures c.finish.result c.finish.ensures (all-wires script c.requires)
