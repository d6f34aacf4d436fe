use Rattle.run_laws.proofs.NothingLate.{nothing-comes-late}
use Rattle.run_laws.specs.GivenUp.{NothingComesLate}
use Rattle.line_replay.proofs.OfRun.{of-run}
use Rattle.line_replay.proofs.whole.replay.Goals as goal
use Rattle.run_laws.proofs.EitherMode.{outcomes-come}
use Rattle.run_laws.proofs.IdleRun.{ends-come-to-idle}
use Rattle.run_laws.specs.Bounds.{OutcomesCome}
use Rattle.run_laws.specs.Idle.{EndsComeToIdle}
use Rattle.run_laws.proofs.Cut.{nothing-is-overtaken}
use Rattle.run_laws.specs.Overtaking.{NothingIsOvertaken}
use Rattle.replay_report.specs.declared.record.Record.{Record}
use Rattle.std.specs.Prelude.{◌≡◌}

pub returns-clause-settled : goal.returns-clause-settled
returns-clause-settled c =
    let script = c.args.script.now in
    of-run script (λ (r : Record). r.deceived ≡ 0 → NothingIsOvertaken script r) c.replay.result c.replay.ensures.record (nothing-is-overtaken script c.requires)

pub returns-clause-late : goal.returns-clause-late
returns-clause-late c =
    let script = c.args.script.now in
    of-run script (λ (r : Record). r.deceived ≡ 0 → NothingComesLate script r) c.replay.result c.replay.ensures.record (nothing-comes-late script c.requires)

pub returns-clause-outcomes : goal.returns-clause-outcomes
returns-clause-outcomes c =
    let script = c.args.script.now in
    of-run script (OutcomesCome script) c.replay.result c.replay.ensures.record (outcomes-come script c.requires)

pub returns-clause-idle : goal.returns-clause-idle
returns-clause-idle c =
    let script = c.args.script.now in
    of-run script (EndsComeToIdle script) c.replay.result c.replay.ensures.record (ends-come-to-idle script c.requires)
