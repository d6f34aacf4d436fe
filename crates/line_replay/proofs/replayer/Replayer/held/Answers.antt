use Rattle.std.proofs.Common.{sym, subst}
use Rattle.line_replay.specs.Fed.{IsReplayOf}
use Rattle.line_replay.proofs.replayer.Replayer.held.Goals as goal

pub returns-clause-begun : goal.returns-clause-begun
returns-clause-begun c text h =
    let replay = subst (IsReplayOf text) (sym c.self.view_is) h in
    c.held.ensures.begun text replay.events replay.reads
