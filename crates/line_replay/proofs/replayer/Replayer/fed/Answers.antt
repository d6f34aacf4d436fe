use Rattle.std.proofs.Common.{sym, subst}
use Rattle.line_replay.specs.Fed.{IsReplayOf}
use Rattle.line_replay.proofs.replayer.Replayer.fed.Goals as goal

pub returns-clause-all : goal.returns-clause-all
returns-clause-all c text h =
    let replay = subst (IsReplayOf text) (sym c.self.view_is) h in
    c.fed.ensures.all text replay.events replay.reads
