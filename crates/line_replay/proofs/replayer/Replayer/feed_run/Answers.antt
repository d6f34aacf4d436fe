-- A run is held, or it is refused, whatever follows.
use Rattle.std.proofs.Common.{◌++◌, sym, subst}
use Rattle.line_replay.specs.Fed.{IsReplayOf, IsRefusedHere, shown}
use Rattle.line_replay.proofs.Fed.{refused-here}
use Rattle.line_replay.proofs.Runs.{run-held}
use Rattle.line_replay.proofs.replayer.Replayer.feed_run.Goals as goal

pub returns-clause-ok : goal.returns-clause-ok
returns-clause-ok c text h' =
    let h = subst (IsReplayOf text) (sym c.self.view_is) h' in
    run-held text c.args.run.now _ c.feed_run.new.self c.requires h (c.in_default.ensures.stands text h.events h.reads) c.in_default.ensures.lines

pub returns-in-Err-clause-refused : goal.returns-in-Err-clause-refused
returns-in-Err-clause-refused c text h' =
    let h = subst (IsReplayOf text) (sym c.self.view_is) h' in
    subst (IsRefusedHere (text ++ c.args.run.now) (shown text)) (sym c.into.ensures) (refused-here text (text ++ c.args.run.now) _ c.in-Err.fault h (c.in-Err.ensures.stands text h.events h.reads))
