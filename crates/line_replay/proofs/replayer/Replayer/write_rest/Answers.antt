use Rattle.std.proofs.Common.{◌≡◌, ◌∙◌, OnOk, Some, List, ℕ, ap, subst}
use Rattle.df1_base.specs.Outside.{Put, WroteLess}
use Rattle.line_script.specs.Lines.{script_with}
use Rattle.replay_report.specs.Report.{report}
use Rattle.line_world.specs.declared.world.World.{World}
use Rattle.line_world.specs.Runs.{last_world, lines_in, record_from}
use Rattle.line_replay.specs.Fed.{Replaying}
use Rattle.line_world.proofs.EitherMode.{last-lines}
use Rattle.line_replay.proofs.Fed.{world-is, world-same}
use Rattle.line_replay.proofs.replayer.Replayer.write_rest.Goals as goal

pub returns-clause-ok : goal.returns-clause-ok
returns-clause-ok g c events is =
    let script = script_with c.args.self.now.text.reader events in
    let world : c.in-Some.world ≡ last_world script =
    world-same c.in-Some.world _ (c.in-Some.ensures.value ∙ ap (λ (r : Replaying). r.world) c.self.view_is ∙ c.in_ok-begin.ensures.world ∙ ap Some (world-is c.args.self.now.text.reader events c.args.self.now.world is)) in
    subst (λ (text : List ℕ). OnOk c.print_rest.result (Put (g.K.Sink.held c.args.sink.now) (g.K.Sink.held c.print_rest.new.sink) text))
    (ap (λ (w : World). report (record_from w (lines_in w))) world ∙ ap (λ l. report (record_from (last_world script) l)) (last-lines script)) c.print_rest.ensures.ok

pub returns-clause-missing : goal.returns-clause-missing
returns-clause-missing g c events is failed =
    let script = script_with c.args.self.now.text.reader events in
    let world : c.in-Some.world ≡ last_world script =
    world-same c.in-Some.world _ (c.in-Some.ensures.value ∙ ap (λ (r : Replaying). r.world) c.self.view_is ∙ c.in_ok-begin.ensures.world ∙ ap Some (world-is c.args.self.now.text.reader events c.args.self.now.world is)) in
    subst (WroteLess (g.K.Sink.held c.args.sink.now) (g.K.Sink.held c.print_rest.new.sink))
    (ap (λ (w : World). report (record_from w (lines_in w))) world ∙ ap (λ l. report (record_from (last_world script) l)) (last-lines script)) (c.print_rest.ensures.missing failed)
