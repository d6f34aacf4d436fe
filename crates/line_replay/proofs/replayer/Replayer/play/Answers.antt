use Rattle.std.proofs.Common.{◌≡◌, ◌∙◌, Some, ap, sym, subst}
use Rattle.std.proofs.lemmas.Result.{on_ok_weaker}
use Rattle.std.specs.List.{flat_map}
use Rattle.df1_base.specs.Outside.{Put, WroteLess}
use Rattle.replay_report.specs.Report.{line_text}
use Rattle.replay_report.proofs.Writing.{no_lines}
use Rattle.line_script.specs.Lines.{script_with}
use Rattle.line_world.specs.declared.world.World.{World}
use Rattle.line_world.specs.Runs.{IsNext, after_event, last_world, lines_in, played}
use Rattle.line_replay.specs.Fed.{Replaying}
use Rattle.line_replay.proofs.Fed.{is-next, lines-with, world-is, world-same, world-with}
use Rattle.line_replay.proofs.replayer.Replayer.play.Goals as goal

pub play_on-requires : goal.play_on-requires
play_on-requires g c =
    let reader = c.args.self.now.text.reader in
    let events = c.requires.events in
    let world : c.in-Some.world ≡ last_world (script_with reader events) =
    world-same c.in-Some.world _ (sym c.in-Some.is ∙ ap (λ (r : Replaying). r.world) c.self.view_is ∙ c.in_ok-begin.ensures.world ∙ ap Some (world-is reader events c.args.self.now.world c.requires.plays)) in
    subst (λ (w : World). IsNext w c.args.event.now) (sym world) (is-next reader events c.args.event.now c.requires.playable)

pub returns-clause-ok : goal.returns-clause-ok
returns-clause-ok g c events is =
    let reader = c.args.self.now.text.reader in
    let e = c.args.event.now in
    let world : c.in-Some.world ≡ last_world (script_with reader events) =
    world-same c.in-Some.world _ (sym c.in-Some.is ∙ ap (λ (r : Replaying). r.world) c.self.view_is ∙ c.in_ok-begin.ensures.world ∙ ap Some (world-is reader events c.args.self.now.world is)) in
    let next = world-with reader events e in
    on_ok_weaker c.play_on.result (λ ok. (
      ap (λ (r : Replaying). r.text) c.self.view_is ∙ c.in_ok-begin.ensures.text,
      (next.0, ok.0 ∙ ap (λ (w : World). after_event w e) world ∙ next.1),
      subst (Put (g.K.Sink.held c.args.sink.now) (g.K.Sink.held c.play_on.new.sink)) (ap (λ (w : World). flat_map line_text (lines_in (played w e))) world ∙ ap (flat_map line_text) (lines-with reader events e)) ok.1,
    )) c.play_on.ensures.ok

pub returns-clause-missing : goal.returns-clause-missing
returns-clause-missing g c events is failed =
    let reader = c.args.self.now.text.reader in
    let e = c.args.event.now in
    let world : c.in-Some.world ≡ last_world (script_with reader events) =
    world-same c.in-Some.world _ (sym c.in-Some.is ∙ ap (λ (r : Replaying). r.world) c.self.view_is ∙ c.in_ok-begin.ensures.world ∙ ap Some (world-is reader events c.args.self.now.world is)) in
    subst (WroteLess (g.K.Sink.held c.args.sink.now) (g.K.Sink.held c.play_on.new.sink)) (ap (λ (w : World). flat_map line_text (lines_in (played w e))) world ∙ ap (flat_map line_text) (lines-with reader events e)) (c.play_on.ensures.missing failed)

pub returns-clause-untouched : goal.returns-clause-untouched
returns-clause-untouched g c events is none =
    let reader = c.args.self.now.text.reader in
    let e = c.args.event.now in
    let world : c.in-Some.world ≡ last_world (script_with reader events) =
    world-same c.in-Some.world _ (sym c.in-Some.is ∙ ap (λ (r : Replaying). r.world) c.self.view_is ∙ c.in_ok-begin.ensures.world ∙ ap Some (world-is reader events c.args.self.now.world is)) in
    c.play_on.ensures.untouched (no_lines (lines_in (played c.in-Some.world e)) (ap (λ (w : World). flat_map line_text (lines_in (played w e))) world ∙ ap (flat_map line_text) (lines-with reader events e) ∙ none))
