use Rattle.std.proofs.Common.{◌≡◌, Ok, sym, subst}
use Rattle.std.proofs.lemmas.Result.{on_ok_weaker}
use Rattle.line_script.specs.Fed.{accepted_script}
use Rattle.line_script.specs.Lines.{script_with}
use Rattle.line_script.specs.ScriptText.{script_of}
use Rattle.line_replay.specs.Fed.{Replaying, IsReplayAtEnd, IsRefusedAs, events_text, told}
use Rattle.line_replay.proofs.Fed.{less-rest, no-sink-failed, playable-rest, refused-open, shows-rest, some-rest}
use Rattle.line_replay.proofs.replayer.Replayer.close.Goals as goal

pub write_rest-requires : goal.write_rest-requires
write_rest-requires g c = playable-rest c.requires.0 c.args.self.now c.requires.1

pub returns-in-Ok-clause-ok : goal.returns-in-Ok-clause-ok
returns-in-Ok-clause-ok g c text h =
    let is = subst (λ (r : Replaying). (x : IsReplayAtEnd text r) → script_of text ≡ Ok (script_with r.text.reader x.events)) c.self.view_is (λ x. c.in-Ok.ensures text x.events x.reads) h in
    on_ok_weaker c.write_rest.result (λ put.
    let all = shows-rest text c.args.self.now (g.K.Sink.held c.args.sink.now) (g.K.Sink.held c.write_rest.new.sink) h is put in
    ((all.0, all.1), all.2)) (c.write_rest.ensures.ok h.events h.plays)

pub returns-in-Ok-clause-missing : goal.returns-in-Ok-clause-missing
returns-in-Ok-clause-missing g c text h failed =
    let is = subst (λ (r : Replaying). (x : IsReplayAtEnd text r) → script_of text ≡ Ok (script_with r.text.reader x.events)) c.self.view_is (λ x. c.in-Ok.ensures text x.events x.reads) h in
    less-rest text c.args.self.now (g.K.Sink.held c.args.sink.now) (g.K.Sink.held c.write_rest.new.sink) h is (c.write_rest.ensures.missing h.events h.plays failed)

pub returns-in-Ok-clause-untouched : goal.returns-in-Ok-clause-untouched
returns-in-Ok-clause-untouched g c text h same =
    let is = subst (λ (r : Replaying). (x : IsReplayAtEnd text r) → script_of text ≡ Ok (script_with r.text.reader x.events)) c.self.view_is (λ x. c.in-Ok.ensures text x.events x.reads) h in
    absurd (some-rest text c.args.self.now h is same)

pub returns-in-Err-clause-refused : goal.returns-in-Err-clause-refused
returns-in-Err-clause-refused g c text h =
    let v = subst (IsReplayAtEnd text) (sym c.self.view_is) h in
    subst (IsRefusedAs text (told text ≡ events_text (accepted_script text))) (sym c.into.ensures) (refused-open text _ c.in-Err.fault v (c.in-Err.ensures text v.events v.reads))

pub returns-in-Err-clause-missing : goal.returns-in-Err-clause-missing
returns-in-Err-clause-missing g c text h failed = absurd (no-sink-failed c.in-Err.fault c.into.result c.into.ensures cc)
