use Rattle.std.proofs.Common.{◌≡◌, ◌++◌, ◌∷◌, [], List, ap, sym, subst}
use Rattle.std.specs.Option.{option_to_list}
use Rattle.std.proofs.lemmas.Result.{on_ok_weaker}
use Rattle.script_parts.specs.declared.script.Event.{Event}
use Rattle.line_script.specs.Fed.{EndsFor}
use Rattle.line_replay.specs.Fed.{IsReplayOf, IsRefusedAs, shown, told}
use Rattle.line_replay.proofs.Fed.{due-at-end, ended-with, ended-without, less-with-event, no-sink-failed, none-with-event, plays-at-end, refused-line, shows-with, shows-without}
use Rattle.line_replay.proofs.replayer.Replayer.end_lines.Goals as goal

pub play-requires : goal.play-requires
play-requires g c =
    let text = c.requires.0 in
    let h = subst (IsReplayOf text) (sym c.self.view_is) c.requires.1 in
    let all : h.events ++ option_to_list c.in-Ok-Some.field-0 ≡ h.events ++ c.in-Ok-Some.event ∷ [] = ap (λ o. h.events ++ option_to_list o) c.in-Ok-Some.field-0-is in
    due-at-end text _ c.in-Ok-Some.event c.end.new.self h (subst (λ (e : List Event). EndsFor text e c.end.new.self) all (c.in-Ok-Some.ensures text h.events h.reads))

pub returns-in-Ok-None-clause-ends : goal.returns-in-Ok-None-clause-ends
returns-in-Ok-None-clause-ends g c =
    let text = c.requires.0 in
    let h = subst (IsReplayOf text) (sym c.self.view_is) c.requires.1 in
    let all : h.events ++ option_to_list c.in-Ok-None.field-0 ≡ h.events ++ [] = ap (λ o. h.events ++ option_to_list o) c.in-Ok-None.field-0-is in
    (text, ended-without text _ c.end.new.self h (subst (λ (e : List Event). EndsFor text e c.end.new.self) all (c.in-Ok-None.ensures text h.events h.reads)))

pub returns-in-Ok-None-clause-ok : goal.returns-in-Ok-None-clause-ok
returns-in-Ok-None-clause-ok g c text h' =
    let h = subst (IsReplayOf text) (sym c.self.view_is) h' in
    let all : h.events ++ option_to_list c.in-Ok-None.field-0 ≡ h.events ++ [] = ap (λ o. h.events ++ option_to_list o) c.in-Ok-None.field-0-is in
    let over = subst (λ (e : List Event). EndsFor text e c.end.new.self) all (c.in-Ok-None.ensures text h.events h.reads) in
    (ended-without text _ c.end.new.self h over, shows-without text _ c.end.new.self (g.K.Sink.held c.args.sink.now) h over)

pub returns-in-Ok-Some-clause-ends : goal.returns-in-Ok-Some-clause-ends
returns-in-Ok-Some-clause-ends g c =
    let text = c.requires.0 in
    let h = subst (IsReplayOf text) (sym c.self.view_is) c.requires.1 in
    let all : h.events ++ option_to_list c.in-Ok-Some.field-0 ≡ h.events ++ c.in-Ok-Some.event ∷ [] = ap (λ o. h.events ++ option_to_list o) c.in-Ok-Some.field-0-is in
    let over = subst (λ (e : List Event). EndsFor text e c.end.new.self) all (c.in-Ok-Some.ensures text h.events h.reads) in
    on_ok_weaker c.play.result (λ played. (text, ended-with text _ c.play.new.self c.in-Ok-Some.event c.end.new.self h over played.0 played.1))
    (c.play.ensures.ok h.events (plays-at-end text _ _ c.end.new.self h over))

pub returns-in-Ok-Some-clause-ok : goal.returns-in-Ok-Some-clause-ok
returns-in-Ok-Some-clause-ok g c text h' =
    let h = subst (IsReplayOf text) (sym c.self.view_is) h' in
    let all : h.events ++ option_to_list c.in-Ok-Some.field-0 ≡ h.events ++ c.in-Ok-Some.event ∷ [] = ap (λ o. h.events ++ option_to_list o) c.in-Ok-Some.field-0-is in
    let over = subst (λ (e : List Event). EndsFor text e c.end.new.self) all (c.in-Ok-Some.ensures text h.events h.reads) in
    on_ok_weaker c.play.result (λ played. (
      ended-with text _ c.play.new.self c.in-Ok-Some.event c.end.new.self h over played.0 played.1,
      shows-with text _ c.in-Ok-Some.event c.end.new.self (g.K.Sink.held c.args.sink.now) (g.K.Sink.held c.play.new.sink) h over played.2,
    )) (c.play.ensures.ok h.events (plays-at-end text _ _ c.end.new.self h over))

pub returns-in-Ok-Some-clause-missing : goal.returns-in-Ok-Some-clause-missing
returns-in-Ok-Some-clause-missing g c text h' failed =
    let h = subst (IsReplayOf text) (sym c.self.view_is) h' in
    let all : h.events ++ option_to_list c.in-Ok-Some.field-0 ≡ h.events ++ c.in-Ok-Some.event ∷ [] = ap (λ o. h.events ++ option_to_list o) c.in-Ok-Some.field-0-is in
    let over = subst (λ (e : List Event). EndsFor text e c.end.new.self) all (c.in-Ok-Some.ensures text h.events h.reads) in
    less-with-event text _ c.in-Ok-Some.event c.end.new.self (g.K.Sink.held c.args.sink.now) (g.K.Sink.held c.play.new.sink) h over
    (c.play.ensures.missing h.events (plays-at-end text _ _ c.end.new.self h over) failed)

pub returns-in-Ok-Some-clause-untouched : goal.returns-in-Ok-Some-clause-untouched
returns-in-Ok-Some-clause-untouched g c text h' same =
    let h = subst (IsReplayOf text) (sym c.self.view_is) h' in
    let all : h.events ++ option_to_list c.in-Ok-Some.field-0 ≡ h.events ++ c.in-Ok-Some.event ∷ [] = ap (λ o. h.events ++ option_to_list o) c.in-Ok-Some.field-0-is in
    let over = subst (λ (e : List Event). EndsFor text e c.end.new.self) all (c.in-Ok-Some.ensures text h.events h.reads) in
    c.play.ensures.untouched h.events (plays-at-end text _ _ c.end.new.self h over) (none-with-event text _ c.in-Ok-Some.event c.end.new.self h over same)

pub returns-in-Err-clause-refused : goal.returns-in-Err-clause-refused
returns-in-Err-clause-refused g c text h' =
    let h = subst (IsReplayOf text) (sym c.self.view_is) h' in
    subst (IsRefusedAs text (told text ≡ shown text)) (sym c.into.ensures) (refused-line text _ c.in-Err.fault h (c.in-Err.ensures text h.events h.reads))

pub returns-in-Err-clause-missing : goal.returns-in-Err-clause-missing
returns-in-Err-clause-missing g c text h failed = absurd (no-sink-failed c.in-Err.fault c.into.result c.into.ensures cc)
