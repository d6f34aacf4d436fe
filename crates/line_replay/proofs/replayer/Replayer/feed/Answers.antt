use Rattle.std.proofs.Common.{◌≡◌, ◌++◌, ◌∷◌, [], List, ap, sym, subst}
use Rattle.std.specs.Option.{option_to_list}
use Rattle.std.proofs.lemmas.Result.{on_ok_weaker}
use Rattle.script_parts.specs.declared.script.Event.{Event}
use Rattle.line_script.specs.Fed.{StandsFor}
use Rattle.line_replay.specs.Fed.{IsReplayOf, IsRefusedHere, shown, told}
use Rattle.line_replay.proofs.Fed.{due-by, front-on-err, front-without, less-with, no-sink-failed, none-with, plays-by, refused-here, replay-with, replay-without}
use Rattle.line_replay.proofs.replayer.Replayer.feed.Goals as goal

pub play-requires : goal.play-requires
play-requires g c =
    let text = c.requires.0 in
    let h = subst (IsReplayOf text) (sym c.self.view_is) c.requires.1 in
    let reads = c.in-Ok-Some.ensures text h.events h.reads in
    let all : h.events ++ option_to_list c.in-Ok-Some.field-0 ≡ h.events ++ c.in-Ok-Some.event ∷ [] = ap (λ o. h.events ++ option_to_list o) c.in-Ok-Some.field-0-is in
    due-by text _ c.args.b c.in-Ok-Some.event c.feed.new.self h (subst (λ (e : List Event). StandsFor (text ++ c.args.b ∷ []) e c.feed.new.self) all reads)

pub returns-in-Ok-None-clause-ok : goal.returns-in-Ok-None-clause-ok
returns-in-Ok-None-clause-ok g c text h' =
    let h = subst (IsReplayOf text) (sym c.self.view_is) h' in
    let reads = c.in-Ok-None.ensures text h.events h.reads in
    let all : h.events ++ option_to_list c.in-Ok-None.field-0 ≡ h.events ++ [] = ap (λ o. h.events ++ option_to_list o) c.in-Ok-None.field-0-is in
    replay-without text _ c.args.b c.feed.new.self (g.K.Sink.held c.args.sink.now) h (subst (λ (e : List Event). StandsFor (text ++ c.args.b ∷ []) e c.feed.new.self) all reads)

pub returns-in-Ok-Some-clause-ok : goal.returns-in-Ok-Some-clause-ok
returns-in-Ok-Some-clause-ok g c text h' =
    let h = subst (IsReplayOf text) (sym c.self.view_is) h' in
    let reads' = c.in-Ok-Some.ensures text h.events h.reads in
    let all : h.events ++ option_to_list c.in-Ok-Some.field-0 ≡ h.events ++ c.in-Ok-Some.event ∷ [] = ap (λ o. h.events ++ option_to_list o) c.in-Ok-Some.field-0-is in
    let reads = subst (λ (e : List Event). StandsFor (text ++ c.args.b ∷ []) e c.feed.new.self) all reads' in
    on_ok_weaker c.play.result (λ played. replay-with text _ c.play.new.self c.args.b c.in-Ok-Some.event c.feed.new.self (g.K.Sink.held c.args.sink.now) (g.K.Sink.held c.play.new.sink) h reads played)
    (c.play.ensures.ok h.events (plays-by text _ c.args.b c.in-Ok-Some.event c.feed.new.self h reads))

pub returns-in-Ok-Some-clause-missing : goal.returns-in-Ok-Some-clause-missing
returns-in-Ok-Some-clause-missing g c text h' more failed =
    let h = subst (IsReplayOf text) (sym c.self.view_is) h' in
    let reads' = c.in-Ok-Some.ensures text h.events h.reads in
    let all : h.events ++ option_to_list c.in-Ok-Some.field-0 ≡ h.events ++ c.in-Ok-Some.event ∷ [] = ap (λ o. h.events ++ option_to_list o) c.in-Ok-Some.field-0-is in
    let reads = subst (λ (e : List Event). StandsFor (text ++ c.args.b ∷ []) e c.feed.new.self) all reads' in
    less-with text _ c.args.b c.in-Ok-Some.event c.feed.new.self more (g.K.Sink.held c.args.sink.now) (g.K.Sink.held c.play.new.sink) h reads
    (c.play.ensures.missing h.events (plays-by text _ c.args.b c.in-Ok-Some.event c.feed.new.self h reads) failed)

pub returns-in-Ok-Some-clause-untouched : goal.returns-in-Ok-Some-clause-untouched
returns-in-Ok-Some-clause-untouched g c text h' more same =
    let h = subst (IsReplayOf text) (sym c.self.view_is) h' in
    let reads' = c.in-Ok-Some.ensures text h.events h.reads in
    let all : h.events ++ option_to_list c.in-Ok-Some.field-0 ≡ h.events ++ c.in-Ok-Some.event ∷ [] = ap (λ o. h.events ++ option_to_list o) c.in-Ok-Some.field-0-is in
    let reads = subst (λ (e : List Event). StandsFor (text ++ c.args.b ∷ []) e c.feed.new.self) all reads' in
    c.play.ensures.untouched h.events (plays-by text _ c.args.b c.in-Ok-Some.event c.feed.new.self h reads) (none-with text _ c.args.b c.in-Ok-Some.event c.feed.new.self more h reads same)

pub returns-in-Ok-Some-clause-front : goal.returns-in-Ok-Some-clause-front
returns-in-Ok-Some-clause-front g c text h more =
    front-on-err c.play.result c.args.sink.now c.play.new.sink g.K.Sink.held (shown text) (told (text ++ c.args.b ∷ more)) c.play.ensures.silent (returns-in-Ok-Some-clause-missing g c text h more)
    (front-without text c.args.self.now (c.args.b ∷ more) (g.K.Sink.held c.args.sink.now) h)

pub returns-in-Err-clause-refused : goal.returns-in-Err-clause-refused
returns-in-Err-clause-refused g c text h' =
    let h = subst (IsReplayOf text) (sym c.self.view_is) h' in
    subst (IsRefusedHere (text ++ c.args.b ∷ []) (shown text)) (sym c.into.ensures) (refused-here text (text ++ c.args.b ∷ []) _ c.in-Err.fault h (c.in-Err.ensures text h.events h.reads))

pub returns-in-Err-clause-missing : goal.returns-in-Err-clause-missing
returns-in-Err-clause-missing g c text h more failed = absurd (no-sink-failed c.in-Err.fault c.into.result c.into.ensures cc)

pub returns-in-Err-clause-front : goal.returns-in-Err-clause-front
returns-in-Err-clause-front g c text h more = front-without text c.args.self.now (c.args.b ∷ more) (g.K.Sink.held c.args.sink.now) h
