-- A line is fed as its last byte is, where the bytes before that are held already.
use Rattle.std.proofs.Common.{◌≡◌, ◌∙◌, ◌++◌, ◌∷◌, [], List, ℕ, ap, sym, subst}
use Rattle.std.specs.Option.{option_to_list}
use Rattle.std.proofs.lemmas.Result.{on_ok_weaker}
use Rattle.script_parts.specs.declared.script.Event.{Event}
use Rattle.line_script.specs.Fed.{StandsFor}
use Rattle.line_replay.specs.Fed.{IsReplayOf, IsRefusedHere, ShowsLess, ShowsMore, shown, told}
use Rattle.line_replay.proofs.Fed.{due-by, less-with, no-sink-failed, none-with, plays-by, refused-here, replay-with, replay-without}
use Rattle.line_replay.proofs.Runs.{shows-no-more, stands-with}
use Rattle.line_replay.proofs.replayer.Replayer.feed_words.Goals as goal

pub play-requires : goal.play-requires
play-requires g c =
    let text = c.requires.replay.0 in
    let line = c.args.line.now in
    let h = subst (IsReplayOf text) (sym c.self.view_is) c.requires.replay.1 in
    let reads = c.in-Ok-Some.ensures text h.events h.reads in
    let all : h.events ++ option_to_list c.in-Ok-Some.field-0 ≡ h.events ++ c.in-Ok-Some.event ∷ [] = ap (λ o. h.events ++ option_to_list o) c.in-Ok-Some.field-0-is in
    due-by (text ++ line) _ 10 c.in-Ok-Some.event c.feed_line.new.self (stands-with text line _ c.requires.line h) (subst (λ (e : List Event). StandsFor ((text ++ line) ++ 10 ∷ []) e c.feed_line.new.self) all reads)

pub returns-in-Ok-None-clause-ok : goal.returns-in-Ok-None-clause-ok
returns-in-Ok-None-clause-ok g c text h' =
    let line = c.args.line.now in
    let h = subst (IsReplayOf text) (sym c.self.view_is) h' in
    let reads = c.in-Ok-None.ensures text h.events h.reads in
    let all : h.events ++ option_to_list c.in-Ok-None.field-0 ≡ h.events ++ [] = ap (λ o. h.events ++ option_to_list o) c.in-Ok-None.field-0-is in
    let held = g.K.Sink.held c.args.sink.now in
    let now = replay-without (text ++ line) _ 10 c.feed_line.new.self held (stands-with text line _ c.requires.line h) (subst (λ (e : List Event). StandsFor ((text ++ line) ++ 10 ∷ []) e c.feed_line.new.self) all reads) in
    (now.0, subst (λ (s : List ℕ). ShowsMore s (shown ((text ++ line) ++ 10 ∷ [])) held held) (shows-no-more text line _ c.requires.line h) now.1)

pub returns-in-Ok-Some-clause-ok : goal.returns-in-Ok-Some-clause-ok
returns-in-Ok-Some-clause-ok g c text h' =
    let line = c.args.line.now in
    let h = subst (IsReplayOf text) (sym c.self.view_is) h' in
    let reads' = c.in-Ok-Some.ensures text h.events h.reads in
    let all : h.events ++ option_to_list c.in-Ok-Some.field-0 ≡ h.events ++ c.in-Ok-Some.event ∷ [] = ap (λ o. h.events ++ option_to_list o) c.in-Ok-Some.field-0-is in
    let reads = subst (λ (e : List Event). StandsFor ((text ++ line) ++ 10 ∷ []) e c.feed_line.new.self) all reads' in
    let with = stands-with text line _ c.requires.line h in
    let held = g.K.Sink.held c.args.sink.now in
    let held' = g.K.Sink.held c.play.new.sink in
    on_ok_weaker c.play.result (λ played.
    let now = replay-with (text ++ line) _ c.play.new.self 10 c.in-Ok-Some.event c.feed_line.new.self held held' with reads played in
    (now.0, subst (λ (s : List ℕ). ShowsMore s (shown ((text ++ line) ++ 10 ∷ [])) held held') (shows-no-more text line _ c.requires.line h) now.1))
    (c.play.ensures.ok h.events (plays-by (text ++ line) _ 10 c.in-Ok-Some.event c.feed_line.new.self with reads))

pub returns-in-Ok-Some-clause-missing : goal.returns-in-Ok-Some-clause-missing
returns-in-Ok-Some-clause-missing g c text h' more failed =
    let line = c.args.line.now in
    let h = subst (IsReplayOf text) (sym c.self.view_is) h' in
    let reads' = c.in-Ok-Some.ensures text h.events h.reads in
    let all : h.events ++ option_to_list c.in-Ok-Some.field-0 ≡ h.events ++ c.in-Ok-Some.event ∷ [] = ap (λ o. h.events ++ option_to_list o) c.in-Ok-Some.field-0-is in
    let reads = subst (λ (e : List Event). StandsFor ((text ++ line) ++ 10 ∷ []) e c.feed_line.new.self) all reads' in
    let with = stands-with text line _ c.requires.line h in
    let held = g.K.Sink.held c.args.sink.now in
    let held' = g.K.Sink.held c.play.new.sink in
    subst (λ (s : List ℕ). ShowsLess s (told ((text ++ line) ++ 10 ∷ more)) held held') (shows-no-more text line _ c.requires.line h)
    (less-with (text ++ line) _ 10 c.in-Ok-Some.event c.feed_line.new.self more held held' with reads
    (c.play.ensures.missing h.events (plays-by (text ++ line) _ 10 c.in-Ok-Some.event c.feed_line.new.self with reads) failed))

pub returns-in-Ok-Some-clause-untouched : goal.returns-in-Ok-Some-clause-untouched
returns-in-Ok-Some-clause-untouched g c text h' more same =
    let line = c.args.line.now in
    let h = subst (IsReplayOf text) (sym c.self.view_is) h' in
    let reads' = c.in-Ok-Some.ensures text h.events h.reads in
    let all : h.events ++ option_to_list c.in-Ok-Some.field-0 ≡ h.events ++ c.in-Ok-Some.event ∷ [] = ap (λ o. h.events ++ option_to_list o) c.in-Ok-Some.field-0-is in
    let reads = subst (λ (e : List Event). StandsFor ((text ++ line) ++ 10 ∷ []) e c.feed_line.new.self) all reads' in
    let with = stands-with text line _ c.requires.line h in
    c.play.ensures.untouched h.events (plays-by (text ++ line) _ 10 c.in-Ok-Some.event c.feed_line.new.self with reads)
    (none-with (text ++ line) _ 10 c.in-Ok-Some.event c.feed_line.new.self more with reads (same ∙ sym (shows-no-more text line _ c.requires.line h)))

pub returns-in-Err-clause-refused : goal.returns-in-Err-clause-refused
returns-in-Err-clause-refused g c text h' =
    let h = subst (IsReplayOf text) (sym c.self.view_is) h' in
    let whole = (text ++ c.args.line.now) ++ 10 ∷ [] in
    subst (IsRefusedHere whole (shown text)) (sym c.into.ensures) (refused-here text whole _ c.in-Err.fault h (c.in-Err.ensures text h.events h.reads))

pub returns-in-Err-clause-missing : goal.returns-in-Err-clause-missing
returns-in-Err-clause-missing g c text h more failed = absurd (no-sink-failed c.in-Err.fault c.into.result c.into.ensures cc)
