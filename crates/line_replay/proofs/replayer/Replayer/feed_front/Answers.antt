-- A step is taken by its bytes, and another first line by its words.
use Rattle.std.proofs.Common.{◌≡◌, ◌∙◌, ◌++◌, ◌∷◌, [], List, Option, ℕ, ap, drop, sym, subst, take}
use Rattle.script_parts.specs.declared.script.Event.{Event}
use Rattle.line_script.specs.Fed.{Fed, StandsFor}
use Rattle.line_world.specs.declared.world.World.{World}
use Rattle.line_replay.specs.Fed.{IsReplay, IsReplayOf, Replaying, ShowsLess, ShowsMore, shown, told}
use Rattle.line_replay.proofs.Fed.{due-by, less-with, none-with, plays-by, replay-with}
use Rattle.line_replay.proofs.Runs.{line-and-rest, line-whole, shows-no-more, stands-with}
use Rattle.line_replay.proofs.replayer.Replayer.feed_front.Goals as goal

pub play-requires : goal.play-requires
play-requires g c =
    let text = c.requires.0 in
    let bytes = c.args.bytes.now in
    let h = subst (IsReplayOf text) (sym c.self.view_is) c.requires.1 in
    let line = c.feed_step.ensures.line (c.in-Some.step, c.in-Some.taken) c.in-Some.is in
    let reads' = c.feed_step.ensures.stands text h.events h.reads (c.in-Some.step, c.in-Some.taken) c.in-Some.is in
    let reads = subst (λ (t : List ℕ). StandsFor t (h.events ++ c.event.result ∷ []) c.feed_step.new.self) (line-whole text bytes line.0 c.in-Some.taken line.1)
    (subst (λ (e : Event). StandsFor (text ++ take c.in-Some.taken bytes) (h.events ++ e ∷ []) c.feed_step.new.self) (sym c.event.ensures) reads') in
    due-by (text ++ line.0) _ 10 c.event.result c.feed_step.new.self (stands-with text line.0 _ line.2 h) reads

pub returns-in-Ok-clause-ok : goal.returns-in-Ok-clause-ok
returns-in-Ok-clause-ok g c text h' =
    let bytes = c.args.bytes.now in
    let h = subst (IsReplayOf text) (sym c.self.view_is) h' in
    let line = c.feed_step.ensures.line (c.in-Some.step, c.in-Some.taken) c.in-Some.is in
    let whole = line-whole text bytes line.0 c.in-Some.taken line.1 in
    let reads' = c.feed_step.ensures.stands text h.events h.reads (c.in-Some.step, c.in-Some.taken) c.in-Some.is in
    let reads = subst (λ (t : List ℕ). StandsFor t (h.events ++ c.event.result ∷ []) c.feed_step.new.self) whole
    (subst (λ (e : Event). StandsFor (text ++ take c.in-Some.taken bytes) (h.events ++ e ∷ []) c.feed_step.new.self) (sym c.event.ensures) reads') in
    let with = stands-with text line.0 _ line.2 h in
    let held = g.K.Sink.held c.args.sink.now in
    let held' = g.K.Sink.held c.play.new.sink in
    let played = c.in-Ok.ensures.ok h.events (plays-by (text ++ line.0) _ 10 c.event.result c.feed_step.new.self with reads) in
    let now = replay-with (text ++ line.0) _ c.play.new.self 10 c.event.result c.feed_step.new.self held held' with reads played in (
      subst (λ (t : List ℕ). IsReplayOf t c.play.new.self) (sym whole) now.0,
      subst (λ (t : List ℕ). ShowsMore (shown text) (shown t) held held') (sym whole)
          (subst (λ (s : List ℕ). ShowsMore s (shown ((text ++ line.0) ++ 10 ∷ [])) held held') (shows-no-more text line.0 _ line.2 h) now.1),
    )

pub returns-in-Some-clause-missing : goal.returns-in-Some-clause-missing
returns-in-Some-clause-missing g c text h' failed =
    let bytes = c.args.bytes.now in
    let h = subst (IsReplayOf text) (sym c.self.view_is) h' in
    let line = c.feed_step.ensures.line (c.in-Some.step, c.in-Some.taken) c.in-Some.is in
    let reads' = c.feed_step.ensures.stands text h.events h.reads (c.in-Some.step, c.in-Some.taken) c.in-Some.is in
    let reads = subst (λ (t : List ℕ). StandsFor t (h.events ++ c.event.result ∷ []) c.feed_step.new.self) (line-whole text bytes line.0 c.in-Some.taken line.1)
    (subst (λ (e : Event). StandsFor (text ++ take c.in-Some.taken bytes) (h.events ++ e ∷ []) c.feed_step.new.self) (sym c.event.ensures) reads') in
    let with = stands-with text line.0 _ line.2 h in
    let held = g.K.Sink.held c.args.sink.now in
    let held' = g.K.Sink.held c.play.new.sink in
    let rest = drop c.in-Some.taken bytes in
    subst (λ (t : List ℕ). ShowsLess (shown text) (told t) held held') (sym (line-and-rest text bytes line.0 c.in-Some.taken line.1))
    (subst (λ (s : List ℕ). ShowsLess s (told ((text ++ line.0) ++ 10 ∷ rest)) held held') (shows-no-more text line.0 _ line.2 h)
    (less-with (text ++ line.0) _ 10 c.event.result c.feed_step.new.self rest held held' with reads
    (c.in-Err.ensures.missing h.events (plays-by (text ++ line.0) _ 10 c.event.result c.feed_step.new.self with reads) cc)))

pub returns-in-Some-clause-untouched : goal.returns-in-Some-clause-untouched
returns-in-Some-clause-untouched g c text h' same =
    let bytes = c.args.bytes.now in
    let h = subst (IsReplayOf text) (sym c.self.view_is) h' in
    let line = c.feed_step.ensures.line (c.in-Some.step, c.in-Some.taken) c.in-Some.is in
    let reads' = c.feed_step.ensures.stands text h.events h.reads (c.in-Some.step, c.in-Some.taken) c.in-Some.is in
    let reads = subst (λ (t : List ℕ). StandsFor t (h.events ++ c.event.result ∷ []) c.feed_step.new.self) (line-whole text bytes line.0 c.in-Some.taken line.1)
    (subst (λ (e : Event). StandsFor (text ++ take c.in-Some.taken bytes) (h.events ++ e ∷ []) c.feed_step.new.self) (sym c.event.ensures) reads') in
    let with = stands-with text line.0 _ line.2 h in
    let rest = drop c.in-Some.taken bytes in
    let all : told ((text ++ line.0) ++ 10 ∷ rest) ≡ shown (text ++ line.0) = ap told (sym (line-and-rest text bytes line.0 c.in-Some.taken line.1)) ∙ same ∙ sym (shows-no-more text line.0 _ line.2 h) in
    c.play.ensures.untouched h.events (plays-by (text ++ line.0) _ 10 c.event.result c.feed_step.new.self with reads) (none-with (text ++ line.0) _ 10 c.event.result c.feed_step.new.self rest with reads all)

pub returns-in-Ok-clause-untouched : goal.returns-in-Ok-clause-untouched
returns-in-Ok-clause-untouched g c text h' same =
    let bytes = c.args.bytes.now in
    let h = subst (IsReplayOf text) (sym c.self.view_is) h' in
    let line = c.feed_step.ensures.line (c.in-Some.step, c.in-Some.taken) c.in-Some.is in
    let reads' = c.feed_step.ensures.stands text h.events h.reads (c.in-Some.step, c.in-Some.taken) c.in-Some.is in
    let reads = subst (λ (t : List ℕ). StandsFor t (h.events ++ c.event.result ∷ []) c.feed_step.new.self) (line-whole text bytes line.0 c.in-Some.taken line.1)
    (subst (λ (e : Event). StandsFor (text ++ take c.in-Some.taken bytes) (h.events ++ e ∷ []) c.feed_step.new.self) (sym c.event.ensures) reads') in
    let with = stands-with text line.0 _ line.2 h in
    let rest = drop c.in-Some.taken bytes in
    let all : told ((text ++ line.0) ++ 10 ∷ rest) ≡ shown (text ++ line.0) = ap told (sym (line-and-rest text bytes line.0 c.in-Some.taken line.1)) ∙ same ∙ sym (shows-no-more text line.0 _ line.2 h) in
    c.play.ensures.untouched h.events (plays-by (text ++ line.0) _ 10 c.event.result c.feed_step.new.self with reads) (none-with (text ++ line.0) _ 10 c.event.result c.feed_step.new.self rest with reads all)

-- ---- another line

same : (new old : Fed) (world : Option World) (r : Replaying) → new ≡ old → (let replay : Replaying = record { text = old; world = world } in replay ≡ r) → (let replay : Replaying = record { text = new; world = world } in replay ≡ r)
same new old world r is view = ap (λ (text : Fed). let replay : Replaying = record { text = text; world = world } in replay) is ∙ view

pub feed_first-requires : goal.feed_first-requires
feed_first-requires g c =
    subst IsReplay (sym (same c.feed_step.new.self c.self.inside.text c.self.inside.world c.args.self.now (c.feed_step.ensures.left c.in-None.is) c.self.view_is)) c.requires

pub returns-clause-ok : goal.returns-clause-ok
returns-clause-ok g c text h =
    c.feed_first.ensures.ok text (subst (IsReplayOf text) (sym (same c.feed_step.new.self c.self.inside.text c.self.inside.world c.args.self.now (c.feed_step.ensures.left c.in-None.is) c.self.view_is)) h)

pub returns-clause-refused : goal.returns-clause-refused
returns-clause-refused g c text h =
    c.feed_first.ensures.refused text (subst (IsReplayOf text) (sym (same c.feed_step.new.self c.self.inside.text c.self.inside.world c.args.self.now (c.feed_step.ensures.left c.in-None.is) c.self.view_is)) h)

pub returns-clause-missing : goal.returns-clause-missing
returns-clause-missing g c text h =
    c.feed_first.ensures.missing text (subst (IsReplayOf text) (sym (same c.feed_step.new.self c.self.inside.text c.self.inside.world c.args.self.now (c.feed_step.ensures.left c.in-None.is) c.self.view_is)) h)

pub returns-clause-untouched : goal.returns-clause-untouched
returns-clause-untouched g c text h =
    c.feed_first.ensures.untouched text (subst (IsReplayOf text) (sym (same c.feed_step.new.self c.self.inside.text c.self.inside.world c.args.self.now (c.feed_step.ensures.left c.in-None.is) c.self.view_is)) h)
