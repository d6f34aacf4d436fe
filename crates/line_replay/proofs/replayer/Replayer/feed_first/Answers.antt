-- A first line is fed with its line feed, which is the first of the bytes.
use Rattle.std.proofs.Common.{◌∙◌, ◌+◌, ◌++◌, ◌∷◌, [], List, ℕ, ap, append_assoc, drop, sym, subst, take}
use Rattle.line_replay.specs.Fed.{IsReplayOf, IsRefusedHere, ShowsLess, ShowsMore, shown, told}
use Rattle.line_replay.proofs.Fed.{refused-behind}
use Rattle.line_replay.proofs.Runs.{first-feed, line-and-rest, line-behind, no-feed, taken-first}
use Rattle.line_replay.proofs.replayer.Replayer.feed_first.Goals as goal

pub returns-in_default-clause-none : goal.returns-in_default-clause-none
returns-in_default-clause-none g c zero = no-feed c.args.bytes.now (sym c.in_default.ensures)

pub feed_words-requires-clause-line : goal.feed_words-requires-clause-line
feed_words-requires-clause-line g c = (first-feed c.args.bytes.now c.in-Some.end (sym c.in-Some.ensures)).2

pub returns-in-Ok-clause-ok : goal.returns-in-Ok-clause-ok
returns-in-Ok-clause-ok g c text h =
    let now = c.in-Ok.ensures.ok text h in
    let whole = line-behind text c.args.bytes.now c.in-Some.end (sym c.in-Some.ensures) in (
      subst (λ (t : List ℕ). IsReplayOf t c.feed_words.new.self) (sym whole) now.0,
      subst (λ (t : List ℕ). ShowsMore (shown text) (shown t) (g.K.Sink.held c.args.sink.now) (g.K.Sink.held c.feed_words.new.sink)) (sym whole) now.1,
    )

pub returns-in-Err-clause-refused : goal.returns-in-Err-clause-refused
returns-in-Err-clause-refused g c text h =
    let bytes = c.args.bytes.now in
    let end = c.in-Some.end in
    let line = take end bytes in
    let rest = drop (end + 1) bytes in
    let all = line-and-rest text bytes line (end + 1) (taken-first bytes end (sym c.in-Some.ensures)) ∙ sym (append_assoc (text ++ line) (10 ∷ []) rest) in
    subst (λ (t : List ℕ). IsRefusedHere t (shown text) c.in-Err.fault) (sym all)
    (refused-behind ((text ++ line) ++ 10 ∷ []) rest (shown text) c.in-Err.fault (c.in-Err.ensures.refused text h))

pub returns-in-Err-clause-missing : goal.returns-in-Err-clause-missing
returns-in-Err-clause-missing g c text h failed =
    let bytes = c.args.bytes.now in
    let end = c.in-Some.end in
    let line = take end bytes in
    let rest = drop (end + 1) bytes in
    subst (λ (t : List ℕ). ShowsLess (shown text) (told t) (g.K.Sink.held c.args.sink.now) (g.K.Sink.held c.feed_words.new.sink))
    (sym (line-and-rest text bytes line (end + 1) (taken-first bytes end (sym c.in-Some.ensures)))) (c.in-Err.ensures.missing text h rest cc)

pub returns-in-Err-clause-untouched : goal.returns-in-Err-clause-untouched
returns-in-Err-clause-untouched g c text h same =
    let bytes = c.args.bytes.now in
    let end = c.in-Some.end in
    c.in-Err.ensures.untouched text h (drop (end + 1) bytes) (ap told (sym (line-and-rest text bytes (take end bytes) (end + 1) (taken-first bytes end (sym c.in-Some.ensures)))) ∙ same)

pub returns-in-Ok-clause-untouched : goal.returns-in-Ok-clause-untouched
returns-in-Ok-clause-untouched g c text h same =
    let bytes = c.args.bytes.now in
    let end = c.in-Some.end in
    c.in-Ok.ensures.untouched text h (drop (end + 1) bytes) (ap told (sym (line-and-rest text bytes (take end bytes) (end + 1) (taken-first bytes end (sym c.in-Some.ensures)))) ∙ same)
