-- Line after line is fed, and then what stands behind the last line feed.
use Rattle.std.proofs.Common.{◌∙◌, ℕ, List, [], ◌++◌, Option, Err, ap, append-nil, refl, sym, subst, take}
use Rattle.std.proofs.KnownBytes.{Appends-nil}
use Rattle.std.proofs.lemmas.List.{take_rest}
use Rattle.std.proofs.lemmas.Result.{IfErr-weaker, on_ok_weaker}
use Rattle.df1_base.proofs.Laws.{later_same, later_then}
use Rattle.line_replay.specs.declared.replayer.StreamFault.{StreamFault}
use Rattle.line_replay.specs.Fed.{IsReplayOf, IsRefusedHere, IsRefusedWith, ShowsFront, ShowsLess, ShowsMore, shown, told}
use Rattle.line_replay.proofs.Fed.{at_err, front-behind, front-without, less-behind, none-taken, some-taken, still-told, stops-here, unchanged}
use Rattle.line_replay.proofs.Runs.{all-behind, taken-here}
use Rattle.line_replay.proofs.replayer.Replayer.feed_all.Goals as goal

-- ---- a line

pub loop-self-preserved : goal.loop-self-preserved
loop-self-preserved g c =
    let l = c.loop-self in
    let rest = l.rest.now in
    let taken = c.in-Ok.taken in
    let front = l.invariant.front in
    let some = l.invariant.replay in
    record {
      replay = (some.0 ++ take taken rest, (c.in-Ok.ensures.ok some.0 some.1).0);
      front = front ++ take taken rest;
      bytes_are = taken-here front rest c.args.bytes.now taken l.invariant.bytes_are ∙ ap (λ t. (front ++ take taken rest) ++ t) (sym (take_rest rest taken));
      shows = λ text h.
          let so_far = l.invariant.shows text h in
          some-taken text front rest taken c.feed_front.new.self (g.K.Sink.held c.args.sink.now) (g.K.Sink.held l.sink) (g.K.Sink.held c.feed_front.new.sink) so_far.1 (c.in-Ok.ensures.ok (text ++ front) so_far.0);
      untouched = λ text h same.
          let so_far = l.invariant.shows text h in
          c.in-Ok.ensures.untouched (text ++ front) so_far.0
          (still-told text front rest c.args.bytes.now l.self (g.K.Sink.held c.args.sink.now) (g.K.Sink.held l.sink) l.invariant.bytes_are so_far same) ∙ l.invariant.untouched text h same;
      calm = c.in-Ok.ensures.calm ∙ l.invariant.calm;
      later = later_then _ _ _ _ _ _ l.invariant.later c.in-Ok.ensures.later;
    }

pub returns-in-Err-clause-refused : goal.returns-in-Err-clause-refused
returns-in-Err-clause-refused g c text h =
    let l = c.loop-self in
    let bytes = c.args.bytes.now in
    let front = l.invariant.front in
    let so_far = l.invariant.shows text h in
    let before = g.K.Sink.held c.args.sink.now in
    let whole = (text ++ front) ++ l.rest.now in
    let all = all-behind text front l.rest.now bytes l.invariant.bytes_are in
    let P : Option (List ℕ) → Type 0 = λ held. IsRefusedWith (text ++ bytes) (shown text) before held c.in-Err.fault in
    unchanged l.sink c.feed_front.new.sink c.in-Err.fault g.K.Sink.held P c.in-Err.ensures.silent
    (λ is. subst (λ (f : StreamFault). IsRefusedWith (text ++ bytes) (shown text) before (g.K.Sink.held c.feed_front.new.sink) f) (sym is) tt)
    (stops-here text bytes whole [] (shown (text ++ front)) before (g.K.Sink.held l.sink) c.in-Err.fault
    (all ∙ sym (append-nil whole)) so_far.1 (c.in-Err.ensures.refused (text ++ front) so_far.0))

pub returns-in-Err-clause-front : goal.returns-in-Err-clause-front
returns-in-Err-clause-front g c text h =
    let l = c.loop-self in
    let front = l.invariant.front in
    let so_far = l.invariant.shows text h in
    let held = g.K.Sink.held l.sink in
    let held' = g.K.Sink.held c.feed_front.new.sink in
    let all = all-behind text front l.rest.now c.args.bytes.now l.invariant.bytes_are in
    let whole = (text ++ front) ++ l.rest.now in
    front-behind (shown text) (shown (text ++ front)) (told (text ++ c.args.bytes.now)) (g.K.Sink.held c.args.sink.now) held held' so_far.1
    (subst (λ (t : List ℕ). ShowsFront (shown (text ++ front)) (told t) held held') (sym all)
    (unchanged l.sink c.feed_front.new.sink c.in-Err.fault g.K.Sink.held (λ now. ShowsFront (shown (text ++ front)) (told whole) held now) c.in-Err.ensures.silent
    (λ is. (c.in-Err.ensures.missing (text ++ front) so_far.0 (ap Err is)).0) (front-without (text ++ front) l.self l.rest.now held so_far.0)))

pub returns-in-Err-clause-missing : goal.returns-in-Err-clause-missing
returns-in-Err-clause-missing g c text h failed =
    let l = c.loop-self in
    let front = l.invariant.front in
    let so_far = l.invariant.shows text h in
    let held = g.K.Sink.held l.sink in
    let held' = g.K.Sink.held c.feed_front.new.sink in
    let all = all-behind text front l.rest.now c.args.bytes.now l.invariant.bytes_are in
    less-behind (shown text) (shown (text ++ front)) (told (text ++ c.args.bytes.now)) (g.K.Sink.held c.args.sink.now) held held' so_far.1
    (subst (λ (t : List ℕ). ShowsLess (shown (text ++ front)) (told t) held held') (sym all) (c.in-Err.ensures.missing (text ++ front) so_far.0 cc))

pub returns-in-Err-clause-untouched : goal.returns-in-Err-clause-untouched
returns-in-Err-clause-untouched g c text h same =
    let l = c.loop-self in
    let front = l.invariant.front in
    let so_far = l.invariant.shows text h in
    c.in-Err.ensures.untouched (text ++ front) so_far.0
    (still-told text front l.rest.now c.args.bytes.now l.self (g.K.Sink.held c.args.sink.now) (g.K.Sink.held l.sink) l.invariant.bytes_are so_far same) ∙ l.invariant.untouched text h same

-- ---- what stands behind the last line feed

pub loop-self-init : goal.loop-self-init
loop-self-init g c = record {
  replay = c.requires;
  front = [];
  bytes_are = refl;
  shows = λ text h.
      let none = sym (append-nil text) in (
        subst (λ (t : List ℕ). IsReplayOf t c.args.self.now) none h,
        record { more = []; shows = ap shown (append-nil text) ∙ sym (append-nil (shown text)); put = Appends-nil (g.K.Sink.held c.args.sink.now) },
      );
  untouched = λ text h same. refl;
  calm = refl;
  later = later_same _ _;
}

pub returns-in-Ok-eq0-clause-replay : goal.returns-in-Ok-eq0-clause-replay
returns-in-Ok-eq0-clause-replay g c =
    let some = c.loop-self.invariant.replay in
    let now = (c.in-Ok-eq0.ensures.ok some.0 some.1).0 in
    on_ok_weaker c.feed_run.result (λ fed. ((some.0 ++ take c.in-Ok-eq0.field-0 c.loop-self.rest.now) ++ c.loop-self.rest.now, fed.0)) (c.feed_run.ensures.ok (some.0 ++ take c.in-Ok-eq0.field-0 c.loop-self.rest.now) now)

pub returns-in-Ok-eq0-clause-ok : goal.returns-in-Ok-eq0-clause-ok
returns-in-Ok-eq0-clause-ok g c text h =
    let l = c.loop-self in
    let rest = l.rest.now in
    let front = l.invariant.front in
    let before = l.invariant.shows text h in
    let so_far = none-taken text front rest c.in-Ok-eq0.field-0 c.feed_front.new.self (g.K.Sink.held c.args.sink.now) (g.K.Sink.held l.sink) (g.K.Sink.held c.feed_front.new.sink) c.in-Ok-eq0.field-0-test
    before.1 (c.in-Ok-eq0.ensures.ok (text ++ front) before.0) in
    let all = all-behind text front rest c.args.bytes.now l.invariant.bytes_are in
    on_ok_weaker c.feed_run.result (λ now. (
      subst (λ (t : List ℕ). IsReplayOf t c.feed_run.new.self) (sym all) now.0,
      subst (λ (s : List ℕ). ShowsMore (shown text) s (g.K.Sink.held c.args.sink.now) (g.K.Sink.held c.feed_front.new.sink)) (sym (ap shown all ∙ now.1)) so_far.1,
    )) (c.feed_run.ensures.ok (text ++ front) so_far.0)

pub returns-in-Ok-eq0-clause-refused : goal.returns-in-Ok-eq0-clause-refused
returns-in-Ok-eq0-clause-refused g c text h =
    let l = c.loop-self in
    let rest = l.rest.now in
    let front = l.invariant.front in
    let before = l.invariant.shows text h in
    let so_far = none-taken text front rest c.in-Ok-eq0.field-0 c.feed_front.new.self (g.K.Sink.held c.args.sink.now) (g.K.Sink.held l.sink) (g.K.Sink.held c.feed_front.new.sink) c.in-Ok-eq0.field-0-test
    before.1 (c.in-Ok-eq0.ensures.ok (text ++ front) before.0) in
    let all = all-behind text front rest c.args.bytes.now l.invariant.bytes_are in
    let whole = (text ++ front) ++ rest in
    IfErr-weaker c.feed_run.result (IsRefusedHere whole (shown (text ++ front))) (IsRefusedWith (text ++ c.args.bytes.now) (shown text) (g.K.Sink.held c.args.sink.now) (g.K.Sink.held c.feed_front.new.sink))
    (λ (f : StreamFault) refused. stops-here text c.args.bytes.now whole [] (shown (text ++ front)) (g.K.Sink.held c.args.sink.now) (g.K.Sink.held c.feed_front.new.sink) f (all ∙ sym (append-nil whole)) so_far.1 refused)
    (c.feed_run.ensures.refused (text ++ front) so_far.0)

pub returns-in-Ok-eq0-clause-front : goal.returns-in-Ok-eq0-clause-front
returns-in-Ok-eq0-clause-front g c text h =
    let l = c.loop-self in
    let rest = l.rest.now in
    let front = l.invariant.front in
    let before = l.invariant.shows text h in
    let so_far = none-taken text front rest c.in-Ok-eq0.field-0 c.feed_front.new.self (g.K.Sink.held c.args.sink.now) (g.K.Sink.held l.sink) (g.K.Sink.held c.feed_front.new.sink) c.in-Ok-eq0.field-0-test
    before.1 (c.in-Ok-eq0.ensures.ok (text ++ front) before.0) in
    let all = all-behind text front rest c.args.bytes.now l.invariant.bytes_are in
    let held = g.K.Sink.held c.feed_front.new.sink in
    at_err c.feed_run.result (front-behind (shown text) (shown (text ++ front)) (told (text ++ c.args.bytes.now)) (g.K.Sink.held c.args.sink.now) held held so_far.1
    (subst (λ (t : List ℕ). ShowsFront (shown (text ++ front)) (told t) held held) (sym all) (front-without (text ++ front) c.feed_front.new.self rest held so_far.0)))

pub returns-in-Ok-eq0-clause-untouched : goal.returns-in-Ok-eq0-clause-untouched
returns-in-Ok-eq0-clause-untouched g c text h same =
    let l = c.loop-self in
    let front = l.invariant.front in
    let so_far = l.invariant.shows text h in
    c.in-Ok-eq0.ensures.untouched (text ++ front) so_far.0
    (still-told text front l.rest.now c.args.bytes.now l.self (g.K.Sink.held c.args.sink.now) (g.K.Sink.held l.sink) l.invariant.bytes_are so_far same) ∙ l.invariant.untouched text h same
