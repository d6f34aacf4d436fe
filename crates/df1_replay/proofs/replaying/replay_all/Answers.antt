use Rattle.std.proofs.Common.{◌≡◌, ◌∙◌, ◌≤◌, ◌<◌, ℕ, List, [], ◌++◌, length, take, Err, refl, subst, arith, length-append}
use Rattle.std.proofs.lemmas.Grind.{common_steps}
use Rattle.std.proofs.lemmas.Bool.Decides.{nat_tests}
use Rattle.std.proofs.lemmas.List.{length-take-le}
use Rattle.std.proofs.lemmas.Result.{on_ok_weaker}
use Rattle.df1_base.specs.Outside.{Took}
use Rattle.line_script.specs.ScriptText.{script_of}
use Rattle.line_replay.specs.Fed.{ShowsMore, shown, told}
use Rattle.df1_buffer.specs.Buffered.{buffer_out}
use Rattle.df1_replay.proofs.Headline.{replayed-on}
use Rattle.df1_replay.proofs.Taken.{broken-off, broken-written, end-answered, end-cut, end-refused, end-written, fed-is, none-taken, piece-cut, piece-refused, piece-taken, piece-written, rose-from, tells-more, tells-one}
use Rattle.df1_replay.proofs.replaying.replay_all.Goals as goal

pub loop-piece-init : goal.loop-piece-init
loop-piece-init g c = record {
  none = c.requires.none;
  same = refl;
  so_far = none-taken (g.S.Source.left c.args.input.now) (g.K.Sink.held (buffer_out c.args.report.now)) c.args.replayer.now c.requires.nothing;
  input_calm = refl;
  out_calm = refl;
}

pub returns-in-Ok-eq0-clause-done : goal.returns-in-Ok-eq0-clause-done
returns-in-Ok-eq0-clause-done g c =
    let l = c.loop-piece in
    let s = l.invariant.so_far in
    let left = g.S.Source.left c.args.input.now in
    let left' = g.S.Source.left l.input in
    let left'' = g.S.Source.left c.read.new.self in
    let held = g.K.Sink.held (buffer_out c.args.report.now) in
    let held' = g.K.Sink.held (buffer_out l.report) in
    let held'' = g.K.Sink.held (buffer_out c.close.new.report) in
    let e = c.in-Ok-eq0.ensures in
    let took : Took left' left'' [] = subst (λ n. Took left' left'' (take n c.read.new.into)) c.in-Ok-eq0.field-0-test e.took in
    let some : 0 < length c.read.new.into = grind (arith, common_steps) in
    let end = e.end c.in-Ok-eq0.field-0-test some in
    on_ok_weaker c.close.result (λ on. end-answered left left' left'' held held' held'' l.replayer s took end on) (c.close.ensures.ok s.text s.replay)

pub returns-in-Ok-eq0-clause-replayed : goal.returns-in-Ok-eq0-clause-replayed
returns-in-Ok-eq0-clause-replayed g c = replayed-on _ _ _ _ c.close.result (returns-in-Ok-eq0-clause-done g c)

pub returns-in-Ok-eq0-clause-refusal : goal.returns-in-Ok-eq0-clause-refusal
returns-in-Ok-eq0-clause-refusal g c =
    let l = c.loop-piece in
    let s = l.invariant.so_far in
    let left = g.S.Source.left c.args.input.now in
    let left' = g.S.Source.left l.input in
    let left'' = g.S.Source.left c.read.new.self in
    let held = g.K.Sink.held (buffer_out c.args.report.now) in
    let held' = g.K.Sink.held (buffer_out l.report) in
    let held'' = g.K.Sink.held (buffer_out c.close.new.report) in
    let e = c.in-Ok-eq0.ensures in
    let took : Took left' left'' [] = subst (λ n. Took left' left'' (take n c.read.new.into)) c.in-Ok-eq0.field-0-test e.took in
    let some : 0 < length c.read.new.into = grind (arith, common_steps) in
    let end = e.end c.in-Ok-eq0.field-0-test some in
    tells-more c.close.result (λ line cause. (script_of s.text ≡ Err (line, cause)) × ShowsMore (shown s.text) (told s.text) held' held'') _
    (λ line cause on. end-refused left left' left'' held held' held'' (g.S.Source.faults c.args.input.now) (g.S.Source.faults c.read.new.self) line cause l.replayer s took end (e.calm ∙ l.invariant.input_calm) on)
    (c.close.ensures.refused s.text s.replay)

pub returns-in-Ok-eq0-clause-output : goal.returns-in-Ok-eq0-clause-output
returns-in-Ok-eq0-clause-output g c is =
    let l = c.loop-piece in
    let s = l.invariant.so_far in
    let left = g.S.Source.left c.args.input.now in
    let left' = g.S.Source.left l.input in
    let left'' = g.S.Source.left c.read.new.self in
    let held = g.K.Sink.held (buffer_out c.args.report.now) in
    let held' = g.K.Sink.held (buffer_out l.report) in
    let held'' = g.K.Sink.held (buffer_out c.close.new.report) in
    let e = c.in-Ok-eq0.ensures in
    let took : Took left' left'' [] = subst (λ n. Took left' left'' (take n c.read.new.into)) c.in-Ok-eq0.field-0-test e.took in (
      rose-from (g.K.Sink.faults (buffer_out c.args.report.now)) (g.K.Sink.faults (buffer_out l.report)) (g.K.Sink.faults (buffer_out c.close.new.report)) l.invariant.out_calm (c.close.ensures.output is),
      e.calm ∙ l.invariant.input_calm,
      end-cut left left' left'' held held' held'' l.replayer s took (c.close.ensures.missing s.text s.replay is),
    )

pub returns-in-Ok-eq0-clause-written : goal.returns-in-Ok-eq0-clause-written
returns-in-Ok-eq0-clause-written g c =
    let l = c.loop-piece in
    let s = l.invariant.so_far in
    let left = g.S.Source.left c.args.input.now in
    let left' = g.S.Source.left l.input in
    let left'' = g.S.Source.left c.read.new.self in
    let held = g.K.Sink.held (buffer_out c.args.report.now) in
    let held' = g.K.Sink.held (buffer_out l.report) in
    let held'' = g.K.Sink.held (buffer_out c.close.new.report) in
    let e = c.in-Ok-eq0.ensures in
    let took : Took left' left'' [] = subst (λ n. Took left' left'' (take n c.read.new.into)) c.in-Ok-eq0.field-0-test e.took in
    let fed = fed-is s.text l.replayer s.replay in
    let value = c.fed.ensures.value in
    let limit = c.fed.ensures.most in
    let most : length s.text ≤ 16777216 = omega (arith, fed, value, limit) in
    end-written left left' left'' held held' held'' l.replayer s c.close.result took most (c.close.ensures.ok s.text s.replay) (c.close.ensures.front s.text s.replay)

pub loop-piece-smaller : goal.loop-piece-smaller
loop-piece-smaller g c =
    let l = c.loop-piece in
    let s = l.invariant.so_far in
    let left = g.S.Source.left c.args.input.now in
    let left' = g.S.Source.left l.input in
    let left'' = g.S.Source.left c.read.new.self in
    let held = g.K.Sink.held (buffer_out c.args.report.now) in
    let held' = g.K.Sink.held (buffer_out l.report) in
    let held'' = g.K.Sink.held (buffer_out c.go_on.new.report) in
    let e = c.in-Ok.ensures in
    let piece = take c.in-Ok.count c.read.new.into in
    let on = c.in-Ok-go_on.ensures.ok s.text s.replay in
    let before = fed-is s.text l.replayer s.replay in
    let after = fed-is (s.text ++ piece) c.go_on.new.replayer on.0 in
    let all = length-append s.text piece in
    let bound = e.bound in
    let size : length piece ≡ c.in-Ok.count = length-take-le c.in-Ok.count c.read.new.into bound in
    let test = c.in-Ok.count-test in
    let some : 1 ≤ c.in-Ok.count = grind (arith, nat_tests) in
    let value = c.fed.ensures.value in
    let limit = c.fed.ensures.most in
    omega (arith, before, after, all, size, some, value, limit)

pub loop-piece-preserved : goal.loop-piece-preserved
loop-piece-preserved g c =
    let l = c.loop-piece in
    let s = l.invariant.so_far in
    let left = g.S.Source.left c.args.input.now in
    let left' = g.S.Source.left l.input in
    let left'' = g.S.Source.left c.read.new.self in
    let held = g.K.Sink.held (buffer_out c.args.report.now) in
    let held' = g.K.Sink.held (buffer_out l.report) in
    let held'' = g.K.Sink.held (buffer_out c.go_on.new.report) in
    let e = c.in-Ok.ensures in
    let piece = take c.in-Ok.count c.read.new.into in
    record {
      none = c.in-Ok-go_on.ensures.none;
      same = c.go_on.ensures.same_reference ∙ l.invariant.same;
      so_far = piece-taken left left' left'' held held' held'' l.replayer c.go_on.new.replayer piece s e.took (c.in-Ok-go_on.ensures.ok s.text s.replay);
      input_calm = e.calm ∙ l.invariant.input_calm;
      out_calm = c.in-Ok-go_on.ensures.steady ∙ l.invariant.out_calm;
    }

pub returns-in-Err-go_on-clause-refusal : goal.returns-in-Err-go_on-clause-refusal
returns-in-Err-go_on-clause-refusal g c =
    let l = c.loop-piece in
    let s = l.invariant.so_far in
    let left = g.S.Source.left c.args.input.now in
    let left' = g.S.Source.left l.input in
    let left'' = g.S.Source.left c.read.new.self in
    let held = g.K.Sink.held (buffer_out c.args.report.now) in
    let held' = g.K.Sink.held (buffer_out l.report) in
    let held'' = g.K.Sink.held (buffer_out c.go_on.new.report) in
    let e = c.in-Ok.ensures in
    let piece = take c.in-Ok.count c.read.new.into in
    tells-one c.in-Err-go_on.fault (λ line cause. (more : List ℕ) → (script_of ((s.text ++ piece) ++ more) ≡ Err (line, cause)) × ShowsMore (shown s.text) (told ((s.text ++ piece) ++ more)) held' held'') _
    (λ line cause refused. piece-refused left left' left'' held held' held'' (g.S.Source.faults c.args.input.now) (g.S.Source.faults c.read.new.self) line cause l.replayer piece s e.took (e.calm ∙ l.invariant.input_calm) refused)
    (c.in-Err-go_on.ensures.refused s.text s.replay)

pub returns-in-Err-go_on-clause-output : goal.returns-in-Err-go_on-clause-output
returns-in-Err-go_on-clause-output g c is =
    let l = c.loop-piece in
    let s = l.invariant.so_far in
    let left = g.S.Source.left c.args.input.now in
    let left' = g.S.Source.left l.input in
    let left'' = g.S.Source.left c.read.new.self in
    let held = g.K.Sink.held (buffer_out c.args.report.now) in
    let held' = g.K.Sink.held (buffer_out l.report) in
    let held'' = g.K.Sink.held (buffer_out c.go_on.new.report) in
    let e = c.in-Ok.ensures in
    let piece = take c.in-Ok.count c.read.new.into in
    let few : length piece ≤ 4096 = grind (arith, length-take-le) in (
      rose-from (g.K.Sink.faults (buffer_out c.args.report.now)) (g.K.Sink.faults (buffer_out l.report)) (g.K.Sink.faults (buffer_out c.go_on.new.report)) l.invariant.out_calm (c.in-Err-go_on.ensures.output is),
      e.calm ∙ l.invariant.input_calm,
      piece-cut left left' left'' held held' held'' l.replayer piece s e.took few (c.in-Err-go_on.ensures.missing s.text s.replay is),
    )

pub returns-in-Err-go_on-clause-written : goal.returns-in-Err-go_on-clause-written
returns-in-Err-go_on-clause-written g c =
    let l = c.loop-piece in
    let s = l.invariant.so_far in
    let left = g.S.Source.left c.args.input.now in
    let left' = g.S.Source.left l.input in
    let left'' = g.S.Source.left c.read.new.self in
    let held = g.K.Sink.held (buffer_out c.args.report.now) in
    let held' = g.K.Sink.held (buffer_out l.report) in
    let held'' = g.K.Sink.held (buffer_out c.go_on.new.report) in
    let e = c.in-Ok.ensures in
    let piece = take c.in-Ok.count c.read.new.into in
    let fed = fed-is s.text l.replayer s.replay in
    let value = c.fed.ensures.value in
    let limit = c.fed.ensures.most in
    let most : length s.text ≤ 16777216 = omega (arith, fed, value, limit) in
    let few : length piece ≤ 4096 = grind (arith, length-take-le) in
    piece-written left left' left'' held held' held'' l.replayer piece s e.took most few (c.in-Err-go_on.ensures.front s.text s.replay)

pub returns-in-Err-clause-input : goal.returns-in-Err-clause-input
returns-in-Err-clause-input g c is =
    let l = c.loop-piece in
    let s = l.invariant.so_far in
    let left = g.S.Source.left c.args.input.now in
    let left' = g.S.Source.left l.input in
    let left'' = g.S.Source.left c.read.new.self in
    let held = g.K.Sink.held (buffer_out c.args.report.now) in
    let held' = g.K.Sink.held (buffer_out l.report) in
    let value = c.held-begun.ensures.value in
    let limit = c.held-begun.ensures.most in
    let fed = fed-is s.text l.replayer s.replay in
    let count = c.fed.ensures.value in
    let most = c.fed.ensures.most in
    let few : length s.text ≤ 16777216 = omega (arith, fed, count, most) in
    broken-off left left' left'' held held' (g.S.Source.faults c.args.input.now) (g.S.Source.faults c.read.new.self) l.replayer s c.in-Err.ensures.failed (omega (arith, value, limit)) few
    (rose-from (g.S.Source.faults c.args.input.now) (g.S.Source.faults l.input) (g.S.Source.faults c.read.new.self) l.invariant.input_calm c.in-Err.ensures.cause)

pub returns-in-Err-clause-written : goal.returns-in-Err-clause-written
returns-in-Err-clause-written g c =
    let l = c.loop-piece in
    let s = l.invariant.so_far in
    let left = g.S.Source.left c.args.input.now in
    let left' = g.S.Source.left l.input in
    let left'' = g.S.Source.left c.read.new.self in
    let held = g.K.Sink.held (buffer_out c.args.report.now) in
    let held' = g.K.Sink.held (buffer_out l.report) in
    let fed = fed-is s.text l.replayer s.replay in
    let value = c.fed.ensures.value in
    let limit = c.fed.ensures.most in
    let most : length s.text ≤ 16777216 = omega (arith, fed, value, limit) in
    broken-written left left' left'' held held' l.replayer s c.in-Err.ensures.failed most
