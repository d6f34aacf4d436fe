-- A run more, or a byte, and in the end what waits.
use Rattle.std.proofs.Common.{◌≡◌, ◌∙◌, ◌≤◌, ◌+◌, ◌-◌, ◌++◌, length, take, drop, refl, sym, ap, subst, arith, append_assoc, take-append-drop}
use Rattle.std.proofs.lemmas.List.{length-drop, take_all, take_rest}
use Rattle.df1_dissect.specs.Dissection.{lines_in}
use Rattle.df1_capture.proofs.HeardSoFar.{Waiting, none-waits, part-put, put-ended, same-rose, take-onward, waits-more}
use Rattle.df1_capture.proofs.dissecting.put_lines.Goals as goal

pub loop-at-init : goal.loop-at-init
loop-at-init g c = record {
  within = omega arith;
  fed = omega arith;
  calm = refl;
  waits = λ side check bytes text h. none-waits side check bytes text c.args.dissector.now (g.K.Sink.held c.args.out.now) c.args.lines.now.items h c.requires.none;
}

pub returns-in-Err-clause-ends : goal.returns-in-Err-clause-ends
returns-in-Err-clause-ends g c = λ side check bytes text h.
    let l = c.loop-at in
    let all = c.args.heard.now in
    let few : l.dissector.fed ≤ 268435456 = omega (arith, l.invariant.fed, l.invariant.within, c.requires.few) in (
      part-put side check bytes all (take l.at all) (drop l.at all) text l.dissector (g.K.Sink.held c.args.out.now) (g.K.Sink.held l.out) (g.K.Sink.held c.make_room.new.out) l.lines.items
          (l.invariant.waits side check bytes text h) few (sym (take-append-drop l.at all)) c.in-Err.ensures.missing,
      same-rose (g.K.Sink.faults c.args.out.now) (g.K.Sink.faults l.out) (g.K.Sink.faults c.make_room.new.out) l.invariant.calm c.in-Err.ensures.cause,
    )

pub collect_some-at-requires-clause-few : goal.collect_some-at-requires-clause-few
collect_some-at-requires-clause-few g c =
    rw (take_rest c.args.heard.now c.loop-at.at) (omega (arith, length-drop c.loop-at.at c.args.heard.now, c.loop-at.invariant.fed, c.loop-at.invariant.within, c.requires.few))

pub loop-at-preserved : goal.loop-at-preserved
loop-at-preserved g c =
    let l = c.loop-at in
    let all = c.args.heard.now in
    let n = c.collect_some-at.result in
    let rest = drop l.at all in
    let whole : take (length all - l.at) rest ≡ rest = take_rest all l.at in
    let most : n ≤ length rest = rw whole at c.collect_some-at.ensures.most in
    let left = length-drop l.at all in
    let fed = c.collect_some-at.ensures.fed in
    record {
      within = omega (arith, most, left, l.invariant.within);
      fed = omega (arith, fed, l.invariant.fed);
      calm = c.in-Ok.ensures.calm ∙ l.invariant.calm;
      waits = λ side check bytes text h.
          let is : bytes ++ take (l.at + n) all ≡ (bytes ++ take l.at all) ++ take n rest = ap (λ l. bytes ++ l) (take-onward l.at n all) ∙ sym (append_assoc bytes (take l.at all) (take n rest)) in
          let before = bytes ++ take l.at all in
          waits-more side check before (bytes ++ take (l.at + n) all) text (take n rest) (lines_in l.dissector (take n rest)) l.dissector c.collect_some-at.new.self (g.K.Sink.held c.args.out.now) (g.K.Sink.held l.out) (g.K.Sink.held c.make_room.new.out)
          l.lines.items c.make_room.new.lines.items c.collect_some-at.new.lines.items (l.invariant.waits side check bytes text h) c.in-Ok.ensures.moved is (rw whole at (c.collect_some-at.ensures.stands side check before))
          (λ so_far. rw whole at (c.collect_some-at.ensures.lines side check before so_far)) (rw whole at c.collect_some-at.ensures.added);
    }

pub returns-clause-ends : goal.returns-clause-ends
returns-clause-ends g c = λ side check bytes text h.
    let l = c.loop-at in
    let all = c.args.heard.now in
    let is : take l.at all ≡ all = take_all l.at all c.loop-at-test.false in
    let few : l.dissector.fed ≤ 268435456 = omega (arith, l.invariant.fed, l.invariant.within, c.requires.few) in
    let waits = subst (λ l. Waiting side check (bytes ++ l) text c.loop-at.dissector (g.K.Sink.held c.args.out.now) (g.K.Sink.held c.loop-at.out) c.loop-at.lines.items) is (l.invariant.waits side check bytes text h) in
    put-ended side check bytes all text l.dissector (g.K.Sink.held c.args.out.now) (g.K.Sink.held l.out) (g.K.Sink.held c.hand_on.new.out) (g.K.Sink.faults c.args.out.now) (g.K.Sink.faults l.out) (g.K.Sink.faults c.hand_on.new.out)
    l.lines.items c.hand_on.result waits few l.invariant.calm c.hand_on.ensures.ok c.hand_on.ensures.missing c.hand_on.ensures.calm c.hand_on.ensures.cause
