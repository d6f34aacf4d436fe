use Rattle.std.proofs.Common.{◌≡◌, true, false, Result, Ok, Err, refl, sym, ap, subst, ◌∙◌, rules, arith}
use Rattle.std.specs.Prelude.{OnOk, OnErr, is_err}
use Rattle.std.proofs.lemmas.Grind.{common_steps}
use Rattle.df1_base.specs.Outside.{Rose}
use Rattle.df1_base.specs.Signals.{goes_on}
use Rattle.duplex_end.proofs.Signals.{served-none, served-still, served-more, served-part, gave-one, gave-last}
use Rattle.duplex_end.proofs.serving.serve.Goals as goal

on-ok : {T E : Type 0} (r : Result T E) (P : Type 0) → is_err r ≡ false → OnOk r P → P
on-ok (Ok x) P is h = h
on-ok (Err e) P is h = absurd cc

on-err : {T E : Type 0} (r : Result T E) (P : Type 0) → is_err r ≡ true → OnErr r P → P
on-err (Ok x) P is h = absurd cc
on-err (Err e) P is h = h

pub loop-at-init : goal.loop-at-init
loop-at-init g c = record {
  served = served-none g.P.Port.came g.P.Port.sent g.H.Host c.args.port.now c.args.end.now (g.met.P.Port.none_came c.args.port.now);
  in_calm = refl;
  out_calm = refl;
}

pub returns-in-Ok-End-clause-served : goal.returns-in-Ok-End-clause-served
returns-in-Ok-End-clause-served g c = λ _.
    served-still g.P.Port.came g.P.Port.sent g.H.Host g.met.P.Port.more_came c.args.port.now c.loop-at.port c.next.new.self c.args.end.now c.loop-at.end c.loop-at.invariant.served
    (gave-last g.P.Port.came g.P.Port.ends_with c.loop-at.port c.next.new.self c.in-Ok-End.field-0 c.in-Ok-End.ensures.gave (ap goes_on c.in-Ok-End.field-0-is)) c.next.ensures.sent

pub returns-in-Ok-Bad-clause-served : goal.returns-in-Ok-Bad-clause-served
returns-in-Ok-Bad-clause-served g c = λ _.
    served-still g.P.Port.came g.P.Port.sent g.H.Host g.met.P.Port.more_came c.args.port.now c.loop-at.port c.next.new.self c.args.end.now c.loop-at.end c.loop-at.invariant.served
    (gave-last g.P.Port.came g.P.Port.ends_with c.loop-at.port c.next.new.self c.in-Ok-Bad.field-0 c.in-Ok-Bad.ensures.gave (ap goes_on c.in-Ok-Bad.field-0-is)) c.next.ensures.sent

pub returns-in-Ok-Long-clause-served : goal.returns-in-Ok-Long-clause-served
returns-in-Ok-Long-clause-served g c = λ _.
    served-still g.P.Port.came g.P.Port.sent g.H.Host g.met.P.Port.more_came c.args.port.now c.loop-at.port c.next.new.self c.args.end.now c.loop-at.end c.loop-at.invariant.served
    (gave-last g.P.Port.came g.P.Port.ends_with c.loop-at.port c.next.new.self c.in-Ok-Long.field-0 c.in-Ok-Long.ensures.gave (ap goes_on c.in-Ok-Long.field-0-is)) c.next.ensures.sent

pub returns-in-Err-clause-served : goal.returns-in-Err-clause-served
returns-in-Err-clause-served g c = λ _.
    served-still g.P.Port.came g.P.Port.sent g.H.Host g.met.P.Port.more_came c.args.port.now c.loop-at.port c.next.new.self c.args.end.now c.loop-at.end c.loop-at.invariant.served
    c.in-Err.ensures.failed c.next.ensures.sent

pub returns-then-is_err-clause-served : goal.returns-then-is_err-clause-served
returns-then-is_err-clause-served g c = λ other. absurd (other refl)

pub returns-then-is_err-clause-breaks_off : goal.returns-then-is_err-clause-breaks_off
returns-then-is_err-clause-breaks_off g c = λ _.
    let goes : goes_on c.in-Ok.signal ≡ true = first_of (search rules, grind (arith, common_steps)) in
    let less = on-err c.put_all.result _ (sym c.is_err.ensures.value ∙ c.if-is_err.true) c.put_all.ensures.missing in
    served-part g.P.Port.came g.P.Port.sent g.H.Host g.met.P.Port.more_came c.args.port.now c.loop-at.port c.next.new.self c.put_all.new.self c.args.end.now c.loop-at.end c.hear.new.end c.in-Ok.signal c.deref.result.now c.loop-at.invariant.served
    (gave-one g.P.Port.came g.P.Port.ends_with c.loop-at.port c.next.new.self c.in-Ok.signal c.in-Ok.ensures.gave goes) c.next.ensures.sent (c.hear.ensures.0, c.deref.ensures.0 ∙ c.hear.ensures.1) c.put_all.ensures.none_came less

pub returns-then-is_err-clause-out_failed : goal.returns-then-is_err-clause-out_failed
returns-then-is_err-clause-out_failed g c = λ _.
    let rose = on-err c.put_all.result _ (sym c.is_err.ensures.value ∙ c.if-is_err.true) c.put_all.ensures.cause in
    subst (λ before. Rose before (g.P.Port.put_faults c.put_all.new.self)) (c.next.ensures.other ∙ c.loop-at.invariant.out_calm) rose

pub returns-then-is_err-clause-in_calm : goal.returns-then-is_err-clause-in_calm
returns-then-is_err-clause-in_calm g c = λ _. c.put_all.ensures.other ∙ c.in-Ok.ensures.calm ∙ c.loop-at.invariant.in_calm

pub loop-at-preserved : goal.loop-at-preserved
loop-at-preserved g c =
    let goes : goes_on c.in-Ok.signal ≡ true = first_of (search rules, grind (arith, common_steps)) in
    let is_ok : is_err c.put_all.result ≡ false = sym c.is_err.ensures.value ∙ c.if-is_err.false in
    record {
      served = served-more g.P.Port.came g.P.Port.sent g.H.Host g.met.P.Port.more_came c.args.port.now c.loop-at.port c.next.new.self c.put_all.new.self c.args.end.now c.loop-at.end c.hear.new.end c.in-Ok.signal c.deref.result.now c.loop-at.invariant.served
          (gave-one g.P.Port.came g.P.Port.ends_with c.loop-at.port c.next.new.self c.in-Ok.signal c.in-Ok.ensures.gave goes) c.next.ensures.sent (c.hear.ensures.0, c.deref.ensures.0 ∙ c.hear.ensures.1) c.put_all.ensures.none_came (on-ok c.put_all.result _ is_ok c.put_all.ensures.put);
      in_calm = c.put_all.ensures.other ∙ c.in-Ok.ensures.calm ∙ c.loop-at.invariant.in_calm;
      out_calm = on-ok c.put_all.result _ is_ok c.put_all.ensures.calm ∙ c.next.ensures.other ∙ c.loop-at.invariant.out_calm;
    }
