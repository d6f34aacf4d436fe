use Rattle.std.proofs.Common.{List, length, sym, ap, ◌∙◌, arith}
use Rattle.std.proofs.lemmas.Bool.{eqb-false, eqb-true}
use Rattle.std.proofs.lemmas.List.{length_push}
use Rattle.std.proofs.lemmas.Result.{err_from_is_err_and}
use Rattle.plc_commands.specs.Fields as field
use Rattle.plc_commands.specs.declared.order.Set.{Set}
use Rattle.plc_commands.proofs.SetLists.{after, set_shorter, sets_start, sets_more, sets_refused, sets_end}
use Rattle.plc_commands.proofs.fields.sets.Goals as goal

pub loop-rest-init : goal.loop-rest-init
loop-rest-init c = record {
  so_far = ap (λ (front : List Set). after front (field.sets_within (length c.args.bytes.now) c.args.bytes.now)) c.new-sets.ensures
      ∙ sets_start c.args.bytes.now (eqb-false (length c.args.bytes.now) 0 (sym c.if-is_empty.ensures));
  room = let none = ap length c.new-sets.ensures in omega arith;
}

pub returns-in_err-next : goal.returns-in_err-next
returns-in_err-next c =
    let p = err_from_is_err_and c.from_residual.result c.from_residual.ensures.1 in
    rw (p.1, p.2) (sets_refused c.loop-rest.sets c.loop-rest.rest.now _ _ (eqb-false (length c.loop-rest.rest.now) 0 (sym c.loop-rest-test.ensures)) (sym c.in_err-next.ensures) c.loop-rest.invariant.so_far)

pub push-requires : goal.push-requires
push-requires c =
    let shorter = set_shorter c.loop-rest.rest.now (c.in_ok-next.next, c.in_ok-next.after.now) (sym c.in_ok-next.ensures) in
    omega arith

pub loop-rest-smaller : goal.loop-rest-smaller
loop-rest-smaller c =
    let shorter = set_shorter c.loop-rest.rest.now (c.in_ok-next.next, c.in_ok-next.after.now) (sym c.in_ok-next.ensures) in
    omega arith

pub loop-rest-preserved : goal.loop-rest-preserved
loop-rest-preserved c =
    let shorter = set_shorter c.loop-rest.rest.now (c.in_ok-next.next, c.in_ok-next.after.now) (sym c.in_ok-next.ensures) in
    rw c.push.ensures (record {
      so_far = sets_more c.loop-rest.sets c.loop-rest.rest.now c.in_ok-next.next c.in_ok-next.after.now _ (sym c.in_ok-next.ensures) c.loop-rest.invariant.so_far;
      room = simp length_push (omega arith);
    })

pub returns : goal.returns
returns c = sets_end c.loop-rest.sets c.loop-rest.rest.now _ (eqb-true (length c.loop-rest.rest.now) 0 (sym c.loop-rest-test.ensures)) c.loop-rest.invariant.so_far
