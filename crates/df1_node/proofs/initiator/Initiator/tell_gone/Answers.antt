use Rattle.std.proofs.Common.{◌≡◌, ◌≤◌, ◌<◌, ◌+◌, ℕ, true, false, [], ◌∷◌, ◌++◌, map, filter, Some, ap, sym, ◌∙◌, subst, arith, length, get_or, slice_get}
use Rattle.std.specs.Option.{option_map_or}
use Rattle.std.proofs.lemmas.List.{length_push, take_all}
use Rattle.df1_node.specs.Initiator.{Issued, is_last_tick}
use Rattle.df1_node.specs.Commands.{issued_of}
use Rattle.df1_node.specs.Queue.{places, out_now}
use Rattle.df1_node.proofs.Steps.{at-issued, get-at, out-within}
use Rattle.df1_node.proofs.Ticks.{last_at, gone_out, gone-more}
use Rattle.df1_node.proofs.initiator.Initiator.tell_gone.Goals as goal
use Rattle.df1_node.proofs.initiator.Initiator.tell_gone.Goals.{then-is_last_tick, else-is_last_tick}

pub index-requires : goal.index-requires
index-requires c =
    let p : ℕ = get_or c.as_slice-out.result.now c.loop-place.place-index 0 in
    let below : c.loop-place.place-index < length c.self.inside.queue.out.items = subst (λ ps. c.loop-place.place-index < length ps) c.as_slice-out.ensures.value c.loop-place-test.true in
    let there : slice_get c.self.inside.queue.out.items c.loop-place.place-index ≡ Some p = get-at c.self.inside.queue.out.items c.loop-place.place-index below ∙ ap (λ ps. Some (get_or ps c.loop-place.place-index 0)) (sym c.as_slice-out.ensures.value) in
    subst (λ l. p < l) (sym c.self.inside.issued.ok.0) (out-within c.self.inside.bytes.items _ c.self.inside.issued.items c.self.inside.queue c.self.inside.window p c.loop-place.place-index c.self.invariant there)

pub overflow_add-place : goal.overflow_add-place
overflow_add-place c =
    let p : ℕ = get_or c.as_slice-out.result.now c.loop-place.place-index 0 in
    let below : c.loop-place.place-index < length c.self.inside.queue.out.items = subst (λ ps. c.loop-place.place-index < length ps) c.as_slice-out.ensures.value c.loop-place-test.true in
    let there : slice_get c.self.inside.queue.out.items c.loop-place.place-index ≡ Some p = get-at c.self.inside.queue.out.items c.loop-place.place-index below ∙ ap (λ ps. Some (get_or ps c.loop-place.place-index 0)) (sym c.as_slice-out.ensures.value) in
    let within : p < length c.self.inside.issued.items = out-within c.self.inside.bytes.items _ c.self.inside.issued.items c.self.inside.queue c.self.inside.window p c.loop-place.place-index c.self.invariant there in
    let few : length c.self.inside.issued.items ≤ 65535 = c.self.invariant.few in
    omega arith

pub loop-place-preserved : goal.loop-place-preserved
loop-place-preserved c =
    let p : ℕ = get_or c.as_slice-out.result.now c.loop-place.place-index 0 in
    let below : c.loop-place.place-index < length c.self.inside.queue.out.items = subst (λ ps. c.loop-place.place-index < length ps) c.as_slice-out.ensures.value c.loop-place-test.true in
    let there : slice_get c.self.inside.queue.out.items c.loop-place.place-index ≡ Some p = get-at c.self.inside.queue.out.items c.loop-place.place-index below ∙ ap (λ ps. Some (get_or ps c.loop-place.place-index 0)) (sym c.as_slice-out.ensures.value) in
    let here : slice_get c.as_slice-out.result.now c.loop-place.place-index ≡ Some p = get-at c.as_slice-out.result.now c.loop-place.place-index c.loop-place-test.true in
    let within : p < length c.self.inside.issued.items = out-within c.self.inside.bytes.items _ c.self.inside.issued.items c.self.inside.queue c.self.inside.window p c.loop-place.place-index c.self.invariant there in
    let at : slice_get c.args.self.now.issued p ≡ Some (issued_of c.self.inside.bytes.items c.index.result.now) = subst (λ s. slice_get s.issued p ≡ Some (issued_of c.self.inside.bytes.items c.index.result.now)) c.self.view_is (at-issued c.self.inside.bytes.items c.self.inside.issued.items p c.index.result.now c.index.ensures within) in
    let last : c.is_last_tick.result ≡ last_at c.args.self.now.issued p = c.is_last_tick.ensures c.self.inside.bytes.items ∙ sym (ap (λ o. option_map_or (λ (i : Issued). is_last_tick i.standing) o false) at) in
    let few : length c.loop-place.gone.items ≤ c.loop-place.place-index = c.loop-place.invariant.few in
    elim c.if-is_last_tick.branch [
      | then-is_last_tick w ↦
          (let is : c.if-is_last_tick.gone.items ≡ c.loop-place.gone.items ++ (p + 1) ∷ [] = ap (λ g. g.items) w.gone-is ∙ w.push.ensures.items in
          let longer : length c.if-is_last_tick.gone.items ≡ length c.loop-place.gone.items + 1 = ap length is ∙ length_push c.loop-place.gone.items (p + 1) in
          record {
            gone = is ∙ ap (λ xs. xs ++ (p + 1) ∷ []) c.loop-place.invariant.gone ∙ sym (gone-more (last_at c.args.self.now.issued) c.as_slice-out.result.now c.loop-place.place-index p true here (sym last ∙ w.if-is_last_tick.true));
            few = omega arith;
          })
      | else-is_last_tick w ↦
          (let is : c.if-is_last_tick.gone.items ≡ c.loop-place.gone.items = ap (λ g. g.items) w.gone-is in
          let same : length c.if-is_last_tick.gone.items ≡ length c.loop-place.gone.items = ap length is in
          record {
            gone = is ∙ c.loop-place.invariant.gone ∙ sym (gone-more (last_at c.args.self.now.issued) c.as_slice-out.result.now c.loop-place.place-index p false here (sym last ∙ w.if-is_last_tick.false));
            few = omega arith;
          })
    ]

pub returns : goal.returns
returns c =
    let out_is : c.as_slice-out.result.now ≡ places out_now c.args.self.now.issued = c.as_slice-out.ensures.value ∙ c.self.invariant.ordered.out ∙ ap (λ s. places out_now s.issued) c.self.view_is in
    c.loop-place.invariant.gone
    ∙ ap (λ ps. map (λ (p : ℕ). p + 1) (filter (last_at c.args.self.now.issued) ps)) (take_all c.loop-place.place-index c.as_slice-out.result.now c.loop-place-test.false ∙ out_is)
    ∙ sym (gone_out c.args.self.now.issued)
