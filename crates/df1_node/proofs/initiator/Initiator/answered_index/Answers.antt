use Rattle.std.proofs.Common.{◌≡◌, ◌<◌, ℕ, Bool, false, Some, ap, sym, ◌∙◌, subst, find, length, get_or, slice_get}
use Rattle.std.specs.Option.{option_map_or}
use Rattle.df1_base.specs.Host.{IsBody}
use Rattle.df1_node.specs.Initiator.{Issued, is_reply_to, answered_place}
use Rattle.df1_node.specs.Commands.{IsPart, issued_of, part_of}
use Rattle.df1_node.specs.Queue.{places, out_now}
use Rattle.df1_node.proofs.Places.{position-find}
use Rattle.df1_node.proofs.Steps.{at-issued, get-at, kept_here, out-within}
use Rattle.df1_node.proofs.Ticks.{drop-past, find-next, find-skip}
use Rattle.df1_node.proofs.initiator.Initiator.answered_index.Goals as goal

pub index-requires : goal.index-requires
index-requires c =
    let p : ℕ = get_or c.as_slice-out.result.now c.loop-at.at 0 in
    let below : c.loop-at.at < length c.self.inside.queue.out.items = subst (λ ps. c.loop-at.at < length ps) c.as_slice-out.ensures.value c.loop-at-test.true in
    let there : slice_get c.self.inside.queue.out.items c.loop-at.at ≡ Some p = get-at c.self.inside.queue.out.items c.loop-at.at below ∙ ap (λ ps. Some (get_or ps c.loop-at.at 0)) (sym c.as_slice-out.ensures.value) in
    subst (λ l. p < l) (sym c.self.inside.issued.ok.0) (out-within c.self.inside.bytes.items _ c.self.inside.issued.items c.self.inside.queue c.self.inside.window p c.loop-at.at c.self.invariant there)

pub of-requires : goal.of-requires
of-requires c =
    let p : ℕ = get_or c.as_slice-out.result.now c.loop-at.at 0 in
    let below : c.loop-at.at < length c.self.inside.queue.out.items = subst (λ ps. c.loop-at.at < length ps) c.as_slice-out.ensures.value c.loop-at-test.true in
    let there : slice_get c.self.inside.queue.out.items c.loop-at.at ≡ Some p = get-at c.self.inside.queue.out.items c.loop-at.at below ∙ ap (λ ps. Some (get_or ps c.loop-at.at 0)) (sym c.as_slice-out.ensures.value) in
    let within : p < length c.self.inside.issued.items = out-within c.self.inside.bytes.items _ c.self.inside.issued.items c.self.inside.queue c.self.inside.window p c.loop-at.at c.self.invariant there in
    subst (λ bs. IsPart bs c.index.result.now.body) (sym c.deref.ensures.value) (kept_here c.self.inside.bytes.items c.self.inside.issued.items p c.index.result.now c.self.invariant.kept c.index.ensures within).body

pub is_answered_by-requires-clause-command : goal.is_answered_by-requires-clause-command
is_answered_by-requires-clause-command c =
    let p : ℕ = get_or c.as_slice-out.result.now c.loop-at.at 0 in
    let below : c.loop-at.at < length c.self.inside.queue.out.items = subst (λ ps. c.loop-at.at < length ps) c.as_slice-out.ensures.value c.loop-at-test.true in
    let there : slice_get c.self.inside.queue.out.items c.loop-at.at ≡ Some p = get-at c.self.inside.queue.out.items c.loop-at.at below ∙ ap (λ ps. Some (get_or ps c.loop-at.at 0)) (sym c.as_slice-out.ensures.value) in
    let within : p < length c.self.inside.issued.items = out-within c.self.inside.bytes.items _ c.self.inside.issued.items c.self.inside.queue c.self.inside.window p c.loop-at.at c.self.invariant there in
    subst IsBody (sym (c.of.ensures ∙ ap (λ bs. part_of bs c.index.result.now.body) c.deref.ensures.value))
    (kept_here c.self.inside.bytes.items c.self.inside.issued.items p c.index.result.now c.self.invariant.kept c.index.ensures within).body.body

pub returns-then-is_answered_by-clause-place : goal.returns-then-is_answered_by-clause-place
returns-then-is_answered_by-clause-place c =
    let p : ℕ = get_or c.as_slice-out.result.now c.loop-at.at 0 in
    let below : c.loop-at.at < length c.self.inside.queue.out.items = subst (λ ps. c.loop-at.at < length ps) c.as_slice-out.ensures.value c.loop-at-test.true in
    let there : slice_get c.self.inside.queue.out.items c.loop-at.at ≡ Some p = get-at c.self.inside.queue.out.items c.loop-at.at below ∙ ap (λ ps. Some (get_or ps c.loop-at.at 0)) (sym c.as_slice-out.ensures.value) in
    let here : slice_get c.as_slice-out.result.now c.loop-at.at ≡ Some p = get-at c.as_slice-out.result.now c.loop-at.at c.loop-at-test.true in
    let within : p < length c.self.inside.issued.items = out-within c.self.inside.bytes.items _ c.self.inside.issued.items c.self.inside.queue c.self.inside.window p c.loop-at.at c.self.invariant there in
    let at : slice_get c.args.self.now.issued p ≡ Some (issued_of c.self.inside.bytes.items c.index.result.now) = subst (λ s. slice_get s.issued p ≡ Some (issued_of c.self.inside.bytes.items c.index.result.now)) c.self.view_is (at-issued c.self.inside.bytes.items c.self.inside.issued.items p c.index.result.now c.index.ensures within) in
    let out_is : c.as_slice-out.result.now ≡ places out_now c.args.self.now.issued = c.as_slice-out.ensures.value ∙ c.self.invariant.ordered.out ∙ ap (λ s. places out_now s.issued) c.self.view_is in
    let f : ℕ → Bool = λ p. option_map_or (λ (i : Issued). is_reply_to i.body c.args.reply.now) (slice_get c.args.self.now.issued p) false in
    let fits : f p ≡ c.is_answered_by.result = ap (λ o. option_map_or (λ (i : Issued). is_reply_to i.body c.args.reply.now) o false) at ∙ ap (λ b. is_reply_to b c.args.reply.now) (sym (c.of.ensures ∙ ap (λ bs. part_of bs c.index.result.now.body) c.deref.ensures.value)) ∙ sym c.is_answered_by.ensures in
    let found : answered_place c.args.self.now.issued c.args.reply.now ≡ find f c.as_slice-out.result.now = position-find out_now (λ i. is_reply_to i.body c.args.reply.now) c.args.self.now.issued ∙ ap (find f) (sym out_is) in
    found ∙ sym c.loop-at.invariant ∙ find-next f c.as_slice-out.result.now c.loop-at.at p here (fits ∙ c.if-is_answered_by.true) ∙ sym here ∙ ap (λ ps. slice_get ps c.loop-at.at) out_is

pub loop-at-preserved : goal.loop-at-preserved
loop-at-preserved c =
    let p : ℕ = get_or c.as_slice-out.result.now c.loop-at.at 0 in
    let below : c.loop-at.at < length c.self.inside.queue.out.items = subst (λ ps. c.loop-at.at < length ps) c.as_slice-out.ensures.value c.loop-at-test.true in
    let there : slice_get c.self.inside.queue.out.items c.loop-at.at ≡ Some p = get-at c.self.inside.queue.out.items c.loop-at.at below ∙ ap (λ ps. Some (get_or ps c.loop-at.at 0)) (sym c.as_slice-out.ensures.value) in
    let here : slice_get c.as_slice-out.result.now c.loop-at.at ≡ Some p = get-at c.as_slice-out.result.now c.loop-at.at c.loop-at-test.true in
    let within : p < length c.self.inside.issued.items = out-within c.self.inside.bytes.items _ c.self.inside.issued.items c.self.inside.queue c.self.inside.window p c.loop-at.at c.self.invariant there in
    let at : slice_get c.args.self.now.issued p ≡ Some (issued_of c.self.inside.bytes.items c.index.result.now) = subst (λ s. slice_get s.issued p ≡ Some (issued_of c.self.inside.bytes.items c.index.result.now)) c.self.view_is (at-issued c.self.inside.bytes.items c.self.inside.issued.items p c.index.result.now c.index.ensures within) in
    let f : ℕ → Bool = λ p. option_map_or (λ (i : Issued). is_reply_to i.body c.args.reply.now) (slice_get c.args.self.now.issued p) false in
    let fits : f p ≡ c.is_answered_by.result = ap (λ o. option_map_or (λ (i : Issued). is_reply_to i.body c.args.reply.now) o false) at ∙ ap (λ b. is_reply_to b c.args.reply.now) (sym (c.of.ensures ∙ ap (λ bs. part_of bs c.index.result.now.body) c.deref.ensures.value)) ∙ sym c.is_answered_by.ensures in
    find-skip f c.as_slice-out.result.now c.loop-at.at p here (fits ∙ c.if-is_answered_by.false) ∙ c.loop-at.invariant

pub returns-clause-place : goal.returns-clause-place
returns-clause-place c =
    let out_is : c.as_slice-out.result.now ≡ places out_now c.args.self.now.issued = c.as_slice-out.ensures.value ∙ c.self.invariant.ordered.out ∙ ap (λ s. places out_now s.issued) c.self.view_is in
    let f : ℕ → Bool = λ p. option_map_or (λ (i : Issued). is_reply_to i.body c.args.reply.now) (slice_get c.args.self.now.issued p) false in
    let found : answered_place c.args.self.now.issued c.args.reply.now ≡ find f c.as_slice-out.result.now = position-find out_now (λ i. is_reply_to i.body c.args.reply.now) c.args.self.now.issued ∙ ap (find f) (sym out_is) in
    found ∙ sym c.loop-at.invariant ∙ ap (find f) (drop-past c.as_slice-out.result.now c.loop-at.at c.loop-at-test.false)
