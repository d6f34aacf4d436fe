use Rattle.std.proofs.Common.{◌≡◌, ◌≤◌, ◌<◌, ◌+◌, ◌*◌, ℕ, List, Some, ◌++◌, ap, sym, ◌∙◌, subst, arith, length, get_or, set, slice_get, vec_capacity}
use Rattle.df1_node.specs.Initiator.{InitiatorState, Issued, Answered, restated, answered_place, source_of}
use Rattle.df1_node.specs.Commands.{AreCommands, IsPart, all_issued, issued_of}
use Rattle.df1_node.specs.Queue.{places, out_now, out_at}
use Rattle.df1_node.specs.declared.part.Part.{Part}
use Rattle.df1_node.specs.declared.issued.Command.{Command}
use Rattle.df1_node.specs.declared.issued.State.TheVariants as stands
use Rattle.df1_node.proofs.Steps.{get-at, out-within, kept_here, settles, are-answered, issued_answered, replies_at}
use Rattle.df1_node.proofs.initiator.Initiator.take_reply.Goals as goal

pub index_mut-command-requires : goal.index_mut-command-requires
index_mut-command-requires c =
    let p : ℕ = get_or c.deref.result.now c.in_ok-at.at 0 in
    let below : c.in_ok-at.at < length c.self.inside.queue.out.items = subst (λ ps. c.in_ok-at.at < length ps) (sym (c.self.invariant.ordered.out ∙ ap (λ s. places out_now s.issued) c.self.view_is)) c.in_ok-at.ensures.within in
    let there : slice_get c.self.inside.queue.out.items c.in_ok-at.at ≡ Some p = get-at c.self.inside.queue.out.items c.in_ok-at.at below ∙ ap (λ ps. Some (get_or ps c.in_ok-at.at 0)) (sym c.deref.ensures.0) in
    subst (λ l. p < l) (sym c.self.inside.issued.ok.0) (out-within c.self.inside.bytes.items _ c.self.inside.issued.items c.self.inside.queue c.self.inside.window p c.in_ok-at.at c.self.invariant there)

pub source-source-requires : goal.source-source-requires
source-source-requires c =
    let r : Command = c.index_mut-command.result.now in
    let p : ℕ = get_or c.deref.result.now c.in_ok-at.at 0 in
    let below : c.in_ok-at.at < length c.self.inside.queue.out.items = subst (λ ps. c.in_ok-at.at < length ps) (sym (c.self.invariant.ordered.out ∙ ap (λ s. places out_now s.issued) c.self.view_is)) c.in_ok-at.ensures.within in
    let there : slice_get c.self.inside.queue.out.items c.in_ok-at.at ≡ Some p = get-at c.self.inside.queue.out.items c.in_ok-at.at below ∙ ap (λ ps. Some (get_or ps c.in_ok-at.at 0)) (sym c.deref.ensures.0) in
    let within : p < length c.self.inside.issued.items = out-within c.self.inside.bytes.items _ c.self.inside.issued.items c.self.inside.queue c.self.inside.window p c.in_ok-at.at c.self.invariant there in
    subst (λ bs. IsPart bs r.body) (sym c.deref-2.ensures.value) (kept_here c.self.inside.bytes.items c.self.inside.issued.items p r c.self.invariant.kept c.index_mut-command.ensures.value within).body

pub append-part-requires-clause-room : goal.append-part-requires-clause-room
append-part-requires-clause-room c =
    let r : Command = c.index_mut-command.result.now in
    let p : ℕ = get_or c.deref.result.now c.in_ok-at.at 0 in
    let below : c.in_ok-at.at < length c.self.inside.queue.out.items = subst (λ ps. c.in_ok-at.at < length ps) (sym (c.self.invariant.ordered.out ∙ ap (λ s. places out_now s.issued) c.self.view_is)) c.in_ok-at.ensures.within in
    let there : slice_get c.self.inside.queue.out.items c.in_ok-at.at ≡ Some p = get-at c.self.inside.queue.out.items c.in_ok-at.at below ∙ ap (λ ps. Some (get_or ps c.in_ok-at.at 0)) (sym c.deref.ensures.0) in
    let known : c.source-source.result ≡ source_of (issued_of c.self.inside.bytes.items r) = c.source-source.ensures ∙ ap (λ bs. source_of (issued_of bs r)) c.deref-2.ensures.value in
    let may : (0 < out_at c.self.inside.queue.sources.items c.source-source.result) × (0 < c.self.inside.queue.unsettled) = settles c.self.inside.bytes.items _ c.self.inside.issued.items c.self.inside.queue c.self.inside.window p c.in_ok-at.at c.source-source.result r c.self.invariant c.index_mut-command.ensures.value there known in
    let some : 0 < c.self.inside.queue.unsettled = may.1 in
    let fits : length c.self.inside.bytes.items + 250 * c.self.inside.queue.unsettled ≤ vec_capacity c.self.inside.bytes = c.self.invariant.fits in
    let size : length c.args.reply.now ≤ 250 = c.requires.1 in
    omega arith

pub settle-requires-clause-outs : goal.settle-requires-clause-outs
settle-requires-clause-outs c =
    let r : Command = c.index_mut-command.result.now in
    let p : ℕ = get_or c.deref.result.now c.in_ok-at.at 0 in
    let below : c.in_ok-at.at < length c.self.inside.queue.out.items = subst (λ ps. c.in_ok-at.at < length ps) (sym (c.self.invariant.ordered.out ∙ ap (λ s. places out_now s.issued) c.self.view_is)) c.in_ok-at.ensures.within in
    let there : slice_get c.self.inside.queue.out.items c.in_ok-at.at ≡ Some p = get-at c.self.inside.queue.out.items c.in_ok-at.at below ∙ ap (λ ps. Some (get_or ps c.in_ok-at.at 0)) (sym c.deref.ensures.0) in
    let known : c.source-source.result ≡ source_of (issued_of c.self.inside.bytes.items r) = c.source-source.ensures ∙ ap (λ bs. source_of (issued_of bs r)) c.deref-2.ensures.value in
    let may : (0 < out_at c.self.inside.queue.sources.items c.source-source.result) × (0 < c.self.inside.queue.unsettled) = settles c.self.inside.bytes.items _ c.self.inside.issued.items c.self.inside.queue c.self.inside.window p c.in_ok-at.at c.source-source.result r c.self.invariant c.index_mut-command.ensures.value there known in
    may.0

pub settle-requires-clause-unsettled : goal.settle-requires-clause-unsettled
settle-requires-clause-unsettled c =
    let r : Command = c.index_mut-command.result.now in
    let p : ℕ = get_or c.deref.result.now c.in_ok-at.at 0 in
    let below : c.in_ok-at.at < length c.self.inside.queue.out.items = subst (λ ps. c.in_ok-at.at < length ps) (sym (c.self.invariant.ordered.out ∙ ap (λ s. places out_now s.issued) c.self.view_is)) c.in_ok-at.ensures.within in
    let there : slice_get c.self.inside.queue.out.items c.in_ok-at.at ≡ Some p = get-at c.self.inside.queue.out.items c.in_ok-at.at below ∙ ap (λ ps. Some (get_or ps c.in_ok-at.at 0)) (sym c.deref.ensures.0) in
    let known : c.source-source.result ≡ source_of (issued_of c.self.inside.bytes.items r) = c.source-source.ensures ∙ ap (λ bs. source_of (issued_of bs r)) c.deref-2.ensures.value in
    let may : (0 < out_at c.self.inside.queue.sources.items c.source-source.result) × (0 < c.self.inside.queue.unsettled) = settles c.self.inside.bytes.items _ c.self.inside.issued.items c.self.inside.queue c.self.inside.window p c.in_ok-at.at c.source-source.result r c.self.invariant c.index_mut-command.ensures.value there known in
    may.1

pub invariant_of-self : goal.invariant_of-self
invariant_of-self c =
    let r : Command = c.index_mut-command.result.now in
    let p : ℕ = get_or c.deref.result.now c.in_ok-at.at 0 in
    let below : c.in_ok-at.at < length c.self.inside.queue.out.items = subst (λ ps. c.in_ok-at.at < length ps) (sym (c.self.invariant.ordered.out ∙ ap (λ s. places out_now s.issued) c.self.view_is)) c.in_ok-at.ensures.within in
    let there : slice_get c.self.inside.queue.out.items c.in_ok-at.at ≡ Some p = get-at c.self.inside.queue.out.items c.in_ok-at.at below ∙ ap (λ ps. Some (get_or ps c.in_ok-at.at 0)) (sym c.deref.ensures.0) in
    let known : c.source-source.result ≡ source_of (issued_of c.self.inside.bytes.items r) = c.source-source.ensures ∙ ap (λ bs. source_of (issued_of bs r)) c.deref-2.ensures.value in
    let answer : Part → Command = λ part. record r { state = stands.Answered part } in
    subst (λ bs. AreCommands bs (vec_capacity c.append-part.new.kept) (set c.self.inside.issued.items p (answer c.append-part.result)) c.settle.new.self c.self.inside.window) (sym c.append-part.ensures.items)
    (subst (λ part. AreCommands (c.self.inside.bytes.items ++ c.args.reply.now) (vec_capacity c.append-part.new.kept) (set c.self.inside.issued.items p (answer part)) c.settle.new.self c.self.inside.window) (sym c.append-part.ensures.part)
    (are-answered c.self.inside.bytes.items c.args.reply.now _ (vec_capacity c.append-part.new.kept) c.self.inside.issued.items c.self.inside.queue c.settle.new.self c.self.inside.window p c.in_ok-at.at c.source-source.result r c.self.invariant c.requires c.index_mut-command.ensures.value there c.append-part.ensures.capacity known
    c.settle.ensures.out c.settle.ensures.unsettled c.settle.ensures.waits c.settle.ensures.outs c.settle.ensures.used))

pub returns-clause-place : goal.returns-clause-place
returns-clause-place c =
    let p : ℕ = get_or c.deref.result.now c.in_ok-at.at 0 in
    let below : c.in_ok-at.at < length c.self.inside.queue.out.items = subst (λ ps. c.in_ok-at.at < length ps) (sym (c.self.invariant.ordered.out ∙ ap (λ s. places out_now s.issued) c.self.view_is)) c.in_ok-at.ensures.within in
    let there : slice_get c.self.inside.queue.out.items c.in_ok-at.at ≡ Some p = get-at c.self.inside.queue.out.items c.in_ok-at.at below ∙ ap (λ ps. Some (get_or ps c.in_ok-at.at 0)) (sym c.deref.ensures.0) in
    let found : answered_place c.args.self.now.issued c.args.reply.now ≡ Some p = c.in_ok-at.ensures.place ∙ ap (λ ps. slice_get ps c.in_ok-at.at) (sym (c.self.invariant.ordered.out ∙ ap (λ s. places out_now s.issued) c.self.view_is)) ∙ there in
    sym found

pub returns-clause-few : goal.returns-clause-few
returns-clause-few c =
    let p : ℕ = get_or c.deref.result.now c.in_ok-at.at 0 in
    let below : c.in_ok-at.at < length c.self.inside.queue.out.items = subst (λ ps. c.in_ok-at.at < length ps) (sym (c.self.invariant.ordered.out ∙ ap (λ s. places out_now s.issued) c.self.view_is)) c.in_ok-at.ensures.within in
    let there : slice_get c.self.inside.queue.out.items c.in_ok-at.at ≡ Some p = get-at c.self.inside.queue.out.items c.in_ok-at.at below ∙ ap (λ ps. Some (get_or ps c.in_ok-at.at 0)) (sym c.deref.ensures.0) in
    let within : p < length c.self.inside.issued.items = out-within c.self.inside.bytes.items _ c.self.inside.issued.items c.self.inside.queue c.self.inside.window p c.in_ok-at.at c.self.invariant there in
    let few : length c.self.inside.issued.items ≤ 65535 = c.self.invariant.few in
    omega arith

pub returns-clause-after : goal.returns-clause-after
returns-clause-after c =
    let r : Command = c.index_mut-command.result.now in
    let p : ℕ = get_or c.deref.result.now c.in_ok-at.at 0 in
    let below : c.in_ok-at.at < length c.self.inside.queue.out.items = subst (λ ps. c.in_ok-at.at < length ps) (sym (c.self.invariant.ordered.out ∙ ap (λ s. places out_now s.issued) c.self.view_is)) c.in_ok-at.ensures.within in
    let there : slice_get c.self.inside.queue.out.items c.in_ok-at.at ≡ Some p = get-at c.self.inside.queue.out.items c.in_ok-at.at below ∙ ap (λ ps. Some (get_or ps c.in_ok-at.at 0)) (sym c.deref.ensures.0) in
    let found : answered_place c.args.self.now.issued c.args.reply.now ≡ Some p = c.in_ok-at.ensures.place ∙ ap (λ ps. slice_get ps c.in_ok-at.at) (sym (c.self.invariant.ordered.out ∙ ap (λ s. places out_now s.issued) c.self.view_is)) ∙ there in
    let with_issued : List Issued → InitiatorState = λ xs. record { node = c.self.inside.node; tns = c.self.inside.tns; reply_ticks = c.self.inside.reply_ticks; window = c.self.inside.window; per_source = c.self.inside.per_source; issued = xs } in
    let answer : Part → Command = λ part. record r { state = stands.Answered part } in
    let answers : InitiatorState → InitiatorState = λ s. record s { issued = restated s.issued p (Answered c.args.reply.now) } in
    ap (λ bs. with_issued (all_issued bs (set c.self.inside.issued.items p (answer c.append-part.result)))) c.append-part.ensures.items
    ∙ ap (λ part. with_issued (all_issued (c.self.inside.bytes.items ++ c.args.reply.now) (set c.self.inside.issued.items p (answer part)))) c.append-part.ensures.part
    ∙ ap with_issued (issued_answered c.self.inside.bytes.items c.args.reply.now c.self.inside.issued.items p r c.self.invariant.kept c.index_mut-command.ensures.value)
    ∙ ap answers c.self.view_is
    ∙ replies_at c.args.self.now c.args.reply.now p found
