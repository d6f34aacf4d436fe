use Rattle.std.proofs.Common.{◌≡◌, ◌<◌, ℕ, List, Some, ap, sym, ◌∙◌, subst, arith, length, true, false, get_or, set, remove, slice_get}
use Rattle.df1_node.specs.Initiator.{InitiatorState, Issued, Standing, restated, is_out, is_settled, is_last_tick, ticked, source_of}
use Rattle.df1_node.specs.Commands.{IsPart, all_issued, issued_of, part_of, standing_of, ticked_at}
use Rattle.df1_node.specs.Queue.{IsQueue, places, out_now}
use Rattle.df1_node.specs.declared.issued.Command.{Command}
use Rattle.df1_node.proofs.Ordered.{out-here}
use Rattle.df1_node.proofs.Steps.{at-issued, get-at, out-within, kept_here, settles, are-set, are-settled, restated-set}
use Rattle.df1_node.proofs.Ticks.{restated-ticked, queue-ticked, places-ticked, places-gone, ticked_last}
use Rattle.df1_node.proofs.initiator.Initiator.tick_at.Goals as goal

pub index_mut-command-requires : goal.index_mut-command-requires
index_mut-command-requires c =
    let p : ℕ = get_or c.deref.result.now c.args.at 0 in
    let below : c.args.at < length c.self.inside.queue.out.items = subst (λ ps. c.args.at < length ps) (sym (c.self.invariant.ordered.out ∙ ap (λ s. places out_now s.issued) c.self.view_is)) c.requires in
    let there : slice_get c.self.inside.queue.out.items c.args.at ≡ Some p = get-at c.self.inside.queue.out.items c.args.at below ∙ ap (λ ps. Some (get_or ps c.args.at 0)) (sym c.deref.ensures.0) in
    subst (λ l. p < l) (sym c.self.inside.issued.ok.0) (out-within c.self.inside.bytes.items _ c.self.inside.issued.items c.self.inside.queue c.self.inside.window p c.args.at c.self.invariant there)

pub source-source-requires : goal.source-source-requires
source-source-requires c =
    let r : Command = c.index_mut-command.result.now in
    let p : ℕ = get_or c.deref.result.now c.args.at 0 in
    let below : c.args.at < length c.self.inside.queue.out.items = subst (λ ps. c.args.at < length ps) (sym (c.self.invariant.ordered.out ∙ ap (λ s. places out_now s.issued) c.self.view_is)) c.requires in
    let there : slice_get c.self.inside.queue.out.items c.args.at ≡ Some p = get-at c.self.inside.queue.out.items c.args.at below ∙ ap (λ ps. Some (get_or ps c.args.at 0)) (sym c.deref.ensures.0) in
    let within : p < length c.self.inside.issued.items = out-within c.self.inside.bytes.items _ c.self.inside.issued.items c.self.inside.queue c.self.inside.window p c.args.at c.self.invariant there in
    subst (λ bs. IsPart bs r.body) (sym c.deref-2.ensures.value) (kept_here c.self.inside.bytes.items c.self.inside.issued.items p r c.self.invariant.kept c.index_mut-command.ensures.value within).body

pub invariant_of-self : goal.invariant_of-self
invariant_of-self c =
    let r : Command = c.index_mut-command.result.now in
    let p : ℕ = get_or c.deref.result.now c.args.at 0 in
    let below : c.args.at < length c.self.inside.queue.out.items = subst (λ ps. c.args.at < length ps) (sym (c.self.invariant.ordered.out ∙ ap (λ s. places out_now s.issued) c.self.view_is)) c.requires in
    let there : slice_get c.self.inside.queue.out.items c.args.at ≡ Some p = get-at c.self.inside.queue.out.items c.args.at below ∙ ap (λ ps. Some (get_or ps c.args.at 0)) (sym c.deref.ensures.0) in
    let within : p < length c.self.inside.issued.items = out-within c.self.inside.bytes.items _ c.self.inside.issued.items c.self.inside.queue c.self.inside.window p c.args.at c.self.invariant there in
    let cs : List Issued = all_issued c.self.inside.bytes.items c.self.inside.issued.items in
    let at : slice_get cs p ≡ Some (issued_of c.self.inside.bytes.items r) = at-issued c.self.inside.bytes.items c.self.inside.issued.items p r c.index_mut-command.ensures.value within in
    let out : is_out (issued_of c.self.inside.bytes.items r).standing ≡ true = out-here cs c.self.inside.queue p c.args.at (issued_of c.self.inside.bytes.items r) c.self.invariant.ordered at there in
    let next : standing_of c.self.inside.bytes.items c.ticked-command.result ≡ ticked (issued_of c.self.inside.bytes.items r).standing = c.ticked-command.ensures.stands c.self.inside.bytes.items in
    let last : is_last_tick (issued_of c.self.inside.bytes.items r).standing ≡ false = sym (c.is_last_tick-is_last.ensures c.self.inside.bytes.items) ∙ c.if-not-is_last.true in
    are-set c.self.inside.bytes.items _ c.self.inside.issued.items c.self.inside.queue c.self.inside.queue c.self.inside.window p r c.ticked-command.result c.self.invariant c.index_mut-command.ensures.value within
    (c.ticked-command.ensures.kept c.self.inside.bytes.items (kept_here c.self.inside.bytes.items c.self.inside.issued.items p r c.self.invariant.kept c.index_mut-command.ensures.value within).state)
    (subst (λ s. IsQueue (restated cs p s) c.self.inside.queue) (sym next) (queue-ticked cs c.self.inside.queue p (issued_of c.self.inside.bytes.items r) c.self.invariant.ordered at out last)) (omega arith)

pub returns-then-not-is_last-clause-after : goal.returns-then-not-is_last-clause-after
returns-then-not-is_last-clause-after c =
    let r : Command = c.index_mut-command.result.now in
    let p : ℕ = get_or c.deref.result.now c.args.at 0 in
    let below : c.args.at < length c.self.inside.queue.out.items = subst (λ ps. c.args.at < length ps) (sym (c.self.invariant.ordered.out ∙ ap (λ s. places out_now s.issued) c.self.view_is)) c.requires in
    let there : slice_get c.self.inside.queue.out.items c.args.at ≡ Some p = get-at c.self.inside.queue.out.items c.args.at below ∙ ap (λ ps. Some (get_or ps c.args.at 0)) (sym c.deref.ensures.0) in
    let within : p < length c.self.inside.issued.items = out-within c.self.inside.bytes.items _ c.self.inside.issued.items c.self.inside.queue c.self.inside.window p c.args.at c.self.invariant there in
    let cs : List Issued = all_issued c.self.inside.bytes.items c.self.inside.issued.items in
    let at : slice_get cs p ≡ Some (issued_of c.self.inside.bytes.items r) = at-issued c.self.inside.bytes.items c.self.inside.issued.items p r c.index_mut-command.ensures.value within in
    let next : standing_of c.self.inside.bytes.items c.ticked-command.result ≡ ticked (issued_of c.self.inside.bytes.items r).standing = c.ticked-command.ensures.stands c.self.inside.bytes.items in
    let restand : Standing → Issued = λ s. record { body = part_of c.self.inside.bytes.items r.body; standing = s } in
    let set_is : all_issued c.self.inside.bytes.items (set c.self.inside.issued.items p (record r { state = c.ticked-command.result })) ≡ restated cs p (ticked (issued_of c.self.inside.bytes.items r).standing) = restated-set c.self.inside.bytes.items c.self.inside.issued.items p r (record r { state = c.ticked-command.result }) (ticked (issued_of c.self.inside.bytes.items r).standing) c.index_mut-command.ensures.value (ap restand next) in
    let with_issued : List Issued → InitiatorState = λ xs. record { node = c.self.inside.node; tns = c.self.inside.tns; reply_ticks = c.self.inside.reply_ticks; window = c.self.inside.window; per_source = c.self.inside.per_source; issued = xs } in
    let p_is : p ≡ get_or (places out_now cs) c.args.at 0 = ap (λ ps. get_or ps c.args.at 0) (c.deref.ensures.0 ∙ c.self.invariant.ordered.out) in
    let ticks : InitiatorState → InitiatorState = λ s. record s { issued = ticked_at (get_or (places out_now s.issued) c.args.at 0) s.issued } in
    ap with_issued set_is ∙ ap with_issued (restated-ticked cs p (issued_of c.self.inside.bytes.items r) at) ∙ ap (λ k. with_issued (ticked_at k cs)) p_is ∙ ap ticks c.self.view_is

pub returns-then-not-is_last-clause-out : goal.returns-then-not-is_last-clause-out
returns-then-not-is_last-clause-out c =
    let r : Command = c.index_mut-command.result.now in
    let p : ℕ = get_or c.deref.result.now c.args.at 0 in
    let below : c.args.at < length c.self.inside.queue.out.items = subst (λ ps. c.args.at < length ps) (sym (c.self.invariant.ordered.out ∙ ap (λ s. places out_now s.issued) c.self.view_is)) c.requires in
    let there : slice_get c.self.inside.queue.out.items c.args.at ≡ Some p = get-at c.self.inside.queue.out.items c.args.at below ∙ ap (λ ps. Some (get_or ps c.args.at 0)) (sym c.deref.ensures.0) in
    let within : p < length c.self.inside.issued.items = out-within c.self.inside.bytes.items _ c.self.inside.issued.items c.self.inside.queue c.self.inside.window p c.args.at c.self.invariant there in
    let cs : List Issued = all_issued c.self.inside.bytes.items c.self.inside.issued.items in
    let at : slice_get cs p ≡ Some (issued_of c.self.inside.bytes.items r) = at-issued c.self.inside.bytes.items c.self.inside.issued.items p r c.index_mut-command.ensures.value within in
    let next : standing_of c.self.inside.bytes.items c.ticked-command.result ≡ ticked (issued_of c.self.inside.bytes.items r).standing = c.ticked-command.ensures.stands c.self.inside.bytes.items in
    let restand : Standing → Issued = λ s. record { body = part_of c.self.inside.bytes.items r.body; standing = s } in
    let set_is : all_issued c.self.inside.bytes.items (set c.self.inside.issued.items p (record r { state = c.ticked-command.result })) ≡ restated cs p (ticked (issued_of c.self.inside.bytes.items r).standing) = restated-set c.self.inside.bytes.items c.self.inside.issued.items p r (record r { state = c.ticked-command.result }) (ticked (issued_of c.self.inside.bytes.items r).standing) c.index_mut-command.ensures.value (ap restand next) in
    let out : is_out (issued_of c.self.inside.bytes.items r).standing ≡ true = out-here cs c.self.inside.queue p c.args.at (issued_of c.self.inside.bytes.items r) c.self.invariant.ordered at there in
    let last : is_last_tick (issued_of c.self.inside.bytes.items r).standing ≡ false = sym (c.is_last_tick-is_last.ensures c.self.inside.bytes.items) ∙ c.if-not-is_last.true in
    ap (places out_now) set_is ∙ places-ticked cs p (issued_of c.self.inside.bytes.items r) at out last ∙ ap (λ s. places out_now s.issued) c.self.view_is

pub settle-requires-clause-outs : goal.settle-requires-clause-outs
settle-requires-clause-outs c =
    let r : Command = c.index_mut-command.result.now in
    let p : ℕ = get_or c.deref.result.now c.args.at 0 in
    let below : c.args.at < length c.self.inside.queue.out.items = subst (λ ps. c.args.at < length ps) (sym (c.self.invariant.ordered.out ∙ ap (λ s. places out_now s.issued) c.self.view_is)) c.requires in
    let there : slice_get c.self.inside.queue.out.items c.args.at ≡ Some p = get-at c.self.inside.queue.out.items c.args.at below ∙ ap (λ ps. Some (get_or ps c.args.at 0)) (sym c.deref.ensures.0) in
    let known : c.source-source.result ≡ source_of (issued_of c.self.inside.bytes.items r) = c.source-source.ensures ∙ ap (λ bs. source_of (issued_of bs r)) c.deref-2.ensures.value in
    (settles c.self.inside.bytes.items _ c.self.inside.issued.items c.self.inside.queue c.self.inside.window p c.args.at c.source-source.result r c.self.invariant c.index_mut-command.ensures.value there known).0

pub settle-requires-clause-unsettled : goal.settle-requires-clause-unsettled
settle-requires-clause-unsettled c =
    let r : Command = c.index_mut-command.result.now in
    let p : ℕ = get_or c.deref.result.now c.args.at 0 in
    let below : c.args.at < length c.self.inside.queue.out.items = subst (λ ps. c.args.at < length ps) (sym (c.self.invariant.ordered.out ∙ ap (λ s. places out_now s.issued) c.self.view_is)) c.requires in
    let there : slice_get c.self.inside.queue.out.items c.args.at ≡ Some p = get-at c.self.inside.queue.out.items c.args.at below ∙ ap (λ ps. Some (get_or ps c.args.at 0)) (sym c.deref.ensures.0) in
    let known : c.source-source.result ≡ source_of (issued_of c.self.inside.bytes.items r) = c.source-source.ensures ∙ ap (λ bs. source_of (issued_of bs r)) c.deref-2.ensures.value in
    (settles c.self.inside.bytes.items _ c.self.inside.issued.items c.self.inside.queue c.self.inside.window p c.args.at c.source-source.result r c.self.invariant c.index_mut-command.ensures.value there known).1

pub invariant_of-self-2 : goal.invariant_of-self-2
invariant_of-self-2 c =
    let r : Command = c.index_mut-command.result.now in
    let p : ℕ = get_or c.deref.result.now c.args.at 0 in
    let below : c.args.at < length c.self.inside.queue.out.items = subst (λ ps. c.args.at < length ps) (sym (c.self.invariant.ordered.out ∙ ap (λ s. places out_now s.issued) c.self.view_is)) c.requires in
    let there : slice_get c.self.inside.queue.out.items c.args.at ≡ Some p = get-at c.self.inside.queue.out.items c.args.at below ∙ ap (λ ps. Some (get_or ps c.args.at 0)) (sym c.deref.ensures.0) in
    let within : p < length c.self.inside.issued.items = out-within c.self.inside.bytes.items _ c.self.inside.issued.items c.self.inside.queue c.self.inside.window p c.args.at c.self.invariant there in
    let next : standing_of c.self.inside.bytes.items c.ticked-command.result ≡ ticked (issued_of c.self.inside.bytes.items r).standing = c.ticked-command.ensures.stands c.self.inside.bytes.items in
    let last : is_last_tick (issued_of c.self.inside.bytes.items r).standing ≡ true = sym (c.is_last_tick-is_last.ensures c.self.inside.bytes.items) ∙ c.if-not-is_last.false in
    let known : c.source-source.result ≡ source_of (issued_of c.self.inside.bytes.items r) = c.source-source.ensures ∙ ap (λ bs. source_of (issued_of bs r)) c.deref-2.ensures.value in
    are-settled c.self.inside.bytes.items _ c.self.inside.issued.items c.self.inside.queue c.settle.new.self c.self.inside.window p c.args.at c.source-source.result r c.ticked-command.result c.self.invariant c.index_mut-command.ensures.value there
    (c.ticked-command.ensures.kept c.self.inside.bytes.items (kept_here c.self.inside.bytes.items c.self.inside.issued.items p r c.self.invariant.kept c.index_mut-command.ensures.value within).state)
    (ap is_settled next ∙ ticked_last (issued_of c.self.inside.bytes.items r).standing last) known c.settle.ensures.out c.settle.ensures.unsettled c.settle.ensures.waits c.settle.ensures.outs c.settle.ensures.used

pub returns-clause-after : goal.returns-clause-after
returns-clause-after c =
    let r : Command = c.index_mut-command.result.now in
    let p : ℕ = get_or c.deref.result.now c.args.at 0 in
    let below : c.args.at < length c.self.inside.queue.out.items = subst (λ ps. c.args.at < length ps) (sym (c.self.invariant.ordered.out ∙ ap (λ s. places out_now s.issued) c.self.view_is)) c.requires in
    let there : slice_get c.self.inside.queue.out.items c.args.at ≡ Some p = get-at c.self.inside.queue.out.items c.args.at below ∙ ap (λ ps. Some (get_or ps c.args.at 0)) (sym c.deref.ensures.0) in
    let within : p < length c.self.inside.issued.items = out-within c.self.inside.bytes.items _ c.self.inside.issued.items c.self.inside.queue c.self.inside.window p c.args.at c.self.invariant there in
    let cs : List Issued = all_issued c.self.inside.bytes.items c.self.inside.issued.items in
    let at : slice_get cs p ≡ Some (issued_of c.self.inside.bytes.items r) = at-issued c.self.inside.bytes.items c.self.inside.issued.items p r c.index_mut-command.ensures.value within in
    let next : standing_of c.self.inside.bytes.items c.ticked-command.result ≡ ticked (issued_of c.self.inside.bytes.items r).standing = c.ticked-command.ensures.stands c.self.inside.bytes.items in
    let restand : Standing → Issued = λ s. record { body = part_of c.self.inside.bytes.items r.body; standing = s } in
    let set_is : all_issued c.self.inside.bytes.items (set c.self.inside.issued.items p (record r { state = c.ticked-command.result })) ≡ restated cs p (ticked (issued_of c.self.inside.bytes.items r).standing) = restated-set c.self.inside.bytes.items c.self.inside.issued.items p r (record r { state = c.ticked-command.result }) (ticked (issued_of c.self.inside.bytes.items r).standing) c.index_mut-command.ensures.value (ap restand next) in
    let with_issued : List Issued → InitiatorState = λ xs. record { node = c.self.inside.node; tns = c.self.inside.tns; reply_ticks = c.self.inside.reply_ticks; window = c.self.inside.window; per_source = c.self.inside.per_source; issued = xs } in
    let p_is : p ≡ get_or (places out_now cs) c.args.at 0 = ap (λ ps. get_or ps c.args.at 0) (c.deref.ensures.0 ∙ c.self.invariant.ordered.out) in
    let ticks : InitiatorState → InitiatorState = λ s. record s { issued = ticked_at (get_or (places out_now s.issued) c.args.at 0) s.issued } in
    ap with_issued set_is ∙ ap with_issued (restated-ticked cs p (issued_of c.self.inside.bytes.items r) at) ∙ ap (λ k. with_issued (ticked_at k cs)) p_is ∙ ap ticks c.self.view_is

pub returns-clause-out : goal.returns-clause-out
returns-clause-out c =
    let r : Command = c.index_mut-command.result.now in
    let p : ℕ = get_or c.deref.result.now c.args.at 0 in
    let below : c.args.at < length c.self.inside.queue.out.items = subst (λ ps. c.args.at < length ps) (sym (c.self.invariant.ordered.out ∙ ap (λ s. places out_now s.issued) c.self.view_is)) c.requires in
    let there : slice_get c.self.inside.queue.out.items c.args.at ≡ Some p = get-at c.self.inside.queue.out.items c.args.at below ∙ ap (λ ps. Some (get_or ps c.args.at 0)) (sym c.deref.ensures.0) in
    let within : p < length c.self.inside.issued.items = out-within c.self.inside.bytes.items _ c.self.inside.issued.items c.self.inside.queue c.self.inside.window p c.args.at c.self.invariant there in
    let cs : List Issued = all_issued c.self.inside.bytes.items c.self.inside.issued.items in
    let at : slice_get cs p ≡ Some (issued_of c.self.inside.bytes.items r) = at-issued c.self.inside.bytes.items c.self.inside.issued.items p r c.index_mut-command.ensures.value within in
    let next : standing_of c.self.inside.bytes.items c.ticked-command.result ≡ ticked (issued_of c.self.inside.bytes.items r).standing = c.ticked-command.ensures.stands c.self.inside.bytes.items in
    let restand : Standing → Issued = λ s. record { body = part_of c.self.inside.bytes.items r.body; standing = s } in
    let set_is : all_issued c.self.inside.bytes.items (set c.self.inside.issued.items p (record r { state = c.ticked-command.result })) ≡ restated cs p (ticked (issued_of c.self.inside.bytes.items r).standing) = restated-set c.self.inside.bytes.items c.self.inside.issued.items p r (record r { state = c.ticked-command.result }) (ticked (issued_of c.self.inside.bytes.items r).standing) c.index_mut-command.ensures.value (ap restand next) in
    let last : is_last_tick (issued_of c.self.inside.bytes.items r).standing ≡ true = sym (c.is_last_tick-is_last.ensures c.self.inside.bytes.items) ∙ c.if-not-is_last.false in
    ap (places out_now) set_is
    ∙ places-gone cs p c.args.at (issued_of c.self.inside.bytes.items r) (sym (ap (λ ps. slice_get ps c.args.at) c.self.invariant.ordered.out) ∙ there) last
    ∙ ap (λ s. remove (places out_now s.issued) c.args.at) c.self.view_is
