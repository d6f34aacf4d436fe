use Rattle.std.proofs.Common.{◌≡◌, ◌≤◌, ◌<◌, ℕ, List, Some, None, ◌==◌, ◌+◌, cond, ap, sym, ◌∙◌, subst, refl, arith, drop, length, is_some, position, slice_get}
use Rattle.std.proofs.lemmas.Grind.{common_steps}
use Rattle.df1_node.specs.Initiator.{InitiatorState, Issued, Out, next_place, restated, source_of}
use Rattle.df1_node.specs.Commands.{all_issued, issued_of, part_of}
use Rattle.df1_node.specs.Queue.{IsQueue, waits_of, waiting_at, out_at}
use Rattle.df1_node.specs.declared.issued.Command.{Command}
use Rattle.df1_node.specs.declared.issued.State.TheVariants as stands
use Rattle.df1_node.specs.HostLaws.{place-command}
use Rattle.df1_node.proofs.Ordered.{queue-handed}
use Rattle.df1_node.proofs.Steps.{at-issued, are-set, kept_here, length-issued, restated-set}
use Rattle.df1_node.proofs.Next.{IsNext, next-is, next-within, no-command, at_None, at_Some, hands_at}
use Rattle.df1_node.proofs.initiator.Initiator.hand_out.Goals as goal

pub returns-in_err-place-clause-ready : goal.returns-in_err-place-clause-ready
returns-in_err-place-clause-ready c =
    let none : next_place c.args.self.now ≡ None = sym c.in_err-place.ensures.place in
    ap is_some (c.from_residual.ensures ∙ sym none) ∙ place-command c.args.self.now

pub returns-in_err-place-clause-body : goal.returns-in_err-place-clause-body
returns-in_err-place-clause-body c =
    let none : next_place c.args.self.now ≡ None = sym c.in_err-place.ensures.place in
    at_None _ _ _ (no-command c.args.self.now none) refl

pub returns-in_err-place-clause-size : goal.returns-in_err-place-clause-size
returns-in_err-place-clause-size c =
    let none : next_place c.args.self.now ≡ None = sym c.in_err-place.ensures.place in
    at_None _ _ _ (no-command c.args.self.now none) tt

pub hand_out-requires-clause-waits : goal.hand_out-requires-clause-waits
hand_out-requires-clause-waits c =
    let r : Command = c.index_mut-command.result.now in
    let p : ℕ = c.in_ok-place.place in
    let found : next_place c.args.self.now ≡ Some p = sym c.in_ok-place.ensures.place in
    let count : length c.args.self.now.issued ≡ length c.self.inside.issued.items = sym (ap (λ s. length s.issued) c.self.view_is) ∙ length-issued c.self.inside.bytes.items c.self.inside.issued.items in
    let within : p < length c.self.inside.issued.items = subst (λ l. p < l) count (next-within c.args.self.now p found) in
    let at : slice_get (all_issued c.self.inside.bytes.items c.self.inside.issued.items) p ≡ Some (issued_of c.self.inside.bytes.items r) = at-issued c.self.inside.bytes.items c.self.inside.issued.items p r c.index_mut-command.ensures.value within in
    let next : IsNext c.args.self.now c.self.inside.queue p (issued_of c.self.inside.bytes.items r) = next-is c.args.self.now c.self.inside.queue p (issued_of c.self.inside.bytes.items r) (subst (λ s. IsQueue s.issued c.self.inside.queue) c.self.view_is c.self.invariant.ordered) found (subst (λ s. slice_get s.issued p ≡ Some (issued_of c.self.inside.bytes.items r)) c.self.view_is at) in
    let known : c.source-source.result ≡ source_of (issued_of c.self.inside.bytes.items r) = c.source-source.ensures ∙ ap (λ bs. source_of (issued_of bs r)) c.deref.ensures.value in
    subst (λ b. 0 < length (waiting_at c.self.inside.queue.sources.items b)) (sym known) next.waits

pub hand_out-requires-clause-few : goal.hand_out-requires-clause-few
hand_out-requires-clause-few c =
    let r : Command = c.index_mut-command.result.now in
    let p : ℕ = c.in_ok-place.place in
    let found : next_place c.args.self.now ≡ Some p = sym c.in_ok-place.ensures.place in
    let count : length c.args.self.now.issued ≡ length c.self.inside.issued.items = sym (ap (λ s. length s.issued) c.self.view_is) ∙ length-issued c.self.inside.bytes.items c.self.inside.issued.items in
    let within : p < length c.self.inside.issued.items = subst (λ l. p < l) count (next-within c.args.self.now p found) in
    let at : slice_get (all_issued c.self.inside.bytes.items c.self.inside.issued.items) p ≡ Some (issued_of c.self.inside.bytes.items r) = at-issued c.self.inside.bytes.items c.self.inside.issued.items p r c.index_mut-command.ensures.value within in
    let next : IsNext c.args.self.now c.self.inside.queue p (issued_of c.self.inside.bytes.items r) = next-is c.args.self.now c.self.inside.queue p (issued_of c.self.inside.bytes.items r) (subst (λ s. IsQueue s.issued c.self.inside.queue) c.self.view_is c.self.invariant.ordered) found (subst (λ s. slice_get s.issued p ≡ Some (issued_of c.self.inside.bytes.items r)) c.self.view_is at) in
    let known : c.source-source.result ≡ source_of (issued_of c.self.inside.bytes.items r) = c.source-source.ensures ∙ ap (λ bs. source_of (issued_of bs r)) c.deref.ensures.value in
    let few : length c.self.inside.issued.items ≤ 65535 = c.self.invariant.few in
    let less : out_at c.self.inside.queue.sources.items (source_of (issued_of c.self.inside.bytes.items r)) < length c.args.self.now.issued = next.few in
    subst (λ b. out_at c.self.inside.queue.sources.items b < 65535) (sym known) (omega arith)

pub hand_out-requires-clause-room : goal.hand_out-requires-clause-room
hand_out-requires-clause-room c =
    let r : Command = c.index_mut-command.result.now in
    let p : ℕ = c.in_ok-place.place in
    let found : next_place c.args.self.now ≡ Some p = sym c.in_ok-place.ensures.place in
    let count : length c.args.self.now.issued ≡ length c.self.inside.issued.items = sym (ap (λ s. length s.issued) c.self.view_is) ∙ length-issued c.self.inside.bytes.items c.self.inside.issued.items in
    let within : p < length c.self.inside.issued.items = subst (λ l. p < l) count (next-within c.args.self.now p found) in
    let at : slice_get (all_issued c.self.inside.bytes.items c.self.inside.issued.items) p ≡ Some (issued_of c.self.inside.bytes.items r) = at-issued c.self.inside.bytes.items c.self.inside.issued.items p r c.index_mut-command.ensures.value within in
    let next : IsNext c.args.self.now c.self.inside.queue p (issued_of c.self.inside.bytes.items r) = next-is c.args.self.now c.self.inside.queue p (issued_of c.self.inside.bytes.items r) (subst (λ s. IsQueue s.issued c.self.inside.queue) c.self.view_is c.self.invariant.ordered) found (subst (λ s. slice_get s.issued p ≡ Some (issued_of c.self.inside.bytes.items r)) c.self.view_is at) in
    let room : length c.self.inside.queue.out.items < c.args.self.now.window = next.room in
    let window : c.self.inside.window ≡ c.args.self.now.window = ap (λ s. s.window) c.self.view_is in
    let narrow : c.self.inside.window ≤ 16 = c.self.invariant.narrow in
    omega arith

pub invariant_of-self : goal.invariant_of-self
invariant_of-self c =
    let r : Command = c.index_mut-command.result.now in
    let p : ℕ = c.in_ok-place.place in
    let found : next_place c.args.self.now ≡ Some p = sym c.in_ok-place.ensures.place in
    let count : length c.args.self.now.issued ≡ length c.self.inside.issued.items = sym (ap (λ s. length s.issued) c.self.view_is) ∙ length-issued c.self.inside.bytes.items c.self.inside.issued.items in
    let within : p < length c.self.inside.issued.items = subst (λ l. p < l) count (next-within c.args.self.now p found) in
    let at : slice_get (all_issued c.self.inside.bytes.items c.self.inside.issued.items) p ≡ Some (issued_of c.self.inside.bytes.items r) = at-issued c.self.inside.bytes.items c.self.inside.issued.items p r c.index_mut-command.ensures.value within in
    let next : IsNext c.args.self.now c.self.inside.queue p (issued_of c.self.inside.bytes.items r) = next-is c.args.self.now c.self.inside.queue p (issued_of c.self.inside.bytes.items r) (subst (λ s. IsQueue s.issued c.self.inside.queue) c.self.view_is c.self.invariant.ordered) found (subst (λ s. slice_get s.issued p ≡ Some (issued_of c.self.inside.bytes.items r)) c.self.view_is at) in
    let known : c.source-source.result ≡ source_of (issued_of c.self.inside.bytes.items r) = c.source-source.ensures ∙ ap (λ bs. source_of (issued_of bs r)) c.deref.ensures.value in
    let first : position (waits_of (source_of (issued_of c.self.inside.bytes.items r))) (all_issued c.self.inside.bytes.items c.self.inside.issued.items) ≡ Some p = subst (λ s. position (waits_of (source_of (issued_of c.self.inside.bytes.items r))) s.issued ≡ Some p) (sym c.self.view_is) next.first in
    let same : c.hand_out.new.self.unsettled ≡ c.self.inside.queue.unsettled = c.hand_out.ensures.unsettled in
    are-set c.self.inside.bytes.items _ c.self.inside.issued.items c.self.inside.queue c.hand_out.new.self c.self.inside.window p r (stands.Out c.self.inside.reply_ticks) c.self.invariant c.index_mut-command.ensures.value within tt
    (queue-handed (all_issued c.self.inside.bytes.items c.self.inside.issued.items) c.self.inside.queue c.hand_out.new.self p c.self.inside.reply_ticks (issued_of c.self.inside.bytes.items r) c.self.invariant.ordered at next.waiting first c.hand_out.ensures.out same
    (λ b. c.hand_out.ensures.waits b ∙ ap (λ (x : ℕ). cond (x == b) (drop 1 (waiting_at c.self.inside.queue.sources.items b)) (waiting_at c.self.inside.queue.sources.items b)) known)
    (λ b. c.hand_out.ensures.outs b ∙ ap (λ (x : ℕ). cond (x == b) (out_at c.self.inside.queue.sources.items b + 1) (out_at c.self.inside.queue.sources.items b)) known) c.hand_out.ensures.used)
    (omega arith)

pub returns-clause-ready : goal.returns-clause-ready
returns-clause-ready c =
    let r : Command = c.index_mut-command.result.now in
    let p : ℕ = c.in_ok-place.place in
    let found : next_place c.args.self.now ≡ Some p = sym c.in_ok-place.ensures.place in
    let count : length c.args.self.now.issued ≡ length c.self.inside.issued.items = sym (ap (λ s. length s.issued) c.self.view_is) ∙ length-issued c.self.inside.bytes.items c.self.inside.issued.items in
    let within : p < length c.self.inside.issued.items = subst (λ l. p < l) count (next-within c.args.self.now p found) in
    let at : slice_get (all_issued c.self.inside.bytes.items c.self.inside.issued.items) p ≡ Some (issued_of c.self.inside.bytes.items r) = at-issued c.self.inside.bytes.items c.self.inside.issued.items p r c.index_mut-command.ensures.value within in
    let next : IsNext c.args.self.now c.self.inside.queue p (issued_of c.self.inside.bytes.items r) = next-is c.args.self.now c.self.inside.queue p (issued_of c.self.inside.bytes.items r) (subst (λ s. IsQueue s.issued c.self.inside.queue) c.self.view_is c.self.invariant.ordered) found (subst (λ s. slice_get s.issued p ≡ Some (issued_of c.self.inside.bytes.items r)) c.self.view_is at) in
    ap is_some (sym next.command)

pub returns-clause-body : goal.returns-clause-body
returns-clause-body c =
    let r : Command = c.index_mut-command.result.now in
    let p : ℕ = c.in_ok-place.place in
    let found : next_place c.args.self.now ≡ Some p = sym c.in_ok-place.ensures.place in
    let count : length c.args.self.now.issued ≡ length c.self.inside.issued.items = sym (ap (λ s. length s.issued) c.self.view_is) ∙ length-issued c.self.inside.bytes.items c.self.inside.issued.items in
    let within : p < length c.self.inside.issued.items = subst (λ l. p < l) count (next-within c.args.self.now p found) in
    let at : slice_get (all_issued c.self.inside.bytes.items c.self.inside.issued.items) p ≡ Some (issued_of c.self.inside.bytes.items r) = at-issued c.self.inside.bytes.items c.self.inside.issued.items p r c.index_mut-command.ensures.value within in
    let next : IsNext c.args.self.now c.self.inside.queue p (issued_of c.self.inside.bytes.items r) = next-is c.args.self.now c.self.inside.queue p (issued_of c.self.inside.bytes.items r) (subst (λ s. IsQueue s.issued c.self.inside.queue) c.self.view_is c.self.invariant.ordered) found (subst (λ s. slice_get s.issued p ≡ Some (issued_of c.self.inside.bytes.items r)) c.self.view_is at) in
    let copied : c.try_extend_from_slice.new.self.items ≡ part_of c.self.inside.bytes.items r.body = grind (arith, common_steps) in
    at_Some _ _ _ (part_of c.self.inside.bytes.items r.body) next.command copied

pub returns-clause-size : goal.returns-clause-size
returns-clause-size c =
    let r : Command = c.index_mut-command.result.now in
    let p : ℕ = c.in_ok-place.place in
    let found : next_place c.args.self.now ≡ Some p = sym c.in_ok-place.ensures.place in
    let count : length c.args.self.now.issued ≡ length c.self.inside.issued.items = sym (ap (λ s. length s.issued) c.self.view_is) ∙ length-issued c.self.inside.bytes.items c.self.inside.issued.items in
    let within : p < length c.self.inside.issued.items = subst (λ l. p < l) count (next-within c.args.self.now p found) in
    let at : slice_get (all_issued c.self.inside.bytes.items c.self.inside.issued.items) p ≡ Some (issued_of c.self.inside.bytes.items r) = at-issued c.self.inside.bytes.items c.self.inside.issued.items p r c.index_mut-command.ensures.value within in
    let next : IsNext c.args.self.now c.self.inside.queue p (issued_of c.self.inside.bytes.items r) = next-is c.args.self.now c.self.inside.queue p (issued_of c.self.inside.bytes.items r) (subst (λ s. IsQueue s.issued c.self.inside.queue) c.self.view_is c.self.invariant.ordered) found (subst (λ s. slice_get s.issued p ≡ Some (issued_of c.self.inside.bytes.items r)) c.self.view_is at) in
    at_Some _ _ _ (part_of c.self.inside.bytes.items r.body) next.command (kept_here c.self.inside.bytes.items c.self.inside.issued.items p r c.self.invariant.kept c.index_mut-command.ensures.value within).body.body

pub returns-clause-after : goal.returns-clause-after
returns-clause-after c =
    let r : Command = c.index_mut-command.result.now in
    let p : ℕ = c.in_ok-place.place in
    let found : next_place c.args.self.now ≡ Some p = sym c.in_ok-place.ensures.place in
    let count : length c.args.self.now.issued ≡ length c.self.inside.issued.items = sym (ap (λ s. length s.issued) c.self.view_is) ∙ length-issued c.self.inside.bytes.items c.self.inside.issued.items in
    let within : p < length c.self.inside.issued.items = subst (λ l. p < l) count (next-within c.args.self.now p found) in
    let at : slice_get (all_issued c.self.inside.bytes.items c.self.inside.issued.items) p ≡ Some (issued_of c.self.inside.bytes.items r) = at-issued c.self.inside.bytes.items c.self.inside.issued.items p r c.index_mut-command.ensures.value within in
    let next : IsNext c.args.self.now c.self.inside.queue p (issued_of c.self.inside.bytes.items r) = next-is c.args.self.now c.self.inside.queue p (issued_of c.self.inside.bytes.items r) (subst (λ s. IsQueue s.issued c.self.inside.queue) c.self.view_is c.self.invariant.ordered) found (subst (λ s. slice_get s.issued p ≡ Some (issued_of c.self.inside.bytes.items r)) c.self.view_is at) in
    let with_issued : List Issued → InitiatorState = λ xs. record { node = c.self.inside.node; tns = c.self.inside.tns; reply_ticks = c.self.inside.reply_ticks; window = c.self.inside.window; per_source = c.self.inside.per_source; issued = xs } in
    let with_out : InitiatorState → InitiatorState = λ s. record s { issued = restated s.issued p (Out s.reply_ticks) } in
    ap with_issued (restated-set c.self.inside.bytes.items c.self.inside.issued.items p r _ (Out c.self.inside.reply_ticks) c.index_mut-command.ensures.value refl) ∙ ap with_out c.self.view_is ∙ hands_at c.args.self.now p found
