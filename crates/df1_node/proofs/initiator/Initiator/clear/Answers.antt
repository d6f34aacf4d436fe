use Rattle.std.proofs.Common.{◌≡◌, ◌≤◌, ◌++◌, List, ap, sym, ◌∙◌, subst, length, take, drop, vec_capacity}
use Rattle.df1_node.specs.Initiator.{InitiatorState, Issued, all_cleared}
use Rattle.df1_node.specs.Commands.{AreCommands, all_issued, cleared_from}
use Rattle.df1_node.proofs.Cleared.{first_place, first-within, are-cleared, issued-cleared, length-cleared, written-back}
use Rattle.df1_node.proofs.Steps.{length-issued}
use Rattle.df1_node.proofs.initiator.Initiator.clear.Goals as goal

pub clear_from-requires : goal.clear_from-requires
clear_from-requires c =
    let cs : List Issued = all_issued c.self.inside.bytes.items c.self.inside.issued.items in
    let first : c.first_waiting-first.result ≡ first_place cs = c.first_waiting-first.ensures ∙ sym (ap (λ s. first_place s.issued) c.self.view_is) in
    subst (λ n. n ≤ length c.deref_mut.result.now) (sym first) (subst (λ l. first_place cs ≤ l) (length-issued c.self.inside.bytes.items c.self.inside.issued.items ∙ ap length (sym c.deref_mut.ensures.value)) (first-within cs))

pub invariant_of-self : goal.invariant_of-self
invariant_of-self c =
    let cs : List Issued = all_issued c.self.inside.bytes.items c.self.inside.issued.items in
    let first : c.first_waiting-first.result ≡ first_place cs = c.first_waiting-first.ensures ∙ sym (ap (λ s. first_place s.issued) c.self.view_is) in
    let new : c.clear_from.new.issued ≡ cleared_from (first_place cs) c.self.inside.issued.items = c.clear_from.ensures ∙ ap (cleared_from c.first_waiting-first.result) c.deref_mut.ensures.value ∙ ap (λ n. cleared_from n c.self.inside.issued.items) first in
    let back : take c.self.inside.issued.len (c.clear_from.new.issued ++ drop (length c.clear_from.new.issued) c.self.inside.issued.items) ≡ cleared_from (first_place cs) c.self.inside.issued.items = written-back c.clear_from.new.issued c.self.inside.issued.items c.self.inside.issued.len (ap length new ∙ length-cleared (first_place cs) c.self.inside.issued.items) c.self.inside.issued.ok.0 ∙ new in
    subst (λ xs. AreCommands c.self.inside.bytes.items (vec_capacity c.self.inside.bytes) xs c.clear.new.self c.self.inside.window) (sym back)
    (are-cleared c.self.inside.bytes.items _ c.self.inside.issued.items c.self.inside.queue c.clear.new.self c.self.inside.window c.self.invariant c.clear.ensures.out c.clear.ensures.unsettled c.clear.ensures.waits c.clear.ensures.outs)

pub returns : goal.returns
returns c =
    let cs : List Issued = all_issued c.self.inside.bytes.items c.self.inside.issued.items in
    let first : c.first_waiting-first.result ≡ first_place cs = c.first_waiting-first.ensures ∙ sym (ap (λ s. first_place s.issued) c.self.view_is) in
    let new : c.clear_from.new.issued ≡ cleared_from (first_place cs) c.self.inside.issued.items = c.clear_from.ensures ∙ ap (cleared_from c.first_waiting-first.result) c.deref_mut.ensures.value ∙ ap (λ n. cleared_from n c.self.inside.issued.items) first in
    let back : take c.self.inside.issued.len (c.clear_from.new.issued ++ drop (length c.clear_from.new.issued) c.self.inside.issued.items) ≡ cleared_from (first_place cs) c.self.inside.issued.items = written-back c.clear_from.new.issued c.self.inside.issued.items c.self.inside.issued.len (ap length new ∙ length-cleared (first_place cs) c.self.inside.issued.items) c.self.inside.issued.ok.0 ∙ new in
    let with_issued : List Issued → InitiatorState = λ xs. record { node = c.self.inside.node; tns = c.self.inside.tns; reply_ticks = c.self.inside.reply_ticks; window = c.self.inside.window; per_source = c.self.inside.per_source; issued = xs } in
    let clears : InitiatorState → InitiatorState = λ s. record s { issued = all_cleared s.issued } in
    ap with_issued (ap (all_issued c.self.inside.bytes.items) back ∙ issued-cleared c.self.inside.bytes.items c.self.inside.issued.items) ∙ ap clears c.self.view_is
