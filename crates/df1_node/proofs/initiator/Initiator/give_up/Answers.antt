use Rattle.std.proofs.Common.{◌≡◌, ◌≤◌, ◌<◌, List, Some, is_some, ap, sym, ◌∙◌, subst, refl, arith, length, true, false, slice_get}
use Rattle.df1_node.specs.Initiator.{InitiatorState, Issued, Undelivered, restated, is_out_at, source_of}
use Rattle.df1_node.specs.Commands.{IsPart, all_issued, issued_of}
use Rattle.df1_node.specs.declared.issued.Command.{Command}
use Rattle.df1_node.specs.declared.issued.State.TheVariants as stands
use Rattle.df1_node.proofs.Steps.{out_at_place, found-at, out-within, kept_here, settles, are-settled, restated-set, gives_up}
use Rattle.df1_node.proofs.initiator.Initiator.give_up.Goals as goal

pub returns-in_default-clause-given_up : goal.returns-in_default-clause-given_up
returns-in_default-clause-given_up c =
    ap is_some c.in_default.ensures
    ∙ out_at_place (all_issued c.self.inside.bytes.items c.self.inside.issued.items) c.self.inside.queue c.args.place c.self.invariant.ordered
    ∙ ap (λ s. is_out_at s.issued c.args.place) c.self.view_is

pub returns-in_default-clause-after : goal.returns-in_default-clause-after
returns-in_default-clause-after c =
    gives_up c.args.self.now c.args.place false
    (sym
    (ap is_some c.in_default.ensures
    ∙ out_at_place (all_issued c.self.inside.bytes.items c.self.inside.issued.items) c.self.inside.queue c.args.place c.self.invariant.ordered
    ∙ ap (λ s. is_out_at s.issued c.args.place) c.self.view_is))

pub index_mut-command-requires : goal.index_mut-command-requires
index_mut-command-requires c =
    let there : slice_get c.self.inside.queue.out.items c.in-Some.at ≡ Some c.args.place = found-at c.args.place c.self.inside.queue.out.items c.in-Some.at (sym c.in-Some.ensures) in
    subst (λ l. c.args.place < l) (sym c.self.inside.issued.ok.0) (out-within c.self.inside.bytes.items _ c.self.inside.issued.items c.self.inside.queue c.self.inside.window c.args.place c.in-Some.at c.self.invariant there)

pub source-source-requires : goal.source-source-requires
source-source-requires c =
    let r : Command = c.index_mut-command.result.now in
    let there : slice_get c.self.inside.queue.out.items c.in-Some.at ≡ Some c.args.place = found-at c.args.place c.self.inside.queue.out.items c.in-Some.at (sym c.in-Some.ensures) in
    let within : c.args.place < length c.self.inside.issued.items = out-within c.self.inside.bytes.items _ c.self.inside.issued.items c.self.inside.queue c.self.inside.window c.args.place c.in-Some.at c.self.invariant there in
    subst (λ bs. IsPart bs r.body) (sym c.deref.ensures.value) (kept_here c.self.inside.bytes.items c.self.inside.issued.items c.args.place r c.self.invariant.kept c.index_mut-command.ensures.value within).body

pub settle-requires-clause-outs : goal.settle-requires-clause-outs
settle-requires-clause-outs c =
    let r : Command = c.index_mut-command.result.now in
    let there : slice_get c.self.inside.queue.out.items c.in-Some.at ≡ Some c.args.place = found-at c.args.place c.self.inside.queue.out.items c.in-Some.at (sym c.in-Some.ensures) in
    let known : c.source-source.result ≡ source_of (issued_of c.self.inside.bytes.items r) = c.source-source.ensures ∙ ap (λ bs. source_of (issued_of bs r)) c.deref.ensures.value in
    (settles c.self.inside.bytes.items _ c.self.inside.issued.items c.self.inside.queue c.self.inside.window c.args.place c.in-Some.at c.source-source.result r c.self.invariant c.index_mut-command.ensures.value there known).0

pub settle-requires-clause-unsettled : goal.settle-requires-clause-unsettled
settle-requires-clause-unsettled c =
    let r : Command = c.index_mut-command.result.now in
    let there : slice_get c.self.inside.queue.out.items c.in-Some.at ≡ Some c.args.place = found-at c.args.place c.self.inside.queue.out.items c.in-Some.at (sym c.in-Some.ensures) in
    let known : c.source-source.result ≡ source_of (issued_of c.self.inside.bytes.items r) = c.source-source.ensures ∙ ap (λ bs. source_of (issued_of bs r)) c.deref.ensures.value in
    (settles c.self.inside.bytes.items _ c.self.inside.issued.items c.self.inside.queue c.self.inside.window c.args.place c.in-Some.at c.source-source.result r c.self.invariant c.index_mut-command.ensures.value there known).1

pub invariant_of-self : goal.invariant_of-self
invariant_of-self c =
    let r : Command = c.index_mut-command.result.now in
    let there : slice_get c.self.inside.queue.out.items c.in-Some.at ≡ Some c.args.place = found-at c.args.place c.self.inside.queue.out.items c.in-Some.at (sym c.in-Some.ensures) in
    let known : c.source-source.result ≡ source_of (issued_of c.self.inside.bytes.items r) = c.source-source.ensures ∙ ap (λ bs. source_of (issued_of bs r)) c.deref.ensures.value in
    are-settled c.self.inside.bytes.items _ c.self.inside.issued.items c.self.inside.queue c.settle.new.self c.self.inside.window c.args.place c.in-Some.at c.source-source.result r stands.Undelivered c.self.invariant c.index_mut-command.ensures.value there
    tt refl known c.settle.ensures.out c.settle.ensures.unsettled c.settle.ensures.waits c.settle.ensures.outs c.settle.ensures.used

pub returns-clause-given_up : goal.returns-clause-given_up
returns-clause-given_up c =
    ap is_some c.in-Some.ensures
    ∙ out_at_place (all_issued c.self.inside.bytes.items c.self.inside.issued.items) c.self.inside.queue c.args.place c.self.invariant.ordered
    ∙ ap (λ s. is_out_at s.issued c.args.place) c.self.view_is

pub returns-clause-few : goal.returns-clause-few
returns-clause-few c =
    let there : slice_get c.self.inside.queue.out.items c.in-Some.at ≡ Some c.args.place = found-at c.args.place c.self.inside.queue.out.items c.in-Some.at (sym c.in-Some.ensures) in
    let within : c.args.place < length c.self.inside.issued.items = out-within c.self.inside.bytes.items _ c.self.inside.issued.items c.self.inside.queue c.self.inside.window c.args.place c.in-Some.at c.self.invariant there in
    let few : length c.self.inside.issued.items ≤ 65535 = c.self.invariant.few in
    λ _. omega arith

pub returns-clause-after : goal.returns-clause-after
returns-clause-after c =
    let with_issued : List Issued → InitiatorState = λ xs. record { node = c.self.inside.node; tns = c.self.inside.tns; reply_ticks = c.self.inside.reply_ticks; window = c.self.inside.window; per_source = c.self.inside.per_source; issued = xs } in
    let with_given_up : InitiatorState → InitiatorState = λ s. record s { issued = restated s.issued c.args.place Undelivered } in
    ap with_issued (restated-set c.self.inside.bytes.items c.self.inside.issued.items c.args.place c.index_mut-command.result.now _ Undelivered c.index_mut-command.ensures.value refl)
    ∙ ap with_given_up c.self.view_is
    ∙ gives_up c.args.self.now c.args.place true
    (sym
    (ap is_some c.in-Some.ensures
    ∙ out_at_place (all_issued c.self.inside.bytes.items c.self.inside.issued.items) c.self.inside.queue c.args.place c.self.invariant.ordered
    ∙ ap (λ s. is_out_at s.issued c.args.place) c.self.view_is))
