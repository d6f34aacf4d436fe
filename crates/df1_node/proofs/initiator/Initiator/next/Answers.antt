use Rattle.std.proofs.Common.{◌≤◌, ◌<◌, ap, subst, ◌∙◌}
use Rattle.std.specs.List.{All}
use Rattle.std.proofs.lemmas.List.Elements.{All-map}
use Rattle.df1_base.specs.Host.{IsBody}
use Rattle.df1_node.specs.Initiator.{InitiatorState, Issued, next_place}
use Rattle.df1_node.specs.Commands.{all_issued, issued_of}
use Rattle.df1_node.proofs.Next.{next-full, next-lowest}
use Rattle.df1_node.proofs.initiator.Initiator.next.Goals as goal

pub returns-then-len-self-clause-place : goal.returns-then-len-self-clause-place
returns-then-len-self-clause-place c =
    let s : InitiatorState = record { node = c.self.inside.node; tns = c.self.inside.tns; reply_ticks = c.self.inside.reply_ticks; window = c.self.inside.window; per_source = c.self.inside.per_source; issued = all_issued c.self.inside.bytes.items c.self.inside.issued.items } in
    next-full s c.self.inside.queue c.self.invariant.ordered (subst (λ l. c.self.inside.window ≤ l) c.len.ensures.value c.if-len-self.true) ∙ ap next_place c.self.view_is

pub returns-then-len-self-clause-bodies : goal.returns-then-len-self-clause-bodies
returns-then-len-self-clause-bodies c = subst (λ s. All (λ (i : Issued). IsBody i.body) s.issued) c.self.view_is (All-map (λ (i : Issued). IsBody i.body) (issued_of c.self.inside.bytes.items) c.self.inside.issued.items (λ k d within. (c.self.invariant.kept k d within).body.body))

pub returns-clause-place : goal.returns-clause-place
returns-clause-place c =
    let s : InitiatorState = record { node = c.self.inside.node; tns = c.self.inside.tns; reply_ticks = c.self.inside.reply_ticks; window = c.self.inside.window; per_source = c.self.inside.per_source; issued = all_issued c.self.inside.bytes.items c.self.inside.issued.items } in
    c.lowest_due.ensures ∙ next-lowest s c.self.inside.queue c.self.invariant.ordered (subst (λ l. l < c.self.inside.window) c.len.ensures.value c.if-len-self.false) ∙ ap next_place c.self.view_is

pub returns-clause-bodies : goal.returns-clause-bodies
returns-clause-bodies c = subst (λ s. All (λ (i : Issued). IsBody i.body) s.issued) c.self.view_is (All-map (λ (i : Issued). IsBody i.body) (issued_of c.self.inside.bytes.items) c.self.inside.issued.items (λ k d within. (c.self.invariant.kept k d within).body.body))
