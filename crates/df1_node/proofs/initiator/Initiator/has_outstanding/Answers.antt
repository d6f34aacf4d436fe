use Rattle.std.proofs.Common.{◌≡◌, ◌∙◌, ap, subst, false, not, sym}
use Rattle.df1_node.specs.Initiator.{InitiatorState, count_out, all_ticked, unanswered_from}
use Rattle.df1_node.specs.Commands.{all_issued}
use Rattle.df1_node.proofs.Next.{out-count}
use Rattle.df1_node.proofs.Ticks.{some-left, none-ticked, none-gone}
use Rattle.std.specs.Prelude.{ℕ, [], length, nat_lt, ◌==◌}
use Rattle.df1_node.proofs.initiator.Initiator.has_outstanding.Goals as goal

pub returns-clause-out : goal.returns-clause-out
returns-clause-out c =
    let issued = all_issued c.self.inside.bytes.items c.self.inside.issued.items in
    ap not c.is_empty.ensures
    ∙ some-left (length c.self.inside.queue.out.items)
    ∙ ap (nat_lt 0) (out-count issued c.self.inside.queue c.self.invariant.ordered)
    ∙ ap (λ (s : InitiatorState). nat_lt 0 (count_out s.issued)) c.self.view_is

pub returns-clause-still : goal.returns-clause-still
returns-clause-still c none =
    let issued = all_issued c.self.inside.bytes.items c.self.inside.issued.items in
    let empty : not (length c.self.inside.queue.out.items == 0) ≡ false = ap not (sym c.is_empty.ensures) ∙ none in
    subst (λ (s : InitiatorState). (all_ticked s.issued ≡ s.issued) × (unanswered_from 1 s.issued ≡ [])) c.self.view_is
    (none-ticked issued c.self.inside.queue c.self.invariant.ordered empty, none-gone issued c.self.inside.queue c.self.invariant.ordered empty)
