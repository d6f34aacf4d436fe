use Rattle.std.proofs.Common.{◌≡◌, ◌≤◌, List, ap, sym, ◌∙◌, arith, length, position, unwrap_or}
use Rattle.df1_node.specs.Initiator.{Issued, is_waiting}
use Rattle.df1_node.specs.Commands.{all_issued}
use Rattle.df1_node.proofs.Steps.{length-issued}
use Rattle.df1_node.proofs.Cleared.{first-lowest}
use Rattle.df1_node.proofs.initiator.Initiator.first_waiting.Goals as goal

pub returns-in-Some : goal.returns-in-Some
returns-in-Some c =
    let cs : List Issued = all_issued c.self.inside.bytes.items c.self.inside.issued.items in
    let few : length c.self.inside.issued.items ≤ 65535 = c.self.invariant.few in
    let count : length cs ≡ length c.self.inside.issued.items = length-issued c.self.inside.bytes.items c.self.inside.issued.items in
    ap (λ o. unwrap_or o (length cs)) (c.in-Some.ensures ∙ first-lowest cs c.self.inside.queue 18446744073709551615 c.self.invariant.ordered (omega arith))
    ∙ ap (λ s. unwrap_or (position (λ (i : Issued). is_waiting i.standing) s.issued) (length s.issued)) c.self.view_is

pub returns-in-None : goal.returns-in-None
returns-in-None c =
    let cs : List Issued = all_issued c.self.inside.bytes.items c.self.inside.issued.items in
    let few : length c.self.inside.issued.items ≤ 65535 = c.self.invariant.few in
    let count : length cs ≡ length c.self.inside.issued.items = length-issued c.self.inside.bytes.items c.self.inside.issued.items in
    c.len.ensures
    ∙ c.self.inside.issued.ok.0
    ∙ sym count
    ∙ ap (λ o. unwrap_or o (length cs)) (c.in-None.ensures ∙ first-lowest cs c.self.inside.queue 18446744073709551615 c.self.invariant.ordered (omega arith))
    ∙ ap (λ s. unwrap_or (position (λ (i : Issued). is_waiting i.standing) s.issued) (length s.issued)) c.self.view_is
