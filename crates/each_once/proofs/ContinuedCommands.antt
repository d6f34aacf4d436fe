-- What any step of a node leaves of its commands: as many, at their places, with their bodies, and given up where they were.
use Rattle.std.proofs.Common.{◌≡◌, ◌∙◌, ℕ, suc, Bool, true, false, List, map, length, Some, option_map, refl, ap, sym}
use Rattle.std.specs.Prelude.{slice_get}
use Rattle.std.proofs.lemmas.List.{length-map}
use Rattle.std.proofs.lemmas.Option.{slice_get-map}
use Rattle.df1_base.specs.declared.host.Fate.{Fate}
use Rattle.df1_node.specs.Initiator.{Issued, Standing, Waiting, Out, Answered, Undelivered, Unanswered, is_settled}
use Rattle.df1_node.specs.Node.{NodeState, Step, Accept, Next, Told, Tick, after, after_accept, after_next, after_told, after_tick}
use Rattle.df1_node.proofs.Final.{final_step}
use Rattle.each_once.proofs.CommandBodies.{bodies-accept, bodies-after_told, bodies-after_tick, bodies-next}
use Rattle.each_once.proofs.KeptCommands.{is_given_up}
use Rattle.each_once.proofs.Sublists.{from-map}
use Rattle.each_once.proofs.ToldLines.{Stays, stays-same, stays-both}

pub record Continues (before issued : List Issued) : Type 0 where
  pub stays : Stays before issued
  pub count : length issued ≡ length before

pub continues-same : (issued : List Issued) → Continues issued issued
continues-same issued = record { stays = stays-same issued; count = refl }

pub continues-both : (a b c : List Issued) → Continues a b → Continues b c → Continues a c
continues-both a b c first second = record { stays = stays-both a b c first.stays second.stays; count = second.count ∙ first.count }

up-is-settled : (s : Standing) → is_given_up s ≡ true → is_settled s ≡ true
up-is-settled Waiting up = absurd cc
up-is-settled (Out left) up = absurd cc
up-is-settled (Answered reply) up = refl
up-is-settled Undelivered up = refl
up-is-settled Unanswered up = refl

stays-by : (node : NodeState) (step : Step) → map (λ c. c.body) (after node step).initiator.issued ≡ map (λ c. c.body) node.initiator.issued
    → (k : ℕ) (c : Issued) → slice_get node.initiator.issued k ≡ Some c → (settled : Bool) → is_settled c.standing ≡ settled
    → (d : Issued) × (slice_get (after node step).initiator.issued k ≡ Some d) × (d.body ≡ c.body) × (is_given_up c.standing ≡ true → d.standing ≡ c.standing)
stays-by node step same k c is true settled = (c, final_step node step (suc k) c is settled, refl, λ up. refl)
stays-by node step same k c is false settled =
    let at : slice_get (map (λ x. x.body) (after node step).initiator.issued) k ≡ Some c.body =
    ap (λ bodies. slice_get bodies k) same ∙ slice_get-map (λ (x : Issued). x.body) node.initiator.issued k ∙ ap (option_map (λ (x : Issued). x.body)) is in
    let d = from-map (λ (x : Issued). x.body) (after node step).initiator.issued k c.body at in
    (d.0, d.1, d.2, λ up. absurd (let yes = up-is-settled c.standing up in cc))

by-bodies : (node : NodeState) (step : Step) → map (λ c. c.body) (after node step).initiator.issued ≡ map (λ c. c.body) node.initiator.issued → Continues node.initiator.issued (after node step).initiator.issued
by-bodies node step same = record {
  stays = λ k c is. stays-by node step same k c is (is_settled c.standing) refl;
  count = sym (length-map (after node step).initiator.issued (λ (c : Issued). c.body)) ∙ ap length same ∙ length-map node.initiator.issued (λ (c : Issued). c.body);
}

pub continues-accept : (node : NodeState) (body : List ℕ) → Continues node.initiator.issued (after_accept node body).initiator.issued
continues-accept node body = by-bodies node (Accept body) (bodies-accept node body)

pub continues-told : (node : NodeState) (what : Fate) → Continues node.initiator.issued (after_told node what).initiator.issued
continues-told node what = by-bodies node (Told what) (bodies-after_told node what)

pub continues-tick : (node : NodeState) → Continues node.initiator.issued (after_tick node).initiator.issued
continues-tick node = by-bodies node Tick (bodies-after_tick node)

pub continues-next : (node : NodeState) → Continues node.initiator.issued (after_next node).initiator.issued
continues-next node = by-bodies node Next (bodies-next node)
