-- All ends of a route alike: the master with its node, and each station; and what goes from one to another.
use Rattle.std.proofs.Common.{◌≡◌, ◌∙◌, ℕ, suc, Bool, true, false, cond, List, [], ◌∷◌, Some, refl, ap, sym, subst}
use Rattle.std.specs.Prelude.{slice_get, slice_index}
use Rattle.std.specs.List.{filter}
use Rattle.std.proofs.lemmas.Bool.{eqb-true, false_from_ne_true}
use Rattle.df1_node.specs.Node.{NodeState}
use Rattle.half_master.specs.Keys.{kept_at}
use Rattle.station_router.specs.Router.{RouterState}
use Rattle.script_parts.specs.HalfPlayable.{is_declared}
use Rattle.replay_report.specs.declared.record.Line.{Line}
use Rattle.each_once.specs.OfStation.{is_from}
use Rattle.each_once.proofs.OneDirection.{way-within}
use Rattle.each_once.proofs.Sublists.{Has, IsWithin, within-none, within-has, within-filter, from-map}
use Rattle.half_line.specs.Acts.{LineStationState, HalfState}
use Rattle.half_line.proofs.Once.Invariant.{marks, number-at}
use Rattle.half_line.proofs.Once.MasterReplies.{declared-at}
use Rattle.half_route.proofs.Once.Chains.{IsSentBy, master, station, is-sent-by, own-chain, station-chain, declared-place}
use Rattle.half_route.proofs.Once.EndSteps.{End, EndHolds, IsFrom}
use Rattle.half_route.proofs.Once.FoundCommands.{filter-has}
use Rattle.half_route.proofs.Once.Invariant.{Setting, Holds}
use Rattle.half_route.proofs.Once.RouterSteps.{is_own}

-- ---- an end of the line

pub data Party (setting : Setting) (s : HalfState (RouterState NodeState)) : Type 0 where
  of_master : Party setting s
  of_side : (p : ℕ) (side : LineStationState) → slice_get s.stations p ≡ Some side → Party setting s

abbrev pub end_of : {setting : Setting} {s : HalfState (RouterState NodeState)} → Party setting s → End
end_of {setting} {s} of_master = setting.master
end_of {setting} {s} (of_side p side at) = setting.side p

abbrev pub node_of : {setting : Setting} {s : HalfState (RouterState NodeState)} → Party setting s → NodeState
node_of {setting} {s} of_master = s.master.host.inner
node_of {setting} {s} (of_side p side at) = side.slave.host

-- what it accepted and handed out
abbrev pub accepted_of : {setting : Setting} {s : HalfState (RouterState NodeState)} {lines : List Line} → Holds setting s lines → Party setting s → List (List ℕ)
accepted_of {setting} {s} {lines} h of_master = filter (is_own setting.numbers) h.heard
accepted_of {setting} {s} {lines} h (of_side p side at) = (h.sides p side at).accepted

abbrev pub sent_of : {setting : Setting} {s : HalfState (RouterState NodeState)} {lines : List Line} → Holds setting s lines → Party setting s → List (List ℕ)
sent_of {setting} {s} {lines} h of_master = filter (is_from setting.master.address) h.sent
sent_of {setting} {s} {lines} h (of_side p side at) = (h.sides p side at).handed

pub party-holds : {setting : Setting} {s : HalfState (RouterState NodeState)} {lines : List Line} (h : Holds setting s lines) (x : Party setting s) → EndHolds (end_of x) (accepted_of h x) (node_of x) (sent_of h x) lines
party-holds h of_master = h.master.routes.inner
party-holds h (of_side p side at) = (h.sides p side at).holds

-- ---- from one to another

none-one : {A : Type 0} (passes : Bool) (p : A → Bool) (x : A) (xs : List A) → p x ≡ passes → p x ≡ false → filter p xs ≡ [] → cond passes (x ∷ filter p xs) (filter p xs) ≡ []
none-one true p x xs is fails none = let no : true ≡ false = sym is ∙ fails in absurd cc
none-one false p x xs is fails none = none

none-passes : {A : Type 0} (p : A → Bool) (xs : List A) → ((k : ℕ) (x : A) → slice_get xs k ≡ Some x → p x ≡ false) → filter p xs ≡ []
none-passes p [] fails = refl
none-passes p (x ∷ xs) fails = none-one (p x) p x xs refl (fails 0 x refl) (none-passes p xs (λ k y at. fails (suc k) y at))

-- the number of a station
pub side-number : {setting : Setting} {s : HalfState (RouterState NodeState)} {lines : List Line} → Holds setting s lines → (p : ℕ) (side : LineStationState) → slice_get s.stations p ≡ Some side
    → (slice_get setting.numbers p ≡ Some side.number) × ((setting.side p).address ≡ side.number) × (is_declared setting.numbers side.number ≡ true)
side-number {setting} {s} h p side at =
    let number = number-at setting.numbers s.stations p side h.sides_are at in
    (number, (setting.named p side.number number).1, declared-at setting.numbers p side.number number)

-- nothing that the master accepted is in its own name
own-none : {setting : Setting} {s : HalfState (RouterState NodeState)} {lines : List Line} (h : Holds setting s lines) → filter (is_from setting.master.address) (filter (is_own setting.numbers) h.heard) ≡ []
own-none {setting} {s} h = none-passes (is_from setting.master.address) (filter (is_own setting.numbers) h.heard) (λ k body at.
    let was = filter-has (is_own setting.numbers) h.heard body (k, at) in
    false_from_ne_true (is_from setting.master.address body) (λ is. let no : true ≡ false = sym (h.master.routes.from_one was.0.0 body was.0.1) ∙ ap (is_declared setting.numbers) (eqb-true _ _ is) ∙ setting.apart in absurd cc))

-- what one accepted in the name of the other is some of what that one handed out
pub chain : {setting : Setting} {s : HalfState (RouterState NodeState)} {lines : List Line} (h : Holds setting s lines) (t x : Party setting s) → IsWithin (filter (is_from (end_of x).address) (accepted_of h t)) (sent_of h x)
chain {setting} {s} h of_master of_master = subst (λ l. IsWithin l (sent_of h of_master)) (sym (own-none h)) (within-none (sent_of h of_master))
chain {setting} {s} h of_master (of_side q other at) =
    let o = h.sides q other at in
    let number = side-number h q other at in
    subst (λ n. IsWithin (filter (is_from n) (filter (is_own setting.numbers) h.heard)) o.handed) (sym number.1)
    (own-chain setting.numbers other.number h.heard o.handed (way-within o.handed (marks other.from_it) (kept_at s.master.stations q) (filter (is_from other.number) h.heard) o.back))
chain {setting} {s} h (of_side p side at) of_master =
    let this = h.sides p side at in
    within-filter (is_from setting.master.address) this.accepted h.sent (way-within h.sent (marks side.to_it) side.slave.kept this.accepted this.way)
chain {setting} {s} h (of_side p side at) (of_side q other at_other) =
    let this = h.sides p side at in
    let o = h.sides q other at_other in
    let number = side-number h q other at_other in
    subst (λ n. IsWithin (filter (is_from n) this.accepted) o.handed) (sym number.1)
    (station-chain other.number this.accepted o.handed setting.apart number.2 h.master.routes (way-within h.sent (marks side.to_it) side.slave.kept this.accepted this.way)
    (way-within o.handed (marks other.from_it) (kept_at s.master.stations q) (filter (is_from other.number) h.heard) o.back))

-- whatever one accepted is in the name of one of them
pub record IsFromParty (setting : Setting) (s : HalfState (RouterState NodeState)) (body : List ℕ) : Type 0 where
  pub party : Party setting s
  pub from : IsFrom (end_of party).address body

from-station : {setting : Setting} {s : HalfState (RouterState NodeState)} {lines : List Line} (h : Holds setting s lines) (body : List ℕ) → is_declared setting.numbers (slice_index body 1) ≡ true → IsFromParty setting s body
from-station {setting} {s} h body declared =
    let q = declared-place setting.numbers (slice_index body 1) declared in
    let other = from-map (λ (x : LineStationState). x.number) s.stations q.0 (slice_index body 1) (ap (λ ns. slice_get ns q.0) h.sides_are ∙ q.1) in
    record { party = of_side q.0 other.0 other.1; from = sym other.2 ∙ sym (side-number h q.0 other.0 other.1).1 }

from-sent : {setting : Setting} {s : HalfState (RouterState NodeState)} {lines : List Line} (h : Holds setting s lines) (body : List ℕ) → IsSentBy setting.master.address setting.numbers body → IsFromParty setting s body
from-sent h body (master from) = record { party = of_master; from = from }
from-sent h body (station declared) = from-station h body declared

pub from-party : {setting : Setting} {s : HalfState (RouterState NodeState)} {lines : List Line} (h : Holds setting s lines) (t : Party setting s) (body : List ℕ) → Has (accepted_of h t) body → IsFromParty setting s body
from-party {setting} {s} h of_master body has =
    let was = filter-has (is_own setting.numbers) h.heard body has in
    from-station h body (h.master.routes.from_one was.0.0 body was.0.1)
from-party {setting} {s} h (of_side p side at) body has =
    let this = h.sides p side at in
    from-sent h body (is-sent-by body h.master.routes (within-has this.accepted h.sent body (way-within h.sent (marks side.to_it) side.slave.kept this.accepted this.way) has))
