-- Each event of a script may happen after those before it: the commands of each end and the sum of the events have room for it.
use Rattle.std.proofs.Common.{◌≡◌, ◌∙◌, ℕ, ◌+◌, ◌≤◌, Bool, cond, List, [], ◌∷◌, ◌++◌, Option, Some, None, refl, ap, sym, subst, append_assoc, slice_get, option_map, arith}
use Rattle.std.specs.Prelude.{All, IfSome, IsTrue, count_by, sum_by}
use Rattle.std.proofs.lemmas.Bool.{eq-eqb}
use Rattle.std.proofs.lemmas.List.Elements.{All-head, All-tail}
use Rattle.std.proofs.lemmas.List.Sums.{sum_by-append, sum_by-cons}
use Rattle.df1_node.specs.Initiator.{InitiatorState, issue_fault}
use Rattle.script_statement.specs.declared.who.Who.TheVariants.{M, S}
use Rattle.script_statement.specs.Statements.{is_payload}
use Rattle.script_parts.specs.declared.script.Event.{Event}
use Rattle.script_parts.specs.declared.script.Event.TheVariants as event
use Rattle.script_parts.specs.declared.script.Script.{Script}
use Rattle.script_parts.specs.HalfPlayable.{IsHalfPossible, half_count_of, is_declared, numbers_of, station_plans}
use Rattle.script_parts.specs.RoutePlayable.{IsRoutePlayable, IsRoutePossible, is_issue_of, node_of_master}
use Rattle.each_once.proofs.Sublists.{all-at}
use Rattle.half_line.specs.Acts.{LineStationState}
use Rattle.half_line.specs.Run.{place_of, plan_of_m}
use Rattle.half_line.specs.Plays.{initiator_at}
use Rattle.outset.proofs.IssuedPayloads.{payload-issues}
use Rattle.half_route.specs.Run.{IsNext, Routed, after_event, begun}
use Rattle.half_route.proofs.AlongPlans.{zip-at}
use Rattle.half_route.proofs.EventKinds.{IsOfLine, Kind, OfLine, OfStation, kind-of}
use Rattle.half_route.proofs.Issued.{HaveIssued, IsStationOf, event-issued, first-issued, issued-count, number-at, station-at, the-numbers}

-- these events may happen one after another
abbrev pub AreNext : Routed → List Event → Type 0
AreNext p [] = Unit {0}
AreNext p (e ∷ events) = IsNext p e × AreNext (after_event p e) events

-- one event more is within what all of them count
one-more : (f : Event → ℕ) (all front : List Event) (e : Event) (rest : List Event) (most : ℕ) → all ≡ front ++ e ∷ rest → sum_by f all ≤ most → sum_by f front + f e ≤ most
one-more f all front e rest most is few =
    let whole = ap (λ (events : List Event). sum_by f events) is in
    let both = sum_by-append f front (e ∷ rest) in
    let one = sum_by-cons f e rest in
    omega (arith, whole, both, one, few)

-- what is played before an event of a script that is still to come
record Before (script : Script) (front : List Event) (p : Routed) : Type 0 where
  issued : HaveIssued script front p.state
  sum : p.events ≡ sum_by (half_count_of (numbers_of script.ends)) front

line-next : (script : Script) (front : List Event) (e : Event) (rest : List Event) (p : Routed) → IsRoutePlayable script → script.events ≡ front ++ e ∷ rest → Before script front p → IsOfLine (numbers_of script.ends) e → IsNext p e
line-next script front e rest p h is before of_line =
    let numbers = the-numbers script front p.state before.issued in
    let count = issued-count M (plan_of_m script) front p.state.master.host.inner before.issued.master in
    let few = one-more (λ (x : Event). cond (is_issue_of M x) 1 0) script.events front e rest 65535 is h.commands in
    let within = one-more (half_count_of (numbers_of script.ends)) script.events front e rest 5000000 is h.sum in
    let weight = ap (λ (ns : List ℕ). half_count_of ns e) numbers in
    let sum = before.sum in
    of_line.next p (record {
      possible = subst (λ (ns : List ℕ). IsHalfPossible ns e) (sym numbers) of_line.possible;
      unspent = of_line.unspent p.state.master (omega (arith, count, few));
      sum = omega (arith, weight, within, sum);
    })

-- the node of the station has a command left
station-next : (script : Script) (front : List Event) (number : ℕ) (src : Option ℕ) (dst : ℕ) (payload : List ℕ) (rest : List Event) (p : Routed) → IsRoutePlayable script → script.events ≡ front ++ event.Issue (S number) src dst payload ∷ rest
    → Before script front p → IsTrue (is_declared (numbers_of script.ends) number) → IsTrue (is_payload payload) → IsNext p (event.Issue (S number) src dst payload)
station-next script front number src dst payload rest p h is before declared fits =
    let e = event.Issue (S number) src dst payload in
    let stations = p.state.stations in
    let numbers = the-numbers script front p.state before.issued in
    let found = station-at stations number (ap (λ (ns : List ℕ). is_declared ns number) numbers ∙ declared) in
    let side = found.1 in
    let of = zip-at (IsStationOf front) (station_plans script.ends) stations found.0 side before.issued.stations found.3 in
    let named : of.0.node ≡ number = sym of.2.number ∙ found.4 in
    let count = issued-count (S of.0.node) of.0 front side.slave.host of.2.issued ∙ ap (λ (n : ℕ). count_by (is_issue_of (S n)) front) named in
    let here : slice_get (numbers_of script.ends) found.0 ≡ Some number = ap (λ (ns : List ℕ). slice_get ns found.0) (sym numbers) ∙ number-at stations found.0 side found.3 ∙ ap Some found.4 in
    let most = all-at (λ (n : ℕ). count_by (is_issue_of (S n)) script.events ≤ 65535) (numbers_of script.ends) found.0 number h.commands_of_stations here in
    let few = one-more (λ (x : Event). cond (is_issue_of (S number) x) 1 0) script.events front e rest 65535 is most in
    let within = one-more (half_count_of (numbers_of script.ends)) script.events front e rest 5000000 is h.sum in
    let own : ◌≡◌ {A = ℕ} (cond (is_issue_of (S number) e) 1 0) 1 = ap (λ (b : Bool). cond b 1 0) (eq-eqb number number refl) in
    let sum = before.sum in
    let unspent : issue_fault side.slave.host.initiator payload ≡ None = payload-issues side.slave.host.initiator payload fits (omega (arith, count, few, own)) in
    let initiator : initiator_at stations (place_of stations number) ≡ Some side.slave.host.initiator =
    ap (λ (o : Option ℕ). initiator_at stations o) found.2 ∙ ap (λ (o : Option LineStationState). option_map (λ (s : LineStationState). s.slave.host.initiator) o) found.3 in
    record {
      unspent = subst (λ (o : Option InitiatorState). IfSome o (λ i. issue_fault i payload ≡ None)) (sym initiator) unspent;
      sum = omega (arith, within, sum);
    }

next-by : (script : Script) (front : List Event) (e : Event) (rest : List Event) (p : Routed) → IsRoutePlayable script → script.events ≡ front ++ e ∷ rest → Before script front p → Kind (numbers_of script.ends) e → IsNext p e
next-by script front e rest p h is before (OfLine of_line) = line-next script front e rest p h is before of_line
next-by script front _ rest p h is before (OfStation number src dst payload declared fits) = station-next script front number src dst payload rest p h is before declared fits

-- the sum grows by what the event counts
sum-after : (script : Script) (front : List Event) (e : Event) (p : Routed) → Before script front p → Kind (numbers_of script.ends) e → (after_event p e).events ≡ sum_by (half_count_of (numbers_of script.ends)) (front ++ e ∷ [])
sum-after script front e p before (OfLine of_line) =
    let numbers = the-numbers script front p.state before.issued in
    let weight = ap (λ (ns : List ℕ). half_count_of ns e) numbers in
    let after = ap (λ (q : Routed). q.events) (of_line.after p) in
    let all = sum_by-append (half_count_of (numbers_of script.ends)) front (e ∷ []) in
    let one = sum_by-cons (half_count_of (numbers_of script.ends)) e [] in
    let sum = before.sum in
    omega (arith, weight, after, all, one, sum)
sum-after script front _ p before (OfStation number src dst payload declared fits) =
    let all = sum_by-append (half_count_of (numbers_of script.ends)) front (event.Issue (S number) src dst payload ∷ []) in
    let sum = before.sum in
    omega (arith, all, sum)

all-after : (script : Script) (rest front : List Event) (p : Routed) → IsRoutePlayable script → script.events ≡ front ++ rest → All (IsRoutePossible (numbers_of script.ends) (node_of_master script.ends)) rest → Before script front p → AreNext p rest
all-after script [] front p h is possible before = tt
all-after script (e ∷ rest) front p h is possible before =
    let may : Event → Type 0 = IsRoutePossible (numbers_of script.ends) (node_of_master script.ends) in
    let kind = kind-of (numbers_of script.ends) (node_of_master script.ends) e (All-head may e rest possible) in (
      next-by script front e rest p h is before kind,
      all-after script rest (front ++ e ∷ []) (after_event p e) h (is ∙ sym (append_assoc front (e ∷ []) rest)) (All-tail may e rest possible)
          (record { issued = event-issued script h.ends front p e kind before.issued; sum = sum-after script front e p before kind }),
    )

-- all events of a script may happen
pub all-next : (script : Script) → IsRoutePlayable script → AreNext (begun script) script.events
all-next script h = all-after script script.events [] (begun script) h refl h.events (record { issued = first-issued script; sum = refl })
