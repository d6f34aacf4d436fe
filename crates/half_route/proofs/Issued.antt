-- The commands that are issued at each end of a route's run: those of the script, whatever else happens.
use Rattle.std.proofs.Common.{◌≡◌, ◌∙◌, ℕ, ◌+◌, Bool, true, false, cond, List, [], ◌∷◌, ◌++◌, map, length, Option, Some, None, refl, ap, ap₂, sym, subst, append-nil, append_assoc, length-append, option_map, slice_get, ◌||◌, arith}
use Rattle.std.specs.Prelude.{All, IsTrue, count_by, ◌==◌, nat_eq, if◌then◌else◌}
use Rattle.std.specs.List.{AllZip, IsDistinct, cons_option, list_any}
use Rattle.std.proofs.lemmas.Bool.{eqb-true, eq-eqb}
use Rattle.std.proofs.lemmas.List.{length-map}
use Rattle.std.proofs.lemmas.List.Elements.{All-head, All-tail, filter_map-append}
use Rattle.std.proofs.lemmas.List.Sums.{sum_by-cons}
use Rattle.std.proofs.lemmas.Option.{slice_get-map}
use Rattle.df1_check.specs.declared.Check.{Check}
use Rattle.df1_node.specs.Initiator.{InitiatorState, Issued}
use Rattle.df1_node.specs.Node.{NodeState}
use Rattle.station_router.specs.Router.{RouterState}
use Rattle.script_statement.specs.declared.who.Who.{Who}
use Rattle.script_statement.specs.declared.who.Who.TheVariants.{M, S}
use Rattle.script_parts.specs.declared.script.EndPlan.{EndPlan}
use Rattle.script_parts.specs.declared.script.Event.{Event}
use Rattle.script_parts.specs.declared.script.Event.TheVariants as event
use Rattle.script_parts.specs.declared.script.Script.{Script}
use Rattle.script_parts.specs.HalfPlayable.{AreHalfEnds, is_declared, numbers_of, station_plans}
use Rattle.script_parts.specs.RoutePlayable.{IsRoutePlayable, IsRoutePossible, is_issue_of, is_same_half_end, node_of_master}
use Rattle.each_once.specs.Commands.{Request, command_bodies}
use Rattle.each_once.proofs.IssuedCommands.{AreIssued, issued-same, issued-more}
use Rattle.half_line.specs.Behind.{routed_node}
use Rattle.half_line.specs.Acts.{LineStationState, HalfState, Issue, Give, Tick, LinkDeed, joined, cells_given, after_link_deed}
use Rattle.half_line.specs.Steps.{UnitStep, AtMaster, AtStation, link_of, after_with, after_step, after_steps}
use Rattle.half_line.specs.Run.{first_side, place_of, plan_of_m, steps_of}
use Rattle.half_line.specs.Run as line
use Rattle.half_line.specs.Plays.{issued_at, issued_with, numbers_at, side_issued, stations_issued}
use Rattle.half_line.proofs.Once.MasterCommands.{issued-event}
use Rattle.half_line.proofs.Once.Places.{not-equal, one-place}
use Rattle.half_route.specs.Run.{Routed, after_event, after_events, begun, whole_run}
use Rattle.half_route.specs.Once.{request_at}
use Rattle.half_route.proofs.AlongPlans.{zip-map, zip-each, zip-set}
use Rattle.half_route.proofs.EventKinds.{IsOfLine, Kind, OfLine, OfStation, kind-of, requests_in}
use Rattle.half_route.proofs.FirstPlace.{first-place}
use Rattle.half_route.proofs.RoutedCommands.{routed-keeps}
use Rattle.half_route.proofs.StationCommands.{SameStation, same-deed, same-station}

-- ---- what was issued

-- the commands of a node are those that these events issue at the end of this plan
abbrev pub HasIssued : Who → EndPlan → List Event → NodeState → Type 0
HasIssued who plan events node = AreIssued plan.node plan.tns (requests_in who plan.node events) node.initiator

-- the station of a plan, whose node has issued what these events tell
pub record IsStationOf (events : List Event) (plan : EndPlan) (side : LineStationState) : Type 0 where
  pub number : side.number ≡ plan.node
  pub issued : HasIssued (S plan.node) plan events side.slave.host

-- the node of each end has issued what these events of a script tell
pub record HaveIssued (script : Script) (events : List Event) (s : HalfState (RouterState NodeState)) : Type 0 where
  pub master : HasIssued M (plan_of_m script) events s.master.host.inner
  pub stations : AllZip (IsStationOf events) (station_plans script.ends) s.stations

-- an event more
more-requests : (who : Who) (node : ℕ) (events : List Event) (e : Event) → requests_in who node events ++ requests_in who node (e ∷ []) ≡ requests_in who node (events ++ e ∷ [])
more-requests who node events e = sym (filter_map-append (request_at who node) events (e ∷ []))

-- at which this end issues nothing
none-more : (who : Who) (plan : EndPlan) (events : List Event) (e : Event) (node : NodeState) → requests_in who plan.node (e ∷ []) ≡ [] → HasIssued who plan events node → HasIssued who plan (events ++ e ∷ []) node
none-more who plan events e node none i =
    let same : requests_in who plan.node events ≡ requests_in who plan.node (events ++ e ∷ []) =
    sym (append-nil (requests_in who plan.node events)) ∙ ap (λ (rs : List Request). requests_in who plan.node events ++ rs) (sym none) ∙ more-requests who plan.node events e in
    subst (λ (rs : List Request). AreIssued plan.node plan.tns rs node.initiator) same i

none-at : (events : List Event) (e : Event) (plan : EndPlan) (side : LineStationState) → requests_in (S plan.node) plan.node (e ∷ []) ≡ [] → IsStationOf events plan side → IsStationOf (events ++ e ∷ []) plan side
none-at events e plan side none i = record { number = i.number; issued = none-more (S plan.node) plan events e side.slave.host none i.issued }

-- ---- the first state

first-stations : (check : Check) (plans : List EndPlan) → AllZip (IsStationOf []) plans (map (first_side check) plans)
first-stations check [] = tt
first-stations check (plan ∷ plans) = (record { number = refl; issued = record { node_is = refl; tns_is = refl; bodies = refl } }, first-stations check plans)

pub first-issued : (script : Script) → HaveIssued script [] (begun script).state
first-issued script = record { master = record { node_is = refl; tns_is = refl; bodies = refl }; stations = first-stations script.check (station_plans script.ends) }

-- ---- the numbers of the stations

-- they are those of the plans
zip-numbers : (events : List Event) (plans : List EndPlan) (stations : List LineStationState) → AllZip (IsStationOf events) plans stations → numbers_at stations ≡ map (λ (plan : EndPlan). plan.node) plans
zip-numbers events [] [] all = refl
zip-numbers events [] (side ∷ stations) all = absurd all
zip-numbers events (plan ∷ plans) [] all = absurd all
zip-numbers events (plan ∷ plans) (side ∷ stations) all = ap₂ (λ (n : ℕ) (ns : List ℕ). n ∷ ns) all.0.number (zip-numbers events plans stations all.1)

pub the-numbers : (script : Script) (events : List Event) (s : HalfState (RouterState NodeState)) → HaveIssued script events s → numbers_at s.stations ≡ numbers_of script.ends
the-numbers script events s i = zip-numbers events (station_plans script.ends) s.stations i.stations

-- ---- unit steps leave the commands of the stations as they are

side-same : (events : List Event) (plan : EndPlan) (was now : LineStationState) → SameStation was now → IsStationOf events plan was → IsStationOf events plan now
side-same events plan was now same i = record {
  number = same.number ∙ i.number;
  issued = issued-same plan.node plan.tns (requests_in (S plan.node) plan.node events) was.slave.host.initiator now.slave.host.initiator same.commands i.issued;
}

module _ (events : List Event) (plans : List EndPlan) where
  with-stations : (s : HalfState (RouterState NodeState)) (place : ℕ) (deed : LinkDeed) (o : Option LineStationState) → slice_get s.stations place ≡ o → AllZip (IsStationOf events) plans s.stations
      → AllZip (IsStationOf events) plans (after_with routed_node s place deed o).stations
  with-stations s place deed None is all = all
  with-stations s place deed (Some side) is all =
      let now = (after_link_deed routed_node (link_of s side) deed).side in
      zip-set (IsStationOf events) (IsStationOf events) plans s.stations place side now is (λ plan. side-same events plan side now (same-deed routed_node (link_of s side) deed)) (λ other plan y differ at i. i) all

  step-stations : (s : HalfState (RouterState NodeState)) (step : UnitStep) → AllZip (IsStationOf events) plans s.stations → AllZip (IsStationOf events) plans (after_step routed_node s step).stations
  step-stations s (AtMaster (Issue src dst payload)) all = all
  step-stations s (AtMaster Give) all =
      zip-map (IsStationOf events) (joined (cells_given routed_node s.master)) plans s.stations
      (λ plan side i. side-same events plan side (joined (cells_given routed_node s.master) side) (record { number = refl; commands = (same-station side).commands }) i) all
  step-stations s (AtMaster Tick) all = all
  step-stations s (AtStation place deed) all = with-stations s place deed (slice_get s.stations place) refl all

  steps-stations : (steps : List UnitStep) (s : HalfState (RouterState NodeState)) → AllZip (IsStationOf events) plans s.stations → AllZip (IsStationOf events) plans (after_steps routed_node s steps).stations
  steps-stations [] s all = all
  steps-stations (step ∷ steps) s all = steps-stations steps (after_step routed_node s step) (step-stations s step all)

-- ---- an event of every half-duplex line

line-issued : (script : Script) (numbers : List ℕ) (events : List Event) (s : HalfState (RouterState NodeState)) (e : Event) → IsOfLine numbers e → HaveIssued script events s → HaveIssued script (events ++ e ∷ []) (line.after_event routed_node s e)
line-issued script numbers events s e of_line i =
    let plan : EndPlan = plan_of_m script in
    let after : HalfState (RouterState NodeState) = line.after_event routed_node s e in
    let more = issued-event routed_node routed-keeps plan.node plan.tns (requests_in M plan.node events) s e i.master in
    let all = ap (λ (rs : List Request). requests_in M plan.node events ++ rs) (of_line.own plan.node) ∙ more-requests M plan.node events e in
    record {
      master = subst (λ (rs : List Request). AreIssued plan.node plan.tns rs after.master.host.inner.initiator) all more;
      stations = zip-each (IsStationOf events) (IsStationOf (events ++ e ∷ [])) (station_plans script.ends) after.stations (λ place p side is. none-at events e p side (of_line.none p.node p.node))
          (steps-stations events (station_plans script.ends) (steps_of s e) s i.stations);
    }

-- ---- a station issues a command

distinct : (ends : List EndPlan) → AreHalfEnds ends → IsDistinct nat_eq (numbers_of ends)
distinct [] h = absurd h
distinct (master ∷ stations) h = h.2.distinct

-- the number at a place
pub number-at : (stations : List LineStationState) (place : ℕ) (side : LineStationState) → slice_get stations place ≡ Some side → slice_get (numbers_at stations) place ≡ Some side.number
number-at stations place side is = slice_get-map (λ (s : LineStationState). s.number) stations place ∙ ap (λ (o : Option LineStationState). option_map (λ (s : LineStationState). s.number) o) is

-- a station of this number is among these
among : (stations : List LineStationState) (number : ℕ) → is_declared (numbers_at stations) number ≡ list_any (λ (side : LineStationState). side.number == number) stations
among [] number = refl
among (side ∷ stations) number = ap (λ (b : Bool). (side.number == number) || b) (among stations number)

-- the first of them
pub station-at : (stations : List LineStationState) (number : ℕ) → IsTrue (is_declared (numbers_at stations) number)
    → (place : ℕ) × (side : LineStationState) × (place_of stations number ≡ Some place) × (slice_get stations place ≡ Some side) × (side.number ≡ number)
station-at stations number declared =
    let found = first-place (λ (side : LineStationState). side.number == number) stations (sym (among stations number) ∙ declared) in
    (found.0, found.1, found.2, found.3, eqb-true found.1.number number found.4)

-- what an end issues at a command that another end issues, or it itself
issues : (who by : Who) (node : ℕ) (src : Option ℕ) (dst : ℕ) (payload : List ℕ) (same : Bool) → is_same_half_end who by ≡ same
    → requests_in who node (event.Issue by src dst payload ∷ []) ≡ (if same then record { src = node; dst = dst; payload = payload } ∷ [] else [])
issues who by node src dst payload true is = ap (λ (b : Bool). cons_option (if b then Some (record { src = node; dst = dst; payload = payload }) else None) []) is
issues who by node src dst payload false is = ap (λ (b : Bool). cons_option (if b then Some (record { src = node; dst = dst; payload = payload }) else None) []) is

-- the station that issues it
issues-here : (events : List Event) (plan : EndPlan) (side : LineStationState) (number : ℕ) (src : Option ℕ) (dst : ℕ) (payload : List ℕ) → side.number ≡ number → IsStationOf events plan side
    → IsStationOf (events ++ event.Issue (S number) src dst payload ∷ []) plan (side_issued side dst payload)
issues-here events plan side number src dst payload own i =
    let e = event.Issue (S number) src dst payload in
    let before : List Request = requests_in (S plan.node) plan.node events in
    let was : InitiatorState = side.slave.host.initiator in
    let now : InitiatorState = (side_issued side dst payload).slave.host.initiator in
    let more = issued-more plan.node plan.tns before was was.node dst payload i.issued in
    let named : AreIssued plan.node plan.tns (before ++ record { src = plan.node; dst = dst; payload = payload } ∷ []) now =
    subst (λ (node : ℕ). AreIssued plan.node plan.tns (before ++ record { src = node; dst = dst; payload = payload } ∷ []) now) i.issued.node_is more in
    let here = issues (S plan.node) (S number) plan.node src dst payload true (eq-eqb plan.node number (sym i.number ∙ own)) in
    let all = ap (λ (rs : List Request). before ++ rs) (sym here) ∙ more-requests (S plan.node) plan.node events e in
    record { number = i.number; issued = subst (λ (rs : List Request). AreIssued plan.node plan.tns rs now) all named }

-- its node issues it as the script tells, and no other node issues one
station-issued : (script : Script) → AreHalfEnds script.ends → (events : List Event) (p : Routed) (number : ℕ) (src : Option ℕ) (dst : ℕ) (payload : List ℕ) → IsTrue (is_declared (numbers_of script.ends) number) → HaveIssued script events p.state
    → HaveIssued script (events ++ event.Issue (S number) src dst payload ∷ []) (issued_at p number dst payload).state
station-issued script ends events p number src dst payload declared i =
    let stations = p.state.stations in
    let plans = station_plans script.ends in
    let e = event.Issue (S number) src dst payload in
    let numbers = the-numbers script events p.state i in
    let found = station-at stations number (ap (λ (ns : List ℕ). is_declared ns number) numbers ∙ declared) in
    let place = found.0 in
    let side = found.1 in
    let becomes = ap (λ (o : Option ℕ). stations_issued stations o dst payload) found.2 ∙ ap (λ (o : Option LineStationState). issued_with stations place dst payload o) found.3 in
    let differ = subst (λ (ns : List ℕ). IsDistinct nat_eq ns) (sym numbers) (distinct script.ends ends) in
    let here = number-at stations place side found.3 ∙ ap Some found.4 in
    record {
      master = none-more M (plan_of_m script) events e p.state.master.host.inner refl i.master;
      stations = subst (λ (sides : List LineStationState). AllZip (IsStationOf (events ++ e ∷ [])) plans sides) (sym becomes)
          (zip-set (IsStationOf events) (IsStationOf (events ++ e ∷ [])) plans stations place side (side_issued side dst payload) found.3 (λ plan. issues-here events plan side number src dst payload found.4)
          (λ other plan y apart is r.
          let another = not-equal (plan.node == number) (λ same. apart (one-place (numbers_at stations) other place number differ (number-at stations other y is ∙ ap Some (r.number ∙ eqb-true plan.node number same)) here)) in
          none-at events e plan y (issues (S plan.node) (S number) plan.node src dst payload false another) r)
          i.stations);
    }

-- ---- all events

pub event-issued : (script : Script) → AreHalfEnds script.ends → (events : List Event) (p : Routed) (e : Event) → Kind (numbers_of script.ends) e → HaveIssued script events p.state → HaveIssued script (events ++ e ∷ []) (after_event p e).state
event-issued script ends events p e (OfLine of_line) i =
    subst (λ (q : Routed). HaveIssued script (events ++ e ∷ []) q.state) (sym (of_line.after p)) (line-issued script (numbers_of script.ends) events p.state e of_line i)
event-issued script ends events p _ (OfStation number src dst payload declared fits) i = station-issued script ends events p number src dst payload declared i

events-issued : (script : Script) → AreHalfEnds script.ends → (rest events : List Event) (p : Routed) → All (IsRoutePossible (numbers_of script.ends) (node_of_master script.ends)) rest → HaveIssued script events p.state
    → HaveIssued script (events ++ rest) (after_events p rest).state
events-issued script ends [] events p possible i = subst (λ (all : List Event). HaveIssued script all p.state) (sym (append-nil events)) i
events-issued script ends (e ∷ rest) events p possible i =
    let may : Event → Type 0 = IsRoutePossible (numbers_of script.ends) (node_of_master script.ends) in
    let kind = kind-of (numbers_of script.ends) (node_of_master script.ends) e (All-head may e rest possible) in
    subst (λ (all : List Event). HaveIssued script all (after_events (after_event p e) rest).state) (append_assoc events (e ∷ []) rest)
    (events-issued script ends rest (events ++ e ∷ []) (after_event p e) (All-tail may e rest possible) (event-issued script ends events p e kind i))

-- after the run of a script the node of each end has issued what the script tells
pub run-issued : (script : Script) → IsRoutePlayable script → HaveIssued script script.events (whole_run script).state
run-issued script h = events-issued script h.ends script.events [] (begun script) h.events (first-issued script)

-- ---- how many commands there are

one-request : (same : Bool) (request : Request) → length (cons_option (if same then Some request else None) []) ≡ cond same 1 0
one-request true request = refl
one-request false request = refl

event-count : (who : Who) (node : ℕ) (e : Event) → length (requests_in who node (e ∷ [])) ≡ cond (is_issue_of who e) 1 0
event-count who node (event.Issue by src dst payload) = one-request (is_same_half_end who by) (record { src = node; dst = dst; payload = payload })
event-count who node (event.Take by n) = refl
event-count who node (event.Deliver lane n) = refl
event-count who node (event.Lose lane n) = refl
event-count who node (event.Alter lane mask) = refl
event-count who node (event.Foreign lane bytes) = refl
event-count who node (event.Tick by n) = refl

requests-count : (who : Who) (node : ℕ) (events : List Event) → length (requests_in who node events) ≡ count_by (is_issue_of who) events
requests-count who node [] = refl
requests-count who node (e ∷ events) =
    let both = ap (λ (rs : List Request). length rs) (filter_map-append (request_at who node) (e ∷ []) events) ∙ length-append (requests_in who node (e ∷ [])) (requests_in who node events) in
    let one = event-count who node e in
    let more = requests-count who node events in
    let sum = sum_by-cons (λ (x : Event). cond (is_issue_of who x) 1 0) e events in
    omega (arith, both, one, more, sum)

bodies-count : (tns : ℕ) (requests : List Request) → length (command_bodies tns requests) ≡ length requests
bodies-count tns [] = refl
bodies-count tns (request ∷ requests) = let more = bodies-count (tns + 1) requests in omega (arith, more)

-- as many as the events at which the end issues
pub issued-count : (who : Who) (plan : EndPlan) (events : List Event) (node : NodeState) → HasIssued who plan events node → length node.initiator.issued ≡ count_by (is_issue_of who) events
issued-count who plan events node i =
    sym (length-map node.initiator.issued (λ (c : Issued). c.body)) ∙ ap length i.bodies ∙ bodies-count plan.tns (requests_in who plan.node events) ∙ requests-count who plan.node events
