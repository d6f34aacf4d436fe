-- In every run the master's commands are those that the script issues; so at each event, over any host that keeps its node's commands.
use Rattle.std.proofs.Common.{◌≡◌, ◌∙◌, ℕ, ◌+◌, zero, suc, List, [], ◌∷◌, ◌++◌, map, length, Option, Some, None, refl, ap, sym, subst, append-nil, append_assoc, length-append, arith}
use Rattle.std.specs.Prelude.{replicate, slice_get, unwrap_or}
use Rattle.std.proofs.lemmas.List.{length-map}
use Rattle.std.proofs.lemmas.List.Elements.{filter_map-append}
use Rattle.df1_node.specs.Initiator.{InitiatorState, Issued}
use Rattle.df1_node.specs.Node.{NodeState, after_node_issue}
use Rattle.half_master.specs.Master.{MasterState, master_after_byte, master_after_tick, master_after_take}
use Rattle.half_master.proofs.HostSteps.{Keeps, byte-keeps, tick-keeps, take-keeps}
use Rattle.script_parts.specs.declared.script.Event.{Event}
use Rattle.script_parts.specs.declared.script.Event.TheVariants as event
use Rattle.script_parts.specs.declared.script.Script.{Script}
use Rattle.lane_cells.specs.Cells.{LaneCell}
use Rattle.each_once.specs.Commands.{Request}
use Rattle.each_once.proofs.IssuedCommands.{SameCommands, same-itself, same-both, same-accept, same-told, same-tick, same-next, AreIssued, issued-same, issued-more}
use Rattle.half_line.specs.Behind.{Behind, plain_node}
use Rattle.half_line.specs.declared.way.Way.{Way}
use Rattle.half_line.specs.declared.way.Way.TheVariants.{ToStation, ToMaster}
use Rattle.half_line.specs.Acts.{LineStationState, HalfState, LinkState, MasterDeed, Issue, Give, Tick, LinkDeed, StationGives, OnLane, moved, after_arrival, after_link_deed}
use Rattle.half_line.specs.Steps.{UnitStep, AtMaster, AtStation, link_of, after_with, after_step, after_steps}
use Rattle.half_line.specs.Run.{plan_of_m, place_of, station_at, master_deeds, link_deeds, steps_with, steps_at, steps_of, start, after_event, state_after, last_state}
use Rattle.half_line.specs.Issues.{request_at, requests_in}
use Rattle.half_line.specs.Plays.{issued_by}

-- the commands of the node within
abbrev initiator_of : {H : Type 0} → Behind H → MasterState H → InitiatorState
initiator_of h m = (h.node m.host).initiator

-- ---- what leaves the commands as they are

-- each call of the host leaves the commands of the node within as they are, and the node that is put in is the one within
pub record KeepsCommands {H : Type 0} (h : Behind H) : Type 0 where
  pub calls : Keeps h.host (λ (host later : H). SameCommands (h.node host).initiator (h.node later).initiator)
  pub put : (host : H) (node : NodeState) → h.node (h.with_node host node) ≡ node

plain-keeps : KeepsCommands plain_node
plain-keeps = record {
  calls = record {
    same = λ host. same-itself host.initiator;
    both = λ host later last. same-both host.initiator later.initiator last.initiator;
    accept = same-accept;
    told = λ host what. same-told what host;
    next = same-next;
    tick = same-tick;
  };
  put = λ host node. refl;
}

same-byte : {H : Type 0} (h : Behind H) → KeepsCommands h → (m : MasterState H) (b : ℕ) → SameCommands (initiator_of h m) (initiator_of h (master_after_byte h.host m b))
same-byte h k m b = byte-keeps h.host _ k.calls m b

same-at-tick : {H : Type 0} (h : Behind H) → KeepsCommands h → (m : MasterState H) → SameCommands (initiator_of h m) (initiator_of h (master_after_tick h.host m))
same-at-tick h k m = tick-keeps h.host _ k.calls m

same-take : {H : Type 0} (h : Behind H) → KeepsCommands h → (m : MasterState H) → SameCommands (initiator_of h m) (initiator_of h (master_after_take h.host m))
same-take h k m = take-keeps h.host _ k.calls m

-- ---- unit steps

same-arrival : {H : Type 0} (h : Behind H) → KeepsCommands h → (way : Way) (s : LinkState H) (cell : Option LaneCell) → SameCommands (initiator_of h s.master) (initiator_of h (after_arrival h way s cell).master)
same-arrival h k way s None = same-itself (initiator_of h s.master)
same-arrival h k ToStation s (Some cell) = same-itself (initiator_of h s.master)
same-arrival h k ToMaster s (Some cell) = same-byte h k s.master cell.byte

same-link : {H : Type 0} (h : Behind H) → KeepsCommands h → (s : LinkState H) (deed : LinkDeed) → SameCommands (initiator_of h s.master) (initiator_of h (after_link_deed h s deed).master)
same-link h k s StationGives = same-itself (initiator_of h s.master)
same-link h k s (OnLane way deed) = same-arrival h k way (moved way s deed) _

same-with : {H : Type 0} (h : Behind H) → KeepsCommands h → (s : HalfState H) (place : ℕ) (deed : LinkDeed) (o : Option LineStationState) → SameCommands (initiator_of h s.master) (initiator_of h (after_with h s place deed o).master)
same-with h k s place deed None = same-itself (initiator_of h s.master)
same-with h k s place deed (Some side) = same-link h k (link_of s side) deed

-- what is issued at a unit step of a master of this address
abbrev requests_of : ℕ → UnitStep → List Request
requests_of node (AtMaster (Issue src dst payload)) = record { src = unwrap_or src node; dst = dst; payload = payload } ∷ []
requests_of node (AtMaster Give) = []
requests_of node (AtMaster Tick) = []
requests_of node (AtStation place deed) = []

issued-step : {H : Type 0} (h : Behind H) → KeepsCommands h → (node tns : ℕ) (requests : List Request) (s : HalfState H) (step : UnitStep) → AreIssued node tns requests (initiator_of h s.master)
    → AreIssued node tns (requests ++ requests_of node step) (initiator_of h (after_step h s step).master)
issued-step h k node tns requests s (AtMaster (Issue src dst payload)) i =
    let was : NodeState = h.node s.master.host in
    let now : NodeState = after_node_issue was (unwrap_or src was.initiator.node) dst payload in
    let more = issued-more node tns requests was.initiator (unwrap_or src was.initiator.node) dst payload i in
    subst (λ (n : NodeState). AreIssued node tns (requests ++ record { src = unwrap_or src node; dst = dst; payload = payload } ∷ []) n.initiator) (sym (k.put s.master.host now))
    (subst (λ (own : ℕ). AreIssued node tns (requests ++ record { src = unwrap_or src own; dst = dst; payload = payload } ∷ []) now.initiator) i.node_is more)
issued-step h k node tns requests s (AtMaster Give) i = rw (append-nil requests) (issued-same node tns requests (initiator_of h s.master) _ (same-take h k s.master) i)
issued-step h k node tns requests s (AtMaster Tick) i = rw (append-nil requests) (issued-same node tns requests (initiator_of h s.master) _ (same-at-tick h k s.master) i)
issued-step h k node tns requests s (AtStation place deed) i = rw (append-nil requests) (issued-same node tns requests (initiator_of h s.master) _ (same-with h k s place deed (slice_get s.stations place)) i)

abbrev requests_over : ℕ → List UnitStep → List Request
requests_over node [] = []
requests_over node (step ∷ steps) = requests_of node step ++ requests_over node steps

issued-steps : {H : Type 0} (h : Behind H) → KeepsCommands h → (node tns : ℕ) (steps : List UnitStep) (requests : List Request) (s : HalfState H) → AreIssued node tns requests (initiator_of h s.master)
    → AreIssued node tns (requests ++ requests_over node steps) (initiator_of h (after_steps h s steps).master)
issued-steps h k node tns [] requests s i = rw (append-nil requests) i
issued-steps h k node tns (step ∷ steps) requests s i =
    subst (λ (all : List Request). AreIssued node tns all (initiator_of h (after_steps h (after_step h s step) steps).master)) (append_assoc requests (requests_of node step) (requests_over node steps))
    (issued-steps h k node tns steps (requests ++ requests_of node step) (after_step h s step) (issued-step h k node tns requests s step i))

-- ---- events

none-master : (node : ℕ) (deed : MasterDeed) → requests_of node (AtMaster deed) ≡ [] → (n : ℕ) → requests_over node (map AtMaster (replicate n deed)) ≡ []
none-master node deed none zero = refl
none-master node deed none (suc n) = ap (λ (rs : List Request). rs ++ requests_over node (map AtMaster (replicate n deed))) none ∙ none-master node deed none n

none-station : (node place : ℕ) (deeds : List LinkDeed) → requests_over node (map (AtStation place) deeds) ≡ []
none-station node place [] = refl
none-station node place (deed ∷ deeds) = none-station node place deeds

none-with : (node : ℕ) (place : Option ℕ) (deeds : List LinkDeed) → requests_over node (steps_with place deeds) ≡ []
none-with node None deeds = refl
none-with node (Some place) deeds = none-station node place deeds

none-take : (node : ℕ) (stations : List LineStationState) (e : Event) (n : ℕ) (number : Option ℕ) → master_deeds e ≡ replicate n Give → requests_over node (steps_at stations number e) ≡ []
none-take node stations e n None is = ap (λ (deeds : List MasterDeed). requests_over node (map AtMaster deeds)) is ∙ none-master node Give refl n
none-take node stations e n (Some number) is = none-with node (place_of stations number) (link_deeds e)

requests-event : {H : Type 0} (node : ℕ) (s : HalfState H) (e : Event) → requests_over node (steps_of s e) ≡ requests_in node (e ∷ [])
requests-event node s (event.Issue by src dst payload) = refl
requests-event node s (event.Take who n) = none-take node s.stations (event.Take who n) n (station_at (event.Take who n)) refl
requests-event node s (event.Deliver lane n) = none-take node s.stations (event.Deliver lane n) 0 (station_at (event.Deliver lane n)) refl
requests-event node s (event.Lose lane n) = none-take node s.stations (event.Lose lane n) 0 (station_at (event.Lose lane n)) refl
requests-event node s (event.Alter lane mask) = none-take node s.stations (event.Alter lane mask) 0 (station_at (event.Alter lane mask)) refl
requests-event node s (event.Foreign lane bytes) = none-take node s.stations (event.Foreign lane bytes) 0 (station_at (event.Foreign lane bytes)) refl
requests-event node s (event.Tick who n) = none-master node Tick refl n

pub issued-event : {H : Type 0} (h : Behind H) → KeepsCommands h → (node tns : ℕ) (requests : List Request) (s : HalfState H) (e : Event) → AreIssued node tns requests (initiator_of h s.master)
    → AreIssued node tns (requests ++ requests_in node (e ∷ [])) (initiator_of h (after_event h s e).master)
issued-event h k node tns requests s e i =
    subst (λ (more : List Request). AreIssued node tns (requests ++ more) (initiator_of h (after_event h s e).master)) (requests-event node s e) (issued-steps h k node tns (steps_of s e) requests s i)

issued-events : (node tns : ℕ) (events : List Event) (requests : List Request) (s : HalfState NodeState) → AreIssued node tns requests s.master.host.initiator → AreIssued node tns (requests ++ requests_in node events) (state_after plain_node s events).master.host.initiator
issued-events node tns [] requests s i = rw (append-nil requests) i
issued-events node tns (e ∷ events) requests s i =
    let all : (requests ++ requests_in node (e ∷ [])) ++ requests_in node events ≡ requests ++ requests_in node (e ∷ events) =
    append_assoc requests (requests_in node (e ∷ [])) (requests_in node events) ∙ ap (λ (rs : List Request). requests ++ rs) (sym (filter_map-append (request_at node) (e ∷ []) events)) in
    subst (λ (rs : List Request). AreIssued node tns rs (state_after plain_node (after_event plain_node s e) events).master.host.initiator) all
    (issued-events node tns events (requests ++ requests_in node (e ∷ [])) (after_event plain_node s e) (issued-event plain_node plain-keeps node tns requests s e i))

pub issued-run : (script : Script) → AreIssued (plan_of_m script).node (plan_of_m script).tns (requests_in (plan_of_m script).node script.events) (last_state script).master.host.initiator
issued-run script = issued-events (plan_of_m script).node (plan_of_m script).tns script.events [] (start script) (record { node_is = refl; tns_is = refl; bodies = refl })

-- ---- how many commands there are

-- as many as bodies
count-same : (s t : InitiatorState) → SameCommands s t → length t.issued ≡ length s.issued
count-same s t same = sym (length-map t.issued (λ (c : Issued). c.body)) ∙ ap length same.bodies ∙ length-map s.issued (λ (c : Issued). c.body)

count-step : (node : ℕ) (s : HalfState NodeState) (step : UnitStep) → issued_by plain_node (after_step plain_node s step).master ≡ issued_by plain_node s.master + length (requests_of node step)
count-step node s (AtMaster (Issue src dst payload)) = length-append s.master.host.initiator.issued _
count-step node s (AtMaster Give) = let same = count-same s.master.host.initiator _ (same-take plain_node plain-keeps s.master) in omega (arith, same)
count-step node s (AtMaster Tick) = let same = count-same s.master.host.initiator _ (same-at-tick plain_node plain-keeps s.master) in omega (arith, same)
count-step node s (AtStation place deed) = let same = count-same s.master.host.initiator _ (same-with plain_node plain-keeps s place deed (slice_get s.stations place)) in omega (arith, same)

count-steps : (node : ℕ) (steps : List UnitStep) (s : HalfState NodeState) → issued_by plain_node (after_steps plain_node s steps).master ≡ issued_by plain_node s.master + length (requests_over node steps)
count-steps node [] s = omega arith
count-steps node (step ∷ steps) s =
    let rest = count-steps node steps (after_step plain_node s step) in
    let now = count-step node s step in
    let both = length-append (requests_of node step) (requests_over node steps) in
    omega (arith, rest, now, both)

-- an event adds the commands that it issues
pub commands-of-m : (node : ℕ) (e : Event) (s : HalfState NodeState) → issued_by plain_node (after_event plain_node s e).master ≡ issued_by plain_node s.master + length (requests_in node (e ∷ []))
commands-of-m node e s = count-steps node (steps_of s e) s ∙ ap (λ (rs : List Request). issued_by plain_node s.master + length rs) (requests-event node s e)
