-- In every run: each end stands for the bytes that arrived at it, and hears a whole message exactly where its grammar does.
use Rattle.std.proofs.Common.{◌≡◌, ◌≢◌, ◌∙◌, ℕ, zero, suc, Bool, true, false, List, [], ◌∷◌, ◌++◌, Option, Some, None, refl, sym, ap, subst, append-nil, append_assoc, arith}
use Rattle.std.specs.Prelude.{◌==◌, slice_get, slice_set, if◌then◌else◌}
use Rattle.std.specs.Option.{option_map}
use Rattle.std.proofs.lemmas.List.{map-append}
use Rattle.std.proofs.lemmas.Option.{slice_get-map}
use Rattle.std.proofs.lemmas.Bool.Decides.{nat_tests}
use Rattle.df1_check.specs.declared.Check.{Check}
use Rattle.df1_node.specs.Node.{NodeState}
use Rattle.half_slave.specs.Arrived as slave
use Rattle.half_slave.specs.Slave.{slave_after_byte}
use Rattle.half_slave.proofs.Arriving as ear
use Rattle.half_master.specs.Arrived as master
use Rattle.half_master.specs.Master.{MasterState, master_after_byte}
use Rattle.half_master.proofs.EarLemmas as master_ear
use Rattle.half_master.proofs.Draining.{some-same}
use Rattle.script_parts.specs.declared.script.EndPlan.{EndPlan}
use Rattle.script_parts.specs.declared.script.Event.{Event}
use Rattle.script_parts.specs.declared.script.Script.{Script}
use Rattle.script_parts.specs.HalfPlayable.{station_plans, numbers_of}
use Rattle.outset.specs.Outset.{first_node}
use Rattle.lane_cells.specs.Cells.{LaneCell}
use Rattle.each_once.specs.NodeHost.{node_host}
use Rattle.half_line.specs.Behind.{plain_node}
use Rattle.half_line.specs.declared.way.Way.TheVariants.{ToStation, ToMaster}
use Rattle.half_line.specs.Acts.{LineStationState, HalfState, LinkState, link_state, MasterDeed, Issue, Give, Tick, LinkDeed, StationGives, OnLane, lane_after, arriving, step_of, joined, cells_given, master_after, after_arrival, after_link_deed}
use Rattle.half_line.specs.Steps.{UnitStep, AtMaster, AtStation, link_of, after_with, after_step, after_steps}
use Rattle.half_line.specs.Run.{master_setup, slave_setup, first_side, plan_of_m, start, steps_of, after_event, state_after}
use Rattle.half_line.specs.Arrivals.{station_arrived, station_arrivals, station_arrivals_with, station_arrivals_at, station_arrivals_over, station_arrivals_in, master_arrived, master_arrivals, master_arrivals_with, master_arrivals_at, master_arrivals_over, master_arrivals_in}
use Rattle.half_line.proofs.Steps.WholeLine.{get-set}

-- ---- a station

-- the station stands for what arrived, at which it heard whole messages by the grammar
pub record StationHears (check : Check) (arrivals : List slave.Arrival) (side : LineStationState) : Type 0 where
  pub stands : slave.StandsFor check (slave.bytes_arrived arrivals) side.slave
  pub heard : slave.HeardByGrammar check arrivals

station-cell : (check : Check) (arrivals : List slave.Arrival) (s : LinkState NodeState) (lane : List LaneCell) (cell : LaneCell) → StationHears check arrivals s.side
    → StationHears check (arrivals ++ station_arrived ToStation s (Some cell)) (after_arrival plain_node ToStation (link_state s.master (record s.side { to_it = lane }) s.deceived) (Some cell)).side
station-cell check arrivals s lane cell h =
    let last : slave.Arrival = record { byte = cell.byte; whole = (step_of plain_node ToStation s cell).whole; station = (step_of plain_node ToStation s cell).station } in
    record {
      stands = subst (λ (bytes : List ℕ). slave.StandsFor check bytes (slave_after_byte node_host s.side.slave cell.byte)) (sym (map-append (λ (a : slave.Arrival). a.byte) arrivals (last ∷ [])))
          (ear.stands-byte node_host s.side.slave cell.byte check (slave.bytes_arrived arrivals) h.stands);
      heard = ear.heard-more check arrivals last h.heard (ear.byte-tells node_host s.side.slave cell.byte check (slave.bytes_arrived arrivals) h.stands);
    }

station-arrival : (check : Check) (arrivals : List slave.Arrival) (s : LinkState NodeState) (lane : List LaneCell) (cell : Option LaneCell) → StationHears check arrivals s.side
    → StationHears check (arrivals ++ station_arrived ToStation s cell) (after_arrival plain_node ToStation (link_state s.master (record s.side { to_it = lane }) s.deceived) cell).side
station-arrival check arrivals s lane None h = rw (append-nil arrivals) (record { stands = h.stands; heard = h.heard })
station-arrival check arrivals s lane (Some cell) h = station-cell check arrivals s lane cell h

station-past : (check : Check) (arrivals : List slave.Arrival) (s : LinkState NodeState) (lane : List LaneCell) (cell : Option LaneCell) → StationHears check arrivals s.side
    → StationHears check arrivals (after_arrival plain_node ToMaster (link_state s.master (record s.side { from_it = lane }) s.deceived) cell).side
station-past check arrivals s lane None h = record { stands = h.stands; heard = h.heard }
station-past check arrivals s lane (Some cell) h = record { stands = h.stands; heard = h.heard }

station-deed : (check : Check) (arrivals : List slave.Arrival) (s : LinkState NodeState) (deed : LinkDeed) → StationHears check arrivals s.side → StationHears check (arrivals ++ station_arrivals s deed) (after_link_deed plain_node s deed).side
station-deed check arrivals s StationGives h = rw (append-nil arrivals) (record { stands = h.stands; heard = h.heard })
station-deed check arrivals s (OnLane ToStation deed) h = station-arrival check arrivals s (lane_after s.side.to_it deed) (arriving s.side.to_it deed) h
station-deed check arrivals s (OnLane ToMaster deed) h = rw (append-nil arrivals) (station-past check arrivals s (lane_after s.side.from_it deed) (arriving s.side.from_it deed) h)

-- ---- the master

pub record MasterHears (check : Check) (arrivals : List master.Arrival) (m : MasterState NodeState) : Type 0 where
  pub stands : master.StandsFor check (master.bytes_arrived arrivals) m
  pub heard : master.HeardByGrammar check arrivals

master-cell : (check : Check) (arrivals : List master.Arrival) (s : LinkState NodeState) (cell : LaneCell) → MasterHears check arrivals s.master → MasterHears check (arrivals ++ master_arrived ToMaster s (Some cell)) (master_after_byte node_host s.master cell.byte)
master-cell check arrivals s cell h =
    let last : master.Arrival = record { byte = cell.byte; whole = (step_of plain_node ToMaster s cell).whole } in
    record {
      stands = subst (λ (bytes : List ℕ). master.StandsFor check bytes (master_after_byte node_host s.master cell.byte)) (sym (map-append (λ (a : master.Arrival). a.byte) arrivals (last ∷ [])))
          (master_ear.stands-byte node_host s.master cell.byte check (master.bytes_arrived arrivals) h.stands);
      heard = master_ear.heard-more check arrivals last h.heard (master_ear.whole-byte node_host s.master cell.byte check (master.bytes_arrived arrivals) h.stands);
    }

master-arrival : (check : Check) (arrivals : List master.Arrival) (s : LinkState NodeState) (lane : List LaneCell) (cell : Option LaneCell) → MasterHears check arrivals s.master
    → MasterHears check (arrivals ++ master_arrived ToMaster s cell) (after_arrival plain_node ToMaster (link_state s.master (record s.side { from_it = lane }) s.deceived) cell).master
master-arrival check arrivals s lane None h = rw (append-nil arrivals) h
master-arrival check arrivals s lane (Some cell) h = master-cell check arrivals s cell h

master-past : (check : Check) (arrivals : List master.Arrival) (s : LinkState NodeState) (lane : List LaneCell) (cell : Option LaneCell) → MasterHears check arrivals s.master
    → MasterHears check arrivals (after_arrival plain_node ToStation (link_state s.master (record s.side { to_it = lane }) s.deceived) cell).master
master-past check arrivals s lane None h = h
master-past check arrivals s lane (Some cell) h = h

master-deed : (check : Check) (arrivals : List master.Arrival) (s : LinkState NodeState) (deed : LinkDeed) → MasterHears check arrivals s.master → MasterHears check (arrivals ++ master_arrivals s deed) (after_link_deed plain_node s deed).master
master-deed check arrivals s StationGives h = rw (append-nil arrivals) h
master-deed check arrivals s (OnLane ToStation deed) h = rw (append-nil arrivals) (master-past check arrivals s (lane_after s.side.to_it deed) (arriving s.side.to_it deed) h)
master-deed check arrivals s (OnLane ToMaster deed) h = master-arrival check arrivals s (lane_after s.side.from_it deed) (arriving s.side.from_it deed) h

master-own : (check : Check) (arrivals : List master.Arrival) (m : MasterState NodeState) (deed : MasterDeed) → MasterHears check arrivals m → MasterHears check arrivals (master_after plain_node m deed)
master-own check arrivals m (Issue src dst payload) h = record { stands = h.stands; heard = h.heard }
master-own check arrivals m Give h = record { stands = master_ear.stands-take node_host m check (master.bytes_arrived arrivals) h.stands; heard = h.heard }
master-own check arrivals m Tick h = record { stands = master_ear.stands-tick node_host m check (master.bytes_arrived arrivals) h.stands; heard = h.heard }

-- ---- the whole line

-- each station, by what arrived at it, and the master
pub record AllHear (check : Check) (at : ℕ → List slave.Arrival) (at_master : List master.Arrival) (s : HalfState NodeState) : Type 0 where
  pub heard : (place : ℕ) → slave.HeardByGrammar check (at place)
  pub stands : (place : ℕ) (side : LineStationState) → slice_get s.stations place ≡ Some side → slave.StandsFor check (slave.bytes_arrived (at place)) side.slave
  pub of_master : MasterHears check at_master s.master

-- by the same arrivals
same-hear : (check : Check) (at other : ℕ → List slave.Arrival) (at_master other_master : List master.Arrival) (s : HalfState NodeState) → ((place : ℕ) → at place ≡ other place) → at_master ≡ other_master → AllHear check at at_master s → AllHear check other other_master s
same-hear check at other at_master other_master s same same_master h = record {
  heard = λ place. subst (slave.HeardByGrammar check) (same place) (h.heard place);
  stands = λ place side is. subst (λ (arrivals : List slave.Arrival). slave.StandsFor check (slave.bytes_arrived arrivals) side.slave) (same place) (h.stands place side is);
  of_master = subst (λ (arrivals : List master.Arrival). MasterHears check arrivals s.master) same_master h.of_master;
}

-- a cell that joins a lane changes no slave
joined-stands : (check : Check) (bytes : List ℕ) (cells : List LaneCell) (o : Option LineStationState) (side : LineStationState) → option_map (joined cells) o ≡ Some side
    → ((old : LineStationState) → o ≡ Some old → slave.StandsFor check bytes old.slave) → slave.StandsFor check bytes side.slave
joined-stands check bytes cells None side is h = absurd cc
joined-stands check bytes cells (Some old) side is h = subst (λ (t : LineStationState). slave.StandsFor check bytes t.slave) (some-same is) (h old refl)

stations-own : (check : Check) (at : ℕ → List slave.Arrival) (s : HalfState NodeState) (deed : MasterDeed) → ((place : ℕ) (side : LineStationState) → slice_get s.stations place ≡ Some side → slave.StandsFor check (slave.bytes_arrived (at place)) side.slave)
    → (place : ℕ) (side : LineStationState) → slice_get (after_step plain_node s (AtMaster deed)).stations place ≡ Some side → slave.StandsFor check (slave.bytes_arrived (at place)) side.slave
stations-own check at s (Issue src dst payload) h place side is = h place side is
stations-own check at s Give h place side is =
    joined-stands check (slave.bytes_arrived (at place)) (cells_given plain_node s.master) (slice_get s.stations place) side (sym (slice_get-map (joined (cells_given plain_node s.master)) s.stations place) ∙ is) (h place)
stations-own check at s Tick h place side is = h place side is

get-other : {X : Type 0} (xs : List X) (i j : ℕ) (y : X) → i ≢ j → slice_get (slice_set xs i y) j ≡ slice_get xs j
get-other [] i j y apart = refl
get-other (x ∷ xs) zero zero y apart = absurd (apart refl)
get-other (x ∷ xs) zero (suc j) y apart = refl
get-other (x ∷ xs) (suc i) zero y apart = refl
get-other (x ∷ xs) (suc i) (suc j) y apart = get-other xs i j y (λ e. apart (ap suc e))

is-place : (i j : ℕ) → (i == j) ≡ true → i ≡ j
is-place i j e = grind (arith, nat_tests)

apart-places : (i j : ℕ) → (i == j) ≡ false → i ≢ j
apart-places i j e = grind (arith, nat_tests)

-- what is heard at one place, of which something happens at another
heard-at : (check : Check) (at : ℕ → List slave.Arrival) (place q : ℕ) (more : List slave.Arrival) (same : Bool) → (place == q) ≡ same → slave.HeardByGrammar check (at place ++ more) → slave.HeardByGrammar check (at q)
    → slave.HeardByGrammar check (at q ++ (if same then more else []))
heard-at check at place q more true e here there = subst (λ (p : ℕ). slave.HeardByGrammar check (at p ++ more)) (is-place place q e) here
heard-at check at place q more false e here there = rw (append-nil (at q)) there

stands-at : (check : Check) (at : ℕ → List slave.Arrival) (place q : ℕ) (more : List slave.Arrival) (same : Bool) (stations : List LineStationState) (old next side : LineStationState) → (place == q) ≡ same
    → slice_get stations place ≡ Some old → slave.StandsFor check (slave.bytes_arrived (at place ++ more)) next.slave → (slice_get stations q ≡ Some side → slave.StandsFor check (slave.bytes_arrived (at q)) side.slave)
    → slice_get (slice_set stations place next) q ≡ Some side → slave.StandsFor check (slave.bytes_arrived (at q ++ (if same then more else []))) side.slave
stands-at check at place q more true stations old next side e found here there is =
    let same = is-place place q e in
    let now : slice_get (slice_set stations place next) place ≡ Some side = subst (λ (p : ℕ). slice_get (slice_set stations place next) p ≡ Some side) (sym same) is in
    let next_is : next ≡ side = some-same (sym (get-set stations place old next found) ∙ now) in
    subst (λ (p : ℕ). slave.StandsFor check (slave.bytes_arrived (at p ++ more)) side.slave) same
    (subst (λ (t : LineStationState). slave.StandsFor check (slave.bytes_arrived (at place ++ more)) t.slave) next_is here)
stands-at check at place q more false stations old next side e found here there is =
    rw (append-nil (at q)) (there (sym (get-other stations place q next (apart-places place q e)) ∙ is))

none-more : (same : Bool) (arrivals : List slave.Arrival) → arrivals ≡ arrivals ++ (if same then [] else [])
none-more true arrivals = sym (append-nil arrivals)
none-more false arrivals = sym (append-nil arrivals)

hear-with : (check : Check) (at : ℕ → List slave.Arrival) (at_master : List master.Arrival) (s : HalfState NodeState) (place : ℕ) (deed : LinkDeed) (o : Option LineStationState) → slice_get s.stations place ≡ o → AllHear check at at_master s
    → AllHear check (λ q. at q ++ (if place == q then station_arrivals_with s deed o else [])) (at_master ++ master_arrivals_with s deed o) (after_with plain_node s place deed o)
hear-with check at at_master s place deed None found h =
    same-hear check at (λ q. at q ++ (if place == q then [] else [])) at_master (at_master ++ []) s (λ q. none-more (place == q) (at q)) (sym (append-nil at_master)) h
hear-with check at at_master s place deed (Some side) found h =
    let link = link_of s side in
    let more = station_arrivals link deed in
    let here : StationHears check (at place ++ more) (after_link_deed plain_node link deed).side = station-deed check (at place) link deed (record { stands = h.stands place side found; heard = h.heard place }) in
    record {
      heard = λ q. heard-at check at place q more (place == q) refl here.heard (h.heard q);
      stands = λ q t is. stands-at check at place q more (place == q) s.stations side (after_link_deed plain_node link deed).side t refl found here.stands (h.stands q t) is;
      of_master = master-deed check at_master link deed h.of_master;
    }

hear-step : (check : Check) (at : ℕ → List slave.Arrival) (at_master : List master.Arrival) (s : HalfState NodeState) (step : UnitStep) → AllHear check at at_master s
    → AllHear check (λ q. at q ++ station_arrivals_at q s step) (at_master ++ master_arrivals_at s step) (after_step plain_node s step)
hear-step check at at_master s (AtMaster deed) h = record {
  heard = λ q. rw (append-nil (at q)) (h.heard q);
  stands = λ q side is. rw (append-nil (at q)) (stations-own check at s deed h.stands q side is);
  of_master = rw (append-nil at_master) (master-own check at_master s.master deed h.of_master);
}
hear-step check at at_master s (AtStation place deed) h = hear-with check at at_master s place deed (slice_get s.stations place) refl h

hear-steps : (check : Check) (steps : List UnitStep) (at : ℕ → List slave.Arrival) (at_master : List master.Arrival) (s : HalfState NodeState) → AllHear check at at_master s
    → AllHear check (λ q. at q ++ station_arrivals_over q s steps) (at_master ++ master_arrivals_over s steps) (after_steps plain_node s steps)
hear-steps check [] at at_master s h = same-hear check at (λ q. at q ++ []) at_master (at_master ++ []) s (λ q. sym (append-nil (at q))) (sym (append-nil at_master)) h
hear-steps check (step ∷ steps) at at_master s h =
    let now = hear-step check at at_master s step h in
    let next = after_step plain_node s step in
    same-hear check _ (λ q. at q ++ station_arrivals_over q s (step ∷ steps)) _ (at_master ++ master_arrivals_over s (step ∷ steps)) (after_steps plain_node next steps)
    (λ q. append_assoc (at q) (station_arrivals_at q s step) (station_arrivals_over q next steps)) (append_assoc at_master (master_arrivals_at s step) (master_arrivals_over next steps))
    (hear-steps check steps (λ q. at q ++ station_arrivals_at q s step) (at_master ++ master_arrivals_at s step) next now)

hear-events : (check : Check) (events : List Event) (at : ℕ → List slave.Arrival) (at_master : List master.Arrival) (s : HalfState NodeState) → AllHear check at at_master s
    → AllHear check (λ q. at q ++ station_arrivals_in q s events) (at_master ++ master_arrivals_in s events) (state_after plain_node s events)
hear-events check [] at at_master s h = same-hear check at (λ q. at q ++ []) at_master (at_master ++ []) s (λ q. sym (append-nil (at q))) (sym (append-nil at_master)) h
hear-events check (e ∷ events) at at_master s h =
    let steps = steps_of s e in
    let now = hear-steps check steps at at_master s h in
    let next = after_event plain_node s e in
    same-hear check _ (λ q. at q ++ station_arrivals_in q s (e ∷ events)) _ (at_master ++ master_arrivals_in s (e ∷ events)) (state_after plain_node next events)
    (λ q. append_assoc (at q) (station_arrivals_over q s steps) (station_arrivals_in q next events)) (append_assoc at_master (master_arrivals_over s steps) (master_arrivals_in next events))
    (hear-events check events (λ q. at q ++ station_arrivals_over q s steps) (at_master ++ master_arrivals_over s steps) next now)

-- ---- a run

first-stands : (check : Check) (o : Option EndPlan) (side : LineStationState) → option_map (first_side check) o ≡ Some side → slave.StandsFor check [] side.slave
first-stands check None side is = absurd cc
first-stands check (Some plan) side is = subst (λ (t : LineStationState). slave.StandsFor check [] t.slave) (some-same is) (ear.stands-new (slave_setup check plan) (first_node plan))

pub run-hears : (script : Script) → AllHear script.check (λ q. station_arrivals_in q (start script) script.events) (master_arrivals_in (start script) script.events) (state_after plain_node (start script) script.events)
run-hears script = hear-events script.check script.events (λ q. []) [] (start script) (record {
  heard = λ q. ear.heard-none script.check;
  stands = λ q side is. first-stands script.check (slice_get (station_plans script.ends) q) side (sym (slice_get-map (first_side script.check) (station_plans script.ends) q) ∙ is);
  of_master = record { stands = master_ear.stands-new (master_setup script.check (plan_of_m script)) (numbers_of script.ends) (first_node (plan_of_m script)); heard = master_ear.heard-none script.check };
})
