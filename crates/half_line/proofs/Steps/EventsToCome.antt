-- Playing one event after another: the stations keep their numbers, and there is room for the events that are still to come.
use Rattle.std.proofs.Common.{◌≡◌, ◌∙◌, ℕ, ◌+◌, ◌≤◌, zero, suc, List, [], ◌∷◌, map, length, Option, Some, None, refl, ap, sym, cond, arith}
use Rattle.std.specs.Prelude.{count_by, sum_by, slice_get, slice_set}
use Rattle.std.proofs.lemmas.List.Sums.{sum_by-cons}
use Rattle.df1_node.specs.Node.{NodeState}
use Rattle.half_master.proofs.Draining.{some-same}
use Rattle.script_parts.specs.declared.script.EndPlan.{EndPlan}
use Rattle.script_parts.specs.declared.script.Event.{Event}
use Rattle.script_parts.specs.declared.script.Event.TheVariants as event
use Rattle.script_parts.specs.declared.script.Script.{Script}
use Rattle.script_parts.specs.HalfPlayable.{is_issue, half_count_of, numbers_of, station_plans}
use Rattle.df1_check.specs.declared.Check.{Check}
use Rattle.lane_cells.specs.Cells.{LaneCell}
use Rattle.half_line.specs.Behind.{Behind, plain_node}
use Rattle.half_line.specs.declared.way.Way.{Way}
use Rattle.half_line.specs.declared.way.Way.TheVariants.{ToStation, ToMaster}
use Rattle.half_line.specs.Acts.{LineStationState, HalfState, LinkState, Issue, Give, Tick, LinkDeed, StationGives, OnLane, LaneDeed, joined, cells_given, moved, after_arrival, after_link_deed}
use Rattle.half_line.specs.Steps.{UnitStep, AtMaster, AtStation, link_of, after_with, after_step, after_steps}
use Rattle.half_line.specs.Run.{first_side, start, steps_of, after_event}
use Rattle.half_line.specs.Issues.{requests_in}
use Rattle.half_line.specs.Plays.{numbers_at, issued_by, most_events, IsUnspent}
use Rattle.half_line.proofs.Once.MasterCommands.{commands-of-m}

-- ---- the numbers of the stations

arrival-number : {H : Type 0} (h : Behind H) (way : Way) (s : LinkState H) (cell : Option LaneCell) → (after_arrival h way s cell).side.number ≡ s.side.number
arrival-number h way s None = refl
arrival-number h ToStation s (Some cell) = refl
arrival-number h ToMaster s (Some cell) = refl

moved-number : {H : Type 0} (way : Way) (s : LinkState H) (deed : LaneDeed) → (moved way s deed).side.number ≡ s.side.number
moved-number ToStation s deed = refl
moved-number ToMaster s deed = refl

pub link-number : {H : Type 0} (h : Behind H) (s : LinkState H) (deed : LinkDeed) → (after_link_deed h s deed).side.number ≡ s.side.number
link-number h s StationGives = refl
link-number h s (OnLane way deed) = arrival-number h way (moved way s deed) _ ∙ moved-number way s deed

joined-numbers : (cells : List LaneCell) (stations : List LineStationState) → numbers_at (map (joined cells) stations) ≡ numbers_at stations
joined-numbers cells [] = refl
joined-numbers cells (side ∷ stations) = ap (λ (numbers : List ℕ). side.number ∷ numbers) (joined-numbers cells stations)

set-numbers : (stations : List LineStationState) (place : ℕ) (old new : LineStationState) → slice_get stations place ≡ Some old → new.number ≡ old.number → numbers_at (slice_set stations place new) ≡ numbers_at stations
set-numbers [] place old new found same = refl
set-numbers (side ∷ stations) zero old new found same = ap (λ (number : ℕ). number ∷ numbers_at stations) (same ∙ ap (λ (s : LineStationState). s.number) (sym (some-same found)))
set-numbers (side ∷ stations) (suc place) old new found same = ap (λ (numbers : List ℕ). side.number ∷ numbers) (set-numbers stations place old new found same)

with-numbers : {H : Type 0} (h : Behind H) (s : HalfState H) (place : ℕ) (deed : LinkDeed) (o : Option LineStationState) → slice_get s.stations place ≡ o → numbers_at (after_with h s place deed o).stations ≡ numbers_at s.stations
with-numbers h s place deed None found = refl
with-numbers h s place deed (Some side) found = set-numbers s.stations place side (after_link_deed h (link_of s side) deed).side found (link-number h (link_of s side) deed)

step-numbers : {H : Type 0} (h : Behind H) (s : HalfState H) (step : UnitStep) → numbers_at (after_step h s step).stations ≡ numbers_at s.stations
step-numbers h s (AtMaster (Issue src dst payload)) = refl
step-numbers h s (AtMaster Give) = joined-numbers (cells_given h s.master) s.stations
step-numbers h s (AtMaster Tick) = refl
step-numbers h s (AtStation place deed) = with-numbers h s place deed (slice_get s.stations place) refl

steps-numbers : {H : Type 0} (h : Behind H) (steps : List UnitStep) (s : HalfState H) → numbers_at (after_steps h s steps).stations ≡ numbers_at s.stations
steps-numbers h [] s = refl
steps-numbers h (step ∷ steps) s = steps-numbers h steps (after_step h s step) ∙ step-numbers h s step

-- the stations keep their numbers
pub event-numbers : {H : Type 0} (h : Behind H) (s : HalfState H) (e : Event) → numbers_at (after_event h s e).stations ≡ numbers_at s.stations
event-numbers h s e = steps-numbers h (steps_of s e) s

first-numbers : (check : Check) (plans : List EndPlan) → numbers_at (map (first_side check) plans) ≡ map (λ (plan : EndPlan). plan.node) plans
first-numbers check [] = refl
first-numbers check (plan ∷ plans) = ap (λ (numbers : List ℕ). plan.node ∷ numbers) (first-numbers check plans)

-- at first they are those of the script
pub start-numbers : (script : Script) → numbers_at (start script).stations ≡ numbers_of script.ends
start-numbers script = first-numbers script.check (station_plans script.ends)

-- ---- room for what is to come

issue-counts : (node : ℕ) (e : Event) → length (requests_in node (e ∷ [])) ≡ cond (is_issue e) 1 0
issue-counts node (event.Issue by src dst payload) = refl
issue-counts node (event.Take who n) = refl
issue-counts node (event.Deliver lane n) = refl
issue-counts node (event.Lose lane n) = refl
issue-counts node (event.Alter lane mask) = refl
issue-counts node (event.Foreign lane bytes) = refl
issue-counts node (event.Tick who n) = refl

-- there is room for the commands that are still to come
pub room-of-m : (s : HalfState NodeState) (e : Event) (rest : List Event) → issued_by plain_node s.master + count_by is_issue (e ∷ rest) ≤ 65535 → issued_by plain_node (after_event plain_node s e).master + count_by is_issue rest ≤ 65535
room-of-m s e rest few =
    let more = sum_by-cons (λ (x : Event). cond (is_issue x) 1 0) e rest in
    let new = commands-of-m s.master.host.initiator.node e s in
    let one = issue-counts s.master.host.initiator.node e in
    omega (arith, more, new, one, few)

-- the next command is not the master's 65,536th
pub unspent : {H : Type 0} (h : Behind H) (s : HalfState H) (e : Event) (rest : List Event) → issued_by h s.master + count_by is_issue (e ∷ rest) ≤ 65535 → IsUnspent h s.master e
unspent h s (event.Issue by src dst payload) rest few = let more = sum_by-cons (λ (x : Event). cond (is_issue x) 1 0) (event.Issue by src dst payload) rest in omega (arith, more, few)
unspent h s (event.Take who n) rest few = tt
unspent h s (event.Deliver lane n) rest few = tt
unspent h s (event.Lose lane n) rest few = tt
unspent h s (event.Alter lane mask) rest few = tt
unspent h s (event.Foreign lane bytes) rest few = tt
unspent h s (event.Tick who n) rest few = tt

-- an event more is within the sum
pub sum-of-next : (numbers : List ℕ) (sum : ℕ) (e : Event) (rest : List Event) → sum + sum_by (half_count_of numbers) (e ∷ rest) ≤ most_events → sum + half_count_of numbers e + sum_by (half_count_of numbers) rest ≤ most_events
sum-of-next numbers sum e rest few = let more = sum_by-cons (half_count_of numbers) e rest in omega (arith, more, few)
