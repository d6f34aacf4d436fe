-- A half-duplex run: no more bytes are on their way to a station than the master sent, and none where as many left that lane and it sent none since.
use Rattle.std.proofs.Common.{◌≡◌, ◌∙◌, ℕ, zero, suc, ◌+◌, ◌≤◌, Bool, true, false, List, [], ◌∷◌, ◌++◌, drop, length, map, Option, Some, None, slice_get, refl, sym, ap, subst, arith, add-zero, append_assoc}
use Rattle.std.specs.Prelude.{replicate, slice_set, nat_eq, ◌==◌}
use Rattle.std.specs.List.{IsDistinct, position_from}
use Rattle.std.specs.Option.{option_map, option_to_list}
use Rattle.std.proofs.lemmas.Bool.{eqb-true, eqb-false, eq-eqb}
use Rattle.std.proofs.lemmas.Iterator.Adapters.{position_from-zero}
use Rattle.std.proofs.lemmas.List.{length-append, length-drop}
use Rattle.std.proofs.lemmas.Option.{same_Some, slice_get-map}
use Rattle.df1_node.specs.Node.{NodeState}
use Rattle.each_once.proofs.SentAndExecuted.{sent-more}
use Rattle.each_once.proofs.Sublists.{from-map}
use Rattle.half_line.specs.Acts.{LineStationState, HalfState, LinkState, LinkDeed, MasterDeed, Issue, Give, Tick, LaneDeed, Deliver, Lose, Alter, Foreign, StationGives, OnLane, joined, cells_given, byte_given, lane_of, lane_after, arriving, master_bytes, moved, after_link_deed, after_master_deed}
use Rattle.half_line.specs.Behind.{plain_node}
use Rattle.half_line.specs.declared.way.Way.{Way}
use Rattle.half_line.specs.declared.way.Way.TheVariants.{ToStation, ToMaster}
use Rattle.half_line.specs.Plays.{numbers_at}
use Rattle.half_line.specs.Run.{first_side, start, station_at, place_of, steps_at, steps_with, link_deeds, master_deeds, after_event, giver, lines_of, state_after, lines_after, record_of as polled_record}
use Rattle.half_line.specs.Steps.{AtMaster, AtStation, link_of, rejoined, after_with, after_step, lines_over, bytes_over, after_steps}
use Rattle.half_line.proofs.Once.Places.{set-same, set-other, one-place, not-equal}
use Rattle.half_line.proofs.Steps.EventsToCome.{event-numbers, start-numbers}
use Rattle.half_master.specs.Master as master
use Rattle.lane_cells.specs.Cells.{LaneCell, cell_of}
use Rattle.line_world.proofs.EitherMode.{polled-record}
use Rattle.run_laws.specs.Overtaking.{with_events}
use Rattle.replay_report.specs.declared.record.Line.{Line}
use Rattle.replay_report.specs.declared.record.Record.{Record}
use Rattle.replay_report.specs.Report.{sent_lines}
use Rattle.report_lines.specs.SentBytes.{sent_by}
use Rattle.script_parts.specs.declared.script.EndPlan.{EndPlan}
use Rattle.script_parts.specs.declared.script.Event.{Event}
use Rattle.script_parts.specs.declared.script.Event.TheVariants as event
use Rattle.script_parts.specs.declared.script.Lane.{Lane}
use Rattle.script_parts.specs.declared.script.Script.{Script}
use Rattle.script_parts.specs.HalfPlayable.{numbers_of, station_plans}
use Rattle.script_statement.specs.declared.who.Who.TheVariants.{M, S}
use Rattle.run_laws.specs.GivenUp.{Empties, IsCleared, lines_so_far}
use Rattle.run_laws.proofs.ClearedLane.{drop-less, altered-length, none-after, none-left, sent-least}
use Rattle.run_laws.proofs.OverAtPolledCut.{state-both}
use Rattle.run_laws.proofs.OverPolledRun.{arrival-lane}

-- so many bytes at most are on their way to the station at this place
abbrev pub HasFew : ℕ → ℕ → HalfState NodeState → Type 0
HasFew place most s = (side : LineStationState) → slice_get s.stations place ≡ Some side → length side.to_it ≤ most

few-more : (place most more : ℕ) (s : HalfState NodeState) → HasFew place most s → HasFew place (most + more) s
few-more place most more s few side at = let fewer = few side at in omega (arith, fewer)

-- ---- at the master

given-length : (s : HalfState NodeState) → length (cells_given plain_node s.master) ≡ length (option_to_list (byte_given plain_node s.master))
given-length s = by (master.out_at_take plain_node.host s.master)
  where
    by : (o : _) → length (option_to_list (option_map (cell_of (master.master_after_take plain_node.host s.master).sending) o)) ≡ length (option_to_list (option_map (λ out. out.byte) o))
    by None = refl
    by (Some out) = refl

deed-grows : (place most : ℕ) (s : HalfState NodeState) (deed : MasterDeed) → HasFew place most s → HasFew place (most + length (master_bytes plain_node s.master deed)) (after_master_deed plain_node s deed)
deed-grows place most s (Issue src dst payload) few side at = let fewer = few side at in omega (arith, fewer)
deed-grows place most s Give few side at =
    let cells = cells_given plain_node s.master in
    let was = from-map (joined cells) s.stations place side at in
    let fewer = few was.0 was.1 in
    let both = length-append was.0.to_it cells in
    let now = ap (λ (x : LineStationState). length x.to_it) was.2 in
    let same = given-length s in
    omega (arith, fewer, both, now, same)
deed-grows place most s Tick few side at = let fewer = few side at in omega (arith, fewer)

master-grows : (place : ℕ) (deeds : List MasterDeed) (most : ℕ) (s : HalfState NodeState) → HasFew place most s → HasFew place (most + length (bytes_over plain_node s (map AtMaster deeds))) (after_steps plain_node s (map AtMaster deeds))
master-grows place [] most s few side at = few-more place most 0 s few side at
master-grows place (deed ∷ deeds) most s few side at =
    let first = master_bytes plain_node s.master deed in
    let next = after_master_deed plain_node s deed in
    let rest = master-grows place deeds (most + length first) next (deed-grows place most s deed few) side at in
    let both = length-append first (bytes_over plain_node next (map AtMaster deeds)) in
    omega (arith, rest, both)

-- ---- at a station

left-less : (lane : List LaneCell) (deed : LaneDeed) → length (lane_after lane deed) ≤ length lane
left-less lane Deliver = drop-less lane
left-less lane Lose = drop-less lane
left-less lane (Alter mask) = let same = altered-length mask lane in omega (arith, same)
left-less lane (Foreign byte) = omega arith

moved-less : (way : Way) (s : LinkState NodeState) (deed : LaneDeed) → length (moved way s deed).side.to_it ≤ length s.side.to_it
moved-less ToStation s deed = left-less s.side.to_it deed
moved-less ToMaster s deed = omega arith

link-less : (s : LinkState NodeState) (deed : LinkDeed) → length (after_link_deed plain_node s deed).side.to_it ≤ length s.side.to_it
link-less s StationGives = omega arith
link-less s (OnLane way deed) =
    let same = ap length (arrival-lane way (moved way s deed) (arriving (lane_of way s.side) deed)) in
    let less = moved-less way s deed in
    omega (arith, same, less)

-- with the station at a place, where the lane to it gets no longer
rejoined-few : (place most fewer at_place : ℕ) (s : HalfState NodeState) (side : LineStationState) (link : LinkState NodeState) → slice_get s.stations at_place ≡ Some side → (same : Bool) → (place == at_place) ≡ same
    → (place ≡ at_place → length link.side.to_it ≤ fewer) → ((place ≡ at_place → ⊥) → most ≤ fewer) → HasFew place most s → HasFew place fewer (rejoined s at_place link)
rejoined-few place most fewer at_place s side link at true same here there few now is =
    let one = eqb-true place at_place same in
    let is_side : link.side ≡ now = same_Some link.side now (sym (set-same s.stations at_place side link.side at) ∙ ap (slice_get (slice_set s.stations at_place link.side)) (sym one) ∙ is) in
    let less = here one in
    let long = ap (λ (x : LineStationState). length x.to_it) is_side in
    omega (arith, less, long)
rejoined-few place most fewer at_place s side link at false same here there few now is =
    let differ = eqb-false place at_place same in
    let less = few now (sym (set-other s.stations at_place place link.side differ) ∙ is) in
    let enough = there differ in
    omega (arith, less, enough)

with-few : (place most at_place : ℕ) (s : HalfState NodeState) (deed : LinkDeed) (o : Option LineStationState) → slice_get s.stations at_place ≡ o → HasFew place most s → HasFew place most (after_with plain_node s at_place deed o)
with-few place most at_place s deed None at few = few
with-few place most at_place s deed (Some side) at few =
    rejoined-few place most most at_place s side (after_link_deed plain_node (link_of s side) deed) at (place == at_place) refl
    (λ one. let fewer = few side (ap (slice_get s.stations) one ∙ at) in let less = link-less (link_of s side) deed in omega (arith, fewer, less)) (λ differ. omega arith) few

links-few : (place most at_place : ℕ) (deeds : List LinkDeed) (s : HalfState NodeState) → HasFew place most s → HasFew place most (after_steps plain_node s (map (AtStation at_place) deeds))
links-few place most at_place [] s few = few
links-few place most at_place (deed ∷ deeds) s few = links-few place most at_place deeds (after_step plain_node s (AtStation at_place deed)) (with-few place most at_place s deed (slice_get s.stations at_place) refl few)

station-few : (place most : ℕ) (o : Option ℕ) (deeds : List LinkDeed) (s : HalfState NodeState) → HasFew place most s → HasFew place most (after_steps plain_node s (steps_with o deeds))
station-few place most None deeds s few = few
station-few place most (Some at_place) deeds s few = links-few place most at_place deeds s few

-- ---- events

event-grows : (place most : ℕ) (s : HalfState NodeState) (e : Event) (o : Option ℕ) → HasFew place most s
    → (let steps = steps_at s.stations o e in HasFew place (most + length (sent_by M (lines_over plain_node s steps ++ sent_lines (giver o) (bytes_over plain_node s steps)))) (after_steps plain_node s steps))
event-grows place most s e None few side at =
    let steps = map AtMaster (master_deeds e) in
    let fewer = master-grows place (master_deeds e) most s few side at in
    let least = sent-least M refl (lines_over plain_node s steps) (bytes_over plain_node s steps) in
    omega (arith, fewer, least)
event-grows place most s e (Some number) few side at = let fewer = station-few place most (place_of s.stations number) (link_deeds e) s few side at in omega (arith, fewer)

events-grow : (place : ℕ) (events : List Event) (most : ℕ) (s : HalfState NodeState) → HasFew place most s → HasFew place (most + length (sent_by M (lines_after plain_node s events))) (state_after plain_node s events)
events-grow place [] most s few side at = few-more place most 0 s few side at
events-grow place (e ∷ events) most s few side at =
    let first = lines_of plain_node s e in
    let next = after_event plain_node s e in
    let rest = events-grow place events (most + length (sent_by M first)) next (event-grows place most s e (station_at e) few) side at in
    let both = ap length (sent-more M first (lines_after plain_node next events)) ∙ length-append (sent_by M first) (sent_by M (lines_after plain_node next events)) in
    omega (arith, rest, both)

-- ---- the lane is emptied

-- a deed that takes the head off a lane
abbrev Leaves : LaneDeed → Type 0
Leaves deed = (lane : List LaneCell) → lane_after lane deed ≡ drop 1 lane

one-leaves : (place most : ℕ) (deed : LaneDeed) → Leaves deed → (s : HalfState NodeState) (o : Option LineStationState) → slice_get s.stations place ≡ o → HasFew place (suc most) s → HasFew place most (after_with plain_node s place (OnLane ToStation deed) o)
one-leaves place most deed leaves s None at few other is = absurd (let no = sym at ∙ is in cc)
one-leaves place most deed leaves s (Some side) at few other is =
    let link = link_of s side in
    let now = after_link_deed plain_node link (OnLane ToStation deed) in
    let left : length now.side.to_it ≤ most =
    (let same = ap length (arrival-lane ToStation (moved ToStation link deed) (arriving side.to_it deed)) in
    let gone = ap length (leaves side.to_it) in
    let less = length-drop 1 side.to_it in
    let fewer = few side at in
    omega (arith, same, gone, less, fewer)) in
    rejoined-few place (suc most) most place s side now at true (eq-eqb place place refl) (λ one. left) (λ differ. absurd (differ refl)) few other is

all-leave : (place : ℕ) (deed : LaneDeed) → Leaves deed → (n most : ℕ) (s : HalfState NodeState) → most ≤ n → HasFew place most s → HasFew place 0 (after_steps plain_node s (map (AtStation place) (replicate n (OnLane ToStation deed))))
all-leave place deed leaves zero most s enough few side at = let fewer = few side at in omega (arith, enough, fewer)
all-leave place deed leaves (suc n) zero s enough few side at = links-few place 0 place (replicate (suc n) (OnLane ToStation deed)) s few side at
all-leave place deed leaves (suc n) (suc most) s enough few side at =
    all-leave place deed leaves n most (after_step plain_node s (AtStation place (OnLane ToStation deed))) (omega (arith, enough)) (one-leaves place most deed leaves s (slice_get s.stations place) refl few) side at

-- from the master to this station
abbrev pub lane_to : ℕ → Lane
lane_to number = record { from = M; to = S number }

-- so many leave the lane to the station of this number, which is at this place
number-leave : (place number : ℕ) (deed : LaneDeed) → Leaves deed → (n most : ℕ) (s : HalfState NodeState) → place_of s.stations number ≡ Some place → most ≤ n → HasFew place most s → HasFew place 0 (after_steps plain_node s (steps_with (place_of s.stations number) (replicate n (OnLane ToStation deed))))
number-leave place number deed leaves n most s found enough few = rw found (all-leave place deed leaves n most s enough few)

event-empties : (place number most : ℕ) (s : HalfState NodeState) (e : Event) → Empties (lane_to number) most e → place_of s.stations number ≡ Some place → HasFew place most s → HasFew place 0 (after_event plain_node s e)
event-empties place number most s (event.Issue who src dst payload) empties found few = absurd empties
event-empties place number most s (event.Take who n) empties found few = absurd empties
event-empties place number most s (event.Deliver lane n) empties found few = subst (λ (l : Lane). HasFew place 0 (after_event plain_node s (event.Deliver l n))) (sym empties.0) (number-leave place number Deliver (λ cells. refl) n most s found empties.1 few)
event-empties place number most s (event.Lose lane n) empties found few = subst (λ (l : Lane). HasFew place 0 (after_event plain_node s (event.Lose l n))) (sym empties.0) (number-leave place number Lose (λ cells. refl) n most s found empties.1 few)
event-empties place number most s (event.Alter lane mask) empties found few = absurd empties
event-empties place number most s (event.Foreign lane bytes) empties found few = absurd empties
event-empties place number most s (event.Tick who n) empties found few = absurd empties

-- ---- the place of a station

found-from : (number i : ℕ) (stations : List LineStationState) (p : ℕ) (side : LineStationState) → IsDistinct nat_eq (numbers_at stations) → slice_get stations p ≡ Some side → side.number ≡ number → position_from (λ (x : LineStationState). x.number == number) i stations ≡ Some (i + p)
unfolding IsDistinct
found-from number i [] p side distinct at is = absurd cc
found-from number i (x ∷ stations) zero side distinct at is =
    let here : (x.number == number) ≡ true = eq-eqb x.number number (ap (λ (s : LineStationState). s.number) (same_Some x side at) ∙ is) in
    rw (here, add-zero i) refl
found-from number i (x ∷ stations) (suc p) side distinct at is =
    let there : slice_get (numbers_at stations) p ≡ Some number = slice_get-map (λ (s : LineStationState). s.number) stations p ∙ ap (option_map (λ (s : LineStationState). s.number)) at ∙ ap Some is in
    let apart : (x.number == number) ≡ false = not-equal (x.number == number) (λ same. (let one = one-place (numbers_at (x ∷ stations)) 0 (suc p) number distinct (ap Some (eqb-true x.number number same)) there in cc)) in
    let rest = found-from number (i + 1) stations p side distinct.1 at is in
    rw apart (rest ∙ ap Some (omega arith))

found-at : (number : ℕ) (stations : List LineStationState) (p : ℕ) (side : LineStationState) → IsDistinct nat_eq (numbers_at stations) → slice_get stations p ≡ Some side → side.number ≡ number → place_of stations number ≡ Some p
found-at number stations p side distinct at is = position_from-zero (λ (x : LineStationState). x.number == number) stations ∙ found-from number 0 stations p side distinct at is ∙ ap Some (let same : 0 + p ≡ p = omega arith in same)

-- the stations keep their numbers
events-numbers : (events : List Event) (s : HalfState NodeState) → numbers_at (state_after plain_node s events).stations ≡ numbers_at s.stations
events-numbers [] s = refl
events-numbers (e ∷ events) s = events-numbers events (after_event plain_node s e) ∙ event-numbers plain_node s e

pub numbers-are : (script : Script) (events : List Event) → numbers_at (state_after plain_node (start script) events).stations ≡ numbers_of script.ends
numbers-are script events = events-numbers events (start script) ∙ start-numbers script

-- the station at a place of the plans, after whichever events
pub station-there : (script : Script) (events : List Event) (p : ℕ) (plan : EndPlan) → slice_get (station_plans script.ends) p ≡ Some plan → (side : LineStationState) × (slice_get (state_after plain_node (start script) events).stations p ≡ Some side) × (side.number ≡ plan.node)
station-there script events p plan at =
    let stations = (state_after plain_node (start script) events).stations in
    let number : slice_get (numbers_at stations) p ≡ Some plan.node = ap (λ (ns : List ℕ). slice_get ns p) (numbers-are script events) ∙ slice_get-map (λ (x : EndPlan). x.node) (station_plans script.ends) p ∙ ap (option_map (λ (x : EndPlan). x.node)) at in
    from-map (λ (x : LineStationState). x.number) stations p plan.node number

-- ---- a run

pub lines-both : (front back : List Event) (s : HalfState NodeState) → lines_after plain_node s (front ++ back) ≡ lines_after plain_node s front ++ lines_after plain_node (state_after plain_node s front) back
lines-both [] back s = refl
lines-both (e ∷ front) back s =
    ap (λ (l : List Line). lines_of plain_node s e ++ l) (lines-both front back (after_event plain_node s e)) ∙ sym (append_assoc (lines_of plain_node s e) (lines_after plain_node (after_event plain_node s e) front) (lines_after plain_node (state_after plain_node (after_event plain_node s e) front) back))

-- the lines of the first events are those of the run up to there
pub so-far : (script : Script) (front : List Event) → script.half ≡ true → lines_so_far script front ≡ lines_after plain_node (start script) front
unfolding polled_record
so-far script front mode = ap (λ (r : Record). r.lines) (polled-record (with_events script front) mode)

start-few : (script : Script) (place : ℕ) → HasFew place 0 (start script)
start-few script place side at =
    let was = from-map (first_side script.check) (station_plans script.ends) place side at in
    let long = ap (λ (x : LineStationState). length x.to_it) was.2 in
    omega (arith, long)

-- from no bytes on their way on
grown : (place : ℕ) (events : List Event) (s : HalfState NodeState) → HasFew place 0 s → HasFew place (length (sent_by M (lines_after plain_node s events))) (state_after plain_node s events)
grown place events s none side at = let few = events-grow place events 0 s none side at in omega (arith, few)

pub is-empty : (script : Script) → script.half ≡ true → IsDistinct nat_eq (numbers_of script.ends) → (front : List Event) (place : ℕ) (plan : EndPlan) → slice_get (station_plans script.ends) place ≡ Some plan → IsCleared (lane_to plan.node) script front
    → (side : LineStationState) → slice_get (state_after plain_node (start script) front).stations place ≡ Some side → side.to_it ≡ []
is-empty script mode distinct front place plan at c side is =
    let s = start script in
    let before = state_after plain_node s c.first in
    let cleared = after_event plain_node before c.clears in
    let first_sent = so-far script c.first mode in
    let count = length (sent_by M (lines_so_far script c.first)) in
    let few : HasFew place count before = subst (λ (l : List Line). HasFew place (length (sent_by M l)) before) (sym first_sent) (grown place c.first s (start-few script place)) in
    let there = station-there script c.first place plan at in
    let found = found-at plan.node before.stations place there.0 (subst (IsDistinct nat_eq) (sym (numbers-are script c.first)) distinct) there.1 there.2 in
    let none = event-empties place plan.node count before c.clears c.empties found few in
    let end_state : state_after plain_node s front ≡ state_after plain_node cleared c.rest = ap (state_after plain_node s) c.are ∙ state-both s c.first (c.clears ∷ c.rest) in
    let grows = grown place c.rest cleared none side (ap (λ (t : HalfState NodeState). slice_get t.stations place) (sym end_state) ∙ is) in
    let lines : lines_after plain_node s front ≡ lines_after plain_node s c.first ++ (lines_of plain_node before c.clears ++ lines_after plain_node cleared c.rest) = ap (lines_after plain_node s) c.are ∙ lines-both c.first (c.clears ∷ c.rest) s in
    let rest_sent = none-after M (lines_after plain_node s c.first) (lines_of plain_node before c.clears) (lines_after plain_node cleared c.rest) (ap (sent_by M) (sym lines) ∙ ap (sent_by M) (sym (so-far script front mode)) ∙ c.none_since ∙ ap (sent_by M) first_sent) in
    none-left side.to_it (omega (arith, grows, rest_sent))
