-- Over a whole run: the ends of transmissions that arrive, and those on their way, stand among those that were given, in their order.
use Rattle.std.proofs.Common.{◌≡◌, ◌∙◌, ◌<◌, ◌≤◌, ◌^◌, ◌*◌, ℕ, zero, suc, ◌+◌, ◌-◌, Bool, true, false, List, [], ◌∷◌, ◌++◌, length, map, Option, Some, None, inl, inr, refl, sym, ap, subst, append-nil, append_assoc, arith}
use Rattle.std.specs.Prelude.{IsTrue, All, ◌==◌, slice_get, slice_set, replicate, sum_by, count_by, unwrap_or, if◌then◌else◌}
use Rattle.std.specs.Option.{option_to_list}
use Rattle.std.proofs.lemmas.Bool.{eqb-true, eqb-false}
use Rattle.std.proofs.lemmas.List.{length-map}
use Rattle.std.proofs.lemmas.List.Elements.{filter_map-append, All-head, All-tail}
use Rattle.std.proofs.lemmas.List.Sums.{sum_by-cons}
use Rattle.std.proofs.lemmas.Option.{slice_get-get_or}
use Rattle.df1_node.specs.Node.{NodeState, after_node_issue}
use Rattle.half_mouth.specs.Transmissions.{counted_to}
use Rattle.half_slave.specs.Emission as slave
use Rattle.half_slave.specs.Fates as slave_fates
use Rattle.half_slave.specs.Past as slave_past
use Rattle.half_slave.proofs.Giving as slave_giving
use Rattle.half_master.specs.Emission as master
use Rattle.half_master.specs.Fates as master_fates
use Rattle.half_master.specs.Past as master_past
use Rattle.half_master.specs.Master.{MasterState}
use Rattle.half_master.proofs.Giving as master_giving
use Rattle.half_master.proofs.Reaching.{reached-carries}
use Rattle.script_statement.specs.declared.who.Who.{Who}
use Rattle.script_statement.specs.declared.who.Who.TheVariants.{A, B, M, S}
use Rattle.script_statement.specs.Statements.{is_payload}
use Rattle.script_parts.specs.declared.script.Event.{Event}
use Rattle.script_parts.specs.declared.script.Event.TheVariants as event
use Rattle.script_parts.specs.declared.script.Script.{Script}
use Rattle.script_parts.specs.HalfPlayable.{IsHalfPossible, IsHalfPlayable, is_issue, half_count_of, master_weight, take_count, numbers_of, station_plans}
use Rattle.lane_cells.specs.Cells.{LaneCell, Ending, altered}
use Rattle.each_once.specs.NodeHost.{node_host}
use Rattle.each_once.proofs.AnsweringStation.{within-through}
use Rattle.each_once.proofs.MessageLengths.{issue-holds}
use Rattle.each_once.proofs.RisingPlaces.{RiseFrom, rise-lower, increasing}
use Rattle.each_once.proofs.Sublists.{Has, IsWithin, nothing, skips, keeps, within-has, same-some, from-map, within-all}
use Rattle.half_line.specs.Behind.{plain_node}
use Rattle.half_line.specs.declared.way.Way.TheVariants.{ToStation, ToMaster}
use Rattle.half_line.specs.Acts.{LineStationState, HalfState, LinkState, link_state, Issue, Give, Tick, LinkDeed, StationGives, OnLane, LaneDeed, Deliver, Lose, Alter, Foreign, arriving, lane_after, joined, cells_given, after_issue, after_arrival, after_link_deed}
use Rattle.half_line.specs.Steps.{UnitStep, AtMaster, AtStation, link_of, after_with, after_step, after_steps}
use Rattle.half_line.specs.Run.{number_of, station_between, way_from, place_of, link_deeds, steps_with, steps_at, steps_of, after_event, state_after, start, last_state, first_side}
use Rattle.half_line.specs.Plays.{issued_by}
use Rattle.half_line.specs.Transmissions.{over_steps, over_events, cells_at, cells_with, arrived, master_events, side_events, events_with, station_events, transmissions_of_m, transmissions_of, ends_in, AreInOrder, AreAllInOrder}
use Rattle.half_line.proofs.Once.Places.{set-same, set-other}
use Rattle.half_line.proofs.Steps.EventsToCome.{room-of-m, unspent}
use Rattle.half_line.proofs.Wire.MasterEnd.{node_keeps}
use Rattle.half_line.proofs.Wire.Told.{slave_keeps, start-came, station-came}
use Rattle.half_line.proofs.Wire.WholeRun.{May, MayAll, event-may}
use Rattle.half_line.proofs.Transmissions.GivenEnds.{Carry, MasterEnds, master-signal, StationEnds, station-byte, station-take}

-- ---- lists within lists

within-tail : {X : Type 0} (xs ys more : List X) → IsWithin xs ys → IsWithin (xs ++ more) (ys ++ more)
within-tail _ _ more nothing = within-all more
within-tail _ _ more (skips y xs ys h) = skips y (xs ++ more) (ys ++ more) (within-tail xs ys more h)
within-tail _ _ more (keeps x xs ys h) = keeps x (xs ++ more) (ys ++ more) (within-tail xs ys more h)

within-behind : {X : Type 0} (more ys : List X) → IsWithin ys (more ++ ys)
within-behind [] ys = within-all ys
within-behind (x ∷ more) ys = skips x ys (more ++ ys) (within-behind more ys)

within-without : {X : Type 0} (xs more ys : List X) → IsWithin (xs ++ ys) (xs ++ (more ++ ys))
within-without [] more ys = within-behind more ys
within-without (x ∷ xs) more ys = keeps x (xs ++ ys) (xs ++ (more ++ ys)) (within-without xs more ys)

within-map : (f : Ending → ℕ) (xs ys : List Ending) → IsWithin xs ys → IsWithin (map f xs) (map f ys)
within-map f _ _ nothing = nothing
within-map f _ _ (skips y xs ys h) = skips (f y) (map f xs) (map f ys) (within-map f xs ys h)
within-map f _ _ (keeps x xs ys h) = keeps (f x) (map f xs) (map f ys) (within-map f xs ys h)

rise-within : (low : ℕ) (xs ys : List ℕ) → IsWithin xs ys → RiseFrom low ys → RiseFrom low xs
rise-within low _ _ nothing rise = rise
rise-within low _ _ (skips y xs ys h) rise = rise-lower low (suc y) xs (omega (arith, rise.0)) (rise-within (suc y) xs ys h rise.1)
rise-within low _ _ (keeps x xs ys h) rise = (rise.0, rise-within (suc x) xs ys h rise.1)

-- numbers that rise, and a greater one
rise-push : (low : ℕ) (xs : List ℕ) (top : ℕ) → low ≤ top → ((n : ℕ) → Has xs n → n < top) → RiseFrom low xs → RiseFrom low (xs ++ top ∷ [])
rise-push low [] top below all rise = (below, tt)
rise-push low (x ∷ xs) top below all rise =
    let first : x < top = all x (0, refl) in
    (rise.0, rise-push (suc x) xs top (omega (arith, first)) (λ n has. all n (suc has.0, has.1)) rise.1)

counted-below : (k n : ℕ) → Has (counted_to k) n → n ≤ k
counted-below zero n has = absurd (let no = has.1 in cc)
counted-below (suc k) n has = by-place (counted_to k) (suc k) n has (λ m front. let below = counted-below k m front in omega (arith, below)) (omega arith)
  where
    by-place : (xs : List ℕ) (top n : ℕ) → Has (xs ++ top ∷ []) n → ((m : ℕ) → Has xs m → m ≤ top) → top ≤ top → n ≤ top
    by-place [] top n (zero, is) all top_is = let same : top ≡ n = cc in omega (arith, same)
    by-place [] top n (suc k, is) all top_is = absurd cc
    by-place (x ∷ xs) top n (zero, is) all top_is = let same : x ≡ n = cc in let first = all x (0, refl) in omega (arith, same, first)
    by-place (x ∷ xs) top n (suc k, is) all top_is = by-place xs top n (k, is) (λ m has. all m (suc has.0, has.1)) top_is

counted-rise : (k : ℕ) → RiseFrom 0 (counted_to k)
counted-rise zero = tt
counted-rise (suc k) = rise-push 0 (counted_to k) (suc k) (omega arith) (λ n has. let below = counted-below k n has in omega (arith, below)) (counted-rise k)

-- ---- a lane

-- the ends that arrived, and those on their way, stand among those that were given
abbrev LaneHolds : List LaneCell → List LaneCell → List Ending → Type 0
LaneHolds came lane given = IsWithin (ends_in came ++ ends_in lane) given

ends-more : (xs ys : List LaneCell) → ends_in (xs ++ ys) ≡ ends_in xs ++ ends_in ys
ends-more xs ys = filter_map-append (λ (cell : LaneCell). cell.ends) xs ys

-- cells join the lane
lane-joined : (came lane cells : List LaneCell) (given : List Ending) → LaneHolds came lane given → LaneHolds came (lane ++ cells) (given ++ ends_in cells)
lane-joined came lane cells given h =
    rw (ends-more lane cells, sym (append_assoc (ends_in came) (ends_in lane) (ends_in cells))) (within-tail (ends_in came ++ ends_in lane) given (ends_in cells) h)

came-none : (came lane : List LaneCell) (given : List Ending) → LaneHolds came lane given → LaneHolds (came ++ []) lane given
came-none came lane given h = rw (append-nil came) h

-- the head of the lane leaves it
head-lost : (came : List LaneCell) (cell : LaneCell) (lane : List LaneCell) (given : List Ending) → LaneHolds came (cell ∷ lane) given → LaneHolds came lane given
head-lost came cell lane given h =
    within-through (ends_in came ++ ends_in lane) (ends_in came ++ ends_in (cell ∷ lane)) given
    (subst (λ (l : List Ending). IsWithin (ends_in came ++ ends_in lane) (ends_in came ++ l)) (sym (ends-more (cell ∷ []) lane)) (within-without (ends_in came) (ends_in (cell ∷ [])) (ends_in lane))) h

-- it arrives
head-came : (came : List LaneCell) (cell : LaneCell) (lane : List LaneCell) (given : List Ending) → LaneHolds came (cell ∷ lane) given → LaneHolds (came ++ cell ∷ []) lane given
head-came came cell lane given h =
    subst (λ (l : List Ending). IsWithin l given)
    (ap (λ (l : List Ending). ends_in came ++ l) (ends-more (cell ∷ []) lane) ∙ sym (append_assoc (ends_in came) (ends_in (cell ∷ [])) (ends_in lane)) ∙ ap (λ (l : List Ending). l ++ ends_in lane) (sym (ends-more came (cell ∷ [])))) h

lane-deed : (deed : LaneDeed) (came lane : List LaneCell) (given : List Ending) → LaneHolds came lane given → LaneHolds (came ++ option_to_list (arriving lane deed)) (lane_after lane deed) given
lane-deed Deliver came [] given h = came-none came [] given h
lane-deed Deliver came (cell ∷ lane) given h = head-came came cell lane given h
lane-deed Lose came [] given h = came-none came [] given h
lane-deed Lose came (cell ∷ lane) given h = came-none came lane given (head-lost came cell lane given h)
lane-deed (Alter mask) came [] given h = came-none came [] given h
lane-deed (Alter mask) came (cell ∷ lane) given h = came-none came (altered mask (cell ∷ lane)) given (head-lost came cell lane given h)
lane-deed (Foreign byte) came lane given h = rw (ends-more came _, append-nil (ends_in came)) h

-- ---- a station, and the master

record SideEnds (of_m : List Ending) (side : LineStationState) (events : List slave_fates.Event) (to from : List LaneCell) (most : ℕ) : Type 0 where
  pub given : List Ending
  pub station : StationEnds side.slave events most given
  pub to_it : LaneHolds to side.to_it of_m
  pub from_it : LaneHolds from side.from_it given

station-later : (side : LineStationState) (events : List slave_fates.Event) (most later : ℕ) (given : List Ending) → most ≤ later → StationEnds side.slave events most given → StationEnds side.slave events later given
station-later side events most later given more s = record { past = s.past; came = s.came; events_are = s.events_are; numbers = s.numbers; carry = s.carry; few = let few = s.few in omega (arith, few, more) }

master-later : (e : MasterState NodeState) (events : List master_fates.Event) (most later : ℕ) (given : List Ending) → most ≤ later → MasterEnds e events most given → MasterEnds e events later given
master-later e events most later given more m = record { past = m.past; came = m.came; events_are = m.events_are; numbers = m.numbers; carry = m.carry; few = let few = m.few in omega (arith, few, more) }

side-later : (of_m : List Ending) (side : LineStationState) (events : List slave_fates.Event) (to from : List LaneCell) (most later : ℕ) → most ≤ later → SideEnds of_m side events to from most → SideEnds of_m side events to from later
side-later of_m side events to from most later more h = record { given = h.given; station = station-later side events most later h.given more h.station; to_it = h.to_it; from_it = h.from_it }

-- nothing happens to it
side-still : (of_m : List Ending) (side : LineStationState) (events : List slave_fates.Event) (to from : List LaneCell) (most : ℕ) → SideEnds of_m side events to from most → SideEnds of_m side (events ++ []) (to ++ []) (from ++ []) (most + 1)
side-still of_m side events to from most h = rw (append-nil events, append-nil to, append-nil from) (side-later of_m side events to from most (most + 1) (omega arith) h)

record LineEnds (s : HalfState NodeState) (of_m : List master_fates.Event) (of_s : ℕ → List slave_fates.Event) (to from : ℕ → List LaneCell) (most : ℕ) : Type 0 where
  pub given : List Ending
  pub master : MasterEnds s.master of_m most given
  pub sides : (p : ℕ) (side : LineStationState) → slice_get s.stations p ≡ Some side → SideEnds given side (of_s p) (to p) (from p) most

-- ---- with one station

record LinkEnds (link : LinkState NodeState) (given : List Ending) (of_m : List master_fates.Event) (of_s : List slave_fates.Event) (to from : List LaneCell) (most : ℕ) : Type 0 where
  pub master : MasterEnds link.master of_m most given
  pub side : SideEnds given link.side of_s to from most

-- the events of the master with the cells that arrive there
abbrev master_with : MasterState NodeState → List LaneCell → List master_fates.Event
master_with e cells = master_fates.events node_host e (map (λ (cell : LaneCell). master.Byte cell.byte) cells)

link-gives : (s : LinkState NodeState) (given : List Ending) (of_m : List master_fates.Event) (of_s : List slave_fates.Event) (to from : List LaneCell) (most : ℕ) → most + 1 < 2 ^ 64 → LinkEnds s given of_m of_s to from most
    → LinkEnds (after_link_deed plain_node s StationGives) given (of_m ++ []) (of_s ++ []) (to ++ []) (from ++ []) (most + 1)
link-gives s given of_m of_s to from most small h = record {
  master = rw (append-nil of_m) (master-later s.master of_m most (most + 1) given (omega arith) h.master);
  side = rw (append-nil of_s, append-nil to, append-nil from) (record {
    given = _;
    station = let now = station-take s.side.slave of_s most h.side.given (omega (arith, small)) h.side.station in record { past = now.past; came = now.came; events_are = now.events_are; numbers = now.numbers; carry = now.carry; few = let few = now.few in omega (arith, few) };
    to_it = h.side.to_it;
    from_it = lane-joined from s.side.from_it _ h.side.given h.side.from_it;
  });
}

to-station : (s : LinkState NodeState) (lane : List LaneCell) (cell : Option LaneCell) (given : List Ending) (of_m : List master_fates.Event) (of_s : List slave_fates.Event) (to from : List LaneCell) (most : ℕ) → MasterEnds s.master of_m most given
    → (h : SideEnds given s.side of_s to from most) → LaneHolds (to ++ option_to_list cell) lane given
    → LinkEnds (after_arrival plain_node ToStation (link_state s.master (record s.side { to_it = lane }) s.deceived) cell) given (of_m ++ []) (of_s ++ slave_fates.events node_host s.side.slave (map (λ (c : LaneCell). slave.Byte c.byte) (option_to_list cell)))
    (to ++ option_to_list cell) (from ++ []) (most + 1)
to-station s lane None given of_m of_s to from most m h now = record {
  master = rw (append-nil of_m) (master-later s.master of_m most (most + 1) given (omega arith) m);
  side = record { given = h.given; station = rw (append-nil of_s) (station-later s.side of_s most (most + 1) h.given (omega arith) h.station); to_it = now; from_it = rw (append-nil from) h.from_it };
}
to-station s lane (Some cell) given of_m of_s to from most m h now = record {
  master = rw (append-nil of_m) (master-later s.master of_m most (most + 1) given (omega arith) m);
  side = record {
    given = h.given;
    station = rw (append-nil (slave_fates.events_at node_host s.side.slave (slave.Byte cell.byte))) (station-byte s.side.slave cell.byte of_s most h.given h.station);
    to_it = now;
    from_it = rw (append-nil from) h.from_it;
  };
}

to-master : (s : LinkState NodeState) (lane : List LaneCell) (cell : Option LaneCell) (given : List Ending) (of_m : List master_fates.Event) (of_s : List slave_fates.Event) (to from : List LaneCell) (most : ℕ) → most + 1 < 2 ^ 64 → MasterEnds s.master of_m most given
    → (h : SideEnds given s.side of_s to from most) → LaneHolds (from ++ option_to_list cell) lane h.given
    → LinkEnds (after_arrival plain_node ToMaster (link_state s.master (record s.side { from_it = lane }) s.deceived) cell) given (of_m ++ master_with s.master (option_to_list cell)) (of_s ++ []) (to ++ []) (from ++ option_to_list cell) (most + 1)
to-master s lane None given of_m of_s to from most small m h now = record {
  master = rw (append-nil of_m) (master-later s.master of_m most (most + 1) given (omega arith) m);
  side = record { given = h.given; station = rw (append-nil of_s) (station-later s.side of_s most (most + 1) h.given (omega arith) h.station); to_it = rw (append-nil to) h.to_it; from_it = now };
}
to-master s lane (Some cell) given of_m of_s to from most small m h now = record {
  master = rw (append-nil (master_fates.events_at node_host s.master (master.Byte cell.byte)))
      (subst (λ (l : List Ending). MasterEnds (master.master_after node_host s.master (master.Byte cell.byte)) (of_m ++ master_fates.events_at node_host s.master (master.Byte cell.byte)) (most + 1) l) (append-nil given)
      (master-signal s.master of_m most given (master.Byte cell.byte) small m));
  side = record { given = h.given; station = rw (append-nil of_s) (station-later s.side of_s most (most + 1) h.given (omega arith) h.station); to_it = rw (append-nil to) h.to_it; from_it = now };
}

link-step : (s : LinkState NodeState) (deed : LinkDeed) (given : List Ending) (of_m : List master_fates.Event) (of_s : List slave_fates.Event) (to from : List LaneCell) (most : ℕ) → most + 1 < 2 ^ 64 → LinkEnds s given of_m of_s to from most
    → LinkEnds (after_link_deed plain_node s deed) given (of_m ++ master_with s.master (cells_at ToMaster s.side deed)) (of_s ++ side_events s.side deed) (to ++ cells_at ToStation s.side deed) (from ++ cells_at ToMaster s.side deed) (most + 1)
link-step s StationGives given of_m of_s to from most small h = link-gives s given of_m of_s to from most small h
link-step s (OnLane ToStation deed) given of_m of_s to from most small h =
    to-station s (lane_after s.side.to_it deed) (arriving s.side.to_it deed) given of_m of_s to from most h.master h.side (lane-deed deed to s.side.to_it given h.side.to_it)
link-step s (OnLane ToMaster deed) given of_m of_s to from most small h =
    to-master s (lane_after s.side.from_it deed) (arriving s.side.from_it deed) given of_m of_s to from most small h.master h.side (lane-deed deed from s.side.from_it h.side.given h.side.from_it)

-- ---- unit steps

abbrev no_events : List slave_fates.Event
no_events = []

abbrev no_cells : List LaneCell
no_cells = []

no-event : (same : Bool) → (if same then no_events else no_events) ≡ no_events
no-event true = refl
no-event false = refl

no-cell : (same : Bool) → (if same then no_cells else no_cells) ≡ no_cells
no-cell true = refl
no-cell false = refl

side-step : (s : HalfState NodeState) (place : ℕ) (was now : LineStationState) (given : List Ending) (of_s : ℕ → List slave_fates.Event) (to from : ℕ → List LaneCell) (events : List slave_fates.Event) (more_to more_from : List LaneCell) (most : ℕ) → slice_get s.stations place ≡ Some was
    → ((p : ℕ) (side : LineStationState) → slice_get s.stations p ≡ Some side → SideEnds given side (of_s p) (to p) (from p) most) → SideEnds given now (of_s place ++ events) (to place ++ more_to) (from place ++ more_from) (most + 1)
    → (p : ℕ) (side : LineStationState) → slice_get (slice_set s.stations place now) p ≡ Some side → (same : Bool) → (place == p) ≡ same
    → SideEnds given side (of_s p ++ (if same then events else [])) (to p ++ (if same then more_to else [])) (from p ++ (if same then more_from else [])) (most + 1)
side-step s place was now given of_s to from events more_to more_from most is before after p side at true same =
    let here : place ≡ p = eqb-true place p same in
    let found : now ≡ side = same-some now side (sym (set-same s.stations place was now is) ∙ ap (slice_get (slice_set s.stations place now)) here ∙ at) in
    subst (λ (x : LineStationState). SideEnds given x (of_s p ++ events) (to p ++ more_to) (from p ++ more_from) (most + 1)) found
    (subst (λ (n : ℕ). SideEnds given now (of_s n ++ events) (to n ++ more_to) (from n ++ more_from) (most + 1)) here after)
side-step s place was now given of_s to from events more_to more_from most is before after p side at false same =
    let differ : (p ≡ place → ⊥) = λ e. eqb-false place p same (sym e) in
    side-still given side (of_s p) (to p) (from p) most (before p side (sym (set-other s.stations place p now differ) ∙ at))

with-step : (s : HalfState NodeState) (place : ℕ) (deed : LinkDeed) (o : Option LineStationState) (of_m : List master_fates.Event) (of_s : ℕ → List slave_fates.Event) (to from : ℕ → List LaneCell) (most : ℕ) → slice_get s.stations place ≡ o → most + 1 < 2 ^ 64 → LineEnds s of_m of_s to from most
    → LineEnds (after_with plain_node s place deed o) (of_m ++ master_with s.master (cells_with ToMaster deed o)) (λ p. of_s p ++ (if place == p then events_with deed o else [])) (λ p. to p ++ (if place == p then cells_with ToStation deed o else []))
    (λ p. from p ++ (if place == p then cells_with ToMaster deed o else [])) (most + 1)
with-step s place deed None of_m of_s to from most is small h = record {
  given = h.given;
  master = rw (append-nil of_m) (master-later s.master of_m most (most + 1) h.given (omega arith) h.master);
  sides = λ p side at. rw (no-event (place == p), no-cell (place == p)) (side-still h.given side (of_s p) (to p) (from p) most (h.sides p side at));
}
with-step s place deed (Some side) of_m of_s to from most is small h =
    let l = link-step (link_of s side) deed h.given of_m (of_s place) (to place) (from place) most small (record { master = h.master; side = h.sides place side is }) in
    record {
      given = h.given;
      master = l.master;
      sides = λ p other at. side-step s place side (after_link_deed plain_node (link_of s side) deed).side h.given of_s to from (side_events side deed) (cells_at ToStation side deed) (cells_at ToMaster side deed) most is h.sides l.side p other at (place == p) refl;
    }

master-issue : (e : MasterState NodeState) (src : Option ℕ) (dst : ℕ) (payload : List ℕ) (of_m : List master_fates.Event) (most : ℕ) (given : List Ending) → IsTrue (is_payload payload) → MasterEnds e of_m most given → MasterEnds (after_issue plain_node e src dst payload) of_m most given
master-issue e src dst payload of_m most given may m =
    let source = unwrap_or src e.host.initiator.node in
    let host = after_node_issue e.host source dst payload in
    record {
      past = m.past;
      came = master_past.changes m.past e host (issue-holds e.host source dst payload may (reached-carries node_host node_keeps e (master_giving.came-reached node_host m.past e m.came)).holds) m.came;
      events_are = m.events_are;
      numbers = m.numbers;
      carry = m.carry;
      few = m.few;
    }

line-step : (s : HalfState NodeState) (step : UnitStep) (of_m : List master_fates.Event) (of_s : ℕ → List slave_fates.Event) (to from : ℕ → List LaneCell) (most : ℕ) → May s step → most + 1 < 2 ^ 64 → LineEnds s of_m of_s to from most
    → LineEnds (after_step plain_node s step) (of_m ++ master_events s step) (λ p. of_s p ++ station_events p s step) (λ p. to p ++ arrived ToStation p s step) (λ p. from p ++ arrived ToMaster p s step) (most + 1)
line-step s (AtMaster (Issue src dst payload)) of_m of_s to from most may small h = record {
  given = h.given;
  master = rw (append-nil of_m) (master-issue s.master src dst payload of_m (most + 1) h.given may.0 (master-later s.master of_m most (most + 1) h.given (omega arith) h.master));
  sides = λ p side at. side-still h.given side (of_s p) (to p) (from p) most (h.sides p side at);
}
line-step s (AtMaster Give) of_m of_s to from most may small h =
    let cells = cells_given plain_node s.master in
    record {
      given = h.given ++ ends_in cells;
      master = rw (append-nil (master_fates.events_at node_host s.master master.Take)) (master-signal s.master of_m most h.given master.Take small h.master);
      sides = λ p side at.
          let was = from-map (joined cells) s.stations p side at in
          let old = h.sides p was.0 was.1 in
          let next : SideEnds (h.given ++ ends_in cells) (joined cells was.0) (of_s p) (to p) (from p) most = record { given = old.given; station = old.station; to_it = lane-joined (to p) was.0.to_it cells h.given old.to_it; from_it = old.from_it } in
          side-still (h.given ++ ends_in cells) side (of_s p) (to p) (from p) most (subst (λ (x : LineStationState). SideEnds (h.given ++ ends_in cells) x (of_s p) (to p) (from p) most) was.2 next);
    }
line-step s (AtMaster Tick) of_m of_s to from most may small h = record {
  given = h.given;
  master = rw (append-nil (master_fates.events_at node_host s.master master.Tick))
      (subst (λ (l : List Ending). MasterEnds (master.master_after node_host s.master master.Tick) (of_m ++ master_fates.events_at node_host s.master master.Tick) (most + 1) l) (append-nil h.given)
      (master-signal s.master of_m most h.given master.Tick small h.master));
  sides = λ p side at. side-still h.given side (of_s p) (to p) (from p) most (h.sides p side at);
}
line-step s (AtStation place deed) of_m of_s to from most may small h = with-step s place deed (slice_get s.stations place) of_m of_s to from most refl small h

-- the same, said otherwise
same-ends : (s : HalfState NodeState) (of_m now_m : List master_fates.Event) (of_s now_s : ℕ → List slave_fates.Event) (to now_to from now_from : ℕ → List LaneCell) (most later : ℕ) → of_m ≡ now_m → ((p : ℕ) → of_s p ≡ now_s p) → ((p : ℕ) → to p ≡ now_to p) → ((p : ℕ) → from p ≡ now_from p) → most ≤ later
    → LineEnds s of_m of_s to from most → LineEnds s now_m now_s now_to now_from later
same-ends s of_m now_m of_s now_s to now_to from now_from most later same_m same_s same_to same_from more h = record {
  given = h.given;
  master = subst (λ (l : List master_fates.Event). MasterEnds s.master l later h.given) same_m (master-later s.master of_m most later h.given more h.master);
  sides = λ p side at.
      let one = side-later h.given side (of_s p) (to p) (from p) most later more (h.sides p side at) in
      subst (λ (l : List LaneCell). SideEnds h.given side (now_s p) (now_to p) l later) (same_from p)
      (subst (λ (l : List LaneCell). SideEnds h.given side (now_s p) l (from p) later) (same_to p)
      (subst (λ (l : List slave_fates.Event). SideEnds h.given side l (to p) (from p) later) (same_s p) one));
}

line-steps : (steps : List UnitStep) (s : HalfState NodeState) (of_m : List master_fates.Event) (of_s : ℕ → List slave_fates.Event) (to from : ℕ → List LaneCell) (most : ℕ) → MayAll s steps → most + length steps < 2 ^ 64 → LineEnds s of_m of_s to from most
    → LineEnds (after_steps plain_node s steps) (of_m ++ over_steps master_events s steps) (λ p. of_s p ++ over_steps (station_events p) s steps) (λ p. to p ++ over_steps (arrived ToStation p) s steps) (λ p. from p ++ over_steps (arrived ToMaster p) s steps) (most + length steps)
line-steps [] s of_m of_s to from most may small h =
    same-ends s of_m (of_m ++ []) of_s (λ p. of_s p ++ []) to (λ p. to p ++ []) from (λ p. from p ++ []) most (most + 0) (sym (append-nil of_m)) (λ p. sym (append-nil (of_s p))) (λ p. sym (append-nil (to p))) (λ p. sym (append-nil (from p))) (omega arith) h
line-steps (step ∷ steps) s of_m of_s to from most may small h =
    let next = after_step plain_node s step in
    let one = line-step s step of_m of_s to from most may.0 (omega (arith, small)) h in
    let rest = line-steps steps next (of_m ++ master_events s step) (λ p. of_s p ++ station_events p s step) (λ p. to p ++ arrived ToStation p s step) (λ p. from p ++ arrived ToMaster p s step) (most + 1) may.1 (omega (arith, small)) one in
    same-ends (after_steps plain_node next steps) _ _ _ _ _ _ _ _ (most + 1 + length steps) (most + length (step ∷ steps)) (append_assoc of_m (master_events s step) (over_steps master_events next steps))
    (λ p. append_assoc (of_s p) (station_events p s step) (over_steps (station_events p) next steps)) (λ p. append_assoc (to p) (arrived ToStation p s step) (over_steps (arrived ToStation p) next steps))
    (λ p. append_assoc (from p) (arrived ToMaster p s step) (over_steps (arrived ToMaster p) next steps)) (omega arith) rest

-- ---- how many steps there are

length-copies : {X : Type 0} (n : ℕ) (x : X) → length (replicate n x) ≡ n
length-copies zero x = refl
length-copies (suc n) x = ap suc (length-copies n x)

with-most : (o : Option ℕ) (deeds : List LinkDeed) → length (steps_with o deeds) ≤ length deeds
with-most None deeds = omega arith
with-most (Some place) deeds = let same = length-map deeds (AtStation place) in omega (arith, same)

weight-some : (numbers : List ℕ) → 1 ≤ master_weight numbers
weight-some [] = omega arith
weight-some (number ∷ numbers) = omega arith

times-more : (n w : ℕ) → 1 ≤ w → n ≤ n * w
times-more n w some = grind arith

take-most : (numbers : List ℕ) (stations : List LineStationState) (who : Who) (n : ℕ) → length (steps_at stations (number_of who) (event.Take who n)) ≤ take_count numbers who n
take-most numbers stations A n = let same = length-map (replicate n Give) AtMaster in let copies = length-copies n Give in omega (arith, same, copies)
take-most numbers stations B n = let same = length-map (replicate n Give) AtMaster in let copies = length-copies n Give in omega (arith, same, copies)
take-most numbers stations M n =
    let same = length-map (replicate n Give) AtMaster in let copies = length-copies n Give in let more = times-more n (master_weight numbers) (weight-some numbers) in omega (arith, same, copies, more)
take-most numbers stations (S number) n = let most = with-most (place_of stations number) (replicate n StationGives) in let copies = length-copies n StationGives in omega (arith, most, copies)

lane-most : (numbers : List ℕ) (s : HalfState NodeState) (o : Option ℕ) (n : ℕ) (deed : LinkDeed) → length (steps_with o (replicate n deed)) ≤ n
lane-most numbers s o n deed = let most = with-most o (replicate n deed) in let copies = length-copies n deed in omega (arith, most, copies)

event-most : (numbers : List ℕ) (s : HalfState NodeState) (e : Event) → length (steps_of s e) ≤ half_count_of numbers e
event-most numbers s (event.Issue who src dst payload) = omega arith
event-most numbers s (event.Take who n) = take-most numbers s.stations who n
event-most numbers s (event.Deliver lane n) = lane-most numbers s _ n _
event-most numbers s (event.Lose lane n) = lane-most numbers s _ n _
event-most numbers s (event.Alter lane mask) = with-most (place_of s.stations (station_between lane.from lane.to)) (link_deeds (event.Alter lane mask))
event-most numbers s (event.Foreign lane bytes) = let most = with-most (place_of s.stations (station_between lane.from lane.to)) (link_deeds (event.Foreign lane bytes)) in let same = length-map bytes (λ (byte : ℕ). OnLane (way_from lane.from) (Foreign byte)) in omega (arith, most, same)
event-most numbers s (event.Tick who n) = let same = length-map (replicate n Tick) AtMaster in let copies = length-copies n Tick in omega (arith, same, copies)

-- ---- events

line-events : (numbers : List ℕ) (events : List Event) (s : HalfState NodeState) (of_m : List master_fates.Event) (of_s : ℕ → List slave_fates.Event) (to from : ℕ → List LaneCell) (most : ℕ) → All (IsHalfPossible numbers) events → issued_by plain_node s.master + count_by is_issue events ≤ 65535
    → most + sum_by (half_count_of numbers) events ≤ 5000000 → LineEnds s of_m of_s to from most
    → LineEnds (state_after plain_node s events) (of_m ++ over_events master_events s events) (λ p. of_s p ++ over_events (station_events p) s events) (λ p. to p ++ over_events (arrived ToStation p) s events) (λ p. from p ++ over_events (arrived ToMaster p) s events) 5000000
line-events numbers [] s of_m of_s to from most possible few small h =
    same-ends s of_m (of_m ++ []) of_s (λ p. of_s p ++ []) to (λ p. to p ++ []) from (λ p. from p ++ []) most 5000000 (sym (append-nil of_m)) (λ p. sym (append-nil (of_s p))) (λ p. sym (append-nil (to p))) (λ p. sym (append-nil (from p))) (omega (arith, small)) h
line-events numbers (e ∷ events) s of_m of_s to from most possible few small h =
    let next = after_event plain_node s e in
    let steps = steps_of s e in
    let weight = event-most numbers s e in
    let sum = sum_by-cons (half_count_of numbers) e events in
    let one = line-steps steps s of_m of_s to from most (event-may numbers s e (All-head (IsHalfPossible numbers) e events possible) (unspent plain_node s e events few)) (omega (arith, small, sum, weight)) h in
    let rest = line-events numbers events next _ _ _ _ (most + length steps) (All-tail (IsHalfPossible numbers) e events possible) (room-of-m s e events few) (omega (arith, small, sum, weight)) one in
    same-ends (state_after plain_node next events) _ _ _ _ _ _ _ _ 5000000 5000000 (append_assoc of_m (over_steps master_events s steps) (over_events master_events next events))
    (λ p. append_assoc (of_s p) (over_steps (station_events p) s steps) (over_events (station_events p) next events)) (λ p. append_assoc (to p) (over_steps (arrived ToStation p) s steps) (over_events (arrived ToStation p) next events))
    (λ p. append_assoc (from p) (over_steps (arrived ToMaster p) s steps) (over_events (arrived ToMaster p) next events)) (omega arith) rest

-- ---- the order

in-order : (bodies : List (List ℕ)) (came lane : List LaneCell) (given : List Ending) (k : ℕ) → map (λ (e : Ending). e.number) given ≡ counted_to k → Carry bodies given → LaneHolds came lane given → AreInOrder bodies came lane
in-order bodies came lane given k numbers carry within =
    let ends = ends_in came ++ ends_in lane in
    record {
      rise = increasing 0 (map (λ (e : Ending). e.number) ends)
          (rise-within 0 (map (λ (e : Ending). e.number) ends) (map (λ (e : Ending). e.number) given) (within-map (λ (e : Ending). e.number) ends given within) (subst (RiseFrom 0) (sym numbers) (counted-rise k)));
      carry = λ n d inside. carry _ (within-has ends given _ within (n, slice_get-get_or ends n d inside));
    }

master-numbers : (e : MasterState NodeState) (events : List master_fates.Event) (most : ℕ) (given : List Ending) → most < 2 ^ 64 → MasterEnds e events most given → (k : ℕ) × (map (λ (x : Ending). x.number) given ≡ counted_to k)
master-numbers e events most given small m =
    let few : length (master_past.transmissions m.past.events) < 2 ^ 64 = (let was = m.few in subst (λ (l : List master_fates.Event). length (master_past.transmissions l) < 2 ^ 64) (sym m.events_are) (omega (arith, was, small))) in
    elim (master_giving.came-ended node_host node_keeps m.past e m.came few) as (λ _. (k : ℕ) × (map (λ (x : Ending). x.number) given ≡ counted_to k)) [ inl all ↦ (length (master_past.transmissions m.past.events), m.numbers ∙ all) | inr but ↦ (length (master_past.transmissions m.past.events) - 1, m.numbers ∙ but) ]

station-numbers : (side : LineStationState) (events : List slave_fates.Event) (most : ℕ) (given : List Ending) → most < 2 ^ 64 → StationEnds side.slave events most given → (k : ℕ) × (map (λ (x : Ending). x.number) given ≡ counted_to k)
station-numbers side events most given small m =
    let few : length (slave_past.transmissions m.past.events) < 2 ^ 64 = (let was = m.few in subst (λ (l : List slave_fates.Event). length (slave_past.transmissions l) < 2 ^ 64) (sym m.events_are) (omega (arith, was, small))) in
    elim (slave_giving.came-ended node_host slave_keeps m.past side.slave m.came few) as (λ _. (k : ℕ) × (map (λ (x : Ending). x.number) given ≡ counted_to k)) [ inl all ↦ (length (slave_past.transmissions m.past.events), m.numbers ∙ all) | inr but ↦ (length (slave_past.transmissions m.past.events) - 1, m.numbers ∙ but) ]

-- ---- the whole

start-ends : (script : Script) → IsHalfPlayable script → LineEnds (start script) [] (λ p. []) (λ p. []) (λ p. []) 0
start-ends script playable = record {
  given = [];
  master = record { past = master_past.no_past; came = start-came script playable; events_are = refl; numbers = refl; carry = λ e has. absurd (let no = has.1 in cc); few = omega arith };
  sides = λ p side at.
      let plan = from-map (first_side script.check) (station_plans script.ends) p side at in
      subst (λ (x : LineStationState). SideEnds [] x [] [] [] 0) plan.2 (record {
        given = [];
        station = record { past = slave_past.no_past; came = station-came script playable p plan.0 plan.1; events_are = refl; numbers = refl; carry = λ e has. absurd (let no = has.1 in cc); few = omega arith };
        to_it = nothing;
        from_it = nothing;
      });
}

pub all-in-order : (script : Script) → IsHalfPlayable script → AreAllInOrder script
all-in-order script playable place side at =
    let h = line-events (numbers_of script.ends) script.events (start script) [] (λ p. []) (λ p. []) (λ p. []) 0 playable.events (omega (arith, playable.commands)) (omega (arith, playable.sum)) (start-ends script playable) in
    let this = h.sides place side at in
    let of_m = master-numbers (last_state script).master (over_events master_events (start script) script.events) 5000000 h.given (omega arith) h.master in
    let of_s = station-numbers side (over_events (station_events place) (start script) script.events) 5000000 this.given (omega arith) this.station in
    record {
      to_it = in-order (transmissions_of_m script) (over_events (arrived ToStation place) (start script) script.events) side.to_it h.given of_m.0 of_m.1 h.master.carry this.to_it;
      from_it = in-order (transmissions_of script place) (over_events (arrived ToMaster place) (start script) script.events) side.from_it this.given of_s.0 of_s.1 this.station.carry this.from_it;
    }
