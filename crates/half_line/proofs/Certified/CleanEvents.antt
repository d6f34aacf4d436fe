-- Events that lose, alter and add no byte, of which a test tells.
use Rattle.std.proofs.Common.{◌≡◌, ℕ, zero, suc, true, false, List, [], ◌∷◌, map, Option, Some, None, refl, arith, subst, sym}
use Rattle.std.specs.Prelude.{Contains, IsTrue, Bool, replicate, slice_get}
use Rattle.df1_node.specs.Node.{NodeState}
use Rattle.script_statement.specs.declared.who.Who.{Who}
use Rattle.script_parts.specs.declared.script.Event.{Event}
use Rattle.script_parts.specs.declared.script.Event.TheVariants as event
use Rattle.half_line.specs.Behind.{plain_node}
use Rattle.half_line.specs.declared.way.Way.{Way}
use Rattle.half_line.specs.Acts.{LineStationState, HalfState, MasterDeed, Give, Tick, LinkDeed, StationGives, OnLane, Deliver}
use Rattle.half_line.specs.Certified.{AreGentleOver, AreGentleAfter}
use Rattle.half_line.specs.Prompt.{IsGentleWith}
use Rattle.half_line.specs.Run.{place_of, number_of, station_between, way_from, steps_with, steps_at, steps_of, after_event}
use Rattle.half_line.specs.Steps.{AtMaster, AtStation, after_step}

abbrev pub is_clean : Event → Bool
is_clean (event.Lose lane n) = false
is_clean (event.Alter lane mask) = false
is_clean (event.Foreign lane bytes) = false
is_clean other = true

abbrev pub AreClean : List Event → Type 0
AreClean [] = Unit {0}
AreClean (e ∷ events) = IsTrue (is_clean e) × AreClean events

master-gentle : (deed : MasterDeed) (n : ℕ) (s : HalfState NodeState) → AreGentleOver s (map AtMaster (replicate n deed))
master-gentle deed zero s = tt
master-gentle deed (suc n) s = (tt, master-gentle deed n (after_step plain_node s (AtMaster deed)))

station-gentle : (deed : LinkDeed) → ((o : Option LineStationState) → IsGentleWith deed o) → (place n : ℕ) (s : HalfState NodeState) → AreGentleOver s (map (AtStation place) (replicate n deed))
station-gentle deed each place zero s = tt
station-gentle deed each place (suc n) s = (each (slice_get s.stations place), station-gentle deed each place n (after_step plain_node s (AtStation place deed)))

with-gentle : (deed : LinkDeed) → ((o : Option LineStationState) → IsGentleWith deed o) → (place : Option ℕ) (n : ℕ) (s : HalfState NodeState) → AreGentleOver s (steps_with place (replicate n deed))
with-gentle deed each None n s = tt
with-gentle deed each (Some place) n s = station-gentle deed each place n s

gives-gentle : (o : Option LineStationState) → IsGentleWith StationGives o
gives-gentle None = tt
gives-gentle (Some side) = tt

deliver-gentle : (way : Way) (o : Option LineStationState) → IsGentleWith (OnLane way Deliver) o
deliver-gentle way None = tt
deliver-gentle way (Some side) = tt

take-gentle : (who : Who) (n : ℕ) (number : Option ℕ) (s : HalfState NodeState) → AreGentleOver s (steps_at s.stations number (event.Take who n))
take-gentle who n None s = master-gentle Give n s
take-gentle who n (Some number) s = with-gentle StationGives gives-gentle (place_of s.stations number) n s

event-gentle : (e : Event) (s : HalfState NodeState) → IsTrue (is_clean e) → AreGentleOver s (steps_of s e)
event-gentle (event.Issue who src dst payload) s clean = (tt, tt)
event-gentle (event.Take who n) s clean = take-gentle who n (number_of who) s
event-gentle (event.Deliver lane n) s clean = with-gentle (OnLane (way_from lane.from) Deliver) (deliver-gentle (way_from lane.from)) (place_of s.stations (station_between lane.from lane.to)) n s
event-gentle (event.Lose lane n) s clean = absurd cc
event-gentle (event.Alter lane mask) s clean = absurd cc
event-gentle (event.Foreign lane bytes) s clean = absurd cc
event-gentle (event.Tick who n) s clean = master-gentle Tick n s

pub all-gentle : (events : List Event) (s : HalfState NodeState) → AreClean events → AreGentleAfter s events
all-gentle [] s clean = tt
all-gentle (e ∷ events) s clean = (event-gentle e s clean.0, all-gentle events (after_event plain_node s e) clean.1)

pub one-of-one : {X : Type 0} (xs : List X) (x : X) → xs ≡ x ∷ [] → Contains xs x
one-of-one xs x is = subst (λ (all : List _). Contains all x) (sym is) (0, omega arith, refl)
