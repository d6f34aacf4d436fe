-- In a half-duplex run in which no end is deceived the master never holds a command whose outcome is known.
use Rattle.std.proofs.Common.{◌≡◌, ◌∙◌, inl, inr, ℕ, zero, suc, ◌≤◌, Bool, true, false, List, [], ◌∷◌, ◌++◌, map, Option, Some, None, slice_get, refl, sym, ap, subst, append-nil, append_assoc}
use Rattle.std.specs.Prelude.{replicate}
use Rattle.df1_node.specs.Initiator.{Issued}
use Rattle.df1_node.specs.Node.{NodeState}
use Rattle.each_once.proofs.HandedOut.{numbered-at}
use Rattle.each_once.proofs.RisingPlaces.{are-apart}
use Rattle.each_once.proofs.Sublists.{from-map}
use Rattle.half_line.specs.Acts.{LineStationState, HalfState, LinkState, LinkDeed, Issue, Give, Tick, Deliver, Lose, Alter, Foreign, StationGives, OnLane, lane_of, arriving, after_arrival, moved, after_link_deed}
use Rattle.half_line.specs.Behind.{plain_node}
use Rattle.half_line.specs.declared.way.Way.{Way}
use Rattle.half_line.specs.declared.way.Way.TheVariants.{ToStation, ToMaster}
use Rattle.half_line.specs.Issues.{issued_of}
use Rattle.half_line.specs.Run.{number_of, station_between, way_from, place_of, steps_with, steps_of, start, after_event, state_after, last_state}
use Rattle.half_line.specs.Steps.{UnitStep, AtMaster, AtStation, link_of, after_with, after_step, after_steps}
use Rattle.half_line.proofs.Once.WholeRun.{IsPlain, ArePlain, plain-with, plain-master, plain-take}
use Rattle.half_master.specs.Master.{MasterState}
use Rattle.half_master.proofs.LastMessage.{Gives}
use Rattle.half_mouth.specs.Giving.{Giving, is_done}
use Rattle.lane_cells.specs.Cells.{LaneCell}
use Rattle.run_laws.specs.Overtaking.{with_events}
use Rattle.run_laws.proofs.Cut.{half-front, half-earlier}
use Rattle.pccc_envelope.specs.Envelope.{is_reply}
use Rattle.script_parts.specs.declared.script.Event.{Event}
use Rattle.script_parts.specs.declared.script.Event.TheVariants as event
use Rattle.script_parts.specs.declared.script.Script.{Script}
use Rattle.script_parts.specs.HalfPlayable.{IsHalfPlayable}
use Rattle.run_laws.specs.NotHeld.{HoldsNoneSettled, NoSettledIsHeld}
use Rattle.run_laws.specs.Over.{GivesNone, MasterHoldsNot}
use Rattle.run_laws.proofs.KnownNode.{Known}
use Rattle.run_laws.proofs.OverAtPolledCut.{few-commands, holds-at, state-both}
use Rattle.run_laws.proofs.OverMaster.{Free, same-wait}
use Rattle.run_laws.proofs.SettledMaster.{SettledMaster, settled-byte, settled-tick, settled-take, settled-issue}

-- ---- unit steps

arrival-keeps : (way : Way) (s : LinkState NodeState) (o : Option LaneCell) → SettledMaster s.master → SettledMaster (after_arrival plain_node way s o).master
arrival-keeps way s None m = m
arrival-keeps ToStation s (Some cell) m = m
arrival-keeps ToMaster s (Some cell) m = settled-byte s.master cell.byte m

link-keeps : (s : LinkState NodeState) (deed : LinkDeed) → SettledMaster s.master → SettledMaster (after_link_deed plain_node s deed).master
link-keeps s StationGives m = m
link-keeps s (OnLane way deed) m = arrival-keeps way (moved way s deed) (arriving (lane_of way s.side) deed) m

with-keeps : (s : HalfState NodeState) (place : ℕ) (deed : LinkDeed) (o : Option LineStationState) → SettledMaster s.master → SettledMaster (after_with plain_node s place deed o).master
with-keeps s place deed None m = m
with-keeps s place deed (Some side) m = link-keeps (link_of s side) deed m

step-keeps : (step : UnitStep) → IsPlain step → (s : HalfState NodeState) → SettledMaster s.master → SettledMaster (after_step plain_node s step).master
step-keeps (AtMaster (Issue src dst payload)) plain s m = absurd plain
step-keeps (AtMaster Give) plain s m = settled-take s.master m
step-keeps (AtMaster Tick) plain s m = settled-tick s.master m
step-keeps (AtStation place deed) plain s m = with-keeps s place deed (slice_get s.stations place) m

steps-keep : (steps : List UnitStep) → ArePlain steps → (s : HalfState NodeState) → SettledMaster s.master → SettledMaster (after_steps plain_node s steps).master
steps-keep [] plain s m = m
steps-keep (step ∷ steps) plain s m = steps-keep steps plain.1 (after_step plain_node s step) (step-keeps step plain.0 s m)

-- ---- events

links-keep : (s : HalfState NodeState) (number : ℕ) (deeds : List LinkDeed) → SettledMaster s.master → SettledMaster (after_steps plain_node s (steps_with (place_of s.stations number) deeds)).master
links-keep s number deeds m = steps-keep (steps_with (place_of s.stations number) deeds) (plain-with (place_of s.stations number) deeds) s m

event-keeps : (s : HalfState NodeState) (e : Event) → Known (after_event plain_node s e).master.host → SettledMaster s.master → SettledMaster (after_event plain_node s e).master
event-keeps s (event.Issue who src dst payload) known m = settled-issue s.master src dst payload known m
event-keeps s (event.Take who n) known m = steps-keep (steps_of s (event.Take who n)) (plain-take s.stations who n (number_of who)) s m
event-keeps s (event.Deliver lane n) known m = links-keep s (station_between lane.from lane.to) (replicate n (OnLane (way_from lane.from) Deliver)) m
event-keeps s (event.Lose lane n) known m = links-keep s (station_between lane.from lane.to) (replicate n (OnLane (way_from lane.from) Lose)) m
event-keeps s (event.Alter lane mask) known m = links-keep s (station_between lane.from lane.to) (OnLane (way_from lane.from) (Alter mask) ∷ []) m
event-keeps s (event.Foreign lane bytes) known m = links-keep s (station_between lane.from lane.to) (map (λ byte. OnLane (way_from lane.from) (Foreign byte)) bytes) m
event-keeps s (event.Tick who n) known m = steps-keep (steps_of s (event.Tick who n)) (plain-master Tick tt n) s m

-- ---- a run

abbrev state_at : Script → List Event → HalfState NodeState
state_at script events = state_after plain_node (start script) events

known-last : (script : Script) → IsHalfPlayable script → (last_state script).deceived ≡ 0 → Known (last_state script).master.host
known-last script playable none =
    let h = (holds-at script playable none).1 in
    let m = (last_state script).master in
    let i = m.host.initiator in
    record {
      apart = are-apart i.tns (issued_of m) (subst (λ (n : ℕ). n ≤ 65535) (sym h.master.count_is) (few-commands script playable)) h.master.issues.initiates.numbered;
      plain = λ p body at.
          let c = from-map (λ (x : Issued). x.body) i.issued p body at in
          ap is_reply (sym c.2) ∙ (numbered-at i.tns 0 i.issued p c.0 h.master.issues.initiates.numbered c.1).1;
      replies = rw h.master.issues.replies tt;
    }

known-at : (script : Script) → IsHalfPlayable script → (last_state script).deceived ≡ 0 → (front back : List Event) → script.events ≡ front ++ back → Known (state_at script front).master.host
known-at script playable none front back is =
    known-last (with_events script front) (half-front script front back playable is) (half-earlier (start script) front back (subst (λ (events : List Event). (state_at script events).deceived ≡ 0) is none))

first-master : (script : Script) → SettledMaster (start script).master
first-master script = record { known = record { apart = λ p q body at. absurd cc; plain = λ p body at. absurd cc; replies = tt }; holds_not = λ body so. absurd (let at = so.is_at in cc) }

-- the events of the front, one after another
master-at : (script : Script) → IsHalfPlayable script → (last_state script).deceived ≡ 0 → (front mid back : List Event) → script.events ≡ (front ++ mid) ++ back → SettledMaster (state_at script front).master → SettledMaster (state_at script (front ++ mid)).master
master-at script playable none front [] back is m = subst (λ (l : List Event). SettledMaster (state_at script l).master) (sym (append-nil front)) m
master-at script playable none front (e ∷ mid) back is m =
    let seam : front ++ e ∷ mid ≡ (front ++ e ∷ []) ++ mid = sym (append_assoc front (e ∷ []) mid) in
    let events : script.events ≡ ((front ++ e ∷ []) ++ mid) ++ back = is ∙ ap (λ (l : List Event). l ++ back) seam in
    let next : state_at script (front ++ e ∷ []) ≡ after_event plain_node (state_at script front) e = state-both (start script) front (e ∷ []) in
    let known = subst (λ (t : HalfState NodeState). Known t.master.host) next (known-at script playable none (front ++ e ∷ []) (mid ++ back) (events ∙ append_assoc (front ++ e ∷ []) mid back)) in
    subst (λ (l : List Event). SettledMaster (state_at script l).master) (sym seam)
    (master-at script playable none (front ++ e ∷ []) mid back events (subst (λ (t : HalfState NodeState). SettledMaster t.master) (sym next) (event-keeps (state_at script front) e known m)))

-- ---- what it holds

gives-none : (g : Giving) → (Gives g → ⊥) → GivesNone g
gives-none g none = by (is_done g) refl g.number refl
  where
    by : (done : Bool) → is_done g ≡ done → (o : Option ℕ) → g.number ≡ o → GivesNone g
    by true is o number = inl is
    by false is None number = inr number
    by false is (Some n) number = absurd (none (n, number, is))

holds-not-of : (body : List ℕ) (m : MasterState NodeState) → Free body m → MasterHoldsNot m body
holds-not-of body m (inl rests) = inl (same-wait m.phase ∙ rests.0, gives-none m.mouth rests.1)
holds-not-of body m (inr apart) = inr apart

none-held : (m : MasterState NodeState) → SettledMaster m → HoldsNoneSettled m
none-held m s zero c at settled = absurd cc
none-held m s (suc p) c at settled = holds-not-of c.body m (s.holds_not c.body (record { place = p; command = c; is_at = at; stands = settled; has_body = refl }))

pub no-settled-held : (script : Script) → IsHalfPlayable script → (last_state script).deceived ≡ 0 → NoSettledIsHeld script
no-settled-held script playable none front back is = none-held (state_at script front).master (master-at script playable none [] front back is (first-master script))
