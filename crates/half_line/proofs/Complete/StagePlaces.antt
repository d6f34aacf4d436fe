-- A stage with one station as it is now, and after a byte of the master: each station stands at its place.
use Rattle.std.proofs.Common.{◌≡◌, ◌∙◌, ℕ, Bool, true, false, List, [], ◌∷◌, map, Option, Some, is_none, refl, ap, sym, subst}
use Rattle.std.specs.Prelude.{◌==◌, slice_get, slice_set}
use Rattle.std.specs.Option.{option_map}
use Rattle.std.specs.List.{list_all}
use Rattle.std.proofs.lemmas.Bool.{eqb-true, eqb-false}
use Rattle.std.proofs.lemmas.Option.{slice_get-map}
use Rattle.df1_node.specs.Node.{NodeState}
use Rattle.half_frame.specs.declared.framer.Sent.{Sent}
use Rattle.half_mouth.specs.Giving.{Giving, take}
use Rattle.half_master.specs.Master as master
use Rattle.half_master.specs.Master.{MasterState, given_next, begun}
use Rattle.half_master.proofs.Changes.{take-waiting}
use Rattle.each_once.specs.NodeHost.{node_host}
use Rattle.each_once.proofs.Sublists.{same-some, from-map}
use Rattle.half_line.specs.Acts.{LineStationState, HalfState, after_take}
use Rattle.half_line.specs.Prompt.{is_idle, is_quiet}
use Rattle.half_line.proofs.Once.Places.{set-same, set-other}
use Rattle.half_line.proofs.Complete.Stages.{SideRests, AllRest, Awaited, Receipt, Polling, Ack, Eot, Message, SideCalled, Expects, Waits, Now, Idles, Awaits, Stage, waits-busy, expects-busy, both}
use Rattle.half_line.proofs.Complete.StageSteps.{rests-gives, called-gives, with_given, rests-given, called-given}

-- ---- each station, by one of them and the others

pub each-place : (P : ℕ → LineStationState → Type 0) (stations : List LineStationState) (place : ℕ) (now : LineStationState) → slice_get stations place ≡ Some now → P place now → ((p : ℕ) (other : LineStationState) → slice_get stations p ≡ Some other → (p ≡ place → ⊥) → P p other)
    → (p : ℕ) (side : LineStationState) → slice_get stations p ≡ Some side → P p side
each-place P stations place now is here others p side at = by-place (p == place) refl
  where
    by-place : (same : Bool) → (p == place) ≡ same → P p side
    by-place true same =
        let there = eqb-true p place same in
        let side_is : now ≡ side = same-some now side (sym is ∙ ap (slice_get stations) (sym there) ∙ at) in
        subst (λ (n : ℕ). P n side) (sym there) (subst (P place) side_is here)
    by-place false same = others p side at (eqb-false p place same)

-- ---- one station is another now

-- what a place holds then: the new one there, and the old ones elsewhere
pub at-place : (P : ℕ → LineStationState → Type 0) (stations : List LineStationState) (place : ℕ) (was now : LineStationState) → slice_get stations place ≡ Some was → P place now → ((p : ℕ) (other : LineStationState) → slice_get stations p ≡ Some other → (p ≡ place → ⊥) → P p other)
    → (p : ℕ) (side : LineStationState) → slice_get (slice_set stations place now) p ≡ Some side → P p side
at-place P stations place was now is new others =
    each-place P (slice_set stations place now) place now (set-same stations place was now is) new (λ p other at differ. others p other (sym (set-other stations place p now differ) ∙ at) differ)

-- nothing is awaited of any
pub set-rests : (m : MasterState NodeState) (stations : List LineStationState) (place : ℕ) (was now : LineStationState) → slice_get stations place ≡ Some was → SideRests m now → AllRest m stations → AllRest m (slice_set stations place now)
set-rests m stations place was now is new all = at-place (λ p side. SideRests m side) stations place was now is new (λ p other at differ. all p other at)

-- the reply was heard, and nothing is awaited of any then
pub set-settled : (m after : MasterState NodeState) (stations : List LineStationState) (place : ℕ) (awaited : Awaited) (now : LineStationState) → (e : Expects m stations place awaited) → SideRests after now → ((other : LineStationState) → SideRests m other → SideRests after other)
    → AllRest after (slice_set stations place now)
set-settled m after stations place awaited now e new goes = at-place (λ p side. SideRests after side) stations place e.side now e.is_at new (λ p other at differ. goes other (e.others p other at differ))

-- something is awaited of this one, be it what was awaited before or not
pub set-called : (m : MasterState NodeState) (stations : List LineStationState) (place : ℕ) (before awaited : Awaited) (now : LineStationState) → (e : Expects m stations place before) → SideCalled m now awaited → Expects m (slice_set stations place now) place awaited
set-called m stations place before awaited now e called = record {
  side = now;
  is_at = set-same stations place e.side now e.is_at;
  called = called;
  others = λ p other at differ. e.others p other (sym (set-other stations place p now differ) ∙ at) differ;
}

-- another changed
pub set-another : (m : MasterState NodeState) (stations : List LineStationState) (place q : ℕ) (awaited : Awaited) (was now : LineStationState) → slice_get stations q ≡ Some was → (q ≡ place → ⊥) → (e : Expects m stations place awaited) → SideRests m now
    → Expects m (slice_set stations q now) place awaited
set-another m stations place q awaited was now is differ e new = record {
  side = e.side;
  is_at = set-other stations q place now (λ same. differ (sym same)) ∙ e.is_at;
  called = e.called;
  others = at-place (λ p side. (p ≡ place → ⊥) → SideRests m side) stations q was now is (λ other. new) (λ p other at elsewhere. e.others p other at);
}

-- ---- a station gives a byte

expects-gives : (m : MasterState NodeState) (stations : List LineStationState) (place q : ℕ) (awaited : Awaited) (side : LineStationState) → slice_get stations q ≡ Some side → Expects m stations place awaited → (same : Bool) → (q == place) ≡ same
    → Expects m (slice_set stations q (after_take side)) place awaited
expects-gives m stations place q awaited side is e true same =
    let here = eqb-true q place same in
    let side_is : e.side ≡ side = same-some e.side side (sym e.is_at ∙ ap (slice_get stations) (sym here) ∙ is) in
    subst (λ (n : ℕ). Expects m (slice_set stations n (after_take side)) place awaited) (sym here)
    (set-called m stations place awaited awaited (after_take side) e (called-gives m side awaited (subst (λ (s : LineStationState). SideCalled m s awaited) side_is e.called)))
expects-gives m stations place q awaited side is e false same =
    let differ = eqb-false q place same in
    set-another m stations place q awaited side (after_take side) is differ e (rests-gives m side (e.others q side is differ))

pub stage-gives : (late : ℕ) (m : MasterState NodeState) (stations : List LineStationState) (now : Now) (q : ℕ) (side : LineStationState) → slice_get stations q ≡ Some side → Stage late m stations now → Stage late m (slice_set stations q (after_take side)) now
stage-gives late m stations Idles q side is s = record { idle = s.idle; outside = s.outside; rest = set-rests m stations q side (after_take side) is (rests-gives m side (s.rest q side is)) s.rest }
stage-gives late m stations (Awaits place awaited) q side is s = record { waits = s.waits; expects = expects-gives m stations place q awaited side is s.expects (q == place) refl }

-- ---- the master gives a byte of what it has begun

pub at-given : (e : MasterState NodeState) (stations : List LineStationState) (p : ℕ) (side : LineStationState) → slice_get (map (with_given e) stations) p ≡ Some side → (was : LineStationState) × (slice_get stations p ≡ Some was) × (with_given e was ≡ side)
at-given e stations p side at =
    let found = from-map (with_given e) stations p side at in
    (found.0, found.1, same-some (with_given e found.0) side (sym (slice_get-map (with_given e) stations p ∙ ap (option_map (with_given e)) found.1) ∙ at))

all-given : (e : MasterState NodeState) (stations : List LineStationState) → AllRest e stations → AllRest (given_next e) (map (with_given e) stations)
all-given e stations all p side at =
    let was = at-given e stations p side at in
    subst (SideRests (given_next e)) was.2 (rests-given e was.0 (all p was.0 was.1))

expects-given : (e : MasterState NodeState) (stations : List LineStationState) (place : ℕ) (awaited : Awaited) → Expects e stations place awaited → Expects (given_next e) (map (with_given e) stations) place awaited
expects-given e stations place awaited x = record {
  side = with_given e x.side;
  is_at = slice_get-map (with_given e) stations place ∙ ap (option_map (with_given e)) x.is_at;
  called = called-given e x.side awaited x.called;
  others = λ p other at differ.
      let was = at-given e stations p other at in
      subst (SideRests (given_next e)) was.2 (rests-given e was.0 (x.others p was.0 was.1 differ));
}

waits-given : (late : ℕ) (e : MasterState NodeState) (place : ℕ) (awaited : Awaited) → Waits late e place awaited → Waits late (given_next e) place awaited
waits-given late e place (Receipt body) w = record { left = w.left; resent = w.resent; phase = w.phase; patient = w.patient }
waits-given late e place Ack w = record { left = w.left; resent = w.resent; phase = w.phase; patient = w.patient }
waits-given late e place Polling w = record { left = w.left; phase = w.phase; patient = w.patient }
waits-given late e place Eot w = record { left = w.left; phase = w.phase; patient = w.patient }
waits-given late e place (Message body) w = record { left = w.left; phase = w.phase; patient = w.patient }

pub stage-given : (late : ℕ) (e : MasterState NodeState) (stations : List LineStationState) (now : Now) → Stage late e stations now → Stage late (given_next e) (map (with_given e) stations) now
stage-given late e stations Idles s = record { idle = s.idle; outside = s.outside; rest = all-given e stations s.rest }
stage-given late e stations (Awaits place awaited) s = record { waits = waits-given late e place awaited s.waits; expects = expects-given e stations place awaited s.expects }

-- ---- a line on which something is awaited isn't quiet

pub none-given : (left : List Sent) (number : Option ℕ) (begun : ℕ) → let g : Giving = record { left = left; number = number; begun = begun } in is_none (take g).1 ≡ true → left ≡ []
none-given [] number begun none = refl
none-given (x ∷ left) number begun none = absurd cc

pub awaits-busy : (late : ℕ) (s : HalfState NodeState) (place : ℕ) (awaited : Awaited) → Stage late s.master s.stations (Awaits place awaited) → is_quiet s ≡ true → ⊥
awaits-busy late s place awaited a quiet =
    let parts = both (is_none (master.out_at_take node_host s.master)) (list_all is_idle s.stations) quiet in
    let waiting = waits-busy late s.master place awaited a.waits in
    let none : is_none (take s.master.mouth).1 ≡ true = ap (λ (m : MasterState NodeState). is_none (take m.mouth).1) (sym (take-waiting node_host s.master waiting)) ∙ parts.0 in
    expects-busy s.master s.stations place awaited (none-given s.master.mouth.left s.master.mouth.number s.master.mouth.begun none) a.expects parts.1

-- so where the line is quiet, how many ticks were late doesn't matter
pub stage-quiet : (late other : ℕ) (s : HalfState NodeState) (now : Now) → is_quiet s ≡ true → Stage late s.master s.stations now → Stage other s.master s.stations now
stage-quiet late other s Idles quiet stage = stage
stage-quiet late other s (Awaits place awaited) quiet stage = absurd (awaits-busy late s place awaited stage quiet)
