-- What a master waits for, and how its stations stand then, on a line that nothing disturbs; and that such a line is quiet only where the master waits for nothing.
use Rattle.std.proofs.Common.{◌≡◌, ◌∙◌, ℕ, ◌+◌, ◌≤◌, zero, suc, Bool, true, false, is_none, List, [], ◌∷◌, ◌++◌, Option, Some, refl, ap, sym, subst}
use Rattle.std.specs.Prelude.{◌&&◌, slice_get}
use Rattle.std.specs.List.{list_all}
use Rattle.half_frame.specs.declared.framer.Sent.{Sent}
use Rattle.half_frame.specs.declared.heard.SlaveHeard.TheVariants as station_hears
use Rattle.half_frame.specs.declared.heard.MasterHeard.TheVariants as master_hears
use Rattle.half_mouth.specs.Giving.{Giving, take}
use Rattle.half_master.specs.declared.table.Phase.TheVariants as phase
use Rattle.half_master.specs.Master.{MasterState}
use Rattle.half_master.specs.Master as master
use Rattle.half_slave.specs.Slave as slave
use Rattle.half_slave.specs.Slave.{SlaveState}
use Rattle.df1_node.specs.Node.{NodeState}
use Rattle.lane_cells.specs.Cells.{LaneCell}
use Rattle.each_once.proofs.Sublists.{same-some}
use Rattle.half_line.specs.Acts.{LineStationState}
use Rattle.half_line.specs.Prompt.{is_idle}
use Rattle.half_line.proofs.Complete.ComingCells.{cells_of, coming}
use Rattle.half_line.proofs.Complete.EarHears.{Telling, told, Hears}
use Rattle.half_line.proofs.Complete.StationHears.{station_ear}
use Rattle.half_line.proofs.Complete.MasterHears.{IsOutside, master_ear}
use Rattle.half_line.proofs.Complete.StationRests.{Rests, Called}
use Rattle.half_line.proofs.Complete.StationAnswers.{giving_of, back, Answers}

-- ---- one station

-- the cells that a station will hear: those on their way to it, and those that the master is still to give
abbrev pub tape : MasterState NodeState → LineStationState → List LaneCell
tape m side = side.to_it ++ coming m.mouth m.sending

-- nothing of it is awaited, and nothing of it is on its way
pub record SideRests (m : MasterState NodeState) (side : LineStationState) : Type 0 where
  pub own : side.slave.setup.station ≡ side.number
  pub check : side.slave.ear.check ≡ m.ear.check
  pub line : side.slave.setup.check ≡ m.ear.check
  pub rests : Rests side.slave (tape m side)
  pub none_back : side.from_it ≡ []

-- what is awaited of a station: that it hears this message, or a poll of it; or that the master hears its ACK, its EOT, or this message of it
pub data Awaited : Type 0 where
  Receipt : (body : List ℕ) → Awaited
  Polling : Awaited
  Ack : Awaited
  Eot : Awaited
  Message : (body : List ℕ) → Awaited

-- the things by which it is called, and those that the master hears then
abbrev pub a_message : ℕ → List ℕ → Telling station_ear
a_message number body = told station_ear (station_hears.Addressed number) body

abbrev pub a_poll : ℕ → Telling station_ear
a_poll number = told station_ear (station_hears.Poll number) []

abbrev pub an_ack : Telling master_ear
an_ack = told master_ear master_hears.Ack []

abbrev pub an_eot : Telling master_ear
an_eot = told master_ear master_hears.Eot []

abbrev pub a_reply : List ℕ → Telling master_ear
a_reply body = told master_ear master_hears.Good body

-- it hasn't heard its call yet
pub record Comes (m : MasterState NodeState) (side : LineStationState) (call : Telling station_ear) : Type 0 where
  pub called : Called side.slave (tape m side) call
  pub none_back : side.from_it ≡ []
  pub outside : IsOutside m.ear.standing

-- it has, there is nothing more for it to hear, and the master hasn't heard its reply
pub record Returns (m : MasterState NodeState) (side : LineStationState) (reply : Telling master_ear) : Type 0 where
  pub hears : Hears station_ear side.slave.ear (tape m side) []
  pub answers : Answers side.slave side.from_it m.ear reply

abbrev pub Progress : MasterState NodeState → LineStationState → Awaited → Type 0
Progress m side (Receipt body) = Comes m side (a_message side.number body)
Progress m side Polling = Comes m side (a_poll side.number)
Progress m side Ack = Returns m side an_ack
Progress m side Eot = Returns m side an_eot
Progress m side (Message body) = Returns m side (a_reply body)

pub record SideCalled (m : MasterState NodeState) (side : LineStationState) (awaited : Awaited) : Type 0 where
  pub own : side.slave.setup.station ≡ side.number
  pub check : side.slave.ear.check ≡ m.ear.check
  pub line : side.slave.setup.check ≡ m.ear.check
  pub progress : Progress m side awaited

-- ---- all of them

-- nothing is awaited of any
abbrev pub AllRest : MasterState NodeState → List LineStationState → Type 0
AllRest m stations = (p : ℕ) (side : LineStationState) → slice_get stations p ≡ Some side → SideRests m side

-- this is awaited of the station at one place, and nothing of the others
pub record Expects (m : MasterState NodeState) (stations : List LineStationState) (place : ℕ) (awaited : Awaited) : Type 0 where
  pub side : LineStationState
  pub is_at : slice_get stations place ≡ Some side
  pub called : SideCalled m side awaited
  pub others : (p : ℕ) (other : LineStationState) → slice_get stations p ≡ Some other → (p ≡ place → ⊥) → SideRests m other

-- of a wait those ticks are left that weren't late
pub record WaitsForAck (late : ℕ) (m : MasterState NodeState) : Type 0 where
  pub left : ℕ
  pub resent : ℕ
  pub phase : m.phase ≡ phase.WaitsForAck left resent
  pub patient : m.setup.ack_ticks ≤ left + late

pub record WaitsAfterPoll (late : ℕ) (m : MasterState NodeState) (place : ℕ) : Type 0 where
  pub left : ℕ
  pub phase : m.phase ≡ phase.WaitsAfterPoll left place
  pub patient : m.setup.poll_ticks ≤ left + late

abbrev pub Waits : ℕ → MasterState NodeState → ℕ → Awaited → Type 0
Waits late m place (Receipt body) = WaitsForAck late m
Waits late m place Ack = WaitsForAck late m
Waits late m place Polling = WaitsAfterPoll late m place
Waits late m place Eot = WaitsAfterPoll late m place
Waits late m place (Message body) = WaitsAfterPoll late m place

-- nothing is awaited, or this of the station at this place
pub data Now : Type 0 where
  Idles : Now
  Awaits : (place : ℕ) (awaited : Awaited) → Now

pub record Idling (m : MasterState NodeState) (stations : List LineStationState) : Type 0 where
  pub idle : m.phase ≡ phase.Idle
  pub outside : IsOutside m.ear.standing
  pub rest : AllRest m stations

pub record Awaiting (late : ℕ) (m : MasterState NodeState) (stations : List LineStationState) (place : ℕ) (awaited : Awaited) : Type 0 where
  pub waits : Waits late m place awaited
  pub expects : Expects m stations place awaited

abbrev pub Stage : ℕ → MasterState NodeState → List LineStationState → Now → Type 0
Stage late m stations Idles = Idling m stations
Stage late m stations (Awaits place awaited) = Awaiting late m stations place awaited

-- a master that waits isn't idle
pub waits-busy : (late : ℕ) (m : MasterState NodeState) (place : ℕ) (awaited : Awaited) → Waits late m place awaited → master.is_idle m.phase ≡ false
waits-busy late m place (Receipt body) w = ap master.is_idle w.phase
waits-busy late m place Ack w = ap master.is_idle w.phase
waits-busy late m place Polling w = ap master.is_idle w.phase
waits-busy late m place Eot w = ap master.is_idle w.phase
waits-busy late m place (Message body) w = ap master.is_idle w.phase

-- ---- a station of which something is awaited isn't idle, once the master has given all

pub no-lane : (lane : List LaneCell) → is_none (slice_get lane 0) ≡ true → lane ≡ []
no-lane [] none = refl
no-lane (cell ∷ lane) none = absurd cc

pub both : (a b : Bool) → (a && b) ≡ true → (a ≡ true) × (b ≡ true)
both true b is = (refl, is)
both false b is = absurd cc

-- what an idle station has: empty lanes, and nothing to give
pub record IsIdle (side : LineStationState) : Type 0 where
  pub none_to_it : side.to_it ≡ []
  pub none_from_it : side.from_it ≡ []
  pub gives_none : is_none (slave.out_at_take side.slave) ≡ true

pub idle-is : (side : LineStationState) → is_idle side ≡ true → IsIdle side
idle-is side is =
    let first = both (is_none (slice_get side.to_it 0)) (is_none (slice_get side.from_it 0) && is_none (slave.out_at_take side.slave)) is in
    let second = both (is_none (slice_get side.from_it 0)) (is_none (slave.out_at_take side.slave)) first.1 in
    record { none_to_it = no-lane side.to_it first.0; none_from_it = no-lane side.from_it second.0; gives_none = second.1 }

-- where a take gives nothing, nothing is to come
none-coming : (left : List Sent) (number : Option ℕ) (begun : ℕ) (sending : List ℕ) → let g : Giving = record { left = left; number = number; begun = begun } in is_none (take g).1 ≡ true → coming g sending ≡ []
none-coming [] number begun sending none = refl
none-coming (x ∷ left) number begun sending none = absurd cc

pub nothing-comes : (g : Giving) (sending : List ℕ) → is_none (take g).1 ≡ true → coming g sending ≡ []
nothing-comes g sending none = none-coming g.left g.number g.begun sending none

-- of no cells nothing is heard
pub no-tape : (m : MasterState NodeState) (side : LineStationState) → m.mouth.left ≡ [] → side.to_it ≡ [] → tape m side ≡ []
no-tape m side given none = ap (λ (lane : List LaneCell). lane ++ coming m.mouth m.sending) none ∙ ap (cells_of m.mouth.number m.sending) given

some-end : (before : List (Telling station_ear)) (call : Telling station_ear) → before ++ call ∷ [] ≡ [] → ⊥
some-end [] call none = cc
some-end (t ∷ before) call none = cc

no-call : (s : SlaveState NodeState) (cells : List LaneCell) (call : Telling station_ear) → cells ≡ [] → Called s cells call → ⊥
no-call s cells call none c =
    let h = subst (λ (at : List LaneCell). Hears station_ear s.ear at (c.before ++ call ∷ [])) none c.hears in
    some-end c.before call (sym h.tells)

no-answer : (s : SlaveState NodeState) (lane : List LaneCell) (m : MasterState NodeState) (reply : Telling master_ear) → back s lane ≡ [] → Answers s lane m.ear reply → ⊥
no-answer s lane m reply none a =
    let h = subst (λ (at : List LaneCell). Hears master_ear m.ear at (reply ∷ [])) none a.hears in
    let no : [] ≡ reply ∷ [] = h.tells in
    cc

busy-comes : (m : MasterState NodeState) (side : LineStationState) (call : Telling station_ear) → m.mouth.left ≡ [] → IsIdle side → Comes m side call → ⊥
busy-comes m side call given idle c = no-call side.slave (tape m side) call (no-tape m side given idle.none_to_it) c.called

busy-returns : (m : MasterState NodeState) (side : LineStationState) (reply : Telling master_ear) → IsIdle side → Returns m side reply → ⊥
busy-returns m side reply idle r =
    let none = ap (λ (lane : List LaneCell). back side.slave lane) idle.none_from_it ∙ nothing-comes (giving_of side.slave) side.slave.sending idle.gives_none in
    no-answer side.slave side.from_it m reply none r.answers

busy-progress : (m : MasterState NodeState) (side : LineStationState) (awaited : Awaited) → m.mouth.left ≡ [] → IsIdle side → Progress m side awaited → ⊥
busy-progress m side (Receipt body) given idle c = busy-comes m side (a_message side.number body) given idle c
busy-progress m side Polling given idle c = busy-comes m side (a_poll side.number) given idle c
busy-progress m side Ack given idle r = busy-returns m side an_ack idle r
busy-progress m side Eot given idle r = busy-returns m side an_eot idle r
busy-progress m side (Message body) given idle r = busy-returns m side (a_reply body) idle r

-- so not all stations are idle
pub all-at : (t : LineStationState → Bool) (stations : List LineStationState) (place : ℕ) (side : LineStationState) → list_all t stations ≡ true → slice_get stations place ≡ Some side → t side ≡ true
all-at t [] place side all at = absurd cc
all-at t (first ∷ stations) zero side all at =
    let parts = both (t first) (list_all t stations) all in
    subst (λ (s : LineStationState). t s ≡ true) (same-some first side at) parts.0
all-at t (first ∷ stations) (suc place) side all at = all-at t stations place side (both (t first) (list_all t stations) all).1 at

pub expects-busy : (m : MasterState NodeState) (stations : List LineStationState) (place : ℕ) (awaited : Awaited) → m.mouth.left ≡ [] → Expects m stations place awaited → list_all is_idle stations ≡ true → ⊥
expects-busy m stations place awaited given e all = busy-progress m e.side awaited given (idle-is e.side (all-at is_idle stations place e.side all e.is_at)) e.called.progress
