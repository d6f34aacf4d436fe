-- What doesn't change a stage: a station gives a byte, the master gives a byte of what it has begun, and a cell arrives of which nothing comes.
use Rattle.std.proofs.Common.{◌≡◌, ◌∙◌, ℕ, List, [], ◌∷◌, ◌++◌, Option, None, IsNone, refl, ap, sym, subst, append-nil, option_map, inl, inr}
use Rattle.std.specs.Prelude.{◌⊎◌}
use Rattle.std.specs.Option.{option_to_list}
use Rattle.df1_base.specs.declared.link.Out.{Out}
use Rattle.df1_base.specs.declared.link.Resp.{Resp}
use Rattle.df1_node.specs.Node.{NodeState}
use Rattle.half_frame.specs.declared.framer.Sent.{Sent}
use Rattle.half_frame.specs.SlaveStanding.{Listening, lent_at}
use Rattle.half_mouth.specs.Giving.{Giving, take}
use Rattle.half_slave.specs.Slave as slave
use Rattle.half_slave.specs.Slave.{SlaveState, is_whole, station_of, mouth_at_take, slave_after_byte, slave_after_take, out_at_take}
use Rattle.half_slave.proofs.Draining.{quiet-same}
use Rattle.half_slave.proofs.Rows.{byte-ear, byte-setup}
use Rattle.half_master.specs.Master.{MasterState, given_next, begun}
use Rattle.lane_cells.specs.Cells.{LaneCell, cell_of}
use Rattle.lane_cells.specs.Deception.{station_deceptions}
use Rattle.each_once.specs.NodeHost.{node_host}
use Rattle.half_line.specs.Behind.{plain_node}
use Rattle.half_line.specs.declared.way.Way.TheVariants.{ToStation}
use Rattle.half_line.specs.Acts.{LineStationState, LinkState, joined, station_heard, after_take, deceptions_at}
use Rattle.half_line.proofs.Complete.ComingCells.{coming, coming-take}
use Rattle.half_line.proofs.Complete.EarHears.{Telling, Hears, deceived_at, hears-none}
use Rattle.half_line.proofs.Complete.StationHears.{station_ear}
use Rattle.half_line.proofs.Complete.MasterHears.{master_ear}
use Rattle.half_line.proofs.Complete.StationTurns.{IsMute}
use Rattle.half_line.proofs.Complete.StationRests.{KeepsHost, IsStill, Rests, Called, HearsCall, StillCalled, rests-cell, called-cell}
use Rattle.half_line.proofs.Complete.StationAnswers.{answers-take}
use Rattle.half_line.proofs.Complete.Stages.{tape, SideRests, Awaited, Receipt, Polling, Ack, Eot, Message, a_message, a_poll, an_ack, an_eot, a_reply, Comes, Returns, Progress, SideCalled}

-- ---- a station gives a byte

abbrev giving : List Sent → Option ℕ → ℕ → Giving
giving left number begun = record { left = left; number = number; begun = begun }

none-out : (left : List Sent) (number : Option ℕ) (begun : ℕ) → left ≡ [] → (take (mouth_at_take (giving left number begun) None)).1 ≡ None
none-out left number begun none = ap (λ (l : List Sent). (take (mouth_at_take (giving l number begun) None)).1) none

still-out : (s : SlaveState NodeState) → IsStill s → out_at_take s ≡ None
still-out s still = ap (λ (r : Option Resp). (take (mouth_at_take s.mouth r)).1) still.owes_none ∙ none-out s.mouth.left s.mouth.number s.mouth.begun still.gives_none

abbrev with_parts : LineStationState → SlaveState NodeState → List LaneCell → LineStationState
with_parts side s from_it = record { number = side.number; slave = s; to_it = side.to_it; from_it = from_it }

-- one that is still gives none
pub take-still : (side : LineStationState) → IsStill side.slave → after_take side ≡ side
take-still side still =
    let out = still-out side.slave still in
    let none : IsNone (out_at_take side.slave) = rw out refl in
    let after = slave_after_take side.slave in
    ap (λ (o : Option Out). with_parts side after (side.from_it ++ option_to_list (option_map (cell_of after.sending) o))) out
    ∙ ap (λ (cells : List LaneCell). with_parts side after cells) (append-nil side.from_it)
    ∙ ap (λ (s : SlaveState NodeState). with_parts side s side.from_it) (quiet-same side.slave none)

pub rests-gives : (m : MasterState NodeState) (side : LineStationState) → SideRests m side → SideRests m (after_take side)
rests-gives m side r = subst (SideRests m) (sym (take-still side r.rests.still)) r

comes-gives : (m : MasterState NodeState) (side : LineStationState) (call : Telling station_ear) → Comes m side call → Comes m (after_take side) call
comes-gives m side call c = subst (λ (s : LineStationState). Comes m s call) (sym (take-still side c.called.still)) c

returns-gives : (m : MasterState NodeState) (side : LineStationState) (reply : Telling master_ear) → Returns m side reply → Returns m (after_take side) reply
returns-gives m side reply r = record { hears = r.hears; answers = answers-take side.slave side.from_it m.ear reply r.answers }

progress-gives : (m : MasterState NodeState) (side : LineStationState) (awaited : Awaited) → Progress m side awaited → Progress m (after_take side) awaited
progress-gives m side (Receipt body) c = comes-gives m side (a_message side.number body) c
progress-gives m side Polling c = comes-gives m side (a_poll side.number) c
progress-gives m side Ack r = returns-gives m side an_ack r
progress-gives m side Eot r = returns-gives m side an_eot r
progress-gives m side (Message body) r = returns-gives m side (a_reply body) r

pub called-gives : (m : MasterState NodeState) (side : LineStationState) (awaited : Awaited) → SideCalled m side awaited → SideCalled m (after_take side) awaited
called-gives m side awaited c = record { own = c.own; check = c.check; line = c.line; progress = progress-gives m side awaited c.progress }

-- ---- the master gives a byte of what it has begun

given-tape : (e : MasterState NodeState) (side : LineStationState) → (side.to_it ++ option_to_list (option_map (cell_of e.sending) (take e.mouth).1)) ++ coming (take e.mouth).0 e.sending ≡ tape e side
given-tape e side = coming-take side.to_it e.mouth e.sending

-- it joins the lane to each station
abbrev pub with_given : MasterState NodeState → LineStationState → LineStationState
with_given e side = joined (option_to_list (option_map (cell_of e.sending) (take e.mouth).1)) side

pub rests-given : (e : MasterState NodeState) (side : LineStationState) → SideRests e side → SideRests (given_next e) (with_given e side)
rests-given e side r = record { own = r.own; check = r.check; line = r.line; rests = subst (Rests side.slave) (sym (given-tape e side)) r.rests; none_back = r.none_back }

comes-given : (e : MasterState NodeState) (side : LineStationState) (call : Telling station_ear) → Comes e side call → Comes (given_next e) (with_given e side) call
comes-given e side call c = record { called = subst (λ (cells : List LaneCell). Called side.slave cells call) (sym (given-tape e side)) c.called; none_back = c.none_back; outside = c.outside }

returns-given : (e : MasterState NodeState) (side : LineStationState) (reply : Telling master_ear) → Returns e side reply → Returns (given_next e) (with_given e side) reply
returns-given e side reply r = record { hears = subst (λ (cells : List LaneCell). Hears station_ear side.slave.ear cells []) (sym (given-tape e side)) r.hears; answers = r.answers }

progress-given : (e : MasterState NodeState) (side : LineStationState) (awaited : Awaited) → Progress e side awaited → Progress (given_next e) (with_given e side) awaited
progress-given e side (Receipt body) c = comes-given e side (a_message side.number body) c
progress-given e side Polling c = comes-given e side (a_poll side.number) c
progress-given e side Ack r = returns-given e side an_ack r
progress-given e side Eot r = returns-given e side an_eot r
progress-given e side (Message body) r = returns-given e side (a_reply body) r

pub called-given : (e : MasterState NodeState) (side : LineStationState) (awaited : Awaited) → SideCalled e side awaited → SideCalled (given_next e) (with_given e side) awaited
called-given e side awaited c = record { own = c.own; check = c.check; line = c.line; progress = progress-given e side awaited c.progress }

-- ---- a cell arrives at a station

abbrev pub lane_left : LineStationState → List LaneCell → LineStationState
lane_left side cells = record { number = side.number; slave = side.slave; to_it = cells; from_it = side.from_it }

-- the ear keeps its check, and the station its number
pub check-stays : (m : MasterState NodeState) (s : SlaveState NodeState) (b : ℕ) → s.ear.check ≡ m.ear.check → (slave_after_byte node_host s b).ear.check ≡ m.ear.check
check-stays m s b is = ap (λ (ear : Listening). ear.check) (byte-ear node_host s b) ∙ is

pub line-stays : (m : MasterState NodeState) (s : SlaveState NodeState) (b : ℕ) → s.setup.check ≡ m.ear.check → (slave_after_byte node_host s b).setup.check ≡ m.ear.check
line-stays m s b is = ap (λ setup. setup.check) (byte-setup node_host s b) ∙ is

pub own-stays : (s : SlaveState NodeState) (b number : ℕ) → s.setup.station ≡ number → (slave_after_byte node_host s b).setup.station ≡ number
own-stays s b number own = ap (λ setup. setup.station) (byte-setup node_host s b) ∙ own

-- how often it is deceived, as the line counts it
pub station-deceived : (link : LinkState NodeState) (cell : LaneCell) → deceived_at station_ear link.side.slave.ear cell ≡ 0 → deceptions_at plain_node ToStation link cell ≡ 0
station-deceived link cell none =
    let what = slave.heard_at link.side.slave cell.byte in
    ap (λ (ear : Listening). station_deceptions (is_whole what) (station_of what) cell.ends (lent_at ear.standing)) (byte-ear node_host link.side.slave cell.byte) ∙ none

-- a station at rest stays so
pub record SideRested (m : MasterState NodeState) (side : LineStationState) (cell : LaneCell) (cells : List LaneCell) : Type 0 where
  pub rests : SideRests m (station_heard (lane_left side cells) cell.byte)
  pub kept : (slave_after_byte node_host side.slave cell.byte).kept ≡ side.slave.kept
  pub host : KeepsHost node_host side.slave.host (slave_after_byte node_host side.slave cell.byte).host
  pub mute : IsMute node_host side.slave cell.byte
  pub honest : deceived_at station_ear side.slave.ear cell ≡ 0

pub rests-arrives : (m : MasterState NodeState) (side : LineStationState) (cell : LaneCell) (cells : List LaneCell) → side.to_it ≡ cell ∷ cells → SideRests m side → SideRested m side cell cells
rests-arrives m side cell cells is r =
    let more = coming m.mouth m.sending in
    let now = rests-cell node_host (λ host. refl) side.slave cell (cells ++ more) (subst (λ (lane : List LaneCell). Rests side.slave (lane ++ more)) is r.rests) in
    record {
      rests = record { own = own-stays side.slave cell.byte side.number r.own; check = check-stays m side.slave cell.byte r.check; line = line-stays m side.slave cell.byte r.line; rests = now.rests; none_back = r.none_back };
      kept = now.kept;
      host = now.host;
      mute = now.mute;
      honest = now.honest;
    }

-- a call still comes to one that it came to
pub record StillComes (m : MasterState NodeState) (side : LineStationState) (cell : LaneCell) (cells : List LaneCell) (call : Telling station_ear) : Type 0 where
  pub comes : Comes m (station_heard (lane_left side cells) cell.byte) call
  pub kept : (slave_after_byte node_host side.slave cell.byte).kept ≡ side.slave.kept
  pub host : KeepsHost node_host side.slave.host (slave_after_byte node_host side.slave cell.byte).host
  pub mute : IsMute node_host side.slave cell.byte
  pub honest : deceived_at station_ear side.slave.ear cell ≡ 0

-- or is heard, and no more is to come
pub comes-arrives : (m : MasterState NodeState) (side : LineStationState) (cell : LaneCell) (cells : List LaneCell) (call : Telling station_ear) → side.to_it ≡ cell ∷ cells → Comes m side call
    → StillComes m side cell cells call ⊎ HearsCall side.slave cell (cells ++ coming m.mouth m.sending) call
comes-arrives m side cell cells call is c =
    by-cell (called-cell node_host (λ host. refl) side.slave cell (cells ++ coming m.mouth m.sending) call (subst (λ (lane : List LaneCell). Called side.slave (lane ++ coming m.mouth m.sending) call) is c.called))
  where
    by-cell : StillCalled node_host side.slave cell (cells ++ coming m.mouth m.sending) call ⊎ HearsCall side.slave cell (cells ++ coming m.mouth m.sending) call
        → StillComes m side cell cells call ⊎ HearsCall side.slave cell (cells ++ coming m.mouth m.sending) call
    by-cell (inr hears) = inr hears
    by-cell (inl still) = inl (record {
      comes = record { called = still.called; none_back = c.none_back; outside = c.outside };
      kept = still.kept;
      host = still.host;
      mute = still.mute;
      honest = still.honest;
    })

-- of one that has heard its call no cell is on its way to it
pub none-arrives : (m : MasterState NodeState) (side : LineStationState) (cell : LaneCell) (cells : List LaneCell) (reply : Telling master_ear) → side.to_it ≡ cell ∷ cells → Returns m side reply → ⊥
none-arrives m side cell cells reply is r =
    let no : cell ∷ (cells ++ coming m.mouth m.sending) ≡ [] = hears-none (subst (λ (lane : List LaneCell). Hears station_ear side.slave.ear (lane ++ coming m.mouth m.sending) []) is r.hears) in
    cc
