-- What happens at a station, or to the bytes to it or from it, leaves what holds.
use Rattle.std.proofs.Common.{◌≡◌, ◌∙◌, ℕ, ◌+◌, ◌≤◌, List, [], ◌∷◌, ◌++◌, drop, Option, Some, None, refl, ap, sym, arith, append-nil}
use Rattle.std.specs.List.{filter}
use Rattle.df1_node.specs.Node.{NodeState}
use Rattle.half_master.specs.Keys.{kept_at}
use Rattle.half_master.specs.Master.{MasterState}
use Rattle.half_slave.specs.Slave.{slave_after_take, out_at_take}
use Rattle.replay_report.specs.declared.record.Line.{Line}
use Rattle.lane_cells.specs.Cells.{LaneCell, altered, bare}
use Rattle.each_once.specs.OfStation.{is_from}
use Rattle.each_once.proofs.OneDirection.{Way, way-bare}
use Rattle.half_line.specs.Behind.{Behind, plain_node}
use Rattle.half_line.specs.declared.way.Way.{Way as LineStation}
use Rattle.half_line.specs.declared.way.Way.TheVariants.{ToStation, ToMaster}
use Rattle.half_line.specs.Acts.{LineStationState, LinkState, link_state, LinkDeed, LaneDeed, StationGives, OnLane, Deliver, Lose, Alter, Foreign, after_take, arriving, lane_of, moved, after_arrival, deceptions_at, after_link_deed, link_lines}
use Rattle.half_line.proofs.Once.GivenCell.{way-given, way-lost, way-altered}
use Rattle.half_line.specs.Issues.{issued_of}
use Rattle.half_line.proofs.Once.Invariant.{shared, marks, SideHolds, side-lanes, Setting, LinkHolds}
use Rattle.half_line.proofs.Once.MasterArrival.{leaving, master-arrival}
use Rattle.half_line.proofs.Once.StationArrival.{coming, station-arrival}
use Rattle.half_line.proofs.Once.StationSteps.{take-keeps, sent-ends}

-- another station at the place
with-side : (setting : Setting) (count : ℕ) (stations : List LineStationState) (place : ℕ) (m : MasterState NodeState) (was now : LineStationState) (d e : ℕ) (lines : List Line) (h : LinkHolds setting count stations place (link_state m was d) lines) → now.number ≡ was.number
    → SideHolds (shared h.commands h.heard (issued_of m) lines) (setting.first place) (kept_at m.stations place) now → LinkHolds setting count stations place (link_state m now e) lines
with-side setting count stations place m was now d e lines h same this = record {
  commands = h.commands;
  heard = h.heard;
  master = h.master;
  replies = h.replies;
  numbers_are = h.numbers_are;
  is_at = h.is_at ∙ ap Some (sym same);
  this = this;
  others = h.others;
}

-- ---- a byte is given

link-gives : (setting : Setting) (count : ℕ) (stations : List LineStationState) (place : ℕ) (s : LinkState NodeState) (lines : List Line) → LinkHolds setting count stations place s lines → LinkHolds setting count stations place (after_link_deed plain_node s StationGives) lines
link-gives setting count stations place s lines h =
    let this = h.this in
    let side = s.side in
    let after = slave_after_take side.slave in
    with-side setting count stations place s.master side (after_take side) s.deceived s.deceived lines h refl (record {
      executed = this.executed;
      sent = this.sent;
      own = this.own;
      keeps = take-keeps (setting.first place) side.slave this.executed this.sent this.keeps;
      to_it = this.to_it;
      way = this.way;
      back = way-given this.sent after.sending side.from_it (out_at_take side.slave) (kept_at s.master.stations place) (filter (is_from side.number) h.heard) (λ out number is last. sent-ends side.slave this.sent out number this.keeps.sends is last) this.back;
      told = this.told;
    })

-- ---- a lane

-- the cells of a lane are others
lane-to : (setting : Setting) (count : ℕ) (stations : List LineStationState) (place : ℕ) (m : MasterState NodeState) (side : LineStationState) (cells : List LaneCell) (d e : ℕ) (lines : List Line) (h : LinkHolds setting count stations place (link_state m side d) lines)
    → Way h.commands (marks cells) side.slave.kept h.this.executed → LinkHolds setting count stations place (link_state m (coming side cells) e) lines
lane-to setting count stations place m side cells d e lines h way = with-side setting count stations place m side (coming side cells) d e lines h refl (side-lanes cells side.from_it h.this way h.this.back)

lane-from : (setting : Setting) (count : ℕ) (stations : List LineStationState) (place : ℕ) (m : MasterState NodeState) (side : LineStationState) (cells : List LaneCell) (d e : ℕ) (lines : List Line) (h : LinkHolds setting count stations place (link_state m side d) lines)
    → Way h.this.sent (marks cells) (kept_at m.stations place) (filter (is_from side.number) h.heard) → LinkHolds setting count stations place (link_state m (leaving side cells) e) lines
lane-from setting count stations place m side cells d e lines h back = with-side setting count stations place m side (leaving side cells) d e lines h refl (side-lanes side.to_it cells h.this h.this.way back)

pub plus-none : (n m : ℕ) → n + m ≡ 0 → m ≡ 0
plus-none n m is = omega (arith, is)

-- the head of a lane arrives
delivers-to : (setting : Setting) (count : ℕ) (stations : List LineStationState) (place : ℕ) (m : MasterState NodeState) (side : LineStationState) (cells : List LaneCell) (d : ℕ) (lines : List Line)
    → (after_link_deed plain_node (link_state m (coming side cells) d) (OnLane ToStation Deliver)).deceived ≡ 0 → LinkHolds setting count stations place (link_state m (coming side cells) d) lines
    → LinkHolds setting count stations place (after_link_deed plain_node (link_state m (coming side cells) d) (OnLane ToStation Deliver)) (lines ++ link_lines plain_node (link_state m (coming side cells) d) (OnLane ToStation Deliver))
delivers-to setting count stations place m side [] d lines none h = rw (append-nil lines) h
delivers-to setting count stations place m side (cell ∷ cells) d lines none h = station-arrival setting count stations place m side cell cells d lines (plus-none d (deceptions_at plain_node ToStation (link_state m (coming side cells) d) cell) none) h

delivers-from : (setting : Setting) (count : ℕ) (stations : List LineStationState) (place : ℕ) (m : MasterState NodeState) (side : LineStationState) (cells : List LaneCell) (d : ℕ) (lines : List Line) → count ≤ 65535
    → (after_link_deed plain_node (link_state m (leaving side cells) d) (OnLane ToMaster Deliver)).deceived ≡ 0 → LinkHolds setting count stations place (link_state m (leaving side cells) d) lines
    → LinkHolds setting count stations place (after_link_deed plain_node (link_state m (leaving side cells) d) (OnLane ToMaster Deliver)) (lines ++ link_lines plain_node (link_state m (leaving side cells) d) (OnLane ToMaster Deliver))
delivers-from setting count stations place m side [] d lines few none h = rw (append-nil lines) h
delivers-from setting count stations place m side (cell ∷ cells) d lines few none h = master-arrival setting count stations place m side cell cells d lines few (plus-none d (deceptions_at plain_node ToMaster (link_state m (leaving side cells) d) cell) none) h

-- what happens to a lane
lane-deed : (setting : Setting) (count : ℕ) (stations : List LineStationState) (place : ℕ) (way : LineStation) (deed : LaneDeed) (s : LinkState NodeState) (lines : List Line) → count ≤ 65535
    → (after_link_deed plain_node s (OnLane way deed)).deceived ≡ 0 → LinkHolds setting count stations place s lines → LinkHolds setting count stations place (after_link_deed plain_node s (OnLane way deed)) (lines ++ link_lines plain_node s (OnLane way deed))
lane-deed setting count stations place ToStation Deliver s lines few none h = delivers-to setting count stations place s.master s.side s.side.to_it s.deceived lines none h
lane-deed setting count stations place ToStation Lose s lines few none h =
    rw (append-nil lines) (lane-to setting count stations place s.master s.side (drop 1 s.side.to_it) s.deceived s.deceived lines h (way-lost h.commands s.side.to_it s.side.slave.kept h.this.executed h.this.way))
lane-deed setting count stations place ToStation (Alter mask) s lines few none h =
    rw (append-nil lines) (lane-to setting count stations place s.master s.side (altered mask s.side.to_it) s.deceived s.deceived lines h (way-altered h.commands mask s.side.to_it s.side.slave.kept h.this.executed h.this.way))
lane-deed setting count stations place ToStation (Foreign byte) s lines few none h =
    station-arrival setting count stations place s.master s.side (bare byte) s.side.to_it s.deceived lines (plus-none s.deceived (deceptions_at plain_node ToStation s (bare byte)) none)
    (lane-to setting count stations place s.master s.side (bare byte ∷ s.side.to_it) s.deceived s.deceived lines h (way-bare h.commands (marks s.side.to_it) s.side.slave.kept h.this.executed h.this.way))
lane-deed setting count stations place ToMaster Deliver s lines few none h = delivers-from setting count stations place s.master s.side s.side.from_it s.deceived lines few none h
lane-deed setting count stations place ToMaster Lose s lines few none h =
    rw (append-nil lines) (lane-from setting count stations place s.master s.side (drop 1 s.side.from_it) s.deceived s.deceived lines h (way-lost h.this.sent s.side.from_it (kept_at s.master.stations place) (filter (is_from s.side.number) h.heard) h.this.back))
lane-deed setting count stations place ToMaster (Alter mask) s lines few none h =
    rw (append-nil lines) (lane-from setting count stations place s.master s.side (altered mask s.side.from_it) s.deceived s.deceived lines h (way-altered h.this.sent mask s.side.from_it (kept_at s.master.stations place) (filter (is_from s.side.number) h.heard) h.this.back))
lane-deed setting count stations place ToMaster (Foreign byte) s lines few none h =
    master-arrival setting count stations place s.master s.side (bare byte) s.side.from_it s.deceived lines few (plus-none s.deceived (deceptions_at plain_node ToMaster s (bare byte)) none)
    (lane-from setting count stations place s.master s.side (bare byte ∷ s.side.from_it) s.deceived s.deceived lines h (way-bare h.this.sent (marks s.side.from_it) (kept_at s.master.stations place) (filter (is_from s.side.number) h.heard) h.this.back))

-- ---- either

pub link-deed : (setting : Setting) (count : ℕ) (stations : List LineStationState) (place : ℕ) (deed : LinkDeed) (s : LinkState NodeState) (lines : List Line) → count ≤ 65535
    → (after_link_deed plain_node s deed).deceived ≡ 0 → LinkHolds setting count stations place s lines → LinkHolds setting count stations place (after_link_deed plain_node s deed) (lines ++ link_lines plain_node s deed)
link-deed setting count stations place StationGives s lines few none h = rw (append-nil lines) (link-gives setting count stations place s lines h)
link-deed setting count stations place (OnLane way deed) s lines few none h = lane-deed setting count stations place way deed s lines few none h

-- a count never falls, whatever stands behind the master
arrived-none : {H : Type 0} (h : Behind H) (way : LineStation) (s : LinkState H) (o : Option LaneCell) → (after_arrival h way s o).deceived ≡ 0 → s.deceived ≡ 0
arrived-none h way s None none = none
arrived-none h way s (Some cell) none = omega (arith, none)

pub earlier : {H : Type 0} (h : Behind H) (deed : LinkDeed) (s : LinkState H) → (after_link_deed h s deed).deceived ≡ 0 → s.deceived ≡ 0
earlier h StationGives s none = none
earlier h (OnLane way deed) s none = arrived-none h way (moved way s deed) (arriving (lane_of way s.side) deed) none
