-- What happens at a station of a route, or to the bytes to it or from it, leaves what holds.
use Rattle.std.proofs.Common.{◌≡◌, ◌∙◌, ℕ, ◌<◌, eqb, List, [], ◌∷◌, ◌++◌, drop, length, Some, refl, ap, sym, append-nil, true, false}
use Rattle.std.specs.Prelude.{slice_index}
use Rattle.std.specs.Int.{bit_at}
use Rattle.std.specs.List.{filter}
use Rattle.df1_node.specs.Node.{NodeState}
use Rattle.half_master.specs.Keys.{kept_at}
use Rattle.half_master.specs.Master.{MasterState}
use Rattle.half_slave.specs.Slave.{slave_after_take, out_at_take}
use Rattle.station_router.specs.Router.{RouterState}
use Rattle.replay_report.specs.declared.record.Line.{Line}
use Rattle.lane_cells.specs.Cells.{LaneCell, altered, bare}
use Rattle.each_once.specs.OfStation.{is_from}
use Rattle.each_once.proofs.OneDirection.{Way, way-bare}
use Rattle.half_line.specs.Behind.{routed_node}
use Rattle.half_line.specs.declared.way.Way.{Way as LineStation}
use Rattle.half_line.specs.declared.way.Way.TheVariants.{ToStation, ToMaster}
use Rattle.half_line.specs.Acts.{LineStationState, LinkState, link_state, LinkDeed, LaneDeed, StationGives, OnLane, Deliver, Lose, Alter, Foreign, after_take, deceptions_at, after_link_deed, link_lines}
use Rattle.half_line.specs.Plays.{side_issued}
use Rattle.half_line.proofs.Once.GivenCell.{way-given, way-lost, way-altered}
use Rattle.half_line.proofs.Once.Invariant.{marks}
use Rattle.half_line.proofs.Once.LinkSteps.{plus-none}
use Rattle.half_line.proofs.Once.MasterArrival.{leaving}
use Rattle.half_line.proofs.Once.StationArrival.{coming}
use Rattle.half_line.proofs.Once.StationSteps.{take-sends, sent-ends}
use Rattle.half_route.proofs.Once.EndSteps.{end-issue}
use Rattle.half_route.proofs.Once.Invariant.{Setting, SideHolds, LinkHolds, side-lanes}
use Rattle.half_route.proofs.Once.MasterArrival.{master-arrival}
use Rattle.half_route.proofs.Once.StationArrival.{station-arrival}

-- another station at the place
with-side : (setting : Setting) (stations : List LineStationState) (place : ℕ) (m : MasterState (RouterState NodeState)) (was now : LineStationState) (d e : ℕ) (lines : List Line) (h : LinkHolds setting stations place (link_state m was d) lines) → now.number ≡ was.number
    → SideHolds (setting.side place) h.sent h.heard (kept_at m.stations place) now lines → LinkHolds setting stations place (link_state m now e) lines
with-side setting stations place m was now d e lines h same this = record {
  sent = h.sent;
  heard = h.heard;
  master = h.master;
  sides_are = h.sides_are;
  is_at = h.is_at ∙ ap Some (sym same);
  this = this;
  others = h.others;
}

-- ---- a command is issued, in the station's own name

pub link-issues : (setting : Setting) (stations : List LineStationState) (place : ℕ) (s : LinkState (RouterState NodeState)) (lines : List Line) (dst : ℕ) (payload : List ℕ) → eqb (bit_at (slice_index payload 0) 6) 1 ≡ false
    → length s.side.slave.host.initiator.issued < 65535 → (setting.side place).may dst ≡ true → LinkHolds setting stations place s lines → LinkHolds setting stations place (link_state s.master (side_issued s.side dst payload) s.deceived) lines
link-issues setting stations place s lines dst payload no-reply few may h =
    let this = h.this in
    let side = s.side in
    with-side setting stations place s.master side (side_issued side dst payload) s.deceived s.deceived lines h refl (record {
      handed = this.handed;
      accepted = this.accepted;
      own = this.own;
      holds = end-issue side.slave.host side.slave.host.initiator.node dst payload no-reply few this.holds.node_is may this.holds;
      sends = record { current = this.sends.current; begun = this.sends.begun };
      to_it = this.to_it;
      way = this.way;
      back = this.back;
    })

-- ---- a byte is given

link-gives : (setting : Setting) (stations : List LineStationState) (place : ℕ) (s : LinkState (RouterState NodeState)) (lines : List Line) → LinkHolds setting stations place s lines → LinkHolds setting stations place (after_link_deed routed_node s StationGives) lines
link-gives setting stations place s lines h =
    let this = h.this in
    let side = s.side in
    let after = slave_after_take side.slave in
    with-side setting stations place s.master side (after_take side) s.deceived s.deceived lines h refl (record {
      handed = this.handed;
      accepted = this.accepted;
      own = this.own;
      holds = this.holds;
      sends = take-sends side.slave this.handed this.sends;
      to_it = this.to_it;
      way = this.way;
      back = way-given this.handed after.sending side.from_it (out_at_take side.slave) (kept_at s.master.stations place) (filter (is_from side.number) h.heard) (λ out number is last. sent-ends side.slave this.handed out number this.sends is last) this.back;
    })

-- ---- a lane

-- the cells of a lane are others
lane-to : (setting : Setting) (stations : List LineStationState) (place : ℕ) (m : MasterState (RouterState NodeState)) (side : LineStationState) (cells : List LaneCell) (d e : ℕ) (lines : List Line) (h : LinkHolds setting stations place (link_state m side d) lines)
    → Way h.sent (marks cells) side.slave.kept h.this.accepted → LinkHolds setting stations place (link_state m (coming side cells) e) lines
lane-to setting stations place m side cells d e lines h way = with-side setting stations place m side (coming side cells) d e lines h refl (side-lanes cells side.from_it h.this way h.this.back)

lane-from : (setting : Setting) (stations : List LineStationState) (place : ℕ) (m : MasterState (RouterState NodeState)) (side : LineStationState) (cells : List LaneCell) (d e : ℕ) (lines : List Line) (h : LinkHolds setting stations place (link_state m side d) lines)
    → Way h.this.handed (marks cells) (kept_at m.stations place) (filter (is_from side.number) h.heard) → LinkHolds setting stations place (link_state m (leaving side cells) e) lines
lane-from setting stations place m side cells d e lines h back = with-side setting stations place m side (leaving side cells) d e lines h refl (side-lanes side.to_it cells h.this h.this.way back)

-- the head of a lane arrives
delivers-to : (setting : Setting) (stations : List LineStationState) (place : ℕ) (m : MasterState (RouterState NodeState)) (side : LineStationState) (cells : List LaneCell) (d : ℕ) (lines : List Line)
    → (after_link_deed routed_node (link_state m (coming side cells) d) (OnLane ToStation Deliver)).deceived ≡ 0 → LinkHolds setting stations place (link_state m (coming side cells) d) lines
    → LinkHolds setting stations place (after_link_deed routed_node (link_state m (coming side cells) d) (OnLane ToStation Deliver)) (lines ++ link_lines routed_node (link_state m (coming side cells) d) (OnLane ToStation Deliver))
delivers-to setting stations place m side [] d lines none h = rw (append-nil lines) h
delivers-to setting stations place m side (cell ∷ cells) d lines none h = station-arrival setting stations place m side cell cells d lines (plus-none d (deceptions_at routed_node ToStation (link_state m (coming side cells) d) cell) none) h

delivers-from : (setting : Setting) (stations : List LineStationState) (place : ℕ) (m : MasterState (RouterState NodeState)) (side : LineStationState) (cells : List LaneCell) (d : ℕ) (lines : List Line)
    → (after_link_deed routed_node (link_state m (leaving side cells) d) (OnLane ToMaster Deliver)).deceived ≡ 0 → LinkHolds setting stations place (link_state m (leaving side cells) d) lines
    → LinkHolds setting stations place (after_link_deed routed_node (link_state m (leaving side cells) d) (OnLane ToMaster Deliver)) (lines ++ link_lines routed_node (link_state m (leaving side cells) d) (OnLane ToMaster Deliver))
delivers-from setting stations place m side [] d lines none h = rw (append-nil lines) h
delivers-from setting stations place m side (cell ∷ cells) d lines none h = master-arrival setting stations place m side cell cells d lines (plus-none d (deceptions_at routed_node ToMaster (link_state m (leaving side cells) d) cell) none) h

-- what happens to a lane
lane-deed : (setting : Setting) (stations : List LineStationState) (place : ℕ) (way : LineStation) (deed : LaneDeed) (s : LinkState (RouterState NodeState)) (lines : List Line) → (after_link_deed routed_node s (OnLane way deed)).deceived ≡ 0
    → LinkHolds setting stations place s lines → LinkHolds setting stations place (after_link_deed routed_node s (OnLane way deed)) (lines ++ link_lines routed_node s (OnLane way deed))
lane-deed setting stations place ToStation Deliver s lines none h = delivers-to setting stations place s.master s.side s.side.to_it s.deceived lines none h
lane-deed setting stations place ToStation Lose s lines none h =
    rw (append-nil lines) (lane-to setting stations place s.master s.side (drop 1 s.side.to_it) s.deceived s.deceived lines h (way-lost h.sent s.side.to_it s.side.slave.kept h.this.accepted h.this.way))
lane-deed setting stations place ToStation (Alter mask) s lines none h =
    rw (append-nil lines) (lane-to setting stations place s.master s.side (altered mask s.side.to_it) s.deceived s.deceived lines h (way-altered h.sent mask s.side.to_it s.side.slave.kept h.this.accepted h.this.way))
lane-deed setting stations place ToStation (Foreign byte) s lines none h =
    station-arrival setting stations place s.master s.side (bare byte) s.side.to_it s.deceived lines (plus-none s.deceived (deceptions_at routed_node ToStation s (bare byte)) none)
    (lane-to setting stations place s.master s.side (bare byte ∷ s.side.to_it) s.deceived s.deceived lines h (way-bare h.sent (marks s.side.to_it) s.side.slave.kept h.this.accepted h.this.way))
lane-deed setting stations place ToMaster Deliver s lines none h = delivers-from setting stations place s.master s.side s.side.from_it s.deceived lines none h
lane-deed setting stations place ToMaster Lose s lines none h =
    rw (append-nil lines) (lane-from setting stations place s.master s.side (drop 1 s.side.from_it) s.deceived s.deceived lines h (way-lost h.this.handed s.side.from_it (kept_at s.master.stations place) (filter (is_from s.side.number) h.heard) h.this.back))
lane-deed setting stations place ToMaster (Alter mask) s lines none h =
    rw (append-nil lines) (lane-from setting stations place s.master s.side (altered mask s.side.from_it) s.deceived s.deceived lines h (way-altered h.this.handed mask s.side.from_it (kept_at s.master.stations place) (filter (is_from s.side.number) h.heard) h.this.back))
lane-deed setting stations place ToMaster (Foreign byte) s lines none h =
    master-arrival setting stations place s.master s.side (bare byte) s.side.from_it s.deceived lines (plus-none s.deceived (deceptions_at routed_node ToMaster s (bare byte)) none)
    (lane-from setting stations place s.master s.side (bare byte ∷ s.side.from_it) s.deceived s.deceived lines h (way-bare h.this.handed (marks s.side.from_it) (kept_at s.master.stations place) (filter (is_from s.side.number) h.heard) h.this.back))

-- ---- either

pub link-deed : (setting : Setting) (stations : List LineStationState) (place : ℕ) (deed : LinkDeed) (s : LinkState (RouterState NodeState)) (lines : List Line) → (after_link_deed routed_node s deed).deceived ≡ 0
    → LinkHolds setting stations place s lines → LinkHolds setting stations place (after_link_deed routed_node s deed) (lines ++ link_lines routed_node s deed)
link-deed setting stations place StationGives s lines none h = rw (append-nil lines) (link-gives setting stations place s lines h)
link-deed setting stations place (OnLane way deed) s lines none h = lane-deed setting stations place way deed s lines none h
