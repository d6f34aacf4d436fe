-- What holds at each point of a route's run that deceives no end: of the master with its router, of each station, and of both ways.
use Rattle.std.proofs.Common.{◌≡◌, ◌∙◌, ℕ, Bool, true, false, List, ◌++◌, map, Option, Some, refl, ap, sym, subst}
use Rattle.std.specs.Prelude.{slice_get, slice_set, nat_eq, ◌==◌}
use Rattle.std.specs.List.{filter, IsDistinct}
use Rattle.std.proofs.lemmas.Bool.{eqb-true, eqb-false}
use Rattle.pccc_envelope.specs.declared.key.Key.{Key}
use Rattle.df1_node.specs.Node.{NodeState}
use Rattle.half_master.specs.Keys.{kept_at}
use Rattle.half_master.specs.Master.{MasterState}
use Rattle.half_master.specs.Stations.{numbers_of}
use Rattle.half_master.proofs.LastMessage.{Sends}
use Rattle.station_router.specs.Router.{RouterState}
use Rattle.script_parts.specs.HalfPlayable.{is_declared}
use Rattle.script_parts.specs.RoutePlayable.{is_reached}
use Rattle.script_statement.specs.declared.who.Who.TheVariants.{M, S}
use Rattle.replay_report.specs.declared.record.Line.{Line}
use Rattle.lane_cells.specs.Cells.{LaneCell}
use Rattle.each_once.specs.OfStation.{is_from}
use Rattle.each_once.proofs.OneDirection.{Way, way-more}
use Rattle.each_once.proofs.Sublists.{same-some}
use Rattle.half_line.specs.Acts.{LineStationState, HalfState, LinkState}
use Rattle.half_line.specs.Steps.{link_of, rejoined}
use Rattle.half_line.proofs.Once.Invariant.{marks, number-at}
use Rattle.half_line.proofs.Once.Places.{set-same, set-other, set-map, one-place}
use Rattle.half_line.proofs.Once.StationSteps.{Sends as StationSends}
use Rattle.half_route.proofs.Once.EndSteps.{AreAll, End, EndHolds, IsTo, end-quiet}
use Rattle.half_route.proofs.Once.QuietEnds.{IsQuiet}
use Rattle.half_route.proofs.Once.RouterSteps.{Routes}

-- the ends of the line: the master and, by their places, the stations, whose addresses are their numbers; a station may issue commands
-- for other stations and for the master, the master for stations
pub record Setting : Type 0 where
  pub master : End
  pub is_master : master.who ≡ M
  pub side : ℕ → End
  pub numbers : List ℕ
  pub distinct : IsDistinct nat_eq numbers
  pub apart : is_declared numbers master.address ≡ false
  pub named : (p n : ℕ) → slice_get numbers p ≡ Some n → ((side p).who ≡ S n) × ((side p).address ≡ n)
  pub reaches : (p dst : ℕ) → (side p).may dst ≡ true → is_declared numbers dst ≡ false → dst ≡ master.address
  pub master_reaches : (dst : ℕ) → master.may dst ≡ true → is_declared numbers dst ≡ true
  pub may_reach : (p n dst : ℕ) → slice_get numbers p ≡ Some n → is_reached numbers master.address n dst ≡ true → (side p).may dst ≡ true
  pub master_may : (dst : ℕ) → is_declared numbers dst ≡ true → master.may dst ≡ true

-- ---- a station

-- over what the master handed out and accepted; the key is the one that the master keeps for the station
pub record SideHolds (end : End) (sent heard : List (List ℕ)) (kept : Option Key) (side : LineStationState) (lines : List Line) : Type 0 where
  pub handed : List (List ℕ)
  pub accepted : List (List ℕ)
  pub own : side.slave.setup.station ≡ side.number
  pub holds : EndHolds end accepted side.slave.host handed lines
  pub sends : StationSends side.slave handed
  pub to_it : AreAll (IsTo side.number) accepted
  pub way : Way sent (marks side.to_it) side.slave.kept accepted
  pub back : Way handed (marks side.from_it) kept (filter (is_from side.number) heard)

-- more is told, but nothing of it
pub side-quiet : {end : End} {sent heard : List (List ℕ)} {kept : Option Key} {side : LineStationState} {lines : List Line} (more : List Line) → IsQuiet end.who more → SideHolds end sent heard kept side lines → SideHolds end sent heard kept side (lines ++ more)
side-quiet more quiet h = record {
  handed = h.handed;
  accepted = h.accepted;
  own = h.own;
  holds = end-quiet more quiet h.holds;
  sends = h.sends;
  to_it = h.to_it;
  way = h.way;
  back = h.back;
}

-- the master handed out more
pub side-sent : {end : End} {sent heard : List (List ℕ)} {kept : Option Key} {side : LineStationState} {lines : List Line} (more : List (List ℕ)) → SideHolds end sent heard kept side lines → SideHolds end (sent ++ more) heard kept side lines
side-sent {sent = sent} {side = side} more h = record {
  handed = h.handed;
  accepted = h.accepted;
  own = h.own;
  holds = h.holds;
  sends = h.sends;
  to_it = h.to_it;
  way = way-more sent more (marks side.to_it) side.slave.kept h.accepted h.way;
  back = h.back;
}

-- the master accepted nothing more of the station, and keeps the same key
pub side-heard : {end : End} {sent heard : List (List ℕ)} {kept : Option Key} {side : LineStationState} {lines : List Line} (now : List (List ℕ)) (key : Option Key) → filter (is_from side.number) now ≡ filter (is_from side.number) heard → key ≡ kept
    → SideHolds end sent heard kept side lines → SideHolds end sent now key side lines
side-heard {heard = heard} {side = side} now key same same_key h = record {
  handed = h.handed;
  accepted = h.accepted;
  own = h.own;
  holds = h.holds;
  sends = h.sends;
  to_it = h.to_it;
  way = h.way;
  back = subst (λ all. Way h.handed (marks side.from_it) key all) (sym same) (subst (λ k. Way h.handed (marks side.from_it) k (filter (is_from side.number) heard)) (sym same_key) h.back);
}

-- other cells are on their way, to the station or from it
pub side-lanes : {end : End} {sent heard : List (List ℕ)} {kept : Option Key} {side : LineStationState} {lines : List Line} (to_it from_it : List LaneCell) (h : SideHolds end sent heard kept side lines)
    → Way sent (marks to_it) side.slave.kept h.accepted → Way h.handed (marks from_it) kept (filter (is_from side.number) heard)
    → SideHolds end sent heard kept (record { number = side.number; slave = side.slave; to_it = to_it; from_it = from_it }) lines
side-lanes to_it from_it h way back = record {
  handed = h.handed;
  accepted = h.accepted;
  own = h.own;
  holds = h.holds;
  sends = h.sends;
  to_it = h.to_it;
  way = way;
  back = back;
}

-- ---- the line

-- the master handed out these messages and accepted those
pub record MasterHolds (setting : Setting) (m : MasterState (RouterState NodeState)) (sent heard : List (List ℕ)) (lines : List Line) : Type 0 where
  pub routes : Routes setting.master setting.numbers m.host sent heard lines
  pub sends : Sends m sent
  pub numbers_are : numbers_of m.stations ≡ setting.numbers

-- the master and all stations, of which each stands at its place
pub record Holds (setting : Setting) (s : HalfState (RouterState NodeState)) (lines : List Line) : Type 0 where
  pub sent : List (List ℕ)
  pub heard : List (List ℕ)
  pub master : MasterHolds setting s.master sent heard lines
  pub sides_are : map (λ (side : LineStationState). side.number) s.stations ≡ setting.numbers
  pub sides : (p : ℕ) (side : LineStationState) → slice_get s.stations p ≡ Some side → SideHolds (setting.side p) sent heard (kept_at s.master.stations p) side lines

-- the master and one station at its place, beside the others
pub record LinkHolds (setting : Setting) (stations : List LineStationState) (place : ℕ) (s : LinkState (RouterState NodeState)) (lines : List Line) : Type 0 where
  pub sent : List (List ℕ)
  pub heard : List (List ℕ)
  pub master : MasterHolds setting s.master sent heard lines
  pub sides_are : map (λ (side : LineStationState). side.number) stations ≡ setting.numbers
  pub is_at : slice_get setting.numbers place ≡ Some s.side.number
  pub this : SideHolds (setting.side place) sent heard (kept_at s.master.stations place) s.side lines
  pub others : (p : ℕ) (side : LineStationState) → slice_get stations p ≡ Some side → (p ≡ place → ⊥) → SideHolds (setting.side p) sent heard (kept_at s.master.stations p) side lines

-- the station at a place is looked at
pub entered : (setting : Setting) (s : HalfState (RouterState NodeState)) (lines : List Line) (place : ℕ) (side : LineStationState) → slice_get s.stations place ≡ Some side → Holds setting s lines → LinkHolds setting s.stations place (link_of s side) lines
entered setting s lines place side is h = record {
  sent = h.sent;
  heard = h.heard;
  master = h.master;
  sides_are = h.sides_are;
  is_at = number-at setting.numbers s.stations place side h.sides_are is;
  this = h.sides place side is;
  others = λ p other at differ. h.sides p other at;
}

-- the line with the master and that station as they are now
side-at : (setting : Setting) (stations : List LineStationState) (place : ℕ) (link : LinkState (RouterState NodeState)) (lines : List Line) (was : LineStationState) → slice_get stations place ≡ Some was → (h : LinkHolds setting stations place link lines)
    (p : ℕ) (side : LineStationState) → slice_get (slice_set stations place link.side) p ≡ Some side → (same : Bool) → (p == place) ≡ same → SideHolds (setting.side p) h.sent h.heard (kept_at link.master.stations p) side lines
side-at setting stations place link lines was is h p side at true same =
    let here : p ≡ place = eqb-true p place same in
    let now : link.side ≡ side = same-some link.side side (sym (set-same stations place was link.side is) ∙ ap (slice_get (slice_set stations place link.side)) (sym here) ∙ at) in
    subst (λ (x : LineStationState). SideHolds (setting.side p) h.sent h.heard (kept_at link.master.stations p) x lines) now
    (subst (λ (n : ℕ). SideHolds (setting.side n) h.sent h.heard (kept_at link.master.stations n) link.side lines) (sym here) h.this)
side-at setting stations place link lines was is h p side at false same =
    let differ = eqb-false p place same in
    h.others p side (sym (set-other stations place p link.side differ) ∙ at) differ

pub left : (setting : Setting) (s : HalfState (RouterState NodeState)) (lines : List Line) (place : ℕ) (was : LineStationState) (link : LinkState (RouterState NodeState)) → slice_get s.stations place ≡ Some was → LinkHolds setting s.stations place link lines
    → Holds setting (rejoined s place link) lines
left setting s lines place was link is h =
    let number : link.side.number ≡ was.number = same-some link.side.number was.number (sym h.is_at ∙ number-at setting.numbers s.stations place was h.sides_are is) in
    record {
      sent = h.sent;
      heard = h.heard;
      master = h.master;
      sides_are = set-map (λ (x : LineStationState). x.number) s.stations place was link.side is number ∙ h.sides_are;
      sides = λ p side at. side-at setting s.stations place link lines was is h p side at (p == place) refl;
    }

-- another station has another number
pub other-number : (setting : Setting) (stations : List LineStationState) (place p number : ℕ) (side : LineStationState) → map (λ (x : LineStationState). x.number) stations ≡ setting.numbers → slice_get setting.numbers place ≡ Some number
    → slice_get stations p ≡ Some side → (p ≡ place → ⊥) → (side.number ≡ number → ⊥)
other-number setting stations place p number side are is at differ same = differ (one-place setting.numbers p place number setting.distinct (number-at setting.numbers stations p side are at ∙ ap Some same) is)
