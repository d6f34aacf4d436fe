-- What happens at a station, or to the bytes to it or from it, leaves an undisturbed run such.
use Rattle.std.proofs.Common.{◌≡◌, ◌∙◌, ℕ, zero, suc, ◌+◌, List, [], ◌∷◌, ◌++◌, Some, refl, ap, sym, subst, append-nil, arith}
use Rattle.std.specs.Prelude.{slice_get, slice_set}
use Rattle.df1_node.specs.Node.{NodeState}
use Rattle.half_master.specs.declared.MasterSetup.{MasterSetup}
use Rattle.half_master.specs.Emission.{Byte}
use Rattle.half_master.proofs.Runs.{signal-setup}
use Rattle.replay_report.specs.declared.record.Line.{Line}
use Rattle.lane_cells.specs.Cells.{LaneCell}
use Rattle.each_once.specs.NodeHost.{node_host}
use Rattle.each_once.proofs.Sublists.{same-some}
use Rattle.half_line.specs.Behind.{plain_node}
use Rattle.half_line.specs.declared.way.Way.TheVariants.{ToStation, ToMaster}
use Rattle.half_line.specs.Acts.{LineStationState, HalfState, LinkDeed, LaneDeed, StationGives, OnLane, Deliver, Lose, Alter, Foreign, after_take, moved, after_link_deed, link_lines}
use Rattle.half_line.specs.Prompt.{IsGentleOn, IsGentleAt}
use Rattle.half_line.specs.Steps.{link_of, rejoined}
use Rattle.half_line.proofs.Complete.Origin.{Origin}
use Rattle.half_line.proofs.Complete.StageSteps.{lane_left, station-deceived}
use Rattle.half_line.proofs.Complete.StagePlaces.{stage-gives}
use Rattle.half_line.proofs.Complete.Dealings.{same-node}
use Rattle.half_line.proofs.Complete.ReplyHeard.{back_left, master-deceived}
use Rattle.half_line.proofs.Complete.LedgerSteps.{ledger-side}
use Rattle.half_line.proofs.Complete.Invariant.{Course, Flow}
use Rattle.half_line.proofs.Complete.CallStep.{At, station-arrives}
use Rattle.half_line.proofs.Complete.ReplyStep.{master-hears}

-- ---- nothing changes

set-itself : (stations : List LineStationState) (place : ℕ) (side : LineStationState) → slice_get stations place ≡ Some side → slice_set stations place side ≡ stations
set-itself [] place side at = absurd cc
set-itself (first ∷ stations) zero side at = ap (λ (x : LineStationState). x ∷ stations) (sym (same-some first side at))
set-itself (first ∷ stations) (suc place) side at = ap (λ (rest : List LineStationState). first ∷ rest) (set-itself stations place side at)

flow-same : (origin : Origin) (s : HalfState NodeState) (late : ℕ) (lines : List Line) (place : ℕ) (side : LineStationState) → slice_get s.stations place ≡ Some side → Flow origin s late lines → Flow origin (rejoined s place (link_of s side)) late (lines ++ [])
flow-same origin s late lines place side at f = record {
  course = subst (λ (all : List Line). Course origin s.master (slice_set s.stations place side) late all) (sym (append-nil lines))
      (subst (λ (stations : List LineStationState). Course origin s.master stations late lines) (sym (set-itself s.stations place side at)) f.course);
  check = f.check;
  honest = f.honest;
}

-- ---- a station gives a byte

flow-gives : (origin : Origin) (s : HalfState NodeState) (late : ℕ) (lines : List Line) (place : ℕ) (side : LineStationState) → slice_get s.stations place ≡ Some side → Flow origin s late lines
    → Flow origin (rejoined s place (after_link_deed plain_node (link_of s side) StationGives)) late (lines ++ [])
flow-gives origin s late lines place side at f =
    let c = f.course in
    let m = s.master in
    record {
      course = subst (λ (all : List Line). Course origin m (slice_set s.stations place (after_take side)) late all) (sym (append-nil lines)) (record {
        now = c.now;
        stage = stage-gives late m s.stations c.now place side at c.stage;
        ledger = ledger-side place side (after_take side) at refl (same-node side.slave.host side.slave.host refl) refl c.ledger;
      });
      check = f.check;
      honest = f.honest;
    }

-- ---- the bytes of a lane

none-more : (n m : ℕ) → n ≡ 0 → m ≡ 0 → n + m ≡ 0
none-more n m first second = omega (arith, first, second)

flow-arrives : (origin : Origin) (s : HalfState NodeState) (late : ℕ) (lines : List Line) (place : ℕ) (side : LineStationState) (cell : LaneCell) (cells : List LaneCell) → At origin s.master s.stations lines place (lane_left side (cell ∷ cells)) → Flow origin s late lines
    → Flow origin (rejoined s place (after_link_deed plain_node (link_of s (lane_left side (cell ∷ cells))) (OnLane ToStation Deliver))) late (lines ++ link_lines plain_node (link_of s (lane_left side (cell ∷ cells))) (OnLane ToStation Deliver))
flow-arrives origin s late lines place side cell cells at f =
    let was = lane_left side (cell ∷ cells) in
    let a = station-arrives origin s.master s.stations late lines place was cell cells at refl f.course in
    record {
      course = a.course;
      check = f.check;
      honest = none-more s.deceived _ f.honest (station-deceived (moved ToStation (link_of s was) Deliver) cell a.honest);
    }

lane-to : (origin : Origin) (s : HalfState NodeState) (late : ℕ) (lines : List Line) (place : ℕ) (side : LineStationState) (cells : List LaneCell) (deed : LaneDeed) → IsGentleOn cells deed → At origin s.master s.stations lines place (lane_left side cells) → Flow origin s late lines
    → Flow origin (rejoined s place (after_link_deed plain_node (link_of s (lane_left side cells)) (OnLane ToStation deed))) late (lines ++ link_lines plain_node (link_of s (lane_left side cells)) (OnLane ToStation deed))
lane-to origin s late lines place side [] Deliver gentle at f = flow-same origin s late lines place (lane_left side []) at.is_at f
lane-to origin s late lines place side (cell ∷ cells) Deliver gentle at f = flow-arrives origin s late lines place side cell cells at f
lane-to origin s late lines place side [] Lose gentle at f = flow-same origin s late lines place (lane_left side []) at.is_at f
lane-to origin s late lines place side (cell ∷ cells) Lose gentle at f = absurd cc
lane-to origin s late lines place side [] (Alter mask) gentle at f = flow-same origin s late lines place (lane_left side []) at.is_at f
lane-to origin s late lines place side (cell ∷ cells) (Alter mask) gentle at f = absurd cc
lane-to origin s late lines place side cells (Foreign byte) gentle at f = absurd gentle

flow-hears : (origin : Origin) (s : HalfState NodeState) (late : ℕ) (lines : List Line) (place : ℕ) (side : LineStationState) (cell : LaneCell) (cells : List LaneCell) → At origin s.master s.stations lines place (back_left side (cell ∷ cells)) → Flow origin s late lines
    → Flow origin (rejoined s place (after_link_deed plain_node (link_of s (back_left side (cell ∷ cells))) (OnLane ToMaster Deliver))) late (lines ++ link_lines plain_node (link_of s (back_left side (cell ∷ cells))) (OnLane ToMaster Deliver))
flow-hears origin s late lines place side cell cells at f =
    let was = back_left side (cell ∷ cells) in
    let m = s.master in
    let r = master-hears origin m s.stations late lines place was cell cells at refl f.course in
    record {
      course = r.course;
      check = ap (λ (setup : MasterSetup). setup.check) (signal-setup node_host m (Byte cell.byte)) ∙ f.check ∙ sym r.ear_check;
      honest = none-more s.deceived _ f.honest (master-deceived (moved ToMaster (link_of s was) Deliver) cell r.honest);
    }

lane-from : (origin : Origin) (s : HalfState NodeState) (late : ℕ) (lines : List Line) (place : ℕ) (side : LineStationState) (cells : List LaneCell) (deed : LaneDeed) → IsGentleOn cells deed → At origin s.master s.stations lines place (back_left side cells) → Flow origin s late lines
    → Flow origin (rejoined s place (after_link_deed plain_node (link_of s (back_left side cells)) (OnLane ToMaster deed))) late (lines ++ link_lines plain_node (link_of s (back_left side cells)) (OnLane ToMaster deed))
lane-from origin s late lines place side [] Deliver gentle at f = flow-same origin s late lines place (back_left side []) at.is_at f
lane-from origin s late lines place side (cell ∷ cells) Deliver gentle at f = flow-hears origin s late lines place side cell cells at f
lane-from origin s late lines place side [] Lose gentle at f = flow-same origin s late lines place (back_left side []) at.is_at f
lane-from origin s late lines place side (cell ∷ cells) Lose gentle at f = absurd cc
lane-from origin s late lines place side [] (Alter mask) gentle at f = flow-same origin s late lines place (back_left side []) at.is_at f
lane-from origin s late lines place side (cell ∷ cells) (Alter mask) gentle at f = absurd cc
lane-from origin s late lines place side cells (Foreign byte) gentle at f = absurd gentle

-- ---- either

pub flow-link : (origin : Origin) (s : HalfState NodeState) (late : ℕ) (lines : List Line) (place : ℕ) (side : LineStationState) (deed : LinkDeed) → IsGentleAt side deed → At origin s.master s.stations lines place side → Flow origin s late lines
    → Flow origin (rejoined s place (after_link_deed plain_node (link_of s side) deed)) late (lines ++ link_lines plain_node (link_of s side) deed)
flow-link origin s late lines place side StationGives gentle at f = flow-gives origin s late lines place side at.is_at f
flow-link origin s late lines place side (OnLane ToStation deed) gentle at f = lane-to origin s late lines place side side.to_it deed gentle at f
flow-link origin s late lines place side (OnLane ToMaster deed) gentle at f = lane-from origin s late lines place side side.from_it deed gentle at f
