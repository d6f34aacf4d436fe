-- The master begins a message or a poll, where nothing is awaited of any station: then its receipt, or an answer, is awaited of one.
use Rattle.std.proofs.Common.{◌≡◌, ◌≢◌, ◌∙◌, ℕ, ◌≤◌, List, [], ◌++◌, length, Some, None, ap, sym, subst}
use Rattle.std.specs.Prelude.{slice_get, slice_index}
use Rattle.df1_node.specs.Node.{NodeState}
use Rattle.half_frame.specs.Spelling.{poll_bytes, message_sent, unmarked}
use Rattle.half_mouth.specs.Giving.{Giving, give, transmit, one_more}
use Rattle.half_master.specs.Master.{MasterState}
use Rattle.lane_cells.specs.Cells.{LaneCell}
use Rattle.half_line.specs.Acts.{LineStationState}
use Rattle.half_line.proofs.Complete.ComingCells.{cells_of, coming}
use Rattle.half_line.proofs.Complete.EarHears.{Telling}
use Rattle.half_line.proofs.Complete.StationHears.{station_ear}
use Rattle.half_line.proofs.Complete.MasterHears.{IsOutside}
use Rattle.half_line.proofs.Complete.MasterBegins.{rests-poll, called-poll, rests-message, called-message, tape-grows}
use Rattle.half_line.proofs.Complete.StationRests.{Rests, Called}
use Rattle.half_line.proofs.Complete.Stages.{tape, SideRests, AllRest, Receipt, Polling, a_message, a_poll, Comes, Expects}

-- a master that had given all begins these cells, and is as it was but for that
pub record Begins (m after : MasterState NodeState) (new : List LaneCell) : Type 0 where
  pub given : m.mouth.left ≡ []
  pub ear : after.ear ≡ m.ear
  pub begun : coming after.mouth after.sending ≡ new

-- a station hears them behind the others
grows : (m after : MasterState NodeState) (new : List LaneCell) (side : LineStationState) → Begins m after new → tape m side ++ new ≡ tape after side
grows m after new side b = tape-grows side.to_it new m.mouth m.sending b.given ∙ ap (λ (cells : List LaneCell). side.to_it ++ cells) (sym b.begun)

rests-begins : (m after : MasterState NodeState) (new : List LaneCell) (side : LineStationState) → Begins m after new → SideRests m side → Rests side.slave (tape m side ++ new) → SideRests after side
rests-begins m after new side b r rests = record {
  own = r.own;
  check = r.check ∙ ap (λ ear. ear.check) (sym b.ear);
  line = r.line ∙ ap (λ ear. ear.check) (sym b.ear);
  rests = subst (Rests side.slave) (grows m after new side b) rests;
  none_back = r.none_back;
}

comes-begins : (m after : MasterState NodeState) (new : List LaneCell) (side : LineStationState) (call : Telling station_ear) → Begins m after new → SideRests m side → IsOutside m.ear.standing → Called side.slave (tape m side ++ new) call → Comes after side call
comes-begins m after new side call b r outside called = record {
  called = subst (λ (cells : List LaneCell). Called side.slave cells call) (grows m after new side b) called;
  none_back = r.none_back;
  outside = subst (λ ear. IsOutside ear.standing) (sym b.ear) outside;
}

-- ---- all stations

-- the others have other numbers than the station at this place
abbrev pub IsAlone : List LineStationState → ℕ → ℕ → Type 0
IsAlone stations place number = (p : ℕ) (other : LineStationState) → slice_get stations p ≡ Some other → (p ≡ place → ⊥) → number ≢ other.number

-- a station that has its own number isn't called by another
other-station : (side : LineStationState) (number : ℕ) → side.slave.setup.station ≡ side.number → number ≢ side.number → number ≢ side.slave.setup.station
other-station side number own differ same = differ (same ∙ own)

-- a poll
pub poll-begins : (m after : MasterState NodeState) (stations : List LineStationState) (place : ℕ) (side : LineStationState) → m.mouth.left ≡ [] → IsOutside m.ear.standing → AllRest m stations → slice_get stations place ≡ Some side → IsAlone stations place side.number
    → after.ear ≡ m.ear → after.mouth ≡ give m.mouth (unmarked (poll_bytes side.number)) → Expects after stations place Polling
poll-begins m after stations place side given outside all at alone ear mouth =
    let new = cells_of None after.sending (unmarked (poll_bytes side.number)) in
    let b : Begins m after new = record { given = given; ear = ear; begun = ap (λ (g : Giving). coming g after.sending) mouth } in
    record {
      side = side;
      is_at = at;
      called = let r = all place side at in record {
        own = r.own;
        check = r.check ∙ ap (λ ear. ear.check) (sym b.ear);
        line = r.line ∙ ap (λ ear. ear.check) (sym b.ear);
        progress = comes-begins m after new side (a_poll side.number) b r outside (called-poll side.slave (tape m side) after.sending side.number r.rests);
      };
      others = λ p other found differ.
          let r = all p other found in
          rests-begins m after new other b r (rests-poll other.slave (tape m other) after.sending side.number (other-station other side.number r.own (alone p other found differ)) r.rests);
    }

-- a message to the station that its first byte names
pub message-begins : (m after : MasterState NodeState) (stations : List LineStationState) (place : ℕ) (side : LineStationState) (body : List ℕ) → m.mouth.left ≡ [] → IsOutside m.ear.standing → AllRest m stations → slice_get stations place ≡ Some side → IsAlone stations place side.number
    → m.setup.check ≡ m.ear.check → 6 ≤ length body → length body ≤ 250 → slice_index body 0 ≡ side.number → after.ear ≡ m.ear → after.sending ≡ body → after.mouth ≡ transmit m.mouth (message_sent m.setup.check (slice_index body 0) body)
    → Expects after stations place (Receipt body)
message-begins m after stations place side body given outside all at alone kind least most first ear sending mouth =
    let number = one_more m.mouth.begun in
    let new = cells_of (Some number) body (message_sent m.ear.check side.number body) in
    let spelled : message_sent m.setup.check (slice_index body 0) body ≡ message_sent m.ear.check side.number body = ap (λ check. message_sent check (slice_index body 0) body) kind ∙ ap (λ (stn : ℕ). message_sent m.ear.check stn body) first in
    let begun : coming after.mouth after.sending ≡ new = ap (λ (g : Giving). coming g after.sending) mouth ∙ ap (λ (s : List ℕ). coming (transmit m.mouth (message_sent m.setup.check (slice_index body 0) body)) s) sending ∙ ap (cells_of (Some number) body) spelled in
    let b : Begins m after new = record { given = given; ear = ear; begun = begun } in
    record {
      side = side;
      is_at = at;
      called = let r = all place side at in record {
        own = r.own;
        check = r.check ∙ ap (λ ear. ear.check) (sym b.ear);
        line = r.line ∙ ap (λ ear. ear.check) (sym b.ear);
        progress = comes-begins m after new side (a_message side.number body) b r outside (called-message side.slave (tape m side) m.ear.check number body side.number r.check least most first r.rests);
      };
      others = λ p other found differ.
          let r = all p other found in
          rests-begins m after new other b r (rests-message other.slave (tape m other) m.ear.check number body side.number r.check least most first (other-station other side.number r.own (alone p other found differ)) r.rests);
    }
