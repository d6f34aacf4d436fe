-- A byte and a take leave the commands of a station's node as they are.
use Rattle.std.proofs.Common.{◌≡◌, ◌∙◌, ℕ, Bool, true, false, List, [], ◌∷◌, map, Option, Some, None, refl, ap}
use Rattle.std.specs.Prelude.{if◌then◌else◌}
use Rattle.df1_base.specs.declared.host.Fate.{Fate}
use Rattle.half_frame.specs.declared.heard.SlaveHeard.{SlaveHeard}
use Rattle.half_frame.specs.declared.heard.SlaveHeard.TheVariants as heard
use Rattle.pccc_envelope.specs.Accepted.{Verdict, Repeated, Accepted, Refused}
use Rattle.df1_node.specs.Initiator.{Issued, all_cleared}
use Rattle.df1_node.specs.Node.{NodeState, after_clear}
use Rattle.half_slave.specs.declared.held.Held.{Held}
use Rattle.half_slave.specs.Slave.{SlaveState, body_of, told, verdict, received, offered, answered, polled, reset, fate_at_poll, fate_at_ack, fate_at_reset, heard_at, listened, is_own, is_answered, slave_after_heard, slave_after_byte, slave_after_take}
use Rattle.each_once.specs.NodeHost.{node_host}
use Rattle.each_once.proofs.IssuedCommands.{SameCommands, same-itself, same-both, same-accept, same-told, same-next}
use Rattle.lane_cells.specs.Cells.{LaneCell}
use Rattle.half_line.specs.Behind.{Behind}
use Rattle.half_line.specs.declared.way.Way.{Way}
use Rattle.half_line.specs.declared.way.Way.TheVariants.{ToStation, ToMaster}
use Rattle.half_line.specs.Acts.{LineStationState, LinkState, LaneDeed, LinkDeed, StationGives, OnLane, moved, after_arrival, after_link_deed}

-- ---- what waits is dropped

cleared-bodies : (issued : List Issued) → map (λ (c : Issued). c.body) (all_cleared issued) ≡ map (λ (c : Issued). c.body) issued
cleared-bodies [] = refl
cleared-bodies (c ∷ issued) = ap (λ (bodies : List (List ℕ)). c.body ∷ bodies) (cleared-bodies issued)

same-clear : (node : NodeState) → SameCommands node.initiator (after_clear node).initiator
same-clear node = record { node = refl; tns = refl; bodies = cleared-bodies node.initiator.issued }

-- ---- the slave

-- the commands of its node are the same later
abbrev Same : SlaveState NodeState → SlaveState NodeState → Type 0
Same s later = SameCommands s.host.initiator later.host.initiator

stays : (s : SlaveState NodeState) → Same s s
stays s = same-itself s.host.initiator

same-fate : (s : SlaveState NodeState) (what : Option Fate) → Same s (told node_host s what)
same-fate s None = stays s
same-fate s (Some what) = same-told what s.host

same-received : (s : SlaveState NodeState) (v : Verdict) → Same s (received node_host s v)
same-received s Repeated = stays s
same-received s Accepted = same-accept s.host (body_of s)
same-received s Refused = stays s

same-offered : (s : SlaveState NodeState) (next : Option (List ℕ)) → Same s (offered node_host s next)
same-offered s None = stays s
same-offered s (Some body) = same-next s.host

same-answered : (s : SlaveState NodeState) (held : Option Held) → Same s (answered node_host s held)
same-answered s (Some message) = stays s
same-answered s None = same-offered s (node_host.next_body s.host)

same-polled : (s : SlaveState NodeState) → Same s (polled node_host s)
same-polled s =
    let what = fate_at_poll s.setup.max_sends s.held in
    let after = told node_host s what in
    same-both s.host.initiator after.host.initiator (polled node_host s).host.initiator (same-fate s what) (same-answered after after.held)

same-reset : (s : SlaveState NodeState) → Same s (reset node_host s)
same-reset s =
    let what = fate_at_reset s.held in
    let after = told node_host s what in
    same-both s.host.initiator after.host.initiator (reset node_host s).host.initiator (same-fate s what) (same-clear after.host)

-- whether it is done or not
same-if : (does : Bool) (s now : SlaveState NodeState) → Same s now → Same s (if does then now else s)
same-if true s now same = same
same-if false s now same = stays s

same-heard : (s : SlaveState NodeState) (what : Option SlaveHeard) → Same s (slave_after_heard node_host s what)
same-heard s None = stays s
same-heard s (Some (heard.Addressed stn)) = same-if (is_own s stn) s _ (same-received s (verdict node_host s))
same-heard s (Some (heard.Header stn)) = stays s
same-heard s (Some (heard.Poll stn)) = same-if (is_answered s stn) s _ (same-polled s)
same-heard s (Some heard.BadPoll) = stays s
same-heard s (Some (heard.Damaged stn)) = stays s
same-heard s (Some heard.Ack) = same-fate s (fate_at_ack s.held)
same-heard s (Some heard.Reset) = same-reset s
same-heard s (Some (heard.Stray b)) = stays s
same-heard s (Some (heard.StrayPair b)) = stays s

same-byte : (s : SlaveState NodeState) (b : ℕ) → Same s (slave_after_byte node_host s b)
same-byte s b = same-heard (listened s b) (heard_at s b)

same-take : (s : SlaveState NodeState) → Same s (slave_after_take s)
same-take s = stays s

-- ---- the station on its line

-- it has the same number and the same commands later
pub record SameStation (was now : LineStationState) : Type 0 where
  pub number : now.number ≡ was.number
  pub commands : SameCommands was.slave.host.initiator now.slave.host.initiator

pub same-station : (side : LineStationState) → SameStation side side
same-station side = record { number = refl; commands = stays side.slave }

same-moved : {H : Type 0} (way : Way) (s : LinkState H) (deed : LaneDeed) → SameStation s.side (moved way s deed).side
same-moved ToStation s deed = record { number = refl; commands = stays s.side.slave }
same-moved ToMaster s deed = record { number = refl; commands = stays s.side.slave }

same-arrival : {H : Type 0} (h : Behind H) (way : Way) (s : LinkState H) (cell : Option LaneCell) → SameStation s.side (after_arrival h way s cell).side
same-arrival h way s None = same-station s.side
same-arrival h ToStation s (Some cell) = record { number = refl; commands = same-byte s.side.slave cell.byte }
same-arrival h ToMaster s (Some cell) = same-station s.side

pub same-deed : {H : Type 0} (h : Behind H) (s : LinkState H) (deed : LinkDeed) → SameStation s.side (after_link_deed h s deed).side
same-deed h s StationGives = record { number = refl; commands = same-take s.side.slave }
same-deed h s (OnLane way deed) =
    let first = same-moved way s deed in
    let second = same-arrival h way (moved way s deed) _ in
    record {
      number = second.number ∙ first.number;
      commands = same-both s.side.slave.host.initiator (moved way s deed).side.slave.host.initiator (after_link_deed h s (OnLane way deed)).side.slave.host.initiator first.commands second.commands;
    }
