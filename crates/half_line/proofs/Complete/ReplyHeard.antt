-- The master hears the reply of the station of which it is awaited: an ACK, an EOT, or a message, which it accepts and acknowledges; then it is idle, and nothing is awaited of any station.
use Rattle.std.proofs.Common.{◌≡◌, ◌∙◌, ℕ, true, false, List, [], ◌∷◌, ◌++◌, length, Some, None, refl, ap, sym, subst}
use Rattle.std.specs.Prelude.{slice_get, slice_index, ◌==◌}
use Rattle.df1_base.specs.declared.host.Fate.TheVariants as fate
use Rattle.df1_base.specs.declared.host.News.TheVariants as news
use Rattle.df1_base.specs.declared.link.Act.TheVariants as act
use Rattle.df1_node.specs.Node.{NodeState, has_room, after_accept, after_told}
use Rattle.half_frame.specs.declared.framer.Sent.{Sent}
use Rattle.half_frame.specs.declared.heard.MasterHeard.TheVariants as master_hears
use Rattle.half_frame.specs.MasterStanding.{Listening}
use Rattle.half_frame.specs.Spelling.{pair_bytes, unmarked}
use Rattle.half_mouth.specs.Giving.{Giving, give, is_done}
use Rattle.pccc_envelope.specs.Envelope.{key_of}
use Rattle.pccc_envelope.specs.Accepted.{is_kept}
use Rattle.half_slave.specs.declared.held.Held.{Held}
use Rattle.half_slave.specs.Slave.{SlaveState}
use Rattle.half_master.specs.declared.stations.Station.{Station}
use Rattle.half_master.specs.declared.table.Phase.TheVariants as phase
use Rattle.half_master.specs.Stations.{with_key}
use Rattle.half_master.specs.Master.{MasterState, with_byte, body_of, acknowledged, master_after_byte, is_good, heard_at}
use Rattle.half_master.proofs.Seen.{lent-after}
use Rattle.half_master.proofs.Changes.{Says, turn-accepts, turn-acked, turn-ended, turn-silent}
use Rattle.lane_cells.specs.Cells.{LaneCell}
use Rattle.lane_cells.specs.Deception.{deceptions}
use Rattle.half_line.specs.Behind.{plain_node}
use Rattle.half_line.specs.declared.way.Way.TheVariants.{ToMaster}
use Rattle.each_once.specs.NodeHost.{node_host}
use Rattle.half_line.specs.Acts.{LineStationState, LinkState, deceptions_at}
use Rattle.half_line.proofs.Complete.ComingCells.{cells_of, coming}
use Rattle.half_line.proofs.Complete.EarHears.{Telling, Hears, deceived_at, ear_after, hears-join, hears-none}
use Rattle.half_line.proofs.Complete.StationHears.{station_ear, hears-ack}
use Rattle.half_line.proofs.Complete.MasterHears.{IsOutside, master_ear}
use Rattle.half_line.proofs.Complete.MasterBegins.{rests-ack, tape-grows}
use Rattle.half_line.proofs.Complete.StationRests.{the_ack, free, holds, IsStill, Rests}
use Rattle.half_line.proofs.Complete.StationAnswers.{Reply, acks, ends, sends, HearsReply, no-cells, none-left, StillAnswers}
use Rattle.half_line.proofs.Complete.Stages.{tape, SideRests, Awaited, Ack, Eot, Message, an_ack, an_eot, a_reply, Returns, SideCalled}

-- the station with what is left of its lane to the master
abbrev pub back_left : LineStationState → List LaneCell → LineStationState
back_left side cells = record { number = side.number; slave = side.slave; to_it = side.to_it; from_it = cells }

-- the master after the cell
abbrev pub after_reply : MasterState NodeState → LaneCell → MasterState NodeState
after_reply m cell = master_after_byte node_host m cell.byte

-- ---- a station at rest, beside another state of the master

pub rests-same : (m after : MasterState NodeState) (side : LineStationState) → after.ear.check ≡ m.ear.check → after.mouth ≡ m.mouth → after.sending ≡ m.sending → SideRests m side → SideRests after side
rests-same m after side check mouth sending r =
    let same : tape after side ≡ tape m side = ap (λ (g : Giving). side.to_it ++ coming g after.sending) mouth ∙ ap (λ (body : List ℕ). side.to_it ++ coming m.mouth body) sending in
    record { own = r.own; check = r.check ∙ sym check; line = r.line ∙ sym check; rests = subst (Rests side.slave) (sym same) r.rests; none_back = r.none_back }

-- a master that had given all begins an ACK
pub rests-acked : (m after : MasterState NodeState) (side : LineStationState) → after.ear.check ≡ m.ear.check → m.mouth.left ≡ [] → after.mouth ≡ give m.mouth (unmarked (pair_bytes 6)) → SideRests m side → SideRests after side
rests-acked m after side check given mouth r =
    let ack = cells_of None after.sending (unmarked (pair_bytes 6)) in
    let grows : tape m side ++ ack ≡ tape after side = tape-grows side.to_it ack m.mouth m.sending given ∙ ap (λ (g : Giving). side.to_it ++ coming g after.sending) (sym mouth) in
    record { own = r.own; check = r.check ∙ sym check; line = r.line ∙ sym check; rests = subst (Rests side.slave) grows (rests-ack side.slave (tape m side) after.sending r.rests); none_back = r.none_back }

-- ---- where a station has no more to hear, the master has given all

pub given-all : (m : MasterState NodeState) (side : LineStationState) → Hears station_ear side.slave.ear (tape m side) [] → m.mouth.left ≡ []
given-all m side h = none-left m.mouth.left m.mouth.number m.sending (no-cells side.to_it (coming m.mouth m.sending) (hears-none h)).1

given-done : (m : MasterState NodeState) → m.mouth.left ≡ [] → is_done m.mouth ≡ true
given-done m given = ap (λ (left : List Sent). length left == 0) given

-- ---- the reply is heard

-- the master is idle then, and nothing is awaited of any station
pub record Settles (m : MasterState NodeState) (side : LineStationState) (cell : LaneCell) (cells : List LaneCell) (host : NodeState) (listed : List Station) : Type 0 where
  pub idle : (after_reply m cell).phase ≡ phase.Idle
  pub outside : IsOutside (after_reply m cell).ear.standing
  pub this : SideRests (after_reply m cell) (back_left side cells)
  pub others : (other : LineStationState) → SideRests m other → SideRests (after_reply m cell) other
  pub host_is : (after_reply m cell).host ≡ host
  pub list_is : (after_reply m cell).stations ≡ listed
  pub honest : deceived_at master_ear m.ear cell ≡ 0

-- what is so of the station then, which holds nothing, or a message that waits for its ACK
here : (m : MasterState NodeState) (side : LineStationState) (cells : List LaneCell) (awaited : Awaited) → SideCalled m side awaited → Hears station_ear side.slave.ear (tape m side) [] → IsStill side.slave → cells ≡ [] → side.slave.held ≡ None → SideRests m (back_left side cells)
here m side cells awaited c hears still empty none = record { own = c.own; check = c.check; line = c.line; rests = record { all = []; hears = hears; still = still; rest = free none tt }; none_back = empty }

-- with a master that keeps what it has to give
settles-as : (m after : MasterState NodeState) (side : LineStationState) (cell : LaneCell) (cells : List LaneCell) (reply : Telling master_ear) → HearsReply side.slave cell cells m.ear reply → after_reply m cell ≡ after → after.phase ≡ phase.Idle → after.ear ≡ (with_byte m cell.byte).ear → after.mouth ≡ m.mouth
    → after.sending ≡ m.sending → SideRests m (back_left side cells) → Settles m side cell cells after.host after.stations
settles-as m after side cell cells reply h is idle ear mouth sending this =
    let Same : MasterState NodeState → Type 0 = λ e. (e.phase ≡ phase.Idle) × IsOutside e.ear.standing × SideRests e (back_left side cells) × ((other : LineStationState) → SideRests m other → SideRests e other) × (e.host ≡ after.host) × (e.stations ≡ after.stations) in
    let check : after.ear.check ≡ m.ear.check = ap (λ (l : Listening). l.check) ear in
    let now : Same (after_reply m cell) = subst Same (sym is) (idle, subst (λ (l : Listening). IsOutside l.standing) (sym ear) h.outside, rests-same m after (back_left side cells) check mouth sending this, λ other. rests-same m after other check mouth sending, refl, refl) in
    record { idle = now.0; outside = now.1; this = now.2; others = now.3; host_is = now.4; list_is = now.5; honest = h.honest }

-- a station that acknowledged, or ended its poll, holds nothing
ack-free : (s : SlaveState NodeState) → Reply s an_ack → s.held ≡ None
ack-free s (acks is none) = none
ack-free s (ends is none) = none
ack-free s (sends message number is held waits numbered owes) = absurd (let no : master_hears.Ack ≡ master_hears.Good = ap (λ (t : Telling master_ear). t.what) is in cc)

eot-free : (s : SlaveState NodeState) → Reply s an_eot → s.held ≡ None
eot-free s (acks is none) = none
eot-free s (ends is none) = none
eot-free s (sends message number is held waits numbered owes) = absurd (let no : master_hears.Eot ≡ master_hears.Good = ap (λ (t : Telling master_ear). t.what) is in cc)

-- and one that sends holds its message
record HoldsIt (s : SlaveState NodeState) : Type 0 where
  message : Held
  held : s.held ≡ Some message
  waits : message.wait_open ≡ is_done s.mouth

message-held : (s : SlaveState NodeState) (body : List ℕ) → Reply s (a_reply body) → HoldsIt s
message-held s body (acks is none) = absurd (let no : master_hears.Good ≡ master_hears.Ack = ap (λ (t : Telling master_ear). t.what) is in cc)
message-held s body (ends is none) = absurd (let no : master_hears.Good ≡ master_hears.Eot = ap (λ (t : Telling master_ear). t.what) is in cc)
message-held s body (sends message number is held waits numbered owes) = record { message = message; held = held; waits = waits }

-- an ACK
pub ack-heard : (m : MasterState NodeState) (side : LineStationState) (cell : LaneCell) (cells : List LaneCell) (left resent : ℕ) → SideCalled m side Ack → m.phase ≡ phase.WaitsForAck left resent → HearsReply side.slave cell cells m.ear an_ack
    → Settles m side cell cells (after_told m.host fate.Delivered) m.stations × Says node_host m cell.byte act.PeerAck None news.Nothing
ack-heard m side cell cells left resent c at h =
    let hears = c.progress.hears in
    let turn = turn-acked node_host m cell.byte left resent (given-done m (given-all m side hears)) h.what at in
    (settles-as m _ side cell cells an_ack h turn.0 refl refl refl refl (here m side cells Ack c hears h.still h.empty (ack-free side.slave h.reply_is)), turn.1)

-- an EOT
pub eot-heard : (m : MasterState NodeState) (side : LineStationState) (cell : LaneCell) (cells : List LaneCell) (left place : ℕ) → SideCalled m side Eot → m.phase ≡ phase.WaitsAfterPoll left place → HearsReply side.slave cell cells m.ear an_eot
    → Settles m side cell cells m.host m.stations × Says node_host m cell.byte act.Nothing None news.Nothing
eot-heard m side cell cells left place c at h =
    let hears = c.progress.hears in
    let turn = turn-ended node_host m cell.byte left place (given-done m (given-all m side hears)) h.what at in
    (settles-as m _ side cell cells an_eot h turn.0 refl refl refl refl (here m side cells Eot c hears h.still h.empty (eot-free side.slave h.reply_is)), turn.1)

-- ---- a message is heard, accepted and acknowledged

-- the station holds it, and will hear the ACK
held-here : (m after : MasterState NodeState) (side : LineStationState) (cells : List LaneCell) (message : Held) (body : List ℕ) → SideCalled m side (Message body) → IsStill side.slave → cells ≡ [] → side.slave.held ≡ Some message → message.wait_open ≡ true
    → after.ear.check ≡ m.ear.check → m.mouth.left ≡ [] → after.mouth ≡ give m.mouth (unmarked (pair_bytes 6)) → SideRests after (back_left side cells)
held-here m after side cells message body c still empty held waits check given mouth =
    let hears = c.progress.hears in
    let ack = cells_of None after.sending (unmarked (pair_bytes 6)) in
    let grows : tape m side ++ ack ≡ tape after side = tape-grows side.to_it ack m.mouth m.sending given ∙ ap (λ (g : Giving). side.to_it ++ coming g after.sending) (sym mouth) in
    let told_ack = hears-join station_ear side.slave.ear (tape m side) ack [] (the_ack ∷ []) hears (hears-ack (ear_after station_ear side.slave.ear (tape m side)) after.sending hears.outside) in
    record {
      own = c.own;
      check = c.check ∙ sym check;
      line = c.line ∙ sym check;
      rests = record { all = the_ack ∷ []; hears = subst (λ (at : List LaneCell). Hears station_ear side.slave.ear at (the_ack ∷ [])) grows told_ack; still = still; rest = holds message [] held waits refl tt };
      none_back = empty;
    }

pub good-heard : (m : MasterState NodeState) (side : LineStationState) (cell : LaneCell) (cells : List LaneCell) (body : List ℕ) (left place : ℕ) (station : Station) → SideCalled m side (Message body) → m.phase ≡ phase.WaitsAfterPoll left place → HearsReply side.slave cell cells m.ear (a_reply body)
    → slice_get m.stations place ≡ Some station → slice_index body 1 ≡ station.number → is_kept station.kept (key_of body) ≡ false → has_room m.host body ≡ true
    → Settles m side cell cells (after_accept m.host body) (with_key m.stations place (key_of body)) × Says node_host m cell.byte act.Accept (Some (node_host.did m.host body)) news.Nothing
good-heard m side cell cells body left place station c at h found from new room =
    let it = message-held side.slave body h.reply_is in
    let b = cell.byte in
    let lent : body_of (with_byte m b) ≡ body = h.body in
    let back : body ≡ body_of (with_byte m b) = sym lent in
    let given = given-all m side c.progress.hears in
    let turn = turn-accepts node_host m b left place station (given-done m given) h.what at found (subst (λ (x : List ℕ). slice_index x 1 ≡ station.number) back from) (subst (λ (x : List ℕ). is_kept station.kept (key_of x) ≡ false) back new)
    (subst (λ (x : List ℕ). has_room m.host x ≡ true) back room) in
    let now = with_byte m b in
    let after : MasterState NodeState = acknowledged (record now { stations = with_key m.stations place (key_of (body_of now)); host = after_accept m.host (body_of now) }) in
    let shut : is_done side.slave.mouth ≡ true = ap (λ (l : List Sent). length l == 0) h.still.gives_none in
    let Same : MasterState NodeState → Type 0 = λ e. (e.phase ≡ phase.Idle) × IsOutside e.ear.standing × SideRests e (back_left side cells) × ((other : LineStationState) → SideRests m other → SideRests e other) × (e.host ≡ after_accept m.host body) × (e.stations ≡ with_key m.stations place (key_of body)) in
    let all : Same (after_reply m cell) = subst Same (sym turn.0) (refl, h.outside, held-here m after side cells it.message body c h.still h.empty it.held (it.waits ∙ shut) refl given refl, λ other. rests-acked m after other refl given refl, ap (after_accept m.host) lent, ap (λ (x : List ℕ). with_key m.stations place (key_of x)) lent) in
    (record { idle = all.0; outside = all.1; this = all.2; others = all.3; host_is = all.4; list_is = all.5; honest = h.honest }, subst (λ (x : List ℕ). Says node_host m b act.Accept (Some (node_host.did m.host x)) news.Nothing) lent turn.1)

-- ---- nothing is heard yet

-- the reply is on its way as before, and nothing but the ear of the master changes
pub record GoesOn (m : MasterState NodeState) (side : LineStationState) (cell : LaneCell) (cells : List LaneCell) (reply : Telling master_ear) : Type 0 where
  pub master : after_reply m cell ≡ with_byte m cell.byte
  pub returns : Returns (with_byte m cell.byte) (back_left side cells) reply
  pub others : (other : LineStationState) → SideRests m other → SideRests (with_byte m cell.byte) other
  pub says : Says node_host m cell.byte act.Nothing None news.Nothing
  pub honest : deceived_at master_ear m.ear cell ≡ 0

pub silent-heard : (m : MasterState NodeState) (side : LineStationState) (cell : LaneCell) (cells : List LaneCell) (reply : Telling master_ear) → Returns m side reply → StillAnswers side.slave cell cells m.ear reply → GoesOn m side cell cells reply
silent-heard m side cell cells reply r still =
    let turn = turn-silent node_host m cell.byte still.none_heard in
    record {
      master = turn.0;
      returns = record { hears = r.hears; answers = still.answers };
      others = λ other r. rests-same m (with_byte m cell.byte) other refl refl refl r;
      says = turn.1;
      honest = still.honest;
    }

-- ---- how often the master is deceived, as the line counts it

pub master-deceived : (link : LinkState NodeState) (cell : LaneCell) → deceived_at master_ear link.master.ear cell ≡ 0 → deceptions_at plain_node ToMaster link cell ≡ 0
master-deceived link cell none = ap (deceptions (is_good (heard_at link.master cell.byte)) cell.ends) (lent-after node_host link.master cell.byte) ∙ none
