-- A station hears its call: a message, which it accepts, or a poll, where it has a reply and where it has none; then it answers.
use Rattle.std.proofs.Common.{◌≡◌, ◌∙◌, ℕ, ◌≤◌, true, false, List, [], ◌++◌, length, Some, None, is_none, refl, ap, sym, subst}
use Rattle.std.specs.Prelude.{◌&&◌, ◌==◌}
use Rattle.df1_base.specs.declared.link.Resp.TheVariants as resp
use Rattle.df1_node.specs.Node.{NodeState, has_room, next_body, after_accept, after_next}
use Rattle.half_frame.specs.declared.framer.Sent.{Sent}
use Rattle.half_frame.specs.declared.heard.SlaveHeard.TheVariants as station_hears
use Rattle.half_frame.specs.SlaveStanding.{lent_at}
use Rattle.half_frame.specs.Spelling.{pair_bytes, unmarked, reply_sent}
use Rattle.half_mouth.specs.Giving.{give, transmit}
use Rattle.pccc_envelope.specs.Envelope.{key_of}
use Rattle.pccc_envelope.specs.Accepted.{is_kept}
use Rattle.half_slave.specs.Slave.{SlaveState, loaded, sent, is_quiet, heard_at, slave_after_byte}
use Rattle.half_slave.proofs.Rows.{byte-ear}
use Rattle.half_master.specs.Master.{MasterState}
use Rattle.script_statement.specs.declared.who.Who.{Who}
use Rattle.lane_cells.specs.Cells.{LaneCell}
use Rattle.each_once.specs.NodeHost.{node_host}
use Rattle.report_lines.specs.NodeLines.{did_lines, step_lines}
use Rattle.half_slave.specs.Slave as slave
use Rattle.half_line.specs.Acts.{LineStationState, station_heard}
use Rattle.half_line.proofs.Complete.ComingCells.{coming}
use Rattle.half_line.proofs.Complete.EarHears.{Telling, Hears, deceived_at}
use Rattle.half_line.proofs.Complete.StationHears.{station_ear}
use Rattle.half_line.proofs.Complete.MasterHears.{master_ear}
use Rattle.half_line.proofs.Complete.StationTurns.{IsMute, ear_at, turn-accepts, turn-ends, turn-sends, tells-accepts, mute-polled}
use Rattle.half_line.proofs.Complete.StationRests.{IsStill, HearsCall}
use Rattle.half_line.proofs.Complete.StationAnswers.{Answers, answers-acks, answers-ends, answers-sends}
use Rattle.half_line.proofs.Complete.Stages.{Awaited, Receipt, Polling, Ack, Eot, Message, a_message, a_poll, an_ack, an_eot, a_reply, Comes, Returns, Progress, SideCalled}
use Rattle.half_line.proofs.Complete.StageSteps.{lane_left, check-stays, line-stays, own-stays}

-- the station after the cell
abbrev pub after_call : LineStationState → LaneCell → SlaveState NodeState
after_call side cell = slave_after_byte node_host side.slave cell.byte

-- the cell that it hears is the last of its call, and it was free till then
abbrev pub HearsItsCall : MasterState NodeState → LineStationState → LaneCell → List LaneCell → Telling station_ear → Type 0
HearsItsCall m side cell cells call = HearsCall side.slave cell (cells ++ coming m.mouth m.sending) call

-- what it answers is on its way then
call-answered : (m : MasterState NodeState) (side : LineStationState) (cell : LaneCell) (cells : List LaneCell) (call : Telling station_ear) (reply : Telling master_ear) → Comes m side call → HearsItsCall m side cell cells call
    → Answers (after_call side cell) [] m.ear reply → Returns m (station_heard (lane_left side cells) cell.byte) reply
call-answered m side cell cells call reply c h a = record {
  hears = subst (λ ear. Hears station_ear ear (cells ++ coming m.mouth m.sending) []) (sym (byte-ear node_host side.slave cell.byte)) h.hears;
  answers = subst (λ (lane : List LaneCell). Answers (after_call side cell) lane m.ear reply) (sym c.none_back) a;
}

-- whatever is awaited of it then
pub called-after : (m : MasterState NodeState) (side : LineStationState) (cell : LaneCell) (cells : List LaneCell) (before awaited : Awaited) → SideCalled m side before → Progress m (station_heard (lane_left side cells) cell.byte) awaited → SideCalled m (station_heard (lane_left side cells) cell.byte) awaited
called-after m side cell cells before awaited c progress = record {
  own = own-stays side.slave cell.byte side.number c.own;
  check = check-stays m side.slave cell.byte c.check;
  line = line-stays m side.slave cell.byte c.line;
  progress = progress;
}

-- ---- a message

-- it is acknowledged; the node takes it, its key is kept, and a line tells of it
pub record Receives (m : MasterState NodeState) (side : LineStationState) (cell : LaneCell) (cells : List LaneCell) (body : List ℕ) : Type 0 where
  pub called : SideCalled m (station_heard (lane_left side cells) cell.byte) Ack
  pub host : (after_call side cell).host ≡ after_accept side.slave.host body
  pub kept : (after_call side cell).kept ≡ Some (key_of body)
  pub lines : (who : Who) (named : List ℕ) → step_lines who (slave.step_at_byte node_host side.slave cell.byte) named ≡ did_lines who (Some (node_host.did side.slave.host body)) named
  pub honest : deceived_at station_ear side.slave.ear cell ≡ 0

pub message-heard : (m : MasterState NodeState) (side : LineStationState) (cell : LaneCell) (cells : List LaneCell) (body : List ℕ) → SideCalled m side (Receipt body) → HearsItsCall m side cell cells (a_message side.number body)
    → is_kept side.slave.kept (key_of body) ≡ false → has_room side.slave.host body ≡ true → Receives m side cell cells body
message-heard m side cell cells body c h new room =
    let s = side.slave in
    let lent = lent_at (ear_at s cell.byte).standing in
    let what : heard_at s cell.byte ≡ Some (station_hears.Addressed s.setup.station) = h.what ∙ ap (λ (n : ℕ). Some (station_hears.Addressed n)) (sym c.own) in
    let lent_new : is_kept s.kept (key_of lent) ≡ false = subst (λ (b : List ℕ). is_kept s.kept (key_of b) ≡ false) (sym h.body) new in
    let lent_room : has_room s.host lent ≡ true = subst (λ (b : List ℕ). has_room s.host b ≡ true) (sym h.body) room in
    let is = turn-accepts node_host s cell.byte what h.none_held lent_new lent_room in
    let after : SlaveState NodeState = record s { ear = ear_at s cell.byte; kept = Some (key_of lent); responds = Some resp.Ack; host = after_accept s.host lent } in
    let acks : Answers after [] m.ear an_ack = answers-acks after m.ear c.progress.outside h.still.gives_none refl h.none_held in
    record {
      called = called-after m side cell cells (Receipt body) Ack c (call-answered m side cell cells (a_message side.number body) an_ack c.progress h (subst (λ (t : SlaveState NodeState). Answers t [] m.ear an_ack) (sym is) acks));
      host = ap (λ (t : SlaveState NodeState). t.host) is ∙ ap (after_accept s.host) h.body;
      kept = ap (λ (t : SlaveState NodeState). t.kept) is ∙ ap (λ (b : List ℕ). Some (key_of b)) h.body;
      lines = λ who named. tells-accepts node_host s cell.byte what h.none_held lent_new lent_room who named ∙ ap (λ (b : List ℕ). did_lines who (Some (node_host.did s.host b)) named) h.body;
      honest = h.honest;
    }

-- ---- a poll

still-quiet : (s : SlaveState NodeState) → IsStill s → is_quiet s ≡ true
still-quiet s still = ap (λ (left : List Sent). (length left == 0) && is_none s.responds) still.gives_none ∙ ap is_none still.owes_none

polled-here : (m : MasterState NodeState) (side : LineStationState) (cell : LaneCell) (cells : List LaneCell) → SideCalled m side Polling → HearsItsCall m side cell cells (a_poll side.number) → heard_at side.slave cell.byte ≡ Some (station_hears.Poll side.slave.setup.station)
polled-here m side cell cells c h = h.what ∙ ap (λ (n : ℕ). Some (station_hears.Poll n)) (sym c.own)

-- it has no reply: it says so, and nothing else changes
pub record EndsPoll (m : MasterState NodeState) (side : LineStationState) (cell : LaneCell) (cells : List LaneCell) : Type 0 where
  pub called : SideCalled m (station_heard (lane_left side cells) cell.byte) Eot
  pub host : (after_call side cell).host ≡ side.slave.host
  pub kept : (after_call side cell).kept ≡ side.slave.kept
  pub mute : IsMute node_host side.slave cell.byte
  pub honest : deceived_at station_ear side.slave.ear cell ≡ 0

pub poll-ended : (m : MasterState NodeState) (side : LineStationState) (cell : LaneCell) (cells : List LaneCell) → SideCalled m side Polling → HearsItsCall m side cell cells (a_poll side.number) → next_body side.slave.host ≡ None → EndsPoll m side cell cells
poll-ended m side cell cells c h next =
    let s = side.slave in
    let what = polled-here m side cell cells c h in
    let is = turn-ends node_host s cell.byte what h.none_held (still-quiet s h.still) next in
    let after : SlaveState NodeState = record s { ear = ear_at s cell.byte; mouth = give s.mouth (unmarked (pair_bytes 4)) } in
    let ends : Answers after [] m.ear an_eot = answers-ends after s.mouth m.ear c.progress.outside refl h.still.owes_none h.none_held in
    record {
      called = called-after m side cell cells Polling Eot c (call-answered m side cell cells (a_poll side.number) an_eot c.progress h (subst (λ (t : SlaveState NodeState). Answers t [] m.ear an_eot) (sym is) ends));
      host = ap (λ (t : SlaveState NodeState). t.host) is;
      kept = ap (λ (t : SlaveState NodeState). t.kept) is;
      mute = mute-polled node_host s cell.byte s.setup.station what h.none_held;
      honest = h.honest;
    }

-- it has one: it holds and sends it
pub record SendsReply (m : MasterState NodeState) (side : LineStationState) (cell : LaneCell) (cells : List LaneCell) (body : List ℕ) : Type 0 where
  pub called : SideCalled m (station_heard (lane_left side cells) cell.byte) (Message body)
  pub host : (after_call side cell).host ≡ after_next side.slave.host
  pub kept : (after_call side cell).kept ≡ side.slave.kept
  pub mute : IsMute node_host side.slave cell.byte
  pub honest : deceived_at station_ear side.slave.ear cell ≡ 0

pub poll-answered : (m : MasterState NodeState) (side : LineStationState) (cell : LaneCell) (cells : List LaneCell) (body : List ℕ) → SideCalled m side Polling → HearsItsCall m side cell cells (a_poll side.number)
    → next_body side.slave.host ≡ Some body → 6 ≤ length body → length body ≤ 250 → SendsReply m side cell cells body
poll-answered m side cell cells body c h next least most =
    let s = side.slave in
    let what = polled-here m side cell cells c h in
    let is = turn-sends node_host s cell.byte body what h.none_held (still-quiet s h.still) next in
    let after : SlaveState NodeState = sent (record s { ear = ear_at s cell.byte; held = Some loaded; sending = body; host = after_next s.host }) in
    let sends : Answers after [] m.ear (a_reply body) = answers-sends after s.mouth m.ear c.progress.outside least most (ap (λ check. transmit s.mouth (reply_sent check body)) c.line) h.still.owes_none refl in
    record {
      called = called-after m side cell cells Polling (Message body) c (call-answered m side cell cells (a_poll side.number) (a_reply body) c.progress h (subst (λ (t : SlaveState NodeState). Answers t [] m.ear (a_reply body)) (sym is) sends));
      host = ap (λ (t : SlaveState NodeState). t.host) is;
      kept = ap (λ (t : SlaveState NodeState). t.kept) is;
      mute = mute-polled node_host s cell.byte s.setup.station what h.none_held;
      honest = h.honest;
    }
