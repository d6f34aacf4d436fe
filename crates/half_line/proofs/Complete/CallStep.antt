-- A cell arrives at a station in an undisturbed run: it passes the station over, or it ends a call, which the station answers.
use Rattle.std.proofs.Common.{◌≡◌, ◌∙◌, ℕ, Bool, true, false, List, [], ◌∷◌, ◌++◌, length, Some, None, refl, ap, sym, subst, inl, inr, append-nil}
use Rattle.std.specs.Prelude.{◌⊎◌, nat_lt, slice_get, slice_set, ◌==◌, if◌then◌else◌}
use Rattle.std.specs.Option.{option_and_then}
use Rattle.std.proofs.lemmas.Bool.{eqb-true, eqb-false}
use Rattle.df1_base.specs.declared.host.Did.TheVariants as did
use Rattle.df1_node.specs.Initiator.{body_at}
use Rattle.df1_node.specs.Node.{NodeState, did_accept, next_body}
use Rattle.half_frame.specs.SlaveStanding.{lent_at}
use Rattle.half_master.specs.Master.{MasterState}
use Rattle.half_slave.specs.Slave as slave
use Rattle.half_slave.specs.Slave.{SlaveState, slave_after_byte}
use Rattle.half_slave.proofs.Rows.{byte-ear}
use Rattle.script_statement.specs.declared.who.Who.TheVariants.{S}
use Rattle.replay_report.specs.declared.record.Line.{Line}
use Rattle.replay_report.specs.declared.record.Line.TheVariants as line
use Rattle.lane_cells.specs.Cells.{LaneCell}
use Rattle.each_once.specs.NodeHost.{node_host}
use Rattle.each_once.specs.Tells.{executed_in}
use Rattle.each_once.proofs.CommandsUnderWay.{under-way-at}
use Rattle.each_once.proofs.Sublists.{same-some, get-seam}
use Rattle.report_lines.specs.NodeLines.{did_lines, step_lines}
use Rattle.half_line.specs.Acts.{LineStationState, station_heard}
use Rattle.half_line.proofs.Once.Invariant.{number-at}
use Rattle.half_line.proofs.Complete.EarHears.{deceived_at}
use Rattle.half_line.proofs.Complete.StationHears.{station_ear}
use Rattle.half_line.proofs.Complete.StationTurns.{IsMute}
use Rattle.half_line.proofs.Complete.StationRests.{KeepsHost}
use Rattle.half_line.proofs.Complete.Stages.{SideRests, Awaited, Receipt, Polling, Ack, Eot, Message, a_message, a_poll, an_ack, an_eot, a_reply, SideCalled, Now, Idles, Awaits, Awaiting, Stage}
use Rattle.half_line.proofs.Complete.StageSteps.{lane_left, rests-arrives, StillComes, comes-arrives, none-arrives}
use Rattle.half_line.proofs.Complete.StagePlaces.{set-rests, set-called, set-another}
use Rattle.half_line.proofs.Complete.CallHeard.{HearsItsCall, called-after, message-heard, poll-ended, poll-answered}
use Rattle.half_line.proofs.Complete.Origin.{Origin, is_mine, short-from}
use Rattle.half_line.proofs.Complete.Dealings.{IsSameNode, same-node, room-for, call-new, reply-fits}
use Rattle.half_line.proofs.Complete.Ledger.{told_in, Ledger, ledger-ends}
use Rattle.half_line.proofs.Complete.LedgerSteps.{ledger-side, goes-here, ledger-executes, ledger-fetches}
use Rattle.half_line.proofs.Complete.Invariant.{Course}
use Rattle.half_line.proofs.Complete.LineFacts.{Known, plain, elsewhere}

-- a station of the line, at its place
pub record At (origin : Origin) (m : MasterState NodeState) (stations : List LineStationState) (lines : List Line) (place : ℕ) (side : LineStationState) : Type 0 where
  pub known : Known origin m stations lines
  pub is_at : slice_get stations place ≡ Some side

-- the station after the cell
abbrev pub side_heard : LineStationState → LaneCell → List LaneCell → LineStationState
side_heard side cell cells = station_heard (lane_left side cells) cell.byte

-- what is told of the cell
abbrev pub call_lines : LineStationState → LaneCell → List Line
call_lines side cell = step_lines (S side.number) (slave.step_at_byte node_host side.slave cell.byte) (slave.body_of (slave_after_byte node_host side.slave cell.byte))

pub record Arrived (origin : Origin) (m : MasterState NodeState) (stations : List LineStationState) (late : ℕ) (lines : List Line) (place : ℕ) (side : LineStationState) (cell : LaneCell) (cells : List LaneCell) : Type 0 where
  pub course : Course origin m (slice_set stations place (side_heard side cell cells)) late (lines ++ call_lines side cell)
  pub honest : deceived_at station_ear side.slave.ear cell ≡ 0

-- ---- nothing is told of it

-- the dealings are those that were, with no line more
told-none : {origin : Origin} {stations : List LineStationState} {lines : List Line} {now : Now} (m : MasterState NodeState) (side : LineStationState) (cell : LaneCell) → IsMute node_host side.slave cell.byte
    → Ledger origin m.host.initiator m.stations stations lines now m.next → Ledger origin m.host.initiator m.stations stations (lines ++ call_lines side cell) now m.next
told-none {origin = origin} {stations = stations} {lines = lines} {now = now} m side cell mute l =
    subst (λ (all : List Line). Ledger origin m.host.initiator m.stations stations all now m.next)
    (sym (append-nil lines) ∙ ap (λ (more : List Line). lines ++ more) (sym (mute (S side.number) (slave.body_of (slave_after_byte node_host side.slave cell.byte))))) l

mute-step : {origin : Origin} {m : MasterState NodeState} {stations : List LineStationState} {place : ℕ} {side : LineStationState} {late : ℕ} {lines : List Line} (cell : LaneCell) (cells : List LaneCell) (now : Now) → At origin m stations lines place side
    → Stage late m (slice_set stations place (side_heard side cell cells)) now → IsSameNode side.slave.host (slave_after_byte node_host side.slave cell.byte).host → (slave_after_byte node_host side.slave cell.byte).kept ≡ side.slave.kept
    → IsMute node_host side.slave cell.byte → deceived_at station_ear side.slave.ear cell ≡ 0 → Ledger origin m.host.initiator m.stations stations lines now m.next → Arrived origin m stations late lines place side cell cells
mute-step {m = m} {place = place} {side = side} cell cells now at stage node kept mute honest l = record {
  course = record {
    now = now;
    stage = stage;
    ledger = told-none m side cell mute (ledger-side place side (side_heard side cell cells) at.is_at refl node kept l);
  };
  honest = honest;
}

-- what a station keeps of its node, be it told that a message was delivered or not
kept-node : (was now : NodeState) → KeepsHost node_host was now → IsSameNode was now
kept-node was now (inl same) = same-node was now same
kept-node was now (inr told) = record { replies = ap (λ (node : NodeState). node.replies) told; room = ap (λ (node : NodeState). node.room) told }

-- at rest it stays so
rest-step : {origin : Origin} {m : MasterState NodeState} {stations : List LineStationState} {place : ℕ} {side : LineStationState} {late : ℕ} {lines : List Line} (cell : LaneCell) (cells : List LaneCell) (now : Now) → At origin m stations lines place side → side.to_it ≡ cell ∷ cells
    → SideRests m side → (SideRests m (side_heard side cell cells) → Stage late m (slice_set stations place (side_heard side cell cells)) now)
    → Ledger origin m.host.initiator m.stations stations lines now m.next → Arrived origin m stations late lines place side cell cells
rest-step {m = m} {side = side} cell cells now at is rests stage l =
    let r = rests-arrives m side cell cells is rests in
    mute-step cell cells now at (stage r.rests) (kept-node side.slave.host _ r.host) r.kept r.mute r.honest l

-- ---- what is called stays so

-- of the station that is called, with this stage
record Calls (origin : Origin) (m : MasterState NodeState) (stations : List LineStationState) (late : ℕ) (lines : List Line) (place : ℕ) (side : LineStationState) (awaited : Awaited) : Type 0 where
  at : At origin m stations lines place side
  stage : Stage late m stations (Awaits place awaited)
  called : SideCalled m side awaited
  ledger : Ledger origin m.host.initiator m.stations stations lines (Awaits place awaited) m.next

abbrev StageAfter : ℕ → MasterState NodeState → List LineStationState → ℕ → LineStationState → LaneCell → List LaneCell → Awaited → Type 0
StageAfter late m stations place side cell cells awaited = Stage late m (slice_set stations place (side_heard side cell cells)) (Awaits place awaited)

still-step : {origin : Origin} {m : MasterState NodeState} {stations : List LineStationState} {place : ℕ} {side : LineStationState} {late : ℕ} {lines : List Line} {awaited : Awaited} (cell : LaneCell) (cells : List LaneCell) → (c : Calls origin m stations late lines place side awaited)
    → StageAfter late m stations place side cell cells awaited → IsSameNode side.slave.host (slave_after_byte node_host side.slave cell.byte).host → (slave_after_byte node_host side.slave cell.byte).kept ≡ side.slave.kept
    → IsMute node_host side.slave cell.byte → deceived_at station_ear side.slave.ear cell ≡ 0 → Arrived origin m stations late lines place side cell cells
still-step {place = place} {awaited = awaited} cell cells c stage node kept mute honest =
    mute-step cell cells (Awaits place awaited) c.at stage node kept mute honest c.ledger

-- ---- it hears a message

receipt-hears : {origin : Origin} {m : MasterState NodeState} {stations : List LineStationState} {place : ℕ} {side : LineStationState} {late : ℕ} {lines : List Line} (cell : LaneCell) (cells : List LaneCell) (body : List ℕ) → Calls origin m stations late lines place side (Receipt body)
    → HearsItsCall m side cell cells (a_message side.number body) → Arrived origin m stations late lines place side cell cells
receipt-hears {origin = origin} {m = m} {stations = stations} {place = place} {side = side} {lines = lines} cell cells body c h =
    let k = c.at.known in
    let l = c.ledger in
    let n = side.number in
    let executed = executed_in (S n) lines in
    let d = goes-here place side body c.at.is_at l in
    let at = under-way-at (is_mine origin.issued n) m.host.initiator (executed ++ body ∷ []) (length (told_in n lines)) _ (length executed) body (get-seam executed body []) d.under_way in
    let command = plain origin m stations lines at.0 body k at.1 in
    let r = message-heard m side cell cells body c.called h (call-new body k.few k.numbered l.handed d) (room-for body command d) in
    let named : slave.body_of (slave_after_byte node_host side.slave cell.byte) ≡ body = ap (λ ear. lent_at ear.standing) (byte-ear node_host side.slave cell.byte) ∙ h.body in
    let executes : did_accept side.slave.host body ≡ did.Executed = rw command refl in
    let told : call_lines side cell ≡ line.Exec (S n) body ∷ [] =
    r.lines (S n) (slave.body_of (slave_after_byte node_host side.slave cell.byte)) ∙ ap (λ d. did_lines (S n) (Some d) (slave.body_of (slave_after_byte node_host side.slave cell.byte))) executes ∙ ap (λ (b : List ℕ). line.Exec (S n) b ∷ []) named in
    record {
      course = record {
        now = Awaits place Ack;
        stage = record { waits = c.stage.waits; expects = set-called m stations place (Receipt body) Ack (side_heard side cell cells) c.stage.expects r.called };
        ledger = subst (λ (more : List Line). Ledger origin m.host.initiator m.stations (slice_set stations place (side_heard side cell cells)) (lines ++ more) (Awaits place Ack) m.next) (sym told)
            (ledger-executes place side (side_heard side cell cells) body c.at.is_at refl (k.serve place side c.at.is_at).station command (elsewhere origin m stations lines place side k c.at.is_at) r.host r.kept l);
      };
      honest = r.honest;
    }

receipt-step : {origin : Origin} {m : MasterState NodeState} {stations : List LineStationState} {place : ℕ} {side : LineStationState} {late : ℕ} {lines : List Line} (cell : LaneCell) (cells : List LaneCell) (body : List ℕ) → side.to_it ≡ cell ∷ cells
    → Calls origin m stations late lines place side (Receipt body) → Arrived origin m stations late lines place side cell cells
receipt-step {origin = origin} {m = m} {stations = stations} {place = place} {side = side} {late = late} {lines = lines} cell cells body is c = by-cell (comes-arrives m side cell cells (a_message side.number body) is c.called.progress)
  where
    by-cell : StillComes m side cell cells (a_message side.number body) ⊎ HearsItsCall m side cell cells (a_message side.number body) → Arrived origin m stations late lines place side cell cells
    by-cell (inr h) = receipt-hears cell cells body c h
    by-cell (inl s) =
        let called = called-after m side cell cells (Receipt body) (Receipt body) c.called s.comes in
        let stage : StageAfter late m stations place side cell cells (Receipt body) = record { waits = c.stage.waits; expects = set-called m stations place (Receipt body) (Receipt body) (side_heard side cell cells) c.stage.expects called } in
        still-step cell cells c stage (kept-node side.slave.host _ s.host) s.kept s.mute s.honest

-- ---- it hears a poll

-- it has no reply
none-waits : (node : NodeState) → node.replies ≡ [] → node.initiator.issued ≡ [] → next_body node ≡ None
none-waits node replies issued = rw (replies, issued) (none-either (nat_lt 0 node.initiator.window))
  where
    none-either : (may : Bool) → option_and_then (body_at []) (if may then None else None) ≡ None
    none-either true = refl
    none-either false = refl

one-waits : (node : NodeState) (reply : List ℕ) (rest : List (List ℕ)) → node.replies ≡ reply ∷ rest → next_body node ≡ Some reply
one-waits node reply rest replies = rw replies refl

poll-ends : {origin : Origin} {m : MasterState NodeState} {stations : List LineStationState} {place : ℕ} {side : LineStationState} {late : ℕ} {lines : List Line} (cell : LaneCell) (cells : List LaneCell) → Calls origin m stations late lines place side Polling
    → side.slave.host.replies ≡ [] → HearsItsCall m side cell cells (a_poll side.number) → Arrived origin m stations late lines place side cell cells
poll-ends {m = m} {stations = stations} {place = place} {side = side} {late = late} cell cells c none h =
    let r = poll-ended m side cell cells c.called h (none-waits side.slave.host none (c.at.known.serve place side c.at.is_at).issues_none) in
    let stage : StageAfter late m stations place side cell cells Eot = record { waits = c.stage.waits; expects = set-called m stations place Polling Eot (side_heard side cell cells) c.stage.expects r.called } in
    mute-step cell cells (Awaits place Eot) c.at stage (same-node side.slave.host _ r.host) r.kept r.mute r.honest (ledger-ends place side c.at.is_at none c.ledger)

-- it has one
poll-sends : {origin : Origin} {m : MasterState NodeState} {stations : List LineStationState} {place : ℕ} {side : LineStationState} {late : ℕ} {lines : List Line} (cell : LaneCell) (cells : List LaneCell) (reply : List ℕ) (rest : List (List ℕ)) → Calls origin m stations late lines place side Polling
    → side.slave.host.replies ≡ reply ∷ rest → HearsItsCall m side cell cells (a_poll side.number) → Arrived origin m stations late lines place side cell cells
poll-sends {origin = origin} {m = m} {stations = stations} {place = place} {side = side} {lines = lines} cell cells reply rest c waits h =
    let k = c.at.known in
    let l = c.ledger in
    let at_number = number-at origin.setting.numbers stations place side k.numbers_are c.at.is_at in
    let fits = reply-fits reply rest waits l.fits (short-from origin place side.number (k.short place side.number at_number)) (l.sides place side c.at.is_at) in
    let r = poll-answered m side cell cells reply c.called h (one-waits side.slave.host reply rest waits) fits.0 fits.1 in
    record {
      course = record {
        now = Awaits place (Message reply);
        stage = record { waits = c.stage.waits; expects = set-called m stations place Polling (Message reply) (side_heard side cell cells) c.stage.expects r.called };
        ledger = told-none m side cell r.mute (ledger-fetches place side (side_heard side cell cells) reply rest c.at.is_at refl waits r.host r.kept l);
      };
      honest = r.honest;
    }

poll-hears : {origin : Origin} {m : MasterState NodeState} {stations : List LineStationState} {place : ℕ} {side : LineStationState} {late : ℕ} {lines : List Line} (cell : LaneCell) (cells : List LaneCell) (replies : List (List ℕ)) → side.slave.host.replies ≡ replies
    → Calls origin m stations late lines place side Polling → HearsItsCall m side cell cells (a_poll side.number) → Arrived origin m stations late lines place side cell cells
poll-hears cell cells [] waits c h = poll-ends cell cells c waits h
poll-hears cell cells (reply ∷ rest) waits c h = poll-sends cell cells reply rest c waits h

poll-step : {origin : Origin} {m : MasterState NodeState} {stations : List LineStationState} {place : ℕ} {side : LineStationState} {late : ℕ} {lines : List Line} (cell : LaneCell) (cells : List LaneCell) → side.to_it ≡ cell ∷ cells → Calls origin m stations late lines place side Polling
    → Arrived origin m stations late lines place side cell cells
poll-step {origin = origin} {m = m} {stations = stations} {place = place} {side = side} {late = late} {lines = lines} cell cells is c = by-cell (comes-arrives m side cell cells (a_poll side.number) is c.called.progress)
  where
    by-cell : StillComes m side cell cells (a_poll side.number) ⊎ HearsItsCall m side cell cells (a_poll side.number) → Arrived origin m stations late lines place side cell cells
    by-cell (inr h) = poll-hears cell cells side.slave.host.replies refl c h
    by-cell (inl s) =
        let called = called-after m side cell cells Polling Polling c.called s.comes in
        let stage : StageAfter late m stations place side cell cells Polling = record { waits = c.stage.waits; expects = set-called m stations place Polling Polling (side_heard side cell cells) c.stage.expects called } in
        still-step cell cells c stage (kept-node side.slave.host _ s.host) s.kept s.mute s.honest

-- ---- whatever is awaited

called-step : {origin : Origin} {m : MasterState NodeState} {stations : List LineStationState} {place : ℕ} {side : LineStationState} {late : ℕ} {lines : List Line} (awaited : Awaited) (cell : LaneCell) (cells : List LaneCell) → side.to_it ≡ cell ∷ cells
    → Calls origin m stations late lines place side awaited → Arrived origin m stations late lines place side cell cells
called-step (Receipt body) cell cells is c = receipt-step cell cells body is c
called-step Polling cell cells is c = poll-step cell cells is c
called-step {m = m} {side = side} Ack cell cells is c = absurd (none-arrives m side cell cells an_ack is c.called.progress)
called-step {m = m} {side = side} Eot cell cells is c = absurd (none-arrives m side cell cells an_eot is c.called.progress)
called-step {m = m} {side = side} (Message body) cell cells is c = absurd (none-arrives m side cell cells (a_reply body) is c.called.progress)

-- ---- of any station

by-now : {origin : Origin} {m : MasterState NodeState} {stations : List LineStationState} {place : ℕ} {side : LineStationState} {late : ℕ} {lines : List Line} (now : Now) (cell : LaneCell) (cells : List LaneCell) → At origin m stations lines place side → side.to_it ≡ cell ∷ cells
    → Stage late m stations now → Ledger origin m.host.initiator m.stations stations lines now m.next → Arrived origin m stations late lines place side cell cells
by-now {m = m} {stations = stations} {place = place} {side = side} Idles cell cells at is stage l =
    rest-step cell cells Idles at is (stage.rest place side at.is_at)
    (λ new. record { idle = stage.idle; outside = stage.outside; rest = set-rests m stations place side (side_heard side cell cells) at.is_at new stage.rest }) l
by-now {origin = origin} {m = m} {stations = stations} {place = place} {side = side} {late = late} {lines = lines} (Awaits q awaited) cell cells at is stage l = by-place (place == q) refl
  where
    by-place : (same : Bool) → (place == q) ≡ same → Arrived origin m stations late lines place side cell cells
    by-place false same =
        let differ = eqb-false place q same in
        rest-step cell cells (Awaits q awaited) at is (stage.expects.others place side at.is_at differ)
        (λ new. record { waits = stage.waits; expects = set-another m stations q place awaited side (side_heard side cell cells) at.is_at differ stage.expects new }) l
    by-place true same =
        let there = sym (eqb-true place q same) in
        let stage_here : Awaiting late m stations place awaited = subst (λ (n : ℕ). Awaiting late m stations n awaited) there stage in
        let e = stage_here.expects in
        let side_is : e.side ≡ side = same-some e.side side (sym e.is_at ∙ at.is_at) in
        let called = subst (λ (s : LineStationState). SideCalled m s awaited) side_is e.called in
        let here = subst (λ (n : ℕ). Ledger origin m.host.initiator m.stations stations lines (Awaits n awaited) m.next) there l in
        called-step awaited cell cells is (record { at = at; stage = stage_here; called = called; ledger = here })

pub station-arrives : (origin : Origin) (m : MasterState NodeState) (stations : List LineStationState) (late : ℕ) (lines : List Line) (place : ℕ) (side : LineStationState) (cell : LaneCell) (cells : List LaneCell) → At origin m stations lines place side → side.to_it ≡ cell ∷ cells
    → Course origin m stations late lines → Arrived origin m stations late lines place side cell cells
station-arrives origin m stations late lines place side cell cells at is c = by-now c.now cell cells at is c.stage c.ledger
