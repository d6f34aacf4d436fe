-- A cell arrives at the master in an undisturbed run: the reply that it is of goes on, or ends; a message that ends so is the answer to a command that is out.
use Rattle.std.proofs.Common.{◌≡◌, ◌∙◌, ℕ, ◌+◌, Bool, true, false, List, [], ◌∷◌, ◌++◌, Option, Some, None, refl, ap, sym, subst, inl, inr, append-nil}
use Rattle.std.specs.Prelude.{◌⊎◌, slice_get, slice_set, slice_index, ◌==◌}
use Rattle.std.proofs.lemmas.Bool.{eqb-true, eqb-false}
use Rattle.std.proofs.lemmas.Option.{slice_get_within}
use Rattle.df1_base.specs.declared.host.Did.{Did}
use Rattle.df1_base.specs.declared.host.Did.TheVariants as did
use Rattle.df1_base.specs.declared.host.News.TheVariants as news
use Rattle.df1_base.specs.declared.link.Act.{Act}
use Rattle.df1_base.specs.declared.link.Act.TheVariants as act
use Rattle.df1_base.specs.declared.link.Step.{Step}
use Rattle.pccc_envelope.specs.Envelope.{is_reply, key_of}
use Rattle.pccc_envelope.specs.Accepted.{is_kept}
use Rattle.df1_node.specs.Initiator.{InitiatorState, answered_place, after_reply as initiator_after}
use Rattle.df1_node.specs.Node.{NodeState, has_room, did_accept, after_accept}
use Rattle.half_master.specs.declared.stations.Station.{Station}
use Rattle.half_master.specs.Keys.{kept_at}
use Rattle.half_master.specs.Stations.{with_key}
use Rattle.half_master.specs.Master as master
use Rattle.half_master.specs.Master.{MasterState, with_byte, master_after_byte}
use Rattle.half_master.proofs.Changes.{Says}
use Rattle.half_master.proofs.Seen.{lent-after}
use Rattle.script_statement.specs.declared.who.Who.TheVariants.{M}
use Rattle.replay_report.specs.declared.record.Line.{Line}
use Rattle.lane_cells.specs.Cells.{LaneCell}
use Rattle.each_once.specs.NodeHost.{node_host}
use Rattle.each_once.proofs.Sublists.{same-some, from-map}
use Rattle.report_lines.specs.NodeLines.{did_lines, act_lines, step_lines}
use Rattle.half_line.specs.Acts.{LineStationState}
use Rattle.half_line.proofs.Once.Invariant.{number-at}
use Rattle.half_line.proofs.Once.Places.{set-same, set-other}
use Rattle.half_line.proofs.Complete.EarHears.{Telling, deceived_at}
use Rattle.half_line.proofs.Complete.MasterHears.{master_ear}
use Rattle.half_line.proofs.Complete.Turns.{is_polled, byte-next}
use Rattle.half_line.proofs.Complete.Stages.{Awaited, Receipt, Polling, Ack, Eot, Message, an_ack, an_eot, a_reply, Returns, Progress, SideCalled, Now, Idles, Awaits, Awaiting, Stage}
use Rattle.half_line.proofs.Complete.StageTicks.{waits-alike}
use Rattle.half_line.proofs.Complete.StagePlaces.{set-settled}
use Rattle.half_line.proofs.Complete.StationAnswers.{Answers, StillAnswers, HearsReply, reply-cell}
use Rattle.half_line.proofs.Complete.ReplyHeard.{back_left, after_reply, GoesOn, silent-heard, Settles, ack-heard, eot-heard, good-heard}
use Rattle.half_line.proofs.Complete.Origin.{Origin}
use Rattle.half_line.proofs.Complete.Dealings.{same-node, reply-new}
use Rattle.half_line.proofs.Complete.Ledger.{Ledger, going, back, ledger-now}
use Rattle.half_line.proofs.Complete.LedgerSteps.{kept_in, answer_lines, comes-here, accepts-here, ledger-side, ledger-answers}
use Rattle.half_line.proofs.Complete.Invariant.{Course}
use Rattle.half_line.proofs.Complete.LineFacts.{elsewhere, not-theirs, answer-from, from-here, from-elsewhere}
use Rattle.half_line.proofs.Complete.CallStep.{At}

-- what is told of the cell
abbrev pub reply_lines : MasterState NodeState → LaneCell → List Line
reply_lines m cell = step_lines M (master.step_at_byte node_host m cell.byte) (master.body_of (after_reply m cell))

pub record Replied (origin : Origin) (m : MasterState NodeState) (stations : List LineStationState) (late : ℕ) (lines : List Line) (place : ℕ) (side : LineStationState) (cell : LaneCell) (cells : List LaneCell) : Type 0 where
  pub course : Course origin (after_reply m cell) (slice_set stations place (back_left side cells)) late (lines ++ reply_lines m cell)
  pub ear_check : (after_reply m cell).ear.check ≡ m.ear.check
  pub honest : deceived_at master_ear m.ear cell ≡ 0

-- a reply comes from the station at a place, on a line with this stage
record Comings (origin : Origin) (m : MasterState NodeState) (stations : List LineStationState) (late : ℕ) (lines : List Line) (place : ℕ) (side : LineStationState) (awaited : Awaited) : Type 0 where
  at : At origin m stations lines place side
  stage : Stage late m stations (Awaits place awaited)
  called : SideCalled m side awaited
  ledger : Ledger origin m.host.initiator m.stations stations lines (Awaits place awaited) m.next

-- ---- what is told

step-told : (step : Step) (named : List ℕ) (what : Act) (done : Option Did) → step.act ≡ what → step.did ≡ done → step.news ≡ news.Nothing → step_lines M step named ≡ act_lines M what done named
step-told step named what done is-act is-did is-news = rw (is-act, is-did, is-news) (append-nil (act_lines M what done named))

says-none : (m : MasterState NodeState) (cell : LaneCell) (what : Act) → Says node_host m cell.byte what None news.Nothing → ((named : List ℕ) → act_lines M what None named ≡ []) → reply_lines m cell ≡ []
says-none m cell what says none = step-told (master.step_at_byte node_host m cell.byte) (master.body_of (after_reply m cell)) what None says.act says.did says.news ∙ none (master.body_of (after_reply m cell))

-- the dealings with no line more, with a station that only gave a cell away
told-none : {origin : Origin} {stations : List LineStationState} {lines : List Line} {now : Now} (m : MasterState NodeState) (place : ℕ) (side : LineStationState) (cell : LaneCell) (cells : List LaneCell) → slice_get stations place ≡ Some side → reply_lines m cell ≡ []
    → Ledger origin m.host.initiator m.stations stations lines now m.next → Ledger origin m.host.initiator m.stations (slice_set stations place (back_left side cells)) (lines ++ reply_lines m cell) now m.next
told-none {origin = origin} {stations = stations} {lines = lines} {now = now} m place side cell cells at none l =
    subst (λ (all : List Line). Ledger origin m.host.initiator m.stations (slice_set stations place (back_left side cells)) all now m.next)
    (sym (append-nil lines) ∙ ap (λ (more : List Line). lines ++ more) (sym none))
    (ledger-side place side (back_left side cells) at refl (same-node side.slave.host side.slave.host refl) refl l)

-- ---- it goes on

on-step : {origin : Origin} {m : MasterState NodeState} {stations : List LineStationState} {place : ℕ} {side : LineStationState} {late : ℕ} {lines : List Line} (awaited : Awaited) (reply : Telling master_ear) (cell : LaneCell) (cells : List LaneCell)
    → (c : Comings origin m stations late lines place side awaited) → (g : GoesOn m side cell cells reply) → Progress (with_byte m cell.byte) (back_left side cells) awaited → Replied origin m stations late lines place side cell cells
on-step {origin = origin} {m = m} {stations = stations} {place = place} {side = side} {late = late} {lines = lines} awaited reply cell cells c g progress =
    let now = with_byte m cell.byte in
    let left = back_left side cells in
    let all = slice_set stations place left in
    let e = c.stage.expects in
    let stage : Awaiting late now all place awaited = record {
      waits = waits-alike late m now place awaited refl refl c.stage.waits;
      expects = record {
        side = left;
        is_at = set-same stations place side left c.at.is_at;
        called = record { own = c.called.own; check = c.called.check; line = c.called.line; progress = progress };
        others = λ p other at differ. g.others other (e.others p other (sym (set-other stations place p left differ) ∙ at) differ);
      };
    } in
    let course : Course origin now all late (lines ++ reply_lines m cell) = record {
      now = Awaits place awaited;
      stage = stage;
      ledger = told-none m place side cell cells c.at.is_at (says-none m cell act.Nothing g.says (λ named. refl)) c.ledger;
    } in
    record {
      course = subst (λ (after : MasterState NodeState). Course origin after all late (lines ++ reply_lines m cell)) (sym g.master) course;
      ear_check = ap (λ (after : MasterState NodeState). after.ear.check) g.master;
      honest = g.honest;
    }

-- ---- it ends

settled-stage : {m : MasterState NodeState} {stations : List LineStationState} {place : ℕ} {side : LineStationState} {late : ℕ} {awaited : Awaited} {host : NodeState} {listed : List Station} (cell : LaneCell) (cells : List LaneCell) → Stage late m stations (Awaits place awaited) → Settles m side cell cells host listed
    → Stage late (after_reply m cell) (slice_set stations place (back_left side cells)) Idles
settled-stage {m = m} {stations = stations} {place = place} {side = side} {awaited = awaited} cell cells stage s = record {
  idle = s.idle;
  outside = s.outside;
  rest = set-settled m (after_reply m cell) stations place awaited (back_left side cells) stage.expects s.this s.others;
}

settled-check : {m : MasterState NodeState} {side : LineStationState} {awaited : Awaited} {host : NodeState} {listed : List Station} (cell : LaneCell) (cells : List LaneCell) → SideCalled m side awaited → Settles m side cell cells host listed → (after_reply m cell).ear.check ≡ m.ear.check
settled-check cell cells c s = sym s.this.line ∙ c.line

-- of an ACK and an EOT nothing is told, and the initiator stays
settles-step : {origin : Origin} {m : MasterState NodeState} {stations : List LineStationState} {place : ℕ} {side : LineStationState} {late : ℕ} {lines : List Line} {awaited : Awaited} {host : NodeState} (cell : LaneCell) (cells : List LaneCell) → Comings origin m stations late lines place side awaited
    → ((p : ℕ) → going (Awaits place awaited) p ≡ []) → ((p : ℕ) → back (Awaits place awaited) p ≡ []) → ((p : ℕ) → is_polled (Awaits place awaited) p ≡ false) → host.initiator ≡ m.host.initiator → Settles m side cell cells host m.stations → reply_lines m cell ≡ [] → Replied origin m stations late lines place side cell cells
settles-step {origin = origin} {m = m} {stations = stations} {place = place} {side = side} {lines = lines} cell cells c none_going none_back none_polled same s none =
    let all = slice_set stations place (back_left side cells) in
    let i : (after_reply m cell).host.initiator ≡ m.host.initiator = ap (λ (node : NodeState). node.initiator) s.host_is ∙ same in
    let l = told-none m place side cell cells c.at.is_at none (ledger-now Idles none_going none_back none_polled c.ledger) in
    record {
      course = record {
        now = Idles;
        stage = settled-stage cell cells c.stage s;
        ledger = subst (λ (listed : List Station). Ledger origin (after_reply m cell).host.initiator listed all (lines ++ reply_lines m cell) Idles (after_reply m cell).next) (sym s.list_is)
            (subst (λ (x : InitiatorState). Ledger origin x m.stations all (lines ++ reply_lines m cell) Idles (after_reply m cell).next) (sym i)
            (subst (λ (next : ℕ). Ledger origin m.host.initiator m.stations all (lines ++ reply_lines m cell) Idles next) (sym (byte-next m cell.byte)) l));
      };
      ear_check = settled-check cell cells c.called s;
      honest = s.honest;
    }

-- ---- an answer

-- what the master does with it
accepted-reply : (node : NodeState) (reply : List ℕ) → is_reply reply ≡ true → (after_accept node reply).initiator ≡ initiator_after node.initiator reply
accepted-reply node reply is = rw is refl

answered : (node : NodeState) (reply : List ℕ) (place : ℕ) → is_reply reply ≡ true → answered_place node.initiator.issued reply ≡ Some place → did_accept node reply ≡ did.Answered (place + 1)
answered node reply place is at = rw (is, at) refl

room-for-reply : (node : NodeState) (reply : List ℕ) → is_reply reply ≡ true → has_room node reply ≡ true
room-for-reply node reply is = rw is refl

answer-step : {origin : Origin} {m : MasterState NodeState} {stations : List LineStationState} {place : ℕ} {side : LineStationState} {late : ℕ} {lines : List Line} (reply : List ℕ) (cell : LaneCell) (cells : List LaneCell) → Comings origin m stations late lines place side (Message reply)
    → HearsReply side.slave cell cells m.ear (a_reply reply) → Replied origin m stations late lines place side cell cells
answer-step {origin = origin} {m = m} {stations = stations} {place = place} {side = side} {lines = lines} reply cell cells c h =
    let k = c.at.known in
    let l = c.ledger in
    let i = m.host.initiator in
    let n = side.number in
    let w = c.stage.waits in
    let at_number = number-at origin.setting.numbers stations place side k.numbers_are c.at.is_at in
    let station = from-map (λ (x : Station). x.number) m.stations place n (ap (λ (ns : List ℕ). slice_get ns place) k.list_is ∙ at_number) in
    let a = accepts-here place side station.0 reply c.at.is_at station.1 k.few k.numbered l in
    let from : slice_index reply 1 ≡ station.0.number = answer-from a.body reply a.fits ∙ eqb-true (slice_index a.body 0) n a.to ∙ sym station.2 in
    let kept : kept_at m.stations place ≡ station.0.kept = ap (λ (o : Option Station). kept_in o) station.1 in
    let new : is_kept station.0.kept (key_of reply) ≡ false = ap (λ key. is_kept key (key_of reply)) (sym kept) ∙ reply-new reply k.few k.numbered l.handed (comes-here place side reply c.at.is_at l) in
    let good = good-heard m side cell cells reply w.left place station.0 c.called w.phase h station.1 from new (room-for-reply m.host reply a.is_a_reply) in
    let s = good.0 in
    let number = a.answers.place + 1 in
    let named : master.body_of (after_reply m cell) ≡ reply = lent-after node_host m cell.byte ∙ h.body in
    let told : reply_lines m cell ≡ answer_lines number reply =
    step-told (master.step_at_byte node_host m cell.byte) (master.body_of (after_reply m cell)) act.Accept (Some (did_accept m.host reply)) good.1.act good.1.did good.1.news
    ∙ ap (λ (d : Did). did_lines M (Some d) (master.body_of (after_reply m cell))) (answered m.host reply a.answers.place a.is_a_reply a.answers.is_place)
    ∙ ap (λ (b : List ℕ). answer_lines number b) named in
    let all = slice_set stations place (back_left side cells) in
    let now = ledger-answers place side (back_left side cells) station.0 reply number c.at.is_at refl refl station.1 (slice_get_within origin.setting.numbers place side.number at_number) (from-here n a.body reply a.fits a.to) a
    (λ p other found differ. let far = not-theirs side other a.body a.to (elsewhere origin m stations lines place side k c.at.is_at p other found differ) in (far, from-elsewhere other.number a.body reply a.fits far)) l in
    let same : (after_reply m cell).host.initiator ≡ initiator_after i reply = ap (λ (node : NodeState). node.initiator) s.host_is ∙ accepted-reply m.host reply a.is_a_reply in
    record {
      course = record {
        now = Idles;
        stage = settled-stage cell cells c.stage s;
        ledger = subst (λ (more : List Line). Ledger origin (after_reply m cell).host.initiator (after_reply m cell).stations all (lines ++ more) Idles (after_reply m cell).next) (sym told)
            (subst (λ (listed : List Station). Ledger origin (after_reply m cell).host.initiator listed all (lines ++ answer_lines number reply) Idles (after_reply m cell).next) (sym s.list_is)
            (subst (λ (x : InitiatorState). Ledger origin x (with_key m.stations place (key_of reply)) all (lines ++ answer_lines number reply) Idles (after_reply m cell).next) (sym same)
            (subst (λ (next : ℕ). Ledger origin (initiator_after i reply) (with_key m.stations place (key_of reply)) all (lines ++ answer_lines number reply) Idles next) (sym (byte-next m cell.byte)) now)));
      };
      ear_check = settled-check cell cells c.called s;
      honest = s.honest;
    }

-- ---- whatever is awaited

abbrev Next : MasterState NodeState → LineStationState → LaneCell → List LaneCell → Telling master_ear → Type 0
Next m side cell cells reply = StillAnswers side.slave cell cells m.ear reply ⊎ HearsReply side.slave cell cells m.ear reply

next-cell : (m : MasterState NodeState) (side : LineStationState) (cell : LaneCell) (cells : List LaneCell) (reply : Telling master_ear) → side.from_it ≡ cell ∷ cells → Returns m side reply → Next m side cell cells reply
next-cell m side cell cells reply is r = reply-cell side.slave cell cells m.ear reply (subst (λ (lane : List LaneCell). Answers side.slave lane m.ear reply) is r.answers)

none-comes : (m : MasterState NodeState) (side : LineStationState) (cell : LaneCell) (cells : List LaneCell) → side.from_it ≡ cell ∷ cells → side.from_it ≡ [] → ⊥
none-comes m side cell cells is none = let no : cell ∷ cells ≡ [] = sym is ∙ none in cc

returns-step : {origin : Origin} {m : MasterState NodeState} {stations : List LineStationState} {place : ℕ} {side : LineStationState} {late : ℕ} {lines : List Line} (awaited : Awaited) (cell : LaneCell) (cells : List LaneCell) → side.from_it ≡ cell ∷ cells
    → Comings origin m stations late lines place side awaited → Replied origin m stations late lines place side cell cells
returns-step {m = m} {side = side} (Receipt body) cell cells is c = absurd (none-comes m side cell cells is c.called.progress.none_back)
returns-step {m = m} {side = side} Polling cell cells is c = absurd (none-comes m side cell cells is c.called.progress.none_back)
returns-step {origin = origin} {m = m} {stations = stations} {place = place} {side = side} {late = late} {lines = lines} Ack cell cells is c = by-cell (next-cell m side cell cells an_ack is c.called.progress)
  where
    by-cell : Next m side cell cells an_ack → Replied origin m stations late lines place side cell cells
    by-cell (inl still) =
        let g = silent-heard m side cell cells an_ack c.called.progress still in
        on-step Ack an_ack cell cells c g g.returns
    by-cell (inr h) =
        let w = c.stage.waits in
        let r = ack-heard m side cell cells w.left w.resent c.called w.phase h in
        settles-step cell cells c (λ p. refl) (λ p. refl) (λ p. refl) refl r.0 (says-none m cell act.PeerAck r.1 (λ named. refl))
returns-step {origin = origin} {m = m} {stations = stations} {place = place} {side = side} {late = late} {lines = lines} Eot cell cells is c = by-cell (next-cell m side cell cells an_eot is c.called.progress)
  where
    by-cell : Next m side cell cells an_eot → Replied origin m stations late lines place side cell cells
    by-cell (inl still) =
        let g = silent-heard m side cell cells an_eot c.called.progress still in
        on-step Eot an_eot cell cells c g g.returns
    by-cell (inr h) =
        let w = c.stage.waits in
        let r = eot-heard m side cell cells w.left place c.called w.phase h in
        settles-step cell cells c (λ p. refl) (λ p. refl) (λ p. refl) refl r.0 (says-none m cell act.Nothing r.1 (λ named. refl))
returns-step {origin = origin} {m = m} {stations = stations} {place = place} {side = side} {late = late} {lines = lines} (Message reply) cell cells is c = by-cell (next-cell m side cell cells (a_reply reply) is c.called.progress)
  where
    by-cell : Next m side cell cells (a_reply reply) → Replied origin m stations late lines place side cell cells
    by-cell (inl still) =
        let g = silent-heard m side cell cells (a_reply reply) c.called.progress still in
        on-step (Message reply) (a_reply reply) cell cells c g g.returns
    by-cell (inr h) = answer-step reply cell cells c h

-- ---- of any station

by-now : {origin : Origin} {m : MasterState NodeState} {stations : List LineStationState} {place : ℕ} {side : LineStationState} {late : ℕ} {lines : List Line} (now : Now) (cell : LaneCell) (cells : List LaneCell) → At origin m stations lines place side → side.from_it ≡ cell ∷ cells
    → Stage late m stations now → Ledger origin m.host.initiator m.stations stations lines now m.next → Replied origin m stations late lines place side cell cells
by-now {m = m} {place = place} {side = side} Idles cell cells at is stage l = absurd (none-comes m side cell cells is (stage.rest place side at.is_at).none_back)
by-now {origin = origin} {m = m} {stations = stations} {place = place} {side = side} {late = late} {lines = lines} (Awaits q awaited) cell cells at is stage l = by-place (place == q) refl
  where
    by-place : (same : Bool) → (place == q) ≡ same → Replied origin m stations late lines place side cell cells
    by-place false same = absurd (none-comes m side cell cells is (stage.expects.others place side at.is_at (eqb-false place q same)).none_back)
    by-place true same =
        let there = sym (eqb-true place q same) in
        let stage_here : Awaiting late m stations place awaited = subst (λ (n : ℕ). Awaiting late m stations n awaited) there stage in
        let e = stage_here.expects in
        let side_is : e.side ≡ side = same-some e.side side (sym e.is_at ∙ at.is_at) in
        let called = subst (λ (s : LineStationState). SideCalled m s awaited) side_is e.called in
        let here = subst (λ (n : ℕ). Ledger origin m.host.initiator m.stations stations lines (Awaits n awaited) m.next) there l in
        returns-step awaited cell cells is (record { at = at; stage = stage_here; called = called; ledger = here })

pub master-hears : (origin : Origin) (m : MasterState NodeState) (stations : List LineStationState) (late : ℕ) (lines : List Line) (place : ℕ) (side : LineStationState) (cell : LaneCell) (cells : List LaneCell) → At origin m stations lines place side → side.from_it ≡ cell ∷ cells
    → Course origin m stations late lines → Replied origin m stations late lines place side cell cells
master-hears origin m stations late lines place side cell cells at is c = by-now c.now cell cells at is c.stage c.ledger
