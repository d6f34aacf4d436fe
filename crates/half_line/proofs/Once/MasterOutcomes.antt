-- In every run, whatever is heard: the lines tell of each command of the master how it ended, once, and of no other.
use Rattle.std.proofs.Common.{◌≡◌, ◌∙◌, ℕ, zero, suc, Bool, true, false, List, [], ◌∷◌, ◌++◌, map, Option, Some, None, is_some, refl, ap, ap₂, sym, subst, append-nil, append_assoc}
use Rattle.std.specs.Prelude.{All, slice_get, slice_index, replicate, unwrap_or, if◌then◌else◌}
use Rattle.std.specs.Option.{option_map, option_map_or, option_or}
use Rattle.std.proofs.lemmas.Bool.{cond_both}
use Rattle.std.proofs.lemmas.List.{map-append}
use Rattle.std.proofs.lemmas.List.Elements.{All-head, All-tail}
use Rattle.std.proofs.lemmas.Option.{slice_get-map}
use Rattle.df1_base.specs.declared.host.Did.{Did}
use Rattle.df1_base.specs.declared.host.Did.TheVariants as did
use Rattle.df1_base.specs.declared.host.Fate.{Fate}
use Rattle.df1_base.specs.declared.host.Fate.TheVariants as fate
use Rattle.df1_base.specs.declared.host.News.{News}
use Rattle.df1_base.specs.declared.host.News.TheVariants as news
use Rattle.df1_base.specs.declared.link.Act.{Act}
use Rattle.df1_base.specs.declared.link.Act.TheVariants as act
use Rattle.df1_base.specs.declared.link.Step.{Step}
use Rattle.df1_base.specs.declared.link.Turn.{Turn}
use Rattle.df1_base.specs.HostAnswers.{host_told, news_of}
use Rattle.df1_node.specs.declared.handed.Handed.TheVariants as handed
use Rattle.df1_node.specs.Initiator.{Issued, Waiting, InitiatorState, next_command, next_place, next_issued}
use Rattle.df1_node.specs.Node.{NodeState, did_accept, after_accept, after_next, after_told, after_tick, gone_unanswered, initiator_after}
use Rattle.half_master.specs.Emission.{Byte, Tick as TickLetter, Take as TakeLetter}
use Rattle.half_master.specs.Master.{MasterState, body_of, with_byte, with_host, begun_of, message_next, master_after_byte, master_after_tick, master_after_take, step_at_byte}
use Rattle.half_master.specs.Stations.{numbers_of as station_numbers, is_listed}
use Rattle.half_master.proofs.KeyLemmas.{signal-numbers}
use Rattle.half_master.proofs.LastMessage.{next-of}
use Rattle.half_master.proofs.Seen.{accepts, passes, at-byte, at-tick, lent-after, turn_of, listed-number}
use Rattle.script_statement.specs.declared.who.Who.{Who}
use Rattle.script_statement.specs.declared.who.Who.TheVariants.{M, S}
use Rattle.script_parts.specs.declared.script.Event.{Event}
use Rattle.script_parts.specs.declared.script.Event.TheVariants as event
use Rattle.script_parts.specs.declared.script.Script.{Script}
use Rattle.script_parts.specs.HalfPlayable.{IsHalfPossible, IsHalfPlayable, is_declared, numbers_of}
use Rattle.replay_report.specs.declared.record.Line.{Line}
use Rattle.replay_report.specs.Report.{sent_lines}
use Rattle.lane_cells.specs.Cells.{LaneCell}
use Rattle.report_lines.specs.NodeLines.{did_lines, act_lines, news_lines, step_lines, turn_lines, gone_lines}
use Rattle.each_once.specs.Commands.{AreOutcomesTold}
use Rattle.each_once.specs.NodeHost.{node_host}
use Rattle.each_once.proofs.CommandBodies.{bodies-accept, bodies-after_told, bodies-after_tick, bodies-next, next-first}
use Rattle.each_once.proofs.Sublists.{Has, same-some}
use Rattle.each_once.proofs.ToldOutcomes.{TellNone, none-both, outcomes-start, outcomes-silent, outcomes-issue, outcomes-accept, outcomes-told, outcomes-next, outcomes-tick}
use Rattle.half_line.specs.Behind.{plain_node}
use Rattle.half_line.proofs.Once.EachStation.{listed-numbers}
use Rattle.half_line.proofs.Once.WholeRun.{IsPlain, ArePlain, plain-with, plain-master, plain-take}
use Rattle.half_line.specs.declared.way.Way.{Way}
use Rattle.half_line.specs.declared.way.Way.TheVariants.{ToStation, ToMaster}
use Rattle.half_line.specs.Acts.{LineStationState, HalfState, LinkState, LinkDeed, Issue, Give, Tick, StationGives, OnLane, Deliver, Lose, Alter, Foreign, moved, lane_of, arriving, master_after, master_lines, after_arrival, arrival_lines, after_link_deed, link_lines, step_of, body_heard}
use Rattle.half_line.specs.Issues.{issued_of, bodies_of}
use Rattle.half_line.specs.Run.{station_at, number_of, station_between, way_from, place_of, steps_of, after_event, giver, lines_of, state_after, lines_after, start, last_state}
use Rattle.half_line.specs.Steps.{UnitStep, AtMaster, AtStation, link_of, after_with, after_step, lines_with, lines_at, bytes_over, after_steps, lines_over}

-- ---- lines of others, and of no outcome

other-act : (what : Act) (did : Option Did) (station : ℕ) (body : List ℕ) → TellNone M (act_lines (S station) what did body)
other-act act.Accept None station body n = refl
other-act act.Accept (Some did.Executed) station body n = refl
other-act act.Accept (Some (did.Answered number)) station body n = refl
other-act act.Accept (Some did.Stray) station body n = refl
other-act act.Repeat did station body n = refl
other-act act.Refuse did station body n = refl
other-act act.Damaged did station body n = refl
other-act act.Forgot did station body n = refl
other-act act.PeerAck did station body n = refl
other-act act.PeerNak did station body n = refl
other-act act.PeerEnq did station body n = refl
other-act act.Nothing did station body n = refl

other-news : (told : News) (station : ℕ) → TellNone M (news_lines (S station) told)
other-news news.Nothing station n = refl
other-news (news.Undelivered number) station n = refl
other-news news.Dropped station n = refl

other-step : (step : Step) (station : ℕ) (body : List ℕ) → TellNone M (step_lines (S station) step body)
other-step step station body = none-both M (act_lines (S station) step.act step.did body) (news_lines (S station) step.news) (other-act step.act step.did station body) (other-news step.news station)

passed-act : (what : Act) (did : Option Did) (body : List ℕ) → (what ≡ act.Accept → ⊥) → TellNone M (act_lines M what did body)
passed-act act.Accept did body not n = absurd (not refl)
passed-act act.Repeat did body not n = refl
passed-act act.Refuse did body not n = refl
passed-act act.Damaged did body not n = refl
passed-act act.Forgot did body not n = refl
passed-act act.PeerAck did body not n = refl
passed-act act.PeerNak did body not n = refl
passed-act act.PeerEnq did body not n = refl
passed-act act.Nothing did body not n = refl

none-sent : (by : Who) (bytes : List ℕ) → TellNone M (sent_lines by bytes)
none-sent by [] n = refl
none-sent by (byte ∷ bytes) n = refl

-- ---- the master

-- each command names a station that is declared
abbrev pub AreDeclared : List ℕ → List (List ℕ) → Type 0
AreDeclared numbers bodies = (k : ℕ) (body : List ℕ) → slice_get bodies k ≡ Some body → is_declared numbers (slice_index body 0) ≡ true

-- its list has these numbers, and the lines tell how each of its commands ended
pub record Recounts (numbers : List ℕ) (m : MasterState NodeState) (lines : List Line) : Type 0 where
  pub numbers_are : station_numbers m.stations ≡ numbers
  pub declared : AreDeclared numbers (bodies_of m)
  pub outcomes : AreOutcomesTold M (issued_of m) lines

silently : (numbers : List ℕ) (m : MasterState NodeState) (lines more : List Line) → TellNone M more → Recounts numbers m lines → Recounts numbers m (lines ++ more)
silently numbers m lines more none r = record { numbers_are = r.numbers_are; declared = r.declared; outcomes = outcomes-silent M (issued_of m) lines more none r.outcomes }

-- ---- a byte

step-accepted : (step : Step) (heard body : List ℕ) (what : Did) → step.act ≡ act.Accept → step.did ≡ Some what → step.news ≡ news.Nothing → heard ≡ body → step_lines M step heard ≡ did_lines M (Some what) body
step-accepted step heard body what is-act is-did is-news same = rw (is-act, is-did, is-news, same) (append-nil (did_lines M (Some what) body))

bodies-told : (host : NodeState) (what : Option Fate) → map (λ c. c.body) (host_told node_host what host).initiator.issued ≡ map (λ c. c.body) host.initiator.issued
bodies-told host None = refl
bodies-told host (Some what) = bodies-after_told host what

outcomes-fate : (what : Option Fate) (host : NodeState) (lines : List Line) → AreOutcomesTold M host.initiator.issued lines
    → AreOutcomesTold M (host_told node_host what host).initiator.issued (lines ++ news_lines M (news_of node_host what host))
outcomes-fate None host lines told = outcomes-silent M host.initiator.issued lines [] (λ n. refl) told
outcomes-fate (Some what) host lines told = outcomes-told M refl what host lines told

-- another host, whose commands have the same bodies
with-bodies : (numbers : List ℕ) (m after : MasterState NodeState) (host : NodeState) (lines more : List Line) → station_numbers after.stations ≡ numbers → after.host ≡ host → map (λ c. c.body) host.initiator.issued ≡ bodies_of m
    → AreDeclared numbers (bodies_of m) → AreOutcomesTold M host.initiator.issued (lines ++ more) → Recounts numbers after (lines ++ more)
with-bodies numbers m after host lines more numbers_are is same declared outcomes = record {
  numbers_are = numbers_are;
  declared = subst (λ bodies. AreDeclared numbers bodies) (sym (ap (λ (h : NodeState). map (λ c. c.body) h.initiator.issued) is ∙ same)) declared;
  outcomes = subst (λ (h : NodeState). AreOutcomesTold M h.initiator.issued (lines ++ more)) (sym is) outcomes;
}

recounts-byte : (numbers : List ℕ) (m : MasterState NodeState) (b : ℕ) (lines : List Line) → Recounts numbers m lines → Recounts numbers (master_after_byte node_host m b) (lines ++ step_lines M (step_at_byte node_host m b) (body_of (master_after_byte node_host m b)))
recounts-byte numbers m b lines r =
    let after = master_after_byte node_host m b in
    let step = step_at_byte node_host m b in
    let heard = body_of after in
    let numbers_are = signal-numbers node_host m (Byte b) ∙ r.numbers_are in
    elim (at-byte node_host m b) [
      | accepts a ↦
          let body = body_of (with_byte m b) in
          let more : step_lines M step heard ≡ did_lines M (Some (did_accept m.host body)) body = step-accepted step heard body (did_accept m.host body) a.act a.did a.news (lent-after node_host m b) in
          subst (λ all. Recounts numbers after (lines ++ all)) (sym more)
          (with-bodies numbers m after (after_accept m.host body) lines (did_lines M (Some (did_accept m.host body)) body) numbers_are a.host (bodies-accept m.host body) r.declared (outcomes-accept M refl m.host body lines r.outcomes))
      | passes o ↦
          let first = act_lines M step.act step.did heard in
          let second = news_lines M (news_of node_host o.fate m.host) in
          let more : step_lines M step heard ≡ first ++ second = ap (λ n. first ++ news_lines M n) o.news in
          subst (λ all. Recounts numbers after (lines ++ all)) (sym more)
          (with-bodies numbers m after (host_told node_host o.fate m.host) lines (first ++ second) numbers_are o.host (bodies-told m.host o.fate) r.declared
          (subst (λ all. AreOutcomesTold M (host_told node_host o.fate m.host).initiator.issued all) (append_assoc lines first second)
          (outcomes-fate o.fate m.host (lines ++ first) (outcomes-silent M (issued_of m) lines first (passed-act step.act step.did heard o.act) r.outcomes))))
    ]

-- ---- a tick

outcomes-turn : (what : Option Fate) (host : NodeState) (lines : List Line) → AreOutcomesTold M host.initiator.issued lines
    → AreOutcomesTold M (host_told node_host what host).initiator.issued (lines ++ turn_lines M (turn_of node_host what host))
outcomes-turn None host lines told = outcomes-silent M host.initiator.issued lines [] (λ n. refl) told
outcomes-turn (Some what) host lines told = outcomes-told M refl what host lines told

abbrev ticked_host : Bool → NodeState → NodeState
ticked_host ticked host = if ticked then after_tick host else host

tick-outcomes : (ticked : Bool) (what : Option Fate) (host : NodeState) (lines : List Line) → (ticked ≡ true → what ≡ None) → AreOutcomesTold M host.initiator.issued lines
    → AreOutcomesTold M (host_told node_host what (ticked_host ticked host)).initiator.issued (lines ++ (turn_lines M (turn_of node_host what (ticked_host ticked host)) ++ gone_lines M (if ticked then gone_unanswered host else [])))
tick-outcomes true what host lines one told =
    let none = one refl in
    rw none (outcomes-tick M refl host lines told)
tick-outcomes false what host lines one told = rw (append-nil (turn_lines M (turn_of node_host what host))) (outcomes-turn what host lines told)

tick-bodies : (ticked : Bool) (what : Option Fate) (host : NodeState) → map (λ c. c.body) (host_told node_host what (ticked_host ticked host)).initiator.issued ≡ map (λ c. c.body) host.initiator.issued
tick-bodies true what host = bodies-told (after_tick host) what ∙ bodies-after_tick host
tick-bodies false what host = bodies-told host what

recounts-tick : (numbers : List ℕ) (m : MasterState NodeState) (lines : List Line) → Recounts numbers m lines → Recounts numbers (master_after_tick node_host m) (lines ++ master_lines plain_node m Tick)
recounts-tick numbers m lines r =
    let t = at-tick node_host m in
    let after = master_after_tick node_host m in
    let more : List Line = turn_lines M (turn_of node_host t.fate (ticked_host t.ticked m.host)) ++ gone_lines M (if t.ticked then gone_unanswered m.host else []) in
    let same : master_lines plain_node m Tick ≡ more = ap₂ (λ (x : Turn) (y : List ℕ). turn_lines M x ++ gone_lines M y) t.turn t.gone in
    subst (λ all. Recounts numbers after (lines ++ all)) (sym same)
    (with-bodies numbers m after (host_told node_host t.fate (ticked_host t.ticked m.host)) lines more (signal-numbers node_host m TickLetter ∙ r.numbers_are) t.host (tick-bodies t.ticked t.fate m.host) r.declared
    (tick-outcomes t.ticked t.fate m.host lines t.one r.outcomes))

-- ---- a take

-- the command that is handed out next is one of them
pub next-has : (s : InitiatorState) (body : List ℕ) → next_command s ≡ Some body → Has (map (λ (c : Issued). c.body) s.issued) body
next-has s body is =
    let first = (next-first s body is).0 in
    (first.place, slice_get-map (λ (c : Issued). c.body) s.issued first.place ∙ ap (option_map (λ (c : Issued). c.body)) first.is_at ∙ ap Some first.has_body)

-- what beginning a message leaves
abbrev Leaves : MasterState NodeState → List Line → MasterState NodeState → Type 0
Leaves m lines after = AreOutcomesTold M (issued_of after) lines × (bodies_of after ≡ bodies_of m)

-- a message for no station of the list is a reply, of which no line tells
unlisted-reply : (m : MasterState NodeState) (lines : List Line) (body : List ℕ) (replies : List (List ℕ)) → m.host.replies ≡ replies → option_or (slice_get replies 0) (next_command m.host.initiator) ≡ Some body
    → (Has (bodies_of m) body → ⊥) → AreOutcomesTold M (issued_of m) lines → Leaves m lines (with_host m (after_told (after_next m.host) fate.Undelivered))
unlisted-reply m lines body [] waiting next not told = absurd (not (next-has m.host.initiator body next))
unlisted-reply m lines body (r ∷ rs) waiting next not told =
    let node = after_next m.host in
    let last : node.last ≡ handed.Reply = ap (λ (all : List (List ℕ)). if is_some (slice_get all 0) then handed.Reply else option_map_or handed.Command (next_place m.host.initiator) m.host.last) waiting in
    let same : (after_told node fate.Undelivered).initiator ≡ node.initiator = ap (initiator_after node.initiator) last in (
      subst (λ (i : InitiatorState). AreOutcomesTold M i.issued lines) (sym same) (outcomes-next M m.host lines told),
      bodies-after_told node fate.Undelivered ∙ bodies-next m.host,
    )

begun-leaves : (numbers : List ℕ) (m : MasterState NodeState) (lines : List Line) (o : Option (List ℕ)) → message_next node_host m ≡ o → Recounts numbers m lines → Leaves m lines (begun_of node_host m o)
begun-leaves numbers m lines None is r = (r.outcomes, refl)
begun-leaves numbers m lines (Some body) is r =
    cond_both (is_listed m.stations (slice_index body 0)) _ _ (Leaves m lines)
    (λ in_list. (outcomes-next M m.host lines r.outcomes, bodies-next m.host))
    (λ unlisted. unlisted-reply m lines body m.host.replies refl (next-of node_host m body is)
    (λ has. let declared : is_listed m.stations (slice_index body 0) ≡ true = listed-number m.stations (slice_index body 0) ∙ ap (λ ns. is_declared ns (slice_index body 0)) r.numbers_are ∙ r.declared has.0 body has.1 in
    let no : true ≡ false = sym declared ∙ unlisted in cc) r.outcomes)

recounts-give : (numbers : List ℕ) (m : MasterState NodeState) (lines : List Line) → Recounts numbers m lines → Recounts numbers (master_after_take node_host m) lines
recounts-give numbers m lines r =
    let leaves = begun-leaves numbers m lines (message_next node_host m) refl r in
    record {
      numbers_are = signal-numbers node_host m TakeLetter ∙ r.numbers_are;
      declared = subst (λ bodies. AreDeclared numbers bodies) (sym leaves.1) r.declared;
      outcomes = leaves.0;
    }

-- ---- a command is issued

pub declared-push : (numbers : List ℕ) (bodies : List (List ℕ)) (body : List ℕ) → AreDeclared numbers bodies → is_declared numbers (slice_index body 0) ≡ true → AreDeclared numbers (bodies ++ body ∷ [])
declared-push numbers [] body all is zero other at = ap (λ (b : List ℕ). is_declared numbers (slice_index b 0)) (sym (same-some body other at)) ∙ is
declared-push numbers [] body all is (suc k) other at = absurd cc
declared-push numbers (b ∷ bodies) body all is zero other at = all zero other at
declared-push numbers (b ∷ bodies) body all is (suc k) other at = declared-push numbers bodies body (λ j x y. all (suc j) x y) is k other at

recounts-issue : (numbers : List ℕ) (m : MasterState NodeState) (src : Option ℕ) (dst : ℕ) (payload : List ℕ) (lines : List Line) → is_declared numbers dst ≡ true → Recounts numbers m lines → Recounts numbers (master_after plain_node m (Issue src dst payload)) lines
recounts-issue numbers m src dst payload lines is r =
    let issued = issued_of m in
    let new : Issued = record { body = next_issued m.host.initiator (unwrap_or src m.host.initiator.node) dst payload; standing = Waiting } in
    record {
      numbers_are = r.numbers_are;
      declared = subst (λ bodies. AreDeclared numbers bodies) (sym (map-append (λ (c : Issued). c.body) issued (new ∷ []))) (declared-push numbers (bodies_of m) new.body r.declared is);
      outcomes = outcomes-issue M issued new lines refl r.outcomes;
    }

-- ---- unit steps

recounts-arrival : (numbers : List ℕ) (way : Way) (s t : LinkState NodeState) (o : Option LaneCell) (lines : List Line) → t.master ≡ s.master → Recounts numbers s.master lines → Recounts numbers (after_arrival plain_node way t o).master (lines ++ arrival_lines plain_node way s o)
recounts-arrival numbers way s t None lines same r = rw (append-nil lines) (subst (λ (m : MasterState NodeState). Recounts numbers m lines) (sym same) r)
recounts-arrival numbers ToStation s t (Some cell) lines same r =
    subst (λ (m : MasterState NodeState). Recounts numbers m (lines ++ arrival_lines plain_node ToStation s (Some cell))) (sym same)
    (silently numbers s.master lines (arrival_lines plain_node ToStation s (Some cell)) (other-step (step_of plain_node ToStation s cell) s.side.number (body_heard plain_node ToStation s cell)) r)
recounts-arrival numbers ToMaster s t (Some cell) lines same r =
    subst (λ (m : MasterState NodeState). Recounts numbers (master_after_byte node_host m cell.byte) (lines ++ arrival_lines plain_node ToMaster s (Some cell))) (sym same) (recounts-byte numbers s.master cell.byte lines r)

recounts-link : (numbers : List ℕ) (s : LinkState NodeState) (deed : LinkDeed) (lines : List Line) → Recounts numbers s.master lines → Recounts numbers (after_link_deed plain_node s deed).master (lines ++ link_lines plain_node s deed)
recounts-link numbers s StationGives lines r = rw (append-nil lines) r
recounts-link numbers s (OnLane way deed) lines r = recounts-arrival numbers way s (moved way s deed) (arriving (lane_of way s.side) deed) lines refl r

recounts-with : (numbers : List ℕ) (s : HalfState NodeState) (place : ℕ) (deed : LinkDeed) (o : Option LineStationState) (lines : List Line) → Recounts numbers s.master lines → Recounts numbers (after_with plain_node s place deed o).master (lines ++ lines_with plain_node s deed o)
recounts-with numbers s place deed None lines r = rw (append-nil lines) r
recounts-with numbers s place deed (Some side) lines r = recounts-link numbers (link_of s side) deed lines r

recounts-step : (numbers : List ℕ) (step : UnitStep) → IsPlain step → (s : HalfState NodeState) (lines : List Line) → Recounts numbers s.master lines → Recounts numbers (after_step plain_node s step).master (lines ++ lines_at plain_node s step)
recounts-step numbers (AtMaster (Issue src dst payload)) plain s lines r = absurd plain
recounts-step numbers (AtMaster Give) plain s lines r = rw (append-nil lines) (recounts-give numbers s.master lines r)
recounts-step numbers (AtMaster Tick) plain s lines r = recounts-tick numbers s.master lines r
recounts-step numbers (AtStation place deed) plain s lines r = recounts-with numbers s place deed (slice_get s.stations place) lines r

recounts-steps : (numbers : List ℕ) (steps : List UnitStep) → ArePlain steps → (s : HalfState NodeState) (lines : List Line) → Recounts numbers s.master lines → Recounts numbers (after_steps plain_node s steps).master (lines ++ lines_over plain_node s steps)
recounts-steps numbers [] plain s lines r = rw (append-nil lines) r
recounts-steps numbers (step ∷ steps) plain s lines r =
    subst (λ (all : List Line). Recounts numbers (after_steps plain_node (after_step plain_node s step) steps).master all) (append_assoc lines (lines_at plain_node s step) (lines_over plain_node (after_step plain_node s step) steps))
    (recounts-steps numbers steps plain.1 (after_step plain_node s step) (lines ++ lines_at plain_node s step) (recounts-step numbers step plain.0 s lines r))

-- ---- events

with-bytes : (numbers : List ℕ) (s : HalfState NodeState) (e : Event) (lines : List Line) → Recounts numbers (after_event plain_node s e).master (lines ++ lines_over plain_node s (steps_of s e)) → Recounts numbers (after_event plain_node s e).master (lines ++ lines_of plain_node s e)
with-bytes numbers s e lines r =
    let over = lines_over plain_node s (steps_of s e) in
    let sent = sent_lines (giver (station_at e)) (bytes_over plain_node s (steps_of s e)) in
    subst (λ (all : List Line). Recounts numbers (after_event plain_node s e).master all) (append_assoc lines over sent)
    (silently numbers (after_event plain_node s e).master (lines ++ over) sent (none-sent (giver (station_at e)) (bytes_over plain_node s (steps_of s e))) r)

plain-event : (numbers : List ℕ) (s : HalfState NodeState) (e : Event) (lines : List Line) → ArePlain (steps_of s e) → Recounts numbers s.master lines → Recounts numbers (after_event plain_node s e).master (lines ++ lines_of plain_node s e)
plain-event numbers s e lines plain r = with-bytes numbers s e lines (recounts-steps numbers (steps_of s e) plain s lines r)

recounts-event : (numbers : List ℕ) (e : Event) (s : HalfState NodeState) (lines : List Line) → IsHalfPossible numbers e → Recounts numbers s.master lines → Recounts numbers (after_event plain_node s e).master (lines ++ lines_of plain_node s e)
recounts-event numbers (event.Issue who src dst payload) s lines may r = rw (append-nil lines) (recounts-issue numbers s.master src dst payload lines may.1 r)
recounts-event numbers (event.Take who n) s lines may r = plain-event numbers s (event.Take who n) lines (plain-take s.stations who n (number_of who)) r
recounts-event numbers (event.Deliver lane n) s lines may r =
    plain-event numbers s (event.Deliver lane n) lines (plain-with (place_of s.stations (station_between lane.from lane.to)) (replicate n (OnLane (way_from lane.from) Deliver))) r
recounts-event numbers (event.Lose lane n) s lines may r =
    plain-event numbers s (event.Lose lane n) lines (plain-with (place_of s.stations (station_between lane.from lane.to)) (replicate n (OnLane (way_from lane.from) Lose))) r
recounts-event numbers (event.Alter lane mask) s lines may r =
    plain-event numbers s (event.Alter lane mask) lines (plain-with (place_of s.stations (station_between lane.from lane.to)) (OnLane (way_from lane.from) (Alter mask) ∷ [])) r
recounts-event numbers (event.Foreign lane bytes) s lines may r =
    plain-event numbers s (event.Foreign lane bytes) lines (plain-with (place_of s.stations (station_between lane.from lane.to)) (map (λ byte. OnLane (way_from lane.from) (Foreign byte)) bytes)) r
recounts-event numbers (event.Tick who n) s lines may r = plain-event numbers s (event.Tick who n) lines (plain-master Tick tt n) r

recounts-events : (numbers : List ℕ) (events : List Event) (s : HalfState NodeState) (lines : List Line) → All (IsHalfPossible numbers) events → Recounts numbers s.master lines → Recounts numbers (state_after plain_node s events).master (lines ++ lines_after plain_node s events)
recounts-events numbers [] s lines possible r = rw (append-nil lines) r
recounts-events numbers (e ∷ events) s lines possible r =
    subst (λ (all : List Line). Recounts numbers (state_after plain_node (after_event plain_node s e) events).master all) (append_assoc lines (lines_of plain_node s e) (lines_after plain_node (after_event plain_node s e) events))
    (recounts-events numbers events (after_event plain_node s e) (lines ++ lines_of plain_node s e) (All-tail (IsHalfPossible numbers) e events possible)
    (recounts-event numbers e s lines (All-head (IsHalfPossible numbers) e events possible) r))

pub recounts-run : (script : Script) → IsHalfPlayable script → Recounts (numbers_of script.ends) (last_state script).master (lines_after plain_node (start script) script.events)
recounts-run script playable =
    recounts-events (numbers_of script.ends) script.events (start script) [] playable.events
    (record { numbers_are = listed-numbers (numbers_of script.ends); declared = λ k body at. absurd cc; outcomes = outcomes-start M })

pub outcomes-run : (script : Script) → IsHalfPlayable script → AreOutcomesTold M (issued_of (last_state script).master) (lines_after plain_node (start script) script.events)
outcomes-run script playable = (recounts-run script playable).outcomes
