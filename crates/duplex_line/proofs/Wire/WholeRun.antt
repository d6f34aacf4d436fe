-- Over a whole run: what each end sent is DF1, and its messages are its own.
use Rattle.std.proofs.Common.{◌≡◌, ◌∙◌, ℕ, ◌+◌, ◌≤◌, List, [], ◌∷◌, ◌++◌, length, map, refl, sym, ap, subst, append-nil, append_assoc, arith}
use Rattle.std.specs.Prelude.{IsTrue, All, replicate, count_by, slice_index_or}
use Rattle.std.specs.List.{filter}
use Rattle.std.proofs.lemmas.List.Elements.{All-head, All-tail}
use Rattle.df1_check.specs.declared.Check.{Check}
use Rattle.df1_node.specs.Answer.{StationState}
use Rattle.duplex_end.proofs.OnWire.{on-wire-df1}
use Rattle.pccc_envelope.specs.Envelope.{tns_of}
use Rattle.script_statement.specs.declared.who.Who.{Who}
use Rattle.script_statement.specs.declared.who.Who.TheVariants.{A, B, M, S}
use Rattle.script_parts.specs.declared.script.EndPlan.{EndPlan}
use Rattle.script_parts.specs.declared.script.Event.{Event}
use Rattle.script_parts.specs.declared.script.Event.TheVariants as event
use Rattle.script_parts.specs.declared.script.Script.{Script}
use Rattle.script_parts.specs.Playable.{IsPossible, IsPlayable, AreEnds, issues, is_end}
use Rattle.replay_report.specs.declared.record.Line.{Line}
use Rattle.replay_report.specs.declared.record.Record.{Record}
use Rattle.replay_report.specs.Report.{sent_lines}
use Rattle.report_lines.specs.SentBytes.{sent_by}
use Rattle.each_once.specs.Tells.{executed_in}
use Rattle.each_once.specs.Exchanges.{replies_to}
use Rattle.each_once.proofs.Sublists.{within-all}
use Rattle.each_once.proofs.HandedOut.{is_command, waits_of}
use Rattle.each_once.proofs.RisingPlaces.{some-in-turn}
use Rattle.each_once.proofs.SentAndExecuted.{sent-more, own-sent, other-sent, sent-execute}
use Rattle.each_once.proofs.Sublists.{Differ}
use Rattle.duplex_line.specs.Acts.{LineEndState, LineState, swapped, Deed, Issue, Take, Deliver, Lose, Alter, Foreign, Tick, near_after, arriving, after_deed, after_deeds, near_lines, arrival_lines, lines_at, lines_over, given_at, given_over}
use Rattle.duplex_line.specs.Issues.{bodies_of}
use Rattle.duplex_line.specs.Plays.{issued_by, IsUnspent}
use Rattle.duplex_line.specs.Run.{first_station, setup_of, first_node, plan_of_a, plan_of_b, start, who_of, seen_from, after_event, deed_lines, lines_of, state_after, lines_after, last_state, record_from}
use Rattle.duplex_line.specs.Wire.{IsDf1Wire, AreDf1Wires}
use Rattle.duplex_line.proofs.Steps.EventsToCome.{room-of-a, room-of-b, unspent}
use Rattle.duplex_line.proofs.Once.Invariant.{AreTwo, two-swapped, a-and-b, joins-end, holds-swapped}
use Rattle.duplex_line.proofs.Once.ToldCommands.{recounts-run}
use Rattle.duplex_line.proofs.Once.WholeRun.{IsPlain, ArePlain, plain-again, plain-foreign, holds-run}
use Rattle.duplex_line.proofs.Wire.OneEnd.{Gave, May, gave-near, gave-arrival, gave-other, gave-start}
use Rattle.duplex_line.proofs.Wire.OwnKeys.{own-keys, executed-differ}
use Rattle.duplex_line.proofs.Wire.SilentLines.{steps-send-nothing, arrival-other, near-executes}

-- both ends, and the bytes that they gave
pub record BothGave (near far : Who) (check : Check) (first far_first : StationState) (s : LineState) (lines : List Line) (bytes far_bytes : List ℕ) : Type 0 where
  pub of_near : Gave near check first s.a lines bytes
  pub of_far : Gave far check far_first s.b lines far_bytes

both-swapped : (near far : Who) (check : Check) (first far_first : StationState) (s : LineState) (lines : List Line) (bytes far_bytes : List ℕ) → BothGave near far check first far_first s lines bytes far_bytes
    → BothGave far near check far_first first (swapped s) lines far_bytes bytes
both-swapped near far check first far_first s lines bytes far_bytes b = record { of_near = b.of_far; of_far = b.of_near }

-- ---- unit steps

gave-deed : (near far : Who) → AreTwo near far → (check : Check) (first far_first : StationState) (s : LineState) (deed : Deed) (lines : List Line) (bytes far_bytes : List ℕ) → May s.a deed → BothGave near far check first far_first s lines bytes far_bytes
    → BothGave near far check first far_first (after_deed s deed) (lines ++ lines_at near far s deed) (bytes ++ given_at s.a deed) far_bytes
gave-deed near far two check first far_first s deed lines bytes far_bytes may b =
    let own = near_lines near s.a deed in
    let other = arrival_lines far s.b (arriving s.a deed) in
    subst (λ (all : List Line). BothGave near far check first far_first (after_deed s deed) all (bytes ++ given_at s.a deed) far_bytes) (append_assoc lines own other)
    (record {
      of_near = gave-other near check first (near_after s.a deed) (lines ++ own) other (bytes ++ given_at s.a deed) (arrival-other near far two.other s.b (arriving s.a deed))
          (gave-near near near check first s.a deed lines bytes may b.of_near);
      of_far = gave-arrival far two.far_itself check far_first s.b (arriving s.a deed) (lines ++ own) far_bytes
          (gave-other far check far_first s.b lines own far_bytes (near-executes far near s.a deed) b.of_far);
    })

-- steps of which each may be done where it is done
abbrev AllMay : LineState → List Deed → Type 0
AllMay s [] = Unit {0}
AllMay s (deed ∷ deeds) = May s.a deed × AllMay (after_deed s deed) deeds

plain-may : (deed : Deed) → IsPlain deed → (side : LineEndState) → May side deed
plain-may (Issue src dst payload) plain side = absurd plain
plain-may Take plain side = tt
plain-may Deliver plain side = tt
plain-may Lose plain side = tt
plain-may (Alter mask) plain side = tt
plain-may (Foreign byte) plain side = tt
plain-may Tick plain side = tt

plain-all : (deeds : List Deed) → ArePlain deeds → (s : LineState) → AllMay s deeds
plain-all [] plain s = tt
plain-all (deed ∷ deeds) plain s = (plain-may deed plain.0 s.a, plain-all deeds plain.1 (after_deed s deed))

gave-deeds : (near far : Who) → AreTwo near far → (check : Check) (first far_first : StationState) (s : LineState) (deeds : List Deed) (lines : List Line) (bytes far_bytes : List ℕ) → AllMay s deeds → BothGave near far check first far_first s lines bytes far_bytes
    → BothGave near far check first far_first (after_deeds s deeds) (lines ++ lines_over near far s deeds) (bytes ++ given_over s.a deeds) far_bytes
gave-deeds near far two check first far_first s [] lines bytes far_bytes may b = rw (append-nil lines, append-nil bytes) b
gave-deeds near far two check first far_first s (deed ∷ deeds) lines bytes far_bytes may b =
    let now = gave-deed near far two check first far_first s deed lines bytes far_bytes may.0 b in
    rw (sym (append_assoc lines (lines_at near far s deed) (lines_over near far (after_deed s deed) deeds)), sym (append_assoc bytes (given_at s.a deed) (given_over (near_after s.a deed) deeds)))
    (gave-deeds near far two check first far_first (after_deed s deed) deeds (lines ++ lines_at near far s deed) (bytes ++ given_at s.a deed) far_bytes may.1 now)

-- ---- events

-- both ends, whose bytes are those that the lines tell
abbrev pub BothSent : Who → Who → Check → StationState → StationState → LineState → List Line → Type 0
BothSent near far check first far_first s lines = BothGave near far check first far_first s lines (sent_by near lines) (sent_by far lines)

-- the steps of an event at one of two ends, with the line of its bytes
sent-deeds : (near far : Who) → AreTwo near far → (check : Check) (first far_first : StationState) (s : LineState) (deeds : List Deed) (lines : List Line) → AllMay s deeds → BothSent near far check first far_first s lines
    → BothSent near far check first far_first (after_deeds s deeds) (lines ++ (lines_over near far s deeds ++ sent_lines near (given_over s.a deeds)))
sent-deeds near far two check first far_first s deeds lines may b =
    let over = lines_over near far s deeds in
    let bytes = given_over s.a deeds in
    let sent = sent_lines near bytes in
    let now = gave-deeds near far two check first far_first s deeds lines (sent_by near lines) (sent_by far lines) may b in
    let own : sent_by near (lines ++ (over ++ sent)) ≡ sent_by near lines ++ bytes =
    sent-more near lines (over ++ sent) ∙ ap (λ (l : List ℕ). sent_by near lines ++ l) (sent-more near over sent ∙ rw (steps-send-nothing near near far s deeds, own-sent near two.itself bytes) refl) in
    let other : sent_by far (lines ++ (over ++ sent)) ≡ sent_by far lines =
    sent-more far lines (over ++ sent) ∙ ap (λ (l : List ℕ). sent_by far lines ++ l) (sent-more far over sent ∙ rw (steps-send-nothing far near far s deeds, other-sent far near two.far_other bytes) refl) ∙ append-nil (sent_by far lines) in
    rw (own, other)
    (subst (λ (all : List Line). BothGave near far check first far_first (after_deeds s deeds) all (sent_by near lines ++ bytes) (sent_by far lines)) (append_assoc lines over sent)
    (record {
      of_near = gave-other near check first (after_deeds s deeds).a (lines ++ over) sent (sent_by near lines ++ bytes) (sent-execute near near bytes) now.of_near;
      of_far = gave-other far check far_first (after_deeds s deeds).b (lines ++ over) sent (sent_by far lines) (sent-execute far near bytes) now.of_far;
    }))

seen-sent : (who : Who) → IsTrue (is_end who) → (check : Check) (first_a first_b : StationState) (s : LineState) (deeds : List Deed) (lines : List Line) → AllMay (seen_from who s) deeds → BothSent A B check first_a first_b s lines
    → BothSent A B check first_a first_b (seen_from who (after_deeds (seen_from who s) deeds)) (lines ++ deed_lines who (seen_from who s) deeds)
seen-sent A end check first_a first_b s deeds lines may b = sent-deeds A B a-and-b check first_a first_b s deeds lines may b
seen-sent B end check first_a first_b s deeds lines may b =
    both-swapped B A check first_b first_a (after_deeds (swapped s) deeds) _ _ _
    (sent-deeds B A (two-swapped A B a-and-b) check first_b first_a (swapped s) deeds lines may (both-swapped A B check first_a first_b s lines (sent_by A lines) (sent_by B lines) b))
seen-sent M end check first_a first_b s deeds lines may b = absurd cc
seen-sent (S station) end check first_a first_b s deeds lines may b = absurd cc

sent-event : (check : Check) (first_a first_b : StationState) (e : Event) (s : LineState) (lines : List Line) → IsPossible e → IsUnspent (seen_from (who_of e) s).a e → BothSent A B check first_a first_b s lines
    → BothSent A B check first_a first_b (after_event s e) (lines ++ lines_of s e)
sent-event check first_a first_b (event.Issue who src dst payload) s lines possible few b = seen-sent who possible.0 check first_a first_b s (Issue src dst payload ∷ []) lines ((possible.1, few), tt) b
sent-event check first_a first_b (event.Take who n) s lines possible few b =
    seen-sent who possible.0 check first_a first_b s (replicate n Take) lines (plain-all (replicate n Take) (plain-again Take tt n) (seen_from who s)) b
sent-event check first_a first_b (event.Deliver lane n) s lines possible few b =
    seen-sent lane.from (joins-end lane.from lane.to possible.0) check first_a first_b s (replicate n Deliver) lines (plain-all (replicate n Deliver) (plain-again Deliver tt n) (seen_from lane.from s)) b
sent-event check first_a first_b (event.Lose lane n) s lines possible few b =
    seen-sent lane.from (joins-end lane.from lane.to possible.0) check first_a first_b s (replicate n Lose) lines (plain-all (replicate n Lose) (plain-again Lose tt n) (seen_from lane.from s)) b
sent-event check first_a first_b (event.Alter lane mask) s lines possible few b =
    seen-sent lane.from (joins-end lane.from lane.to possible.0) check first_a first_b s (Alter mask ∷ []) lines (tt, tt) b
sent-event check first_a first_b (event.Foreign lane bytes) s lines possible few b =
    seen-sent lane.from (joins-end lane.from lane.to possible.0) check first_a first_b s (map Foreign bytes) lines (plain-all (map Foreign bytes) (plain-foreign bytes) (seen_from lane.from s)) b
sent-event check first_a first_b (event.Tick who n) s lines possible few b =
    seen-sent who possible.0 check first_a first_b s (replicate n Tick) lines (plain-all (replicate n Tick) (plain-again Tick tt n) (seen_from who s)) b

sent-events : (check : Check) (first_a first_b : StationState) (events : List Event) (s : LineState) (lines : List Line) → All IsPossible events → issued_by s.a + count_by (issues A) events ≤ 65535 → issued_by s.b + count_by (issues B) events ≤ 65535
    → BothSent A B check first_a first_b s lines → BothSent A B check first_a first_b (state_after s events) (lines ++ lines_after s events)
sent-events check first_a first_b [] s lines possible few_a few_b b = rw (append-nil lines) b
sent-events check first_a first_b (e ∷ events) s lines possible few_a few_b b =
    let may = All-head IsPossible e events possible in
    let one = sent-event check first_a first_b e s lines may (unspent s e events may few_a few_b) b in
    let more = sent-events check first_a first_b events (after_event s e) (lines ++ lines_of s e) (All-tail IsPossible e events possible) (room-of-a s e events may few_a) (room-of-b s e events may few_b) one in
    subst (λ (all : List Line). BothSent A B check first_a first_b (state_after (after_event s e) events) all) (append_assoc lines (lines_of s e) (lines_after (after_event s e) events)) more

-- ---- a run

-- the status blocks of the ends are short
short-blocks : (ends : List EndPlan) (a b : EndPlan) → AreEnds ends → (length (slice_index_or ends 0 a).block ≤ 244) × (length (slice_index_or ends 1 b).block ≤ 244)
short-blocks [] a b are = absurd are
short-blocks (x ∷ []) a b are = absurd are
short-blocks (x ∷ y ∷ []) a b are = (are.0.block, are.1.block)
short-blocks (x ∷ y ∷ z ∷ more) a b are = absurd are

sent-start : (script : Script) → IsPlayable script → BothSent A B script.check (first_station (plan_of_a script)) (first_station (plan_of_b script)) (start script) []
sent-start script playable =
    let a = plan_of_a script in
    let b = plan_of_b script in
    let few = short-blocks script.ends _ _ playable.ends in
    record {
      of_near = gave-start A script.check (first_station a) (setup_of script.check a) (first_node a) refl refl refl refl few.0;
      of_far = gave-start B script.check (first_station b) (setup_of script.check b) (first_node b) refl refl refl refl few.1;
    }

pub run-sent : (script : Script) → IsPlayable script
    → BothSent A B script.check (first_station (plan_of_a script)) (first_station (plan_of_b script)) (last_state script) (lines_after (start script) script.events)
run-sent script playable =
    sent-events script.check (first_station (plan_of_a script)) (first_station (plan_of_b script)) script.events (start script) [] playable.events (omega (arith, playable.commands_of_a)) (omega (arith, playable.commands_of_b)) (sent-start script playable)

-- each end gives frames with the check of the script
pub run-checks : (script : Script) → IsPlayable script → ((last_state script).a.end.mouth.check ≡ script.check) × ((last_state script).b.end.mouth.check ≡ script.check)
run-checks script playable = let sent = run-sent script playable in (sent.of_near.on_wire.at.1, sent.of_far.on_wire.at.1)

-- what one end sent is DF1
wire-of : (who : Who) (check : Check) (first : StationState) (side : LineEndState) (commands : List (List ℕ)) (r : Record) → bodies_of side ≡ commands
    → (r.deceived ≡ 0 → (issued_by side ≤ 65535) × Differ (map tns_of (executed_in who r.lines))) → Gave who check first side r.lines (sent_by who r.lines) → IsDf1Wire who check commands first r
wire-of who check first side commands r is honest g =
    let issued = side.end.host.initiator.issued in
    let handed = filter is_command g.messages in
    record {
      messages = g.messages;
      df1 = on-wire-df1 check g.messages (sent_by who r.lines) side.end g.on_wire;
      commands_once = rw (← is) (some-in-turn handed handed (bodies_of side) (waits_of issued) (within-all handed) g.hosts.initiates.in_order);
      waiting = side.end.host.replies;
      replies_in_order = sym g.hosts.replies ∙ ap (replies_to first) (sym g.executed);
      own_keys = λ none. own-keys first side.end.host g.messages g.heard g.hosts (honest none).0 (subst (λ (l : List (List ℕ)). Differ (map tns_of l)) g.executed (honest none).1);
    }

pub wires : (script : Script) → IsPlayable script → AreDf1Wires script (record_from (last_state script) (lines_after (start script) script.events))
wires script playable =
    let a = first_station (plan_of_a script) in
    let b = first_station (plan_of_b script) in
    let s = last_state script in
    let lines = lines_after (start script) script.events in
    let sent = run-sent script playable in
    let r = recounts-run script playable in
    record {
      of_a = wire-of A script.check a s.a _ (record_from s lines) r.recounts.issued.bodies (λ none. let h = holds-run script playable none in (h.few, executed-differ B A b a (swapped s) lines (holds-swapped A B a b s lines h))) sent.of_near;
      of_b = wire-of B script.check b s.b _ (record_from s lines) r.far_recounts.issued.bodies (λ none. let h = holds-run script playable none in (h.far_few, executed-differ A B a b s lines h)) sent.of_far;
    }
