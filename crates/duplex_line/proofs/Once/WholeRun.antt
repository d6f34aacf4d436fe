-- Over a whole run: each command once, both ways.
use Rattle.std.proofs.Common.{◌≡◌, ◌∙◌, ℕ, zero, suc, ◌+◌, ◌<◌, ◌≤◌, List, [], ◌∷◌, ◌++◌, length, map, Option, Some, None, refl, ap, ap₂, sym, subst, arith, append-nil, append_assoc, drop, Result, Ok, Err}
use Rattle.std.specs.Prelude.{IsTrue, IfOk, All, replicate, count_by}
use Rattle.std.specs.List.{filter}
use Rattle.std.proofs.lemmas.List.Elements.{All-head, All-tail}
use Rattle.df1_node.specs.Answer.{StationState}
use Rattle.df1_node.specs.Initiator.{Issued}
use Rattle.data_files.specs.Tables.{DataTables}
use Rattle.script_statement.specs.declared.who.Who.{Who}
use Rattle.script_statement.specs.declared.who.Who.TheVariants.{A, B, M, S}
use Rattle.script_parts.specs.declared.script.Event.{Event}
use Rattle.script_parts.specs.declared.script.Event.TheVariants as event
use Rattle.script_parts.specs.declared.script.Script.{Script}
use Rattle.script_statement.specs.Statements.{is_payload}
use Rattle.script_parts.specs.Playable.{IsPossible, IsPlayable, issues, is_end}
use Rattle.replay_report.specs.declared.record.Line.{Line}
use Rattle.replay_report.specs.declared.record.Record.{Record}
use Rattle.replay_report.specs.Report.{sent_lines}
use Rattle.lane_cells.specs.Cells.{LaneCell}
use Rattle.duplex_line.specs.Acts.{LineEndState, LineState, swapped, Deed, Issue, Take, Deliver, Lose, Alter, Foreign, Tick, arriving, deceived_after, after_deed, after_deeds, lines_at, lines_over, given_over}
use Rattle.report_lines.specs.Words.{words_of}
use Rattle.duplex_line.specs.Run.{first_station, setup_of, first_node, plan_of_a, plan_of_b, start, who_of, seen_from, after_event, deed_lines, lines_of, state_after, lines_after, last_state, tables_of, record_from}
use Rattle.duplex_line.specs.Plays.{Played, issued_by, IsUnspent}
use Rattle.duplex_line.proofs.Steps.EventsToCome.{room-of-a, room-of-b, unspent}
use Rattle.each_once.specs.Commands.{AreOutcomesTold}
use Rattle.each_once.specs.Exchanges.{exchanges, station_after}
use Rattle.each_once.specs.Tells.{executed_in, answers_in, strays_in, given_up_in}
use Rattle.each_once.specs.Once.{Once, IsReplyTo, IsAstray}
use Rattle.duplex_line.specs.Once.{EachOnce}
use Rattle.each_once.proofs.Sublists.{within-filter}
use Rattle.each_once.proofs.OneDirection.{way-start, way-within}
use Rattle.duplex_line.proofs.Once.SentMessages.{sends-start}
use Rattle.each_once.proofs.HandedOut.{is_command, waits_of}
use Rattle.each_once.proofs.NodeSteps.{hosts-start}
use Rattle.each_once.proofs.ToldLines.{told-start, AreSilent, silent-none, told-silent}
use Rattle.each_once.proofs.WaitingCommands.{others-start}
use Rattle.each_once.proofs.KeptCommands.{IsReplyOf, IsOfLost}
use Rattle.each_once.proofs.ToldReplies.{reply-to, one-outcome, astray-told}
use Rattle.each_once.proofs.RisingPlaces.{some-in-turn, are-apart}
use Rattle.duplex_line.proofs.Once.Invariant.{lane_of, AreTwo, two-swapped, a-and-b, joins-end, Holds, holds-swapped}
use Rattle.duplex_line.proofs.Once.ToldCommands.{recounts-run}
use Rattle.duplex_line.proofs.Once.LineSteps.{holds-issue, holds-take, holds-deliver, holds-lose, holds-alter, holds-foreign, holds-tick}

-- it holds as long as no end was deceived
abbrev Kept : Who → Who → StationState → StationState → LineState → List Line → Type 0
Kept near far first far_first s lines = s.deceived ≡ 0 → Holds near far first far_first s lines

-- ---- unit steps

-- these steps leave it, from whichever end the line is looked at
abbrev Goes : LineState → List Deed → Type 0
Goes s deeds = (near far : Who) → AreTwo near far → (first far_first : StationState) (lines : List Line) → Kept near far first far_first s lines → Kept near far first far_first (after_deeds s deeds) (lines ++ lines_over near far s deeds)

pub earlier : (count : ℕ) (b : LineEndState) (cell : Option LaneCell) → deceived_after count b cell ≡ 0 → count ≡ 0
earlier count b None none = none
earlier count b (Some cell) none = omega (arith, none)

-- a step that isn't an issue
abbrev pub IsPlain : Deed → Type 0
IsPlain (Issue src dst payload) = ⊥
IsPlain Take = Unit {0}
IsPlain Deliver = Unit {0}
IsPlain Lose = Unit {0}
IsPlain (Alter mask) = Unit {0}
IsPlain (Foreign byte) = Unit {0}
IsPlain Tick = Unit {0}

abbrev pub ArePlain : List Deed → Type 0
ArePlain [] = Unit {0}
ArePlain (deed ∷ deeds) = IsPlain deed × ArePlain deeds

kept-plain : (deed : Deed) → IsPlain deed → (s : LineState) (near far : Who) → AreTwo near far → (first far_first : StationState) (lines : List Line) → Kept near far first far_first s lines → Kept near far first far_first (after_deed s deed) (lines ++ lines_at near far s deed)
kept-plain (Issue src dst payload) plain s near far two first far_first lines k none = absurd plain
kept-plain Take plain s near far two first far_first lines k none = rw (append-nil lines) (holds-take near far first far_first s lines (k none))
kept-plain Deliver plain s near far two first far_first lines k none = holds-deliver near far two first far_first s lines none (k (earlier s.deceived s.b (arriving s.a Deliver) none))
kept-plain Lose plain s near far two first far_first lines k none = rw (append-nil lines) (holds-lose near far first far_first s lines (k none))
kept-plain (Alter mask) plain s near far two first far_first lines k none = rw (append-nil lines) (holds-alter near far first far_first s mask lines (k none))
kept-plain (Foreign byte) plain s near far two first far_first lines k none = holds-foreign near far two first far_first s byte lines none (k (earlier s.deceived s.b (arriving s.a (Foreign byte)) none))
kept-plain Tick plain s near far two first far_first lines k none = holds-tick near far first far_first s lines (k none)

goes-plain : (deeds : List Deed) → ArePlain deeds → (s : LineState) → Goes s deeds
goes-plain [] plain s near far two first far_first lines k = rw (append-nil lines) k
goes-plain (deed ∷ deeds) plain s near far two first far_first lines k =
    let more = goes-plain deeds plain.1 (after_deed s deed) near far two first far_first (lines ++ lines_at near far s deed) (kept-plain deed plain.0 s near far two first far_first lines k) in
    subst (λ (all : List Line). Kept near far first far_first (after_deeds (after_deed s deed) deeds) all) (append_assoc lines (lines_at near far s deed) (lines_over near far (after_deed s deed) deeds)) more

goes-issue : (s : LineState) (src : Option ℕ) (dst : ℕ) (payload : List ℕ) → IsTrue (is_payload payload) → issued_by s.a < 65535 → Goes s (Issue src dst payload ∷ [])
goes-issue s src dst payload may few near far two first far_first lines k none = rw (append-nil lines) (holds-issue near far first far_first s src dst payload lines may few (k none))

pub plain-again : (deed : Deed) → IsPlain deed → (n : ℕ) → ArePlain (replicate n deed)
plain-again deed plain zero = tt
plain-again deed plain (suc n) = (plain, plain-again deed plain n)

pub plain-foreign : (bytes : List ℕ) → ArePlain (map Foreign bytes)
plain-foreign [] = tt
plain-foreign (byte ∷ bytes) = (tt, plain-foreign bytes)

-- ---- events

pub sent-silent : (from to who : Who) (bytes : List ℕ) → AreSilent from to (sent_lines who bytes)
sent-silent from to who [] = silent-none from to
sent-silent from to who (byte ∷ bytes) = record { executes = refl; answers = refl; strays = refl }

-- more lines that tell nothing
holds-silent : (near far : Who) (first far_first : StationState) (s : LineState) (lines more : List Line) → AreSilent near far more → AreSilent far near more → Holds near far first far_first s lines → Holds near far first far_first s (lines ++ more)
holds-silent near far first far_first s lines more silent far_silent h = record {
  sent = h.sent;
  heard = h.heard;
  far_sent = h.far_sent;
  far_heard = h.far_heard;
  hosts = h.hosts;
  far_hosts = h.far_hosts;
  sends = h.sends;
  far_sends = h.far_sends;
  way = h.way;
  back = h.back;
  few = h.few;
  far_few = h.far_few;
  told = told-silent near far far_first s.a.end.host.initiator.issued (filter is_command h.far_heard) lines more silent h.told;
  far_told = told-silent far near first s.b.end.host.initiator.issued (filter is_command h.heard) lines more far_silent h.far_told;
  waits = h.waits;
  far_waits = h.far_waits;
}

-- the steps of an event at one of two ends, with its bytes
kept-deeds : (near far : Who) → AreTwo near far → (first far_first : StationState) (s : LineState) (deeds : List Deed) (bytes : List ℕ) (lines : List Line) → Goes s deeds → Kept near far first far_first s lines
    → Kept near far first far_first (after_deeds s deeds) (lines ++ (lines_over near far s deeds ++ sent_lines near bytes))
kept-deeds near far two first far_first s deeds bytes lines goes k none =
    let over = lines_over near far s deeds in
    let sent = sent_lines near bytes in
    subst (λ (all : List Line). Holds near far first far_first (after_deeds s deeds) all) (append_assoc lines over sent)
    (holds-silent near far first far_first (after_deeds s deeds) (lines ++ over) sent (sent-silent near far near bytes) (sent-silent far near near bytes) (goes near far two first far_first lines k none))

kept-seen : (who : Who) → IsTrue (is_end who) → (first_a first_b : StationState) (s : LineState) (deeds : List Deed) (lines : List Line) → Goes (seen_from who s) deeds → Kept A B first_a first_b s lines
    → Kept A B first_a first_b (seen_from who (after_deeds (seen_from who s) deeds)) (lines ++ deed_lines who (seen_from who s) deeds)
kept-seen A end first_a first_b s deeds lines goes k none = kept-deeds A B a-and-b first_a first_b s deeds (given_over s.a deeds) lines goes k none
kept-seen B end first_a first_b s deeds lines goes k none =
    holds-swapped B A first_b first_a (after_deeds (swapped s) deeds) _
    (kept-deeds B A (two-swapped A B a-and-b) first_b first_a (swapped s) deeds (given_over s.b deeds) lines goes (λ zero. holds-swapped A B first_a first_b s lines (k zero)) none)
kept-seen M end first_a first_b s deeds lines goes k none = absurd cc
kept-seen (S station) end first_a first_b s deeds lines goes k none = absurd cc

kept-event : (first_a first_b : StationState) (e : Event) (s : LineState) (lines : List Line) → IsPossible e → IsUnspent (seen_from (who_of e) s).a e → Kept A B first_a first_b s lines
    → Kept A B first_a first_b (after_event s e) (lines ++ lines_of s e)
kept-event first_a first_b (event.Issue who src dst payload) s lines possible few k = kept-seen who possible.0 first_a first_b s (Issue src dst payload ∷ []) lines (goes-issue (seen_from who s) src dst payload possible.1 few) k
kept-event first_a first_b (event.Take who n) s lines possible few k = kept-seen who possible.0 first_a first_b s (replicate n Take) lines (goes-plain (replicate n Take) (plain-again Take tt n) (seen_from who s)) k
kept-event first_a first_b (event.Deliver lane n) s lines possible few k =
    kept-seen lane.from (joins-end lane.from lane.to possible.0) first_a first_b s (replicate n Deliver) lines (goes-plain (replicate n Deliver) (plain-again Deliver tt n) (seen_from lane.from s)) k
kept-event first_a first_b (event.Lose lane n) s lines possible few k = kept-seen lane.from (joins-end lane.from lane.to possible.0) first_a first_b s (replicate n Lose) lines (goes-plain (replicate n Lose) (plain-again Lose tt n) (seen_from lane.from s)) k
kept-event first_a first_b (event.Alter lane mask) s lines possible few k = kept-seen lane.from (joins-end lane.from lane.to possible.0) first_a first_b s (Alter mask ∷ []) lines (goes-plain (Alter mask ∷ []) (tt, tt) (seen_from lane.from s)) k
kept-event first_a first_b (event.Foreign lane bytes) s lines possible few k = kept-seen lane.from (joins-end lane.from lane.to possible.0) first_a first_b s (map Foreign bytes) lines (goes-plain (map Foreign bytes) (plain-foreign bytes) (seen_from lane.from s)) k
kept-event first_a first_b (event.Tick who n) s lines possible few k = kept-seen who possible.0 first_a first_b s (replicate n Tick) lines (goes-plain (replicate n Tick) (plain-again Tick tt n) (seen_from who s)) k

kept-events : (first_a first_b : StationState) (events : List Event) (s : LineState) (lines : List Line) → All IsPossible events → issued_by s.a + count_by (issues A) events ≤ 65535 → issued_by s.b + count_by (issues B) events ≤ 65535
    → Kept A B first_a first_b s lines → Kept A B first_a first_b (state_after s events) (lines ++ lines_after s events)
kept-events first_a first_b [] s lines possible few_a few_b k = rw (append-nil lines) k
kept-events first_a first_b (e ∷ events) s lines possible few_a few_b k =
    let may = All-head IsPossible e events possible in
    let one = kept-event first_a first_b e s lines may (unspent s e events may few_a few_b) k in
    let more = kept-events first_a first_b events (after_event s e) (lines ++ lines_of s e) (All-tail IsPossible e events possible) (room-of-a s e events may few_a) (room-of-b s e events may few_b) one in
    subst (λ (all : List Line). Kept A B first_a first_b (state_after (after_event s e) events) all) (append_assoc lines (lines_of s e) (lines_after (after_event s e) events)) more

-- ---- a run

pub holds-start : (script : Script) → Holds A B (first_station (plan_of_a script)) (first_station (plan_of_b script)) (start script) []
holds-start script =
    let a = plan_of_a script in
    let b = plan_of_b script in
    record {
      sent = [];
      heard = [];
      far_sent = [];
      far_heard = [];
      hosts = hosts-start (first_station a) (first_node a) refl refl refl;
      far_hosts = hosts-start (first_station b) (first_node b) refl refl refl;
      sends = sends-start (setup_of script.check a) (first_node a);
      far_sends = sends-start (setup_of script.check b) (first_node b);
      way = way-start;
      back = way-start;
      few = omega arith;
      far_few = omega arith;
      told = told-start A B (first_station b) [];
      far_told = told-start B A (first_station a) [];
      waits = others-start (first_node a).initiator refl;
      far_waits = others-start (first_node b).initiator refl;
    }

-- ---- what holds shows each command once

all-as : {X : Type 0} (P Q : X → Type 0) (xs : List X) → ((x : X) → P x → Q x) → All P xs → All Q xs
all-as P Q xs each all k d inside = each _ (all k d inside)

once-of : (near far : Who) (first far_first : StationState) (s : LineState) (lines : List Line) → AreOutcomesTold near s.a.end.host.initiator.issued lines → Holds near far first far_first s lines
    → Once near far (map (λ c. c.body) s.a.end.host.initiator.issued) far_first lines
once-of near far first far_first s lines told h =
    let issued = s.a.end.host.initiator.issued in
    let bodies = map (λ (c : Issued). c.body) issued in
    let executed = filter is_command h.far_heard in
    let answered = exchanges far_first executed in
    let accepted = way-within h.sent (lane_of s.a.lane) s.b.end.receiver.kept h.far_heard h.way in
    let within = within-filter is_command h.far_heard h.sent accepted in
    let same : executed_in far lines ≡ executed = h.told.executes in
    record {
      apart = are-apart s.a.end.host.initiator.tns issued h.few h.hosts.initiates.numbered;
      in_order = rw same (some-in-turn executed (filter is_command h.sent) bodies (waits_of issued) within h.hosts.initiates.in_order);
      answers = rw same (all-as (λ a. IsReplyOf issued answered a.0 a.1) (λ a. IsReplyTo bodies answered a.0 a.1) (answers_in near lines) (λ a. reply-to issued answered a.0 a.1) h.told.answered);
      outcomes = one-outcome near issued lines told;
      strays = rw same (all-as (IsOfLost issued answered) (IsAstray bodies answered (given_up_in near lines)) (strays_in near lines) (λ reply. astray-told near issued lines answered reply told) h.told.astray);
    }

-- the tables of a station are what the commands make of the first ones that it is told to have executed
tables-of : (near far : Who) (first far_first : StationState) (s : LineState) (lines : List Line) → Holds near far first far_first s lines → tables_of s.b ≡ (station_after far_first (executed_in far lines)).tables
tables-of near far first far_first s lines h = rw h.told.executes (ap (λ (station : StationState). station.tables) h.far_hosts.station)

pub holds-run : (script : Script) → IsPlayable script → (last_state script).deceived ≡ 0
    → Holds A B (first_station (plan_of_a script)) (first_station (plan_of_b script)) (last_state script) (lines_after (start script) script.events)
holds-run script playable none =
    kept-events (first_station (plan_of_a script)) (first_station (plan_of_b script)) script.events (start script) [] playable.events (omega (arith, playable.commands_of_a)) (omega (arith, playable.commands_of_b)) (λ zero. holds-start script) none

pub each-once : (script : Script) → IsPlayable script → (last_state script).deceived ≡ 0 → EachOnce script (record_from (last_state script) (lines_after (start script) script.events))
each-once script playable none =
    let a = first_station (plan_of_a script) in
    let b = first_station (plan_of_b script) in
    let s = last_state script in
    let lines = lines_after (start script) script.events in
    let h = holds-run script playable none in
    let back = holds-swapped A B a b s lines h in
    let r = recounts-run script playable in
    record {
      to_b = subst (λ (bodies : List (List ℕ)). Once A B bodies b lines) r.recounts.issued.bodies (once-of A B a b s lines r.recounts.outcomes h);
      to_a = subst (λ (bodies : List (List ℕ)). Once B A bodies a lines) r.far_recounts.issued.bodies (once-of B A b a (swapped s) lines r.far_recounts.outcomes back);
      words = ap₂ (λ (x y : DataTables). words_of A x ++ words_of B y) (tables-of B A b a (swapped s) lines back) (tables-of A B a b s lines h);
    }

pub drop-past : (n : ℕ) (events : List Event) → length events ≤ n → drop n events ≡ []
drop-past zero [] past = refl
drop-past zero (e ∷ events) past = absurd (omega arith)
drop-past (suc n) [] past = refl
drop-past (suc n) (e ∷ events) past = drop-past n events (omega arith)

-- what holds of the lines of a run holds of the record of a run that was played to its end
pub record-played : {E : Type 0} (P : Record → Type 0) (script : Script) (i : ℕ) (w : Played) → length script.events ≤ i → state_after w.state (drop i script.events) ≡ last_state script
    → w.lines ++ lines_after w.state (drop i script.events) ≡ lines_after (start script) script.events → (result : Result Record E) → IfOk result (λ r. r ≡ record_from w.state w.lines) → P (record_from (last_state script) (lines_after (start script) script.events)) → IfOk result P
record-played P script i w over state lines (Err e) is p = tt
record-played P script i w over state lines (Ok r) is p =
    let none : drop i script.events ≡ [] = drop-past i script.events over in
    let same_state : w.state ≡ last_state script = rw none at state in
    let same_lines : w.lines ≡ lines_after (start script) script.events = sym (append-nil w.lines) ∙ rw none at lines in
    subst P (sym (is ∙ ap (λ (s : LineState). record_from s w.lines) same_state ∙ ap (record_from (last_state script)) same_lines)) p
