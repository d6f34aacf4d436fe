-- A full-duplex run: no more bytes are on their way from an end than it sent, and none where as many left its lane and it sent none since.
use Rattle.std.proofs.Common.{◌≡◌, ◌∙◌, ℕ, zero, suc, ◌+◌, ◌≤◌, true, false, List, [], ◌∷◌, ◌++◌, drop, length, Option, Some, None, refl, sym, ap, subst, arith, append_assoc}
use Rattle.std.specs.Prelude.{All, IsTrue, replicate}
use Rattle.std.specs.Option.{option_map, option_to_list}
use Rattle.std.proofs.lemmas.List.{length-append, length-drop}
use Rattle.std.proofs.lemmas.List.Elements.{All-head, All-tail}
use Rattle.duplex_end.specs.End.{out_at_take, end_after_take}
use Rattle.duplex_line.specs.Acts.{LineEndState, LineState, Deed, Issue, Take, Deliver, Lose, Alter, Foreign, Tick, taken, byte_taken, near_after, arriving, after_arrival, after_deed, after_deeds, given_at, given_over, lines_over, swapped}
use Rattle.duplex_line.specs.Run.{start, who_of, deeds_of, other, seen_from, after_event, deed_lines, lines_of, state_after, lines_after, record_of as duplex_record}
use Rattle.duplex_line.proofs.Once.Invariant.{joins-end}
use Rattle.each_once.specs.NodeHost.{node_host}
use Rattle.each_once.specs.Tells.{is_who}
use Rattle.each_once.proofs.SentAndExecuted.{sent-more, own-sent}
use Rattle.lane_cells.specs.Cells.{LaneCell, altered, cell_of}
use Rattle.line_world.proofs.EitherMode.{duplex-record}
use Rattle.run_laws.specs.Overtaking.{with_events}
use Rattle.run_laws.proofs.Cut.{all-front}
use Rattle.replay_report.specs.declared.record.Line.{Line}
use Rattle.replay_report.specs.declared.record.Record.{Record}
use Rattle.replay_report.specs.Report.{sent_lines}
use Rattle.report_lines.specs.SentBytes.{sent_by}
use Rattle.script_parts.specs.declared.script.Event.{Event}
use Rattle.script_parts.specs.declared.script.Event.TheVariants as event
use Rattle.script_parts.specs.declared.script.Lane.{Lane}
use Rattle.script_parts.specs.declared.script.Script.{Script}
use Rattle.script_parts.specs.Playable.{IsPossible, is_end}
use Rattle.script_statement.specs.declared.who.Who.{Who}
use Rattle.script_statement.specs.declared.who.Who.TheVariants.{A, B, M, S}
use Rattle.run_laws.specs.GivenUp.{Empties, IsCleared, lines_so_far}
use Rattle.run_laws.proofs.OverAtCut.{all-back, state-both}

-- ---- lengths

pub drop-less : {X : Type 0} (xs : List X) → length (drop 1 xs) ≤ length xs
drop-less xs = omega (arith, length-drop 1 xs)

pub altered-length : (mask : ℕ) (cells : List LaneCell) → length (altered mask cells) ≡ length cells
altered-length mask [] = refl
altered-length mask (cell ∷ cells) = refl

pub none-left : {X : Type 0} (xs : List X) → length xs ≤ 0 → xs ≡ []
none-left [] none = refl
none-left (x ∷ xs) none = absurd (omega (arith, none))

-- the bytes that these lines end with are among those that they tell this end sent
pub sent-least : (who : Who) → is_who who who ≡ true → (over : List Line) (bytes : List ℕ) → length bytes ≤ length (sent_by who (over ++ sent_lines who bytes))
sent-least who itself over bytes =
    let sent = ap length (sent-more who over (sent_lines who bytes) ∙ ap (λ (l : List ℕ). sent_by who over ++ l) (own-sent who itself bytes)) in
    let both = length-append (sent_by who over) bytes in
    omega (arith, sent, both)

-- where lines tell of no more bytes than the first of them, the last of them tell of none
pub none-after : (who : Who) (first middle rest : List Line) → sent_by who (first ++ (middle ++ rest)) ≡ sent_by who first → length (sent_by who rest) ≡ 0
none-after who first middle rest same =
    let parts = ap length (sent-more who first (middle ++ rest) ∙ ap (λ (l : List ℕ). sent_by who first ++ l) (sent-more who middle rest)) in
    let one = length-append (sent_by who first) (sent_by who middle ++ sent_by who rest) in
    let two = length-append (sent_by who middle) (sent_by who rest) in
    let count = ap length same in
    omega (arith, parts, one, two, count)

-- ---- at an end

taken-length : (s : LineEndState) → length (taken s) ≡ length (option_to_list (byte_taken s))
taken-length s = by (out_at_take node_host s.end)
  where
    by : (o : _) → length (option_to_list (option_map (cell_of (end_after_take node_host s.end).sending) o)) ≡ length (option_to_list (option_map (λ out. out.byte) o))
    by None = refl
    by (Some out) = refl

near-lane : (s : LineEndState) (deed : Deed) → length (near_after s deed).lane ≤ length s.lane + length (given_at s deed)
near-lane s (Issue src dst payload) = omega arith
near-lane s Take = let both = length-append s.lane (taken s) in let same = taken-length s in omega (arith, both, same)
near-lane s Deliver = let less = drop-less s.lane in omega (arith, less)
near-lane s Lose = let less = drop-less s.lane in omega (arith, less)
near-lane s (Alter mask) = let same = altered-length mask s.lane in omega (arith, same)
near-lane s (Foreign byte) = omega arith
near-lane s Tick = omega arith

deeds-lane : (deeds : List Deed) (s : LineState) → length (after_deeds s deeds).a.lane ≤ length s.a.lane + length (given_over s.a deeds)
deeds-lane [] s = omega arith
deeds-lane (deed ∷ deeds) s =
    let first = near-lane s.a deed in
    let rest = deeds-lane deeds (after_deed s deed) in
    let both = length-append (given_at s.a deed) (given_over (near_after s.a deed) deeds) in
    omega (arith, first, rest, both)

-- the other lane stays
arrival-lane : (s : LineEndState) (o : Option LaneCell) → (after_arrival s o).lane ≡ s.lane
arrival-lane s None = refl
arrival-lane s (Some cell) = refl

deeds-beside : (deeds : List Deed) (s : LineState) → (after_deeds s deeds).b.lane ≡ s.b.lane
deeds-beside [] s = refl
deeds-beside (deed ∷ deeds) s = deeds-beside deeds (after_deed s deed) ∙ arrival-lane s.b (arriving s.a deed)

-- ---- events

-- the bytes on their way from an end
abbrev pub lane_from : Who → LineState → List LaneCell
lane_from near s = (seen_from near s).a.lane

own-lane : (who : Who) → is_who who who ≡ true → (s : LineState) (deeds : List Deed) → length (after_deeds s deeds).a.lane ≤ length s.a.lane + length (sent_by who (deed_lines who s deeds))
own-lane who itself s deeds =
    let lane = deeds-lane deeds s in
    let sent = sent-least who itself (lines_over who (other who) s deeds) (given_over s.a deeds) in
    omega (arith, lane, sent)

deeds-grow : (near who : Who) → IsTrue (is_end near) → IsTrue (is_end who) → (s : LineState) (deeds : List Deed)
    → length (lane_from near (seen_from who (after_deeds (seen_from who s) deeds))) ≤ length (lane_from near s) + length (sent_by near (deed_lines who (seen_from who s) deeds))
deeds-grow A A near who s deeds = own-lane A refl s deeds
deeds-grow A B near who s deeds = let same = ap length (deeds-beside deeds (swapped s)) in omega (arith, same)
deeds-grow B A near who s deeds = let same = ap length (deeds-beside deeds s) in omega (arith, same)
deeds-grow B B near who s deeds = own-lane B refl (swapped s) deeds
deeds-grow A M near who s deeds = absurd cc
deeds-grow A (S station) near who s deeds = absurd cc
deeds-grow B M near who s deeds = absurd cc
deeds-grow B (S station) near who s deeds = absurd cc
deeds-grow M who near is s deeds = absurd cc
deeds-grow (S station) who near is s deeds = absurd cc

event-end : (e : Event) → IsPossible e → IsTrue (is_end (who_of e))
event-end (event.Issue who src dst payload) possible = possible.0
event-end (event.Take who n) possible = possible.0
event-end (event.Deliver lane n) possible = joins-end lane.from lane.to possible.0
event-end (event.Lose lane n) possible = joins-end lane.from lane.to possible.0
event-end (event.Alter lane mask) possible = joins-end lane.from lane.to possible.0
event-end (event.Foreign lane bytes) possible = joins-end lane.from lane.to possible.0
event-end (event.Tick who n) possible = possible.0

events-grow : (near : Who) → IsTrue (is_end near) → (events : List Event) (s : LineState) → All IsPossible events → length (lane_from near (state_after s events)) ≤ length (lane_from near s) + length (sent_by near (lines_after s events))
events-grow near end [] s possible = omega arith
events-grow near end (e ∷ events) s possible =
    let first = deeds-grow near (who_of e) end (event-end e (All-head IsPossible e events possible)) s (deeds_of e) in
    let rest = events-grow near end events (after_event s e) (All-tail IsPossible e events possible) in
    let both = ap length (sent-more near (lines_of s e) (lines_after (after_event s e) events)) ∙ length-append (sent_by near (lines_of s e)) (sent_by near (lines_after (after_event s e) events)) in
    omega (arith, first, rest, both)

-- ---- the lane is emptied

deeds-empty : (deed : Deed) → ((s : LineEndState) → (near_after s deed).lane ≡ drop 1 s.lane) → (n : ℕ) (s : LineState) → length s.a.lane ≤ n → (after_deeds s (replicate n deed)).a.lane ≡ []
deeds-empty deed leaves zero s few = none-left s.a.lane few
deeds-empty deed leaves (suc n) s few =
    let now = ap length (leaves s.a) in
    let less = length-drop 1 s.a.lane in
    deeds-empty deed leaves n (after_deed s deed) (omega (arith, few, now, less))

from-empty : (near : Who) → IsTrue (is_end near) → (deed : Deed) → ((s : LineEndState) → (near_after s deed).lane ≡ drop 1 s.lane) → (n : ℕ) (s : LineState) → length (lane_from near s) ≤ n
    → lane_from near (seen_from near (after_deeds (seen_from near s) (replicate n deed))) ≡ []
from-empty A end deed leaves n s few = deeds-empty deed leaves n s few
from-empty B end deed leaves n s few = deeds-empty deed leaves n (swapped s) few
from-empty M end deed leaves n s few = absurd cc
from-empty (S station) end deed leaves n s few = absurd cc

event-empties : (on : Lane) → IsTrue (is_end on.from) → (count : ℕ) (e : Event) (s : LineState) → Empties on count e → length (lane_from on.from s) ≤ count → lane_from on.from (after_event s e) ≡ []
event-empties on end count (event.Issue who src dst payload) s empties few = absurd empties
event-empties on end count (event.Take who n) s empties few = absurd empties
event-empties on end count (event.Deliver lane n) s empties few =
    let enough = empties.1 in
    subst (λ (who : Who). lane_from on.from (seen_from who (after_deeds (seen_from who s) (replicate n Deliver))) ≡ []) (sym (ap (λ (l : Lane). l.from) empties.0)) (from-empty on.from end Deliver (λ side. refl) n s (omega (arith, few, enough)))
event-empties on end count (event.Lose lane n) s empties few =
    let enough = empties.1 in
    subst (λ (who : Who). lane_from on.from (seen_from who (after_deeds (seen_from who s) (replicate n Lose))) ≡ []) (sym (ap (λ (l : Lane). l.from) empties.0)) (from-empty on.from end Lose (λ side. refl) n s (omega (arith, few, enough)))
event-empties on end count (event.Alter lane mask) s empties few = absurd empties
event-empties on end count (event.Foreign lane bytes) s empties few = absurd empties
event-empties on end count (event.Tick who n) s empties few = absurd empties

-- ---- a run

pub lines-both : (front back : List Event) (s : LineState) → lines_after s (front ++ back) ≡ lines_after s front ++ lines_after (state_after s front) back
lines-both [] back s = refl
lines-both (e ∷ front) back s = ap (λ (l : List Line). lines_of s e ++ l) (lines-both front back (after_event s e)) ∙ sym (append_assoc (lines_of s e) (lines_after (after_event s e) front) (lines_after (state_after (after_event s e) front) back))

-- the lines of the first events are those of the run up to there
pub so-far : (script : Script) (front : List Event) → script.half ≡ false → lines_so_far script front ≡ lines_after (start script) front
unfolding duplex_record
so-far script front mode = ap (λ (r : Record). r.lines) (duplex-record (with_events script front) mode)

start-empty : (near : Who) → IsTrue (is_end near) → (script : Script) → lane_from near (start script) ≡ []
start-empty A end script = refl
start-empty B end script = refl
start-empty M end script = absurd cc
start-empty (S station) end script = absurd cc

pub is-empty : (on : Lane) → IsTrue (is_end on.from) → (script : Script) → script.half ≡ false → (front : List Event) → All IsPossible front → IsCleared on script front → lane_from on.from (state_after (start script) front) ≡ []
is-empty on end script mode front possible c =
    let near = on.from in
    let s = start script in
    let before = state_after s c.first in
    let cleared = after_event before c.clears in
    let all = subst (All IsPossible) c.are possible in
    let first_sent = so-far script c.first mode in
    let most = events-grow near end c.first s (all-front IsPossible c.first (c.clears ∷ c.rest) all) in
    let few : length (lane_from near before) ≤ length (sent_by near (lines_so_far script c.first)) = rw first_sent (let empty = ap length (start-empty near end script) in omega (arith, most, empty)) in
    let none = event-empties on end (length (sent_by near (lines_so_far script c.first))) c.clears before c.empties few in
    let grows = events-grow near end c.rest cleared (All-tail IsPossible c.clears c.rest (all-back IsPossible c.first (c.clears ∷ c.rest) all)) in
    let lines : lines_after s front ≡ lines_after s c.first ++ (lines_of before c.clears ++ lines_after cleared c.rest) = ap (lines_after s) c.are ∙ lines-both c.first (c.clears ∷ c.rest) s in
    let rest_sent = none-after near (lines_after s c.first) (lines_of before c.clears) (lines_after cleared c.rest) (ap (sent_by near) (sym lines) ∙ ap (sent_by near) (sym (so-far script front mode)) ∙ c.none_since ∙ ap (sent_by near) first_sent) in
    let empty = ap length none in
    let end_state : state_after s front ≡ state_after cleared c.rest = ap (state_after s) c.are ∙ state-both s c.first (c.clears ∷ c.rest) in
    none-left (lane_from near (state_after s front)) (subst (λ (t : LineState). length (lane_from near t) ≤ 0) (sym end_state) (omega (arith, grows, rest_sent, empty)))
