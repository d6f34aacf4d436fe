-- A full-duplex run from a state on where a command is over: it stays over, and no line tells it as executed at the other end.
use Rattle.std.proofs.Common.{◌≡◌, ◌≢◌, ◌∙◌, ℕ, Bool, true, false, if◌then◌else◌, List, [], ◌∷◌, ◌++◌, map, drop, Option, Some, None, slice_get, refl, sym, subst, arith, append-nil, append_assoc}
use Rattle.std.specs.Prelude.{IsTrue, All, replicate, unwrap_or}
use Rattle.std.specs.Option.{option_map}
use Rattle.std.proofs.lemmas.List.Elements.{All-head, All-tail, All-append, All-cons, filter_map-append}
use Rattle.std.proofs.lemmas.Option.{same_Some}
use Rattle.df1_base.specs.declared.link.Act.{Act}
use Rattle.df1_base.specs.declared.link.Act.TheVariants as act
use Rattle.df1_node.specs.Initiator.{next_issued}
use Rattle.duplex_end.specs.End.{act_of_byte, fate_at, turn_at_tick, gone_at_tick}
use Rattle.duplex_line.specs.Acts.{LineEndState, LineState, swapped, Deed, Issue, Take, Deliver, Lose, Alter, Foreign, Tick, near_after, arriving, after_cell, after_arrival, step_of, body_heard, deceptions_at, deceived_after, after_deed, after_deeds, near_lines, cell_lines, arrival_lines, lines_at, lines_over, given_over}
use Rattle.duplex_line.specs.Run.{who_of, deeds_of, other, seen_from, after_event, lines_of, state_after, lines_after}
use Rattle.duplex_line.proofs.Once.Arrivals.{end-of}
use Rattle.duplex_line.proofs.Once.ArrivingCell.{accept-new}
use Rattle.duplex_line.proofs.Once.Invariant.{AreTwo, two-swapped, a-and-b}
use Rattle.duplex_line.proofs.Once.WholeRun.{earlier, ArePlain, plain-again, plain-foreign}
use Rattle.each_once.specs.NodeHost.{node_host}
use Rattle.each_once.specs.Tells.{executed_at, executed_in}
use Rattle.each_once.proofs.SentAndExecuted.{command_at_act, tick-execute, sent-execute, step-other, step-own}
use Rattle.lane_cells.specs.Cells.{Ending, LaneCell, altered}
use Rattle.pccc_envelope.specs.Envelope.{is_reply}
use Rattle.replay_report.specs.declared.record.Line.{Line}
use Rattle.replay_report.specs.Report.{sent_lines}
use Rattle.script_parts.specs.declared.script.Event.{Event}
use Rattle.script_parts.specs.declared.script.Event.TheVariants as event
use Rattle.script_parts.specs.Playable.{IsPossible, is_end}
use Rattle.script_statement.specs.declared.who.Who.{Who}
use Rattle.script_statement.specs.declared.who.Who.TheVariants.{A, B, M, S}
use Rattle.run_laws.specs.Over.{IsOfOther}
use Rattle.run_laws.proofs.OverNode.{NoneEnds}
use Rattle.run_laws.proofs.OverEnd.{EndsNot, end-act, end-take, end-tick, end-issue, taken-other}

-- ---- lines that don't tell it

abbrev pub Untold : Who → List ℕ → List Line → Type 0
Untold who body lines = All (λ (told : List ℕ). told ≢ body) (executed_in who lines)

pub all-none : (body : List ℕ) → All (λ (told : List ℕ). told ≢ body) []
all-none body k d inside = absurd (omega (arith, inside))

pub untold-none : (who : Who) (body : List ℕ) (lines : List Line) → executed_in who lines ≡ [] → Untold who body lines
untold-none who body lines is = rw is (all-none body)

pub untold-both : (who : Who) (body : List ℕ) (lines more : List Line) → Untold who body lines → Untold who body more → Untold who body (lines ++ more)
untold-both who body lines more first second = rw (filter_map-append (executed_at who) lines more) (All-append (λ (told : List ℕ). told ≢ body) (executed_in who lines) (executed_in who more) first second)

-- what comes ends no transmission of it
abbrev pub OtherComes : List ℕ → Option LaneCell → Type 0
OtherComes body None = Unit {0}
OtherComes body (Some cell) = IsOfOther body cell.ends

pub ends-other : (ends : Option Ending) (heard body : List ℕ) → option_map (λ (e : Ending). e.body) ends ≡ Some heard → IsOfOther body ends → heard ≢ body
ends-other None heard body is apart = absurd cc
ends-other (Some ending) heard body is apart = λ same. apart (same_Some ending.body heard is ∙ same)

one-untold : (body heard : List ℕ) (reply : Bool) → heard ≢ body → All (λ (told : List ℕ). told ≢ body) (if reply then [] else heard ∷ [])
one-untold body heard true apart = all-none body
one-untold body heard false apart = All-cons (λ (told : List ℕ). told ≢ body) heard [] apart (all-none body)

pub act-untold : (what : Act) (body heard : List ℕ) → (what ≡ act.Accept → heard ≢ body) → All (λ (told : List ℕ). told ≢ body) (command_at_act what heard)
act-untold act.Accept body heard apart = one-untold body heard (is_reply heard) (apart refl)
act-untold act.Repeat body heard apart = all-none body
act-untold act.Refuse body heard apart = all-none body
act-untold act.Damaged body heard apart = all-none body
act-untold act.Forgot body heard apart = all-none body
act-untold act.PeerAck body heard apart = all-none body
act-untold act.PeerNak body heard apart = all-none body
act-untold act.PeerEnq body heard apart = all-none body
act-untold act.Nothing body heard apart = all-none body

arrival-untold : (near far : Who) → AreTwo near far → (body : List ℕ) (b : LineEndState) (count : ℕ) (o : Option LaneCell) → deceived_after count b o ≡ 0 → OtherComes body o → Untold far body (arrival_lines far b o)
arrival-untold near far two body b count None none comes = all-none body
arrival-untold near far two body b count (Some cell) none comes =
    let heard = body_heard b cell in
    let honest : deceptions_at b cell ≡ 0 = omega (arith, none) in
    let own = step-own far two.far_itself (step_of b cell) b.end.host heard [] [] (λ (is : (step_of b cell).act ≡ act.Accept). rw is refl) refl in
    rw own (act-untold (step_of b cell).act body heard (λ is. ends-other cell.ends heard body (accept-new b cell honest is).0 comes))

near-untold : (near far : Who) (body : List ℕ) (side : LineEndState) (deed : Deed) → Untold far body (near_lines near side deed)
near-untold near far body side (Issue src dst payload) = all-none body
near-untold near far body side Take = all-none body
near-untold near far body side Deliver = all-none body
near-untold near far body side Lose = all-none body
near-untold near far body side (Alter mask) = all-none body
near-untold near far body side (Foreign byte) = all-none body
near-untold near far body side Tick = untold-none far body (near_lines near side Tick) (tick-execute far near (turn_at_tick node_host side.end) (gone_at_tick node_host side.end))

other-untold : (near far : Who) → AreTwo near far → (body : List ℕ) (side : LineEndState) (o : Option LaneCell) → Untold far body (arrival_lines near side o)
other-untold near far two body side None = all-none body
other-untold near far two body side (Some cell) = untold-none far body (cell_lines near side cell) (step-other far near two.far_other (step_of side cell) (body_heard side cell))

-- ---- unit steps

-- it stays over, as long as no end is deceived
pub record StaysOver (far : Who) (body : List ℕ) (s : LineState) (lines : List Line) : Type 0 where
  pub ends : EndsNot body s.a.end
  pub none : NoneEnds body s.a.lane
  pub untold : Untold far body lines

abbrev pub Kept : Who → List ℕ → LineState → List Line → Type 0
Kept far body s lines = s.deceived ≡ 0 → StaysOver far body s lines

-- a command that is issued has another body
abbrev IsOther : List ℕ → LineEndState → Deed → Type 0
IsOther body side (Issue src dst payload) = next_issued side.end.host.initiator (unwrap_or src side.end.host.initiator.node) dst payload ≢ body
IsOther body side Take = Unit {0}
IsOther body side Deliver = Unit {0}
IsOther body side Lose = Unit {0}
IsOther body side (Alter mask) = Unit {0}
IsOther body side (Foreign byte) = Unit {0}
IsOther body side Tick = Unit {0}

pub none-left : (body : List ℕ) (cells : List LaneCell) → NoneEnds body cells → NoneEnds body (drop 1 cells)
none-left body [] none = none
none-left body (cell ∷ cells) none = none.1

pub none-altered : (body : List ℕ) (mask : ℕ) (cells : List LaneCell) → NoneEnds body cells → NoneEnds body (altered mask cells)
none-altered body mask [] none = none
none-altered body mask (cell ∷ cells) none = (tt, none.1)

pub first-other : (body : List ℕ) (cells : List LaneCell) → NoneEnds body cells → OtherComes body (slice_get cells 0)
first-other body [] none = tt
first-other body (cell ∷ cells) none = none.0

comes-other : (body : List ℕ) (side : LineEndState) (deed : Deed) → NoneEnds body side.lane → OtherComes body (arriving side deed)
comes-other body side (Issue src dst payload) none = tt
comes-other body side Take none = tt
comes-other body side Deliver none = first-other body side.lane none
comes-other body side Lose none = tt
comes-other body side (Alter mask) none = tt
comes-other body side (Foreign byte) none = tt
comes-other body side Tick none = tt

-- its end and the bytes from there
record NearOver (body : List ℕ) (side : LineEndState) : Type 0 where
  ends : EndsNot body side.end
  none : NoneEnds body side.lane

near-deed : (body : List ℕ) (side : LineEndState) (deed : Deed) → IsOther body side deed → EndsNot body side.end → NoneEnds body side.lane → NearOver body (near_after side deed)
near-deed body side (Issue src dst payload) apart ends none = record {
  ends = end-issue body side.end (unwrap_or src side.end.host.initiator.node) dst payload apart ends;
  none = none;
}
near-deed body side Take apart ends none = record { ends = end-take body side.end ends; none = taken-other body side ends none }
near-deed body side Deliver apart ends none = record { ends = ends; none = none-left body side.lane none }
near-deed body side Lose apart ends none = record { ends = ends; none = none-left body side.lane none }
near-deed body side (Alter mask) apart ends none = record { ends = ends; none = none-altered body mask side.lane none }
near-deed body side (Foreign byte) apart ends none = record { ends = ends; none = none }
near-deed body side Tick apart ends none = record { ends = end-tick body side.end ends; none = none }

own-deed : (near far : Who) → AreTwo near far → (body : List ℕ) (s : LineState) (deed : Deed) (lines : List Line) → IsOther body s.a deed → Kept far body s lines → Kept far body (after_deed s deed) (lines ++ lines_at near far s deed)
own-deed near far two body s deed lines apart kept none =
    let now = kept (earlier s.deceived s.b (arriving s.a deed) none) in
    let near_over = near-deed body s.a deed apart now.ends now.none in
    record {
      ends = near_over.ends;
      none = near_over.none;
      untold = untold-both far body lines (lines_at near far s deed) now.untold
          (untold-both far body (near_lines near s.a deed) (arrival_lines far s.b (arriving s.a deed)) (near-untold near far body s.a deed)
          (arrival-untold near far two body s.b s.deceived (arriving s.a deed) none (comes-other body s.a deed now.none)));
    }

ends-arrival : (body : List ℕ) (side : LineEndState) (o : Option LaneCell) → EndsNot body side.end → EndsNot body (after_arrival side o).end
ends-arrival body side None ends = ends
ends-arrival body side (Some cell) ends =
    let what = act_of_byte node_host side.end cell.byte in
    end-act body side.end (after_cell side cell).end cell.byte what (fate_at what side.end.sender) (body_heard side cell) refl refl refl ends

lane-arrival : (side : LineEndState) (o : Option LaneCell) → (after_arrival side o).lane ≡ side.lane
lane-arrival side None = refl
lane-arrival side (Some cell) = refl

other-deed : (near far : Who) → AreTwo near far → (body : List ℕ) (s : LineState) (deed : Deed) (lines : List Line) → Kept far body s lines → Kept far body (swapped (after_deed (swapped s) deed)) (lines ++ lines_at far near (swapped s) deed)
other-deed near far two body s deed lines kept none =
    let now = kept (earlier s.deceived s.a (arriving s.b deed) none) in
    record {
      ends = ends-arrival body s.a (arriving s.b deed) now.ends;
      none = subst (NoneEnds body) (sym (lane-arrival s.a (arriving s.b deed))) now.none;
      untold = untold-both far body lines (lines_at far near (swapped s) deed) now.untold
          (untold-both far body (near_lines far s.b deed) (arrival_lines near s.a (arriving s.b deed)) (near-untold far far body s.b deed) (other-untold near far two body s.a (arriving s.b deed)));
    }

-- ---- the steps of an event

abbrev AreOther : List ℕ → LineState → List Deed → Type 0
AreOther body s [] = Unit {0}
AreOther body s (deed ∷ deeds) = IsOther body s.a deed × AreOther body (after_deed s deed) deeds

plain-other : (body : List ℕ) (deeds : List Deed) (s : LineState) → ArePlain deeds → AreOther body s deeds
plain-other body [] s plain = tt
plain-other body (Issue src dst payload ∷ deeds) s plain = absurd plain.0
plain-other body (Take ∷ deeds) s plain = (tt, plain-other body deeds _ plain.1)
plain-other body (Deliver ∷ deeds) s plain = (tt, plain-other body deeds _ plain.1)
plain-other body (Lose ∷ deeds) s plain = (tt, plain-other body deeds _ plain.1)
plain-other body (Alter mask ∷ deeds) s plain = (tt, plain-other body deeds _ plain.1)
plain-other body (Foreign byte ∷ deeds) s plain = (tt, plain-other body deeds _ plain.1)
plain-other body (Tick ∷ deeds) s plain = (tt, plain-other body deeds _ plain.1)

own-deeds : (near far : Who) → AreTwo near far → (body : List ℕ) (deeds : List Deed) (s : LineState) (lines : List Line) → AreOther body s deeds → Kept far body s lines → Kept far body (after_deeds s deeds) (lines ++ lines_over near far s deeds)
own-deeds near far two body [] s lines apart kept = rw (append-nil lines) kept
own-deeds near far two body (deed ∷ deeds) s lines apart kept =
    let first = lines_at near far s deed in
    let rest = lines_over near far (after_deed s deed) deeds in
    subst (λ (all : List Line). Kept far body (after_deeds (after_deed s deed) deeds) all) (append_assoc lines first rest)
    (own-deeds near far two body deeds (after_deed s deed) (lines ++ first) apart.1 (own-deed near far two body s deed lines apart.0 kept))

other-deeds : (near far : Who) → AreTwo near far → (body : List ℕ) (deeds : List Deed) (s : LineState) (lines : List Line) → Kept far body s lines → Kept far body (swapped (after_deeds (swapped s) deeds)) (lines ++ lines_over far near (swapped s) deeds)
other-deeds near far two body [] s lines kept = rw (append-nil lines) kept
other-deeds near far two body (deed ∷ deeds) s lines kept =
    let next = swapped (after_deed (swapped s) deed) in
    let first = lines_at far near (swapped s) deed in
    let rest = lines_over far near (swapped next) deeds in
    subst (λ (all : List Line). Kept far body (swapped (after_deeds (swapped next) deeds)) all) (append_assoc lines first rest)
    (other-deeds near far two body deeds next (lines ++ first) (other-deed near far two body s deed lines kept))

with-sent : (far by : Who) (body : List ℕ) (s : LineState) (bytes : List ℕ) (lines over : List Line) → Kept far body s (lines ++ over) → Kept far body s (lines ++ (over ++ sent_lines by bytes))
with-sent far by body s bytes lines over kept none =
    let now = kept none in
    record {
      ends = now.ends;
      none = now.none;
      untold = subst (Untold far body) (append_assoc lines over (sent_lines by bytes)) (untold-both far body (lines ++ over) (sent_lines by bytes) now.untold (untold-none far body (sent_lines by bytes) (sent-execute far by bytes)));
    }

-- ---- events

-- a command that an event issues at this end has another body
abbrev pub IssuesOther : List ℕ → LineEndState → Event → Type 0
IssuesOther body side (event.Issue who src dst payload) = next_issued side.end.host.initiator (unwrap_or src side.end.host.initiator.node) dst payload ≢ body
IssuesOther body side (event.Take who n) = Unit {0}
IssuesOther body side (event.Deliver lane n) = Unit {0}
IssuesOther body side (event.Lose lane n) = Unit {0}
IssuesOther body side (event.Alter lane mask) = Unit {0}
IssuesOther body side (event.Foreign lane bytes) = Unit {0}
IssuesOther body side (event.Tick who n) = Unit {0}

abbrev pub AllIssueOther : Who → List ℕ → LineState → List Event → Type 0
AllIssueOther near body s [] = Unit {0}
AllIssueOther near body s (e ∷ events) = (who_of e ≡ near → IssuesOther body (seen_from near s).a e) × AllIssueOther near body (after_event s e) events

deeds-other : (body : List ℕ) (s : LineState) (e : Event) → IssuesOther body s.a e → AreOther body s (deeds_of e)
deeds-other body s (event.Issue who src dst payload) apart = (apart, tt)
deeds-other body s (event.Take who n) apart = plain-other body (replicate n Take) s (plain-again Take tt n)
deeds-other body s (event.Deliver lane n) apart = plain-other body (replicate n Deliver) s (plain-again Deliver tt n)
deeds-other body s (event.Lose lane n) apart = plain-other body (replicate n Lose) s (plain-again Lose tt n)
deeds-other body s (event.Alter lane mask) apart = (tt, tt)
deeds-other body s (event.Foreign lane bytes) apart = plain-other body (map Foreign bytes) s (plain-foreign bytes)
deeds-other body s (event.Tick who n) apart = plain-other body (replicate n Tick) s (plain-again Tick tt n)

-- the line, looked at from the end of the command, keeps it over
abbrev pub KeptAt : Who → List ℕ → LineState → List Line → Type 0
KeptAt near body s lines = Kept (other near) body (seen_from near s) lines

kept-event : (near by : Who) → IsTrue (is_end near) → IsTrue (is_end by) → (body : List ℕ) (s : LineState) (e : Event) (lines : List Line) → who_of e ≡ by → (by ≡ near → IssuesOther body (seen_from near s).a e) → KeptAt near body s lines
    → KeptAt near body (after_event s e) (lines ++ lines_of s e)
kept-event A A end by-end body s e lines is apart kept =
    rw is (with-sent B A body (after_deeds s (deeds_of e)) (given_over s.a (deeds_of e)) lines (lines_over A B s (deeds_of e)) (own-deeds A B a-and-b body (deeds_of e) s lines (deeds-other body s e (apart refl)) kept))
kept-event A B end by-end body s e lines is apart kept =
    rw is (with-sent B B body (swapped (after_deeds (swapped s) (deeds_of e))) (given_over s.b (deeds_of e)) lines (lines_over B A (swapped s) (deeds_of e)) (other-deeds A B a-and-b body (deeds_of e) s lines kept))
kept-event B A end by-end body s e lines is apart kept =
    rw is (with-sent A A body (swapped (after_deeds s (deeds_of e))) (given_over s.a (deeds_of e)) lines (lines_over A B s (deeds_of e)) (other-deeds B A (two-swapped A B a-and-b) body (deeds_of e) (swapped s) lines kept))
kept-event B B end by-end body s e lines is apart kept =
    rw is (with-sent A B body (after_deeds (swapped s) (deeds_of e)) (given_over s.b (deeds_of e)) lines (lines_over B A (swapped s) (deeds_of e)) (own-deeds B A (two-swapped A B a-and-b) body (deeds_of e) (swapped s) lines (deeds-other body (swapped s) e (apart refl)) kept))
kept-event M by end by-end body s e lines is apart kept = absurd cc
kept-event (S station) by end by-end body s e lines is apart kept = absurd cc
kept-event A M end by-end body s e lines is apart kept = absurd cc
kept-event A (S station) end by-end body s e lines is apart kept = absurd cc
kept-event B M end by-end body s e lines is apart kept = absurd cc
kept-event B (S station) end by-end body s e lines is apart kept = absurd cc

pub kept-events : (near : Who) → IsTrue (is_end near) → (body : List ℕ) (events : List Event) (s : LineState) (lines : List Line) → All IsPossible events → AllIssueOther near body s events → KeptAt near body s lines → KeptAt near body (state_after s events) (lines ++ lines_after s events)
kept-events near end body [] s lines possible apart kept = rw (append-nil lines) kept
kept-events near end body (e ∷ events) s lines possible apart kept =
    let now = kept-event near (who_of e) end (end-of e (All-head IsPossible e events possible)) body s e lines refl apart.0 kept in
    subst (λ (all : List Line). KeptAt near body (state_after (after_event s e) events) all) (append_assoc lines (lines_of s e) (lines_after (after_event s e) events))
    (kept-events near end body events (after_event s e) (lines ++ lines_of s e) (All-tail IsPossible e events possible) apart.1 now)
