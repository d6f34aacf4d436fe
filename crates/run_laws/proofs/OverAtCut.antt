-- A full-duplex script cut where a command is over: no later command has its body, and it stays over.
use Rattle.std.proofs.Common.{◌≡◌, ◌≢◌, ◌∙◌, ℕ, zero, suc, false, List, [], ◌∷◌, ◌++◌, length, map, Option, Some, slice_get, refl, sym, ap, subst, arith, append-nil, append_assoc}
use Rattle.std.specs.Prelude.{IsTrue, All, Contains, unwrap_or}
use Rattle.std.specs.List.{filter}
use Rattle.std.specs.Option.{option_map}
use Rattle.std.proofs.lemmas.List.{map-append}
use Rattle.std.proofs.lemmas.List.Elements.{All-head, All-tail, filter_map-append}
use Rattle.std.proofs.lemmas.Option.{same_Some, slice_get-map, slice_get_within}
use Rattle.df1_node.specs.Answer.{StationState}
use Rattle.df1_node.specs.Initiator.{Issued, is_waiting, next_issued}
use Rattle.duplex_line.specs.Acts.{LineState}
use Rattle.duplex_line.specs.Issues.{bodies_of, commands_of_a, commands_of_b, requests_in}
use Rattle.duplex_line.specs.Run.{first_station, plan_of_a, plan_of_b, start, who_of, other, seen_from, after_event, state_after, lines_after, last_state}
use Rattle.duplex_line.proofs.Once.Invariant.{Holds, holds-swapped}
use Rattle.duplex_line.proofs.Once.ToldCommands.{recounts-run}
use Rattle.duplex_line.proofs.Once.WholeRun.{each-once, holds-run}
use Rattle.each_once.specs.Once.{AreApart}
use Rattle.each_once.specs.Tells.{executed_in}
use Rattle.each_once.proofs.HandedOut.{numbered-at, is_command}
use Rattle.each_once.proofs.RisingPlaces.{are-apart}
use Rattle.each_once.proofs.Sublists.{get-more, get-seam}
use Rattle.lane_cells.specs.Cells.{LaneCell}
use Rattle.run_laws.specs.Overtaking.{with_events}
use Rattle.run_laws.proofs.Cut.{duplex-front, events-earlier, front-of}
use Rattle.pccc_envelope.specs.Envelope.{is_reply}
use Rattle.replay_report.specs.declared.record.Line.{Line}
use Rattle.script_parts.specs.declared.script.Event.{Event}
use Rattle.script_parts.specs.declared.script.Event.TheVariants as event
use Rattle.script_parts.specs.declared.script.Script.{Script}
use Rattle.script_parts.specs.Playable.{IsPlayable, IsPossible, is_end}
use Rattle.script_statement.specs.declared.who.Who.{Who}
use Rattle.script_statement.specs.declared.who.Who.TheVariants.{A, B, M, S}
use Rattle.run_laws.specs.Over.{IsOfOther, IsOverAt, IsOverForGood}
use Rattle.run_laws.proofs.OverEnd.{EndsNot}
use Rattle.run_laws.proofs.OverNode.{WaitsNot, AreReplies, NoneEnds, replies-of, replies-behind}
use Rattle.run_laws.proofs.OverRun.{IssuesOther, AllIssueOther, StaysOver, all-none, kept-events}

-- ---- the commands of an end at a cut

-- all commands of an end
abbrev pub commands_at : Who → Script → List (List ℕ)
commands_at A script = commands_of_a script
commands_at B script = commands_of_b script
commands_at M script = []
commands_at (S station) script = []

-- the state after these events, from an end
abbrev pub state_at : Who → Script → List Event → LineState
state_at near script events = seen_from near (state_after (start script) events)

abbrev bodies_at : Who → Script → List Event → List (List ℕ)
bodies_at near script events = bodies_of (state_at near script events).a

bodies-all : (near : Who) → IsTrue (is_end near) → (script : Script) → IsPlayable script → bodies_at near script script.events ≡ commands_at near script
bodies-all A end script playable = (recounts-run script playable).recounts.issued.bodies
bodies-all B end script playable = (recounts-run script playable).far_recounts.issued.bodies
bodies-all M end script playable = absurd cc
bodies-all (S station) end script playable = absurd cc

commands-front : (near : Who) → IsTrue (is_end near) → (script : Script) (front back : List Event) → script.events ≡ front ++ back → (more : List (List ℕ)) × (commands_at near script ≡ commands_at near (with_events script front) ++ more)
commands-front A end script front back is = front-of (plan_of_a script).tns (requests_in A (plan_of_a script).node) script.events front back is (filter_map-append _ front back)
commands-front B end script front back is = front-of (plan_of_b script).tns (requests_in B (plan_of_b script).node) script.events front back is (filter_map-append _ front back)
commands-front M end script front back is = absurd cc
commands-front (S station) end script front back is = absurd cc

-- those so far are the first of all
pub bodies-front : (near : Who) → IsTrue (is_end near) → (script : Script) → IsPlayable script → (front back : List Event) → script.events ≡ front ++ back → (more : List (List ℕ)) × (commands_at near script ≡ bodies_at near script front ++ more)
bodies-front near end script playable front back is =
    let first = commands-front near end script front back is in
    let same = bodies-all near end (with_events script front) (duplex-front script front back playable is) in
    (first.0, first.1 ∙ ap (λ (bodies : List (List ℕ)). bodies ++ first.0) (sym same))

all-apart : (near : Who) → IsTrue (is_end near) → (script : Script) → IsPlayable script → (last_state script).deceived ≡ 0 → AreApart (commands_at near script)
all-apart A end script playable none = (each-once script playable none).to_b.apart
all-apart B end script playable none = (each-once script playable none).to_a.apart
all-apart M end script playable none = absurd cc
all-apart (S station) end script playable none = absurd cc

-- ---- later commands have other bodies

pub state-both : (s : LineState) (front back : List Event) → state_after s (front ++ back) ≡ state_after (state_after s front) back
state-both s [] back = refl
state-both s (first ∷ front) back = state-both (after_event s first) front back

-- a command of one place isn't of another one behind
pub places-apart : (all xs more : List (List ℕ)) (p : ℕ) (body new : List ℕ) → AreApart all → all ≡ (xs ++ new ∷ []) ++ more → slice_get xs p ≡ Some body → new ≢ body
places-apart all xs more p body new apart is at =
    λ same.
    let first : slice_get all p ≡ Some body = ap (λ (l : List (List ℕ)). slice_get l p) is ∙ get-more (xs ++ new ∷ []) more p body (get-more xs (new ∷ []) p body at) in
    let last : slice_get all (length xs) ≡ Some body = ap (λ (l : List (List ℕ)). slice_get l (length xs)) is ∙ get-more (xs ++ new ∷ []) more (length xs) new (get-seam xs new []) ∙ ap Some same in
    let one = apart p (length xs) body first last in
    let within = slice_get_within xs p body at in
    omega (arith, one, within)

-- the bodies with one more
issue-bodies : (near : Who) → IsTrue (is_end near) → (s : LineState) (src : Option ℕ) (dst : ℕ) (payload : List ℕ)
    → (let i = (seen_from near s).a.end.host.initiator in bodies_of (seen_from near (after_event s (event.Issue near src dst payload))).a ≡ bodies_of (seen_from near s).a ++ next_issued i (unwrap_or src i.node) dst payload ∷ [])
issue-bodies A end s src dst payload = map-append (λ (c : Issued). c.body) s.a.end.host.initiator.issued _
issue-bodies B end s src dst payload = map-append (λ (c : Issued). c.body) s.b.end.host.initiator.issued _
issue-bodies M end s src dst payload = absurd cc
issue-bodies (S station) end s src dst payload = absurd cc

-- what is known of a script that is cut, and of a command of its front
record Cut (near : Who) (script : Script) (front : List Event) (p : ℕ) (body : List ℕ) : Type 0 where
  end : IsTrue (is_end near)
  playable : IsPlayable script
  none : (last_state script).deceived ≡ 0
  at : slice_get (bodies_at near script front) p ≡ Some body

still-there : (near : Who) (script : Script) (front mid back : List Event) (p : ℕ) (body : List ℕ) → Cut near script front p body → script.events ≡ (front ++ mid) ++ back → slice_get (bodies_at near script (front ++ mid)) p ≡ Some body
still-there near script front mid back p body cut is =
    let done = front ++ mid in
    let h = duplex-front script done back cut.playable is in
    let first = bodies-front near cut.end (with_events script done) h front mid refl in
    let same = bodies-all near cut.end (with_events script done) h in
    ap (λ (l : List (List ℕ)). slice_get l p) (same ∙ first.1) ∙ get-more (bodies_at near script front) first.0 p body cut.at

issue-other : (near : Who) (script : Script) (front mid back : List Event) (p : ℕ) (body : List ℕ) → Cut near script front p body → (who : Who) (src : Option ℕ) (dst : ℕ) (payload : List ℕ) → who ≡ near → script.events ≡ (front ++ mid) ++ event.Issue who src dst payload ∷ back
    → IssuesOther body (state_at near script (front ++ mid)).a (event.Issue who src dst payload)
issue-other near script front mid back p body cut who src dst payload is_near is =
    let e = event.Issue near src dst payload in
    let done = front ++ mid in
    let events : script.events ≡ done ++ e ∷ back = is ∙ ap (λ (w : Who). done ++ event.Issue w src dst payload ∷ back) is_near in
    let first = bodies-front near cut.end script cut.playable (done ++ e ∷ []) back (events ∙ sym (append_assoc done (e ∷ []) back)) in
    let i = (state_at near script done).a.end.host.initiator in
    let now : bodies_at near script (done ++ e ∷ []) ≡ bodies_at near script done ++ next_issued i (unwrap_or src i.node) dst payload ∷ [] =
    ap (λ (s : LineState). bodies_of (seen_from near s).a) (state-both (start script) done (e ∷ [])) ∙ issue-bodies near cut.end (state_after (start script) done) src dst payload in
    places-apart (commands_at near script) (bodies_at near script done) first.0 p body (next_issued i (unwrap_or src i.node) dst payload) (all-apart near cut.end script cut.playable cut.none)
    (first.1 ∙ ap (λ (l : List (List ℕ)). l ++ first.0) now) (still-there near script front mid (e ∷ back) p body cut events)

event-other : (near : Who) (script : Script) (front mid back : List Event) (p : ℕ) (body : List ℕ) → Cut near script front p body → (e : Event) → who_of e ≡ near → script.events ≡ (front ++ mid) ++ e ∷ back → IssuesOther body (state_at near script (front ++ mid)).a e
event-other near script front mid back p body cut (event.Issue who src dst payload) is_near is = issue-other near script front mid back p body cut who src dst payload is_near is
event-other near script front mid back p body cut (event.Take who n) is_near is = tt
event-other near script front mid back p body cut (event.Deliver lane n) is_near is = tt
event-other near script front mid back p body cut (event.Lose lane n) is_near is = tt
event-other near script front mid back p body cut (event.Alter lane mask) is_near is = tt
event-other near script front mid back p body cut (event.Foreign lane bytes) is_near is = tt
event-other near script front mid back p body cut (event.Tick who n) is_near is = tt

all-other : (near : Who) (script : Script) (front : List Event) (p : ℕ) (body : List ℕ) → Cut near script front p body → (back mid : List Event) → script.events ≡ (front ++ mid) ++ back → AllIssueOther near body (state_after (start script) (front ++ mid)) back
all-other near script front p body cut [] mid is = tt
all-other near script front p body cut (e ∷ back) mid is =
    let next : front ++ (mid ++ e ∷ []) ≡ (front ++ mid) ++ e ∷ [] = sym (append_assoc front mid (e ∷ [])) in
    let events : script.events ≡ (front ++ (mid ++ e ∷ [])) ++ back = is ∙ sym (append_assoc (front ++ mid) (e ∷ []) back) ∙ ap (λ (l : List Event). l ++ back) (sym next) in
    let state : state_after (start script) (front ++ (mid ++ e ∷ [])) ≡ after_event (state_after (start script) (front ++ mid)) e = ap (state_after (start script)) next ∙ state-both (start script) (front ++ mid) (e ∷ []) in (
      λ is_near. event-other near script front mid back p body cut e is_near is,
      subst (λ (s : LineState). AllIssueOther near body s back) state (all-other near script front p body cut back (mid ++ e ∷ []) events),
    )

-- ---- at the cut

pub none-of-all : (body : List ℕ) (cells : List LaneCell) → All (λ (cell : LaneCell). IsOfOther body cell.ends) cells → NoneEnds body cells
none-of-all body [] all = tt
none-of-all body (cell ∷ cells) all = (All-head (λ (c : LaneCell). IsOfOther body c.ends) cell cells all, none-of-all body cells (All-tail (λ (c : LaneCell). IsOfOther body c.ends) cell cells all))

pub one-waits-not : (issued : List Issued) (p : ℕ) (standing : Issued) (body : List ℕ) → AreApart (map (λ c. c.body) issued) → slice_get issued p ≡ Some standing → standing.body ≡ body → is_waiting standing.standing ≡ false → WaitsNot body issued
one-waits-not issued p standing body apart at has out q c at_q same =
    let first = slice_get-map (λ (x : Issued). x.body) issued p ∙ ap (option_map (λ (x : Issued). x.body)) at ∙ ap Some has in
    let second = slice_get-map (λ (x : Issued). x.body) issued q ∙ ap (option_map (λ (x : Issued). x.body)) at_q ∙ ap Some same in
    let one = apart p q body first second in
    let is : standing ≡ c = same_Some standing c (sym at ∙ ap (slice_get issued) one ∙ at_q) in
    sym (ap (λ (x : Issued). is_waiting x.standing) is) ∙ out

ends-not : (near far : Who) (first far_first : StationState) (s : LineState) (lines : List Line) (p : ℕ) (body : List ℕ) → Holds near far first far_first s lines → IsOverAt s.a (suc p) body → EndsNot body s.a.end
ends-not near far first far_first s lines p body h over =
    let issued = s.a.end.host.initiator.issued in
    let number = numbered-at s.a.end.host.initiator.tns 0 issued p over.standing h.hosts.initiates.numbered over.is_command in
    record {
      command = ap is_reply (sym over.has_body) ∙ number.1;
      messages = h.sent;
      sends = h.sends;
      holds = over.holds_not;
      gives = record {
        waits = one-waits-not issued p over.standing body (are-apart s.a.end.host.initiator.tns issued h.few h.hosts.initiates.numbered) over.is_command over.has_body over.handed_out;
        replies = replies-behind (filter is_reply h.sent) s.a.end.host.replies (subst AreReplies h.hosts.replies (replies-of first (filter is_command h.heard)));
      };
    }

over-there : (near far : Who) (first far_first : StationState) (s : LineState) (lines : List Line) (n : ℕ) (body : List ℕ) → Holds near far first far_first s lines → IsOverAt s.a n body → (p : ℕ) × (slice_get (bodies_of s.a) p ≡ Some body) × StaysOver far body s []
over-there near far first far_first s lines zero body h over = let no = over.is_command in absurd cc
over-there near far first far_first s lines (suc p) body h over = (
  p,
  slice_get-map (λ (x : Issued). x.body) s.a.end.host.initiator.issued p ∙ ap (option_map (λ (x : Issued). x.body)) over.is_command ∙ ap Some over.has_body,
  record { ends = ends-not near far first far_first s lines p body h over; none = none-of-all body s.a.lane over.none_comes; untold = all-none body },
)

-- ---- for good

pub not-told : (body : List ℕ) (told : List (List ℕ)) → All (λ (x : List ℕ). x ≢ body) told → Contains told body → ⊥
not-told body told all contains = all contains.0 body contains.1 contains.2

pub holds-at : (near : Who) → IsTrue (is_end near) → (script : Script) → IsPlayable script → (last_state script).deceived ≡ 0 → (front back : List Event) → script.events ≡ front ++ back
    → (first far_first : StationState) × (lines : List Line) × Holds near (other near) first far_first (state_at near script front) lines
holds-at near end script playable none front back is = by near end
  where
    cut : Script
    cut = with_events script front

    h : Holds A B (first_station (plan_of_a script)) (first_station (plan_of_b script)) (state_after (start script) front) (lines_after (start script) front)
    h = holds-run cut (duplex-front script front back playable is) (events-earlier (start script) front back (subst (λ (events : List Event). (state_after (start script) events).deceived ≡ 0) is none))

    by : (near : Who) → IsTrue (is_end near) → (first far_first : StationState) × (lines : List Line) × Holds near (other near) first far_first (state_at near script front) lines
    by A end = (first_station (plan_of_a script), first_station (plan_of_b script), lines_after (start script) front, h)
    by B end = (first_station (plan_of_b script), first_station (plan_of_a script), lines_after (start script) front, holds-swapped A B _ _ _ _ h)
    by M end = absurd cc
    by (S station) end = absurd cc

seen-none : (near : Who) → (s : LineState) → s.deceived ≡ 0 → (seen_from near s).deceived ≡ 0
seen-none A s none = none
seen-none B s none = none
seen-none M s none = none
seen-none (S station) s none = none

pub all-back : {X : Type 0} (P : X → Type 0) (front back : List X) → All P (front ++ back) → All P back
all-back P [] back all = all
all-back P (x ∷ front) back all = all-back P front back (All-tail P x (front ++ back) all)

pub late-at : (near : Who) → IsTrue (is_end near) → (script : Script) → IsPlayable script → (last_state script).deceived ≡ 0 → (front back : List Event) → script.events ≡ front ++ back
    → (n : ℕ) (body : List ℕ) → IsOverAt (state_at near script front).a n body → Contains (executed_in (other near) (lines_after (state_after (start script) front) back)) body → ⊥
late-at near end script playable none front back is n body over contains =
    let at = holds-at near end script playable none front back is in
    let there = over-there near (other near) at.0 at.1 (state_at near script front) at.2 n body at.3 over in
    let cut : Cut near script front there.0 body = record { end = end; playable = playable; none = none; at = there.1 } in
    let seam : front ++ [] ≡ front = append-nil front in
    let events : script.events ≡ (front ++ []) ++ back = is ∙ ap (λ (l : List Event). l ++ back) (sym seam) in
    let apart = subst (λ (l : List Event). AllIssueOther near body (state_after (start script) l) back) seam (all-other near script front there.0 body cut back [] events) in
    let s = state_after (start script) front in
    let kept = kept-events near end body back s [] (all-back IsPossible front back (subst (All IsPossible) is playable.events)) apart (λ zero. there.2) in
    let last : (state_after s back).deceived ≡ 0 = sym (ap (λ (x : LineState). x.deceived) (state-both (start script) front back)) ∙ subst (λ (l : List Event). (state_after (start script) l).deceived ≡ 0) is none in
    not-told body (executed_in (other near) (lines_after s back)) (kept (seen-none near (state_after s back) last)).untold contains

pub over-for-good : (script : Script) → IsPlayable script → (last_state script).deceived ≡ 0 → IsOverForGood script
over-for-good script playable none front back is = record {
  of_a = late-at A refl script playable none front back is;
  of_b = late-at B refl script playable none front back is;
}
