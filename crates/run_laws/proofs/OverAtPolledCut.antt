-- A half-duplex script cut where a command is over on its way to a station: no later command has its body, and it stays over.
use Rattle.std.proofs.Common.{◌≡◌, ◌∙◌, ℕ, zero, suc, ◌≤◌, List, [], ◌∷◌, ◌++◌, Option, Some, slice_get, refl, sym, ap, subst, arith, append-nil, append_assoc}
use Rattle.std.specs.Prelude.{unwrap_or}
use Rattle.std.specs.Option.{option_map}
use Rattle.std.proofs.lemmas.List.{map-append}
use Rattle.std.proofs.lemmas.List.Elements.{filter_map-append}
use Rattle.std.proofs.lemmas.Option.{slice_get-map}
use Rattle.df1_node.specs.Initiator.{Issued, next_issued}
use Rattle.df1_node.specs.Node.{NodeState}
use Rattle.each_once.specs.Once.{AreApart}
use Rattle.each_once.specs.Tells.{executed_in}
use Rattle.each_once.proofs.HandedOut.{numbered-at}
use Rattle.each_once.proofs.RisingPlaces.{are-apart}
use Rattle.each_once.proofs.Sublists.{get-more}
use Rattle.half_line.specs.Acts.{LineStationState, HalfState}
use Rattle.half_line.specs.Behind.{plain_node}
use Rattle.half_line.specs.Issues.{bodies_of, commands_of_m, issued_of, requests_in}
use Rattle.half_line.specs.Run.{plan_of_m, start, after_event, state_after, lines_after, last_state}
use Rattle.half_line.proofs.Once.EachStation.{are-distinct, setting_of, holds-start}
use Rattle.half_line.proofs.Once.Invariant.{Holds}
use Rattle.half_line.proofs.Once.MasterCommands.{issued-run}
use Rattle.half_line.proofs.Once.WholeRun.{counted_over, counted-within, kept-events as holds-events}
use Rattle.run_laws.specs.Overtaking.{with_events}
use Rattle.run_laws.proofs.Cut.{half-front, half-earlier, front-of}
use Rattle.pccc_envelope.specs.Envelope.{is_reply}
use Rattle.replay_report.specs.declared.record.Line.{Line}
use Rattle.script_parts.specs.declared.script.Event.{Event}
use Rattle.script_parts.specs.declared.script.Event.TheVariants as event
use Rattle.script_parts.specs.declared.script.Script.{Script}
use Rattle.script_parts.specs.HalfPlayable.{IsHalfPlayable, numbers_of}
use Rattle.script_statement.specs.declared.who.Who.{Who}
use Rattle.script_statement.specs.declared.who.Who.TheVariants.{S}
use Rattle.run_laws.specs.Over.{IsOverTo, IsOverThereForGood}
use Rattle.run_laws.proofs.OverAtCut.{places-apart, none-of-all, one-waits-not, not-told}
use Rattle.run_laws.proofs.OverMaster.{free-of}
use Rattle.run_laws.proofs.OverPolledRun.{Watched, StaysOverThere, IssuesOtherThere, AllIssueOtherThere, kept-events}
use Rattle.run_laws.proofs.OverRun.{all-none}

-- ---- the commands of the master at a cut

abbrev pub state_at : Script → List Event → HalfState NodeState
state_at script events = state_after plain_node (start script) events

abbrev bodies_at : Script → List Event → List (List ℕ)
bodies_at script events = bodies_of (state_at script events).master

bodies-all : (script : Script) → bodies_at script script.events ≡ commands_of_m script
bodies-all script = (issued-run script).bodies

-- those so far are the first of all
pub bodies-front : (script : Script) (front back : List Event) → script.events ≡ front ++ back → (more : List (List ℕ)) × (commands_of_m script ≡ bodies_at script front ++ more)
bodies-front script front back is =
    let first = front-of (plan_of_m script).tns (requests_in (plan_of_m script).node) script.events front back is (filter_map-append _ front back) in
    (first.0, first.1 ∙ ap (λ (bodies : List (List ℕ)). bodies ++ first.0) (sym (bodies-all (with_events script front))))

-- ---- later commands have other bodies

pub state-both : (s : HalfState NodeState) (front back : List Event) → state_after plain_node s (front ++ back) ≡ state_after plain_node (state_after plain_node s front) back
state-both s [] back = refl
state-both s (first ∷ front) back = state-both (after_event plain_node s first) front back

-- what is known of a script that is cut, and of a command of its front
record Cut (script : Script) (front : List Event) (p : ℕ) (body : List ℕ) : Type 0 where
  apart : AreApart (commands_of_m script)
  at : slice_get (bodies_at script front) p ≡ Some body

still-there : (script : Script) (front mid : List Event) (p : ℕ) (body : List ℕ) → Cut script front p body → slice_get (bodies_at script (front ++ mid)) p ≡ Some body
still-there script front mid p body cut =
    let done = front ++ mid in
    let first = bodies-front (with_events script done) front mid refl in
    ap (λ (l : List (List ℕ)). slice_get l p) (bodies-all (with_events script done) ∙ first.1) ∙ get-more (bodies_at script front) first.0 p body cut.at

issue-other : (script : Script) (front mid back : List Event) (p : ℕ) (body : List ℕ) → Cut script front p body → (who : Who) (src : Option ℕ) (dst : ℕ) (payload : List ℕ) → script.events ≡ (front ++ mid) ++ event.Issue who src dst payload ∷ back
    → IssuesOtherThere body (state_at script (front ++ mid)) (event.Issue who src dst payload)
issue-other script front mid back p body cut who src dst payload is =
    let e = event.Issue who src dst payload in
    let done = front ++ mid in
    let first = bodies-front script (done ++ e ∷ []) back (is ∙ sym (append_assoc done (e ∷ []) back)) in
    let i = (state_at script done).master.host.initiator in
    let new = next_issued i (unwrap_or src i.node) dst payload in
    let now : bodies_at script (done ++ e ∷ []) ≡ bodies_at script done ++ new ∷ [] =
    ap (λ (s : HalfState NodeState). bodies_of s.master) (state-both (start script) done (e ∷ [])) ∙ map-append (λ (c : Issued). c.body) i.issued _ in
    places-apart (commands_of_m script) (bodies_at script done) first.0 p body new cut.apart (first.1 ∙ ap (λ (l : List (List ℕ)). l ++ first.0) now) (still-there script front mid p body cut)

event-other : (script : Script) (front mid back : List Event) (p : ℕ) (body : List ℕ) → Cut script front p body → (e : Event) → script.events ≡ (front ++ mid) ++ e ∷ back → IssuesOtherThere body (state_at script (front ++ mid)) e
event-other script front mid back p body cut (event.Issue who src dst payload) is = issue-other script front mid back p body cut who src dst payload is
event-other script front mid back p body cut (event.Take who n) is = tt
event-other script front mid back p body cut (event.Deliver lane n) is = tt
event-other script front mid back p body cut (event.Lose lane n) is = tt
event-other script front mid back p body cut (event.Alter lane mask) is = tt
event-other script front mid back p body cut (event.Foreign lane bytes) is = tt
event-other script front mid back p body cut (event.Tick who n) is = tt

all-other : (script : Script) (front : List Event) (p : ℕ) (body : List ℕ) → Cut script front p body → (back mid : List Event) → script.events ≡ (front ++ mid) ++ back → AllIssueOtherThere body (state_at script (front ++ mid)) back
all-other script front p body cut [] mid is = tt
all-other script front p body cut (e ∷ back) mid is =
    let next : front ++ (mid ++ e ∷ []) ≡ (front ++ mid) ++ e ∷ [] = sym (append_assoc front mid (e ∷ [])) in
    let events : script.events ≡ (front ++ (mid ++ e ∷ [])) ++ back = is ∙ sym (append_assoc (front ++ mid) (e ∷ []) back) ∙ ap (λ (l : List Event). l ++ back) (sym next) in
    let state : state_at script (front ++ (mid ++ e ∷ [])) ≡ after_event plain_node (state_at script (front ++ mid)) e = ap (state_at script) next ∙ state-both (start script) (front ++ mid) (e ∷ []) in
    (event-other script front mid back p body cut e is, subst (λ (s : HalfState NodeState). AllIssueOtherThere body s back) state (all-other script front p body cut back (mid ++ e ∷ []) events))

-- ---- at the cut

pub holds-at : (script : Script) (playable : IsHalfPlayable script) → (last_state script).deceived ≡ 0 → (lines : List Line) × Holds (setting_of script playable) (counted_over 0 script.events) (last_state script) lines
holds-at script playable none = (_, holds-events (setting_of script playable) (numbers_of script.ends) 0 script.events (start script) [] playable.events (let few = playable.commands in omega (arith, few)) (λ zero. holds-start script playable) none)

pub few-commands : (script : Script) → IsHalfPlayable script → counted_over 0 script.events ≤ 65535
few-commands script playable = rw (counted-within 0 script.events) (let few = playable.commands in omega (arith, few))

all-apart : (script : Script) → IsHalfPlayable script → (last_state script).deceived ≡ 0 → AreApart (commands_of_m script)
all-apart script playable none =
    let h = (holds-at script playable none).1 in
    let m = (last_state script).master in
    subst AreApart (bodies-all script) (are-apart m.host.initiator.tns (issued_of m) (subst (λ (n : ℕ). n ≤ 65535) (sym h.master.count_is) (few-commands script playable)) h.master.issues.initiates.numbered)

-- ---- the command that is over

over-there : (script : Script) (playable : IsHalfPlayable script) → (last_state script).deceived ≡ 0 → (place : ℕ) (side : LineStationState) → slice_get (last_state script).stations place ≡ Some side → (n : ℕ) (body : List ℕ) → IsOverTo (last_state script).master side n body
    → (p : ℕ) × (slice_get (bodies_at script script.events) p ≡ Some body)
    × StaysOverThere (record { place = place; number = side.number; numbers = numbers_of script.ends; distinct = are-distinct script.ends playable.ends; body = body }) (last_state script) []
over-there script playable none place side at zero body over = let no = over.is_command in absurd cc
over-there script playable none place side at (suc p) body over =
    let h = (holds-at script playable none).1 in
    let m = (last_state script).master in
    let number = numbered-at m.host.initiator.tns 0 (issued_of m) p over.standing h.master.issues.initiates.numbered over.is_command in
    let apart = are-apart m.host.initiator.tns (issued_of m) (subst (λ (n : ℕ). n ≤ 65535) (sym h.master.count_is) (few-commands script playable)) h.master.issues.initiates.numbered in (
      p,
      slice_get-map (λ (x : Issued). x.body) (issued_of m) p ∙ ap (option_map (λ (x : Issued). x.body)) over.is_command ∙ ap Some over.has_body,
      record {
        master = record {
          command = ap is_reply (sym over.has_body) ∙ number.1;
          free = free-of body m over.holds_not;
          gives = record {
            waits = one-waits-not (issued_of m) p over.standing body apart over.is_command over.has_body over.handed_out;
            replies = rw h.master.issues.replies tt;
          };
        };
        side = side;
        is_at = at;
        number_is = refl;
        none = none-of-all body side.to_it over.none_comes;
        numbers_are = h.numbers_are;
        untold = all-none body;
      },
    )

-- ---- for good

pub over-there-for-good : (script : Script) → IsHalfPlayable script → (last_state script).deceived ≡ 0 → IsOverThereForGood script
over-there-for-good script playable none front back is place side at n body over contains =
    let cut = with_events script front in
    let may = half-front script front back playable is in
    let honest = half-earlier (start script) front back (subst (λ (events : List Event). (state_after plain_node (start script) events).deceived ≡ 0) is none) in
    let there = over-there cut may honest place side at n body over in
    let known : Cut script front there.0 body = record { apart = all-apart script playable none; at = there.1 } in
    let seam : front ++ [] ≡ front = append-nil front in
    let events : script.events ≡ (front ++ []) ++ back = is ∙ ap (λ (l : List Event). l ++ back) (sym seam) in
    let apart = subst (λ (l : List Event). AllIssueOtherThere body (state_at script l) back) seam (all-other script front there.0 body known back [] events) in
    let s = state_at script front in
    let w : Watched = record { place = place; number = side.number; numbers = numbers_of cut.ends; distinct = are-distinct cut.ends may.ends; body = body } in
    let kept = kept-events w back s [] apart (λ zero. there.2) in
    let last : (state_after plain_node s back).deceived ≡ 0 = sym (ap (λ (x : HalfState NodeState). x.deceived) (state-both (start script) front back)) ∙ subst (λ (l : List Event). (state_after plain_node (start script) l).deceived ≡ 0) is none in
    not-told body (executed_in (S side.number) (lines_after plain_node s back)) (kept last).untold contains
