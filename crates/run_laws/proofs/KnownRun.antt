-- In a full-duplex run in which no end is deceived the commands of each node are known at each event, and so what its signals leave of an end holds.
use Rattle.std.proofs.Common.{◌≡◌, ◌∙◌, ℕ, List, [], ◌∷◌, ◌++◌, map, Option, Some, slice_get, refl, sym, ap, subst, append-nil, append_assoc}
use Rattle.std.specs.Prelude.{IsTrue, All, unwrap_or}
use Rattle.std.specs.List.{filter}
use Rattle.std.proofs.lemmas.List.Elements.{All-head}
use Rattle.df1_node.specs.Answer.{StationState}
use Rattle.df1_node.specs.Initiator.{Issued}
use Rattle.df1_node.specs.Node.{NodeState, after_node_issue}
use Rattle.duplex_end.specs.End.{EndState, with_host}
use Rattle.duplex_line.specs.Acts.{LineState}
use Rattle.duplex_line.specs.Run.{start, who_of, other, seen_from, after_event, state_after, last_state}
use Rattle.duplex_line.proofs.Once.Arrivals.{end-of}
use Rattle.duplex_line.proofs.Once.Invariant.{Holds}
use Rattle.each_once.proofs.HandedOut.{is_command, numbered-at}
use Rattle.each_once.proofs.RisingPlaces.{are-apart}
use Rattle.each_once.proofs.Sublists.{from-map}
use Rattle.pccc_envelope.specs.Envelope.{is_reply}
use Rattle.replay_report.specs.declared.record.Line.{Line}
use Rattle.script_parts.specs.declared.script.Event.{Event}
use Rattle.script_parts.specs.declared.script.Event.TheVariants as event
use Rattle.script_parts.specs.declared.script.Script.{Script}
use Rattle.script_parts.specs.Playable.{IsPlayable, IsPossible, is_end}
use Rattle.script_statement.specs.declared.who.Who.{Who}
use Rattle.script_statement.specs.declared.who.Who.TheVariants.{A, B, M, S}
use Rattle.run_laws.specs.NotHeld.{AtTicksIn}
use Rattle.run_laws.proofs.EndWalk.{EndKeeps, IssueKeeps, end-event}
use Rattle.run_laws.proofs.KnownNode.{Known}
use Rattle.run_laws.proofs.OverAtCut.{all-back, holds-at, state-both}
use Rattle.run_laws.proofs.OverNode.{AreReplies, replies-of, replies-behind}

-- what holds at each point of the run gives what is known of a node
pub known-of : (near far : Who) (first far_first : StationState) (s : LineState) (lines : List Line) → Holds near far first far_first s lines → Known s.a.end.host
known-of near far first far_first s lines h =
    let i = s.a.end.host.initiator in
    record {
      apart = are-apart i.tns i.issued h.few h.hosts.initiates.numbered;
      plain = λ p body at.
          let c = from-map (λ (x : Issued). x.body) i.issued p body at in
          ap is_reply (sym c.2) ∙ (numbered-at i.tns 0 i.issued p c.0 h.hosts.initiates.numbered c.1).1;
      replies = replies-behind (filter is_reply h.sent) s.a.end.host.replies (subst AreReplies h.hosts.replies (replies-of first (filter is_command h.heard)));
    }

abbrev state_at : Who → Script → List Event → LineState
state_at near script events = seen_from near (state_after (start script) events)

known-at : (near : Who) → IsTrue (is_end near) → (script : Script) → IsPlayable script → (last_state script).deceived ≡ 0 → (front back : List Event) → script.events ≡ front ++ back → Known (state_at near script front).a.end.host
known-at near end script playable none front back is = let at = holds-at near end script playable none front back is in known-of near (other near) at.0 at.1 (state_at near script front) at.2 at.3

-- an issue leaves it where what is known of the node stays known
abbrev pub KeptByIssue : (EndState NodeState → Type 0) → Type 0
KeptByIssue P = (e : EndState NodeState) (src dst : ℕ) (payload : List ℕ) → Known (after_node_issue e.host src dst payload) → P e → P (with_host e (after_node_issue e.host src dst payload))

seen-issue : (P : EndState NodeState → Type 0) → KeptByIssue P → (near : Who) → IsTrue (is_end near) → (s : LineState) (src : Option ℕ) (dst : ℕ) (payload : List ℕ) → Known (seen_from near (after_event s (event.Issue near src dst payload))).a.end.host
    → IssueKeeps P (seen_from near s).a.end (event.Issue near src dst payload)
seen-issue P issues A end s src dst payload known = λ p. issues s.a.end (unwrap_or src s.a.end.host.initiator.node) dst payload known p
seen-issue P issues B end s src dst payload known = λ p. issues s.b.end (unwrap_or src s.b.end.host.initiator.node) dst payload known p
seen-issue P issues M end s src dst payload known = absurd cc
seen-issue P issues (S station) end s src dst payload known = absurd cc

event-keeps : (P : EndState NodeState → Type 0) → KeptByIssue P → (near : Who) → IsTrue (is_end near) → (s : LineState) (e : Event) → Known (seen_from near (after_event s e)).a.end.host → who_of e ≡ near → IssueKeeps P (seen_from near s).a.end e
event-keeps P issues near end s (event.Issue who src dst payload) known is =
    subst (λ (w : Who). Known (seen_from near (after_event s (event.Issue w src dst payload))).a.end.host → IssueKeeps P (seen_from near s).a.end (event.Issue w src dst payload)) (sym is) (seen-issue P issues near end s src dst payload) known
event-keeps P issues near end s (event.Take who n) known is = tt
event-keeps P issues near end s (event.Deliver lane n) known is = tt
event-keeps P issues near end s (event.Lose lane n) known is = tt
event-keeps P issues near end s (event.Alter lane mask) known is = tt
event-keeps P issues near end s (event.Foreign lane bytes) known is = tt
event-keeps P issues near end s (event.Tick who n) known is = tt

-- what is known of the first node
pub known-first : (node : NodeState) → node.initiator.issued ≡ [] → node.replies ≡ [] → Known node
known-first node issued replies = record {
  apart = λ p q body at. absurd (let no : slice_get (map (λ (c : Issued). c.body) []) p ≡ Some body = ap (λ (cs : List Issued). slice_get (map (λ (c : Issued). c.body) cs) p) (sym issued) ∙ at in cc);
  plain = λ p body at. absurd (let no : slice_get (map (λ (c : Issued). c.body) []) p ≡ Some body = ap (λ (cs : List Issued). slice_get (map (λ (c : Issued). c.body) cs) p) (sym issued) ∙ at in cc);
  replies = rw replies tt;
}

-- the events of the front, one after another
pub end-at : (D P : EndState NodeState → Type 0) → EndKeeps D P → KeptByIssue P → (near : Who) → IsTrue (is_end near) → (script : Script) → IsPlayable script → (last_state script).deceived ≡ 0 → (front mid back : List Event) → script.events ≡ (front ++ mid) ++ back
    → AtTicksIn D near (state_after (start script) front) mid → P (state_at near script front).a.end → P (state_at near script (front ++ mid)).a.end
end-at D P keeps issues near end script playable none front [] back is ticks p = subst (λ (l : List Event). P (state_at near script l).a.end) (sym (append-nil front)) p
end-at D P keeps issues near end script playable none front (e ∷ mid) back is ticks p =
    let seam : front ++ e ∷ mid ≡ (front ++ e ∷ []) ++ mid = sym (append_assoc front (e ∷ []) mid) in
    let events : script.events ≡ ((front ++ e ∷ []) ++ mid) ++ back = is ∙ ap (λ (l : List Event). l ++ back) seam in
    let s = state_after (start script) front in
    let next : state_after (start script) (front ++ e ∷ []) ≡ after_event s e = state-both (start script) front (e ∷ []) in
    let known = subst (λ (t : LineState). Known (seen_from near t).a.end.host) next (known-at near end script playable none (front ++ e ∷ []) (mid ++ back) (events ∙ append_assoc (front ++ e ∷ []) mid back)) in
    let possible = All-head IsPossible e (mid ++ back) (all-back IsPossible front (e ∷ mid ++ back) (subst (All IsPossible) (is ∙ append_assoc front (e ∷ mid) back) playable.events)) in
    let now = end-event D P keeps near (who_of e) end (end-of e possible) s e refl (event-keeps P issues near end s e known) ticks.0 p in
    subst (λ (l : List Event). P (state_at near script l).a.end) (sym seam)
    (end-at D P keeps issues near end script playable none (front ++ e ∷ []) mid back events (subst (λ (t : LineState). AtTicksIn D near t mid) (sym next) ticks.1) (subst (λ (t : LineState). P (seen_from near t).a.end) (sym next) now))
