-- An end of the line by itself: what its node handed out and accepted, and what is told of it; and what each step of the node leaves.
use Rattle.std.proofs.Common.{◌≡◌, ◌∙◌, ℕ, zero, suc, ◌<◌, ◌≤◌, Bool, true, false, cond, eqb, not, List, [], ◌∷◌, ◌++◌, length, Option, Some, None, is_some, option_map, refl, ap, sym, subst, inl, inr, arith, append-nil, length-append}
use Rattle.std.specs.Prelude.{slice_get, slice_index}
use Rattle.std.specs.Int.{bit_at}
use Rattle.std.specs.Option.{option_map_or, option_or}
use Rattle.std.specs.List.{filter}
use Rattle.std.proofs.lemmas.Bool.{and_parts}
use Rattle.std.proofs.lemmas.List.{map-append, length-map}
use Rattle.std.proofs.lemmas.Option.{same_Some, slice_get-map}
use Rattle.df1_base.specs.declared.host.Fate.{Fate}
use Rattle.pccc_envelope.specs.Envelope.{is_reply}
use Rattle.df1_node.specs.Answer.{StationState}
use Rattle.df1_node.specs.Initiator.{Issued, Standing, Waiting, Out, Undelivered, InitiatorState, is_waiting, restated, next_command, after_hand_out, answered_place, next_issued, all_cleared}
use Rattle.df1_node.specs.Node.{NodeState, next_body, news_told, did_accept, gone_unanswered, after_accept, after_next, after_told, after_tick, after_clear, after_node_issue}
use Rattle.df1_node.proofs.Final.{get-restated}
use Rattle.script_statement.specs.declared.who.Who.{Who}
use Rattle.replay_report.specs.declared.record.Line.{Line}
use Rattle.report_lines.specs.NodeLines.{did_lines, news_lines, gone_lines}
use Rattle.each_once.specs.Commands.{is_command, AreOutcomesTold}
use Rattle.each_once.specs.Tells.{is_who}
use Rattle.each_once.proofs.CommandBodies.{next-first, bodies-accept, bodies-after_told, bodies-after_tick, bodies-next, bodies-clear, bodies-hand_out}
use Rattle.each_once.proofs.ContinuedCommands.{continues-accept, continues-told, continues-tick, continues-next}
use Rattle.each_once.proofs.HandedOrder.{push-cases}
use Rattle.each_once.proofs.HandedOut.{bodies_of, Initiates, handed-at}
use Rattle.each_once.proofs.InitiatorSteps.{next-is-command}
use Rattle.each_once.proofs.KeptCommands.{is_given_up}
use Rattle.each_once.proofs.RisingPlaces.{are-apart}
use Rattle.each_once.specs.Exchanges.{replies_to}
use Rattle.each_once.proofs.AnsweringStation.{reply-of}
use Rattle.each_once.proofs.IssuedCommands.{same-accept, same-told, same-next}
use Rattle.each_once.proofs.StationReplies.{fits-fields}
use Rattle.each_once.proofs.Sublists.{Has, within-has, get-seam, same-some, filter-keeps, filter-drops}
use Rattle.each_once.proofs.ToldLines.{Stays, stays-same, silent-none}
use Rattle.each_once.proofs.ToldOutcomes.{same-or-other, outcomes-out}
use Rattle.half_line.proofs.Once.StationSteps.{Hands}
use Rattle.half_route.proofs.Once.Partaking.{Partakes, partakes-start, partakes-issue, partakes-told, partakes-tick, partakes-clear, partakes-accept, partakes-next, next-reply}
use Rattle.half_route.proofs.Once.QuietEnds.{IsQuiet}
use Rattle.half_route.proofs.Once.Shown.{AreShown, shown-at, shown-waiting, shown-cleared, shown-more, shown-restated}
use Rattle.half_route.proofs.Once.Telling.{Tells, IsLost, tells-start, tells-quiet, tells-moved, tells-told, tells-tick, tells-issue, tells-accept}

-- each of these bodies has it
abbrev pub AreAll : (List ℕ → Type 0) → List (List ℕ) → Type 0
AreAll Q bodies = (k : ℕ) (body : List ℕ) → slice_get bodies k ≡ Some body → Q body

pub all-push : (Q : List ℕ → Type 0) (bodies : List (List ℕ)) (body : List ℕ) → AreAll Q bodies → Q body → AreAll Q (bodies ++ body ∷ [])
all-push Q bodies body all is k other at = elim (push-cases bodies body k other at) [ inl old ↦ all k other old | inr new ↦ subst Q (sym new.1) is ]

-- an end: its name and address, its station before anything, and to which addresses it issues commands
pub record End : Type 0 where
  pub who : Who
  pub itself : is_who who who ≡ true
  pub address : ℕ
  pub first : StationState
  pub may : ℕ → Bool

-- by SRC, the second byte, and by DST, the first
abbrev pub IsFrom : ℕ → List ℕ → Type 0
IsFrom address body = slice_index body 1 ≡ address

abbrev pub IsTo : ℕ → List ℕ → Type 0
IsTo address body = slice_index body 0 ≡ address

-- a command that the end may issue
abbrev pub IsOwn : End → List ℕ → Type 0
IsOwn end body = IsFrom end.address body × (end.may (slice_index body 0) ≡ true)

-- the end accepted these messages, of which the commands are for it, and handed out those, in its own name
pub record EndHolds (end : End) (accepted : List (List ℕ)) (node : NodeState) (sent : List (List ℕ)) (lines : List Line) : Type 0 where
  pub partakes : Partakes end.first node sent accepted
  pub tells : Tells end.who (filter is_command sent) accepted node.initiator.issued lines
  pub node_is : node.initiator.node ≡ end.address
  pub own : AreAll (IsOwn end) (bodies_of node.initiator.issued)
  pub to_it : AreAll (IsTo end.address) (filter is_command accepted)
  pub from_it : AreAll (IsFrom end.address) sent
  pub few : length node.initiator.issued ≤ 65535

pub end-start : (end : End) (node : NodeState) → node.station ≡ end.first → node.replies ≡ [] → node.initiator.issued ≡ [] → node.initiator.node ≡ end.address → EndHolds end [] node [] []
end-start end node station replies issued is = record {
  partakes = partakes-start end.first node station replies issued;
  tells = tells-start end.who node.initiator.issued issued;
  node_is = is;
  own = subst (λ (cs : List Issued). AreAll (IsOwn end) (bodies_of cs)) (sym issued) (λ k body at. absurd cc);
  to_it = λ k body at. absurd cc;
  from_it = λ k body at. absurd cc;
  few = subst (λ (cs : List Issued). length cs ≤ 65535) (sym issued) (omega arith);
}

-- more lines, which tell nothing of it
pub end-quiet : {end : End} {accepted : List (List ℕ)} {node : NodeState} {sent : List (List ℕ)} {lines : List Line} (more : List Line) → IsQuiet end.who more
    → EndHolds end accepted node sent lines → EndHolds end accepted node sent (lines ++ more)
end-quiet more quiet e = record { partakes = e.partakes; tells = tells-quiet more quiet e.tells; node_is = e.node_is; own = e.own; to_it = e.to_it; from_it = e.from_it; few = e.few }

-- ---- a fate, a tick

pub end-told : {end : End} {accepted : List (List ℕ)} (node : NodeState) {sent : List (List ℕ)} {lines : List Line} (what : Fate)
    → EndHolds end accepted node sent lines → EndHolds end accepted (after_told node what) sent (lines ++ news_lines end.who (news_told node what))
end-told {end = end} node what e = record {
  partakes = partakes-told what e.partakes;
  tells = tells-told node end.itself what e.tells;
  node_is = (same-told what node).node ∙ e.node_is;
  own = subst (λ (bodies : List (List ℕ)). AreAll (IsOwn end) bodies) (sym (bodies-after_told node what)) e.own;
  to_it = e.to_it;
  from_it = e.from_it;
  few = subst (λ n. n ≤ 65535) (sym (continues-told node what).count) e.few;
}

pub end-tick : {end : End} {accepted : List (List ℕ)} (node : NodeState) {sent : List (List ℕ)} {lines : List Line}
    → EndHolds end accepted node sent lines → EndHolds end accepted (after_tick node) sent (lines ++ gone_lines end.who (gone_unanswered node))
end-tick {end = end} node e = record {
  partakes = partakes-tick e.partakes;
  tells = tells-tick node end.itself e.tells;
  node_is = e.node_is;
  own = subst (λ (bodies : List (List ℕ)). AreAll (IsOwn end) bodies) (sym (bodies-after_tick node)) e.own;
  to_it = e.to_it;
  from_it = e.from_it;
  few = subst (λ n. n ≤ 65535) (sym (continues-tick node).count) e.few;
}

-- ---- a command is issued

pub end-issue : {end : End} {accepted : List (List ℕ)} (node : NodeState) {sent : List (List ℕ)} {lines : List Line} (src dst : ℕ) (payload : List ℕ)
    → eqb (bit_at (slice_index payload 0) 6) 1 ≡ false → length node.initiator.issued < 65535 → src ≡ end.address → end.may dst ≡ true
    → EndHolds end accepted node sent lines → EndHolds end accepted (after_node_issue node src dst payload) sent lines
end-issue {end = end} node src dst payload no-reply few named may e =
    let issued = node.initiator.issued in
    let body = next_issued node.initiator src dst payload in
    let new : Issued = record { body = body; standing = Waiting } in
    let count = length-append issued (new ∷ []) in
    record {
      partakes = partakes-issue src dst payload no-reply few e.partakes;
      tells = tells-issue body e.tells;
      node_is = e.node_is;
      own = subst (λ (bodies : List (List ℕ)). AreAll (IsOwn end) bodies) (sym (map-append (λ (c : Issued). c.body) issued (new ∷ []))) (all-push (IsOwn end) (bodies_of issued) body e.own (named, may));
      to_it = e.to_it;
      from_it = e.from_it;
      few = omega (arith, count, few);
    }

-- ---- a message is accepted

accepts-to : (address : ℕ) (accepted : List (List ℕ)) (body : List ℕ) (reply : Bool) → is_reply body ≡ reply → (is_reply body ≡ false → IsTo address body) → AreAll (IsTo address) (filter is_command accepted)
    → AreAll (IsTo address) (filter is_command (accepted ++ body ∷ []))
accepts-to address accepted body true is to all = rw (filter-drops is_command accepted body (ap not is)) all
accepts-to address accepted body false is to all = rw (filter-keeps is_command accepted body (ap not is)) (all-push (IsTo address) (filter is_command accepted) body all (to is))

pub end-accept : {end : End} {accepted : List (List ℕ)} (node : NodeState) {sent : List (List ℕ)} {lines : List Line} (body : List ℕ) → (is_reply body ≡ false → IsTo end.address body)
    → (is_reply body ≡ true → answered_place node.initiator.issued body ≡ None → IsLost (filter is_command sent) node.initiator.issued body) → EndHolds end accepted node sent lines
    → EndHolds end (accepted ++ body ∷ []) (after_accept node body) sent (lines ++ did_lines end.who (Some (did_accept node body)) body)
end-accept {end = end} {accepted = accepted} node body to lost e = record {
  partakes = partakes-accept body e.partakes;
  tells = tells-accept node end.itself body lost e.tells;
  node_is = (same-accept node body).node ∙ e.node_is;
  own = subst (λ (bodies : List (List ℕ)). AreAll (IsOwn end) bodies) (sym (bodies-accept node body)) e.own;
  to_it = accepts-to end.address accepted body (is_reply body) refl to e.to_it;
  from_it = e.from_it;
  few = subst (λ n. n ≤ 65535) (sym (continues-accept node body).count) e.few;
}

-- ---- what waits is dropped

-- a command of one body stands at one place
one-body : (s : InitiatorState) (handed heard : List (List ℕ)) → Initiates s handed heard → length s.issued ≤ 65535 → (p q : ℕ) (c d : Issued) → slice_get s.issued p ≡ Some c → slice_get s.issued q ≡ Some d → c.body ≡ d.body → c ≡ d
one-body s handed heard i few p q c d at-p at-q same =
    let body-at : (k : ℕ) (x : Issued) → slice_get s.issued k ≡ Some x → slice_get (bodies_of s.issued) k ≡ Some x.body = λ k x at. slice_get-map (λ (y : Issued). y.body) s.issued k ∙ ap (option_map (λ (y : Issued). y.body)) at in
    let place = are-apart s.tns s.issued few i.numbered p q d.body (body-at p c at-p ∙ ap Some same) (body-at q d at-q) in
    same-some c d (sym at-p ∙ ap (slice_get s.issued) place ∙ at-q)

-- what waits wasn't handed out
waits-unhanded : (s : InitiatorState) (handed heard : List (List ℕ)) → Initiates s handed heard → length s.issued ≤ 65535 → (k : ℕ) (c : Issued) → slice_get s.issued k ≡ Some c → is_waiting c.standing ≡ true → Has handed c.body → ⊥
waits-unhanded s handed heard i few k c at waits has =
    let other = handed-at s.issued handed has.0 c.body i.in_order has.1 in
    let same = one-body s handed heard i few k other.0 c other.1 at other.2 (sym other.3) in
    let no : true ≡ false = sym waits ∙ ap (λ (x : Issued). is_waiting x.standing) same ∙ other.4 in
    absurd cc

end-clear : {end : End} {accepted : List (List ℕ)} (node : NodeState) {sent : List (List ℕ)} {lines : List Line}
    → EndHolds end accepted node sent lines → EndHolds end accepted (after_clear node) sent lines
end-clear {end = end} {accepted = accepted} node {sent = sent} {lines = lines} e =
    let who = end.who in
    let issued = node.initiator.issued in
    let commands = filter is_command sent in
    let bodies = bodies-clear issued in
    let cleared = shown-cleared commands issued e.tells.shown (waits-unhanded node.initiator commands accepted e.partakes.initiates e.few) e.tells.are_shown in
    let count : length (all_cleared issued) ≡ length issued = sym (length-map (all_cleared issued) (λ (c : Issued). c.body)) ∙ ap length bodies ∙ length-map issued (λ (c : Issued). c.body) in
    record {
      partakes = partakes-clear e.partakes;
      tells = subst (λ (all : List Line). Tells who commands accepted (all_cleared issued) all) (append-nil lines)
          (tells-moved e.tells (all_cleared issued) e.tells.shown [] cleared (subst (λ (all : List Line). AreOutcomesTold who e.tells.shown all) (sym (append-nil lines)) e.tells.outcomes) bodies (stays-same e.tells.shown) (silent-none who who));
      node_is = e.node_is;
      own = subst (λ (all : List (List ℕ)). AreAll (IsOwn end) all) (sym bodies) e.own;
      to_it = e.to_it;
      from_it = e.from_it;
      few = subst (λ n. n ≤ 65535) (sym count) e.few;
    }

-- ---- a message is handed out

restated-at : (cs : List Issued) (place : ℕ) (c : Issued) (standing : Standing) → slice_get cs place ≡ Some c → slice_get (restated cs place standing) place ≡ Some (record { body = c.body; standing = standing })
restated-at [] place c standing at = absurd cc
restated-at (x ∷ cs) zero c standing at = let now : Issued → Option Issued = λ y. Some (record { body = y.body; standing = standing }) in ap now (same-some x c at)
restated-at (x ∷ cs) (suc place) c standing at = restated-at cs place c standing at

-- what waits wasn't given up
waiting-up : (standing : Standing) → is_waiting standing ≡ true → is_given_up standing ≡ true → ⊥
waiting-up Waiting waits up = cc
waiting-up _ waits up = cc

stays-handed : (cs : List Issued) (place : ℕ) (c : Issued) (standing : Standing) → slice_get cs place ≡ Some c → is_waiting c.standing ≡ true → Stays cs (restated cs place standing)
stays-handed cs place c standing at waits k x is = elim (same-or-other k place) [
  | inl same ↦
      let here : x ≡ c = same-some x c (sym is ∙ ap (slice_get cs) same ∙ at) in (
        record { body = c.body; standing = standing },
        ap (slice_get (restated cs place standing)) same ∙ restated-at cs place c standing at,
        ap (λ (y : Issued). y.body) (sym here),
        λ up. absurd (waiting-up c.standing waits (ap (λ (y : Issued). is_given_up y.standing) (sym here) ∙ up)),
      )
  | inr other ↦ (x, get-restated cs place k standing (λ e. other (sym e)) ∙ is, refl, λ up. refl)
]

waiting-undelivered : (standing : Standing) → is_waiting standing ≡ true → standing ≡ Undelivered → ⊥
waiting-undelivered standing waits is = let no : is_waiting Undelivered ≡ true = ap is_waiting (sym is) ∙ waits in absurd cc

-- the next command
tells-hand_out : {who : Who} {commands accepted : List (List ℕ)} {lines : List Line} (s : InitiatorState) (body : List ℕ) → next_command s ≡ Some body → Initiates s commands accepted → length s.issued ≤ 65535
    → Tells who commands accepted s.issued lines → Tells who (commands ++ body ∷ []) accepted (after_hand_out s).issued lines
tells-hand_out {who} {commands} {accepted} {lines} s body next i few t =
    let found = next-first s body next in
    let first = found.0 in
    let waits = (and_parts _ _ first.passes).0 in
    let standing = Out s.reply_ticks in
    let shown = shown-at commands s.issued t.shown first.place first.command t.are_shown first.is_at in
    let shown_waits = shown-waiting commands first.command shown.0 shown.2 waits in
    let other : (k : ℕ) (c : Issued) → slice_get s.issued k ≡ Some c → c.standing ≡ Undelivered → c.body ≡ body → ⊥ = λ k c at up same.
    let alike = one-body s commands accepted i few k first.place c first.command at first.is_at (same ∙ sym first.has_body) in
    waiting-undelivered first.command.standing waits (ap (λ (x : Issued). x.standing) (sym alike) ∙ up) in
    let now : (after_hand_out s).issued ≡ restated s.issued first.place standing = ap (λ (place : Option ℕ). option_map_or (λ p. restated s.issued p standing) place s.issued) found.1 in
    let moved : Tells who (commands ++ body ∷ []) accepted (after_hand_out s).issued (lines ++ []) =
    tells-moved t (after_hand_out s).issued (restated t.shown first.place standing) []
    (subst (λ (cs : List Issued). AreShown (commands ++ body ∷ []) cs (restated t.shown first.place standing)) (sym now)
    (shown-restated (commands ++ body ∷ []) s.issued t.shown first.place standing (shown-more commands body s.issued t.shown other t.are_shown)))
    (subst (λ (all : List Line). AreOutcomesTold who (restated t.shown first.place standing) all) (sym (append-nil lines))
    (outcomes-out who t.shown s.reply_ticks (Some first.place) lines (λ p is. (shown.0, ap (slice_get t.shown) (sym (same-some first.place p is)) ∙ shown.1, shown_waits)) t.outcomes))
    (bodies-hand_out s) (stays-handed t.shown first.place shown.0 standing shown.1 shown_waits) (silent-none who who) in
    subst (λ (all : List Line). Tells who (commands ++ body ∷ []) accepted (after_hand_out s).issued all) (append-nil lines) moved

tells-next : {who : Who} {accepted : List (List ℕ)} {lines : List Line} (sent : List (List ℕ)) (s : InitiatorState) (body : List ℕ) (replies : List (List ℕ)) → option_or (slice_get replies 0) (next_command s) ≡ Some body
    → ((r : List ℕ) (rs : List (List ℕ)) → replies ≡ r ∷ rs → is_reply r ≡ true) → Initiates s (filter is_command sent) accepted → length s.issued ≤ 65535
    → Tells who (filter is_command sent) accepted s.issued lines → Tells who (filter is_command (sent ++ body ∷ [])) accepted (cond (is_some (slice_get replies 0)) s (after_hand_out s)).issued lines
tells-next {who} {accepted} {lines} sent s body [] next replied i few t =
    subst (λ commands. Tells who commands accepted (after_hand_out s).issued lines) (sym (filter-keeps is_command sent body (ap not (next-is-command next i)))) (tells-hand_out s body next i few t)
tells-next {who} {accepted} {lines} sent s body (r ∷ rs) next replied i few t =
    let reply : is_reply body ≡ true = ap is_reply (sym (same_Some r body next)) ∙ replied r rs refl in
    subst (λ commands. Tells who commands accepted s.issued lines) (sym (filter-drops is_command sent body (ap not reply))) t

-- it is in the end's own name: a command as it was issued, and a reply as it is to a command for this end
next-by : {end : End} {accepted : List (List ℕ)} (node : NodeState) {sent : List (List ℕ)} {lines : List Line} (body : List ℕ) (replies : List (List ℕ)) → node.replies ≡ replies → option_or (slice_get replies 0) (next_command node.initiator) ≡ Some body
    → EndHolds end accepted node sent lines → IsFrom end.address body
next-by node body [] none next e =
    let first = (next-first node.initiator body next).0 in
    subst (IsFrom _) first.has_body (e.own first.place first.command.body (slice_get-map (λ (c : Issued). c.body) node.initiator.issued first.place ∙ ap (option_map (λ (c : Issued). c.body)) first.is_at)).0
next-by {end = end} {accepted = accepted} node {sent = sent} body (r ∷ rs) some next e =
    let executed = filter is_command accepted in
    let before = filter is_reply sent in
    let waits : Has (before ++ node.replies) r = (length before, ap (λ xs. slice_get (before ++ xs) (length before)) some ∙ get-seam before r rs) in
    let replies = reply-of end.first executed r (within-has (before ++ node.replies) (replies_to end.first executed) r e.partakes.replies waits) in
    let from : IsFrom end.address r = (fits-fields replies.body r replies.fits).2 ∙ e.to_it replies.place replies.body replies.is_executed in
    subst (IsFrom end.address) (same_Some r body next) from

next-from : {end : End} {accepted : List (List ℕ)} (node : NodeState) {sent : List (List ℕ)} {lines : List Line} (body : List ℕ) → next_body node ≡ Some body → EndHolds end accepted node sent lines → IsFrom end.address body
next-from node body next e = next-by node body node.replies refl next e

pub end-next : {end : End} {accepted : List (List ℕ)} (node : NodeState) {sent : List (List ℕ)} {lines : List Line} (body : List ℕ) → next_body node ≡ Some body
    → EndHolds end accepted node sent lines → EndHolds end accepted (after_next node) (sent ++ body ∷ []) lines
end-next {end = end} node {sent = sent} body next e = record {
  partakes = partakes-next body next e.partakes;
  node_is = (same-next node).node ∙ e.node_is;
  tells = tells-next sent node.initiator body node.replies next (λ r rs is. next-reply r rs is e.partakes) e.partakes.initiates e.few e.tells;
  own = subst (λ (bodies : List (List ℕ)). AreAll (IsOwn end) bodies) (sym (bodies-next node)) e.own;
  to_it = e.to_it;
  from_it = all-push (IsFrom end.address) sent body e.from_it (next-from node body next e);
  few = subst (λ n. n ≤ 65535) (sym (continues-next node).count) e.few;
}

-- ---- over whatever a slave does with its node, but for what is accepted

pub end-hands : (end : End) (accepted : List (List ℕ)) → Hands end.who (EndHolds end accepted)
end-hands end accepted = record {
  told = λ node messages lines what e. end-told node what e;
  next = λ node messages lines body is e. end-next node body is e;
  clear = λ node messages lines e. end-clear node e;
}
