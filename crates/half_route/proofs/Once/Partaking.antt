-- A node that issues and executes commands, of which what waits may be dropped: what it handed out and accepted.
use Rattle.std.proofs.Common.{◌≡◌, ◌∙◌, ℕ, ◌<◌, Bool, true, false, cond, eqb, not, List, [], ◌∷◌, ◌++◌, drop, length, Some, is_some, refl, sym, ap, subst, append_assoc, append-nil}
use Rattle.std.specs.Prelude.{slice_get, slice_index}
use Rattle.std.specs.Int.{bit_at}
use Rattle.std.specs.List.{filter}
use Rattle.std.specs.Option.{option_or}
use Rattle.std.proofs.lemmas.List.Sums.{fold_push}
use Rattle.std.proofs.lemmas.Option.{same_Some}
use Rattle.df1_base.specs.declared.host.Fate.{Fate}
use Rattle.df1_base.specs.declared.host.Fate.TheVariants as fate
use Rattle.pccc_envelope.specs.Envelope.{is_reply}
use Rattle.df1_node.specs.declared.handed.Handed.{Handed}
use Rattle.df1_node.specs.Answer.{StationState, after_answer, reply_to}
use Rattle.df1_node.specs.Initiator.{next_command, after_reply, after_hand_out}
use Rattle.df1_node.specs.Node.{NodeState, next_body, next_handed, after_accept, after_next, after_told, after_tick, after_clear, after_node_issue}
use Rattle.each_once.specs.Commands.{is_command}
use Rattle.each_once.specs.Exchanges.{replies_to, station_after}
use Rattle.each_once.proofs.AnsweringStation.{within-through, within-both, replies-push, reply-of}
use Rattle.each_once.proofs.HandedOrder.{none-in-turn}
use Rattle.each_once.proofs.HandedOut.{AreHanded, AreNumbered, AreSettledBy, Initiates}
use Rattle.each_once.proofs.InitiatorSteps.{initiates-issue, initiates-heard, initiates-reply, initiates-told, initiates-tick, initiates-clear, initiates-hand_out, next-is-command}
use Rattle.each_once.proofs.Sublists.{IsWithin, nothing, within-all, within-front, within-has, get-seam, filter-keeps, filter-drops}

-- it executed the commands that it accepted, and its replies are handed out in their order, but for some that were dropped
pub record Partakes (first : StationState) (node : NodeState) (sent accepted : List (List ℕ)) : Type 0 where
  pub station : node.station ≡ station_after first (filter is_command accepted)
  pub replies : IsWithin (filter is_reply sent ++ node.replies) (replies_to first (filter is_command accepted))
  pub initiates : Initiates node.initiator (filter is_command sent) accepted

pub partakes-start : (first : StationState) (node : NodeState) → node.station ≡ first → node.replies ≡ [] → node.initiator.issued ≡ [] → Partakes first node [] []
partakes-start first node station replies issued =
    record {
      station = station;
      replies = subst (λ rs. IsWithin rs []) (sym replies) nothing;
      initiates = record {
        in_order = subst (λ cs. AreHanded cs []) (sym issued) none-in-turn;
        numbered = subst (λ cs. AreNumbered node.initiator.tns 0 cs) (sym issued) tt;
        settled = subst (λ cs. AreSettledBy [] cs) (sym issued) tt;
      };
    }

-- ---- a command that is issued, a fate, a tick, and what waits is dropped

pub partakes-issue : {first : StationState} {node : NodeState} {sent accepted : List (List ℕ)} (src dst : ℕ) (payload : List ℕ) → eqb (bit_at (slice_index payload 0) 6) 1 ≡ false → length node.initiator.issued < 65535
    → Partakes first node sent accepted → Partakes first (after_node_issue node src dst payload) sent accepted
partakes-issue {node = node} {sent = sent} {accepted = accepted} src dst payload is-no-reply few p = record {
  station = p.station;
  replies = p.replies;
  initiates = initiates-issue node.initiator src dst payload (filter is_command sent) accepted p.initiates is-no-reply few;
}

pub partakes-told : {first : StationState} {node : NodeState} {sent accepted : List (List ℕ)} (what : Fate) → Partakes first node sent accepted → Partakes first (after_told node what) sent accepted
partakes-told fate.Delivered p = record { station = p.station; replies = p.replies; initiates = p.initiates }
partakes-told {node = node} fate.Undelivered p = record { station = p.station; replies = p.replies; initiates = initiates-told p.initiates node.last }

pub partakes-tick : {first : StationState} {node : NodeState} {sent accepted : List (List ℕ)} → Partakes first node sent accepted → Partakes first (after_tick node) sent accepted
partakes-tick p = record { station = p.station; replies = p.replies; initiates = initiates-tick p.initiates }

-- the replies that were handed out are some of those that the station made
pub handed-replies : {first : StationState} {node : NodeState} {sent accepted : List (List ℕ)} → Partakes first node sent accepted → IsWithin (filter is_reply sent) (replies_to first (filter is_command accepted))
handed-replies {first} {node} {sent} {accepted} p =
    let replies = filter is_reply sent in
    within-through replies (replies ++ node.replies) (replies_to first (filter is_command accepted)) (within-front replies replies node.replies (within-all replies)) p.replies

pub partakes-clear : {first : StationState} {node : NodeState} {sent accepted : List (List ℕ)} → Partakes first node sent accepted → Partakes first (after_clear node) sent accepted
partakes-clear {first} {node} {sent} {accepted} p = record {
  station = p.station;
  replies = subst (λ rs. IsWithin rs (replies_to first (filter is_command accepted))) (sym (append-nil (filter is_reply sent))) (handed-replies p);
  initiates = initiates-clear p.initiates;
}

-- ---- a message that is accepted

takes : (first : StationState) (node : NodeState) (sent accepted : List (List ℕ)) (body : List ℕ) (reply : Bool) → is_reply body ≡ reply → Partakes first node sent accepted →
    Partakes first (record node {
      station = cond reply node.station (after_answer node.station body);
      replies = cond reply node.replies (node.replies ++ reply_to node.station body ∷ []);
      initiator = cond reply (after_reply node.initiator body) node.initiator;
    }) sent (accepted ++ body ∷ [])
takes first node sent accepted body true is p =
    let same = filter-drops is_command accepted body (ap not is) in
    record {
      station = p.station ∙ sym (ap (station_after first) same);
      replies = subst (λ bodies. IsWithin (filter is_reply sent ++ node.replies) (replies_to first bodies)) (sym same) p.replies;
      initiates = initiates-reply p.initiates body;
    }
takes first node sent accepted body false is p =
    let executed = filter is_command accepted in
    let more = filter-keeps is_command accepted body (ap not is) in
    let waiting = filter is_reply sent ++ node.replies in
    let reply = reply_to node.station body in
    record {
      station = ap (λ s. after_answer s body) p.station ∙ sym (fold_push after_answer first executed body) ∙ sym (ap (station_after first) more);
      replies = subst (λ bodies. IsWithin (filter is_reply sent ++ (node.replies ++ reply ∷ [])) (replies_to first bodies)) (sym more)
          (subst (λ rs. IsWithin rs (replies_to first (executed ++ body ∷ []))) (append_assoc (filter is_reply sent) node.replies (reply ∷ []))
          (subst (λ rs. IsWithin (waiting ++ reply ∷ []) rs) (sym (replies-push first executed body node.station p.station)) (within-both reply waiting (replies_to first executed) p.replies)));
      initiates = initiates-heard p.initiates body;
    }

pub partakes-accept : {first : StationState} {node : NodeState} {sent accepted : List (List ℕ)} (body : List ℕ) → Partakes first node sent accepted → Partakes first (after_accept node body) sent (accepted ++ body ∷ [])
partakes-accept {first} {node} {sent} {accepted} body p = takes first node sent accepted body (is_reply body) refl p

-- ---- a message that is handed out

-- what waits to be replied is a reply
waiting-reply : (first : StationState) (executed before : List (List ℕ)) (r : List ℕ) (rest : List (List ℕ)) → IsWithin (before ++ r ∷ rest) (replies_to first executed) → is_reply r ≡ true
waiting-reply first executed before r rest within = (reply-of first executed r (within-has (before ++ r ∷ rest) (replies_to first executed) r within (length before, get-seam before r rest))).is_a_reply

-- so is the next one of a node at which one waits
pub next-reply : {first : StationState} {node : NodeState} {sent accepted : List (List ℕ)} (r : List ℕ) (rs : List (List ℕ)) → node.replies ≡ r ∷ rs → Partakes first node sent accepted → is_reply r ≡ true
next-reply {first} {node} {sent} {accepted} r rs some p =
    waiting-reply first (filter is_command accepted) (filter is_reply sent) r rs (subst (λ xs. IsWithin (filter is_reply sent ++ xs) (replies_to first (filter is_command accepted))) some p.replies)

hands-out : (first : StationState) (node : NodeState) (sent accepted : List (List ℕ)) (body : List ℕ) (last : Handed) (replies : List (List ℕ)) → node.replies ≡ replies →
    option_or (slice_get replies 0) (next_command node.initiator) ≡ Some body → Partakes first node sent accepted →
    Partakes first (record node { replies = drop 1 replies; initiator = cond (is_some (slice_get replies 0)) node.initiator (after_hand_out node.initiator); last = last }) (sent ++ body ∷ []) accepted
hands-out first node sent accepted body last [] none next p =
    let command = next-is-command next p.initiates in
    record {
      station = p.station;
      replies = subst (λ rs. IsWithin rs (replies_to first (filter is_command accepted))) (ap (λ rs. filter is_reply sent ++ rs) none ∙ ap (λ xs. xs ++ []) (sym (filter-drops is_reply sent body command))) p.replies;
      initiates = subst (λ xs. Initiates (after_hand_out node.initiator) xs accepted) (sym (filter-keeps is_command sent body (ap not command))) (initiates-hand_out body next p.initiates);
    }
hands-out first node sent accepted body last (r ∷ rs) some next p =
    let before = filter is_reply sent in
    let executed = filter is_command accepted in
    let same : node.replies ≡ body ∷ rs = some ∙ ap (λ x. x ∷ rs) (same_Some r body next) in
    let waiting : IsWithin (before ++ body ∷ rs) (replies_to first executed) = subst (λ xs. IsWithin (before ++ xs) (replies_to first executed)) same p.replies in
    let reply = waiting-reply first executed before body rs waiting in
    record {
      station = p.station;
      replies = subst (λ xs. IsWithin xs (replies_to first executed)) (sym (append_assoc before (body ∷ []) rs) ∙ ap (λ xs. xs ++ rs) (sym (filter-keeps is_reply sent body reply))) waiting;
      initiates = subst (λ xs. Initiates node.initiator xs accepted) (sym (filter-drops is_command sent body (ap not reply))) p.initiates;
    }

pub partakes-next : {first : StationState} {node : NodeState} {sent accepted : List (List ℕ)} (body : List ℕ) → next_body node ≡ Some body → Partakes first node sent accepted
    → Partakes first (after_next node) (sent ++ body ∷ []) accepted
partakes-next {first} {node} {sent} {accepted} body next p = hands-out first node sent accepted body (next_handed node) node.replies refl next p
