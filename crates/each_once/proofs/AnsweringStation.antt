-- A node that issues no command: its station executes what it accepts, and it hands out replies alone, some of those that the station made, in their order.
use Rattle.std.proofs.Common.{◌≡◌, ◌∙◌, ℕ, Bool, true, false, cond, List, [], ◌∷◌, ◌++◌, drop, map, Some, is_some, option_map, refl, sym, ap, subst, append_assoc, append-nil}
use Rattle.std.specs.Prelude.{slice_get}
use Rattle.std.specs.Option.{option_or}
use Rattle.std.proofs.lemmas.List.{map-append}
use Rattle.std.proofs.lemmas.List.Sums.{fold_push}
use Rattle.std.proofs.lemmas.Option.{same_Some, slice_get-map}
use Rattle.df1_base.specs.declared.host.Fate.{Fate}
use Rattle.df1_base.specs.declared.host.Fate.TheVariants as fate
use Rattle.pccc_envelope.specs.Envelope.{is_reply}
use Rattle.df1_node.specs.declared.handed.Handed.{Handed}
use Rattle.df1_node.specs.Answer.{StationState, after_answer, reply_to}
use Rattle.df1_node.specs.Initiator.{Issued, InitiatorState, is_reply_to, next_command, after_reply, after_hand_out, all_cleared}
use Rattle.df1_node.specs.Node.{NodeState, next_body, next_handed, after_accept, after_next, after_told, after_clear}
use Rattle.each_once.specs.Exchanges.{exchanges, station_after}
pub use Rattle.each_once.specs.Exchanges.{replies_to}
use Rattle.each_once.proofs.StationReplies.{exchanges-push, exchanges-bodies, exchange-fits}
use Rattle.each_once.proofs.CommandBodies.{bodies-told, next-first}
use Rattle.each_once.proofs.Sublists.{IsWithin, nothing, skips, keeps, within-all, within-front, within-has, Has, from-map}

-- ---- lists within lists

pub within-through : {A : Type 0} (xs ys zs : List A) → IsWithin xs ys → IsWithin ys zs → IsWithin xs zs
within-through xs _ _ h nothing = h
within-through xs _ _ h (skips z ys zs g) = skips z xs zs (within-through xs ys zs h g)
within-through _ _ _ (skips _ xs _ h) (keeps y ys zs g) = skips y xs zs (within-through xs ys zs h g)
within-through _ _ _ (keeps _ xs _ h) (keeps y ys zs g) = keeps y xs zs (within-through xs ys zs h g)

-- an element more at the end of both
pub within-both : {A : Type 0} (x : A) (xs ys : List A) → IsWithin xs ys → IsWithin (xs ++ x ∷ []) (ys ++ x ∷ [])
within-both x _ _ nothing = keeps x [] [] nothing
within-both x _ _ (skips y xs ys h) = skips y (xs ++ x ∷ []) (ys ++ x ∷ []) (within-both x xs ys h)
within-both x _ _ (keeps y xs ys h) = keeps y (xs ++ x ∷ []) (ys ++ x ∷ []) (within-both x xs ys h)

-- ---- what such a node keeps to

pub record Serves (first : StationState) (node : NodeState) (executed sent : List (List ℕ)) : Type 0 where
  pub station : node.station ≡ station_after first executed
  pub replies : IsWithin (sent ++ node.replies) (replies_to first executed)
  pub issues_none : node.initiator.issued ≡ []

pub serves-start : (first : StationState) (node : NodeState) → node.station ≡ first → node.replies ≡ [] → node.initiator.issued ≡ [] → Serves first node [] []
serves-start first node station replies issued = record { station = station; replies = subst (λ rs. IsWithin rs []) (sym replies) nothing; issues_none = issued }

-- ---- a command that is executed

pub replies-push : (first : StationState) (executed : List (List ℕ)) (body : List ℕ) (station : StationState) → station ≡ station_after first executed
    → replies_to first (executed ++ body ∷ []) ≡ replies_to first executed ++ reply_to station body ∷ []
replies-push first executed body station is =
    ap (map (λ x. x.1)) (exchanges-push first executed body)
    ∙ map-append (λ x. x.1) (exchanges first executed) _
    ∙ ap (λ s. replies_to first executed ++ reply_to s body ∷ []) (sym is)

served : (first : StationState) (node : NodeState) (executed sent : List (List ℕ)) (body : List ℕ) (reply : Bool) → reply ≡ false → Serves first node executed sent →
    Serves first (record node {
      station = cond reply node.station (after_answer node.station body);
      replies = cond reply node.replies (node.replies ++ reply_to node.station body ∷ []);
      initiator = cond reply (after_reply node.initiator body) node.initiator;
    }) (executed ++ body ∷ []) sent
served first node executed sent body true is h = absurd cc
served first node executed sent body false is h =
    let reply = reply_to node.station body in
    record {
      station = ap (λ s. after_answer s body) h.station ∙ sym (fold_push after_answer first executed body);
      replies = subst (λ rs. IsWithin rs (replies_to first (executed ++ body ∷ []))) (append_assoc sent node.replies (reply ∷ []))
          (subst (λ rs. IsWithin ((sent ++ node.replies) ++ reply ∷ []) rs) (sym (replies-push first executed body node.station h.station)) (within-both reply (sent ++ node.replies) (replies_to first executed) h.replies));
      issues_none = h.issues_none;
    }

pub serves-accept : {first : StationState} {node : NodeState} {executed sent : List (List ℕ)} (body : List ℕ) → is_reply body ≡ false → Serves first node executed sent → Serves first (after_accept node body) (executed ++ body ∷ []) sent
serves-accept {first} {node} {executed} {sent} body is h = served first node executed sent body (is_reply body) is h

-- a reply changes nothing of it
still-served : (first : StationState) (node : NodeState) (executed sent : List (List ℕ)) (body : List ℕ) (reply : Bool) → reply ≡ true → Serves first node executed sent →
    Serves first (record node {
      station = cond reply node.station (after_answer node.station body);
      replies = cond reply node.replies (node.replies ++ reply_to node.station body ∷ []);
      initiator = cond reply (after_reply node.initiator body) node.initiator;
    }) executed sent
still-served first node executed sent body true is h =
    let left : List Issued → List Issued = λ (cs : List Issued). (after_reply (record node.initiator { issued = cs }) body).issued in
    record { station = h.station; replies = h.replies; issues_none = ap left h.issues_none }
still-served first node executed sent body false is h = absurd cc

pub serves-reply : {first : StationState} {node : NodeState} {executed sent : List (List ℕ)} (body : List ℕ) → is_reply body ≡ true → Serves first node executed sent → Serves first (after_accept node body) executed sent
serves-reply {first} {node} {executed} {sent} body is h = still-served first node executed sent body (is_reply body) is h

-- ---- a reply that is handed out

-- where no command was issued, none is next
none-next : (s : InitiatorState) (body : List ℕ) → s.issued ≡ [] → next_command s ≡ Some body → ⊥
none-next s body none next =
    let first = (next-first s body next).0 in
    let at : slice_get [] first.place ≡ Some first.command = sym (ap (λ (cs : List Issued). slice_get cs first.place) none) ∙ first.is_at in
    absurd cc

handed-out : (first : StationState) (node : NodeState) (executed sent : List (List ℕ)) (body : List ℕ) (last : Handed) (replies : List (List ℕ)) → node.replies ≡ replies →
    option_or (slice_get replies 0) (next_command node.initiator) ≡ Some body → Serves first node executed sent →
    Serves first (record node { replies = drop 1 replies; initiator = cond (is_some (slice_get replies 0)) node.initiator (after_hand_out node.initiator); last = last }) executed (sent ++ body ∷ [])
handed-out first node executed sent body last [] none next h = absurd (none-next node.initiator body h.issues_none next)
handed-out first node executed sent body last (r ∷ rs) some next h =
    let same : node.replies ≡ body ∷ rs = some ∙ ap (λ x. x ∷ rs) (same_Some r body next) in
    record {
      station = h.station;
      replies = subst (λ xs. IsWithin xs (replies_to first executed)) (ap (λ xs. sent ++ xs) same ∙ sym (append_assoc sent (body ∷ []) rs)) h.replies;
      issues_none = h.issues_none;
    }

pub serves-next : {first : StationState} {node : NodeState} {executed sent : List (List ℕ)} (body : List ℕ) → next_body node ≡ Some body → Serves first node executed sent → Serves first (after_next node) executed (sent ++ body ∷ [])
serves-next {first} {node} {executed} {sent} body next h = handed-out first node executed sent body (next_handed node) node.replies refl next h

-- ---- a fate, and what waits is dropped

none-left : (cs : List Issued) → map (λ c. c.body) cs ≡ [] → cs ≡ []
none-left [] none = refl
none-left (c ∷ cs) none = absurd cc

pub serves-told : {first : StationState} {node : NodeState} {executed sent : List (List ℕ)} (what : Fate) → Serves first node executed sent → Serves first (after_told node what) executed sent
serves-told fate.Delivered h = record { station = h.station; replies = h.replies; issues_none = h.issues_none }
serves-told {node = node} fate.Undelivered h = record {
  station = h.station;
  replies = h.replies;
  issues_none = none-left _ (bodies-told node.initiator node.last ∙ ap (map (λ c. c.body)) h.issues_none);
}

pub serves-clear : {first : StationState} {node : NodeState} {executed sent : List (List ℕ)} → Serves first node executed sent → Serves first (after_clear node) executed sent
serves-clear {first} {node} {executed} {sent} h = record {
  station = h.station;
  replies = subst (λ xs. IsWithin xs (replies_to first executed)) (sym (append-nil sent)) (within-through sent (sent ++ node.replies) (replies_to first executed) (within-front sent sent node.replies (within-all sent)) h.replies);
  issues_none = ap all_cleared h.issues_none;
}

-- ---- what was handed out

-- the replies that were handed out are some of those that the station made
pub sent-within : {first : StationState} {node : NodeState} {executed sent : List (List ℕ)} → Serves first node executed sent → IsWithin sent (replies_to first executed)
sent-within {first} {node} {executed} {sent} h = within-through sent (sent ++ node.replies) (replies_to first executed) (within-front sent sent node.replies (within-all sent)) h.replies

-- the reply at a place is to the command there
pub record RepliesAt (first : StationState) (executed : List (List ℕ)) (place : ℕ) (reply : List ℕ) : Type 0 where
  pub body : List ℕ
  pub exchanged : slice_get (exchanges first executed) place ≡ Some (body, reply)
  pub is_executed : slice_get executed place ≡ Some body
  pub fits : is_reply_to body reply ≡ true
  pub is_a_reply : is_reply reply ≡ true

pub reply-at : (first : StationState) (executed : List (List ℕ)) (place : ℕ) (reply : List ℕ) → slice_get (replies_to first executed) place ≡ Some reply → RepliesAt first executed place reply
reply-at first executed place reply at =
    let answered = exchanges first executed in
    let exchange = from-map (λ (e : List ℕ × List ℕ). e.1) answered place reply at in
    let body = exchange.0.0 in
    let is : slice_get answered place ≡ Some (body, reply) = exchange.1 ∙ ap (λ r. Some (body, r)) exchange.2 in
    let fits = exchange-fits first executed place body reply is in
    record {
      body = body;
      exchanged = is;
      is_executed = ap (λ bs. slice_get bs place) (sym (exchanges-bodies first executed)) ∙ slice_get-map (λ (e : List ℕ × List ℕ). e.0) answered place ∙ ap (option_map (λ (e : List ℕ × List ℕ). e.0)) is;
      fits = fits.0;
      is_a_reply = fits.1;
    }

-- one of the replies is to one of the commands
pub record Replies (first : StationState) (executed : List (List ℕ)) (reply : List ℕ) : Type 0 where
  pub place : ℕ
  pub body : List ℕ
  pub exchanged : slice_get (exchanges first executed) place ≡ Some (body, reply)
  pub is_executed : slice_get executed place ≡ Some body
  pub fits : is_reply_to body reply ≡ true
  pub is_a_reply : is_reply reply ≡ true

pub reply-of : (first : StationState) (executed : List (List ℕ)) (reply : List ℕ) → Has (replies_to first executed) reply → Replies first executed reply
reply-of first executed reply has =
    let r = reply-at first executed has.0 reply has.1 in
    record { place = has.0; body = r.body; exchanged = r.exchanged; is_executed = r.is_executed; fits = r.fits; is_a_reply = r.is_a_reply }

pub sent-replies : {first : StationState} {node : NodeState} {executed sent : List (List ℕ)} (reply : List ℕ) → Serves first node executed sent → Has sent reply → Replies first executed reply
sent-replies {first} {node} {executed} {sent} reply h has = reply-of first executed reply (within-has sent (replies_to first executed) reply (sent-within h) has)
