-- That a node keeps to what it handed out and heard, at each of its steps.
use Rattle.std.proofs.Common.{◌≡◌, ◌∙◌, ℕ, ◌<◌, Bool, true, false, cond, eqb, not, List, [], ◌∷◌, ◌++◌, drop, length, map, Option, Some, None, is_some, option_map, refl, sym, ap, ap₂, subst, append_assoc, append-nil}
use Rattle.std.specs.Prelude.{slice_get, slice_index}
use Rattle.std.specs.Int.{bit_at}
use Rattle.std.specs.List.{filter, fold}
use Rattle.std.specs.Option.{option_or}
use Rattle.std.proofs.lemmas.List.{map-append}
use Rattle.std.proofs.lemmas.List.Elements.{filter-append}
use Rattle.std.proofs.lemmas.List.Sums.{fold_push}
use Rattle.std.proofs.lemmas.Option.{same_Some, slice_get-map}
use Rattle.df1_base.specs.declared.host.Fate.{Fate}
use Rattle.df1_base.specs.declared.host.Fate.TheVariants as fate
use Rattle.pccc_envelope.specs.Envelope.{is_reply}
use Rattle.df1_node.specs.declared.handed.Handed.{Handed}
use Rattle.df1_node.specs.Answer.{StationState, after_answer, reply_to}
use Rattle.df1_node.specs.Initiator.{next_command, after_reply, after_hand_out}
use Rattle.df1_node.specs.Node.{NodeState, next_body, next_handed, after_accept, after_next, after_told, after_tick, after_node_issue}
use Rattle.each_once.specs.Exchanges.{exchanges}
use Rattle.each_once.proofs.StationReplies.{exchanges-push, exchange-fits}
use Rattle.each_once.proofs.HandedOrder.{none-in-turn}
use Rattle.each_once.proofs.HandedOut.{is_command, AreHanded, AreNumbered, AreSettledBy, Initiates, Hosts}
use Rattle.each_once.proofs.InitiatorSteps.{initiates-issue, initiates-heard, initiates-reply, initiates-told, initiates-tick, initiates-hand_out, next-is-command}
use Rattle.each_once.proofs.Sublists.{get-seam}

-- ---- a message more, of the kind that is looked for, or of the other

filter-takes : (t : List ℕ → Bool) (xs : List (List ℕ)) (x : List ℕ) → t x ≡ true → filter t (xs ++ x ∷ []) ≡ filter t xs ++ x ∷ []
filter-takes t xs x e = filter-append t xs (x ∷ []) ∙ ap (λ b. filter t xs ++ cond b (x ∷ []) []) e

filter-skips : (t : List ℕ → Bool) (xs : List (List ℕ)) (x : List ℕ) → t x ≡ false → filter t (xs ++ x ∷ []) ≡ filter t xs
filter-skips t xs x e = filter-append t xs (x ∷ []) ∙ ap (λ b. filter t xs ++ cond b (x ∷ []) []) e ∙ append-nil (filter t xs)

-- ---- the outset

pub hosts-start : (first : StationState) (node : NodeState) → node.station ≡ first → node.replies ≡ [] → node.initiator.issued ≡ [] → Hosts first node [] []
hosts-start first node station replies issued =
    record {
      station = station;
      replies = sym replies;
      initiates = record {
        in_order = subst (λ cs. AreHanded cs []) (sym issued) none-in-turn;
        numbered = subst (λ cs. AreNumbered node.initiator.tns 0 cs) (sym issued) tt;
        settled = subst (λ cs. AreSettledBy [] cs) (sym issued) tt;
      };
    }

-- ---- a command that is issued, a fate, a tick

pub hosts-issue : {first : StationState} {node : NodeState} {messages heard : List (List ℕ)} → Hosts first node messages heard → (src dst : ℕ) (payload : List ℕ) →
    eqb (bit_at (slice_index payload 0) 6) 1 ≡ false → length node.initiator.issued < 65535 → Hosts first (after_node_issue node src dst payload) messages heard
hosts-issue {first} {node} {messages} {heard} h src dst payload is-no-reply few =
    record { station = h.station; replies = h.replies; initiates = initiates-issue node.initiator src dst payload (filter is_command messages) heard h.initiates is-no-reply few }

pub hosts-told : {first : StationState} {node : NodeState} {messages heard : List (List ℕ)} → Hosts first node messages heard → (what : Fate) → Hosts first (after_told node what) messages heard
hosts-told h fate.Delivered = record { station = h.station; replies = h.replies; initiates = h.initiates }
hosts-told {first} {node} h fate.Undelivered = record { station = h.station; replies = h.replies; initiates = initiates-told h.initiates node.last }

pub hosts-tick : {first : StationState} {node : NodeState} {messages heard : List (List ℕ)} → Hosts first node messages heard → Hosts first (after_tick node) messages heard
hosts-tick h = record { station = h.station; replies = h.replies; initiates = initiates-tick h.initiates }

-- ---- a message that is heard

accepted : (first : StationState) (node : NodeState) (messages heard : List (List ℕ)) (body : List ℕ) (reply : Bool) → is_reply body ≡ reply → Hosts first node messages heard →
    Hosts first (record node {
      station = cond reply node.station (after_answer node.station body);
      replies = cond reply node.replies (node.replies ++ reply_to node.station body ∷ []);
      initiator = cond reply (after_reply node.initiator body) node.initiator;
    }) messages (heard ++ body ∷ [])
accepted first node messages heard body true e h =
    let same = filter-skips is_command heard body (ap not e) in
    record {
      station = h.station ∙ sym (ap (fold after_answer first) same);
      replies = ap (λ xs. map (λ x. x.1) (exchanges first xs)) same ∙ h.replies;
      initiates = initiates-reply h.initiates body;
    }
accepted first node messages heard body false e h =
    let commands = filter is_command heard in
    let more = filter-takes is_command heard body (ap not e) in
    record {
      station = ap (λ s. after_answer s body) h.station ∙ sym (fold_push after_answer first commands body) ∙ sym (ap (fold after_answer first) more);
      replies =
          ap (λ xs. map (λ x. x.1) (exchanges first xs)) more
          ∙ ap (map (λ x. x.1)) (exchanges-push first commands body)
          ∙ map-append (λ x. x.1) (exchanges first commands) _
          ∙ ap₂ (λ rs s. rs ++ reply_to s body ∷ []) h.replies (sym h.station)
          ∙ append_assoc (filter is_reply messages) node.replies _;
      initiates = initiates-heard h.initiates body;
    }

pub hosts-accept : {first : StationState} {node : NodeState} {messages heard : List (List ℕ)} → Hosts first node messages heard → (body : List ℕ) → Hosts first (after_accept node body) messages (heard ++ body ∷ [])
hosts-accept {first} {node} {messages} {heard} h body = accepted first node messages heard body (is_reply body) refl h

-- ---- a message that is handed out

-- what a station replied is a reply
second-of : (o : Option (List ℕ × List ℕ)) (r : List ℕ) → option_map (λ x. x.1) o ≡ Some r → (body : List ℕ) × (o ≡ Some (body, r))
second-of None r e = absurd cc
second-of (Some x) r e = (x.0, ap (λ s. Some (x.0, s)) (same_Some _ _ e))

replied : (first : StationState) (xs before : List (List ℕ)) (r : List ℕ) (rest : List (List ℕ)) → map (λ x. x.1) (exchanges first xs) ≡ before ++ r ∷ rest → is_reply r ≡ true
replied first xs before r rest e =
    let there = sym (slice_get-map (λ x. x.1) (exchanges first xs) (length before)) ∙ ap (λ rs. slice_get rs (length before)) e ∙ get-seam before r rest in
    let exchange = second-of (slice_get (exchanges first xs) (length before)) r there in
    (exchange-fits first xs (length before) exchange.0 r exchange.1).1

-- a reply that waits is a reply
pub waiting-reply : {first : StationState} {node : NodeState} {messages heard : List (List ℕ)} → Hosts first node messages heard → (r : List ℕ) (rs : List (List ℕ)) → node.replies ≡ r ∷ rs → is_reply r ≡ true
waiting-reply {first} {node} {messages} {heard} h r rs some = replied first (filter is_command heard) (filter is_reply messages) r rs (h.replies ∙ ap (λ xs. filter is_reply messages ++ xs) some)

handed-out : (first : StationState) (node : NodeState) (messages heard : List (List ℕ)) (body : List ℕ) (last : Handed) (replies : List (List ℕ)) → node.replies ≡ replies →
    option_or (slice_get replies 0) (next_command node.initiator) ≡ Some body → Hosts first node messages heard →
    Hosts first (record node { replies = drop 1 replies; initiator = cond (is_some (slice_get replies 0)) node.initiator (after_hand_out node.initiator); last = last }) (messages ++ body ∷ []) heard
handed-out first node messages heard body last [] none next h =
    let command = next-is-command next h.initiates in
    record {
      station = h.station;
      replies = h.replies ∙ ap₂ (λ xs ys. xs ++ ys) (sym (filter-skips is_reply messages body command)) none;
      initiates = subst (λ xs. Initiates (after_hand_out node.initiator) xs heard) (sym (filter-takes is_command messages body (ap not command))) (initiates-hand_out body next h.initiates);
    }
handed-out first node messages heard body last (r ∷ rs) some next h =
    let before = filter is_reply messages in
    let waiting = h.replies ∙ ap (λ xs. before ++ xs) (some ∙ ap (λ x. x ∷ rs) (same_Some r body next)) in
    let reply = replied first (filter is_command heard) before body rs waiting in
    record {
      station = h.station;
      replies = waiting ∙ sym (append_assoc before (body ∷ []) rs) ∙ ap (λ xs. xs ++ rs) (sym (filter-takes is_reply messages body reply));
      initiates = subst (λ xs. Initiates node.initiator xs heard) (sym (filter-skips is_command messages body (ap not reply))) h.initiates;
    }

pub hosts-next : {first : StationState} {node : NodeState} {messages heard : List (List ℕ)} (body : List ℕ) → next_body node ≡ Some body → Hosts first node messages heard →
    Hosts first (after_next node) (messages ++ body ∷ []) heard
hosts-next {first} {node} {messages} {heard} body next h = handed-out first node messages heard body (next_handed node) node.replies refl next h
