-- What a node has handed out and heard, as far as it matters to each command's being executed once.
use Rattle.std.proofs.Common.{◌≡◌, ◌∙◌, ℕ, zero, suc, ◌+◌, ◌<◌, Bool, true, false, List, [], ◌∷◌, ◌++◌, map, Some, option_map, sym, ap, subst, arith, add-zero}
use Rattle.std.specs.Prelude.{◌%◌, slice_get}
use Rattle.std.specs.List.{filter, fold}
use Rattle.std.proofs.lemmas.Option.{same_Some, slice_get-map}
use Rattle.pccc_envelope.specs.Envelope.{is_reply, tns_of}
use Rattle.df1_node.specs.Answer.{StationState, after_answer}
use Rattle.df1_node.specs.Initiator.{Issued, Standing, Waiting, Out, Answered, Undelivered, Unanswered, InitiatorState, is_waiting, is_reply_to}
use Rattle.df1_node.specs.Node.{NodeState}
pub use Rattle.each_once.specs.Commands.{is_command}
use Rattle.each_once.specs.Exchanges.{exchanges}
use Rattle.each_once.proofs.HandedOrder.{AreInTurn, place-of}
use Rattle.each_once.proofs.Sublists.{Has, from-map}

-- the bodies of commands, and which of them wait
abbrev pub bodies_of : List Issued → List (List ℕ)
bodies_of issued = map (λ c. c.body) issued

abbrev pub waits_of : List Issued → List Bool
waits_of issued = map (λ c. is_waiting c.standing) issued

-- these commands were handed out, those of each source in the order in which they were issued; what waits wasn't
abbrev pub AreHanded : List Issued → List (List ℕ) → Type 0
AreHanded issued handed = AreInTurn (bodies_of issued) (waits_of issued) handed

-- each command is no reply, and has the TNS after the one before
abbrev pub AreNumbered : ℕ → ℕ → List Issued → Type 0
AreNumbered tns place [] = Unit {0}
AreNumbered tns place (c ∷ cs) = (is_reply c.body ≡ false) × (tns_of c.body ≡ (tns + place) % 65536) × AreNumbered tns (place + 1) cs

-- the reply that a command was answered by was heard, and fits it
abbrev pub IsSettledBy : List (List ℕ) → List ℕ → Standing → Type 0
IsSettledBy heard body Waiting = Unit {0}
IsSettledBy heard body (Out left) = Unit {0}
IsSettledBy heard body (Answered reply) = Has heard reply × (is_reply_to body reply ≡ true)
IsSettledBy heard body Undelivered = Unit {0}
IsSettledBy heard body Unanswered = Unit {0}

abbrev pub AreSettledBy : List (List ℕ) → List Issued → Type 0
AreSettledBy heard [] = Unit {0}
AreSettledBy heard (c ∷ cs) = IsSettledBy heard c.body c.standing × AreSettledBy heard cs

-- an initiator that handed out these commands, at a node that heard these messages
pub record Initiates (s : InitiatorState) (handed heard : List (List ℕ)) : Type 0 where
  pub in_order : AreHanded s.issued handed
  pub numbered : AreNumbered s.tns 0 s.issued
  pub settled : AreSettledBy heard s.issued

-- a node that handed out these messages and accepted those: it executed the commands among those, and its replies are handed out in the order of the commands
pub record Hosts (first : StationState) (node : NodeState) (messages heard : List (List ℕ)) : Type 0 where
  pub station : node.station ≡ fold after_answer first (filter is_command heard)
  pub replies : map (λ e. e.1) (exchanges first (filter is_command heard)) ≡ filter is_reply messages ++ node.replies
  pub initiates : Initiates node.initiator (filter is_command messages) heard

-- ---- lists of commands, place by place

-- a command that was handed out, and its place
pub handed-at : (issued : List Issued) (xs : List (List ℕ)) (k : ℕ) (x : List ℕ) → AreHanded issued xs → slice_get xs k ≡ Some x →
    (place : ℕ) × (c : Issued) × (slice_get issued place ≡ Some c) × (c.body ≡ x) × (is_waiting c.standing ≡ false)
handed-at issued xs k x h e =
    let at = place-of (bodies_of issued) h.order xs k x h.are_at e in
    let c = from-map (λ (d : Issued). d.body) issued at.0 x at.1 in
    let waits = h.waiting at.0 (is_waiting c.0.standing) (slice_get-map (λ (d : Issued). is_waiting d.standing) issued at.0 ∙ ap (option_map (λ (d : Issued). is_waiting d.standing)) c.1) at.2 in
    (at.0, c.0, c.1, c.2, waits)

pub numbered-at : (tns place : ℕ) (issued : List Issued) (k : ℕ) (c : Issued) → AreNumbered tns place issued → slice_get issued k ≡ Some c →
    (tns_of c.body ≡ (tns + (place + k)) % 65536) × (is_reply c.body ≡ false)
numbered-at tns place [] k c n e = absurd cc
numbered-at tns place (x ∷ cs) zero c n e =
    subst (λ y. (tns_of y.body ≡ (tns + (place + 0)) % 65536) × (is_reply y.body ≡ false)) (same_Some x c e) (n.1 ∙ ap (λ m. (tns + m) % 65536) (sym (add-zero place)), n.0)
numbered-at tns place (x ∷ cs) (suc k) c n e =
    let shift : place + 1 + k ≡ place + suc k = omega arith in
    subst (λ m. (tns_of c.body ≡ (tns + m) % 65536) × (is_reply c.body ≡ false)) shift (numbered-at tns (place + 1) cs k c n.2 e)

pub numbered-apart : (tns : ℕ) (p q : ℕ) → p < 65536 → q < 65536 → (tns + p) % 65536 ≡ (tns + q) % 65536 → p ≡ q
numbered-apart tns p q small few e = omega arith

pub settled-at : (heard : List (List ℕ)) (issued : List Issued) (k : ℕ) (c : Issued) → AreSettledBy heard issued → slice_get issued k ≡ Some c → IsSettledBy heard c.body c.standing
settled-at heard [] k c s e = absurd cc
settled-at heard (x ∷ cs) zero c s e = subst (λ y. IsSettledBy heard y.body y.standing) (same_Some x c e) s.0
settled-at heard (x ∷ cs) (suc k) c s e = settled-at heard cs k c s.1 e
