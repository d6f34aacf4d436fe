-- A node that issues commands and executes none: what it hands out are commands alone, and what it accepts are replies.
use Rattle.std.proofs.Common.{◌≡◌, ◌∙◌, ℕ, ◌<◌, Bool, true, false, cond, eqb, List, [], ◌∷◌, ◌++◌, drop, length, Some, is_some, refl, sym, ap, subst}
use Rattle.std.specs.Prelude.{slice_get, slice_index}
use Rattle.std.specs.Int.{bit_at}
use Rattle.std.specs.Option.{option_or}
use Rattle.df1_base.specs.declared.host.Fate.{Fate}
use Rattle.df1_base.specs.declared.host.Fate.TheVariants as fate
use Rattle.pccc_envelope.specs.Envelope.{is_reply}
use Rattle.df1_node.specs.declared.handed.Handed.{Handed}
use Rattle.df1_node.specs.Answer.{StationState, after_answer, reply_to}
use Rattle.df1_node.specs.Initiator.{next_command, after_reply, after_hand_out}
use Rattle.df1_node.specs.Node.{NodeState, next_body, next_handed, after_accept, after_next, after_told, after_tick, after_node_issue}
use Rattle.each_once.proofs.HandedOrder.{none-in-turn}
use Rattle.each_once.proofs.HandedOut.{AreHanded, AreNumbered, AreSettledBy, Initiates, handed-at, numbered-at}
use Rattle.each_once.proofs.InitiatorSteps.{initiates-issue, initiates-reply, initiates-told, initiates-tick, initiates-hand_out}
use Rattle.each_once.proofs.Sublists.{Has}

-- a node that handed out these commands and accepted these replies
pub record Issues (first : StationState) (node : NodeState) (commands heard : List (List ℕ)) : Type 0 where
  pub station : node.station ≡ first
  pub replies : node.replies ≡ []
  pub initiates : Initiates node.initiator commands heard

pub issues-start : (first : StationState) (node : NodeState) → node.station ≡ first → node.replies ≡ [] → node.initiator.issued ≡ [] → Issues first node [] []
issues-start first node station replies issued =
    record {
      station = station;
      replies = replies;
      initiates = record {
        in_order = subst (λ cs. AreHanded cs []) (sym issued) none-in-turn;
        numbered = subst (λ cs. AreNumbered node.initiator.tns 0 cs) (sym issued) tt;
        settled = subst (λ cs. AreSettledBy [] cs) (sym issued) tt;
      };
    }

-- ---- a command that is issued, a fate, a tick

pub issues-issue : {first : StationState} {node : NodeState} {commands heard : List (List ℕ)} (src dst : ℕ) (payload : List ℕ) → eqb (bit_at (slice_index payload 0) 6) 1 ≡ false → length node.initiator.issued < 65535
    → Issues first node commands heard → Issues first (after_node_issue node src dst payload) commands heard
issues-issue {node = node} {commands = commands} {heard = heard} src dst payload is-no-reply few h =
    record { station = h.station; replies = h.replies; initiates = initiates-issue node.initiator src dst payload commands heard h.initiates is-no-reply few }

pub issues-told : {first : StationState} {node : NodeState} {commands heard : List (List ℕ)} (what : Fate) → Issues first node commands heard → Issues first (after_told node what) commands heard
issues-told fate.Delivered h = record { station = h.station; replies = h.replies; initiates = h.initiates }
issues-told {node = node} fate.Undelivered h = record { station = h.station; replies = h.replies; initiates = initiates-told h.initiates node.last }

pub issues-tick : {first : StationState} {node : NodeState} {commands heard : List (List ℕ)} → Issues first node commands heard → Issues first (after_tick node) commands heard
issues-tick h = record { station = h.station; replies = h.replies; initiates = initiates-tick h.initiates }

-- ---- a reply that is accepted

accepted : (first : StationState) (node : NodeState) (commands heard : List (List ℕ)) (body : List ℕ) (reply : Bool) → reply ≡ true → Issues first node commands heard →
    Issues first (record node {
      station = cond reply node.station (after_answer node.station body);
      replies = cond reply node.replies (node.replies ++ reply_to node.station body ∷ []);
      initiator = cond reply (after_reply node.initiator body) node.initiator;
    }) commands (heard ++ body ∷ [])
accepted first node commands heard body true is h = record { station = h.station; replies = h.replies; initiates = initiates-reply h.initiates body }
accepted first node commands heard body false is h = absurd cc

pub issues-accept : {first : StationState} {node : NodeState} {commands heard : List (List ℕ)} (body : List ℕ) → is_reply body ≡ true → Issues first node commands heard → Issues first (after_accept node body) commands (heard ++ body ∷ [])
issues-accept {first} {node} {commands} {heard} body is h = accepted first node commands heard body (is_reply body) is h

-- ---- a command that is handed out

handed-out : (first : StationState) (node : NodeState) (commands heard : List (List ℕ)) (body : List ℕ) (last : Handed) (replies : List (List ℕ)) → node.replies ≡ replies → replies ≡ [] →
    option_or (slice_get replies 0) (next_command node.initiator) ≡ Some body → Issues first node commands heard →
    Issues first (record node { replies = drop 1 replies; initiator = cond (is_some (slice_get replies 0)) node.initiator (after_hand_out node.initiator); last = last }) (commands ++ body ∷ []) heard
handed-out first node commands heard body last [] is none next h = record { station = h.station; replies = refl; initiates = initiates-hand_out body next h.initiates }
handed-out first node commands heard body last (r ∷ rs) is none next h = absurd cc

pub issues-next : {first : StationState} {node : NodeState} {commands heard : List (List ℕ)} (body : List ℕ) → next_body node ≡ Some body → Issues first node commands heard → Issues first (after_next node) (commands ++ body ∷ []) heard
issues-next {first} {node} {commands} {heard} body next h = handed-out first node commands heard body (next_handed node) node.replies refl h.replies next h

-- ---- what was handed out

-- is no reply
pub commands-plain : {first : StationState} {node : NodeState} {commands heard : List (List ℕ)} (body : List ℕ) → Issues first node commands heard → Has commands body → is_reply body ≡ false
commands-plain {node = node} {commands = commands} body h has =
    let s = node.initiator in
    let c = handed-at s.issued commands has.0 body h.initiates.in_order has.1 in
    ap is_reply (sym c.3) ∙ (numbered-at s.tns 0 s.issued c.0 c.1 h.initiates.numbered c.2).1
