-- A node that won't hand out a command any more, and bytes on their way that end no transmission of it.
use Rattle.std.proofs.Common.{◌≡◌, ◌∙◌, ◌⊎◌, inl, inr, ℕ, zero, suc, ◌-◌, Bool, true, false, cond, nat_lt, List, [], ◌∷◌, ◌++◌, map, drop, Option, Some, None, is_some, slice_get, refl, sym, ap, subst}
use Rattle.std.specs.Option.{option_map, option_map_or, option_or}
use Rattle.std.proofs.lemmas.Option.{same_Some}
use Rattle.df1_base.specs.declared.host.Fate.{Fate}
use Rattle.df1_base.specs.declared.host.Fate.TheVariants as fate
use Rattle.df1_base.specs.HostAnswers.{host_told}
use Rattle.df1_node.specs.Answer.{StationState, after_answer, reply_to}
use Rattle.df1_node.specs.declared.handed.Handed.{Handed}
use Rattle.df1_node.specs.declared.handed.Handed.TheVariants as handed
use Rattle.df1_node.specs.Initiator.{Issued, Standing, Waiting, Out as IsOutWith, Answered, Undelivered, Unanswered, InitiatorState, is_waiting, is_out_at, restated, answered_place, after_reply, after_hand_out, next_place, next_command, ticked, all_ticked, next_issued}
use Rattle.df1_node.specs.Node.{NodeState, after_accept, after_next, after_tick, after_node_issue, initiator_after}
use Rattle.df1_node.proofs.Final.{get-restated}
use Rattle.each_once.specs.Exchanges.{exchanges}
use Rattle.each_once.specs.NodeHost.{node_host}
use Rattle.each_once.proofs.CommandsUnderWay.{hands-out}
use Rattle.each_once.proofs.StationReplies.{exchange-fits}
use Rattle.lane_cells.specs.Cells.{LaneCell, ending_of}
use Rattle.pccc_envelope.specs.Envelope.{is_reply}
use Rattle.run_laws.specs.Over.{IsOfOther}

-- ---- the node

-- no command of this body waits
abbrev pub WaitsNot : List ℕ → List Issued → Type 0
WaitsNot body issued = (p : ℕ) (c : Issued) → slice_get issued p ≡ Some c → c.body ≡ body → is_waiting c.standing ≡ false

-- all that waits to be handed out before the commands are replies
abbrev pub AreReplies : List (List ℕ) → Type 0
AreReplies [] = Unit {0}
AreReplies (r ∷ rs) = (is_reply r ≡ true) × AreReplies rs

-- the node won't hand out this command
pub record GivesNot (body : List ℕ) (node : NodeState) : Type 0 where
  pub waits : WaitsNot body node.initiator.issued
  pub replies : AreReplies node.replies

pub replies-push : (rs : List (List ℕ)) (r : List ℕ) → AreReplies rs → is_reply r ≡ true → AreReplies (rs ++ r ∷ [])
replies-push [] r all is = (is, tt)
replies-push (s ∷ rs) r all is = (all.0, replies-push rs r all.1 is)

pub reply-is : (station : StationState) (body : List ℕ) → is_reply (reply_to station body) ≡ true
reply-is station body = (exchange-fits station (body ∷ []) 0 body (reply_to station body) refl).1

-- what a station answers are replies
pub replies-of : (first : StationState) (commands : List (List ℕ)) → AreReplies (map (λ e. e.1) (exchanges first commands))
replies-of first [] = tt
replies-of first (command ∷ commands) = (reply-is first command, replies-of (after_answer first command) commands)

pub replies-behind : (front back : List (List ℕ)) → AreReplies (front ++ back) → AreReplies back
replies-behind [] back all = all
replies-behind (r ∷ front) back all = replies-behind front back all.1

-- of one that stands otherwise
restated-at : (cs : List Issued) (p : ℕ) (c : Issued) (s : Standing) → slice_get (restated cs p s) p ≡ Some c → c.standing ≡ s
restated-at [] p c s at = absurd cc
restated-at (d ∷ cs) zero c s at = ap (λ (x : Issued). x.standing) (sym (same_Some _ c at))
restated-at (d ∷ cs) (suc p) c s at = restated-at cs p c s at

waits-restated : (body : List ℕ) (cs : List Issued) (q : ℕ) (s : Standing) → is_waiting s ≡ false → WaitsNot body cs → WaitsNot body (restated cs q s)
waits-restated body cs q s is h p c at same = by-place (same-place q p)
  where
    same-place : (q p : ℕ) → (q ≡ p) ⊎ (q ≡ p → ⊥)
    same-place zero zero = inl refl
    same-place zero (suc p) = inr (λ e. cc)
    same-place (suc q) zero = inr (λ e. cc)
    same-place (suc q) (suc p) = elim (same-place q p) [ inl e ↦ inl (ap suc e) | inr apart ↦ inr (λ e. apart cc) ]

    by-place : (q ≡ p) ⊎ (q ≡ p → ⊥) → is_waiting c.standing ≡ false
    by-place (inl e) = ap is_waiting (restated-at cs p c s (subst (λ (n : ℕ). slice_get (restated cs n s) p ≡ Some c) e at)) ∙ is
    by-place (inr apart) = h p c (sym (get-restated cs q p s apart) ∙ at) same

waits-answered : (body : List ℕ) (cs : List Issued) (reply : List ℕ) (place : Option ℕ) → WaitsNot body cs → WaitsNot body (option_map_or (λ (p : ℕ). restated cs p (Answered reply)) place cs)
waits-answered body cs reply None h = h
waits-answered body cs reply (Some p) h = waits-restated body cs p (Answered reply) refl h

accepts-by : (body : List ℕ) (reply : Bool) (node : NodeState) (what : List ℕ) → GivesNot body node → GivesNot body (record node {
  station = cond reply node.station (after_accept node what).station;
  replies = cond reply node.replies (node.replies ++ reply_to node.station what ∷ []);
  initiator = cond reply (after_reply node.initiator what) node.initiator;
})
accepts-by body true node what g = record { waits = waits-answered body node.initiator.issued what (answered_place node.initiator.issued what) g.waits; replies = g.replies }
accepts-by body false node what g = record { waits = g.waits; replies = replies-push node.replies (reply_to node.station what) g.replies (reply-is node.station what) }

pub accepts : (body : List ℕ) (node : NodeState) (what : List ℕ) → GivesNot body node → GivesNot body (after_accept node what)
accepts body node what g = let by = accepts-by body (is_reply what) node what g in record { waits = by.waits; replies = by.replies }

given-up : (body : List ℕ) (cs : List Issued) (p : ℕ) (out : Bool) → WaitsNot body cs → WaitsNot body (cond out (restated cs p Undelivered) cs)
given-up body cs p true h = waits-restated body cs p Undelivered refl h
given-up body cs p false h = h

handed-on : (body : List ℕ) (i : InitiatorState) (last : Handed) → WaitsNot body i.issued → WaitsNot body (initiator_after i last).issued
handed-on body i handed.Nothing h = h
handed-on body i handed.Reply h = h
handed-on body i (handed.Command place) h = given-up body i.issued place (is_out_at i.issued place) h

pub told : (body : List ℕ) (what : Option Fate) (node : NodeState) → GivesNot body node → GivesNot body (host_told node_host what node)
told body None node g = g
told body (Some fate.Delivered) node g = record { waits = g.waits; replies = g.replies }
told body (Some fate.Undelivered) node g = record { waits = handed-on body node.initiator node.last g.waits; replies = g.replies }

ticked-waits : (s : Standing) → is_waiting s ≡ false → is_waiting (ticked s) ≡ false
ticked-waits Waiting is = is
ticked-waits (IsOutWith left) is = at (nat_lt 1 left)
  where
    at : (more : Bool) → is_waiting (cond more (IsOutWith (left - 1)) Unanswered) ≡ false
    at true = refl
    at false = refl
ticked-waits (Answered reply) is = refl
ticked-waits Undelivered is = refl
ticked-waits Unanswered is = refl

ticks : (body : List ℕ) (cs : List Issued) → WaitsNot body cs → WaitsNot body (all_ticked cs)
ticks body [] h p c at same = absurd cc
ticks body (d ∷ cs) h zero c at same =
    let is : record d { standing = ticked d.standing } ≡ c = same_Some _ c at in
    ap (λ (x : Issued). is_waiting x.standing) (sym is) ∙ ticked-waits d.standing (h 0 d refl (ap (λ (x : Issued). x.body) is ∙ same))
ticks body (d ∷ cs) h (suc p) c at same = ticks body cs (λ q e is. h (suc q) e is) p c at same

pub node-ticks : (body : List ℕ) (node : NodeState) → GivesNot body node → GivesNot body (after_tick node)
node-ticks body node g = record { waits = ticks body node.initiator.issued g.waits; replies = g.replies }

-- a command is issued that has another body
pushed : (body : List ℕ) (cs : List Issued) (new : Issued) → (new.body ≡ body → ⊥) → WaitsNot body cs → WaitsNot body (cs ++ new ∷ [])
pushed body [] new apart h zero c at same = absurd (apart (ap (λ (x : Issued). x.body) (same_Some new c at) ∙ same))
pushed body [] new apart h (suc p) c at same = absurd cc
pushed body (d ∷ cs) new apart h zero c at same = h 0 c at same
pushed body (d ∷ cs) new apart h (suc p) c at same = pushed body cs new apart (λ q e is. h (suc q) e is) p c at same

pub node-issues : (body : List ℕ) (node : NodeState) (src dst : ℕ) (payload : List ℕ) → (next_issued node.initiator src dst payload ≡ body → ⊥) → GivesNot body node → GivesNot body (after_node_issue node src dst payload)
node-issues body node src dst payload apart g = record { waits = pushed body node.initiator.issued (record { body = next_issued node.initiator src dst payload; standing = Waiting }) apart g.waits; replies = g.replies }

-- what is handed out is another message
pub hands-other : (body : List ℕ) (node : NodeState) (replies : List (List ℕ)) (message : List ℕ) → is_reply body ≡ false → node.replies ≡ replies → option_or (slice_get replies 0) (next_command node.initiator) ≡ Some message → GivesNot body node → message ≡ body → ⊥
hands-other body node [] message command is next g same =
    let h = hands-out node.initiator message next in
    let no = g.waits h.place h.command h.is_at (h.has_body ∙ same) in
    let clash : true ≡ false = sym h.waits ∙ no in cc
hands-other body node (r ∷ rs) message command is next g same =
    let first : r ≡ message = same_Some r message next in
    let all = subst AreReplies is g.replies in
    let clash : true ≡ false = sym all.0 ∙ ap is_reply (first ∙ same) ∙ command in cc

pub rest-replies : (rs : List (List ℕ)) → AreReplies rs → AreReplies (drop 1 rs)
rest-replies [] all = all
rest-replies (r ∷ rs) all = all.1

out-waits : (body : List ℕ) (i : InitiatorState) (place : Option ℕ) → WaitsNot body i.issued → WaitsNot body (option_map_or (λ (p : ℕ). restated i.issued p (IsOutWith i.reply_ticks)) place i.issued)
out-waits body i None h = h
out-waits body i (Some p) h = waits-restated body i.issued p (IsOutWith i.reply_ticks) refl h

next-waits : (body : List ℕ) (reply : Bool) (i : InitiatorState) → WaitsNot body i.issued → WaitsNot body (cond reply i (after_hand_out i)).issued
next-waits body true i h = h
next-waits body false i h = out-waits body i (next_place i) h

pub node-hands : (body : List ℕ) (node : NodeState) → GivesNot body node → GivesNot body (after_next node)
node-hands body node g = record { waits = next-waits body (is_some (slice_get node.replies 0)) node.initiator g.waits; replies = rest-replies node.replies g.replies }

-- ---- the bytes on their way

-- no cell of a lane ends one
abbrev pub NoneEnds : List ℕ → List LaneCell → Type 0
NoneEnds body [] = Unit {0}
NoneEnds body (cell ∷ cells) = IsOfOther body cell.ends × NoneEnds body cells

pub none-more : (body : List ℕ) (cells more : List LaneCell) → NoneEnds body cells → NoneEnds body more → NoneEnds body (cells ++ more)
none-more body [] more h new = new
none-more body (cell ∷ cells) more h new = (h.0, none-more body cells more h.1 new)

pub marked-other : (body sending : List ℕ) (last : Option ℕ) → ((number : ℕ) → last ≡ Some number → sending ≡ body → ⊥) → IsOfOther body (option_map (ending_of sending) last)
marked-other body sending None apart = tt
marked-other body sending (Some number) apart = λ same. apart number refl same
