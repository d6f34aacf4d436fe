-- A reply that an end accepts is what the other end's station answered to one of its commands.
use Rattle.std.proofs.Common.{◌≡◌, ◌∙◌, ℕ, suc, ◌+◌, ◌<◌, ◌≤◌, true, false, List, [], ◌∷◌, ◌++◌, length, map, Some, None, refl, ap, sym, subst, arith}
use Rattle.std.specs.Prelude.{slice_get, Contains, ◌==◌, ◌%◌}
use Rattle.std.specs.Int.{bit_at}
use Rattle.std.specs.Option.{option_map}
use Rattle.std.specs.List.{filter}
use Rattle.std.proofs.Math.Numerals.{suc-eq-add-one}
use Rattle.std.proofs.lemmas.Option.{slice_get-map, slice_get_within}
use Rattle.pccc_envelope.specs.declared.key.Key.{Key}
use Rattle.pccc_envelope.specs.Envelope.{is_reply, tns_of}
use Rattle.df1_node.specs.Answer.{StationState}
use Rattle.df1_node.specs.Initiator.{Issued, Standing, Waiting, Out, Answered, Undelivered, Unanswered, InitiatorState, is_waiting, is_out, is_reply_to, answered_place}
use Rattle.df1_node.specs.Node.{NodeState}
use Rattle.each_once.specs.Exchanges.{exchanges}
use Rattle.each_once.specs.Commands.{command_at}
use Rattle.each_once.proofs.KeptCommands.{is_given_up, IsReplyOf, IsOfLost}
use Rattle.each_once.proofs.Sublists.{Has, IsWithin, within-filter, within-has, within-front, Differ, IsOther, differ-within, differ-last, get-more, has-filter, from-map, contains-at, filter-keeps}
use Rattle.each_once.proofs.StationReplies.{exchanges-bodies, exchanges-tns, exchange-fits, fits-tns, fits-key}
use Rattle.each_once.proofs.CommandBodies.{answered-some, answered-none}
use Rattle.each_once.proofs.HandedOrder.{turn-differ}
use Rattle.each_once.proofs.HandedOut.{is_command, bodies_of, AreNumbered, Hosts, Initiates, IsSettledBy, handed-at, numbered-at, numbered-apart, settled-at, AreSettledBy}

-- ---- the numbers of commands differ

numbers-other : (tns place : ℕ) (n : ℕ) (issued : List Issued) → n < place → place + length issued ≤ 65536 → AreNumbered tns place issued
    → IsOther ((tns + n) % 65536) (map tns_of (map (λ c. c.body) issued))
numbers-other tns place n [] below few numbered = tt
numbers-other tns place n (c ∷ cs) below few numbered = (
  λ same. let e = numbered-apart tns n place (omega arith) (omega arith) (same ∙ numbered.1) in omega (arith, e),
  numbers-other tns (place + 1) n cs (omega arith) (omega arith) numbered.2,
)

pub numbers-differ : (tns place : ℕ) (issued : List Issued) → place + length issued ≤ 65536 → AreNumbered tns place issued → Differ (map tns_of (map (λ c. c.body) issued))
numbers-differ tns place [] few numbered = tt
numbers-differ tns place (c ∷ cs) few numbered = (
  subst (λ n. IsOther n (map tns_of (map (λ d. d.body) cs))) (sym numbered.1) (numbers-other tns (place + 1) place cs (omega arith) (omega arith) numbered.2),
  numbers-differ tns (place + 1) cs (omega arith) numbered.2,
)

-- so those of the commands that were handed out differ
pub handed-differ : (s : InitiatorState) (commands heard : List (List ℕ)) → Initiates s commands heard → length s.issued ≤ 65535 → Differ (map tns_of commands)
handed-differ s commands heard i few = turn-differ tns_of (bodies_of s.issued) i.in_order.order commands (numbers-differ s.tns 0 s.issued (omega (arith, few)) i.numbered) i.in_order.are_at i.in_order.rise

-- ---- the command that a reply is of

-- a reply, the command to which a station answered it, and where that command stands among those of the initiator
pub record IsFound (answered : List (List ℕ × List ℕ)) (executed : List (List ℕ)) (issued : List Issued) (reply : List ℕ) : Type 0 where
  pub command : Issued
  pub place : ℕ
  pub is_at : slice_get issued place ≡ Some command
  pub is_out_of_hand : is_waiting command.standing ≡ false
  pub answer : Contains answered (command.body, reply)
  pub fits : is_reply_to command.body reply ≡ true

found-at : (first : StationState) (executed : List (List ℕ)) (issued : List Issued) (k : ℕ) (body reply : List ℕ) → slice_get (exchanges first executed) k ≡ Some (body, reply)
    → (p : ℕ) (c : Issued) → slice_get issued p ≡ Some c → c.body ≡ body → is_waiting c.standing ≡ false → IsFound (exchanges first executed) executed issued reply
found-at first executed issued k body reply is p c is_at same handed = record {
  command = c;
  place = p;
  is_at = is_at;
  is_out_of_hand = handed;
  answer = subst (λ b. Contains (exchanges first executed) (b, reply)) (sym same) (contains-at (exchanges first executed) k (body, reply) is);
  fits = subst (λ b. is_reply_to b reply ≡ true) (sym same) (exchange-fits first executed k body reply is).0;
}

-- the station executed commands that its end accepted; its replies are the first that its end handed out; and the other end accepted some of those
pub found : (first other : StationState) (station initiator : NodeState) (sent heard commands : List (List ℕ)) (reply : List ℕ) → Hosts first station sent heard → (told : List (List ℕ)) → Hosts other initiator commands told
    → IsWithin heard commands → Has sent reply → is_reply reply ≡ true → IsFound (exchanges first (filter is_command heard)) (filter is_command heard) initiator.initiator.issued reply
found first other station initiator sent heard commands reply s told i within sends replies =
    let executed = filter is_command heard in
    let answered = exchanges first executed in
    let in_replies = has-filter is_reply sent sends.0 reply replies sends.1 in
    let at : slice_get (map (λ e. e.1) answered) in_replies.0 ≡ Some reply = ap (λ rs. slice_get rs in_replies.0) s.replies ∙ get-more (filter is_reply sent) station.replies in_replies.0 reply in_replies.1 in
    let exchange = from-map (λ (e : List ℕ × List ℕ). e.1) answered in_replies.0 reply at in
    let body = exchange.0.0 in
    let is : slice_get answered in_replies.0 ≡ Some (body, reply) = exchange.1 ∙ ap (λ r. Some (body, r)) exchange.2 in
    let executes : slice_get executed in_replies.0 ≡ Some body = ap (λ bs. slice_get bs in_replies.0) (sym (exchanges-bodies first executed)) ∙ slice_get-map (λ (e : List ℕ × List ℕ). e.0) answered in_replies.0 ∙ ap (option_map (λ (e : List ℕ × List ℕ). e.0)) is in
    let handed = within-has executed (filter is_command commands) body (within-filter is_command heard commands within) (in_replies.0, executes) in
    let c = handed-at initiator.initiator.issued (filter is_command commands) handed.0 body i.initiates.in_order handed.1 in
    found-at first executed initiator.initiator.issued in_replies.0 body reply is c.0 c.1 c.2 c.3 c.4

-- ---- the reply answers the command that is out

-- commands of one TNS are one
pub tns-place : (tns : ℕ) (issued : List Issued) (p q : ℕ) (c d : Issued) → AreNumbered tns 0 issued → length issued ≤ 65535 → slice_get issued p ≡ Some c → slice_get issued q ≡ Some d → tns_of c.body ≡ tns_of d.body → p ≡ q
tns-place tns issued p q c d numbered few is-p is-q same =
    let number-p = numbered-at tns 0 issued p c numbered is-p in
    let number-q = numbered-at tns 0 issued q d numbered is-q in
    let inside-p = slice_get_within issued p c is-p in
    let inside-q = slice_get_within issued q d is-q in
    let at : 0 + p ≡ 0 + q = numbered-apart tns (0 + p) (0 + q) (omega (arith, inside-p)) (omega (arith, inside-q)) (sym number-p.0 ∙ same ∙ number-q.0) in
    omega (arith, at)

pub is-answer : (first : StationState) (executed : List (List ℕ)) (tns : ℕ) (issued : List Issued) (reply : List ℕ) (place : ℕ) → AreNumbered tns 0 issued → length issued ≤ 65535 → IsFound (exchanges first executed) executed issued reply
    → answered_place issued reply ≡ Some place → IsReplyOf issued (exchanges first executed) (place + 1) reply
is-answer first executed tns issued reply place numbered few f is =
    let out = answered-some issued reply place is in
    let at = tns-place tns issued f.place place f.command out.0 numbered few f.is_at out.1 (sym (fits-tns f.command.body reply f.fits) ∙ fits-tns out.0.body reply out.3) in
    record {
      command = f.command;
      is_command = ap (command_at issued) (sym (suc-eq-add-one place)) ∙ ap (slice_get issued) (sym at) ∙ f.is_at;
      is_answer = f.answer;
    }

-- ---- or its command was given up

-- a command that was answered before was answered by an earlier message; but its replies have one TNS, and so are one
other-answer : (first : StationState) (executed : List (List ℕ)) (heard sent replies : List (List ℕ)) (body reply earlier : List ℕ) → Differ (map tns_of executed)
    → map (λ e. e.1) (exchanges first executed) ≡ filter is_reply sent ++ replies → IsWithin (heard ++ reply ∷ []) sent → is_reply reply ≡ true
    → is_reply_to body reply ≡ true → Has heard earlier → is_reply_to body earlier ≡ true → ⊥
other-answer first executed heard sent replies body reply earlier differ all within is_answer fits has fitted =
    let same = fits-key body earlier reply fitted fits in
    let earlier_replies : is_reply earlier ≡ true = ap (λ (key : Key). bit_at key.cmd 6 == 1) same ∙ is_answer in
    let before = has-filter is_reply heard has.0 earlier earlier_replies has.1 in
    let numbers : Differ (map tns_of (map (λ e. e.1) (exchanges first executed))) = subst Differ (sym (exchanges-tns first executed)) differ in
    let some : IsWithin (filter is_reply heard ++ reply ∷ []) (map (λ e. e.1) (exchanges first executed)) =
    subst (λ rs. IsWithin (filter is_reply heard ++ reply ∷ []) rs) (sym all)
    (within-front (filter is_reply heard ++ reply ∷ []) (filter is_reply sent) replies (subst (λ rs. IsWithin rs (filter is_reply sent)) (filter-keeps is_reply heard reply is_answer) (within-filter is_reply (heard ++ reply ∷ []) sent within))) in
    differ-last tns_of (filter is_reply heard) before.0 earlier reply
    (differ-within tns_of (filter is_reply heard ++ reply ∷ []) (map (λ e. e.1) (exchanges first executed)) some numbers)
    before.1 (ap (λ (key : Key). key.tns) same)

pub given-up : (heard : List (List ℕ)) (body : List ℕ) (standing : Standing) → is_waiting standing ≡ false → is_out standing ≡ false → IsSettledBy heard body standing
    → ((earlier : List ℕ) → Has heard earlier → is_reply_to body earlier ≡ true → ⊥) → is_given_up standing ≡ true
given-up heard body Waiting handed not_out settled none = absurd cc
given-up heard body (Out left) handed not_out settled none = absurd cc
given-up heard body (Answered reply) handed not_out settled none = absurd (none reply settled.0 settled.1)
given-up heard body Undelivered handed not_out settled none = refl
given-up heard body Unanswered handed not_out settled none = refl

pub is-astray : (first : StationState) (executed : List (List ℕ)) (issued : List Issued) (heard sent replies : List (List ℕ)) (reply : List ℕ) → Differ (map tns_of executed)
    → map (λ e. e.1) (exchanges first executed) ≡ filter is_reply sent ++ replies → IsWithin (heard ++ reply ∷ []) sent → is_reply reply ≡ true → AreSettledBy heard issued
    → IsFound (exchanges first executed) executed issued reply → answered_place issued reply ≡ None → IsOfLost issued (exchanges first executed) reply
is-astray first executed issued heard sent replies reply differ all within is_answer settled f is = record {
  number = suc f.place;
  replies = record { command = f.command; is_command = f.is_at; is_answer = f.answer };
  given_up = given-up heard f.command.body f.command.standing f.is_out_of_hand (answered-none issued reply f.place f.command is f.is_at f.fits) (settled-at heard issued f.place f.command settled f.is_at)
      (λ earlier has fitted. other-answer first executed heard sent replies f.command.body reply earlier differ all within is_answer f.fits has fitted);
}
