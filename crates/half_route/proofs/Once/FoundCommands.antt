-- The command that a reply is to: where an end executed what another one sent, its replies are to commands that this one handed out.
use Rattle.std.proofs.Common.{◌≡◌, ◌∙◌, ℕ, zero, suc, Bool, true, false, cond, List, [], ◌∷◌, ◌++◌, map, Some, None, refl, ap, ap₂, sym, subst}
use Rattle.std.specs.Prelude.{slice_get, ◌==◌}
use Rattle.std.specs.Int.{bit_at}
use Rattle.std.specs.List.{filter}
use Rattle.std.proofs.lemmas.Bool.{eq-eqb}
use Rattle.pccc_envelope.specs.declared.key.Key.{Key}
use Rattle.pccc_envelope.specs.Envelope.{is_reply, tns_of}
use Rattle.df1_node.specs.Answer.{StationState, after_answer, reply_to}
use Rattle.df1_node.specs.Initiator.{Issued, is_waiting, is_reply_to, answered_place}
use Rattle.df1_node.specs.Node.{NodeState}
use Rattle.replay_report.specs.declared.record.Line.{Line}
use Rattle.each_once.specs.Commands.{is_command}
use Rattle.each_once.specs.Exchanges.{exchanges, replies_to}
use Rattle.each_once.specs.OfStation.{is_from}
use Rattle.each_once.proofs.AcceptedReplies.{handed-differ, given-up}
use Rattle.each_once.proofs.AnsweringStation.{reply-of, within-through}
use Rattle.each_once.proofs.CommandBodies.{answered-none}
use Rattle.each_once.proofs.HandedOut.{handed-at, settled-at}
use Rattle.each_once.proofs.StationReplies.{exchange-fits, fits-fields, fits-key}
use Rattle.each_once.proofs.Sublists.{Has, IsWithin, nothing, skips, keeps, within-has, within-filter, Differ, differ-within, differ-last, get-last, has-filter, filter-keeps, same-some}
use Rattle.half_route.specs.Once.{is_for}
use Rattle.half_route.proofs.Once.EndSteps.{End, EndHolds, IsFrom, IsTo}
use Rattle.half_route.proofs.Once.Partaking.{handed-replies}
use Rattle.half_route.proofs.Once.Telling.{IsLost}

-- ---- lists of those that pass a test

module _ {A : Type 0} where
  push-has : (passes : Bool) (p : A → Bool) (y : A) (xs : List A) (x : A) → p y ≡ passes → (Has (filter p xs) x → Has xs x × (p x ≡ true)) → Has (cond passes (y ∷ filter p xs) (filter p xs)) x → Has (y ∷ xs) x × (p x ≡ true)
  push-has true p y xs x is later (zero, at) = ((0, at), ap p (sym (same-some y x at)) ∙ is)
  push-has true p y xs x is later (suc k, at) = let rest = later (k, at) in ((suc rest.0.0, rest.0.1), rest.1)
  push-has false p y xs x is later has = let rest = later has in ((suc rest.0.0, rest.0.1), rest.1)

  -- what is among them is among all, and passes it
  pub filter-has : (p : A → Bool) (xs : List A) (x : A) → Has (filter p xs) x → Has xs x × (p x ≡ true)
  filter-has p [] x has = absurd (let no = has.1 in cc)
  filter-has p (y ∷ xs) x has = push-has (p y) p y xs x refl (filter-has p xs x) has

  -- two tests, in either order
  swap-one : (a b : Bool) (p q : A → Bool) (x : A) (xs : List A) → p x ≡ a → q x ≡ b → filter p (filter q xs) ≡ filter q (filter p xs)
      → filter p (cond b (x ∷ filter q xs) (filter q xs)) ≡ filter q (cond a (x ∷ filter p xs) (filter p xs))
  swap-one true true p q x xs is-p is-q same = rw (is-p, is-q) (ap (λ (ys : List A). x ∷ ys) same)
  swap-one true false p q x xs is-p is-q same = rw is-q same
  swap-one false true p q x xs is-p is-q same = rw is-p same
  swap-one false false p q x xs is-p is-q same = same

  pub filter-swap : (p q : A → Bool) (xs : List A) → filter p (filter q xs) ≡ filter q (filter p xs)
  filter-swap p q [] = refl
  filter-swap p q (x ∷ xs) = swap-one (p x) (q x) p q x xs refl refl (filter-swap p q xs)

  filter-one : (passes : Bool) (x : A) (some all : List A) → IsWithin some all → IsWithin (cond passes (x ∷ some) some) (x ∷ all)
  filter-one true x some all within = keeps x some all within
  filter-one false x some all within = skips x some all within

  pub filter-within : (p : A → Bool) (xs : List A) → IsWithin (filter p xs) xs
  filter-within p [] = nothing
  filter-within p (x ∷ xs) = filter-one (p x) x (filter p xs) xs (filter-within p xs)

-- ---- the command

-- what a reply is to: a command that one end executed and answered by it, and that the other one handed out
pub record IsFound (x t : End) (sent accepted : List (List ℕ)) (issued : List Issued) (reply : List ℕ) : Type 0 where
  pub at : ℕ
  pub place : ℕ
  pub command : Issued
  pub exchanged : slice_get (exchanges t.first (filter is_command accepted)) at ≡ Some (command.body, reply)
  pub is_at : slice_get issued place ≡ Some command
  pub is_out_of_hand : is_waiting command.standing ≡ false
  pub was_handed : Has (filter is_command sent) command.body
  pub fits : is_reply_to command.body reply ≡ true
  pub to_it : IsTo t.address command.body

pub found : {x t : End} {lines : List Line} (node other : NodeState) (accepted sent accepted_by sent_by : List (List ℕ)) (reply : List ℕ) → EndHolds x accepted node sent lines → EndHolds t accepted_by other sent_by lines
    → IsWithin (filter (is_from x.address) accepted_by) sent → Has sent_by reply → is_reply reply ≡ true → IsTo x.address reply → IsFound x t sent accepted_by node.initiator.issued reply
found {x} {t} node other accepted sent accepted_by sent_by reply e by chain has replies to =
    let executed = filter is_command accepted_by in
    let in_sent = has-filter is_reply sent_by has.0 reply replies has.1 in
    let r = reply-of t.first executed reply (within-has (filter is_reply sent_by) (replies_to t.first executed) reply (handed-replies by.partakes) in_sent) in
    let fields = fits-fields r.body reply r.fits in
    let from : is_from x.address r.body ≡ true = eq-eqb _ _ (sym fields.3 ∙ to) in
    let was = filter-has is_command accepted_by r.body (r.place, r.is_executed) in
    let accepted_from = has-filter (is_from x.address) accepted_by was.0.0 r.body from was.0.1 in
    let was_sent = within-has (filter (is_from x.address) accepted_by) sent r.body chain accepted_from in
    let handed = has-filter is_command sent was_sent.0 r.body was.1 was_sent.1 in
    let c = handed-at node.initiator.issued (filter is_command sent) handed.0 r.body e.partakes.initiates.in_order handed.1 in
    record {
      at = r.place;
      place = c.0;
      command = c.1;
      exchanged = r.exchanged ∙ ap (λ (body : List ℕ). Some (body, reply)) (sym c.3);
      is_at = c.2;
      is_out_of_hand = c.4;
      was_handed = subst (λ (body : List ℕ). Has (filter is_command sent) body) (sym c.3) handed;
      fits = subst (λ (body : List ℕ). is_reply_to body reply ≡ true) (sym c.3) r.fits;
      to_it = subst (IsTo t.address) (sym c.3) (by.to_it r.place r.body r.is_executed);
    }

-- ---- where it answers none that is out, the command was given up

-- the replies to an end have the TNS of the commands from it
replies-one : (address : ℕ) (body reply : List ℕ) (commands replies : List (List ℕ)) → is_reply_to body reply ≡ true → map tns_of replies ≡ map tns_of commands → (to from : Bool) → is_for address reply ≡ to → is_from address body ≡ from
    → map tns_of (cond to (reply ∷ replies) replies) ≡ map tns_of (cond from (body ∷ commands) commands)
replies-one address body reply commands replies fits same true true is-to is-from = ap₂ (λ (n : ℕ) (ns : List ℕ). n ∷ ns) (fits-fields body reply fits).0 same
replies-one address body reply commands replies fits same false false is-to is-from = same
replies-one address body reply commands replies fits same true false is-to is-from = let other : true ≡ false = sym is-to ∙ ap (λ n. n == address) (fits-fields body reply fits).3 ∙ is-from in absurd cc
replies-one address body reply commands replies fits same false true is-to is-from = let other : false ≡ true = sym is-to ∙ ap (λ n. n == address) (fits-fields body reply fits).3 ∙ is-from in absurd cc

replies-tns : (address : ℕ) (first : StationState) (executed : List (List ℕ)) → map tns_of (filter (is_for address) (replies_to first executed)) ≡ map tns_of (filter (is_from address) executed)
replies-tns address first [] = refl
replies-tns address first (body ∷ executed) =
    let reply = reply_to first body in
    replies-one address body reply (filter (is_from address) executed) (filter (is_for address) (replies_to (after_answer first body) executed)) (exchange-fits first (body ∷ executed) 0 body reply refl).0
    (replies-tns address (after_answer first body) executed) (is_for address reply) (is_from address body) refl refl

-- an earlier reply to it would be of the same TNS
other-answer : {x t : End} {lines : List Line} (node other : NodeState) (accepted sent accepted_by sent_by : List (List ℕ)) (body reply earlier : List ℕ) → EndHolds x accepted node sent lines → EndHolds t accepted_by other sent_by lines
    → IsWithin (filter (is_from x.address) accepted_by) sent → IsWithin (filter (is_from t.address) (accepted ++ reply ∷ [])) sent_by → is_reply reply ≡ true → IsFrom t.address reply → IsTo x.address reply
    → is_reply_to body reply ≡ true → Has accepted earlier → is_reply_to body earlier ≡ true → ⊥
other-answer {x} {t} node other accepted sent accepted_by sent_by body reply earlier e by chain back replies from to fits has fitted =
    let executed = filter is_command accepted_by in
    let made = replies_to t.first executed in
    let key = fits-key body earlier reply fitted fits in
    let was_reply : is_reply earlier ≡ true = ap (λ (k : Key). bit_at k.cmd 6 == 1) key ∙ replies in
    let fields = fits-fields body reply fits in
    let was = fits-fields body earlier fitted in
    let was_from : is_from t.address earlier ≡ true = eq-eqb _ _ (was.2 ∙ sym fields.2 ∙ from) in
    let was_to : is_for x.address earlier ≡ true = eq-eqb _ _ (was.3 ∙ sym fields.3 ∙ to) in
    let of_them = filter (is_from t.address) accepted in
    let theirs = filter (is_for x.address) (filter is_reply of_them) in
    let more : filter (is_for x.address) (filter is_reply (filter (is_from t.address) (accepted ++ reply ∷ []))) ≡ theirs ++ reply ∷ [] =
    ap (λ (l : List (List ℕ)). filter (is_for x.address) (filter is_reply l)) (filter-keeps (is_from t.address) accepted reply (eq-eqb _ _ from))
    ∙ ap (filter (is_for x.address)) (filter-keeps is_reply of_them reply replies) ∙ filter-keeps (is_for x.address) (filter is_reply of_them) reply (eq-eqb _ _ to) in
    let within : IsWithin (theirs ++ reply ∷ []) (filter (is_for x.address) made) =
    subst (λ (l : List (List ℕ)). IsWithin l (filter (is_for x.address) made)) more
    (within-filter (is_for x.address) (filter is_reply (filter (is_from t.address) (accepted ++ reply ∷ []))) made
    (within-through (filter is_reply (filter (is_from t.address) (accepted ++ reply ∷ []))) (filter is_reply sent_by) made (within-filter is_reply (filter (is_from t.address) (accepted ++ reply ∷ [])) sent_by back) (handed-replies by.partakes))) in
    let commands : IsWithin (filter (is_from x.address) executed) (filter is_command sent) =
    subst (λ (l : List (List ℕ)). IsWithin l (filter is_command sent)) (filter-swap is_command (is_from x.address) accepted_by) (within-filter is_command (filter (is_from x.address) accepted_by) sent chain) in
    let numbers : Differ (map tns_of (filter (is_from x.address) executed)) = differ-within tns_of (filter (is_from x.address) executed) (filter is_command sent) commands (handed-differ node.initiator (filter is_command sent) accepted e.partakes.initiates e.few) in
    let differ : Differ (map tns_of (theirs ++ reply ∷ [])) =
    differ-within tns_of (theirs ++ reply ∷ []) (filter (is_for x.address) made) within (subst Differ (sym (replies-tns x.address t.first executed)) numbers) in
    let first = has-filter (is_from t.address) accepted has.0 earlier was_from has.1 in
    let second = has-filter is_reply of_them first.0 earlier was_reply first.1 in
    let third = has-filter (is_for x.address) (filter is_reply of_them) second.0 earlier was_to second.1 in
    differ-last tns_of theirs third.0 earlier reply differ third.1 (ap (λ (k : Key). k.tns) key)

-- the end accepts the reply, which answers no command that is out
pub lost : {x t : End} {lines : List Line} (node other : NodeState) (accepted sent accepted_by sent_by : List (List ℕ)) (reply : List ℕ) → EndHolds x accepted node sent lines → EndHolds t accepted_by other sent_by lines
    → IsWithin (filter (is_from x.address) accepted_by) sent → IsWithin (filter (is_from t.address) (accepted ++ reply ∷ [])) sent_by → IsFrom t.address reply → IsTo x.address reply
    → is_reply reply ≡ true → answered_place node.initiator.issued reply ≡ None → IsLost (filter is_command sent) node.initiator.issued reply
lost {x} {t} node other accepted sent accepted_by sent_by reply e by chain back from to replies none =
    let came : Has (filter (is_from t.address) accepted ++ reply ∷ []) reply = get-last (filter (is_from t.address) accepted) reply in
    let has = within-has (filter (is_from t.address) (accepted ++ reply ∷ [])) sent_by reply back (subst (λ (l : List (List ℕ)). Has l reply) (sym (filter-keeps (is_from t.address) accepted reply (eq-eqb _ _ from))) came) in
    let f = found node other accepted sent accepted_by sent_by reply e by chain has replies to in
    let c = f.command in
    record {
      place = f.place;
      command = c;
      is_at = f.is_at;
      was_handed = f.was_handed;
      fits = f.fits;
      given_up = given-up accepted c.body c.standing f.is_out_of_hand (answered-none node.initiator.issued reply f.place c none f.is_at f.fits) (settled-at accepted node.initiator.issued f.place c e.partakes.initiates.settled f.is_at)
          (λ earlier was fitted. other-answer node other accepted sent accepted_by sent_by c.body reply earlier e by chain back replies from to f.fits was fitted);
    }
