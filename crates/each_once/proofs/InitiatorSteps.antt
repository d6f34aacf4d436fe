-- That an initiator keeps to what it handed out and heard, at each of its steps.
use Rattle.std.proofs.Common.{◌≡◌, ◌∙◌, ℕ, zero, suc, ◌+◌, ◌-◌, ◌<◌, Bool, true, false, cond, eqb, nat_lt, List, [], ◌∷◌, ◌++◌, length, map, Option, Some, None, option_map, refl, sym, ap, ap₂, subst, inl, inr, arith, add-zero, zero-add}
use Rattle.std.specs.Prelude.{◌%◌, slice_get, slice_index}
use Rattle.std.specs.Int.{bit_at}
use Rattle.std.specs.Option.{option_map_or}
use Rattle.std.proofs.Math.Nat.{mod-add-div}
use Rattle.std.proofs.lemmas.Bool.{and_parts}
use Rattle.std.proofs.lemmas.List.{map-append, length-map}
use Rattle.std.proofs.lemmas.Option.{same_Some, slice_get-map, get_or_from_slice_get}
use Rattle.pccc_envelope.specs.Envelope.{is_reply, tns_of}
use Rattle.df1_node.specs.declared.handed.Handed.{Handed}
use Rattle.df1_node.specs.declared.handed.Handed.TheVariants as last
use Rattle.df1_node.specs.Initiator.{Issued, Standing, Waiting, Out, Answered, Undelivered, Unanswered, InitiatorState, is_waiting, is_out, is_reply_to, restated, ticked, all_ticked, cleared, all_cleared, next_issued, source_of, count_out_of, is_due, next_place, next_command, answered_place, is_out_at, after_issue, after_reply, after_hand_out}
use Rattle.df1_node.specs.Node.{initiator_after}
use Rattle.each_once.proofs.Sublists.{Has, from-map, get-seam}
use Rattle.each_once.proofs.HandedOrder.{AreInTurn, ButOne, source_at, turn-clear, turn-issue, turn-hand_out}
use Rattle.each_once.proofs.HandedOut.{bodies_of, waits_of, AreHanded, AreNumbered, IsSettledBy, AreSettledBy, Initiates, numbered-at}
use Rattle.each_once.proofs.CommandBodies.{IsFirst, next-first, answered-some, bodies-restated, bodies-tick, bodies-clear, bodies-hand_out}

-- ---- a command more

length-waits : (cs : List Issued) → length (waits_of cs) ≡ length (bodies_of cs)
length-waits cs = length-map cs (λ (c : Issued). is_waiting c.standing) ∙ sym (length-map cs (λ (c : Issued). c.body))

handed-issue : (cs : List Issued) (xs : List (List ℕ)) (body : List ℕ) → AreHanded cs xs → AreHanded (cs ++ record { body = body; standing = Waiting } ∷ []) xs
handed-issue cs xs body h =
    let new : Issued = record { body = body; standing = Waiting } in
    let bodies = map-append (λ (c : Issued). c.body) cs (new ∷ []) in
    let waits = map-append (λ (c : Issued). is_waiting c.standing) cs (new ∷ []) in
    subst (λ (bs : List (List ℕ)). AreInTurn bs (waits_of (cs ++ new ∷ [])) xs) (sym bodies)
    (subst (λ (ws : List Bool). AreInTurn (bodies_of cs ++ body ∷ []) ws xs) (sym waits) (turn-issue (bodies_of cs) (waits_of cs) xs body (length-waits cs) h))

numbered-issue : (tns place : ℕ) (cs : List Issued) (c : Issued) → is_reply c.body ≡ false → tns_of c.body ≡ (tns + (place + length cs)) % 65536 → AreNumbered tns place cs → AreNumbered tns place (cs ++ c ∷ [])
numbered-issue tns place [] c plain e n = (plain, e ∙ ap (λ m. (tns + m) % 65536) (add-zero place), tt)
numbered-issue tns place (d ∷ cs) c plain e n =
    let shift : place + suc (length cs) ≡ place + 1 + length cs = omega arith in
    (n.0, n.1, numbered-issue tns (place + 1) cs c plain (e ∙ ap (λ m. (tns + m) % 65536) shift) n.2)

settled-issue : (heard : List (List ℕ)) (cs : List Issued) (c : Issued) → IsSettledBy heard c.body c.standing → AreSettledBy heard cs → AreSettledBy heard (cs ++ c ∷ [])
settled-issue heard [] c is s = (is, tt)
settled-issue heard (d ∷ cs) c is s = (s.0, settled-issue heard cs c is s.1)

pub initiates-issue : (s : InitiatorState) (src dst : ℕ) (payload : List ℕ) (handed heard : List (List ℕ)) → Initiates s handed heard → eqb (bit_at (slice_index payload 0) 6) 1 ≡ false → length s.issued < 65535 →
    Initiates (after_issue s src dst payload) handed heard
initiates-issue s src dst payload handed heard h is-no-reply few =
    let c : Issued = record { body = next_issued s src dst payload; standing = Waiting } in
    record {
      in_order = handed-issue s.issued handed c.body h.in_order;
      numbered = numbered-issue s.tns 0 s.issued c is-no-reply (mod-add-div ((s.tns + length s.issued) % 65536) 256 ∙ ap (λ m. (s.tns + m) % 65536) (sym (zero-add (length s.issued)))) h.numbered;
      settled = settled-issue heard s.issued c tt h.settled;
    }

-- ---- a message more

get-append : (xs ys : List (List ℕ)) (k : ℕ) (x : List ℕ) → slice_get xs k ≡ Some x → slice_get (xs ++ ys) k ≡ Some x
get-append [] ys k x e = absurd cc
get-append (y ∷ xs) ys zero x e = e
get-append (y ∷ xs) ys (suc k) x e = get-append xs ys k x e

settled-more : (heard : List (List ℕ)) (x body : List ℕ) (standing : Standing) → IsSettledBy heard body standing → IsSettledBy (heard ++ x ∷ []) body standing
settled-more heard x body Waiting is = tt
settled-more heard x body (Out left) is = tt
settled-more heard x body (Answered reply) is = ((is.0.0, get-append heard (x ∷ []) is.0.0 reply is.0.1), is.1)
settled-more heard x body Undelivered is = tt
settled-more heard x body Unanswered is = tt

settled-heard : (heard : List (List ℕ)) (x : List ℕ) (cs : List Issued) → AreSettledBy heard cs → AreSettledBy (heard ++ x ∷ []) cs
settled-heard heard x [] s = tt
settled-heard heard x (c ∷ cs) s = (settled-more heard x c.body c.standing s.0, settled-heard heard x cs s.1)

pub initiates-heard : {s : InitiatorState} {handed heard : List (List ℕ)} → Initiates s handed heard → (x : List ℕ) → Initiates s handed (heard ++ x ∷ [])
initiates-heard {s} {handed} {heard} h x = record { in_order = h.in_order; numbered = h.numbered; settled = settled-heard heard x s.issued h.settled }

-- ---- a command that stands otherwise

out-not-waiting : (standing : Standing) → is_out standing ≡ true → is_waiting standing ≡ false
out-not-waiting Waiting out = cc
out-not-waiting (Out left) out = refl
out-not-waiting (Answered reply) out = refl
out-not-waiting Undelivered out = refl
out-not-waiting Unanswered out = refl

-- the same commands wait
waits-restated : (cs : List Issued) (p : ℕ) (standing : Standing) → is_waiting standing ≡ false → ((c : Issued) → slice_get cs p ≡ Some c → is_waiting c.standing ≡ false) → waits_of (restated cs p standing) ≡ waits_of cs
waits-restated [] p standing is was = refl
waits-restated (c ∷ cs) zero standing is was = ap (λ w. w ∷ waits_of cs) (is ∙ sym (was c refl))
waits-restated (c ∷ cs) (suc p) standing is was = ap (λ ws. is_waiting c.standing ∷ ws) (waits-restated cs p standing is was)

-- the same bodies, of which the same wait
handed-same : (cs ds : List Issued) (xs : List (List ℕ)) → bodies_of ds ≡ bodies_of cs → waits_of ds ≡ waits_of cs → AreHanded cs xs → AreHanded ds xs
handed-same cs ds xs bodies waits h =
    subst (λ (bs : List (List ℕ)). AreInTurn bs (waits_of ds) xs) (sym bodies) (subst (λ (ws : List Bool). AreInTurn (bodies_of cs) ws xs) (sym waits) h)

-- numbers are those of the bodies
numbered-bodies : (tns place : ℕ) (cs ds : List Issued) → map (λ c. c.body) ds ≡ map (λ c. c.body) cs → AreNumbered tns place cs → AreNumbered tns place ds
numbered-bodies tns place [] [] e n = tt
numbered-bodies tns place [] (d ∷ ds) e n = absurd cc
numbered-bodies tns place (c ∷ cs) [] e n = absurd cc
numbered-bodies tns place (c ∷ cs) (d ∷ ds) e n =
    let same : d.body ≡ c.body = cc in
    let rest : map (λ x. x.body) ds ≡ map (λ x. x.body) cs = cc in
    (ap is_reply same ∙ n.0, ap tns_of same ∙ n.1, numbered-bodies tns (place + 1) cs ds rest n.2)

settled-restated : (heard : List (List ℕ)) (cs : List Issued) (p : ℕ) (standing : Standing) → ((c : Issued) → slice_get cs p ≡ Some c → IsSettledBy heard c.body standing) → AreSettledBy heard cs → AreSettledBy heard (restated cs p standing)
settled-restated heard [] p standing is s = s
settled-restated heard (c ∷ cs) zero standing is s = (is c refl, s.1)
settled-restated heard (c ∷ cs) (suc p) standing is s = (s.0, settled-restated heard cs p standing is s.1)

initiates-restated : (s : InitiatorState) (handed heard : List (List ℕ)) (p : ℕ) (standing : Standing) → is_waiting standing ≡ false →
    ((c : Issued) → slice_get s.issued p ≡ Some c → (is_waiting c.standing ≡ false) × IsSettledBy heard c.body standing) →
    Initiates s handed heard → Initiates (record s { issued = restated s.issued p standing }) handed heard
initiates-restated s handed heard p standing is was h =
    record {
      in_order = handed-same s.issued _ handed (bodies-restated s.issued p standing) (waits-restated s.issued p standing is (λ c e. (was c e).0)) h.in_order;
      numbered = numbered-bodies s.tns 0 s.issued _ (bodies-restated s.issued p standing) h.numbered;
      settled = settled-restated heard s.issued p standing (λ c e. (was c e).1) h.settled;
    }

-- ---- a reply

replied-at : (s : InitiatorState) (handed heard : List (List ℕ)) (r : List ℕ) (place : Option ℕ) → answered_place s.issued r ≡ place → Has heard r → Initiates s handed heard →
    Initiates (record s { issued = option_map_or (λ p. restated s.issued p (Answered r)) place s.issued }) handed heard
replied-at s handed heard r None e has h = h
replied-at s handed heard r (Some p) e has h =
    let found = answered-some s.issued r p e in
    initiates-restated s handed heard p (Answered r) refl (λ c at.
    let same : c ≡ found.0 = same_Some _ _ (sym at ∙ found.1) in (
      out-not-waiting c.standing (ap (λ x. is_out x.standing) same ∙ found.2),
      (has, ap (λ x. is_reply_to x.body r) same ∙ found.3),
    )) h

pub initiates-reply : {s : InitiatorState} {handed heard : List (List ℕ)} → Initiates s handed heard → (r : List ℕ) → Initiates (after_reply s r) handed (heard ++ r ∷ [])
initiates-reply {s} {handed} {heard} h r = replied-at s handed (heard ++ r ∷ []) r (answered_place s.issued r) refl (length heard, get-seam heard r []) (initiates-heard h r)

-- ---- a fate

given-up : (s : InitiatorState) (handed heard : List (List ℕ)) (p : ℕ) (out : Bool) → is_out_at s.issued p ≡ out → Initiates s handed heard →
    Initiates (record s { issued = cond out (restated s.issued p Undelivered) s.issued }) handed heard
given-up s handed heard p true e h =
    initiates-restated s handed heard p Undelivered refl (λ c at. (out-not-waiting c.standing (sym (ap (λ o. option_map_or (λ x. is_out x.standing) o false) at) ∙ e), tt)) h
given-up s handed heard p false e h = h

pub initiates-told : {s : InitiatorState} {handed heard : List (List ℕ)} → Initiates s handed heard → (last : Handed) → Initiates (initiator_after s last) handed heard
initiates-told h last.Nothing = h
initiates-told h last.Reply = h
initiates-told {s} {handed} {heard} h (last.Command p) = given-up s handed heard p (is_out_at s.issued p) refl h

-- ---- a tick

ticked-waits : (standing : Standing) → is_waiting (ticked standing) ≡ is_waiting standing
ticked-waits Waiting = refl
ticked-waits (Out left) = elim (nat_lt 1 left) as (λ b. is_waiting (cond b (Out (left - 1)) Unanswered) ≡ false) [ true ↦ refl | false ↦ refl ]
ticked-waits (Answered reply) = refl
ticked-waits Undelivered = refl
ticked-waits Unanswered = refl

ticked-settled : (heard : List (List ℕ)) (body : List ℕ) (standing : Standing) → IsSettledBy heard body standing → IsSettledBy heard body (ticked standing)
ticked-settled heard body Waiting is = tt
ticked-settled heard body (Out left) is = elim (nat_lt 1 left) as (λ b. IsSettledBy heard body (cond b (Out (left - 1)) Unanswered)) [ true ↦ tt | false ↦ tt ]
ticked-settled heard body (Answered reply) is = is
ticked-settled heard body Undelivered is = tt
ticked-settled heard body Unanswered is = tt

all-ticked-wait : (cs : List Issued) → waits_of (all_ticked cs) ≡ waits_of cs
all-ticked-wait [] = refl
all-ticked-wait (c ∷ cs) = ap₂ (λ w ws. w ∷ ws) (ticked-waits c.standing) (all-ticked-wait cs)

settled-ticked : (heard : List (List ℕ)) (cs : List Issued) → AreSettledBy heard cs → AreSettledBy heard (all_ticked cs)
settled-ticked heard [] s = tt
settled-ticked heard (c ∷ cs) s = (ticked-settled heard c.body c.standing s.0, settled-ticked heard cs s.1)

pub initiates-tick : {s : InitiatorState} {handed heard : List (List ℕ)} → Initiates s handed heard → Initiates (record s { issued = all_ticked s.issued }) handed heard
initiates-tick {s} {handed} {heard} h =
    record {
      in_order = handed-same s.issued _ handed (bodies-tick s) (all-ticked-wait s.issued) h.in_order;
      numbered = numbered-bodies s.tns 0 s.issued _ (bodies-tick s) h.numbered;
      settled = settled-ticked heard s.issued h.settled;
    }

-- ---- what waits is given up

cleared-waits : (standing : Standing) → is_waiting (cleared standing) ≡ false
cleared-waits Waiting = refl
cleared-waits (Out left) = refl
cleared-waits (Answered reply) = refl
cleared-waits Undelivered = refl
cleared-waits Unanswered = refl

cleared-settled : (heard : List (List ℕ)) (body : List ℕ) (standing : Standing) → IsSettledBy heard body standing → IsSettledBy heard body (cleared standing)
cleared-settled heard body Waiting is = tt
cleared-settled heard body (Out left) is = tt
cleared-settled heard body (Answered reply) is = is
cleared-settled heard body Undelivered is = tt
cleared-settled heard body Unanswered is = tt

none-waits : (cs : List Issued) (place : ℕ) (w : Bool) → slice_get (waits_of (all_cleared cs)) place ≡ Some w → w ≡ false
none-waits [] place w is = absurd cc
none-waits (c ∷ cs) zero w is = sym (same_Some _ w is) ∙ cleared-waits c.standing
none-waits (c ∷ cs) (suc place) w is = none-waits cs place w is

settled-cleared : (heard : List (List ℕ)) (cs : List Issued) → AreSettledBy heard cs → AreSettledBy heard (all_cleared cs)
settled-cleared heard [] s = tt
settled-cleared heard (c ∷ cs) s = (cleared-settled heard c.body c.standing s.0, settled-cleared heard cs s.1)

pub initiates-clear : {s : InitiatorState} {handed heard : List (List ℕ)} → Initiates s handed heard → Initiates (record s { issued = all_cleared s.issued }) handed heard
initiates-clear {s} {handed} {heard} h =
    record {
      in_order = subst (λ (bs : List (List ℕ)). AreInTurn bs (waits_of (all_cleared s.issued)) handed) (sym (bodies-clear s.issued)) (turn-clear (bodies_of s.issued) (waits_of s.issued) (waits_of (all_cleared s.issued)) handed (none-waits s.issued) h.in_order);
      numbered = numbered-bodies s.tns 0 s.issued _ (bodies-clear s.issued) h.numbered;
      settled = settled-cleared heard s.issued h.settled;
    }

-- ---- the next command

-- the command at one place waits no more
one-restated : (cs : List Issued) (q : ℕ) (standing : Standing) → is_waiting standing ≡ false → ButOne q (waits_of cs) (waits_of (restated cs q standing))
one-restated [] q standing stands place w is = absurd cc
one-restated (c ∷ cs) zero standing stands zero w is = inl (refl, sym (same_Some _ w is) ∙ stands)
one-restated (c ∷ cs) zero standing stands (suc place) w is = inr (λ e. omega (arith, e), is)
one-restated (c ∷ cs) (suc q) standing stands zero w is = inr (λ e. omega (arith, e), is)
one-restated (c ∷ cs) (suc q) standing stands (suc place) w is =
    elim (one-restated cs q standing stands place w is) [ inl this ↦ inl (ap suc this.0, this.1) | inr other ↦ inr (λ e. other.0 (omega (arith, e)), other.1) ]

body-at : (cs : List Issued) (k : ℕ) (c : Issued) → slice_get cs k ≡ Some c → slice_get (bodies_of cs) k ≡ Some c.body
body-at cs k c is = slice_get-map (λ (d : Issued). d.body) cs k ∙ ap (option_map (λ (d : Issued). d.body)) is

wait-at : (cs : List Issued) (k : ℕ) (c : Issued) → slice_get cs k ≡ Some c → slice_get (waits_of cs) k ≡ Some (is_waiting c.standing)
wait-at cs k c is = slice_get-map (λ (d : Issued). is_waiting d.standing) cs k ∙ ap (option_map (λ (d : Issued). is_waiting d.standing)) is

source-is : (cs : List Issued) (k : ℕ) (c : Issued) → slice_get cs k ≡ Some c → source_at (bodies_of cs) k ≡ source_of c
source-is cs k c is = ap (λ (body : List ℕ). slice_index body 1) (get_or_from_slice_get (bodies_of cs) k c.body [] (body-at cs k c is))

-- a command that waits is due where one of its source is
due-too : (s : InitiatorState) (c d : Issued) → is_due s c ≡ true → is_waiting d.standing ≡ true → source_of c ≡ source_of d → is_due s d ≡ true
due-too s c d due waits same =
    let may : nat_lt (count_out_of (source_of d) s.issued) s.per_source ≡ true = ap (λ (n : ℕ). nat_lt (count_out_of n s.issued) s.per_source) (sym same) ∙ (and_parts _ _ due).1 in
    rw (waits, may) refl

handed-next : (s : InitiatorState) (xs : List (List ℕ)) (body : List ℕ) (first : IsFirst (is_due s) s.issued body) → AreHanded s.issued xs → AreHanded (restated s.issued first.place (Out s.reply_ticks)) (xs ++ body ∷ [])
handed-next s xs body first h =
    let cs = s.issued in
    let ds = restated cs first.place (Out s.reply_ticks) in
    let c = first.command in
    let waits = (and_parts _ _ first.passes).0 in
    let before : (r : ℕ) → r < first.place → slice_get (waits_of cs) r ≡ Some true → source_at (bodies_of cs) first.place ≡ source_at (bodies_of cs) r → ⊥ = λ r below waiting same.
    let d = from-map (λ (x : Issued). is_waiting x.standing) cs r true waiting in
    let due = due-too s c d.0 first.passes d.2 (sym (source-is cs first.place c first.is_at) ∙ same ∙ source-is cs r d.0 d.1) in
    let not_due = first.others r d.0 below d.1 in
    let no : true ≡ false = sym due ∙ not_due in cc in
    subst (λ (bs : List (List ℕ)). AreInTurn bs (waits_of ds) (xs ++ body ∷ [])) (sym (bodies-restated cs first.place (Out s.reply_ticks)))
    (turn-hand_out (bodies_of cs) (waits_of cs) (waits_of ds) xs first.place body (body-at cs first.place c first.is_at ∙ ap Some first.has_body) (wait-at cs first.place c first.is_at ∙ ap Some waits) before
    (one-restated cs first.place (Out s.reply_ticks) refl) h)

settled-out : (heard : List (List ℕ)) (cs : List Issued) (place : Option ℕ) (left : ℕ) → AreSettledBy heard cs → AreSettledBy heard (option_map_or (λ p. restated cs p (Out left)) place cs)
settled-out heard cs None left s = s
settled-out heard cs (Some p) left s = settled-restated heard cs p (Out left) (λ c e. tt) s

pub initiates-hand_out : {s : InitiatorState} {handed heard : List (List ℕ)} (body : List ℕ) → next_command s ≡ Some body → Initiates s handed heard →
    Initiates (after_hand_out s) (handed ++ body ∷ []) heard
initiates-hand_out {s} {handed} {heard} body next h =
    let found = next-first s body next in
    record {
      in_order = subst (λ (place : Option ℕ). AreHanded (option_map_or (λ p. restated s.issued p (Out s.reply_ticks)) place s.issued) (handed ++ body ∷ [])) (sym found.1) (handed-next s handed body found.0 h.in_order);
      numbered = numbered-bodies s.tns 0 s.issued _ (bodies-hand_out s) h.numbered;
      settled = settled-out heard s.issued (next_place s) s.reply_ticks h.settled;
    }

pub next-is-command : {s : InitiatorState} {handed heard : List (List ℕ)} {body : List ℕ} → next_command s ≡ Some body → Initiates s handed heard → is_reply body ≡ false
next-is-command {s} {handed} {heard} {body} next h =
    let first = (next-first s body next).0 in
    ap is_reply (sym first.has_body) ∙ (numbered-at s.tns 0 s.issued first.place first.command h.numbered first.is_at).1
