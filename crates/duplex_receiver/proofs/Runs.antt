-- No accepted body has the key of the one before it.
use Rattle.std.proofs.Common.{◌≡◌, ◌≢◌, ℕ, ◌-◌, suc, Bool, true, false, ◌&&◌, eqb, List, [], ◌∷◌, ◌++◌, length, slice_get, refl, sym, ap, subst, ◌∙◌, cond, eq-eqb, arith}
use Rattle.std.specs.List.{fold}
use Rattle.std.specs.Option.{option_map}
use Rattle.pccc_envelope.specs.declared.key.Key.{Key}
use Rattle.pccc_envelope.specs.Envelope.{key_of}
use Rattle.pccc_envelope.specs.Accepted.{Offer, Repeated, Accepted, Refused, same_key, is_kept, last_key, with_offer, accepted}
use Rattle.duplex_receiver.specs.Hearing.{KeysChange}

-- ---- keys

both_true : (a b c : Bool) → a ≡ true → b ≡ true → c ≡ true → (a && b && c) ≡ true
both_true true true true is_a is_b is_c = refl
both_true true true false is_a is_b is_c = cc
both_true true false c is_a is_b is_c = cc
both_true false b c is_a is_b is_c = cc

same_key-same : (key : Key) → same_key key key ≡ true
same_key-same key =
    both_true (eqb key.src key.src) (eqb key.cmd key.cmd) (eqb key.tns key.tns)
    (eq-eqb key.src key.src refl) (eq-eqb key.cmd key.cmd refl) (eq-eqb key.tns key.tns refl)

same_key-differ : (a b : Key) → same_key a b ≡ false → a ≢ b
same_key-differ a b differ same =
    let holds : same_key a b ≡ true = subst (λ k. same_key a k ≡ true) same (same_key-same a) in
    cc

-- ---- runs of keys

last_key-cons : (body next : List ℕ) (more : List (List ℕ)) → last_key (body ∷ next ∷ more) ≡ last_key (next ∷ more)
last_key-cons body next more =
    let two : length (body ∷ next ∷ more) - 1 ≡ suc (length more) = omega arith in
    let one : length (next ∷ more) - 1 ≡ length more = omega arith in
    ap (λ i. option_map key_of (slice_get (body ∷ next ∷ more) i)) two
    ∙ sym (ap (λ i. option_map key_of (slice_get (next ∷ more) i)) one)

KeysChange-append : (bodies : List (List ℕ)) (body : List ℕ) → KeysChange bodies → is_kept (last_key bodies) (key_of body) ≡ false
    → KeysChange (bodies ++ body ∷ [])
KeysChange-append [] body change new = tt
KeysChange-append (last ∷ []) body change new = (same_key-differ (key_of last) (key_of body) new, tt)
KeysChange-append (first ∷ next ∷ more) body change new =
    (change.0, KeysChange-append (next ∷ more) body change.1 (sym (ap (λ kept. is_kept kept (key_of body)) (last_key-cons first next more)) ∙ new))

by_test : (bodies : List (List ℕ)) (body : List ℕ) (repeat room : Bool) → (repeat ≡ false → KeysChange (bodies ++ body ∷ [])) → KeysChange bodies
    → KeysChange (elim (cond repeat Repeated (cond room Accepted Refused)) as (λ _. List (List ℕ)) [ Repeated ↦ bodies | Accepted ↦ bodies ++ body ∷ [] | Refused ↦ bodies ])
by_test bodies body true room grown change = change
by_test bodies body false true grown change = grown refl
by_test bodies body false false grown change = change

KeysChange-with_offer : (bodies : List (List ℕ)) (offer : Offer) → KeysChange bodies → KeysChange (with_offer bodies offer)
KeysChange-with_offer bodies offer change =
    by_test bodies offer.body (is_kept (last_key bodies) (key_of offer.body)) offer.has_room (KeysChange-append bodies offer.body change) change

KeysChange-fold : (bodies : List (List ℕ)) (offers : List Offer) → KeysChange bodies → KeysChange (fold with_offer bodies offers)
KeysChange-fold bodies [] change = change
KeysChange-fold bodies (offer ∷ offers) change = KeysChange-fold (with_offer bodies offer) offers (KeysChange-with_offer bodies offer change)

-- over any list of messages
pub KeysChange-accepted : (offers : List Offer) → KeysChange (accepted offers)
KeysChange-accepted offers = KeysChange-fold [] offers tt
