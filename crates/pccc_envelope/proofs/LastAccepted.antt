-- The key that a filter keeps is that of the last accepted message.
use Rattle.std.proofs.Common.{◌≡◌, ℕ, ◌-◌, ◌<◌, List, [], ◌∷◌, ◌++◌, length, Option, Some, None, slice_get, refl, sym, ap, ◌∙◌, arith, length-append}
use Rattle.std.specs.List.{fold}
use Rattle.std.specs.Option.{option_map}
use Rattle.std.proofs.lemmas.List.Sums.{fold-append}
use Rattle.std.proofs.lemmas.Option.{slice_get-get_or}
use Rattle.std.proofs.Math.Seq.{get_or-append_seam}
use Rattle.pccc_envelope.specs.declared.key.Key.{Key}
use Rattle.pccc_envelope.specs.Envelope.{key_of}
use Rattle.pccc_envelope.specs.Accepted.{Offer, Verdict, Repeated, Accepted, Refused, judged, kept_after, last_key, with_offer, accepted}

-- the last element
slice_get-last : (bodies : List (List ℕ)) (body : List ℕ) → slice_get (bodies ++ body ∷ []) (length bodies) ≡ Some body
slice_get-last bodies body =
    let within : length bodies < length (bodies ++ body ∷ []) = rw length-append (omega arith) in
    slice_get-get_or (bodies ++ body ∷ []) (length bodies) body within ∙ ap Some (get_or-append_seam bodies body [] body)

last_place : (bodies : List (List ℕ)) (body : List ℕ) → length (bodies ++ body ∷ []) - 1 ≡ length bodies
last_place bodies body = rw length-append (omega arith)

pub last_key-append : (bodies : List (List ℕ)) (body : List ℕ) → last_key (bodies ++ body ∷ []) ≡ Some (key_of body)
last_key-append bodies body =
    ap (λ i. option_map key_of (slice_get (bodies ++ body ∷ []) i)) (last_place bodies body)
    ∙ ap (option_map key_of) (slice_get-last bodies body)

-- one message more
pub kept_after-last_key : (bodies : List (List ℕ)) (offer : Offer) → kept_after (last_key bodies) offer ≡ last_key (with_offer bodies offer)
kept_after-last_key bodies offer = by_verdict bodies offer (judged (last_key bodies) offer)
  where
    by_verdict : (bodies : List (List ℕ)) (offer : Offer) (v : Verdict)
        → elim v as (λ _. Option Key) [ Repeated ↦ last_key bodies | Accepted ↦ Some (key_of offer.body) | Refused ↦ last_key bodies ]
        ≡ last_key (elim v as (λ _. List (List ℕ)) [ Repeated ↦ bodies | Accepted ↦ bodies ++ offer.body ∷ [] | Refused ↦ bodies ])
    by_verdict bodies offer Repeated = refl
    by_verdict bodies offer Accepted = sym (last_key-append bodies offer.body)
    by_verdict bodies offer Refused = refl

-- from any accepted bodies on
pub fold-kept_after : (bodies : List (List ℕ)) (offers : List Offer) → fold kept_after (last_key bodies) offers ≡ last_key (fold with_offer bodies offers)
fold-kept_after bodies [] = refl
fold-kept_after bodies (offer ∷ offers) =
    ap (λ kept. fold kept_after kept offers) (kept_after-last_key bodies offer) ∙ fold-kept_after (with_offer bodies offer) offers

pub kept-is_last : (offers : List Offer) → fold kept_after None offers ≡ last_key (accepted offers)
kept-is_last offers = fold-kept_after [] offers

pub accepted-append : (offers : List Offer) (next : Offer) → accepted (offers ++ next ∷ []) ≡ with_offer (accepted offers) next
accepted-append offers next = fold-append with_offer [] offers (next ∷ [])
