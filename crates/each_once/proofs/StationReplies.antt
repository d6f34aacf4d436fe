-- What a reply has in common with its command, and that a station's replies fit the commands in their order.
use Rattle.std.proofs.Common.{◌≡◌, ◌∙◌, ℕ, zero, suc, Bool, true, ◌&&◌, List, [], ◌∷◌, ◌++◌, length, map, Some, slice_get, slice_index, bit_or, refl, sym, ap, ap₂, subst}
use Rattle.std.proofs.lemmas.List.{length-map}
use Rattle.std.specs.List.{fold}
use Rattle.std.proofs.Math.Nat.{mod-add-div}
use Rattle.std.proofs.lemmas.Bool.{and_parts, eqb-true, eq-eqb}
use Rattle.std.proofs.lemmas.Option.{same_Some}
use Rattle.pccc_envelope.specs.Envelope.{envelope_of, is_reply, tns_of, key_of}
use Rattle.pccc_envelope.proofs.Replies.{is_reply-reply_form}
use Rattle.data_files.specs.Effect.{Effect}
use Rattle.df1_node.specs.Answer.{StationState, after_answer, reply_to, reply_body, done, status_of, extension_of}
use Rattle.df1_node.specs.Initiator.{is_reply_to}
use Rattle.each_once.specs.Exchanges.{exchanges}

-- ---- a reply that fits a command

all-four : (a b c d : Bool) → a ≡ true → b ≡ true → c ≡ true → d ≡ true → (a && b && c && d) ≡ true
all-four a b c d p q r s = rw (p, q, r, s) refl

-- the four fields by which it fits
pub fits-fields : (body reply : List ℕ) → is_reply_to body reply ≡ true →
    (tns_of reply ≡ tns_of body) × (slice_index reply 2 ≡ bit_or (slice_index body 2) 64) × (slice_index reply 1 ≡ slice_index body 0) × (slice_index reply 0 ≡ slice_index body 1)
fits-fields body reply h =
    let dst = and_parts _ _ h in
    let src = and_parts _ _ dst.0 in
    let cmd = and_parts _ _ src.0 in
    (eqb-true _ _ cmd.0, eqb-true _ _ cmd.1, eqb-true _ _ src.1, eqb-true _ _ dst.1)

pub fits-tns : (body reply : List ℕ) → is_reply_to body reply ≡ true → tns_of reply ≡ tns_of body
fits-tns body reply h = (fits-fields body reply h).0

pub fits-key : (body r s : List ℕ) → is_reply_to body r ≡ true → is_reply_to body s ≡ true → key_of r ≡ key_of s
fits-key body r s f g =
    let a = fits-fields body r f in
    let b = fits-fields body s g in
    let src : slice_index r 1 ≡ slice_index s 1 = cc in
    let cmd : slice_index r 2 ≡ slice_index s 2 = cc in
    let tns : tns_of r ≡ tns_of s = cc in
    rw (src, cmd, tns) refl

-- ---- the reply that a station makes

-- it fits its command, and is a reply
body-fits : (body : List ℕ) (e : Effect) → (is_reply_to body (reply_body body e) ≡ true) × (is_reply (reply_body body e) ≡ true) × (tns_of (reply_body body e) ≡ tns_of body)
body-fits body e =
    let tns : tns_of (reply_body body e) ≡ tns_of body = mod-add-div (tns_of body) 256 in (
      all-four _ _ _ _ (eq-eqb _ _ tns) (eq-eqb _ _ refl) (eq-eqb _ _ refl) (eq-eqb _ _ refl),
      is_reply-reply_form (envelope_of body) (status_of e.code) (extension_of e.code ++ e.reply),
      tns,
    )

-- ---- exchanges

pub exchanges-push : (first : StationState) (xs : List (List ℕ)) (x : List ℕ) → exchanges first (xs ++ x ∷ []) ≡ exchanges first xs ++ (x, reply_to (fold after_answer first xs) x) ∷ []
exchanges-push first [] x = refl
exchanges-push first (b ∷ xs) x = ap (λ es. (b, reply_to first b) ∷ es) (exchanges-push (after_answer first b) xs x)

pub exchanges-bodies : (first : StationState) (xs : List (List ℕ)) → map (λ e. e.0) (exchanges first xs) ≡ xs
exchanges-bodies first [] = refl
exchanges-bodies first (b ∷ xs) = ap (λ bs. b ∷ bs) (exchanges-bodies (after_answer first b) xs)

pub exchanges-length : (first : StationState) (xs : List (List ℕ)) → length (map (λ e. e.1) (exchanges first xs)) ≡ length xs
exchanges-length first xs = length-map (exchanges first xs) (λ e. e.1) ∙ sym (length-map (exchanges first xs) (λ e. e.0)) ∙ ap length (exchanges-bodies first xs)

pub exchanges-tns : (first : StationState) (xs : List (List ℕ)) → map tns_of (map (λ e. e.1) (exchanges first xs)) ≡ map tns_of xs
exchanges-tns first [] = refl
exchanges-tns first (b ∷ xs) = ap₂ (λ t ts. t ∷ ts) (body-fits b (done first b)).2 (exchanges-tns (after_answer first b) xs)

pub exchange-fits : (first : StationState) (xs : List (List ℕ)) (k : ℕ) (body reply : List ℕ) → slice_get (exchanges first xs) k ≡ Some (body, reply) →
    (is_reply_to body reply ≡ true) × (is_reply reply ≡ true) × (tns_of reply ≡ tns_of body)
exchange-fits first [] k body reply e = absurd cc
exchange-fits first (b ∷ xs) zero body reply e =
    subst (λ p. (is_reply_to p.0 p.1 ≡ true) × (is_reply p.1 ≡ true) × (tns_of p.1 ≡ tns_of p.0)) (same_Some _ _ e) (body-fits b (done first b))
exchange-fits first (b ∷ xs) (suc k) body reply e = exchange-fits (after_answer first b) xs k body reply e
