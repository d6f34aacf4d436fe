-- A receiver that stands for some bytes stands for them with one more.
use Rattle.std.proofs.Common.{◌≡◌, ℕ, Bool, List, [], ◌∷◌, ◌++◌, Option, Some, None, refl, sym, ap, subst, ◌∙◌, cond}
use Rattle.std.specs.List.{fold}
use Rattle.std.proofs.lemmas.Grind.{flat_map-append, fold-append}
use Rattle.std.proofs.lemmas.List.{append-nil}
use Rattle.df1_base.specs.declared.link.Act.{Act}
use Rattle.df1_check.specs.declared.Check.{Check}
use Rattle.df1_frame.specs.declared.heard.Heard.{Heard}
use Rattle.df1_frame.specs.declared.heard.Heard.TheVariants as heard
use Rattle.df1_frame.specs.Line.{Splits, ReadOff, last_heard}
use Rattle.df1_frame.specs.Grammar.{Nothing, full_duplex}
use Rattle.df1_frame.proofs.LineLemmas.{one-only}
use Rattle.df1_frame.proofs.GrammarLemmas.{machine, works}
use Rattle.df1_frame.specs.Standing.{Outside, Decoding, decoding, lent, lent_at}
use Rattle.df1_frame.specs.Step.{next}
use Rattle.pccc_envelope.specs.declared.key.Key.{Key}
use Rattle.pccc_envelope.specs.Envelope.{key_of}
use Rattle.pccc_envelope.specs.Accepted.{Offer, Verdict, Repeated, Accepted, Refused, judged, last_key, with_offer, accepted}
use Rattle.pccc_envelope.proofs.LastAccepted.{kept_after-last_key}
use Rattle.duplex_receiver.specs.Receiver.{Hearing, ReceiverState, verdict_act, act_of, kept_at, hearing, act_at, after_byte}
use Rattle.duplex_receiver.specs.Hearing.{nothing_yet, one_more, offer_at, offers, accepted_of, act_after, is_accept, Stands}

-- ---- one more thing heard

offers-append : (before : List Hearing) (h : Hearing) → offers (before ++ h ∷ []) ≡ offers before ++ offer_at h
offers-append before h = flat_map-append offer_at before (h ∷ []) ∙ ap (λ more. offers before ++ more) (append-nil (offer_at h))

accepted_of-append : (before : List Hearing) (h : Hearing) → accepted_of (before ++ h ∷ []) ≡ fold with_offer (accepted_of before) (offer_at h)
accepted_of-append before h = ap accepted (offers-append before h) ∙ fold-append with_offer [] (offers before) (offer_at h)

kept_at-verdict : (kept : Option Key) (body : List ℕ) (v : Verdict)
    → kept_at kept body (verdict_act v) ≡ elim v as (λ _. Option Key) [ Repeated ↦ kept | Accepted ↦ Some (key_of body) | Refused ↦ kept ]
kept_at-verdict kept body Repeated = refl
kept_at-verdict kept body Accepted = refl
kept_at-verdict kept body Refused = refl

-- the key that is kept after an act is that of the last accepted body
kept_at-last : (bodies : List (List ℕ)) (what : Option Heard) (body : List ℕ) (room : Bool)
    → let h : Hearing = record { heard = what; body = body; has_room = room } in
    kept_at (last_key bodies) body (act_of (last_key bodies) h) ≡ last_key (fold with_offer bodies (offer_at h))
kept_at-last bodies None body room = refl
kept_at-last bodies (Some heard.Good) body room =
    let offer : Offer = record { body = body; has_room = room } in
    kept_at-verdict (last_key bodies) body (judged (last_key bodies) offer) ∙ kept_after-last_key bodies offer
kept_at-last bodies (Some heard.BadCheck) body room = refl
kept_at-last bodies (Some heard.Short) body room = refl
kept_at-last bodies (Some heard.Long) body room = refl
kept_at-last bodies (Some (heard.Broken c)) body room = refl
kept_at-last bodies (Some heard.Restart) body room = refl
kept_at-last bodies (Some heard.Ack) body room = refl
kept_at-last bodies (Some heard.Nak) body room = refl
kept_at-last bodies (Some heard.Enq) body room = refl
kept_at-last bodies (Some (heard.Stray b)) body room = refl
kept_at-last bodies (Some (heard.StrayPair c)) body room = refl

with_offer-verdict : (bodies : List (List ℕ)) (body : List ℕ) (v : Verdict)
    → elim v as (λ _. List (List ℕ)) [ Repeated ↦ bodies | Accepted ↦ bodies ++ body ∷ [] | Refused ↦ bodies ]
    ≡ cond (is_accept (verdict_act v)) (bodies ++ body ∷ []) bodies
with_offer-verdict bodies body Repeated = refl
with_offer-verdict bodies body Accepted = refl
with_offer-verdict bodies body Refused = refl

-- a body is accepted at Accept, and at no other act
accepts-one : (bodies : List (List ℕ)) (what : Option Heard) (body : List ℕ) (room : Bool)
    → let h : Hearing = record { heard = what; body = body; has_room = room } in
    fold with_offer bodies (offer_at h) ≡ cond (is_accept (act_of (last_key bodies) h)) (bodies ++ body ∷ []) bodies
accepts-one bodies None body room = refl
accepts-one bodies (Some heard.Good) body room =
    with_offer-verdict bodies body (judged (last_key bodies) (record { body = body; has_room = room }))
accepts-one bodies (Some heard.BadCheck) body room = refl
accepts-one bodies (Some heard.Short) body room = refl
accepts-one bodies (Some heard.Long) body room = refl
accepts-one bodies (Some (heard.Broken c)) body room = refl
accepts-one bodies (Some heard.Restart) body room = refl
accepts-one bodies (Some heard.Ack) body room = refl
accepts-one bodies (Some heard.Nak) body room = refl
accepts-one bodies (Some heard.Enq) body room = refl
accepts-one bodies (Some (heard.Stray b)) body room = refl
accepts-one bodies (Some (heard.StrayPair c)) body room = refl

pub accepted_of-more : (before : List Hearing) (h : Hearing)
    → accepted_of (before ++ h ∷ []) ≡ cond (is_accept (act_after before h)) (accepted_of before ++ h.body ∷ []) (accepted_of before)
accepted_of-more before h = accepted_of-append before h ∙ accepts-one (accepted_of before) h.heard h.body h.has_room

-- ---- one more byte

-- what a decoder's value lends is what the grammar says is lent
pub lent-decoding : (check : Check) (N : ℕ) (bytes : List ℕ) (d : Decoding) → ReadOff (full_duplex check N) bytes (decoding check N) d
    → ReadOff (full_duplex check N) bytes (lent check N) (lent_at d.standing)
lent-decoding check N bytes d r = record {
  items = r.items;
  front = r.front;
  splits = r.splits;
  is = ap (λ (e : Decoding). lent_at e.standing) r.is;
}

-- the act is the one that the whole list of things heard gives
pub act_at-after : (room : List ℕ → Bool) (check : Check) (N : ℕ) (bytes : List ℕ) (before : List Hearing) (s : ReceiverState) (b : ℕ)
    → Stands check N bytes before s → act_at room N s b ≡ act_after before (hearing room N s b)
act_at-after room check N bytes before s b stands = ap (λ kept. act_of kept (hearing room N s b)) stands.keeps

pub stands-more : (room : List ℕ → Bool) (check : Check) (N : ℕ) (bytes : List ℕ) (before : List Hearing) (s : ReceiverState) (b : ℕ)
    → Stands check N bytes before s
    → ReadOff (full_duplex check N) (bytes ++ b ∷ []) (decoding check N) (next N s.decoding b).0
    → ReadOff (full_duplex check N) (bytes ++ b ∷ []) (last_heard (full_duplex check N)) (next N s.decoding b).1
    → Stands check N (bytes ++ b ∷ []) (before ++ hearing room N s b ∷ []) (after_byte room N s b)
stands-more room check N bytes before s b stands decodes heard =
    let h : Hearing = hearing room N s b in
    record {
      hears = one_more bytes before b h stands.hears heard (lent-decoding check N (bytes ++ b ∷ []) (next N s.decoding b).0 decodes);
      decodes = decodes;
      keeps = ap (λ kept. kept_at kept h.body (act_of kept h)) stands.keeps
          ∙ kept_at-last (accepted_of before) h.heard h.body h.has_room
          ∙ ap last_key (sym (accepted_of-append before h));
    }

-- what a receiver's parts are after a byte
pub stands-byte : (room : List ℕ → Bool) (check : Check) (N : ℕ) (bytes : List ℕ) (before : List Hearing) (s : ReceiverState) (b : ℕ)
    → (d : Decoding) (what : Option Heard) (body : List ℕ) (done : Act) (kept : Option Key)
    → d ≡ (next N s.decoding b).0 → what ≡ (next N s.decoding b).1 → body ≡ lent_at d.standing
    → done ≡ act_of s.kept (record { heard = what; body = body; has_room = room body }) → kept ≡ kept_at s.kept body done
    → Stands check N bytes before s
    → ReadOff (full_duplex check N) (bytes ++ b ∷ []) (decoding check N) d
    → ReadOff (full_duplex check N) (bytes ++ b ∷ []) (last_heard (full_duplex check N)) what
    → Stands check N (bytes ++ b ∷ []) (before ++ hearing room N s b ∷ []) (record { decoding = d; kept = kept })
stands-byte room check N bytes before s b d what body done kept is_d is_what is_body is_done is_kept stands decodes heard =
    let lends : body ≡ lent_at (next N s.decoding b).0.standing = is_body ∙ ap (λ (e : Decoding). lent_at e.standing) is_d in
    let acts : done ≡ act_at room N s b =
    is_done ∙ ap (λ w. act_of s.kept (record { heard = w; body = body; has_room = room body })) is_what
    ∙ ap (λ l. act_of s.kept (record { heard = (next N s.decoding b).1; body = l; has_room = room l })) lends in
    let keeps : kept ≡ (after_byte room N s b).kept =
    is_kept ∙ ap (λ l. kept_at s.kept l done) lends ∙ ap (λ a. kept_at s.kept (hearing room N s b).body a) acts in
    let P : Decoding → Option Key → Type 0 =
    λ e k. Stands check N (bytes ++ b ∷ []) (before ++ hearing room N s b ∷ []) (record { decoding = e; kept = k }) in
    let more : P (next N s.decoding b).0 (after_byte room N s b).kept =
    stands-more room check N bytes before s b stands
    (subst (λ e. ReadOff (full_duplex check N) (bytes ++ b ∷ []) (decoding check N) e) is_d decodes)
    (subst (λ w. ReadOff (full_duplex check N) (bytes ++ b ∷ []) (last_heard (full_duplex check N)) w) is_what heard) in
    subst (λ e. P e kept) (sym is_d) (subst (λ k. P (next N s.decoding b).0 k) (sym keeps) more)

-- ---- at first

-- a decoder that has taken no byte is outside
pub decoding-start : (check : Check) (N : ℕ) (d : Decoding) → ReadOff (full_duplex check N) [] (decoding check N) d
    → d ≡ record { check = check; standing = Outside }
decoding-start check N d r =
    let none : Splits (full_duplex check N) [] [] Nothing = record { whole = refl; each = tt } in
    let same = one-only (full_duplex check N) (machine check N) (works check N) [] r.items [] r.front Nothing r.splits none in
    r.is ∙ ap (λ items. decoding check N items r.front) same.0 ∙ ap (λ front. decoding check N [] front) same.1

pub stands-start : (check : Check) (N : ℕ) (d : Decoding) → ReadOff (full_duplex check N) [] (decoding check N) d
    → Stands check N [] [] (record { decoding = d; kept = None })
stands-start check N d r = record { hears = nothing_yet; decodes = r; keeps = refl }
