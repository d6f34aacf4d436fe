-- What is accepted of the messages to a slave's station.
use Rattle.std.proofs.Common.{◌≡◌, ℕ, Bool, true, false, List, [], ◌∷◌, ◌++◌, Option, Some, None, ap, sym, ◌∙◌, refl, append_assoc, append-nil}
use Rattle.std.specs.Prelude.{if◌then◌else◌}
use Rattle.std.specs.List.{fold}
use Rattle.std.proofs.lemmas.Grind.{fold-append}
use Rattle.df1_base.specs.declared.host.Host.{Ghosts}
use Rattle.df1_base.specs.declared.host.Fate.{Fate}
use Rattle.df1_base.specs.declared.link.Act.TheVariants as act
use Rattle.half_frame.specs.declared.heard.SlaveHeard.{SlaveHeard}
use Rattle.half_frame.specs.declared.heard.SlaveHeard.TheVariants as heard
use Rattle.pccc_envelope.specs.declared.key.Key.{Key}
use Rattle.pccc_envelope.specs.Accepted.{Offer, Verdict, Repeated, Accepted, Refused, judged, last_key, with_offer}
use Rattle.pccc_envelope.proofs.LastAccepted.{last_key-append}
use Rattle.half_slave.specs.declared.held.Held.{Held}
use Rattle.half_slave.specs.Slave.{SlaveState, body_of, is_own, is_answered, verdict, verdict_act, told, received, offered, answered, polled, fate_at_ack, fate_at_reset, heard_at, listened, act_at, slave_after_byte, slave_after_heard, slave_after_take}
use Rattle.half_slave.specs.Emission.{Letter, Byte, Take, slave_after_all}
use Rattle.half_slave.specs.Received.{offer_at, offers, handed, handed_over}

-- ---- the key that is kept stays but where a message is accepted

told-kept : {H : Type 0} (m : Ghosts H) (s : SlaveState H) (what : Option Fate) → (told m s what).kept ≡ s.kept
told-kept m s None = refl
told-kept m s (Some what) = refl

answered-kept : {H : Type 0} (m : Ghosts H) (s : SlaveState H) (held : Option Held) (next : Option (List ℕ)) → m.next_body s.host ≡ next → (answered m s held).kept ≡ s.kept
answered-kept m s (Some message) next is = refl
answered-kept {H} m s None None is = ap (λ (n : Option (List ℕ)). (offered m s n).kept) is
answered-kept {H} m s None (Some body) is = ap (λ (n : Option (List ℕ)). (offered m s n).kept) is

polled-kept : {H : Type 0} (m : Ghosts H) (s : SlaveState H) (answers : Bool) → (if answers then polled m s else s).kept ≡ s.kept
polled-kept m s true = answered-kept m (told m s _) _ (m.next_body (told m s _).host) refl ∙ told-kept m s _
polled-kept m s false = refl

-- ---- what is heard

own-keeps : {H : Type 0} (m : Ghosts H) (s : SlaveState H) (bodies : List (List ℕ)) (v : Verdict) → s.kept ≡ last_key bodies
    → let after : List (List ℕ) = elim v as (λ _. List (List ℕ)) [ Repeated ↦ bodies | Accepted ↦ bodies ++ body_of s ∷ [] | Refused ↦ bodies ] in
    (bodies ++ handed (verdict_act v) (body_of s) ≡ after) × ((received m s v).kept ≡ last_key after)
own-keeps m s bodies Repeated kept = (append-nil bodies, kept)
own-keeps m s bodies Accepted kept = (refl, sym (last_key-append bodies (body_of s)))
own-keeps m s bodies Refused kept = (append-nil bodies, kept)

message-keeps : {H : Type 0} (m : Ghosts H) (s : SlaveState H) (bodies : List (List ℕ)) (own : Bool) → s.kept ≡ last_key bodies
    → let offer : Offer = record { body = body_of s; has_room = m.room_for s.host (body_of s) } in
    (bodies ++ handed (if own then verdict_act (verdict m s) else act.Nothing) (body_of s) ≡ fold with_offer bodies (if own then offer ∷ [] else []))
    × ((if own then received m s (verdict m s) else s).kept ≡ last_key (fold with_offer bodies (if own then offer ∷ [] else [])))
message-keeps m s bodies true kept =
    let offer : Offer = record { body = body_of s; has_room = m.room_for s.host (body_of s) } in
    let same : judged s.kept offer ≡ judged (last_key bodies) offer = ap (λ (k : Option Key). judged k offer) kept in
    let of_last = own-keeps m s bodies (judged (last_key bodies) offer) kept in (
      ap (λ (v : Verdict). bodies ++ handed (verdict_act v) (body_of s)) same ∙ of_last.0,
      ap (λ (v : Verdict). (received m s v).kept) same ∙ of_last.1,
    )
message-keeps m s bodies false kept = (append-nil bodies, kept)

others-keep : {H : Type 0} (s after : SlaveState H) (bodies : List (List ℕ)) → after.kept ≡ s.kept → s.kept ≡ last_key bodies → (bodies ++ [] ≡ bodies) × (after.kept ≡ last_key bodies)
others-keep s after bodies same kept = (append-nil bodies, same ∙ kept)

damaged-keeps : {H : Type 0} (own : Bool) (s : SlaveState H) (bodies : List (List ℕ)) → s.kept ≡ last_key bodies → (bodies ++ handed (if own then act.Damaged else act.Nothing) (body_of s) ≡ bodies) × (s.kept ≡ last_key bodies)
damaged-keeps true s bodies kept = (append-nil bodies, kept)
damaged-keeps false s bodies kept = (append-nil bodies, kept)

heard-keeps : {H : Type 0} (m : Ghosts H) (s : SlaveState H) (bodies : List (List ℕ)) (what : Option SlaveHeard) → s.kept ≡ last_key bodies
    → (bodies ++ handed (act_at m s what) (body_of s) ≡ fold with_offer bodies (offer_at m s what)) × ((slave_after_heard m s what).kept ≡ last_key (fold with_offer bodies (offer_at m s what)))
heard-keeps m s bodies None kept = others-keep s s bodies refl kept
heard-keeps m s bodies (Some (heard.Addressed stn)) kept = message-keeps m s bodies (is_own s stn) kept
heard-keeps m s bodies (Some (heard.Header stn)) kept = others-keep s s bodies refl kept
heard-keeps m s bodies (Some (heard.Poll stn)) kept = others-keep s (slave_after_heard m s (Some (heard.Poll stn))) bodies (polled-kept m s (is_answered s stn)) kept
heard-keeps m s bodies (Some heard.BadPoll) kept = others-keep s s bodies refl kept
heard-keeps m s bodies (Some (heard.Damaged stn)) kept = damaged-keeps (is_own s stn) s bodies kept
heard-keeps m s bodies (Some heard.Ack) kept = others-keep s (slave_after_heard m s (Some heard.Ack)) bodies (told-kept m s (fate_at_ack s.held)) kept
heard-keeps m s bodies (Some heard.Reset) kept = others-keep s (slave_after_heard m s (Some heard.Reset)) bodies (told-kept m s (fate_at_reset s.held)) kept
heard-keeps m s bodies (Some (heard.Stray b)) kept = others-keep s s bodies refl kept
heard-keeps m s bodies (Some (heard.StrayPair code)) kept = others-keep s s bodies refl kept

-- ---- signals

signals-keep : {H : Type 0} (m : Ghosts H) (s : SlaveState H) (bodies : List (List ℕ)) (signals : List Letter) → s.kept ≡ last_key bodies
    → (bodies ++ handed_over m s signals ≡ fold with_offer bodies (offers m s signals)) × ((slave_after_all m s signals).kept ≡ last_key (fold with_offer bodies (offers m s signals)))
signals-keep m s bodies [] kept = (append-nil bodies, kept)
signals-keep m s bodies (Byte b ∷ signals) kept =
    let heard_now = listened s b in
    let what = heard_at s b in
    let first = heard-keeps m heard_now bodies what kept in
    let after = fold with_offer bodies (offer_at m heard_now what) in
    let rest = signals-keep m (slave_after_byte m s b) after signals first.1 in
    let folds = fold-append with_offer bodies (offer_at m heard_now what) (offers m (slave_after_byte m s b) signals) in (
      sym (append_assoc bodies (handed (act_at m heard_now what) (body_of heard_now)) (handed_over m (slave_after_byte m s b) signals))
          ∙ ap (λ (l : List (List ℕ)). l ++ handed_over m (slave_after_byte m s b) signals) first.0 ∙ rest.0 ∙ sym folds,
      rest.1 ∙ ap last_key (sym folds),
    )
signals-keep m s bodies (Take ∷ signals) kept = signals-keep m (slave_after_take s) bodies signals kept

pub signals-hand : {H : Type 0} (m : Ghosts H) (s : SlaveState H) (bodies : List (List ℕ)) (signals : List Letter) → s.kept ≡ last_key bodies → bodies ++ handed_over m s signals ≡ fold with_offer bodies (offers m s signals)
signals-hand m s bodies signals kept = (signals-keep m s bodies signals kept).0

pub signals-kept : {H : Type 0} (m : Ghosts H) (s : SlaveState H) (bodies : List (List ℕ)) (signals : List Letter) → s.kept ≡ last_key bodies → (slave_after_all m s signals).kept ≡ last_key (bodies ++ handed_over m s signals)
signals-kept m s bodies signals kept =
    let all = signals-keep m s bodies signals kept in
    all.1 ∙ ap last_key (sym all.0)
