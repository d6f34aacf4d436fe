-- Of the messages of each station the host is handed those that are accepted, each once.
use Rattle.std.proofs.Common.{◌≡◌, ℕ, zero, suc, Bool, true, false, List, [], ◌∷◌, ◌++◌, Option, Some, None, IsSome, ap, sym, subst, ◌∙◌, refl, append_assoc, append-nil}
use Rattle.std.specs.Prelude.{nat_lt, slice_get, slice_index, ◌&&◌, ◌==◌, if◌then◌else◌}
use Rattle.std.specs.List.{fold}
use Rattle.std.specs.Option.{option_and_then}
use Rattle.std.proofs.lemmas.Bool.{cond_both, eqb-true, eq-eqb}
use Rattle.std.proofs.lemmas.Grind.{fold-append}
use Rattle.df1_base.specs.declared.host.Host.{Ghosts}
use Rattle.half_frame.specs.declared.heard.MasterHeard.{MasterHeard}
use Rattle.half_frame.specs.declared.heard.MasterHeard.TheVariants as heard
use Rattle.half_mouth.specs.Giving.{is_done}
use Rattle.pccc_envelope.specs.declared.key.Key.{Key}
use Rattle.pccc_envelope.specs.Envelope.{key_of}
use Rattle.pccc_envelope.specs.Accepted.{Offer, Repeated, Accepted, Refused, is_kept, judged, kept_after, last_key, with_offer}
use Rattle.pccc_envelope.proofs.LastAccepted.{fold-kept_after}
use Rattle.half_master.specs.declared.stations.Station.{Station}
use Rattle.half_master.specs.declared.table.Phase.{Phase}
use Rattle.half_master.specs.declared.table.Phase.TheVariants as phase
use Rattle.half_master.specs.declared.table.Effect.{Effect}
use Rattle.half_master.specs.declared.table.Effect.TheVariants as effect
use Rattle.half_master.specs.Stations.{listed}
use Rattle.half_master.specs.Master.{MasterState, with_byte, heard_at, body_of, unacknowledged, effect_of_verdict, answered, effect_on_message, effect_on_poll, effect_in, is_good, did_at, step_at_byte}
use Rattle.half_master.specs.Emission.{Letter, Byte, Tick, Take, master_after, master_after_all}
use Rattle.half_master.specs.Keys.{kept_at, is_polled, is_from, offers_at, offers, body_taken, handed_at, handed_over}
use Rattle.half_master.proofs.KeyLemmas.{signal-keys, signals-keys}

-- ---- the polled station

-- what is handed of it, beside what it offered
abbrev took : {H : Type 0} → Ghosts H → H → Effect → List ℕ → List (List ℕ)
took m host what body = body_taken (did_at m what host body) body

abbrev Takes : {H : Type 0} → Ghosts H → H → List (List ℕ) → Effect → List ℕ → List Offer → Type 0
Takes m host before what body of_it = before ++ took m host what body ≡ fold with_offer before of_it

own-verdict : {H : Type 0} (m : Ghosts H) (host : H) (before : List (List ℕ)) (place : ℕ) (body : List ℕ) (repeats room : Bool)
    → before ++ took m host (effect_of_verdict place (if repeats then Repeated else (if room then Accepted else Refused))) body
    ≡ (elim (if repeats then Repeated else (if room then Accepted else Refused)) as (λ _. List (List ℕ)) [ Repeated ↦ before | Accepted ↦ before ++ body ∷ [] | Refused ↦ before ])
own-verdict m host before place body true room = append-nil before
own-verdict m host before place body false true = refl
own-verdict m host before place body false false = append-nil before

own-answer : {H : Type 0} (m : Ghosts H) (host : H) (before : List (List ℕ)) (place : ℕ) (station : Station) (room : Bool) (body : List ℕ) (from : Bool) → station.kept ≡ last_key before
    → Takes m host before (if from then effect_of_verdict place (judged station.kept (record { body = body; has_room = room })) else effect.Nothing) body (if from then record { body = body; has_room = room } ∷ [] else [])
own-answer m host before place station room body true kept =
    subst (λ (k : Option Key). before ++ took m host (effect_of_verdict place (judged k (record { body = body; has_room = room }))) body ≡ with_offer before (record { body = body; has_room = room })) (sym kept)
    (own-verdict m host before place body (is_kept (last_key before) (key_of body)) room)
own-answer m host before place station room body false kept = append-nil before

place-answer : {H : Type 0} (m : Ghosts H) (host : H) (before : List (List ℕ)) (stations : List Station) (place : ℕ) (room : List ℕ → Bool) (body : List ℕ) (o : Option Station) → slice_get stations place ≡ o → kept_at stations place ≡ last_key before
    → Takes m host before (answered room place o body) body (if is_from o body then record { body = body; has_room = room body } ∷ [] else [])
place-answer m host before stations place room body None is kept = append-nil before
place-answer m host before stations place room body (Some station) is kept =
    let own : station.kept ≡ last_key before = sym (ap (λ (o : Option Station). option_and_then {T = Station} (λ s. s.kept) o) is) ∙ kept in
    own-answer m host before place station (room body) body (slice_index body 1 == station.number) own

own-poll : {H : Type 0} (m : Ghosts H) (host : H) (before : List (List ℕ)) (good : Effect) (what : Option MasterHeard) (body : List ℕ) (from : Bool) (offer : Offer) → Takes m host before good body (if from then offer ∷ [] else [])
    → Takes m host before (effect_on_poll good what) body (if true && true && is_good what && from then offer ∷ [] else [])
own-poll m host before good None body from offer takes = append-nil before
own-poll m host before good (Some heard.Good) body from offer takes = takes
own-poll m host before good (Some heard.Damaged) body from offer takes = append-nil before
own-poll m host before good (Some heard.Ack) body from offer takes = append-nil before
own-poll m host before good (Some heard.Nak) body from offer takes = append-nil before
own-poll m host before good (Some heard.Eot) body from offer takes = append-nil before
own-poll m host before good (Some (heard.Stray b)) body from offer takes = append-nil before
own-poll m host before good (Some (heard.StrayPair code)) body from offer takes = append-nil before

-- ---- a byte

-- by the phase: what is handed of the station at a place, where it is the polled one
abbrev PlaceTakes : {H : Type 0} → Ghosts H → MasterState H → Option MasterHeard → List (List ℕ) → ℕ → Phase → Type 0
PlaceTakes m e what before place at =
    before ++ (if is_polled at place then took m e.host (effect_in m e what at) (body_of e) else [])
    ≡ fold with_offer before (if true && is_polled at place && is_good what && is_from (slice_get e.stations place) (body_of e) then record { body = body_of e; has_room = m.room_for e.host (body_of e) } ∷ [] else [])

polled-takes : {H : Type 0} (m : Ghosts H) (e : MasterState H) (what : Option MasterHeard) (before : List (List ℕ)) (place left at : ℕ) (same : Bool) → (at == place) ≡ same → kept_at e.stations place ≡ last_key before
    → before ++ (if same then took m e.host (effect_in m e what (phase.WaitsAfterPoll left at)) (body_of e) else [])
    ≡ fold with_offer before (if true && same && is_good what && is_from (slice_get e.stations place) (body_of e) then record { body = body_of e; has_room = m.room_for e.host (body_of e) } ∷ [] else [])
polled-takes m e what before place left at true is kept =
    subst (λ (n : ℕ). before ++ took m e.host (effect_in m e what (phase.WaitsAfterPoll left n)) (body_of e)
    ≡ fold with_offer before (if true && true && is_good what && is_from (slice_get e.stations place) (body_of e) then record { body = body_of e; has_room = m.room_for e.host (body_of e) } ∷ [] else []))
    (sym (eqb-true at place is))
    (own-poll m e.host before (answered (m.room_for e.host) place (slice_get e.stations place) (body_of e)) what (body_of e) (is_from (slice_get e.stations place) (body_of e)) (record { body = body_of e; has_room = m.room_for e.host (body_of e) })
    (place-answer m e.host before e.stations place (m.room_for e.host) (body_of e) (slice_get e.stations place) refl kept))
polled-takes m e what before place left at false is kept = append-nil before

in-takes : {H : Type 0} (m : Ghosts H) (e : MasterState H) (what : Option MasterHeard) (before : List (List ℕ)) (place : ℕ) (at : Phase) → kept_at e.stations place ≡ last_key before → PlaceTakes m e what before place at
in-takes m e what before place phase.Idle kept = append-nil before
in-takes m e what before place (phase.WaitsForAck left resent) kept = append-nil before
in-takes m e what before place (phase.WaitsAfterPoll left at) kept = polled-takes m e what before place left at (at == place) refl kept

none-polled : (before : List (List ℕ)) (polled : Bool) → before ++ (if polled then [] else []) ≡ before
none-polled before true = append-nil before
none-polled before false = append-nil before

done-takes : {H : Type 0} (m : Ghosts H) (e : MasterState H) (what : Option MasterHeard) (before : List (List ℕ)) (place : ℕ) (done : Bool) → kept_at e.stations place ≡ last_key before
    → before ++ (if is_polled e.phase place then took m e.host (if done then effect_in m e what e.phase else effect.Nothing) (body_of e) else [])
    ≡ fold with_offer before (if done && is_polled e.phase place && is_good what && is_from (slice_get e.stations place) (body_of e) then record { body = body_of e; has_room = m.room_for e.host (body_of e) } ∷ [] else [])
done-takes m e what before place true kept = in-takes m e what before place e.phase kept
done-takes m e what before place false kept = none-polled before (is_polled e.phase place)

-- ---- over signals

signal-hands : {H : Type 0} (m : Ghosts H) (e : MasterState H) (place : ℕ) (before : List (List ℕ)) (signal : Letter) → kept_at e.stations place ≡ last_key before
    → before ++ handed_at m e place signal ≡ fold with_offer before (offers_at m e place signal)
signal-hands m e place before (Byte b) kept = done-takes m (with_byte e b) (heard_at e b) before place (is_done e.mouth) kept
signal-hands m e place before Tick kept = append-nil before
signal-hands m e place before Take kept = append-nil before

signal-key : {H : Type 0} (m : Ghosts H) (e : MasterState H) (place : ℕ) (before : List (List ℕ)) (signal : Letter) → kept_at e.stations place ≡ last_key before
    → kept_at (master_after m e signal).stations place ≡ last_key (before ++ handed_at m e place signal)
signal-key m e place before signal kept =
    signal-keys m e place signal
    ∙ ap (λ (k : Option Key). fold kept_after k (offers_at m e place signal)) kept
    ∙ fold-kept_after before (offers_at m e place signal)
    ∙ ap last_key (sym (signal-hands m e place before signal kept))

pub signals-hand : {H : Type 0} (m : Ghosts H) (e : MasterState H) (place : ℕ) (before : List (List ℕ)) (signals : List Letter) → kept_at e.stations place ≡ last_key before
    → before ++ handed_over m e place signals ≡ fold with_offer before (offers m e place signals)
signals-hand m e place before [] kept = append-nil before
signals-hand m e place before (signal ∷ signals) kept =
    let now = before ++ handed_at m e place signal in
    sym (append_assoc before (handed_at m e place signal) (handed_over m (master_after m e signal) place signals))
    ∙ signals-hand m (master_after m e signal) place now signals (signal-key m e place before signal kept)
    ∙ ap (λ (l : List (List ℕ)). fold with_offer l (offers m (master_after m e signal) place signals)) (signal-hands m e place before signal kept)
    ∙ sym (fold-append with_offer before (offers_at m e place signal) (offers m (master_after m e signal) place signals))

pub signals-key : {H : Type 0} (m : Ghosts H) (e : MasterState H) (place : ℕ) (before : List (List ℕ)) (signals : List Letter) → kept_at e.stations place ≡ last_key before
    → kept_at (master_after_all m e signals).stations place ≡ last_key (before ++ handed_over m e place signals)
signals-key m e place before signals kept =
    signals-keys m e place signals
    ∙ ap (λ (k : Option Key). fold kept_after k (offers m e place signals)) kept
    ∙ fold-kept_after before (offers m e place signals)
    ∙ ap last_key (sym (signals-hand m e place before signals kept))

-- no key is kept at first
pub new-key : (numbers : List ℕ) (place : ℕ) → kept_at (listed numbers) place ≡ last_key []
new-key [] place = refl
new-key (number ∷ numbers) zero = refl
new-key (number ∷ numbers) (suc place) = new-key numbers place

-- ---- only a polled station's message is accepted

-- the host takes a message at the polled place alone
abbrev OfPolled : {H : Type 0} → Ghosts H → MasterState H → Phase → Effect → Type 0
OfPolled m e at done = IsSome (did_at m done e.host (body_of e)) → (place : ℕ) × (is_polled at place ≡ true)

unacknowledged-polled : {H : Type 0} (m : Ghosts H) (e : MasterState H) (resent : ℕ) (at : Phase) → OfPolled m e at (unacknowledged e.setup resent)
unacknowledged-polled m e resent at = cond_both (nat_lt resent e.setup.max_resends) _ _ (OfPolled m e at) (λ few some. absurd cc) (λ many some. absurd cc)

message-polled : {H : Type 0} (m : Ghosts H) (e : MasterState H) (resent : ℕ) (at : Phase) (what : Option MasterHeard) → OfPolled m e at (effect_on_message e.setup resent what)
message-polled m e resent at None = λ some. absurd cc
message-polled m e resent at (Some heard.Good) = λ some. absurd cc
message-polled m e resent at (Some heard.Damaged) = λ some. absurd cc
message-polled m e resent at (Some heard.Ack) = λ some. absurd cc
message-polled m e resent at (Some heard.Nak) = unacknowledged-polled m e resent at
message-polled m e resent at (Some heard.Eot) = λ some. absurd cc
message-polled m e resent at (Some (heard.Stray b)) = λ some. absurd cc
message-polled m e resent at (Some (heard.StrayPair code)) = λ some. absurd cc

in-polled : {H : Type 0} (m : Ghosts H) (e : MasterState H) (what : Option MasterHeard) (at : Phase) → OfPolled m e at (effect_in m e what at)
in-polled m e what phase.Idle = λ some. absurd cc
in-polled m e what (phase.WaitsForAck left resent) = message-polled m e resent (phase.WaitsForAck left resent) what
in-polled m e what (phase.WaitsAfterPoll left place) = λ some. (place, eq-eqb place place refl)

pub byte-polled : {H : Type 0} (m : Ghosts H) (e : MasterState H) (b : ℕ) → IsSome (step_at_byte m e b).did → (place : ℕ) × (is_polled e.phase place ≡ true)
byte-polled m e b =
    cond_both (is_done e.mouth) (effect_in m (with_byte e b) (heard_at e b) e.phase) effect.Nothing (OfPolled m (with_byte e b) e.phase)
    (λ done. in-polled m (with_byte e b) (heard_at e b) e.phase) (λ gives some. absurd cc)
