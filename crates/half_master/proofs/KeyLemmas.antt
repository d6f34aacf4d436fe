-- Each station's kept key is what its own filter keeps of that station's messages.
use Rattle.std.proofs.Common.{◌≡◌, ℕ, zero, suc, Bool, true, false, List, [], ◌∷◌, ◌++◌, Option, Some, None, ap, sym, subst, ◌∙◌, refl}
use Rattle.std.specs.Prelude.{nat_lt, slice_get, slice_set, slice_index, ◌&&◌, ◌==◌, if◌then◌else◌}
use Rattle.std.specs.List.{fold}
use Rattle.std.specs.Option.{option_and_then}
use Rattle.std.proofs.lemmas.Bool.{cond_both, eqb-true, eqb-false}
use Rattle.df1_base.specs.declared.host.Host.{Ghosts}
use Rattle.df1_base.specs.HostAnswers.{host_told}
use Rattle.half_frame.specs.declared.heard.MasterHeard.{MasterHeard}
use Rattle.half_frame.specs.declared.heard.MasterHeard.TheVariants as heard
use Rattle.half_mouth.specs.Giving.{is_done}
use Rattle.pccc_envelope.specs.declared.key.Key.{Key}
use Rattle.pccc_envelope.specs.Envelope.{key_of}
use Rattle.pccc_envelope.specs.Accepted.{Offer, Verdict, Repeated, Accepted, Refused, is_kept, judged, kept_after}
use Rattle.half_master.specs.declared.MasterSetup.{MasterSetup}
use Rattle.half_master.specs.declared.stations.Station.{Station}
use Rattle.half_master.specs.declared.table.Phase.{Phase}
use Rattle.half_master.specs.declared.table.Phase.TheVariants as phase
use Rattle.half_master.specs.declared.table.Effect.{Effect}
use Rattle.half_master.specs.declared.table.Effect.TheVariants as effect
use Rattle.half_master.specs.Stations.{numbers_of, is_listed, with_key}
use Rattle.half_master.specs.Master.{MasterState, with_host, with_byte, heard_at, body_of, unacknowledged, effect_of_verdict, answered, effect_on_message, effect_on_poll, effect_in, effect_of_tick, effect_of_byte, effect_at_tick, polled, performed, fate_of, host_accepted, host_ticked, is_good, message_next, begun_of}
use Rattle.half_master.specs.Emission.{Letter, Byte, Tick, Take, master_after, master_after_all}
use Rattle.half_master.specs.Keys.{kept_at, is_polled, is_from, offers_at, offers}
use Rattle.half_master.proofs.FittingLemmas.{with_key-numbers}
use Rattle.half_master.proofs.Keeping.{keyed}

-- ---- the list after an effect

abbrev stations_after : List Station → List ℕ → Effect → List Station
stations_after stations body (effect.Accepted place) = with_key stations place (key_of body)
stations_after stations body _ = stations

polled-stations : {H : Type 0} (e : MasterState H) (station : Option Station) → (polled e station).stations ≡ e.stations
polled-stations e None = refl
polled-stations e (Some station) = refl

performed-stations : {H : Type 0} (e : MasterState H) (what : Effect) → (performed e what).stations ≡ stations_after e.stations (body_of e) what
performed-stations e effect.Nothing = refl
performed-stations e (effect.Waits left) = refl
performed-stations e effect.Delivered = refl
performed-stations e (effect.Again resent) = refl
performed-stations e effect.GivenUp = refl
performed-stations e effect.PollOver = refl
performed-stations e (effect.Accepted place) = refl
performed-stations e effect.Repeated = refl
performed-stations e effect.Refused = refl
performed-stations e effect.Damaged = refl
performed-stations e effect.Polls = polled-stations e (slice_get e.stations e.next)

begun_of-stations : {H : Type 0} (m : Ghosts H) (e : MasterState H) (message : Option (List ℕ)) → (begun_of m e message).stations ≡ e.stations
begun_of-stations m e None = refl
begun_of-stations {H} m e (Some body) = cond_both (is_listed e.stations (slice_index body 0)) _ _ (λ (x : MasterState H). x.stations ≡ e.stations) (λ is. refl) (λ is. refl)

-- ---- the key at a place

abbrev kept_in : Option Station → Option Key
kept_in o = option_and_then {T = Station} (λ station. station.kept) o

set-same : (stations : List Station) (place : ℕ) (was now : Station) → slice_get stations place ≡ Some was → slice_get (slice_set stations place now) place ≡ Some now
set-same [] place was now is = absurd cc
set-same (first ∷ stations) zero was now is = refl
set-same (first ∷ stations) (suc place) was now is = set-same stations place was now is

set-other : (stations : List Station) (place other : ℕ) (now : Station) → (place ≡ other → ⊥) → slice_get (slice_set stations place now) other ≡ slice_get stations other
set-other [] place other now differ = refl
set-other (first ∷ stations) zero zero now differ = absurd (differ refl)
set-other (first ∷ stations) zero (suc other) now differ = refl
set-other (first ∷ stations) (suc place) zero now differ = refl
set-other (first ∷ stations) (suc place) (suc other) now differ = set-other stations place other now (λ same. differ (ap (λ n. suc n) same))

keyed-same : (stations : List Station) (place : ℕ) (key : Key) (station : Station) (o : Option Station) → slice_get stations place ≡ Some station → o ≡ Some station → kept_at (keyed stations place key o) place ≡ Some key
keyed-same stations place key station None is at = absurd cc
keyed-same stations place key station (Some found) is at = ap (λ (o : Option Station). kept_in o) (set-same stations place station (record { number = found.number; kept = Some key }) is)

keyed-other : (stations : List Station) (place other : ℕ) (key : Key) (o : Option Station) → (place ≡ other → ⊥) → kept_at (keyed stations place key o) other ≡ kept_at stations other
keyed-other stations place other key None differ = refl
keyed-other stations place other key (Some station) differ = ap (λ (o : Option Station). kept_in o) (set-other stations place other (record { number = station.number; kept = Some key }) differ)

-- ---- a byte

-- what the station at a place offers, by what it depends on
abbrev offered : Bool → Bool → Bool → Bool → Offer → List Offer
offered done polled good from offer = if done && polled && good && from then offer ∷ [] else []

-- no effect but one that accepts changes a key
abbrev Keeps : List Station → List ℕ → ℕ → Effect → Type 0
Keeps stations body place what = kept_at (stations_after stations body what) place ≡ kept_at stations place

unacknowledged-keeps : (stations : List Station) (body : List ℕ) (place : ℕ) (setup : MasterSetup) (resent : ℕ) → Keeps stations body place (unacknowledged setup resent)
unacknowledged-keeps stations body place setup resent = cond_both (nat_lt resent setup.max_resends) _ _ (Keeps stations body place) (λ is. refl) (λ is. refl)

message-keeps : (stations : List Station) (body : List ℕ) (place : ℕ) (setup : MasterSetup) (resent : ℕ) (what : Option MasterHeard) → Keeps stations body place (effect_on_message setup resent what)
message-keeps stations body place setup resent None = refl
message-keeps stations body place setup resent (Some heard.Good) = refl
message-keeps stations body place setup resent (Some heard.Damaged) = refl
message-keeps stations body place setup resent (Some heard.Ack) = refl
message-keeps stations body place setup resent (Some heard.Nak) = unacknowledged-keeps stations body place setup resent
message-keeps stations body place setup resent (Some heard.Eot) = refl
message-keeps stations body place setup resent (Some (heard.Stray b)) = refl
message-keeps stations body place setup resent (Some (heard.StrayPair c)) = refl

-- another place keeps its key
other-verdict : (stations : List Station) (body : List ℕ) (at place : ℕ) (v : Verdict) → (at ≡ place → ⊥) → Keeps stations body place (effect_of_verdict at v)
other-verdict stations body at place Repeated differ = refl
other-verdict stations body at place Accepted differ = keyed-other stations at place (key_of body) (slice_get stations at) differ
other-verdict stations body at place Refused differ = refl

other-answer : (stations : List Station) (body : List ℕ) (at place : ℕ) (room : List ℕ → Bool) (o : Option Station) → (at ≡ place → ⊥) → Keeps stations body place (answered room at o body)
other-answer stations body at place room None differ = refl
other-answer stations body at place room (Some station) differ =
    cond_both (slice_index body 1 == station.number) _ _ (Keeps stations body place) (λ from. other-verdict stations body at place _ differ) (λ other. refl)

other-poll : (stations : List Station) (body : List ℕ) (place : ℕ) (good : Effect) (what : Option MasterHeard) → Keeps stations body place good → Keeps stations body place (effect_on_poll good what)
other-poll stations body place good None keeps = refl
other-poll stations body place good (Some heard.Good) keeps = keeps
other-poll stations body place good (Some heard.Damaged) keeps = refl
other-poll stations body place good (Some heard.Ack) keeps = refl
other-poll stations body place good (Some heard.Nak) keeps = refl
other-poll stations body place good (Some heard.Eot) keeps = refl
other-poll stations body place good (Some (heard.Stray b)) keeps = refl
other-poll stations body place good (Some (heard.StrayPair c)) keeps = refl

-- the place of the polled station: a message from it is judged by its own filter
abbrev Judges : List Station → List ℕ → ℕ → Effect → List Offer → Type 0
Judges stations body place what of_it = kept_at (stations_after stations body what) place ≡ fold kept_after (kept_at stations place) of_it

own-verdict : (stations : List Station) (body : List ℕ) (place : ℕ) (station : Station) (repeats room : Bool) → slice_get stations place ≡ Some station
    → kept_at (stations_after stations body (effect_of_verdict place (if repeats then Repeated else (if room then Accepted else Refused)))) place
    ≡ (elim (if repeats then Repeated else (if room then Accepted else Refused)) as (λ _. Option Key) [ Repeated ↦ kept_at stations place | Accepted ↦ Some (key_of body) | Refused ↦ kept_at stations place ])
own-verdict stations body place station true room is = refl
own-verdict stations body place station false true is = keyed-same stations place (key_of body) station (slice_get stations place) is is
own-verdict stations body place station false false is = refl

own-from : (stations : List Station) (body : List ℕ) (place : ℕ) (station : Station) (room from : Bool) → slice_get stations place ≡ Some station
    → Judges stations body place (if from then effect_of_verdict place (judged station.kept (record { body = body; has_room = room })) else effect.Nothing) (if from then record { body = body; has_room = room } ∷ [] else [])
own-from stations body place station room true is =
    let kept : kept_at stations place ≡ station.kept = ap (λ (o : Option Station). kept_in o) is in
    own-verdict stations body place station (is_kept station.kept (key_of body)) room is
    ∙ ap (λ (k : Option Key). elim (if is_kept station.kept (key_of body) then Repeated else (if room then Accepted else Refused)) as (λ _. Option Key) [ Repeated ↦ k | Accepted ↦ Some (key_of body) | Refused ↦ k ]) kept
    ∙ ap (λ (k : Option Key). kept_after k (record { body = body; has_room = room })) (sym kept)
own-from stations body place station room false is = refl

own-answer : (stations : List Station) (body : List ℕ) (place : ℕ) (room : List ℕ → Bool) (o : Option Station) → slice_get stations place ≡ o
    → Judges stations body place (answered room place o body) (if is_from o body then record { body = body; has_room = room body } ∷ [] else [])
own-answer stations body place room None is = refl
own-answer stations body place room (Some station) is = own-from stations body place station (room body) (slice_index body 1 == station.number) is

own-poll : (stations : List Station) (body : List ℕ) (place : ℕ) (good : Effect) (what : Option MasterHeard) (from : Bool) (offer : Offer) → Judges stations body place good (if from then offer ∷ [] else [])
    → Judges stations body place (effect_on_poll good what) (offered true true (is_good what) from offer)
own-poll stations body place good None from offer judges = refl
own-poll stations body place good (Some heard.Good) from offer judges = judges
own-poll stations body place good (Some heard.Damaged) from offer judges = refl
own-poll stations body place good (Some heard.Ack) from offer judges = refl
own-poll stations body place good (Some heard.Nak) from offer judges = refl
own-poll stations body place good (Some heard.Eot) from offer judges = refl
own-poll stations body place good (Some (heard.Stray b)) from offer judges = refl
own-poll stations body place good (Some (heard.StrayPair c)) from offer judges = refl

polled-judges : (stations : List Station) (body : List ℕ) (at place : ℕ) (room : List ℕ → Bool) (what : Option MasterHeard) (same : Bool) → (at == place) ≡ same
    → Judges stations body place (effect_on_poll (answered room at (slice_get stations at) body) what) (offered true same (is_good what) (is_from (slice_get stations place) body) (record { body = body; has_room = room body }))
polled-judges stations body at place room what true is =
    let P : ℕ → Type 0 = λ n. Judges stations body place (effect_on_poll (answered room n (slice_get stations n) body) what) (offered true true (is_good what) (is_from (slice_get stations place) body) (record { body = body; has_room = room body })) in
    subst P (sym (eqb-true at place is))
    (own-poll stations body place (answered room place (slice_get stations place) body) what (is_from (slice_get stations place) body) (record { body = body; has_room = room body }) (own-answer stations body place room (slice_get stations place) refl))
polled-judges stations body at place room what false is = other-poll stations body place _ what (other-answer stations body at place room (slice_get stations at) (eqb-false at place is))

in-judges : {H : Type 0} (m : Ghosts H) (e : MasterState H) (what : Option MasterHeard) (place : ℕ) (at : Phase)
    → Judges e.stations (body_of e) place (effect_in m e what at) (offered true (is_polled at place) (is_good what) (is_from (slice_get e.stations place) (body_of e)) (record { body = body_of e; has_room = m.room_for e.host (body_of e) }))
in-judges m e what place phase.Idle = refl
in-judges m e what place (phase.WaitsForAck left resent) = message-keeps e.stations (body_of e) place e.setup resent what
in-judges m e what place (phase.WaitsAfterPoll left at) = polled-judges e.stations (body_of e) at place (m.room_for e.host) what (at == place) refl

done-judges : {H : Type 0} (m : Ghosts H) (e : MasterState H) (what : Option MasterHeard) (place : ℕ) (done : Bool)
    → Judges e.stations (body_of e) place (if done then effect_in m e what e.phase else effect.Nothing)
    (offered done (is_polled e.phase place) (is_good what) (is_from (slice_get e.stations place) (body_of e)) (record { body = body_of e; has_room = m.room_for e.host (body_of e) }))
done-judges m e what place true = in-judges m e what place e.phase
done-judges m e what place false = refl

-- ---- a tick

tick-in-keeps : (stations : List Station) (body : List ℕ) (place : ℕ) (setup : MasterSetup) (ready : Bool) (at : Phase) → Keeps stations body place (effect_of_tick setup ready at)
tick-in-keeps stations body place setup ready phase.Idle = cond_both ready _ _ (Keeps stations body place) (λ is. refl) (λ is. refl)
tick-in-keeps stations body place setup ready (phase.WaitsForAck left resent) =
    cond_both (nat_lt 1 left) _ _ (Keeps stations body place) (λ is. refl) (λ is. unacknowledged-keeps stations body place setup resent)
tick-in-keeps stations body place setup ready (phase.WaitsAfterPoll left at) = cond_both (nat_lt 1 left) _ _ (Keeps stations body place) (λ is. refl) (λ is. refl)

tick-keeps : (stations : List Station) (body : List ℕ) (place : ℕ) (done : Bool) (setup : MasterSetup) (ready : Bool) (at : Phase) → Keeps stations body place (if done then effect_of_tick setup ready at else effect.Nothing)
tick-keeps stations body place true setup ready at = tick-in-keeps stations body place setup ready at
tick-keeps stations body place false setup ready at = refl

-- ---- over signals

pub signal-keys : {H : Type 0} (m : Ghosts H) (e : MasterState H) (place : ℕ) (signal : Letter) → kept_at (master_after m e signal).stations place ≡ fold kept_after (kept_at e.stations place) (offers_at m e place signal)
signal-keys m e place (Byte b) =
    let what = effect_of_byte m e b in
    let told = with_host (with_byte e b) (host_told m (fate_of what) (host_accepted m what e.host (body_of (with_byte e b)))) in
    ap (λ (l : List Station). kept_at l place) (performed-stations told what) ∙ done-judges m (with_byte e b) (heard_at e b) place (is_done e.mouth)
signal-keys {H} m e place Tick =
    let what = effect_at_tick m e in
    let told = with_host e (host_told m (fate_of what) (host_ticked m what e.host)) in
    ap (λ (l : List Station). kept_at l place) (performed-stations told what) ∙ tick-keeps e.stations (body_of e) place (is_done e.mouth) e.setup _ e.phase
signal-keys m e place Take = ap (λ (l : List Station). kept_at l place) (begun_of-stations m e (message_next m e))

fold-append : (kept : Option Key) (before later : List Offer) → fold kept_after (fold kept_after kept before) later ≡ fold kept_after kept (before ++ later)
fold-append kept [] later = refl
fold-append kept (offer ∷ before) later = fold-append (kept_after kept offer) before later

pub signals-keys : {H : Type 0} (m : Ghosts H) (e : MasterState H) (place : ℕ) (signals : List Letter) → kept_at (master_after_all m e signals).stations place ≡ fold kept_after (kept_at e.stations place) (offers m e place signals)
signals-keys m e place [] = refl
signals-keys m e place (signal ∷ signals) =
    signals-keys m (master_after m e signal) place signals
    ∙ ap (λ (kept : Option Key). fold kept_after kept (offers m (master_after m e signal) place signals)) (signal-keys m e place signal)
    ∙ fold-append (kept_at e.stations place) (offers_at m e place signal) (offers m (master_after m e signal) place signals)

-- the numbers stay
after-numbers : (stations : List Station) (body : List ℕ) (what : Effect) → numbers_of (stations_after stations body what) ≡ numbers_of stations
after-numbers stations body effect.Nothing = refl
after-numbers stations body (effect.Waits left) = refl
after-numbers stations body effect.Delivered = refl
after-numbers stations body (effect.Again resent) = refl
after-numbers stations body effect.GivenUp = refl
after-numbers stations body effect.PollOver = refl
after-numbers stations body (effect.Accepted place) = with_key-numbers stations place (key_of body)
after-numbers stations body effect.Repeated = refl
after-numbers stations body effect.Refused = refl
after-numbers stations body effect.Damaged = refl
after-numbers stations body effect.Polls = refl

performed-numbers : {H : Type 0} (e : MasterState H) (what : Effect) → numbers_of (performed e what).stations ≡ numbers_of e.stations
performed-numbers e what = ap (λ (l : List Station). numbers_of l) (performed-stations e what) ∙ after-numbers e.stations (body_of e) what

pub signal-numbers : {H : Type 0} (m : Ghosts H) (e : MasterState H) (signal : Letter) → numbers_of (master_after m e signal).stations ≡ numbers_of e.stations
signal-numbers m e (Byte b) =
    let what = effect_of_byte m e b in
    performed-numbers (with_host (with_byte e b) (host_told m (fate_of what) (host_accepted m what e.host (body_of (with_byte e b))))) what
signal-numbers m e Tick =
    let what = effect_at_tick m e in
    performed-numbers (with_host e (host_told m (fate_of what) (host_ticked m what e.host))) what
signal-numbers m e Take = ap (λ (l : List Station). numbers_of l) (begun_of-stations m e (message_next m e))
