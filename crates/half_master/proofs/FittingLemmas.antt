-- What holds of each master stays so over an effect and a take, and each effect suits the master where it comes about.
use Rattle.std.proofs.Common.{◌≡◌, ◌<◌, ◌≤◌, ℕ, zero, suc, ◌+◌, Bool, true, false, List, [], ◌∷◌, length, Option, Some, None, inl, inr, refl, ap, sym, subst, ◌∙◌, arith}
use Rattle.std.specs.Prelude.{IsTrue, slice_get, slice_set, slice_index, nat_lt, ◌==◌, if◌then◌else◌}
use Rattle.std.specs.List.{All}
use Rattle.std.proofs.lemmas.Bool.{cond_both, or_cases, eqb-true, ltb-true}
use Rattle.std.proofs.lemmas.List.{length-map}
use Rattle.df1_base.specs.declared.host.Host.{Ghosts}
use Rattle.df1_base.specs.Host.{IsBody}
use Rattle.half_frame.specs.declared.framer.Sent.{Sent}
use Rattle.half_frame.specs.declared.heard.MasterHeard.{MasterHeard}
use Rattle.half_frame.specs.declared.heard.MasterHeard.TheVariants as heard
use Rattle.half_mouth.specs.Giving.{Giving, nothing, is_done, bytes_left, taken, take}
use Rattle.pccc_envelope.specs.declared.key.Key.{Key}
use Rattle.pccc_envelope.specs.Envelope.{key_of}
use Rattle.pccc_envelope.specs.Accepted.{Verdict, Repeated, Accepted, Refused, is_kept}
use Rattle.half_master.specs.declared.MasterSetup.{MasterSetup}
use Rattle.half_master.specs.declared.stations.Station.{Station}
use Rattle.half_master.specs.declared.table.Phase.{Phase}
use Rattle.half_master.specs.declared.table.Phase.TheVariants as phase
use Rattle.half_master.specs.declared.table.Effect.{Effect}
use Rattle.half_master.specs.declared.table.Effect.TheVariants as effect
use Rattle.half_master.specs.Stations.{IsNumber, AreStations, listed, numbers_of, is_listed, with_key, place_after}
use Rattle.half_master.specs.Master.{MasterState, body_of, unacknowledged, effect_of_verdict, answered, effect_on_message, effect_on_poll, effect_in, effect_heard, effect_of_tick, with_left}
use Rattle.half_master.specs.Fitting.{IsMessage, PhaseFits, Fits, Suits}

-- ---- the list

-- a number of the list is a station's
pub listed-number : (stations : List Station) (number : ℕ) → All IsNumber (numbers_of stations) → is_listed stations number ≡ true → IsNumber number
listed-number [] number each is = absurd cc
listed-number (station ∷ stations) number each is = elim (or_cases (station.number == number) (is_listed stations number) is) as (λ _. IsNumber number) [
  | inl here ↦ subst (λ (n : ℕ). IsNumber n) (eqb-true station.number number here) (each 0 0 (omega arith))
  | inr there ↦ listed-number stations number (λ k d below. each (suc k) d (omega (arith, below))) there
]

pub number-at : (stations : List Station) (place : ℕ) (station : Station) → All IsNumber (numbers_of stations) → slice_get stations place ≡ Some station → IsNumber station.number
number-at [] place station each is = absurd cc
number-at (first ∷ stations) zero station each is =
    let same : first ≡ station = cc in
    subst (λ (s : Station). IsNumber s.number) same (each 0 0 (omega arith))
number-at (first ∷ stations) (suc place) station each is = number-at stations place station (λ k d below. each (suc k) d (omega (arith, below))) is

set-numbers : (stations : List Station) (place : ℕ) (station : Station) (key : Key) → slice_get stations place ≡ Some station
    → numbers_of (slice_set stations place (record { number = station.number; kept = Some key })) ≡ numbers_of stations
set-numbers [] place station key is = refl
set-numbers (first ∷ stations) zero station key is =
    let same : station ≡ first = cc in
    ap (λ (s : Station). s.number ∷ numbers_of stations) same
set-numbers (first ∷ stations) (suc place) station key is = ap (λ (l : List ℕ). first.number ∷ l) (set-numbers stations place station key is)

keyed-numbers : (stations : List Station) (place : ℕ) (key : Key) (o : Option Station) → slice_get stations place ≡ o
    → numbers_of (elim o as (λ _. List Station) [ None ↦ stations | Some station ↦ slice_set stations place (record { number = station.number; kept = Some key }) ]) ≡ numbers_of stations
keyed-numbers stations place key None is = refl
keyed-numbers stations place key (Some station) is = set-numbers stations place station key is

-- a key that is kept changes no number
pub with_key-numbers : (stations : List Station) (place : ℕ) (key : Key) → numbers_of (with_key stations place key) ≡ numbers_of stations
with_key-numbers stations place key = keyed-numbers stations place key (slice_get stations place) refl

length-numbers : (stations : List Station) → length (numbers_of stations) ≡ length stations
length-numbers stations = length-map stations (λ (station : Station). station.number)

pub with_key-length : (stations : List Station) (place : ℕ) (key : Key) → length (with_key stations place key) ≡ length stations
with_key-length stations place key =
    sym (length-numbers (with_key stations place key)) ∙ ap (λ (l : List ℕ). length l) (with_key-numbers stations place key) ∙ length-numbers stations

pub listed-numbers : (numbers : List ℕ) → numbers_of (listed numbers) ≡ numbers
listed-numbers [] = refl
listed-numbers (n ∷ numbers) = ap (λ (l : List ℕ). n ∷ l) (listed-numbers numbers)

-- at most 32 stations are in the list
pub few-stations : (stations : List Station) → AreStations (numbers_of stations) → length stations ≤ 32
few-stations stations list = omega (arith, length-numbers stations, list.at_most)

-- the place after one is in the list too
pub next-in : (stations : List Station) (place : ℕ) → 1 ≤ length stations → place_after stations place < length stations
next-in stations place some =
    cond_both (nat_lt (place + 1) (length stations)) (place + 1) 0 (λ (n : ℕ). n < length stations) (λ is. ltb-true (place + 1) (length stations) is) (λ is. omega (arith, some))

-- ---- the phase

-- nothing is left
pub done-few : (left : List Sent) → (length left == 0) ≡ true → length left ≤ 2
done-few [] is = omega arith
done-few (sent ∷ left) is = let none : length (sent ∷ left) ≡ 0 = eqb-true (length (sent ∷ left)) 0 is in omega (arith, none)

pub left-fits : (stations : List Station) (mouth : Giving) (sending : List ℕ) (left : ℕ) (at : Phase) → PhaseFits stations mouth sending at → PhaseFits stations mouth sending (with_left left at)
left-fits stations mouth sending left phase.Idle fits = fits
left-fits stations mouth sending left (phase.WaitsForAck was resent) fits = fits
left-fits stations mouth sending left (phase.WaitsAfterPoll was place) fits = fits

length-fits : (stations others : List Station) (mouth : Giving) (sending : List ℕ) (at : Phase) → length others ≡ length stations → PhaseFits stations mouth sending at → PhaseFits others mouth sending at
length-fits stations others mouth sending phase.Idle same fits = fits
length-fits stations others mouth sending (phase.WaitsForAck left resent) same fits = fits
length-fits stations others mouth sending (phase.WaitsAfterPoll left place) same fits = omega (arith, same, fits)

-- with another message that is sent
pub sending-fits : (stations : List Station) (mouth : Giving) (sending body : List ℕ) (at : Phase) → IsMessage body → PhaseFits stations mouth sending at → PhaseFits stations mouth body at
sending-fits stations mouth sending body phase.Idle message fits = fits
sending-fits stations mouth sending body (phase.WaitsForAck left resent) message fits = message
sending-fits stations mouth sending body (phase.WaitsAfterPoll left place) message fits = fits

-- with a key that is kept
pub key-fits : (stations : List Station) (next : ℕ) (at : Phase) (mouth : Giving) (sending : List ℕ) (place : ℕ) (key : Key) → Fits stations next at mouth sending → Fits (with_key stations place key) next at mouth sending
key-fits stations next at mouth sending place key fits = record {
  are_stations = subst (λ (numbers : List ℕ). AreStations numbers) (sym (with_key-numbers stations place key)) fits.are_stations;
  next_in = λ some. let same = with_key-length stations place key in let was = fits.next_in (omega (arith, same, some)) in omega (arith, same, was);
  phase_fits = length-fits stations (with_key stations place key) mouth sending at (with_key-length stations place key) fits.phase_fits;
}

-- at first
pub new-fits : (numbers : List ℕ) → AreStations numbers → Fits (listed numbers) 0 phase.Idle nothing []
new-fits numbers list = record {
  are_stations = subst (λ (l : List ℕ). AreStations l) (sym (listed-numbers numbers)) list;
  next_in = λ some. omega (arith, some);
  phase_fits = omega arith;
}

-- ---- a byte that is given

taken-few : (g : Giving) (left : List Sent) → g.left ≡ left → bytes_left (taken g left).0 ≤ bytes_left g
taken-few g [] is = omega arith
taken-few g (sent ∷ left) is = rw is (omega arith)

pub take-few : (g : Giving) → bytes_left (take g).0 ≤ bytes_left g
take-few g = taken-few g g.left refl

take-phase : (stations : List Station) (mouth : Giving) (sending : List ℕ) (at : Phase) → PhaseFits stations mouth sending at → PhaseFits stations (take mouth).0 sending at
take-phase stations mouth sending phase.Idle fits = omega (arith, take-few mouth, fits)
take-phase stations mouth sending (phase.WaitsForAck left resent) fits = fits
take-phase stations mouth sending (phase.WaitsAfterPoll left place) fits = fits

pub take-fits : (stations : List Station) (next : ℕ) (at : Phase) (mouth : Giving) (sending : List ℕ) → Fits stations next at mouth sending → Fits stations next at (take mouth).0 sending
take-fits stations next at mouth sending fits = record { are_stations = fits.are_stations; next_in = fits.next_in; phase_fits = take-phase stations mouth sending at fits.phase_fits }

-- ---- each effect suits the master

unacknowledged-suits : (stations : List Station) (mouth : Giving) (sending body : List ℕ) (setup : MasterSetup) (resent : ℕ) → IsMessage sending → is_done mouth ≡ true
    → Suits stations mouth sending body (unacknowledged setup resent)
unacknowledged-suits stations mouth sending body setup resent message done =
    cond_both (nat_lt resent setup.max_resends) _ _ (Suits stations mouth sending body) (λ is. message) (λ is. done)

message-suits : (stations : List Station) (mouth : Giving) (sending body : List ℕ) (setup : MasterSetup) (resent : ℕ) (what : Option MasterHeard) → IsMessage sending → is_done mouth ≡ true
    → Suits stations mouth sending body (effect_on_message setup resent what)
message-suits stations mouth sending body setup resent None message done = tt
message-suits stations mouth sending body setup resent (Some heard.Good) message done = tt
message-suits stations mouth sending body setup resent (Some heard.Damaged) message done = tt
message-suits stations mouth sending body setup resent (Some heard.Ack) message done = done
message-suits stations mouth sending body setup resent (Some heard.Nak) message done = unacknowledged-suits stations mouth sending body setup resent message done
message-suits stations mouth sending body setup resent (Some heard.Eot) message done = tt
message-suits stations mouth sending body setup resent (Some (heard.Stray b)) message done = tt
message-suits stations mouth sending body setup resent (Some (heard.StrayPair c)) message done = tt

verdict-suits : (stations : List Station) (mouth : Giving) (sending body : List ℕ) (place : ℕ) (v : Verdict) → place < length stations → IsBody body → Suits stations mouth sending body (effect_of_verdict place v)
verdict-suits stations mouth sending body place Repeated in_list is = tt
verdict-suits stations mouth sending body place Accepted in_list is = (in_list, is)
verdict-suits stations mouth sending body place Refused in_list is = tt

answer-suits : (room : List ℕ → Bool) (stations : List Station) (mouth : Giving) (sending body : List ℕ) (place : ℕ) (o : Option Station) → place < length stations → IsBody body
    → Suits stations mouth sending body (answered room place o body)
answer-suits room stations mouth sending body place None in_list is = tt
answer-suits room stations mouth sending body place (Some station) in_list is =
    cond_both (slice_index body 1 == station.number) _ _ (Suits stations mouth sending body) (λ from. verdict-suits stations mouth sending body place _ in_list is) (λ other. tt)

poll-suits : (stations : List Station) (mouth : Giving) (sending body : List ℕ) (good : Effect) (what : Option MasterHeard) → (what ≡ Some heard.Good → Suits stations mouth sending body good) → is_done mouth ≡ true
    → Suits stations mouth sending body (effect_on_poll good what)
poll-suits stations mouth sending body good None suits done = tt
poll-suits stations mouth sending body good (Some heard.Good) suits done = suits refl
poll-suits stations mouth sending body good (Some heard.Damaged) suits done = tt
poll-suits stations mouth sending body good (Some heard.Ack) suits done = tt
poll-suits stations mouth sending body good (Some heard.Nak) suits done = tt
poll-suits stations mouth sending body good (Some heard.Eot) suits done = done
poll-suits stations mouth sending body good (Some (heard.Stray b)) suits done = tt
poll-suits stations mouth sending body good (Some (heard.StrayPair c)) suits done = tt

in-suits : {H : Type 0} (m : Ghosts H) (e : MasterState H) (what : Option MasterHeard) (at : Phase) → PhaseFits e.stations e.mouth e.sending at → (what ≡ Some heard.Good → IsBody (body_of e)) → is_done e.mouth ≡ true
    → Suits e.stations e.mouth e.sending (body_of e) (effect_in m e what at)
in-suits m e what phase.Idle fits good done = tt
in-suits m e what (phase.WaitsForAck left resent) fits good done = message-suits e.stations e.mouth e.sending (body_of e) e.setup resent what fits done
in-suits m e what (phase.WaitsAfterPoll left place) fits good done =
    poll-suits e.stations e.mouth e.sending (body_of e) (answered (m.room_for e.host) place (slice_get e.stations place) (body_of e)) what
    (λ is. answer-suits (m.room_for e.host) e.stations e.mouth e.sending (body_of e) place (slice_get e.stations place) fits (good is)) done

pub heard-suits : {H : Type 0} (m : Ghosts H) (e : MasterState H) (what : Option MasterHeard) → PhaseFits e.stations e.mouth e.sending e.phase → (what ≡ Some heard.Good → IsBody (body_of e))
    → Suits e.stations e.mouth e.sending (body_of e) (effect_heard m e what)
heard-suits m e what fits good =
    cond_both (is_done e.mouth) _ _ (Suits e.stations e.mouth e.sending (body_of e)) (λ done. in-suits m e what e.phase fits good done) (λ gives. tt)

tick-in-suits : (stations : List Station) (mouth : Giving) (sending body : List ℕ) (setup : MasterSetup) (ready : Bool) (at : Phase) → PhaseFits stations mouth sending at → is_done mouth ≡ true
    → Suits stations mouth sending body (effect_of_tick setup ready at)
tick-in-suits stations mouth sending body setup ready phase.Idle fits done = cond_both ready _ _ (Suits stations mouth sending body) (λ is. tt) (λ is. tt)
tick-in-suits stations mouth sending body setup ready (phase.WaitsForAck left resent) fits done =
    cond_both (nat_lt 1 left) _ _ (Suits stations mouth sending body) (λ is. tt) (λ is. unacknowledged-suits stations mouth sending body setup resent fits done)
tick-in-suits stations mouth sending body setup ready (phase.WaitsAfterPoll left place) fits done = cond_both (nat_lt 1 left) _ _ (Suits stations mouth sending body) (λ is. tt) (λ is. done)

pub tick-suits : (stations : List Station) (mouth : Giving) (sending body : List ℕ) (setup : MasterSetup) (ready : Bool) (at : Phase) → PhaseFits stations mouth sending at
    → Suits stations mouth sending body (if is_done mouth then effect_of_tick setup ready at else effect.Nothing)
tick-suits stations mouth sending body setup ready at fits =
    cond_both (is_done mouth) _ _ (Suits stations mouth sending body) (λ done. tick-in-suits stations mouth sending body setup ready at fits done) (λ gives. tt)

-- ---- there is room for what is accepted

abbrev pub HasRoom : Bool → List ℕ → Effect → Type 0
HasRoom room body what = (place : ℕ) → what ≡ effect.Accepted place → IsBody body × IsTrue room

judged-room : (place : ℕ) (body : List ℕ) (repeats room : Bool) → IsBody body → HasRoom room body (effect_of_verdict place (if repeats then Repeated else (if room then Accepted else Refused)))
judged-room place body true room is at accepts = absurd cc
judged-room place body false true is at accepts = (is, refl)
judged-room place body false false is at accepts = absurd cc

answer-room : (room : List ℕ → Bool) (body : List ℕ) (place : ℕ) (o : Option Station) → IsBody body → HasRoom (room body) body (answered room place o body)
answer-room room body place None is = λ at accepts. absurd cc
answer-room room body place (Some station) is =
    cond_both (slice_index body 1 == station.number) _ _ (HasRoom (room body) body) (λ from. judged-room place body (is_kept station.kept (key_of body)) (room body) is) (λ other at accepts. absurd cc)

unacknowledged-room : (room : Bool) (body : List ℕ) (setup : MasterSetup) (resent : ℕ) → HasRoom room body (unacknowledged setup resent)
unacknowledged-room room body setup resent = cond_both (nat_lt resent setup.max_resends) _ _ (HasRoom room body) (λ is at accepts. absurd cc) (λ is at accepts. absurd cc)

message-room : (room : Bool) (body : List ℕ) (setup : MasterSetup) (resent : ℕ) (what : Option MasterHeard) → HasRoom room body (effect_on_message setup resent what)
message-room room body setup resent None at accepts = absurd cc
message-room room body setup resent (Some heard.Good) at accepts = absurd cc
message-room room body setup resent (Some heard.Damaged) at accepts = absurd cc
message-room room body setup resent (Some heard.Ack) at accepts = absurd cc
message-room room body setup resent (Some heard.Nak) at accepts = unacknowledged-room room body setup resent at accepts
message-room room body setup resent (Some heard.Eot) at accepts = absurd cc
message-room room body setup resent (Some (heard.Stray b)) at accepts = absurd cc
message-room room body setup resent (Some (heard.StrayPair c)) at accepts = absurd cc

poll-room : (room : Bool) (body : List ℕ) (good : Effect) (what : Option MasterHeard) → (what ≡ Some heard.Good → HasRoom room body good) → HasRoom room body (effect_on_poll good what)
poll-room room body good None has at accepts = absurd cc
poll-room room body good (Some heard.Good) has at accepts = has refl at accepts
poll-room room body good (Some heard.Damaged) has at accepts = absurd cc
poll-room room body good (Some heard.Ack) has at accepts = absurd cc
poll-room room body good (Some heard.Nak) has at accepts = absurd cc
poll-room room body good (Some heard.Eot) has at accepts = absurd cc
poll-room room body good (Some (heard.Stray b)) has at accepts = absurd cc
poll-room room body good (Some (heard.StrayPair c)) has at accepts = absurd cc

in-room : {H : Type 0} (m : Ghosts H) (e : MasterState H) (what : Option MasterHeard) (at : Phase) → (what ≡ Some heard.Good → IsBody (body_of e)) → HasRoom (m.room_for e.host (body_of e)) (body_of e) (effect_in m e what at)
in-room m e what phase.Idle good = λ at accepts. absurd cc
in-room m e what (phase.WaitsForAck left resent) good = message-room (m.room_for e.host (body_of e)) (body_of e) e.setup resent what
in-room m e what (phase.WaitsAfterPoll left place) good =
    poll-room (m.room_for e.host (body_of e)) (body_of e) (answered (m.room_for e.host) place (slice_get e.stations place) (body_of e)) what
    (λ is. answer-room (m.room_for e.host) (body_of e) place (slice_get e.stations place) (good is))

pub heard-room : {H : Type 0} (m : Ghosts H) (e : MasterState H) (what : Option MasterHeard) → (what ≡ Some heard.Good → IsBody (body_of e)) → HasRoom (m.room_for e.host (body_of e)) (body_of e) (effect_heard m e what)
heard-room m e what good =
    cond_both (is_done e.mouth) _ _ (HasRoom (m.room_for e.host (body_of e)) (body_of e)) (λ done. in-room m e what e.phase good) (λ gives at accepts. absurd cc)
