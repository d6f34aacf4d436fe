-- What a byte and a tick do to a master, said of its host, its list and what is told alone.
use Rattle.std.proofs.Common.{◌≡◌, ◌∙◌, ℕ, zero, suc, Bool, true, false, List, [], ◌∷◌, Option, Some, None, option_map, refl, ap, sym, subst}
use Rattle.std.specs.Prelude.{slice_get, slice_set, slice_index, nat_lt, ◌||◌, ◌==◌, if◌then◌else◌}
use Rattle.std.specs.Option.{option_and_then}
use Rattle.std.proofs.lemmas.Bool.{cond_both, eqb-true}
use Rattle.std.proofs.lemmas.Option.{slice_get-map}
use Rattle.df1_base.specs.declared.host.Fate.{Fate}
use Rattle.df1_base.specs.declared.host.Host.{Ghosts}
use Rattle.df1_base.specs.declared.host.News.TheVariants as news
use Rattle.df1_base.specs.declared.link.Act.TheVariants as act
use Rattle.df1_base.specs.declared.link.Turn.{Turn}
use Rattle.df1_base.specs.declared.link.Turn.TheVariants as turn
use Rattle.df1_base.specs.HostAnswers.{host_told, news_of}
use Rattle.half_frame.specs.declared.heard.MasterHeard.{MasterHeard}
use Rattle.half_frame.specs.declared.heard.MasterHeard.TheVariants as heard
use Rattle.half_mouth.specs.Giving.{is_done}
use Rattle.pccc_envelope.specs.declared.key.Key.{Key}
use Rattle.pccc_envelope.specs.Envelope.{key_of}
use Rattle.pccc_envelope.specs.Accepted.{Repeated, Accepted, Refused, is_kept}
use Rattle.half_master.specs.declared.MasterSetup.{MasterSetup}
use Rattle.half_master.specs.declared.stations.Station.{Station}
use Rattle.half_master.specs.declared.table.Phase.{Phase}
use Rattle.half_master.specs.declared.table.Phase.TheVariants as phase
use Rattle.half_master.specs.declared.table.Effect.{Effect}
use Rattle.half_master.specs.declared.table.Effect.TheVariants as effect
use Rattle.half_master.specs.Stations.{numbers_of, is_listed, with_key}
use Rattle.std.specs.List.{list_any}
use Rattle.half_master.specs.Keys.{kept_at}
use Rattle.half_master.proofs.Keeping.{keyed}
use Rattle.half_frame.specs.MasterStanding.{lent_at}
use Rattle.half_master.specs.Master.{MasterState, with_host, with_byte, body_of, heard_at, is_good, unacknowledged, effect_of_verdict, answered, effect_on_message, effect_on_poll, effect_in, effect_of_byte, effect_at_tick, polled, performed, fate_of, host_accepted, host_ticked, act_heard, act_of, master_after_byte, step_at_byte, master_after_tick, effect_of_tick, did_at, turn_told, turn_at_tick, gone_of, gone_at_tick}

-- ---- what an effect leaves as it is

polled-leaves : {H : Type 0} (e : MasterState H) (o : Option Station) → ((polled e o).host ≡ e.host) × ((polled e o).stations ≡ e.stations) × ((polled e o).ear ≡ e.ear)
polled-leaves e None = (refl, refl, refl)
polled-leaves e (Some station) = (refl, refl, refl)

performed-leaves : {H : Type 0} (e : MasterState H) (what : Effect) → ((performed e what).host ≡ e.host) × ((performed e what).ear ≡ e.ear)
performed-leaves e effect.Nothing = (refl, refl)
performed-leaves e (effect.Waits left) = (refl, refl)
performed-leaves e effect.Delivered = (refl, refl)
performed-leaves e (effect.Again resent) = (refl, refl)
performed-leaves e effect.GivenUp = (refl, refl)
performed-leaves e effect.PollOver = (refl, refl)
performed-leaves e (effect.Accepted place) = (refl, refl)
performed-leaves e effect.Repeated = (refl, refl)
performed-leaves e effect.Refused = (refl, refl)
performed-leaves e effect.Damaged = (refl, refl)
performed-leaves e effect.Polls = let leaves = polled-leaves e (slice_get e.stations e.next) in (leaves.0, leaves.2)

-- the body that is lent after a byte
pub lent-after : {H : Type 0} (m : Ghosts H) (e : MasterState H) (b : ℕ) → body_of (master_after_byte m e b) ≡ body_of (with_byte e b)
lent-after m e b =
    let what = effect_of_byte m e b in
    let host = host_told m (fate_of what) (host_accepted m what e.host (body_of (with_byte e b))) in
    ap (λ ear. lent_at ear.standing) (performed-leaves (with_host (with_byte e b) host) what).1

-- ---- a byte

-- a message was accepted from the station at a place: it is from it, and its key wasn't the kept one
pub record Accepts {H : Type 0} (m : Ghosts H) (e : MasterState H) (b : ℕ) : Type 0 where
  pub place : ℕ
  pub station : Station
  pub is_at : slice_get e.stations place ≡ Some station
  pub from : slice_index (body_of (with_byte e b)) 1 ≡ station.number
  pub new : is_kept station.kept (key_of (body_of (with_byte e b))) ≡ false
  pub whole : (step_at_byte m e b).whole ≡ true
  pub host : (master_after_byte m e b).host ≡ m.after_accept e.host (body_of (with_byte e b))
  pub stations : (master_after_byte m e b).stations ≡ with_key e.stations place (key_of (body_of (with_byte e b)))
  pub act : (step_at_byte m e b).act ≡ act.Accept
  pub did : (step_at_byte m e b).did ≡ Some (m.did e.host (body_of (with_byte e b)))
  pub news : (step_at_byte m e b).news ≡ news.Nothing

-- none was; the host may be told a fate
pub record PassesOver {H : Type 0} (m : Ghosts H) (e : MasterState H) (b : ℕ) : Type 0 where
  pub fate : Option Fate
  pub host : (master_after_byte m e b).host ≡ host_told m fate e.host
  pub stations : (master_after_byte m e b).stations ≡ e.stations
  pub act : (step_at_byte m e b).act ≡ act.Accept → ⊥
  pub news : (step_at_byte m e b).news ≡ news_of m fate e.host

pub data AtByte {H : Type 0} (m : Ghosts H) (e : MasterState H) (b : ℕ) : Type 0 where
  accepts : Accepts m e b → AtByte m e b
  passes : PassesOver m e b → AtByte m e b

-- what an accept rests on
abbrev Rests : List Station → List ℕ → Option MasterHeard → Effect → Type 0
Rests stations body what (effect.Accepted place) = (station : Station) × (slice_get stations place ≡ Some station) × (slice_index body 1 ≡ station.number) × (is_kept station.kept (key_of body) ≡ false) × (is_good what ≡ true)
Rests stations body what _ = Unit {0}

unacknowledged-rests : (stations : List Station) (body : List ℕ) (what : Option MasterHeard) (setup : MasterSetup) (resent : ℕ) → Rests stations body what (unacknowledged setup resent)
unacknowledged-rests stations body what setup resent = cond_both (nat_lt resent setup.max_resends) _ _ (Rests stations body what) (λ is. tt) (λ is. tt)

message-rests : (stations : List Station) (body : List ℕ) (setup : MasterSetup) (resent : ℕ) (what : Option MasterHeard) → Rests stations body what (effect_on_message setup resent what)
message-rests stations body setup resent None = tt
message-rests stations body setup resent (Some heard.Good) = tt
message-rests stations body setup resent (Some heard.Damaged) = tt
message-rests stations body setup resent (Some heard.Ack) = tt
message-rests stations body setup resent (Some heard.Nak) = unacknowledged-rests stations body (Some heard.Nak) setup resent
message-rests stations body setup resent (Some heard.Eot) = tt
message-rests stations body setup resent (Some (heard.Stray b)) = tt
message-rests stations body setup resent (Some (heard.StrayPair c)) = tt

verdict-rests : (stations : List Station) (body : List ℕ) (place : ℕ) (station : Station) (kept room : Bool) → is_kept station.kept (key_of body) ≡ kept → slice_get stations place ≡ Some station → slice_index body 1 ≡ station.number
    → Rests stations body (Some heard.Good) (effect_of_verdict place (if kept then Repeated else (if room then Accepted else Refused)))
verdict-rests stations body place station true room is at from = tt
verdict-rests stations body place station false true is at from = (station, at, from, is, refl)
verdict-rests stations body place station false false is at from = tt

answered-rests : (stations : List Station) (room : List ℕ → Bool) (place : ℕ) (o : Option Station) (body : List ℕ) → slice_get stations place ≡ o → Rests stations body (Some heard.Good) (answered room place o body)
answered-rests stations room place None body at = tt
answered-rests stations room place (Some station) body at =
    cond_both (slice_index body 1 == station.number) _ _ (Rests stations body (Some heard.Good))
    (λ from. verdict-rests stations body place station (is_kept station.kept (key_of body)) (room body) refl at (eqb-true _ _ from)) (λ other. tt)

poll-rests : (stations : List Station) (body : List ℕ) (good : Effect) (what : Option MasterHeard) → Rests stations body (Some heard.Good) good → Rests stations body what (effect_on_poll good what)
poll-rests stations body good None h = tt
poll-rests stations body good (Some heard.Good) h = h
poll-rests stations body good (Some heard.Damaged) h = tt
poll-rests stations body good (Some heard.Ack) h = tt
poll-rests stations body good (Some heard.Nak) h = tt
poll-rests stations body good (Some heard.Eot) h = tt
poll-rests stations body good (Some (heard.Stray b)) h = tt
poll-rests stations body good (Some (heard.StrayPair c)) h = tt

in-rests : {H : Type 0} (m : Ghosts H) (e : MasterState H) (what : Option MasterHeard) (at : Phase) → Rests e.stations (body_of e) what (effect_in m e what at)
in-rests m e what phase.Idle = tt
in-rests m e what (phase.WaitsForAck left resent) = message-rests e.stations (body_of e) e.setup resent what
in-rests m e what (phase.WaitsAfterPoll left place) = poll-rests e.stations (body_of e) _ what (answered-rests e.stations (m.room_for e.host) place (slice_get e.stations place) (body_of e) refl)

byte-rests : {H : Type 0} (m : Ghosts H) (e : MasterState H) (b : ℕ) → Rests e.stations (body_of (with_byte e b)) (heard_at e b) (effect_of_byte m e b)
byte-rests m e b = cond_both (is_done e.mouth) _ _ (Rests e.stations (body_of (with_byte e b)) (heard_at e b)) (λ is. in-rests m (with_byte e b) (heard_at e b) e.phase) (λ is. tt)

heard-other : (what : Option MasterHeard) → act_heard what ≡ act.Accept → ⊥
heard-other None is = cc
heard-other (Some heard.Good) is = cc
heard-other (Some heard.Damaged) is = cc
heard-other (Some heard.Ack) is = cc
heard-other (Some heard.Nak) is = cc
heard-other (Some heard.Eot) is = cc
heard-other (Some (heard.Stray b)) is = cc
heard-other (Some (heard.StrayPair c)) is = cc

-- what an effect that accepts nothing leaves
abbrev Leaves : {H : Type 0} → Ghosts H → MasterState H → ℕ → Effect → Type 0
Leaves m e b what =
    let body = body_of (with_byte e b) in
    let after = performed (with_host (with_byte e b) (host_told m (fate_of what) (host_accepted m what e.host body))) what in
    (after.host ≡ host_told m (fate_of what) e.host) × (after.stations ≡ e.stations) × (act_of what (heard_at e b) ≡ act.Accept → ⊥)
    × (news_of m (fate_of what) (host_accepted m what e.host body) ≡ news_of m (fate_of what) e.host)

passes-by : {H : Type 0} (m : Ghosts H) (e : MasterState H) (b : ℕ) (what : Effect) → effect_of_byte m e b ≡ what → Leaves m e b what → AtByte m e b
passes-by {H} m e b what is leaves =
    let all = subst (Leaves m e b) (sym is) leaves in
    passes (record { fate = fate_of (effect_of_byte m e b); host = all.0; stations = all.1; act = all.2; news = all.3 })

abbrev Took : {H : Type 0} → Ghosts H → MasterState H → ℕ → ℕ → Effect → Type 0
Took m e b place what =
    let body = body_of (with_byte e b) in
    let after = performed (with_host (with_byte e b) (host_told m (fate_of what) (host_accepted m what e.host body))) what in
    (after.host ≡ m.after_accept e.host body) × (after.stations ≡ with_key e.stations place (key_of body)) × (act_of what (heard_at e b) ≡ act.Accept)
    × (did_at m what e.host body ≡ Some (m.did e.host body)) × (news_of m (fate_of what) (host_accepted m what e.host body) ≡ news.Nothing)

seen : {H : Type 0} (m : Ghosts H) (e : MasterState H) (b : ℕ) (what : Effect) → effect_of_byte m e b ≡ what → Rests e.stations (body_of (with_byte e b)) (heard_at e b) what → AtByte m e b
seen m e b effect.Nothing is rests = passes-by m e b effect.Nothing is (refl, refl, heard-other (heard_at e b), refl)
seen m e b (effect.Waits left) is rests = passes-by m e b (effect.Waits left) is (refl, refl, heard-other (heard_at e b), refl)
seen m e b effect.Delivered is rests = passes-by m e b effect.Delivered is (refl, refl, heard-other (heard_at e b), refl)
seen m e b (effect.Again resent) is rests = passes-by m e b (effect.Again resent) is (refl, refl, heard-other (heard_at e b), refl)
seen m e b effect.GivenUp is rests = passes-by m e b effect.GivenUp is (refl, refl, heard-other (heard_at e b), refl)
seen m e b effect.PollOver is rests = passes-by m e b effect.PollOver is (refl, refl, heard-other (heard_at e b), refl)
seen m e b (effect.Accepted place) is rests =
    let took = subst (Took m e b place) (sym is) (refl, refl, refl, refl, refl) in
    accepts (record {
      place = place;
      station = rests.0;
      is_at = rests.1;
      from = rests.2;
      new = rests.3;
      whole = rests.4;
      host = took.0;
      stations = took.1;
      act = took.2;
      did = took.3;
      news = took.4;
    })
seen m e b effect.Repeated is rests = passes-by m e b effect.Repeated is (refl, refl, λ no. cc, refl)
seen m e b effect.Refused is rests = passes-by m e b effect.Refused is (refl, refl, λ no. cc, refl)
seen m e b effect.Damaged is rests = passes-by m e b effect.Damaged is (refl, refl, λ no. cc, refl)
seen m e b effect.Polls is rests =
    let leaves = polled-leaves (with_host (with_byte e b) e.host) (slice_get e.stations e.next) in
    passes-by m e b effect.Polls is (leaves.0, leaves.1, heard-other (heard_at e b), refl)

pub at-byte : {H : Type 0} (m : Ghosts H) (e : MasterState H) (b : ℕ) → AtByte m e b
at-byte m e b = seen m e b (effect_of_byte m e b) refl (byte-rests m e b)

-- ---- a tick

-- what is told of a fate
abbrev pub turn_of : {H : Type 0} → Ghosts H → Option Fate → H → Turn
turn_of m None host = turn.Still
turn_of m (Some what) host = turn.Failed (m.news host what)

-- the host has its tick, or is told a fate, or neither
pub record AtTick {H : Type 0} (m : Ghosts H) (e : MasterState H) : Type 0 where
  pub ticked : Bool
  pub fate : Option Fate
  pub host : (master_after_tick m e).host ≡ host_told m fate (if ticked then m.after_tick e.host else e.host)
  pub stations : (master_after_tick m e).stations ≡ e.stations
  pub turn : turn_at_tick m e ≡ turn_of m fate (if ticked then m.after_tick e.host else e.host)
  pub gone : gone_at_tick m e ≡ (if ticked then m.unanswered e.host else [])
  pub one : ticked ≡ true → fate ≡ None

abbrev ticks : Effect → Bool
ticks effect.Polls = true
ticks _ = false

-- no effect of a tick accepts or delivers
abbrev IsOfTick : Effect → Type 0
IsOfTick (effect.Accepted place) = ⊥
IsOfTick effect.Delivered = ⊥
IsOfTick _ = Unit {0}

tick-unacknowledged : (setup : MasterSetup) (resent : ℕ) → IsOfTick (unacknowledged setup resent)
tick-unacknowledged setup resent = cond_both (nat_lt resent setup.max_resends) _ _ IsOfTick (λ is. tt) (λ is. tt)

tick-in : (setup : MasterSetup) (ready : Bool) (at : Phase) → IsOfTick (effect_of_tick setup ready at)
tick-in setup ready phase.Idle = cond_both ready _ _ IsOfTick (λ is. tt) (λ is. tt)
tick-in setup ready (phase.WaitsForAck left resent) = cond_both (nat_lt 1 left) _ _ IsOfTick (λ is. tt) (λ is. tick-unacknowledged setup resent)
tick-in setup ready (phase.WaitsAfterPoll left place) = cond_both (nat_lt 1 left) _ _ IsOfTick (λ is. tt) (λ is. tt)

tick-of : {H : Type 0} (m : Ghosts H) (e : MasterState H) → IsOfTick (effect_at_tick m e)
tick-of m e = cond_both (is_done e.mouth) _ _ IsOfTick (λ is. tick-in e.setup _ e.phase) (λ is. tt)

abbrev Ticked : {H : Type 0} → Ghosts H → MasterState H → Effect → Type 0
Ticked m e what =
    let after = performed (with_host e (host_told m (fate_of what) (host_ticked m what e.host))) what in
    let host = if ticks what then m.after_tick e.host else e.host in
    (after.host ≡ host_told m (fate_of what) host) × (after.stations ≡ e.stations) × (turn_told what (news_of m (fate_of what) (host_ticked m what e.host)) ≡ turn_of m (fate_of what) host)
    × (gone_of m what e.host ≡ (if ticks what then m.unanswered e.host else [])) × (ticks what ≡ true → fate_of what ≡ None)

ticked : {H : Type 0} (m : Ghosts H) (e : MasterState H) (what : Effect) → IsOfTick what → Ticked m e what
ticked m e effect.Nothing is = (refl, refl, refl, refl, λ ticks. refl)
ticked m e (effect.Waits left) is = (refl, refl, refl, refl, λ ticks. refl)
ticked m e effect.Delivered is = absurd is
ticked m e (effect.Again resent) is = (refl, refl, refl, refl, λ ticks. refl)
ticked m e effect.GivenUp is = (refl, refl, refl, refl, λ ticks. absurd cc)
ticked m e effect.PollOver is = (refl, refl, refl, refl, λ ticks. refl)
ticked m e (effect.Accepted place) is = absurd is
ticked m e effect.Repeated is = (refl, refl, refl, refl, λ ticks. refl)
ticked m e effect.Refused is = (refl, refl, refl, refl, λ ticks. refl)
ticked m e effect.Damaged is = (refl, refl, refl, refl, λ ticks. refl)
ticked m e effect.Polls is = let leaves = polled-leaves (with_host e (m.after_tick e.host)) (slice_get e.stations e.next) in (leaves.0, leaves.1, refl, refl, λ ticks. refl)

pub at-tick : {H : Type 0} (m : Ghosts H) (e : MasterState H) → AtTick m e
at-tick m e =
    let what = effect_at_tick m e in
    let is = ticked m e what (tick-of m e) in
    record { ticked = ticks what; fate = fate_of what; host = is.0; stations = is.1; turn = is.2; gone = is.3; one = is.4 }

-- ---- the keys

abbrev kept_in : Option Station → Option Key
kept_in o = option_and_then {T = Station} (λ station. station.kept) o

set-same : (stations : List Station) (place : ℕ) (was now : Station) → slice_get stations place ≡ Some was → slice_get (slice_set stations place now) place ≡ Some now
set-same [] place was now is = absurd cc
set-same (first ∷ stations) zero was now is = refl
set-same (first ∷ stations) (suc place) was now is = set-same stations place was now is

set-other : (stations : List Station) (place other : ℕ) (now : Station) → (other ≡ place → ⊥) → slice_get (slice_set stations place now) other ≡ slice_get stations other
set-other [] place other now differ = refl
set-other (first ∷ stations) zero zero now differ = absurd (differ refl)
set-other (first ∷ stations) zero (suc other) now differ = refl
set-other (first ∷ stations) (suc place) zero now differ = refl
set-other (first ∷ stations) (suc place) (suc other) now differ = set-other stations place other now (λ same. differ (ap (λ n. suc n) same))

keyed-other : (stations : List Station) (place other : ℕ) (key : Key) (o : Option Station) → (other ≡ place → ⊥) → kept_at (keyed stations place key o) other ≡ kept_at stations other
keyed-other stations place other key None differ = refl
keyed-other stations place other key (Some station) differ = ap (λ (o : Option Station). kept_in o) (set-other stations place other (record { number = station.number; kept = Some key }) differ)

-- the key of the station whose message was accepted, before and after, and the keys of the others
pub key-before : {H : Type 0} (m : Ghosts H) (e : MasterState H) (b : ℕ) (a : Accepts m e b) → is_kept (kept_at e.stations a.place) (key_of (body_of (with_byte e b))) ≡ false
key-before m e b a = ap (λ (o : Option Station). is_kept (kept_in o) (key_of (body_of (with_byte e b)))) a.is_at ∙ a.new

pub key-after : {H : Type 0} (m : Ghosts H) (e : MasterState H) (b : ℕ) (a : Accepts m e b) → kept_at (master_after_byte m e b).stations a.place ≡ Some (key_of (body_of (with_byte e b)))
key-after m e b a =
    let key = key_of (body_of (with_byte e b)) in
    let now : Station = record { number = a.station.number; kept = Some key } in
    ap (λ (l : List Station). kept_at l a.place) (a.stations ∙ ap (λ (o : Option Station). keyed e.stations a.place key o) a.is_at)
    ∙ ap (λ (o : Option Station). kept_in o) (set-same e.stations a.place a.station now a.is_at)

pub other-keys : {H : Type 0} (m : Ghosts H) (e : MasterState H) (b : ℕ) (a : Accepts m e b) (other : ℕ) → (other ≡ a.place → ⊥) → kept_at (master_after_byte m e b).stations other ≡ kept_at e.stations other
other-keys m e b a other differ =
    let key = key_of (body_of (with_byte e b)) in
    ap (λ (l : List Station). kept_at l other) a.stations ∙ keyed-other e.stations a.place other key (slice_get e.stations a.place) differ

-- the number of that station, and that of the message's SRC
pub number-at : {H : Type 0} (m : Ghosts H) (e : MasterState H) (b : ℕ) (a : Accepts m e b) → slice_get (numbers_of e.stations) a.place ≡ Some (slice_index (body_of (with_byte e b)) 1)
number-at m e b a = slice_get-map (λ (station : Station). station.number) e.stations a.place ∙ ap (option_map (λ (station : Station). station.number)) a.is_at ∙ ap Some (sym a.from)

-- ---- the list

-- a station is listed where its number is
pub listed-number : (stations : List Station) (number : ℕ) → is_listed stations number ≡ list_any (λ n. n == number) (numbers_of stations)
listed-number [] number = refl
listed-number (station ∷ stations) number = ap (λ (rest : Bool). (station.number == number) || rest) (listed-number stations number)
