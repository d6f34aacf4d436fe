-- What a master gave is right items of its transmissions, each of which has its number and its body.
use Rattle.std.proofs.Common.{◌≡◌, ◌-◌, ◌<◌, ◌^◌, ℕ, Bool, true, false, List, [], ◌∷◌, ◌++◌, length, Option, Some, None, is_some, refl, sym, ap, subst, ◌∙◌, append-nil, append_assoc, arith, inl, inr}
use Rattle.std.specs.Prelude.{◌⊎◌, option_to_list, slice_get, slice_index, if◌then◌else◌}
use Rattle.std.specs.List.{fold, flat_map}
use Rattle.std.proofs.lemmas.Grind.{fold-append}
use Rattle.std.proofs.lemmas.List.Concat.{flat_map-append}
use Rattle.df1_base.specs.Host.{IsBody}
use Rattle.df1_base.specs.declared.host.Host.{Ghosts}
use Rattle.df1_base.specs.declared.host.Fate.TheVariants as fate
use Rattle.df1_base.specs.declared.link.Out.{Out}
use Rattle.df1_base.specs.HostAnswers.{host_told}
use Rattle.df1_check.specs.declared.Check.{Check}
use Rattle.df1_check.specs.Checks.{bcc, check_value}
use Rattle.df1_frame.specs.Spelling.{check_of, covered}
use Rattle.df1_frame.specs.Wire.{AreSendingsOf}
use Rattle.df1_frame.proofs.SpellingLemmas.{length-check}
use Rattle.df1_frame.proofs.Sendings.{are-sendings}
use Rattle.half_frame.specs.declared.heard.MasterHeard.TheVariants as heard
use Rattle.half_frame.specs.SlaveGrammar.{Item, Stray, Pair, Poll, Message, NoText, Broken, CutOff, item_bytes, slave_hears}
use Rattle.half_frame.specs.MasterGives.{rights, IsGivenByMaster}
use Rattle.half_frame.specs.Spelling.{bytes_of, unmarked, pair_bytes, poll_bytes, message_sent, station_head}
use Rattle.half_frame.proofs.SlaveLemmas.{machine, works}
use Rattle.half_frame.proofs.SentLemmas.{bytes_of-text}
use Rattle.half_frame.proofs.WireLemmas.{MayEnd, AreSingle}
use Rattle.half_mouth.specs.Giving.{Giving, transmit, give, is_done, take}
use Rattle.half_mouth.specs.Transmissions.{bytes_given, numbers_ended, counted_to, with_again, transmission_at}
use Rattle.half_mouth.proofs.Wires.{Wires, done-left, IsOver, wires-none, wires-message, wires-again, wires-other, wires-held, wires-take, wires-right, wires-number, wires-ended, IsOfNumber}
use Rattle.half_master.specs.declared.MasterSetup.{MasterSetup}
use Rattle.half_master.specs.declared.stations.Station.{Station}
use Rattle.half_master.specs.declared.table.Phase.TheVariants as phase
use Rattle.half_master.specs.declared.table.Effect.{Effect}
use Rattle.half_master.specs.declared.table.Effect.TheVariants as effect
use Rattle.half_master.specs.Stations.{is_listed}
use Rattle.half_master.specs.Master.{MasterState, new_master, with_host, with_byte, heard_at, body_of, effect_in, effect_of_tick, fate_of, host_accepted, host_ticked, polled, acknowledged, transmitted, performed, message_next, begun_of, begun, given_next, out_at_take}
use Rattle.half_master.specs.Fitting.{Suits}
use Rattle.half_master.specs.Emission.{Letter, Byte, Tick, Take, master_after, given_at, master_after_all, emission}
use Rattle.half_master.specs.Fates.{Event, HandedOut, ForNoStation, events_of, handed_out as handed_event, events_at, events}
use Rattle.half_master.specs.Reached.{Reached}
use Rattle.half_master.specs.Reached as reached
use Rattle.half_master.specs.Past.{Past, no_past, with_signal, HasTicks, Came, begins, goes_on, changes, handed_at, handed_out, with_event, transmissions}
use Rattle.half_master.specs.Stations.{AreStations}
use Rattle.half_master.proofs.CourseLemmas.{by-test}
use Rattle.half_master.proofs.FateLemmas.{begins-when}
use Rattle.half_master.proofs.FittingLemmas.{heard-suits, tick-suits}
use Rattle.half_master.proofs.GoodMessages.{good-6}
use Rattle.half_master.proofs.EarLemmas.{ear-byte}
use Rattle.half_master.proofs.LastMessage.{awaits, OnlyThen, heard-then, tick-then, left-awaits}
use Rattle.half_master.proofs.Reaching.{KeepsBodies, Carried, reached-carries, lent-fits, next-is}

-- ---- right items

-- a message to its station with its own check
abbrev own : Check → List ℕ → Item
own check body = Message (slice_index body 0) body (check_of check (station_head check (slice_index body 0) ++ body))

pub may-end : (check : Check) → MayEnd (slave_hears check 250) (rights check)
may-end check (Stray b) good = absurd good
may-end check (Pair code) good = (λ is. omega (arith, good, is), λ is. omega (arith, good, is))
may-end check (Poll stn bytes) good = tt
may-end check (Message stn body bytes) good = ap length good.2 ∙ length-check check (check_value check (covered check (station_head check stn ++ body)))
may-end check (NoText stn b) good = absurd good
may-end check (Broken begun code) good = absurd good
may-end check (CutOff begun) good = absurd good

single : (check : Check) → AreSingle (slave_hears check 250) (rights check)
single check (Stray b) = inl refl
single check (Pair code) = inl refl
single check (Poll stn bytes) = inl refl
single check (Message stn body bytes) = inr (body, refl)
single check (NoText stn b) = inl refl
single check (Broken begun code) = inl refl
single check (CutOff begun) = inl refl

own-bytes : (check : Check) (body : List ℕ) → item_bytes (own check body) ≡ bytes_of (message_sent check (slice_index body 0) body)
own-bytes check body =
    let head = slice_index body 0 in
    ap (λ (l : List ℕ). 16 ∷ 1 ∷ head ∷ l) (sym (bytes_of-text body (check_of check (station_head check head ++ body))))

-- ---- what a master gave and has begun

abbrev Wired : {H : Type 0} → Check → List (List ℕ) → List (List ℕ) → List Out → MasterState H → Type 0
Wired check messages ts outs e = (e.setup.check ≡ check) × Wires (slave_hears check 250) (machine check 250) (rights check) messages ts outs e.mouth (awaits e.phase) e.sending

-- with what happens now
abbrev After : {H : Type 0} → Check → List (List ℕ) → List (List ℕ) → List Out → List Event → MasterState H → Type 0
After check messages ts outs now e = Wired check (messages ++ flat_map handed_at now) (fold with_event ts now) outs e

same-after : {H : Type 0} (check : Check) (messages ts : List (List ℕ)) (outs : List Out) (e : MasterState H) → Wired check messages ts outs e → After check messages ts outs [] e
same-after check messages ts outs e w = rw (append-nil messages) w

-- a message waits no more
idle-wired : {H : Type 0} (check : Check) (messages ts : List (List ℕ)) (outs : List Out) (e : MasterState H) → Wired check messages ts outs e → Wired check messages ts outs (record e { phase = phase.Idle })
idle-wired check messages ts outs e w =
    (w.0, wires-held (slave_hears check 250) (machine check 250) (rights check) messages ts outs e.mouth (awaits e.phase) false e.sending (λ holds. absurd cc) w.1)

acknowledged-wired : {H : Type 0} (check : Check) (messages ts : List (List ℕ)) (outs : List Out) (e : MasterState H) → IsOver e.mouth → Wired check messages ts outs e → Wired check messages ts outs (acknowledged e)
acknowledged-wired check messages ts outs e over w =
    let given = wires-other (slave_hears check 250) (machine check 250) (rights check) messages ts outs e.mouth (awaits e.phase) e.sending (Pair 6) (unmarked (pair_bytes 6)) refl refl refl (λ none. cc) over w.1 in
    (w.0, wires-held (slave_hears check 250) (machine check 250) (rights check) messages ts outs (give e.mouth (unmarked (pair_bytes 6))) (awaits e.phase) false e.sending (λ holds. absurd cc) given)

polled-wired : {H : Type 0} (check : Check) (messages ts : List (List ℕ)) (outs : List Out) (e : MasterState H) (o : Option Station) → IsOver e.mouth → Wired check messages ts outs e → Wired check messages ts outs (polled e o)
polled-wired check messages ts outs e None over w = w
polled-wired check messages ts outs e (Some station) over w =
    let poll = unmarked (poll_bytes station.number) in
    let given = wires-other (slave_hears check 250) (machine check 250) (rights check) messages ts outs e.mouth (awaits e.phase) e.sending (Poll station.number (bcc (station.number ∷ []))) poll refl refl refl (λ none. cc) over w.1 in
    (w.0, wires-held (slave_hears check 250) (machine check 250) (rights check) messages ts outs (give e.mouth poll) (awaits e.phase) false e.sending (λ holds. absurd cc) given)

performed-wired : {H : Type 0} (check : Check) (messages ts : List (List ℕ)) (outs : List Out) (e : MasterState H) (what : Effect) → IsOver e.mouth → OnlyThen (awaits e.phase) what → Suits e.stations e.mouth e.sending (body_of e) what → Wired check messages ts outs e
    → After check messages ts outs (events_of what) (performed e what)
performed-wired check messages ts outs e effect.Nothing over only suits w = same-after check messages ts outs e w
performed-wired check messages ts outs e (effect.Waits left) over only suits w =
    (w.0, rw (append-nil messages) (wires-held (slave_hears check 250) (machine check 250) (rights check) messages ts outs e.mouth (awaits e.phase) _ e.sending (λ holds. sym (left-awaits left e.phase) ∙ holds) w.1))
performed-wired check messages ts outs e effect.Delivered over only suits w = same-after check messages ts outs (record e { phase = phase.Idle }) (idle-wired check messages ts outs e w)
performed-wired check messages ts outs e (effect.Again resent) over only suits w =
    let P : Check → Type 0 = λ c. Wires (slave_hears check 250) (machine check 250) (rights check) messages (with_again ts) outs (transmit e.mouth (message_sent c (slice_index e.sending 0) e.sending)) true e.sending in (
      w.0,
      rw (append-nil messages) (subst P (sym w.0) (wires-again (slave_hears check 250) (machine check 250) (rights check) messages ts outs e.mouth (awaits e.phase) true e.sending (own check e.sending)
          (message_sent check (slice_index e.sending 0) e.sending) (suits.0, refl, refl) refl (own-bytes check e.sending) (λ none. cc) over (w.1.held only) w.1)),
    )
performed-wired check messages ts outs e effect.GivenUp over only suits w = same-after check messages ts outs (record e { phase = phase.Idle }) (idle-wired check messages ts outs e w)
performed-wired check messages ts outs e effect.PollOver over only suits w = same-after check messages ts outs (record e { phase = phase.Idle }) (idle-wired check messages ts outs e w)
performed-wired check messages ts outs e (effect.Accepted place) over only suits w =
    same-after check messages ts outs (performed e (effect.Accepted place)) (acknowledged-wired check messages ts outs (record e { stations = (performed e (effect.Accepted place)).stations }) over (w.0, w.1))
performed-wired check messages ts outs e effect.Repeated over only suits w = same-after check messages ts outs (acknowledged e) (acknowledged-wired check messages ts outs e over w)
performed-wired check messages ts outs e effect.Refused over only suits w = same-after check messages ts outs e w
performed-wired check messages ts outs e effect.Damaged over only suits w = same-after check messages ts outs e w
performed-wired check messages ts outs e effect.Polls over only suits w = same-after check messages ts outs (performed e effect.Polls) (polled-wired check messages ts outs e (slice_get e.stations e.next) over w)

-- what is done about a byte or a tick: nothing while bytes are given
done-wired : {H : Type 0} (check : Check) (messages ts : List (List ℕ)) (outs : List Out) (told : Effect → MasterState H) (g : Giving) (done : Bool) (what : Effect)
    → is_done g ≡ done → ((x : Effect) → (told x).mouth ≡ g) → OnlyThen (awaits (told (if done then what else effect.Nothing)).phase) (if done then what else effect.Nothing)
    → Suits (told (if done then what else effect.Nothing)).stations (told (if done then what else effect.Nothing)).mouth (told (if done then what else effect.Nothing)).sending (body_of (told (if done then what else effect.Nothing))) (if done then what else effect.Nothing)
    → Wired check messages ts outs (told (if done then what else effect.Nothing))
    → let x = (if done then what else effect.Nothing) in After check messages ts outs (events_of x) (performed (told x) x)
done-wired check messages ts outs told g true what is same only suits w =
    performed-wired check messages ts outs (told what) what (subst IsOver (sym (same what)) (done-left g.left is)) only suits w
done-wired check messages ts outs told g false what is same only suits w = same-after check messages ts outs (told effect.Nothing) w

byte-wired : {H : Type 0} (m : Ghosts H) (check : Check) (messages ts : List (List ℕ)) (outs : List Out) (e : MasterState H) (b : ℕ) → Carried m e → Wired check messages ts outs e → After check messages ts outs (events_at m e (Byte b)) (master_after m e (Byte b))
byte-wired {H} m check messages ts outs e b c w =
    let heard_e = with_byte e b in
    let good : (heard_at e b ≡ Some heard.Good → IsBody (body_of heard_e)) = λ is. (good-6 e.ear b is, lent-fits c.check (c.bytes ++ b ∷ []) heard_e.ear (ear-byte e.ear b c.check c.bytes c.stands)) in
    let told : Effect → MasterState H = λ (x : Effect). with_host heard_e (host_told m (fate_of x) (host_accepted m x e.host (body_of heard_e))) in
    done-wired check messages ts outs told e.mouth (is_done e.mouth) (effect_in m heard_e (heard_at e b) e.phase) refl (λ x. refl) (heard-then m heard_e (heard_at e b)) (heard-suits m heard_e (heard_at e b) c.fits.0.phase_fits good) (w.0, w.1)

tick-wired : {H : Type 0} (m : Ghosts H) (check : Check) (messages ts : List (List ℕ)) (outs : List Out) (e : MasterState H) → Carried m e → Wired check messages ts outs e → After check messages ts outs (events_at m e Tick) (master_after m e Tick)
tick-wired {H} m check messages ts outs e c w =
    let ready = is_some (m.next_body e.host) in
    let told : Effect → MasterState H = λ (x : Effect). with_host e (host_told m (fate_of x) (host_ticked m x e.host)) in
    done-wired check messages ts outs told e.mouth (is_done e.mouth) (effect_of_tick e.setup ready e.phase) refl (λ x. refl) (tick-then m e) (tick-suits e.stations e.mouth e.sending (body_of e) e.setup ready e.phase c.fits.0.phase_fits) (w.0, w.1)

-- ---- a take

begun-wired : {H : Type 0} (m : Ghosts H) (laws : KeepsBodies m) (check : Check) (messages ts : List (List ℕ)) (outs : List Out) (e : MasterState H) (o : Option (List ℕ)) → message_next m e ≡ o → m.holds_bodies e.host → Wired check messages ts outs e
    → After check messages ts outs (handed_event e o) (begun_of m e o)
begun-wired m laws check messages ts outs e None is holds w = same-after check messages ts outs e w
begun-wired {H} m laws check messages ts outs e (Some body) is holds w =
    let begins = begins-when m e body is in
    let listed : MasterState H = transmitted (record e { sending = body; host = m.after_next e.host }) 0 in
    let other : MasterState H = with_host e (m.after_told (m.after_next e.host) fate.Undelivered) in
    let P : Check → Type 0 = λ c. Wires (slave_hears check 250) (machine check 250) (rights check) (messages ++ body ∷ []) (ts ++ body ∷ []) outs (transmit e.mouth (message_sent c (slice_index body 0) body)) true body in
    by-test (is_listed e.stations (slice_index body 0)) (λ (b : Bool). After check messages ts outs (if b then HandedOut body ∷ [] else ForNoStation body ∷ []) (if b then listed else other)) (
      w.0,
      subst P (sym w.0) (wires-message (slave_hears check 250) (machine check 250) (rights check) messages ts outs e.mouth (awaits e.phase) true e.sending (own check body) body (message_sent check (slice_index body 0) body)
          (next-is m laws e.host body holds begins.is_next, refl, refl) refl (own-bytes check body) (λ none. cc) (done-left e.mouth.left begins.done) w.1),
    )
    (same-after check messages ts outs other (w.0, w.1))

take-wired : {H : Type 0} (m : Ghosts H) (check : Check) (messages ts : List (List ℕ)) (outs : List Out) (e : MasterState H) → Wired check messages ts outs e → Wired check messages ts (outs ++ option_to_list (take e.mouth).1) (given_next e)
take-wired m check messages ts outs e w = (w.0, wires-take (slave_hears check 250) (machine check 250) (works check 250) (rights check) (may-end check) messages ts outs e.mouth (awaits e.phase) e.sending w.1)

-- ---- a master with its past

pub came-reached : {H : Type 0} (m : Ghosts H) (past : Past) (e : MasterState H) → Came m past e → Reached m e
came-reached m past e (begins setup numbers host ticks list holds) = reached.begins setup numbers host list holds
came-reached m past e (goes_on before from signal came) = reached.goes_on from signal (came-reached m before from came)
came-reached m past e (changes before from host holds came) = reached.changes from host holds (came-reached m before from came)

abbrev PastWired : {H : Type 0} → Check → Past → MasterState H → Type 0
PastWired check past e = Wired check (handed_out past.events) (transmissions past.events) past.gave e

signal-wired : {H : Type 0} (m : Ghosts H) (laws : KeepsBodies m) (check : Check) (past : Past) (e : MasterState H) (signal : Letter) → Carried m e → PastWired check past e → PastWired check (with_signal m past e signal) (master_after m e signal)
signal-wired m laws check past e (Byte b) c w =
    let now = byte-wired m check (handed_out past.events) (transmissions past.events) past.gave e b c w in
    rw (flat_map-append handed_at past.events (events_at m e (Byte b)), fold-append with_event [] past.events (events_at m e (Byte b)), append-nil past.gave) now
signal-wired m laws check past e Tick c w =
    let now = tick-wired m check (handed_out past.events) (transmissions past.events) past.gave e c w in
    rw (flat_map-append handed_at past.events (events_at m e Tick), fold-append with_event [] past.events (events_at m e Tick), append-nil past.gave) now
signal-wired m laws check past e Take c w =
    let begun_now = begun-wired m laws check (handed_out past.events) (transmissions past.events) past.gave e (message_next m e) refl c.holds w in
    let now = take-wired m check (handed_out past.events ++ flat_map handed_at (events_at m e Take)) (fold with_event (transmissions past.events) (events_at m e Take)) past.gave (begun m e) begun_now in
    rw (flat_map-append handed_at past.events (events_at m e Take), fold-append with_event [] past.events (events_at m e Take)) now

came-wired : {H : Type 0} (m : Ghosts H) (laws : KeepsBodies m) (past : Past) (e : MasterState H) → Came m past e → (check : Check) × PastWired check past e
came-wired m laws past e (begins setup numbers host ticks list holds) = (setup.check, (refl, wires-none (slave_hears setup.check 250) (machine setup.check 250) (works setup.check 250) (rights setup.check)))
came-wired m laws past e (goes_on before from signal came) =
    let was = came-wired m laws before from came in
    (was.0, signal-wired m laws was.0 before from signal (reached-carries m laws from (came-reached m before from came)) was.1)
came-wired m laws past e (changes before from host holds came) =
    let was = came-wired m laws before from came in
    (was.0, (was.1.0, was.1.1))

-- what it gave, at each point
abbrev pub GaveAll : {H : Type 0} → Past → MasterState H → Type 0
GaveAll past e = Wires (slave_hears e.setup.check 250) (machine e.setup.check 250) (rights e.setup.check) (handed_out past.events) (transmissions past.events) past.gave e.mouth (awaits e.phase) e.sending

pub came-gave : {H : Type 0} (m : Ghosts H) (laws : KeepsBodies m) (past : Past) (e : MasterState H) → Came m past e → GaveAll past e
came-gave m laws past e came =
    let all = came-wired m laws past e came in
    let P : Check → Type 0 = λ c. Wires (slave_hears c 250) (machine c 250) (rights c) (handed_out past.events) (transmissions past.events) past.gave e.mouth (awaits e.phase) e.sending in
    subst P (sym all.1.0) all.1.1

-- ---- what the laws say

pub came-wire : {H : Type 0} (m : Ghosts H) (laws : KeepsBodies m) (past : Past) (e : MasterState H) → Came m past e → IsGivenByMaster e.setup.check (handed_out past.events) (bytes_given past.gave)
came-wire m laws past e came =
    let check = e.setup.check in
    wires-right (slave_hears check 250) (machine check 250) (works check 250) (rights check) (may-end check) (single check) (handed_out past.events) (transmissions past.events) past.gave e.mouth (awaits e.phase) e.sending (came-gave m laws past e came)

-- its transmissions are those of the messages
pub came-running : {H : Type 0} (m : Ghosts H) (laws : KeepsBodies m) (past : Past) (e : MasterState H) → Came m past e → AreSendingsOf (transmissions past.events) (handed_out past.events)
came-running m laws past e came = are-sendings (transmissions past.events) (handed_out past.events) true (came-gave m laws past e came).sendings

-- the last bytes have the numbers 1, 2, 3 and so on
pub came-ended : {H : Type 0} (m : Ghosts H) (laws : KeepsBodies m) (past : Past) (e : MasterState H) → Came m past e → length (transmissions past.events) < 2 ^ 64
    → (numbers_ended past.gave ≡ counted_to (length (transmissions past.events))) ⊎ (numbers_ended past.gave ≡ counted_to (length (transmissions past.events) - 1))
came-ended m laws past e came few =
    let check = e.setup.check in
    wires-ended (slave_hears check 250) (machine check 250) (rights check) (handed_out past.events) (transmissions past.events) past.gave e.mouth (awaits e.phase) e.sending few (came-gave m laws past e came)

-- a byte that a take gives is of the last transmission
pub came-number : {H : Type 0} (m : Ghosts H) (laws : KeepsBodies m) (past : Past) (e : MasterState H) (out : Out) (n : ℕ) → Came m past e → out_at_take m e ≡ Some out → IsOfNumber out n
    → let now = transmissions (with_signal m past e Take).events in length now < 2 ^ 64 → transmission_at now n ≡ Some (master_after m e Take).sending
came-number m laws past e out n came is of_it few =
    let all = came-wired m laws past e came in
    let check = all.0 in
    let carried = reached-carries m laws e (came-reached m past e came) in
    let w = begun-wired m laws check (handed_out past.events) (transmissions past.events) past.gave e (message_next m e) refl carried.holds all.1 in
    let same = fold-append with_event [] past.events (events_at m e Take) in
    let few_now : length (fold with_event (transmissions past.events) (events_at m e Take)) < 2 ^ 64 = subst (λ (l : List (List ℕ)). length l < 2 ^ 64) same few in
    ap (λ (l : List (List ℕ)). transmission_at l n) same
    ∙ wires-number (slave_hears check 250) (machine check 250) (rights check) (handed_out past.events ++ flat_map handed_at (events_at m e Take)) (fold with_event (transmissions past.events) (events_at m e Take)) past.gave
    (begun m e).mouth (awaits (begun m e).phase) (begun m e).sending out n is of_it few_now w.1

-- the lists of a new master's signals are a past
abbrev past_of : {H : Type 0} → Ghosts H → Past → MasterState H → List Letter → Past → Type 0
past_of m past e signals all = (all.events ≡ past.events ++ events m e signals) × (all.gave ≡ past.gave ++ emission m e signals)

came-by : {H : Type 0} (m : Ghosts H) (past : Past) (e : MasterState H) (signals : List Letter) → Came m past e → (all : Past) × past_of m past e signals all × Came m all (master_after_all m e signals)
came-by m past e [] came = (past, (sym (append-nil past.events), sym (append-nil past.gave)), came)
came-by m past e (signal ∷ signals) came =
    let rest = came-by m (with_signal m past e signal) (master_after m e signal) signals (goes_on past e signal came) in (
      rest.0,
      (rest.1.0 ∙ append_assoc past.events (events_at m e signal) (events m (master_after m e signal) signals), rest.1.1 ∙ append_assoc past.gave (given_at m e signal) (emission m (master_after m e signal) signals)),
      rest.2,
    )

pub came-all : {H : Type 0} (m : Ghosts H) (setup : MasterSetup) (numbers : List ℕ) (host : H) (signals : List Letter) → HasTicks setup → AreStations numbers → m.holds_bodies host
    → (past : Past) × (past.events ≡ events m (new_master setup numbers host) signals) × (past.gave ≡ emission m (new_master setup numbers host) signals) × Came m past (master_after_all m (new_master setup numbers host) signals)
came-all m setup numbers host signals ticks list holds =
    let all = came-by m no_past (new_master setup numbers host) signals (begins setup numbers host ticks list holds) in
    (all.0, all.1.0, all.1.1, all.2)
