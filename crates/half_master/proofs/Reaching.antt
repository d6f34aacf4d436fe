-- What holds of every master that signals and changes of its host reach.
use Rattle.std.proofs.Common.{◌≡◌, ◌<◌, ◌≤◌, ℕ, zero, suc, Bool, true, false, List, [], ◌∷◌, ◌++◌, length, Option, Some, None, IfSome, refl, sym, subst, arith}
use Rattle.std.specs.Prelude.{IsTrue, nat_le, slice_get, slice_index, ◌&&◌, if◌then◌else◌}
use Rattle.std.proofs.lemmas.Bool.{cond_both, and_parts, leb-true}
use Rattle.df1_base.specs.declared.host.Host.{Ghosts}
use Rattle.df1_base.specs.declared.host.Fate.{Fate}
use Rattle.df1_base.specs.declared.host.Fate.TheVariants as fate
use Rattle.df1_base.specs.Host.{IsBody}
use Rattle.df1_base.specs.HostAnswers.{host_told}
use Rattle.df1_check.specs.declared.Check.{Check}
use Rattle.df1_frame.specs.Line.{ReadOff}
use Rattle.df1_frame.specs.Spelling.{same, check_of}
use Rattle.half_frame.specs.Text.{is_right}
use Rattle.half_frame.specs.declared.heard.MasterHeard.TheVariants as heard
use Rattle.half_frame.specs.MasterGrammar.{Item, Stray, Pair, Message, Broken, CutOff, Front, Nothing, Dle, InText, master_hears}
use Rattle.half_frame.specs.MasterStanding.{Outside, Ended, Listening, listening, standing, ended, ended_by, lent_at}
use Rattle.half_mouth.specs.Giving.{is_done, bytes_left}
use Rattle.pccc_envelope.specs.Envelope.{key_of}
use Rattle.half_master.specs.declared.MasterSetup.{MasterSetup}
use Rattle.half_master.specs.declared.stations.Station.{Station}
use Rattle.half_master.specs.declared.table.Phase.TheVariants as phase
use Rattle.half_master.specs.declared.table.Effect.{Effect}
use Rattle.half_master.specs.declared.table.Effect.TheVariants as effect
use Rattle.half_master.specs.Stations.{AreStations, numbers_of, is_listed, with_key}
use Rattle.half_master.specs.Master.{MasterState, new_master, with_host, with_byte, heard_at, body_of, effect_of_byte, effect_at_tick, polled, acknowledged, transmitted, performed, fate_of, host_accepted, host_ticked, master_after_byte, master_after_tick, master_after_take, message_next, begun_of, begun}
use Rattle.half_master.specs.Fitting.{IsMessage, Fits, Suits}
use Rattle.half_master.specs.Emission.{Letter, Byte, Tick, Take, master_after}
use Rattle.half_master.specs.Reached.{Reached, begins, goes_on, changes}
use Rattle.half_master.specs.Arrived.{StandsFor}
use Rattle.half_master.proofs.EarLemmas.{stands-new, stands-byte, stands-tick, stands-take, ear-byte}
use Rattle.half_master.proofs.GoodMessages.{good-6}
use Rattle.half_master.proofs.MessageLength.{message-length}
use Rattle.half_master.proofs.FittingLemmas.{listed-number, next-in, new-fits, done-few, left-fits, key-fits, take-few, take-fits, heard-suits, tick-suits, HasRoom, heard-room}
use Rattle.half_master.proofs.FateLemmas.{begins-when, performed-host}
use Rattle.half_master.proofs.Draining.{NextFits}

-- the laws of a host's bodies
pub record KeepsBodies {H : Type 0} (m : Ghosts H) : Type 0 where
  pub next_is : (h : H) → m.holds_bodies h → IfSome (m.next_body h) IsBody
  pub at_accept : (h : H) (body : List ℕ) → m.holds_bodies h → IsBody body → IsTrue (m.room_for h body) → m.holds_bodies (m.after_accept h body)
  pub at_next : (h : H) → m.holds_bodies h → m.holds_bodies (m.after_next h)
  pub at_told : (h : H) (fate : Fate) → m.holds_bodies h → m.holds_bodies (m.after_told h fate)
  pub at_tick : (h : H) → m.holds_bodies h → m.holds_bodies (m.after_tick h)

-- the parts of a master fit, and what is left to be given is short
abbrev pub AllFits : {H : Type 0} → MasterState H → Type 0
AllFits e = Fits e.stations e.next e.phase e.mouth e.sending × (bytes_left e.mouth ≤ 509)

-- what is carried: the parts fit, the host holds bodies, and the master stands for some bytes
pub record Carried {H : Type 0} (m : Ghosts H) (e : MasterState H) : Type 0 where
  pub fits : AllFits e
  pub holds : m.holds_bodies e.host
  pub check : Check
  pub bytes : List ℕ
  pub stands : StandsFor check bytes e

-- ---- the body that is lent

right-most : (check : Check) (body bytes : List ℕ) (right : Bool) → is_right check 250 [] body bytes ≡ right → length (lent_at (if right then Ended body else Outside)) ≤ 250
right-most check body bytes true is =
    let both = and_parts (nat_le 6 (length body)) (nat_le (length body) 250 && same bytes (check_of check body)) is in
    leb-true (length body) 250 (and_parts (nat_le (length body) 250) (same bytes (check_of check body)) both.1).0
right-most check body bytes false is = omega arith

item-most : (check : Check) (item : Item) → length (lent_at (ended_by check 250 item)) ≤ 250
item-most check (Stray b) = omega arith
item-most check (Pair code) = omega arith
item-most check (Message body bytes) = right-most check body bytes (is_right check 250 [] body bytes) refl
item-most check (Broken body code) = omega arith
item-most check (CutOff body) = omega arith

items-most : (check : Check) (items : List Item) → length (lent_at (ended check 250 items)) ≤ 250
items-most check [] = omega arith
items-most check (item ∷ []) = item-most check item
items-most check (item ∷ other ∷ items) = items-most check (other ∷ items)

lent-most : (check : Check) (items : List Item) (front : Front) → length (lent_at (standing check 250 items front)) ≤ 250
lent-most check items Nothing = items-most check items
lent-most check items Dle = omega arith
lent-most check items (InText text) = omega arith

-- the body that is lent has at most 250 bytes
pub lent-fits : (check : Check) (bytes : List ℕ) (ear : Listening) → ReadOff (master_hears check 250) bytes (listening check 250) ear → length (lent_at ear.standing) ≤ 250
lent-fits check bytes ear stands = subst (λ (x : Listening). length (lent_at x.standing) ≤ 250) (sym stands.is) (lent-most check stands.items stands.front)

-- ---- an effect

get-below : (stations : List Station) (place : ℕ) (station : Station) → slice_get stations place ≡ Some station → place < length stations
get-below [] place station is = absurd cc
get-below (first ∷ stations) zero station is = omega arith
get-below (first ∷ stations) (suc place) station is = let below = get-below stations place station is in omega (arith, below)

polled-fits : {H : Type 0} (e : MasterState H) (o : Option Station) → slice_get e.stations e.next ≡ o → AllFits e → AllFits (polled e o)
polled-fits e None is fits = fits
polled-fits e (Some station) is fits = (
  record { are_stations = fits.0.are_stations; next_in = λ some. next-in e.stations e.next some; phase_fits = get-below e.stations e.next station is },
  omega arith,
)

idle-fits : {H : Type 0} (e : MasterState H) → AllFits e → is_done e.mouth ≡ true → AllFits (record e { phase = phase.Idle })
idle-fits e fits done = (record { are_stations = fits.0.are_stations; next_in = fits.0.next_in; phase_fits = done-few e.mouth.left done }, fits.1)

acknowledged-fits : {H : Type 0} (e : MasterState H) → Fits e.stations e.next e.phase e.mouth e.sending → AllFits (acknowledged e)
acknowledged-fits e fits = (record { are_stations = fits.are_stations; next_in = fits.next_in; phase_fits = omega arith }, omega arith)

transmitted-fits : {H : Type 0} (e : MasterState H) (resent : ℕ) → AreStations (numbers_of e.stations) → (1 ≤ length e.stations → e.next < length e.stations) → IsMessage e.sending → AllFits (transmitted e resent)
transmitted-fits e resent list in_list message = (
  record { are_stations = list; next_in = in_list; phase_fits = message },
  message-length e.setup.check (slice_index e.sending 0) e.sending message.0.1,
)

performed-fits : {H : Type 0} (e : MasterState H) (what : Effect) → AllFits e → Suits e.stations e.mouth e.sending (body_of e) what → AllFits (performed e what)
performed-fits e effect.Nothing fits suits = fits
performed-fits e (effect.Waits left) fits suits =
    (record { are_stations = fits.0.are_stations; next_in = fits.0.next_in; phase_fits = left-fits e.stations e.mouth e.sending left e.phase fits.0.phase_fits }, fits.1)
performed-fits e effect.Delivered fits suits = idle-fits e fits suits
performed-fits e (effect.Again resent) fits suits = transmitted-fits e resent fits.0.are_stations fits.0.next_in suits
performed-fits e effect.GivenUp fits suits = idle-fits e fits suits
performed-fits e effect.PollOver fits suits = idle-fits e fits suits
performed-fits {H} e (effect.Accepted place) fits suits =
    let keyed : MasterState H = record e { stations = with_key e.stations place (key_of (body_of e)) } in
    acknowledged-fits keyed (key-fits e.stations e.next e.phase e.mouth e.sending place (key_of (body_of e)) fits.0)
performed-fits e effect.Repeated fits suits = acknowledged-fits e fits.0
performed-fits e effect.Refused fits suits = fits
performed-fits e effect.Damaged fits suits = fits
performed-fits e effect.Polls fits suits = polled-fits e (slice_get e.stations e.next) refl fits

-- ---- the host's bodies

told-holds : {H : Type 0} (m : Ghosts H) (laws : KeepsBodies m) (o : Option Fate) (host : H) → m.holds_bodies host → m.holds_bodies (host_told m o host)
told-holds m laws None host holds = holds
told-holds m laws (Some what) host holds = laws.at_told host what holds

accepted-holds : {H : Type 0} (m : Ghosts H) (laws : KeepsBodies m) (what : Effect) (host : H) (body : List ℕ) → m.holds_bodies host → HasRoom (m.room_for host body) body what → m.holds_bodies (host_accepted m what host body)
accepted-holds m laws (effect.Accepted place) host body holds room = let both = room place refl in laws.at_accept host body holds both.0 both.1
accepted-holds m laws effect.Nothing host body holds room = holds
accepted-holds m laws (effect.Waits left) host body holds room = holds
accepted-holds m laws effect.Delivered host body holds room = holds
accepted-holds m laws (effect.Again resent) host body holds room = holds
accepted-holds m laws effect.GivenUp host body holds room = holds
accepted-holds m laws effect.PollOver host body holds room = holds
accepted-holds m laws effect.Repeated host body holds room = holds
accepted-holds m laws effect.Refused host body holds room = holds
accepted-holds m laws effect.Damaged host body holds room = holds
accepted-holds m laws effect.Polls host body holds room = holds

ticked-holds : {H : Type 0} (m : Ghosts H) (laws : KeepsBodies m) (what : Effect) (host : H) → m.holds_bodies host → m.holds_bodies (host_ticked m what host)
ticked-holds m laws effect.Polls host holds = laws.at_tick host holds
ticked-holds m laws effect.Nothing host holds = holds
ticked-holds m laws (effect.Waits left) host holds = holds
ticked-holds m laws effect.Delivered host holds = holds
ticked-holds m laws (effect.Again resent) host holds = holds
ticked-holds m laws effect.GivenUp host holds = holds
ticked-holds m laws effect.PollOver host holds = holds
ticked-holds m laws (effect.Accepted place) host holds = holds
ticked-holds m laws effect.Repeated host holds = holds
ticked-holds m laws effect.Refused host holds = holds
ticked-holds m laws effect.Damaged host holds = holds

-- ---- a signal

carried-byte : {H : Type 0} (m : Ghosts H) (laws : KeepsBodies m) (e : MasterState H) (b : ℕ) → Carried m e → Carried m (master_after_byte m e b)
carried-byte {H} m laws e b c =
    let what = effect_of_byte m e b in
    let body = body_of (with_byte e b) in
    let host = host_told m (fate_of what) (host_accepted m what e.host body) in
    let good : (heard_at e b ≡ Some heard.Good → IsBody body) = λ is. (good-6 e.ear b is, lent-fits c.check (c.bytes ++ b ∷ []) (with_byte e b).ear (ear-byte e.ear b c.check c.bytes c.stands)) in
    let told : MasterState H = with_host (with_byte e b) host in
    let holds : m.holds_bodies host = told-holds m laws (fate_of what) (host_accepted m what e.host body) (accepted-holds m laws what e.host body c.holds (heard-room m (with_byte e b) (heard_at e b) good)) in
    record {
      fits = performed-fits told what c.fits (heard-suits m (with_byte e b) (heard_at e b) c.fits.0.phase_fits good);
      holds = subst (λ (h : H). m.holds_bodies h) (sym (performed-host (with_byte e b) host what).0) holds;
      check = c.check;
      bytes = c.bytes ++ b ∷ [];
      stands = stands-byte m e b c.check c.bytes c.stands;
    }

carried-tick : {H : Type 0} (m : Ghosts H) (laws : KeepsBodies m) (e : MasterState H) → Carried m e → Carried m (master_after_tick m e)
carried-tick {H} m laws e c =
    let what = effect_at_tick m e in
    let host = host_told m (fate_of what) (host_ticked m what e.host) in
    let told : MasterState H = with_host e host in
    let holds : m.holds_bodies host = told-holds m laws (fate_of what) (host_ticked m what e.host) (ticked-holds m laws what e.host c.holds) in
    record {
      fits = performed-fits told what c.fits (tick-suits e.stations e.mouth e.sending (body_of e) e.setup _ e.phase c.fits.0.phase_fits);
      holds = subst (λ (h : H). m.holds_bodies h) (sym (performed-host e host what).0) holds;
      check = c.check;
      bytes = c.bytes;
      stands = stands-tick m e c.check c.bytes c.stands;
    }

-- ---- a take

pub next-is : {H : Type 0} (m : Ghosts H) (laws : KeepsBodies m) (host : H) (body : List ℕ) → m.holds_bodies host → m.next_body host ≡ Some body → IsBody body
next-is m laws host body holds is = subst (λ (o : Option (List ℕ)). IfSome o IsBody) is (laws.next_is host holds)

begun-fits : {H : Type 0} (m : Ghosts H) (laws : KeepsBodies m) (e : MasterState H) (o : Option (List ℕ)) → message_next m e ≡ o → AllFits e → m.holds_bodies e.host
    → AllFits (begun_of m e o) × m.holds_bodies (begun_of m e o).host
begun-fits m laws e None is fits holds = (fits, holds)
begun-fits {H} m laws e (Some body) is fits holds =
    let begins = begins-when m e body is in
    cond_both (is_listed e.stations (slice_index body 0)) _ _ (λ (x : MasterState H). AllFits x × m.holds_bodies x.host)
    (λ at. (
      transmitted-fits (record e { sending = body; host = m.after_next e.host }) 0 fits.0.are_stations fits.0.next_in
          (next-is m laws e.host body holds begins.is_next, listed-number e.stations (slice_index body 0) fits.0.are_stations.each at),
      laws.at_next e.host holds,
    ))
    (λ at. (fits, laws.at_told (m.after_next e.host) fate.Undelivered (laws.at_next e.host holds)))

carried-take : {H : Type 0} (m : Ghosts H) (laws : KeepsBodies m) (e : MasterState H) → Carried m e → Carried m (master_after_take m e)
carried-take m laws e c =
    let x = begun m e in
    let both = begun-fits m laws e (message_next m e) refl c.fits c.holds in
    record {
      fits = (take-fits x.stations x.next x.phase x.mouth x.sending both.0.0, let few = take-few x.mouth in let left = both.0.1 in omega (arith, few, left));
      holds = both.1;
      check = c.check;
      bytes = c.bytes;
      stands = stands-take m e c.check c.bytes c.stands;
    }

-- the host's next message is short
pub carried-next : {H : Type 0} (m : Ghosts H) (laws : KeepsBodies m) (e : MasterState H) → Carried m e → NextFits m e
carried-next m laws e c body is = (next-is m laws e.host body c.holds is).1

pub take-carried : {H : Type 0} (m : Ghosts H) (laws : KeepsBodies m) (e : MasterState H) → Carried m e → Carried m (master_after_take m e)
take-carried m laws e c = carried-take m laws e c

-- ---- every master that is reached

carried-new : {H : Type 0} (m : Ghosts H) (setup : MasterSetup) (numbers : List ℕ) (host : H) → AreStations numbers → m.holds_bodies host → Carried m (new_master setup numbers host)
carried-new m setup numbers host list holds = record {
  fits = (new-fits numbers list, omega arith);
  holds = holds;
  check = setup.check;
  bytes = [];
  stands = stands-new setup numbers host;
}

carried-signal : {H : Type 0} (m : Ghosts H) (laws : KeepsBodies m) (e : MasterState H) (signal : Letter) → Carried m e → Carried m (master_after m e signal)
carried-signal m laws e (Byte b) c = carried-byte m laws e b c
carried-signal m laws e Tick c = carried-tick m laws e c
carried-signal m laws e Take c = carried-take m laws e c

carried-host : {H : Type 0} (m : Ghosts H) (e : MasterState H) (host : H) → m.holds_bodies host → Carried m e → Carried m (with_host e host)
carried-host m e host holds c = record { fits = c.fits; holds = holds; check = c.check; bytes = c.bytes; stands = c.stands }

pub reached-carries : {H : Type 0} (m : Ghosts H) (laws : KeepsBodies m) (e : MasterState H) → Reached m e → Carried m e
reached-carries m laws e (begins setup numbers host list holds) = carried-new m setup numbers host list holds
reached-carries m laws e (goes_on from signal reached) = carried-signal m laws from signal (reached-carries m laws from reached)
reached-carries m laws e (changes from host holds reached) = carried-host m from host holds (reached-carries m laws from reached)
