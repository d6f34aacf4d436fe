-- What a slave gave is right items of its transmissions, each of which has its number and its body.
use Rattle.std.proofs.Common.{◌≡◌, ◌≢◌, ℕ, ◌-◌, Bool, true, false, List, [], ◌∷◌, ◌++◌, length, ◌<◌, ◌^◌, Option, Some, None, IfSome, refl, sym, ap, subst, ◌∙◌, append-nil, append_assoc, arith, inl, inr}
use Rattle.std.specs.Prelude.{option_to_list, is_some, is_none, ◌⊎◌, ◌&&◌, ◌==◌, if◌then◌else◌}
use Rattle.std.specs.List.{fold, flat_map}
use Rattle.std.specs.Option.{option_map}
use Rattle.std.proofs.lemmas.Grind.{fold-append}
use Rattle.std.proofs.lemmas.Bool.{and_parts}
use Rattle.std.proofs.lemmas.List.Concat.{flat_map-append}
use Rattle.std.proofs.lemmas.List.{map-append}
use Rattle.df1_base.specs.Host.{IsBody}
use Rattle.df1_base.specs.declared.host.Host.{Ghosts}
use Rattle.df1_base.specs.declared.host.Fate.{Fate}
use Rattle.df1_base.specs.declared.link.Out.{Out}
use Rattle.df1_base.specs.declared.link.Resp.{Resp}
use Rattle.df1_base.specs.declared.link.Resp.TheVariants as resp
use Rattle.df1_check.specs.declared.Check.{Check}
use Rattle.df1_check.specs.Checks.{check_value}
use Rattle.df1_frame.specs.Spelling.{pieces_of, check_of, covered, framed}
use Rattle.df1_frame.specs.Wire.{IsLast, AreSendingsOf}
use Rattle.df1_frame.proofs.SpellingLemmas.{length-check}
use Rattle.df1_frame.proofs.Sendings.{are-sendings}
use Rattle.half_frame.specs.declared.framer.Sent.{Sent}
use Rattle.half_frame.specs.declared.heard.SlaveHeard.{SlaveHeard}
use Rattle.half_frame.specs.declared.heard.SlaveHeard.TheVariants as heard
use Rattle.half_frame.specs.MasterGrammar.{Item, Stray, Pair, Message, Broken, CutOff, IsItem, master_hears}
use Rattle.half_frame.specs.SlaveGives.{IsRight, bodies_at, rights, IsGivenBySlave}
use Rattle.half_frame.specs.Spelling.{bytes_of, unmarked, pair_bytes, reply_sent}
use Rattle.half_frame.proofs.MasterLemmas.{machine, works}
use Rattle.half_frame.proofs.SentLemmas.{bytes_of-text}
use Rattle.half_frame.proofs.WireLemmas.{MayEnd, AreSingle}
use Rattle.half_mouth.specs.Giving.{Giving, transmit, give, is_done, take}
use Rattle.half_mouth.specs.Transmissions.{bytes_given, numbers_ended, counted_to, with_again, transmission_at}
use Rattle.half_mouth.proofs.Wires.{Wires, done-left, IsOver, wires-none, wires-message, wires-again, wires-other, wires-held, wires-take, wires-right, wires-number, wires-ended, IsOfNumber}
use Rattle.pccc_envelope.specs.Accepted.{Verdict, Repeated, Accepted, Refused}
use Rattle.half_slave.specs.declared.SlaveSetup.{SlaveSetup}
use Rattle.half_slave.specs.declared.held.Held.{Held}
use Rattle.half_slave.specs.Slave.{SlaveState, new_slave, with_host, is_own, is_quiet, is_answered, verdict, told, received, sent, offered, answered, polled, reset, after_heard, after_sending, after_out, ends_here, fate_at_poll, fate_at_ack, fate_at_reset, heard_at, listened, slave_after_heard, slave_after_byte, response_code, with_response, mouth_at_take, out_at_take, slave_after_take}
use Rattle.half_slave.specs.Emission.{Letter, Byte, Take, slave_after, given_at, slave_after_all, emission}
use Rattle.half_slave.specs.Fates.{Event, HandedOut, SentAgain, Told, telling, sending_begun, events_of_poll, events_at_heard, events_at, events}
use Rattle.half_slave.specs.Reached.{Reached, HoldsBody, Fits}
use Rattle.half_slave.specs.Reached as reached
use Rattle.half_slave.specs.Past.{Past, no_past, with_signal, Came, begins, goes_on, changes, handed_at, handed_out, with_event, transmissions}
use Rattle.half_slave.proofs.Reaching.{KeepsBodies, reached-fits, told-fits, listened-body}

-- ---- right items

-- a message with its own check
abbrev own : Check → List ℕ → Item
own check body = Message body (check_of check body)

pub may-end : (check : Check) → MayEnd (master_hears check 250) (rights check)
may-end check (Stray b) good = absurd good
may-end check (Pair code) (inl ack) = λ is. omega (arith, ack, is)
may-end check (Pair code) (inr (inl nak)) = λ is. omega (arith, nak, is)
may-end check (Pair code) (inr (inr eot)) = λ is. omega (arith, eot, is)
may-end check (Message body bytes) good = ap length good.1 ∙ length-check check (check_value check (covered check body))
may-end check (Broken body code) good = absurd good
may-end check (CutOff body) good = absurd good

single : (check : Check) → AreSingle (master_hears check 250) (rights check)
single check (Stray b) = inl refl
single check (Pair code) = inl refl
single check (Message body bytes) = inr (body, refl)
single check (Broken body code) = inl refl
single check (CutOff body) = inl refl

reply-some : (check : Check) (body : List ℕ) → bytes_of (reply_sent check body) ≢ []
reply-some check body = λ none. let is = sym (bytes_of-text body (check_of check body)) ∙ none in cc

-- ---- what a slave gave and has begun

abbrev Wired : {H : Type 0} → Check → List (List ℕ) → List (List ℕ) → List Out → SlaveState H → Type 0
Wired check messages ts outs s = (s.setup.check ≡ check) × Wires (master_hears check 250) (machine check 250) (rights check) messages ts outs s.mouth (is_some s.held) s.sending

-- with what happens now
abbrev After : {H : Type 0} → Check → List (List ℕ) → List (List ℕ) → List Out → List Event → SlaveState H → Type 0
After check messages ts outs now s = Wired check (messages ++ flat_map handed_at now) (fold with_event ts now) outs s

same-after : {H : Type 0} (check : Check) (messages ts : List (List ℕ)) (outs : List Out) (s : SlaveState H) → Wired check messages ts outs s → After check messages ts outs [] s
same-after check messages ts outs s w = rw (append-nil messages) w

told-wired : {H : Type 0} (m : Ghosts H) (check : Check) (messages ts : List (List ℕ)) (outs : List Out) (s : SlaveState H) (what : Option Fate) → Wired check messages ts outs s → Wired check messages ts outs (told m s what)
told-wired m check messages ts outs s None w = w
told-wired m check messages ts outs s (Some what) w =
    (w.0, wires-held (master_hears check 250) (machine check 250) (rights check) messages ts outs s.mouth (is_some s.held) false s.sending (λ holds. absurd cc) w.1)

-- a fate begins no transmission
telling-after : {H : Type 0} (check : Check) (messages ts : List (List ℕ)) (outs : List Out) (what : Option Fate) (more : List Event) (s : SlaveState H) → After check messages ts outs more s → After check messages ts outs (telling what ++ more) s
telling-after check messages ts outs None more s w = w
telling-after check messages ts outs (Some what) more s w = w

-- ---- a poll

offered-wired : {H : Type 0} (m : Ghosts H) (check : Check) (messages ts : List (List ℕ)) (outs : List Out) (s : SlaveState H) (next : Option (List ℕ)) → IfSome next IsBody → IsOver s.mouth → Wired check messages ts outs s
    → After check messages ts outs (sending_begun None next) (offered m s next)
offered-wired m check messages ts outs s None fits over w =
    (w.0, rw (append-nil messages) (wires-other (master_hears check 250) (machine check 250) (rights check) messages ts outs s.mouth (is_some s.held) s.sending (Pair 4) (unmarked (pair_bytes 4)) (inr (inr refl)) refl refl (λ none. cc) over w.1))
offered-wired {H} m check messages ts outs s (Some body) fits over w =
    let P : Check → Type 0 = λ c. Wires (master_hears check 250) (machine check 250) (rights check) (messages ++ body ∷ []) (ts ++ body ∷ []) outs (transmit s.mouth (reply_sent c body)) true body in (
      w.0,
      subst P (sym w.0) (wires-message (master_hears check 250) (machine check 250) (rights check) messages ts outs s.mouth (is_some s.held) true s.sending (own check body) body (reply_sent check body) (fits, refl) refl
          (sym (bytes_of-text body (check_of check body))) (reply-some check body) over w.1),
    )

answered-wired : {H : Type 0} (m : Ghosts H) (check : Check) (messages ts : List (List ℕ)) (outs : List Out) (s : SlaveState H) (held : Option Held) (next : Option (List ℕ)) → s.held ≡ held → m.next_body s.host ≡ next → HoldsBody held s.sending → IfSome next IsBody
    → IsOver s.mouth → Wired check messages ts outs s → After check messages ts outs (sending_begun held next) (answered m s held)
answered-wired m check messages ts outs s (Some message) next is of_host holds fits over w =
    let P : Check → Type 0 = λ c. Wires (master_hears check 250) (machine check 250) (rights check) messages (with_again ts) outs (transmit s.mouth (reply_sent c s.sending)) (is_some s.held) s.sending in
    let last : IsLast ts s.sending = w.1.held (ap is_some is) in (
      w.0,
      rw (append-nil messages) (subst P (sym w.0) (wires-again (master_hears check 250) (machine check 250) (rights check) messages ts outs s.mouth (is_some s.held) (is_some s.held) s.sending (own check s.sending) (reply_sent check s.sending) (holds, refl) refl
          (sym (bytes_of-text s.sending (check_of check s.sending))) (reply-some check s.sending) over last w.1)),
    )
answered-wired {H} m check messages ts outs s None next is of_host holds fits over w =
    let none : Wired check messages ts outs s = w in
    subst (λ (o : Option (List ℕ)). After check messages ts outs (sending_begun None next) (offered m s o)) (sym of_host) (offered-wired m check messages ts outs s next fits over w)

-- what it has fits
abbrev HasBodies : {H : Type 0} → Ghosts H → SlaveState H → Type 0
HasBodies m s = HoldsBody s.held s.sending × m.holds_bodies s.host

told-mouth : {H : Type 0} (m : Ghosts H) (s : SlaveState H) (what : Option Fate) → (told m s what).mouth ≡ s.mouth
told-mouth m s None = refl
told-mouth m s (Some what) = refl

polled-wired : {H : Type 0} (m : Ghosts H) (laws : KeepsBodies m) (check : Check) (messages ts : List (List ℕ)) (outs : List Out) (s : SlaveState H) → Fits m s → IsOver s.mouth → Wired check messages ts outs s → After check messages ts outs (events_of_poll m s) (polled m s)
polled-wired m laws check messages ts outs s fits over w =
    let what = fate_at_poll s.setup.max_sends s.held in
    let after = told m s what in
    let fit = told-fits m laws s what fits in
    telling-after check messages ts outs what (sending_begun after.held (m.next_body after.host)) (polled m s)
    (answered-wired m check messages ts outs after after.held (m.next_body after.host) refl refl fit.held_fits (laws.next_is after.host fit.host_holds)
    (subst IsOver (sym (told-mouth m s what)) over) (told-wired m check messages ts outs s what w))

quiet-over : {H : Type 0} (s : SlaveState H) → is_quiet s ≡ true → IsOver s.mouth
quiet-over s quiet = done-left s.mouth.left (and_parts (is_done s.mouth) (is_none s.responds) quiet).0

poll-wired : {H : Type 0} (m : Ghosts H) (laws : KeepsBodies m) (check : Check) (messages ts : List (List ℕ)) (outs : List Out) (s : SlaveState H) (own_poll quiet : Bool) → is_quiet s ≡ quiet → Fits m s → Wired check messages ts outs s
    → After check messages ts outs (if own_poll && quiet then events_of_poll m s else []) (if own_poll && quiet then polled m s else s)
poll-wired m laws check messages ts outs s true true is fits w = polled-wired m laws check messages ts outs s fits (quiet-over s is) w
poll-wired m laws check messages ts outs s true false is fits w = same-after check messages ts outs s w
poll-wired m laws check messages ts outs s false quiet is fits w = same-after check messages ts outs s w

-- ---- a byte

received-wired : {H : Type 0} (m : Ghosts H) (check : Check) (messages ts : List (List ℕ)) (outs : List Out) (s : SlaveState H) (own_message : Bool) (v : Verdict) → Wired check messages ts outs s → Wired check messages ts outs (if own_message then received m s v else s)
received-wired m check messages ts outs s true Repeated w = w
received-wired m check messages ts outs s true Accepted w = w
received-wired m check messages ts outs s true Refused w = w
received-wired m check messages ts outs s false v w = w

fate-wired : {H : Type 0} (m : Ghosts H) (check : Check) (messages ts : List (List ℕ)) (outs : List Out) (s : SlaveState H) (what : Option Fate) → Wired check messages ts outs s → After check messages ts outs (telling what) (told m s what)
fate-wired m check messages ts outs s None w = same-after check messages ts outs s w
fate-wired m check messages ts outs s (Some what) w = same-after check messages ts outs (told m s (Some what)) (told-wired m check messages ts outs s (Some what) w)

heard-wired : {H : Type 0} (m : Ghosts H) (laws : KeepsBodies m) (check : Check) (messages ts : List (List ℕ)) (outs : List Out) (s : SlaveState H) (what : Option SlaveHeard) → Fits m s → Wired check messages ts outs s
    → After check messages ts outs (events_at_heard m s what) (slave_after_heard m s what)
heard-wired m laws check messages ts outs s None fits w = same-after check messages ts outs s w
heard-wired m laws check messages ts outs s (Some (heard.Addressed stn)) fits w =
    same-after check messages ts outs (slave_after_heard m s (Some (heard.Addressed stn))) (received-wired m check messages ts outs s (is_own s stn) (verdict m s) w)
heard-wired m laws check messages ts outs s (Some (heard.Header stn)) fits w = same-after check messages ts outs s w
heard-wired m laws check messages ts outs s (Some (heard.Poll stn)) fits w = poll-wired m laws check messages ts outs s (is_own s stn) (is_quiet s) refl fits w
heard-wired m laws check messages ts outs s (Some heard.BadPoll) fits w = same-after check messages ts outs s w
heard-wired m laws check messages ts outs s (Some (heard.Damaged stn)) fits w = same-after check messages ts outs s w
heard-wired m laws check messages ts outs s (Some heard.Ack) fits w = fate-wired m check messages ts outs s (fate_at_ack s.held) w
heard-wired m laws check messages ts outs s (Some heard.Reset) fits w = fate-wired m check messages ts outs s (fate_at_reset s.held) w
heard-wired m laws check messages ts outs s (Some (heard.Stray b)) fits w = same-after check messages ts outs s w
heard-wired m laws check messages ts outs s (Some (heard.StrayPair code)) fits w = same-after check messages ts outs s w

still-some : (what : Option SlaveHeard) (held : Option Held) → is_some (option_map (after_heard what) held) ≡ is_some held
still-some what None = refl
still-some what (Some message) = refl

byte-wired : {H : Type 0} (m : Ghosts H) (laws : KeepsBodies m) (check : Check) (messages ts : List (List ℕ)) (outs : List Out) (s : SlaveState H) (b : ℕ) → Fits m s → Wired check messages ts outs s
    → After check messages ts outs (events_at m s (Byte b)) (slave_after_byte m s b)
byte-wired m laws check messages ts outs s b fits w =
    let now = listened s b in
    let fit : Fits m now = record { is_short = fits.is_short; held_fits = listened-body (heard_at s b) s.held s.sending fits.held_fits; host_holds = fits.host_holds } in
    heard-wired m laws check messages ts outs now (heard_at s b) fit
    (w.0, wires-held (master_hears check 250) (machine check 250) (rights check) messages ts outs s.mouth (is_some s.held) (is_some now.held) s.sending (λ holds. sym (still-some (heard_at s b) s.held) ∙ holds) w.1)

-- ---- a take

code-good : (check : Check) (r : Resp) → IsRight check (Pair (response_code r))
code-good check resp.Ack = inl refl
code-good check resp.Nak = inr (inl refl)

response-wired : {H : Type 0} (check : Check) (messages ts : List (List ℕ)) (outs : List Out) (s : SlaveState H) (responds : Option Resp) (done : Bool) → is_done s.mouth ≡ done → Wired check messages ts outs s
    → Wires (master_hears check 250) (machine check 250) (rights check) messages ts outs (if done then with_response s.mouth responds else s.mouth) (is_some s.held) s.sending
response-wired check messages ts outs s None true is w = w.1
response-wired check messages ts outs s (Some r) true is w =
    wires-other (master_hears check 250) (machine check 250) (rights check) messages ts outs s.mouth (is_some s.held) s.sending (Pair (response_code r)) (unmarked (pair_bytes (response_code r))) (code-good check r) refl refl (λ none. cc) (done-left s.mouth.left is) w.1
response-wired check messages ts outs s responds false is w = w.1

out-some : (last : Bool) (held : Option Held) → is_some (if last then option_map after_sending held else held) ≡ is_some held
out-some true None = refl
out-some true (Some message) = refl
out-some false held = refl

take-wired : {H : Type 0} (check : Check) (messages ts : List (List ℕ)) (outs : List Out) (s : SlaveState H) → Wired check messages ts outs s → Wired check messages ts (outs ++ given_at s Take) (slave_after_take s)
take-wired check messages ts outs s w =
    let g = mouth_at_take s.mouth s.responds in
    let now = response-wired check messages ts outs s s.responds (is_done s.mouth) refl w in
    let given = wires-take (master_hears check 250) (machine check 250) (works check 250) (rights check) (may-end check) messages ts outs g (is_some s.held) s.sending now in (
      w.0,
      wires-held (master_hears check 250) (machine check 250) (rights check) messages ts (outs ++ option_to_list (take g).1) (take g).0 (is_some s.held) (is_some (slave_after_take s).held) s.sending
          (λ holds. sym (out-some (ends_here (out_at_take s)) s.held) ∙ holds) given,
    )

-- ---- a slave with its past

pub came-reached : {H : Type 0} (m : Ghosts H) (past : Past) (s : SlaveState H) → Came m past s → Reached m s
came-reached m past s (begins setup host holds) = reached.begins setup host holds
came-reached m past s (goes_on before from signal came) = reached.goes_on from signal (came-reached m before from came)
came-reached m past s (changes before from host holds came) = reached.changes from host holds (came-reached m before from came)

-- what it gave, at each point
abbrev pub GaveAll : {H : Type 0} → Past → SlaveState H → Type 0
GaveAll past s = Wires (master_hears s.setup.check 250) (machine s.setup.check 250) (rights s.setup.check) (handed_out past.events) (transmissions past.events) past.gave s.mouth (is_some s.held) s.sending

signal-wired : {H : Type 0} (m : Ghosts H) (laws : KeepsBodies m) (check : Check) (past : Past) (s : SlaveState H) (signal : Letter) → Fits m s → Wired check (handed_out past.events) (transmissions past.events) past.gave s
    → Wired check (handed_out (past.events ++ events_at m s signal)) (transmissions (past.events ++ events_at m s signal)) (past.gave ++ given_at s signal) (slave_after m s signal)
signal-wired m laws check past s (Byte b) fits w =
    let now = byte-wired m laws check (handed_out past.events) (transmissions past.events) past.gave s b fits w in
    rw (flat_map-append handed_at past.events (events_at m s (Byte b)), fold-append with_event [] past.events (events_at m s (Byte b)), append-nil past.gave) now
signal-wired m laws check past s Take fits w =
    let now = take-wired check (handed_out past.events) (transmissions past.events) past.gave s w in
    rw (append-nil past.events) now

came-wired : {H : Type 0} (m : Ghosts H) (laws : KeepsBodies m) (past : Past) (s : SlaveState H) → Came m past s → (check : Check) × Wired check (handed_out past.events) (transmissions past.events) past.gave s
came-wired m laws past s (begins setup host holds) = (setup.check, (refl, wires-none (master_hears setup.check 250) (machine setup.check 250) (works setup.check 250) (rights setup.check)))
came-wired m laws past s (goes_on before from signal came) =
    let was = came-wired m laws before from came in
    (was.0, signal-wired m laws was.0 before from signal (reached-fits m laws from (came-reached m before from came)) was.1)
came-wired m laws past s (changes before from host holds came) =
    let was = came-wired m laws before from came in
    (was.0, (was.1.0, was.1.1))

pub came-gave : {H : Type 0} (m : Ghosts H) (laws : KeepsBodies m) (past : Past) (s : SlaveState H) → Came m past s → GaveAll past s
came-gave m laws past s came =
    let all = came-wired m laws past s came in
    let P : Check → Type 0 = λ c. Wires (master_hears c 250) (machine c 250) (rights c) (handed_out past.events) (transmissions past.events) past.gave s.mouth (is_some s.held) s.sending in
    subst P (sym all.1.0) all.1.1

-- ---- what the laws say

pub came-wire : {H : Type 0} (m : Ghosts H) (laws : KeepsBodies m) (past : Past) (s : SlaveState H) → Came m past s → IsGivenBySlave s.setup.check (handed_out past.events) (bytes_given past.gave)
came-wire m laws past s came =
    let check = s.setup.check in
    wires-right (master_hears check 250) (machine check 250) (works check 250) (rights check) (may-end check) (single check) (handed_out past.events) (transmissions past.events) past.gave s.mouth (is_some s.held) s.sending (came-gave m laws past s came)

-- its transmissions are those of the messages
pub came-running : {H : Type 0} (m : Ghosts H) (laws : KeepsBodies m) (past : Past) (s : SlaveState H) → Came m past s → AreSendingsOf (transmissions past.events) (handed_out past.events)
came-running m laws past s came = are-sendings (transmissions past.events) (handed_out past.events) true (came-gave m laws past s came).sendings

-- the last bytes have the numbers 1, 2, 3 and so on
pub came-ended : {H : Type 0} (m : Ghosts H) (laws : KeepsBodies m) (past : Past) (s : SlaveState H) → Came m past s → length (transmissions past.events) < 2 ^ 64
    → (numbers_ended past.gave ≡ counted_to (length (transmissions past.events))) ⊎ (numbers_ended past.gave ≡ counted_to (length (transmissions past.events) - 1))
came-ended m laws past s came few =
    let check = s.setup.check in
    wires-ended (master_hears check 250) (machine check 250) (rights check) (handed_out past.events) (transmissions past.events) past.gave s.mouth (is_some s.held) s.sending few (came-gave m laws past s came)

-- a byte that a take gives is of the last transmission
pub came-number : {H : Type 0} (m : Ghosts H) (laws : KeepsBodies m) (past : Past) (s : SlaveState H) (out : Out) (n : ℕ) → Came m past s → out_at_take s ≡ Some out → IsOfNumber out n → length (transmissions past.events) < 2 ^ 64
    → transmission_at (transmissions past.events) n ≡ Some s.sending
came-number m laws past s out n came is of_it few =
    let check = s.setup.check in
    let gave = came-gave m laws past s came in
    let now = response-wired check (handed_out past.events) (transmissions past.events) past.gave s s.responds (is_done s.mouth) refl (refl, gave) in
    wires-number (master_hears check 250) (machine check 250) (rights check) (handed_out past.events) (transmissions past.events) past.gave (mouth_at_take s.mouth s.responds) (is_some s.held) s.sending out n is of_it few now

-- the lists of a new slave's signals are a past
abbrev past_of : {H : Type 0} → Ghosts H → Past → SlaveState H → List Letter → Past
past_of m past s signals = record { events = past.events ++ events m s signals; gave = past.gave ++ emission m s signals }

came-by : {H : Type 0} (m : Ghosts H) (past : Past) (s : SlaveState H) (signals : List Letter) → Came m past s → Came m (past_of m past s signals) (slave_after_all m s signals)
came-by {H} m past s [] came = subst (λ (p : Past). Came m p s) (same-past past) came
  where
    same-past : (p : Past) → p ≡ record { events = p.events ++ []; gave = p.gave ++ [] }
    same-past p = rw (append-nil p.events, append-nil p.gave) refl
came-by {H} m past s (signal ∷ signals) came =
    let rest = came-by m (with_signal m past s signal) (slave_after m s signal) signals (goes_on past s signal came) in
    rw (append_assoc past.events (events_at m s signal) (events m (slave_after m s signal) signals), append_assoc past.gave (given_at s signal) (emission m (slave_after m s signal) signals)) at rest

pub came-all : {H : Type 0} (m : Ghosts H) (setup : SlaveSetup) (host : H) (signals : List Letter) → m.holds_bodies host
    → Came m (record { events = events m (new_slave setup host) signals; gave = emission m (new_slave setup host) signals }) (slave_after_all m (new_slave setup host) signals)
came-all m setup host signals holds = came-by m no_past (new_slave setup host) signals (begins setup host holds)
