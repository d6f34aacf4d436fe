-- A message is handed out where none is out, is sent at most so often, and its fate is told once.
use Rattle.std.proofs.Common.{◌≡◌, ℕ, ◌+◌, ◌<◌, ◌≤◌, Bool, true, false, List, [], ◌∷◌, ◌++◌, nat_lt, Option, Some, None, IfSome, ap, sym, subst, refl, arith}
use Rattle.std.proofs.lemmas.Bool.Decides.{nat_tests}
use Rattle.std.specs.Prelude.{is_some, not, ◌&&◌, ◌^◌, ◌-◌, min, if◌then◌else◌}
use Rattle.std.specs.List.{flat_map}
use Rattle.std.specs.Option.{option_map}
use Rattle.df1_base.specs.declared.host.Host.{Ghosts}
use Rattle.df1_base.specs.declared.host.Fate.{Fate}
use Rattle.df1_base.specs.declared.host.Fate.TheVariants as fate
use Rattle.df1_base.specs.declared.link.Resp.{Resp}
use Rattle.df1_check.specs.declared.Check.{Check}
use Rattle.half_frame.specs.declared.framer.Sent.{Sent}
use Rattle.half_frame.specs.declared.heard.SlaveHeard.{SlaveHeard}
use Rattle.half_frame.specs.declared.heard.SlaveHeard.TheVariants as heard
use Rattle.df1_frame.specs.Spelling.{pieces_of, check_of}
use Rattle.half_frame.specs.Spelling.{piece_sent, reply_sent, unmarked}
use Rattle.half_mouth.specs.Giving.{Giving, transmit, is_done, take}
use Rattle.pccc_envelope.specs.Accepted.{Verdict, Repeated, Accepted, Refused}
use Rattle.half_slave.specs.declared.SlaveSetup.{SlaveSetup}
use Rattle.half_slave.specs.declared.held.Held.{Held}
use Rattle.half_slave.specs.Slave.{SlaveState, new_slave, with_host, is_own, is_quiet, verdict, told, received, offered, answered, polled, reset, loaded, after_heard, after_sending, after_out, fate_at_ack, fate_at_reset, heard_at, listened, slave_after_heard, slave_after_byte, mouth_at_take, slave_after_take}
use Rattle.half_slave.specs.Emission.{Letter, Byte, Take, slave_after}
use Rattle.half_slave.specs.Fates.{Event, HandedOut, SentAgain, Told, telling, sending_begun, events_of_poll, events_at_heard, events_at, events, InTurn, ends, hands_out, sends_again, tells, is_transmitting, begun_of, sendings_begun, Counted}
use Rattle.half_slave.proofs.Rows.{byte-setup}
use Rattle.half_slave.proofs.Sizes.{some-left}

-- ---- a step

-- these events lead from so many sendings begun, of a message that is out, to so many
data Leads (most : ℕ) : Option ℕ → List Event → Option ℕ → Type 0 where
  stays : (begun : Option ℕ) → Leads most begun [] begun
  hands : (body : List ℕ) (more : List Event) (after : Option ℕ) → Leads most (Some 1) more after → Leads most None (HandedOut body ∷ more) after
  again : (begun : ℕ) (more : List Event) (after : Option ℕ) → begun < most → Leads most (Some (begun + 1)) more after → Leads most (Some begun) (SentAgain ∷ more) after
  ended : (begun : ℕ) (what : Fate) (more : List Event) (after : Option ℕ) → Leads most None more after → Leads most (Some begun) (Told what ∷ more) after

leads-turn : (most : ℕ) (begun after : Option ℕ) (these later : List Event) → Leads most begun these after → InTurn most after later → InTurn most begun (these ++ later)
leads-turn most begun after these later (stays same) turn = turn
leads-turn most begun after these later (hands body more to leads) turn = hands_out body (more ++ later) (leads-turn most (Some 1) after more later leads turn)
leads-turn most begun after these later (again count more to few leads) turn = sends_again count (more ++ later) few (leads-turn most (Some (count + 1)) after more later leads turn)
leads-turn most begun after these later (ended count what more to leads) turn = tells count what (more ++ later) (leads-turn most None after more later leads turn)

abbrev AtMost : ℕ → Option ℕ → Type 0
AtMost most begun = IfSome begun (λ count. count ≤ most)

leads-most : (most : ℕ) (begun after : Option ℕ) (these : List Event) → 1 ≤ most → Leads most begun these after → AtMost most begun → AtMost most after
leads-most most begun after these one (stays same) few = few
leads-most most begun after these one (hands body more to leads) few = leads-most most (Some 1) after more one leads one
leads-most most begun after these one (again count more to fewer leads) few = leads-most most (Some (count + 1)) after more one leads (omega arith)
leads-most most begun after these one (ended count what more to leads) few = leads-most most None after more one leads tt

-- ---- a fate

told-leads : {H : Type 0} (m : Ghosts H) (s : SlaveState H) (message : Held) (what : Option Fate)
    → Leads s.setup.max_sends (sendings_begun (record s { held = Some message })) (telling what) (sendings_begun (told m (record s { held = Some message }) what))
told-leads m s message None = stays _
told-leads m s message (Some what) = ended _ what [] None (stays None)

ack-leads : {H : Type 0} (m : Ghosts H) (s : SlaveState H) (held : Option Held)
    → Leads s.setup.max_sends (sendings_begun (record s { held = held })) (telling (fate_at_ack held)) (sendings_begun (told m (record s { held = held }) (fate_at_ack held)))
ack-leads m s None = stays None
ack-leads m s (Some message) = told-leads m s message (if message.wait_open then Some fate.Delivered else None)

reset-leads : {H : Type 0} (m : Ghosts H) (s : SlaveState H) (held : Option Held)
    → Leads s.setup.max_sends (sendings_begun (record s { held = held })) (telling (fate_at_reset held)) (sendings_begun (reset m (record s { held = held })))
reset-leads m s None = stays None
reset-leads m s (Some message) = ended _ fate.Undelivered [] None (stays None)

-- ---- a poll

-- a message that has just been begun is under way
transmits : (g : Giving) (check : Check) (body : List ℕ) → is_transmitting (transmit g (reply_sent check body)) ≡ true
transmits g check body =
    ap not (some-left (record { byte = 16; of_body = false }) (record { byte = 2; of_body = false } ∷ (flat_map piece_sent (pieces_of body) ++ unmarked (16 ∷ 3 ∷ check_of check body))))

-- where nothing is left, no message is under way
still : (number : Option ℕ) (done none : Bool) → (done && none) ≡ true → (is_some number && not done) ≡ false
still None done none quiet = refl
still (Some n) true none quiet = refl
still (Some n) false none quiet = absurd cc

offered-leads : {H : Type 0} (m : Ghosts H) (s : SlaveState H) (next : Option (List ℕ))
    → Leads s.setup.max_sends None (sending_begun None next) (sendings_begun (offered m (record s { held = None }) next))
offered-leads m s None = stays None
offered-leads m s (Some body) =
    hands body [] _ (subst (λ (transmits : Bool). Leads s.setup.max_sends (Some 1) [] (Some (begun_of transmits loaded))) (sym (transmits s.mouth s.setup.check body)) (stays (Some 1)))

one-more : (most count before after : ℕ) → before ≡ count → after ≡ count + 1 → count < most → Leads most (Some before) (SentAgain ∷ []) (Some after)
one-more most count before after is becomes few =
    subst (λ (n : ℕ). Leads most (Some n) (SentAgain ∷ []) (Some after)) (sym is)
    (again count [] (Some after) few (subst (λ (n : ℕ). Leads most (Some (count + 1)) [] (Some n)) (sym becomes) (stays (Some (count + 1)))))

message-leads : {H : Type 0} (m : Ghosts H) (s : SlaveState H) (message : Held) (fewer : Bool) → nat_lt message.sent s.setup.max_sends ≡ fewer → is_transmitting s.mouth ≡ false
    → let what : Option Fate = if fewer then None else Some fate.Undelivered in
    let after = told m (record s { held = Some message }) what in
    Leads s.setup.max_sends (sendings_begun (record s { held = Some message })) (telling what ++ sending_begun after.held (m.next_body after.host)) (sendings_begun (answered m after after.held))
message-leads m s message true few quiet =
    one-more s.setup.max_sends message.sent (begun_of (is_transmitting s.mouth) message) (begun_of (is_transmitting (transmit s.mouth (reply_sent s.setup.check s.sending))) message)
    (rw quiet (omega arith)) (rw (transmits s.mouth s.setup.check s.sending) (omega arith)) (grind (arith, nat_tests))
message-leads m s message false few quiet =
    ended _ fate.Undelivered _ _ (offered-leads m (record s { host = m.after_told s.host fate.Undelivered }) (m.next_body (m.after_told s.host fate.Undelivered)))

poll-leads : {H : Type 0} (m : Ghosts H) (s : SlaveState H) (held : Option Held) → is_transmitting s.mouth ≡ false
    → Leads s.setup.max_sends (sendings_begun (record s { held = held })) (events_of_poll m (record s { held = held })) (sendings_begun (polled m (record s { held = held })))
poll-leads m s None quiet = offered-leads m s (m.next_body s.host)
poll-leads m s (Some message) quiet = message-leads m s message (nat_lt message.sent s.setup.max_sends) refl quiet

own-quiet : (own quiet : Bool) → (own && quiet) ≡ true → quiet ≡ true
own-quiet true quiet is = is
own-quiet false quiet is = absurd cc

answered-leads : {H : Type 0} (m : Ghosts H) (s : SlaveState H) (own quiet : Bool) → ((own && quiet) ≡ true → is_transmitting s.mouth ≡ false)
    → Leads s.setup.max_sends (sendings_begun s) (if own && quiet then events_of_poll m s else []) (sendings_begun (if own && quiet then polled m s else s))
answered-leads m s true true means = poll-leads m s s.held (means refl)
answered-leads m s true false means = stays _
answered-leads m s false quiet means = stays _

-- ---- a byte

received-begun : {H : Type 0} (m : Ghosts H) (s : SlaveState H) (own : Bool) (v : Verdict) → Leads s.setup.max_sends (sendings_begun s) [] (sendings_begun (if own then received m s v else s))
received-begun m s true Repeated = stays _
received-begun m s true Accepted = stays _
received-begun m s true Refused = stays _
received-begun m s false v = stays _

heard-leads : {H : Type 0} (m : Ghosts H) (s : SlaveState H) (what : Option SlaveHeard) → Leads s.setup.max_sends (sendings_begun s) (events_at_heard m s what) (sendings_begun (slave_after_heard m s what))
heard-leads m s None = stays _
heard-leads m s (Some (heard.Addressed stn)) = received-begun m s (is_own s stn) (verdict m s)
heard-leads m s (Some (heard.Header stn)) = stays _
heard-leads m s (Some (heard.Poll stn)) = answered-leads m s (is_own s stn) (is_quiet s) (λ answered. still s.mouth.number (is_done s.mouth) _ (own-quiet (is_own s stn) (is_quiet s) answered))
heard-leads m s (Some heard.BadPoll) = stays _
heard-leads m s (Some (heard.Damaged stn)) = stays _
heard-leads m s (Some heard.Ack) = ack-leads m s s.held
heard-leads m s (Some heard.Reset) = reset-leads m s s.held
heard-leads m s (Some (heard.Stray b)) = stays _
heard-leads m s (Some (heard.StrayPair code)) = stays _

listened-begun : (transmits : Bool) (what : Option SlaveHeard) (held : Option Held) → option_map (begun_of transmits) (option_map (after_heard what) held) ≡ option_map (begun_of transmits) held
listened-begun transmits what None = refl
listened-begun transmits what (Some message) = refl

byte-leads : {H : Type 0} (m : Ghosts H) (s : SlaveState H) (b : ℕ) → Leads s.setup.max_sends (sendings_begun s) (events_at m s (Byte b)) (sendings_begun (slave_after_byte m s b))
byte-leads m s b =
    subst (λ (begun : Option ℕ). Leads s.setup.max_sends begun (events_at m s (Byte b)) (sendings_begun (slave_after_byte m s b))) (listened-begun (is_transmitting s.mouth) (heard_at s b) s.held)
    (heard-leads m (listened s b) (heard_at s b))

-- ---- a take

last-begun : (most : ℕ) (held : Option Held) → most < 2 ^ 32 → AtMost most (option_map (begun_of true) held) → option_map (begun_of false) (option_map after_sending held) ≡ option_map (begun_of true) held
last-begun most None fits few = refl
last-begun most (Some message) fits few = ap Some (capped message.sent most fits few)
  where
    capped : (sent most : ℕ) → most < 2 ^ 32 → sent + 1 ≤ most → min (sent + 1) (2 ^ 32 - 1) + 0 ≡ sent + 1
    capped sent most fits few = grind (arith, nat_tests)

-- a byte that is given leaves as many sendings begun
take-begun : (most : ℕ) (left : List Sent) (number : Option ℕ) (begun : ℕ) (responds : Option Resp) (held : Option Held) → most < 2 ^ 32
    → let g : Giving = record { left = left; number = number; begun = begun } in
    let to = take (mouth_at_take g responds) in
    AtMost most (option_map (begun_of (is_transmitting g)) held)
    → option_map (begun_of (is_transmitting to.0)) (after_out to.1 held) ≡ option_map (begun_of (is_transmitting g)) held
take-begun most [] number begun None held fits few = refl
take-begun most [] None begun (Some r) held fits few = refl
take-begun most [] (Some n) begun (Some r) held fits few = refl
take-begun most (x ∷ []) None begun responds held fits few = refl
take-begun most (x ∷ []) (Some n) begun responds held fits few = last-begun most held fits few
take-begun most (x ∷ y ∷ more) number begun responds held fits few = rw (some-left x (y ∷ more), some-left y more) refl

take-same : {H : Type 0} (s : SlaveState H) → Counted s → sendings_begun (slave_after_take s) ≡ sendings_begun s
take-same s c = take-begun s.setup.max_sends s.mouth.left s.mouth.number s.mouth.begun s.responds s.held c.fits c.at_most

-- ---- signals

signal-leads : {H : Type 0} (m : Ghosts H) (s : SlaveState H) (signal : Letter) → Counted s → Leads s.setup.max_sends (sendings_begun s) (events_at m s signal) (sendings_begun (slave_after m s signal))
signal-leads m s (Byte b) c = byte-leads m s b
signal-leads m s Take c = subst (λ (after : Option ℕ). Leads s.setup.max_sends (sendings_begun s) [] after) (sym (take-same s c)) (stays (sendings_begun s))

signal-setup : {H : Type 0} (m : Ghosts H) (s : SlaveState H) (signal : Letter) → (slave_after m s signal).setup ≡ s.setup
signal-setup m s (Byte b) = byte-setup m s b
signal-setup m s Take = refl

pub counted-new : {H : Type 0} (setup : SlaveSetup) (host : H) → 1 ≤ setup.max_sends → setup.max_sends < 2 ^ 32 → Counted (new_slave setup host)
counted-new setup host sends fits = record { sends = sends; fits = fits; at_most = tt }

pub counted-signal : {H : Type 0} (m : Ghosts H) (s : SlaveState H) (signal : Letter) → Counted s → Counted (slave_after m s signal)
counted-signal m s signal c =
    let after = slave_after m s signal in
    let same = sym (signal-setup m s signal) in
    record {
      sends = subst (λ (setup : SlaveSetup). 1 ≤ setup.max_sends) same c.sends;
      fits = subst (λ (setup : SlaveSetup). setup.max_sends < 2 ^ 32) same c.fits;
      at_most = subst (λ (setup : SlaveSetup). AtMost setup.max_sends (sendings_begun after)) same (leads-most s.setup.max_sends (sendings_begun s) (sendings_begun after) (events_at m s signal) c.sends (signal-leads m s signal c) c.at_most);
    }

pub in-turn : {H : Type 0} (m : Ghosts H) (s : SlaveState H) (signals : List Letter) → Counted s → InTurn s.setup.max_sends (sendings_begun s) (events m s signals)
in-turn m s [] c = ends (sendings_begun s)
in-turn m s (signal ∷ signals) c =
    let after = slave_after m s signal in
    leads-turn s.setup.max_sends (sendings_begun s) (sendings_begun after) (events_at m s signal) (events m after signals) (signal-leads m s signal c)
    (subst (λ (setup : SlaveSetup). InTurn setup.max_sends (sendings_begun after) (events m after signals)) (signal-setup m s signal) (in-turn m after signals (counted-signal m s signal c)))

pub counted-host : {H : Type 0} (s : SlaveState H) (host : H) → Counted s → Counted (with_host s host)
counted-host s host c = record { sends = c.sends; fits = c.fits; at_most = c.at_most }
