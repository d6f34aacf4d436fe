-- A message is given again as often as it may be, and its fate is told once, after its hand-out.
use Rattle.std.proofs.Common.{◌≡◌, ◌<◌, ◌≤◌, ℕ, ◌+◌, Bool, true, false, List, [], ◌∷◌, ◌++◌, Option, Some, None, IsSome, is_some, ap, sym, subst, ◌∙◌, refl, arith}
use Rattle.std.specs.Prelude.{nat_lt, slice_get, slice_index, ◌&&◌, ◌==◌, if◌then◌else◌}
use Rattle.std.proofs.lemmas.Bool.{cond_both, and_parts, ltb-true, ltb-false}
use Rattle.df1_base.specs.declared.host.Host.{Ghosts}
use Rattle.df1_base.specs.declared.host.Fate.{Fate}
use Rattle.df1_base.specs.declared.host.Fate.TheVariants as fate
use Rattle.df1_base.specs.HostAnswers.{host_told}
use Rattle.half_frame.specs.declared.heard.MasterHeard.{MasterHeard}
use Rattle.half_frame.specs.declared.heard.MasterHeard.TheVariants as heard
use Rattle.half_mouth.specs.Giving.{is_done}
use Rattle.pccc_envelope.specs.Accepted.{Verdict, Repeated, Accepted, Refused}
use Rattle.half_master.specs.declared.MasterSetup.{MasterSetup}
use Rattle.half_master.specs.declared.stations.Station.{Station}
use Rattle.half_master.specs.declared.table.Phase.{Phase}
use Rattle.half_master.specs.declared.table.Phase.TheVariants as phase
use Rattle.half_master.specs.declared.table.Effect.{Effect}
use Rattle.half_master.specs.declared.table.Effect.TheVariants as effect
use Rattle.half_master.specs.Stations.{is_listed}
use Rattle.half_master.specs.Master.{MasterState, with_host, with_byte, heard_at, body_of, unacknowledged, effect_of_verdict, answered, effect_on_message, effect_on_poll, effect_in, effect_heard, effect_of_tick, effect_of_byte, effect_at_tick, with_left, polled, performed, fate_of, host_accepted, host_ticked, is_idle, message_next, transmitted, begun_of}
use Rattle.half_master.specs.Emission.{Letter, Byte, Tick, Take, master_after, master_after_all}
use Rattle.half_master.specs.Fates.{Event, HandedOut, GivenAgain, Told, ForNoStation, events_of, handed_out, events_at, events, InTurn, ends, hands_out, gives_again, delivers, gives_up, passes_over, out_of, IsWithin}
use Rattle.half_master.proofs.Runs.{signal-setup}

-- ---- in which phase an effect comes about

abbrev Arises : ℕ → Phase → Effect → Type 0
Arises most at effect.Nothing = Unit {0}
Arises most at (effect.Waits left) = Unit {0}
Arises most at effect.Delivered = (resent : ℕ) × (out_of at ≡ Some resent)
Arises most at (effect.Again again) = (resent : ℕ) × (out_of at ≡ Some resent) × (resent < most) × (again ≡ resent + 1)
Arises most at effect.GivenUp = out_of at ≡ Some most
Arises most at effect.PollOver = out_of at ≡ None
Arises most at (effect.Accepted place) = out_of at ≡ None
Arises most at effect.Repeated = out_of at ≡ None
Arises most at effect.Refused = Unit {0}
Arises most at effect.Damaged = Unit {0}
Arises most at effect.Polls = out_of at ≡ None

unacknowledged-arises : (setup : MasterSetup) (left resent : ℕ) → resent ≤ setup.max_resends → Arises setup.max_resends (phase.WaitsForAck left resent) (unacknowledged setup resent)
unacknowledged-arises setup left resent within =
    cond_both (nat_lt resent setup.max_resends) _ _ (Arises setup.max_resends (phase.WaitsForAck left resent))
    (λ is. (resent, refl, ltb-true resent setup.max_resends is, refl))
    (λ is. ap (λ (n : ℕ). Some n) (let above = ltb-false resent setup.max_resends is in let same : resent ≡ setup.max_resends = omega (arith, above, within) in same))

message-arises : (setup : MasterSetup) (left resent : ℕ) (what : Option MasterHeard) → resent ≤ setup.max_resends → Arises setup.max_resends (phase.WaitsForAck left resent) (effect_on_message setup resent what)
message-arises setup left resent None within = tt
message-arises setup left resent (Some heard.Good) within = tt
message-arises setup left resent (Some heard.Damaged) within = tt
message-arises setup left resent (Some heard.Ack) within = (resent, refl)
message-arises setup left resent (Some heard.Nak) within = unacknowledged-arises setup left resent within
message-arises setup left resent (Some heard.Eot) within = tt
message-arises setup left resent (Some (heard.Stray b)) within = tt
message-arises setup left resent (Some (heard.StrayPair c)) within = tt

verdict-arises : (most left at place : ℕ) (v : Verdict) → Arises most (phase.WaitsAfterPoll left at) (effect_of_verdict place v)
verdict-arises most left at place Repeated = refl
verdict-arises most left at place Accepted = refl
verdict-arises most left at place Refused = tt

answer-arises : (most left at place : ℕ) (room : List ℕ → Bool) (o : Option Station) (body : List ℕ) → Arises most (phase.WaitsAfterPoll left at) (answered room place o body)
answer-arises most left at place room None body = tt
answer-arises most left at place room (Some station) body =
    cond_both (slice_index body 1 == station.number) _ _ (Arises most (phase.WaitsAfterPoll left at)) (λ from. verdict-arises most left at place _) (λ other. tt)

poll-arises : (most left at : ℕ) (good : Effect) (what : Option MasterHeard) → Arises most (phase.WaitsAfterPoll left at) good → Arises most (phase.WaitsAfterPoll left at) (effect_on_poll good what)
poll-arises most left at good None arises = tt
poll-arises most left at good (Some heard.Good) arises = arises
poll-arises most left at good (Some heard.Damaged) arises = tt
poll-arises most left at good (Some heard.Ack) arises = tt
poll-arises most left at good (Some heard.Nak) arises = tt
poll-arises most left at good (Some heard.Eot) arises = refl
poll-arises most left at good (Some (heard.Stray b)) arises = tt
poll-arises most left at good (Some (heard.StrayPair c)) arises = tt

in-arises : {H : Type 0} (m : Ghosts H) (e : MasterState H) (what : Option MasterHeard) (at : Phase) → IsWithin e.setup.max_resends at → Arises e.setup.max_resends at (effect_in m e what at)
in-arises m e what phase.Idle within = tt
in-arises m e what (phase.WaitsForAck left resent) within = message-arises e.setup left resent what within
in-arises m e what (phase.WaitsAfterPoll left place) within =
    poll-arises e.setup.max_resends left place _ what (answer-arises e.setup.max_resends left place place (m.room_for e.host) (slice_get e.stations place) (body_of e))

heard-arises : {H : Type 0} (m : Ghosts H) (e : MasterState H) (what : Option MasterHeard) → IsWithin e.setup.max_resends e.phase → Arises e.setup.max_resends e.phase (effect_heard m e what)
heard-arises m e what within = cond_both (is_done e.mouth) _ _ (Arises e.setup.max_resends e.phase) (λ done. in-arises m e what e.phase within) (λ gives. tt)

tick-in-arises : (setup : MasterSetup) (ready : Bool) (at : Phase) → IsWithin setup.max_resends at → Arises setup.max_resends at (effect_of_tick setup ready at)
tick-in-arises setup ready phase.Idle within = cond_both ready _ _ (Arises setup.max_resends phase.Idle) (λ is. tt) (λ is. refl)
tick-in-arises setup ready (phase.WaitsForAck left resent) within =
    cond_both (nat_lt 1 left) _ _ (Arises setup.max_resends (phase.WaitsForAck left resent)) (λ is. tt) (λ is. unacknowledged-arises setup left resent within)
tick-in-arises setup ready (phase.WaitsAfterPoll left place) within = cond_both (nat_lt 1 left) _ _ (Arises setup.max_resends (phase.WaitsAfterPoll left place)) (λ is. tt) (λ is. refl)

tick-arises : {H : Type 0} (m : Ghosts H) (e : MasterState H) → IsWithin e.setup.max_resends e.phase → Arises e.setup.max_resends e.phase (effect_at_tick m e)
tick-arises m e within = cond_both (is_done e.mouth) _ _ (Arises e.setup.max_resends e.phase) (λ done. tick-in-arises e.setup (is_some (m.next_body e.host)) e.phase within) (λ gives. tt)

-- ---- from phase to phase

-- the phase after an effect, and the events so far before those that come later
abbrev Goes : ℕ → Phase → Effect → Phase → Type 0
Goes most at what to = IsWithin most to × ((later : List Event) → InTurn most (out_of to) later → InTurn most (out_of at) (events_of what ++ later))

left-out : (left : ℕ) (at : Phase) → out_of (with_left left at) ≡ out_of at
left-out left phase.Idle = refl
left-out left (phase.WaitsForAck was resent) = refl
left-out left (phase.WaitsAfterPoll was place) = refl

left-within : (most left : ℕ) (at : Phase) → IsWithin most at → IsWithin most (with_left left at)
left-within most left phase.Idle within = within
left-within most left (phase.WaitsForAck was resent) within = within
left-within most left (phase.WaitsAfterPoll was place) within = within

-- nothing is out before and after
stays-none : (most : ℕ) (at to : Phase) (later : List Event) → out_of at ≡ None → out_of to ≡ None → InTurn most (out_of to) later → InTurn most (out_of at) later
stays-none most at to later none too turn = subst (λ (o : Option ℕ). InTurn most o later) (too ∙ sym none) turn

polled-within : {H : Type 0} (most : ℕ) (e : MasterState H) (station : Option Station) → IsWithin most e.phase → IsWithin most (polled e station).phase
polled-within most e None within = within
polled-within most e (Some station) within = tt

polled-out : {H : Type 0} (e : MasterState H) (station : Option Station) → out_of e.phase ≡ None → out_of (polled e station).phase ≡ None
polled-out e None none = none
polled-out e (Some station) none = refl

performed-goes : {H : Type 0} (most : ℕ) (e : MasterState H) (what : Effect) → Arises most e.phase what → IsWithin most e.phase → Goes most e.phase what (performed e what).phase
performed-goes most e effect.Nothing arises within = (within, λ later turn. turn)
performed-goes most e (effect.Waits left) arises within =
    (left-within most left e.phase within, λ later turn. subst (λ (o : Option ℕ). InTurn most o later) (left-out left e.phase) turn)
performed-goes most e effect.Delivered arises within =
    (tt, λ later turn. subst (λ (o : Option ℕ). InTurn most o (Told fate.Delivered ∷ later)) (sym arises.1) (delivers arises.0 later turn))
performed-goes most e (effect.Again again) arises within =
    let few : again ≤ most = omega (arith, arises.2, arises.3) in (
      few,
      λ later turn. subst (λ (o : Option ℕ). InTurn most o (GivenAgain ∷ later)) (sym arises.1)
          (gives_again arises.0 later arises.2 (subst (λ (n : ℕ). InTurn most (Some n) later) arises.3 turn)),
    )
performed-goes most e effect.GivenUp arises within =
    (tt, λ later turn. subst (λ (o : Option ℕ). InTurn most o (Told fate.Undelivered ∷ later)) (sym arises) (gives_up later turn))
performed-goes most e effect.PollOver arises within = (tt, λ later turn. subst (λ (o : Option ℕ). InTurn most o later) (sym arises) turn)
performed-goes most e (effect.Accepted place) arises within = (tt, λ later turn. subst (λ (o : Option ℕ). InTurn most o later) (sym arises) turn)
performed-goes most e effect.Repeated arises within = (tt, λ later turn. subst (λ (o : Option ℕ). InTurn most o later) (sym arises) turn)
performed-goes most e effect.Refused arises within = (within, λ later turn. turn)
performed-goes most e effect.Damaged arises within = (within, λ later turn. turn)
performed-goes most e effect.Polls arises within =
    let station = slice_get e.stations e.next in
    (polled-within most e station within, λ later turn. stays-none most e.phase (polled e station).phase later arises (polled-out e station arises) turn)

-- ---- a take

message-when : (free : Bool) (o : Option (List ℕ)) (body : List ℕ) → (if free then o else None) ≡ Some body → (free ≡ true) × (o ≡ Some body)
message-when true o body is = (refl, is)
message-when false o body is = absurd cc

idle-is : (at : Phase) → is_idle at ≡ true → at ≡ phase.Idle
idle-is phase.Idle is = refl
idle-is (phase.WaitsForAck left resent) is = absurd cc
idle-is (phase.WaitsAfterPoll left place) is = absurd cc

-- where a take begins a message, nothing is left to be given, the master is idle, and the message is the host's next
pub record Begins {H : Type 0} (m : Ghosts H) (e : MasterState H) (body : List ℕ) : Type 0 where
  pub done : is_done e.mouth ≡ true
  pub idle : e.phase ≡ phase.Idle
  pub is_next : m.next_body e.host ≡ Some body

pub begins-when : {H : Type 0} (m : Ghosts H) (e : MasterState H) (body : List ℕ) → message_next m e ≡ Some body → Begins m e body
begins-when m e body is =
    let both = message-when (is_done e.mouth && is_idle e.phase) (m.next_body e.host) body is in
    let free = and_parts (is_done e.mouth) (is_idle e.phase) both.0 in
    record { done = free.0; idle = idle-is e.phase free.1; is_next = both.1 }

-- the phase, and the events, after a take
abbrev TakeGoes : {H : Type 0} → ℕ → MasterState H → List Event → MasterState H → Type 0
TakeGoes most e at after = IsWithin most after.phase × ((later : List Event) → InTurn most (out_of after.phase) later → InTurn most (out_of e.phase) (at ++ later))

listed-goes : {H : Type 0} (m : Ghosts H) (most : ℕ) (e : MasterState H) (body : List ℕ) (listed : Bool) → out_of e.phase ≡ None → IsWithin most e.phase
    → TakeGoes most e (if listed then HandedOut body ∷ [] else ForNoStation body ∷ [])
    (if listed then transmitted (record e { sending = body; host = m.after_next e.host }) 0 else with_host e (m.after_told (m.after_next e.host) fate.Undelivered))
listed-goes m most e body true none within = (omega arith, λ later turn. subst (λ (o : Option ℕ). InTurn most o (HandedOut body ∷ later)) (sym none) (hands_out body later turn))
listed-goes m most e body false none within =
    (within, λ later turn. subst (λ (o : Option ℕ). InTurn most o (ForNoStation body ∷ later)) (sym none) (passes_over body later (subst (λ (o : Option ℕ). InTurn most o later) none turn)))

begun-goes : {H : Type 0} (m : Ghosts H) (most : ℕ) (e : MasterState H) (o : Option (List ℕ)) → message_next m e ≡ o → IsWithin most e.phase → TakeGoes most e (handed_out e o) (begun_of m e o)
begun-goes m most e None is within = (within, λ later turn. turn)
begun-goes m most e (Some body) is within =
    listed-goes m most e body (is_listed e.stations (slice_index body 0)) (ap (λ (at : Phase). out_of at) (begins-when m e body is).idle) within

-- ---- over signals

signal-goes : {H : Type 0} (m : Ghosts H) (e : MasterState H) (signal : Letter) → IsWithin e.setup.max_resends e.phase → TakeGoes e.setup.max_resends e (events_at m e signal) (master_after m e signal)
signal-goes m e (Byte b) within =
    let what = effect_of_byte m e b in
    performed-goes e.setup.max_resends (with_host (with_byte e b) (host_told m (fate_of what) (host_accepted m what e.host (body_of (with_byte e b))))) what
    (heard-arises m (with_byte e b) (heard_at e b) within) within
signal-goes m e Tick within =
    let what = effect_at_tick m e in
    performed-goes e.setup.max_resends (with_host e (host_told m (fate_of what) (host_ticked m what e.host))) what (tick-arises m e within) within
signal-goes m e Take within = begun-goes m e.setup.max_resends e (message_next m e) refl within

-- a message stays within the most sendings
pub stays-within : {H : Type 0} (m : Ghosts H) (e : MasterState H) (signal : Letter) → IsWithin e.setup.max_resends e.phase → IsWithin (master_after m e signal).setup.max_resends (master_after m e signal).phase
stays-within m e signal within = subst (λ (setup : MasterSetup). IsWithin setup.max_resends (master_after m e signal).phase) (sym (signal-setup m e signal)) (signal-goes m e signal within).0

in-turn-most : {H : Type 0} (m : Ghosts H) (most : ℕ) (e : MasterState H) (signals : List Letter) → e.setup.max_resends ≡ most → IsWithin most e.phase → InTurn most (out_of e.phase) (events m e signals)
in-turn-most m most e [] is within = ends (out_of e.phase)
in-turn-most m most e (signal ∷ signals) is within =
    let goes : TakeGoes most e (events_at m e signal) (master_after m e signal) =
    subst (λ (n : ℕ). TakeGoes n e (events_at m e signal) (master_after m e signal)) is (signal-goes m e signal (subst (λ (n : ℕ). IsWithin n e.phase) (sym is) within)) in
    let same : (master_after m e signal).setup.max_resends ≡ most = ap (λ (setup : MasterSetup). setup.max_resends) (signal-setup m e signal) ∙ is in
    goes.1 (events m (master_after m e signal) signals) (in-turn-most m most (master_after m e signal) signals same goes.0)

pub in-turn : {H : Type 0} (m : Ghosts H) (e : MasterState H) (signals : List Letter) → IsWithin e.setup.max_resends e.phase → InTurn e.setup.max_resends (out_of e.phase) (events m e signals)
in-turn m e signals within = in-turn-most m e.setup.max_resends e signals refl within

-- ---- the host agrees

-- the laws of a host's fates
pub record TellsFates {H : Type 0} (m : Ghosts H) : Type 0 where
  pub at_next : (h : H) → IsSome (m.next_body h) → m.is_out (m.after_next h) ≡ true
  pub at_told : (h : H) (fate : Fate) → m.is_out (m.after_told h fate) ≡ false
  pub at_accept : (h : H) (body : List ℕ) → m.is_out (m.after_accept h body) ≡ m.is_out h
  pub at_tick : (h : H) → m.is_out (m.after_tick h) ≡ m.is_out h

-- the host and the phase agree on whether a message is out
abbrev pub Agrees : {H : Type 0} → Ghosts H → MasterState H → Type 0
Agrees m e = m.is_out e.host ≡ is_some (out_of e.phase)

none-agrees : {H : Type 0} (m : Ghosts H) (host : H) (at to : Phase) → m.is_out host ≡ is_some (out_of at) → out_of at ≡ None → out_of to ≡ None → m.is_out host ≡ is_some (out_of to)
none-agrees m host at to agrees none too = agrees ∙ ap (λ (o : Option ℕ). is_some o) (none ∙ sym too)

-- an effect of a byte; at a tick the host ticks first
byte-agrees : {H : Type 0} (m : Ghosts H) (laws : TellsFates m) (most : ℕ) (e : MasterState H) (what : Effect) (body : List ℕ) → Arises most e.phase what → Agrees m e
    → m.is_out (host_told m (fate_of what) (host_accepted m what e.host body)) ≡ is_some (out_of (performed e what).phase)
byte-agrees m laws most e effect.Nothing body arises agrees = agrees
byte-agrees m laws most e (effect.Waits left) body arises agrees = agrees ∙ ap (λ (o : Option ℕ). is_some o) (sym (left-out left e.phase))
byte-agrees m laws most e effect.Delivered body arises agrees = laws.at_told e.host fate.Delivered
byte-agrees m laws most e (effect.Again again) body arises agrees = agrees ∙ ap (λ (o : Option ℕ). is_some o) arises.1
byte-agrees m laws most e effect.GivenUp body arises agrees = laws.at_told e.host fate.Undelivered
byte-agrees m laws most e effect.PollOver body arises agrees = none-agrees m e.host e.phase phase.Idle agrees arises refl
byte-agrees m laws most e (effect.Accepted place) body arises agrees = laws.at_accept e.host body ∙ none-agrees m e.host e.phase phase.Idle agrees arises refl
byte-agrees m laws most e effect.Repeated body arises agrees = none-agrees m e.host e.phase phase.Idle agrees arises refl
byte-agrees m laws most e effect.Refused body arises agrees = agrees
byte-agrees m laws most e effect.Damaged body arises agrees = agrees
byte-agrees m laws most e effect.Polls body arises agrees =
    let station = slice_get e.stations e.next in none-agrees m e.host e.phase (polled e station).phase agrees arises (polled-out e station arises)

tick-agrees : {H : Type 0} (m : Ghosts H) (laws : TellsFates m) (most : ℕ) (e : MasterState H) (what : Effect) → Arises most e.phase what → Agrees m e
    → m.is_out (host_told m (fate_of what) (host_ticked m what e.host)) ≡ is_some (out_of (performed e what).phase)
tick-agrees m laws most e effect.Nothing arises agrees = agrees
tick-agrees m laws most e (effect.Waits left) arises agrees = agrees ∙ ap (λ (o : Option ℕ). is_some o) (sym (left-out left e.phase))
tick-agrees m laws most e effect.Delivered arises agrees = laws.at_told e.host fate.Delivered
tick-agrees m laws most e (effect.Again again) arises agrees = agrees ∙ ap (λ (o : Option ℕ). is_some o) arises.1
tick-agrees m laws most e effect.GivenUp arises agrees = laws.at_told e.host fate.Undelivered
tick-agrees m laws most e effect.PollOver arises agrees = none-agrees m e.host e.phase phase.Idle agrees arises refl
tick-agrees m laws most e (effect.Accepted place) arises agrees = none-agrees m e.host e.phase phase.Idle agrees arises refl
tick-agrees m laws most e effect.Repeated arises agrees = none-agrees m e.host e.phase phase.Idle agrees arises refl
tick-agrees m laws most e effect.Refused arises agrees = agrees
tick-agrees m laws most e effect.Damaged arises agrees = agrees
tick-agrees m laws most e effect.Polls arises agrees =
    let station = slice_get e.stations e.next in laws.at_tick e.host ∙ none-agrees m e.host e.phase (polled e station).phase agrees arises (polled-out e station arises)

begun-agrees : {H : Type 0} (m : Ghosts H) (laws : TellsFates m) (e : MasterState H) (o : Option (List ℕ)) → message_next m e ≡ o → Agrees m e → Agrees m (begun_of m e o)
begun-agrees m laws e None is agrees = agrees
begun-agrees {H} m laws e (Some body) is agrees =
    let begins = begins-when m e body is in
    cond_both (is_listed e.stations (slice_index body 0)) _ _ (λ (x : MasterState H). Agrees m x)
    (λ at. laws.at_next e.host (subst (λ (o : Option (List ℕ)). IsSome o) (sym begins.is_next) refl))
    (λ at. laws.at_told (m.after_next e.host) fate.Undelivered ∙ ap (λ (p : Phase). is_some (out_of p)) (sym begins.idle))

polled-host : {H : Type 0} (e : MasterState H) (host : H) (station : Option Station) → ((polled (with_host e host) station).host ≡ host) × ((polled (with_host e host) station).phase ≡ (polled e station).phase)
polled-host e host None = (refl, refl)
polled-host e host (Some station) = (refl, refl)

pub performed-host : {H : Type 0} (e : MasterState H) (host : H) (what : Effect) → ((performed (with_host e host) what).host ≡ host) × ((performed (with_host e host) what).phase ≡ (performed e what).phase)
performed-host e host effect.Nothing = (refl, refl)
performed-host e host (effect.Waits left) = (refl, refl)
performed-host e host effect.Delivered = (refl, refl)
performed-host e host (effect.Again resent) = (refl, refl)
performed-host e host effect.GivenUp = (refl, refl)
performed-host e host effect.PollOver = (refl, refl)
performed-host e host (effect.Accepted place) = (refl, refl)
performed-host e host effect.Repeated = (refl, refl)
performed-host e host effect.Refused = (refl, refl)
performed-host e host effect.Damaged = (refl, refl)
performed-host e host effect.Polls = polled-host e host (slice_get e.stations e.next)

performed-agrees : {H : Type 0} (m : Ghosts H) (e : MasterState H) (host : H) (what : Effect) → m.is_out host ≡ is_some (out_of (performed e what).phase) → Agrees m (performed (with_host e host) what)
performed-agrees m e host what is =
    let same = performed-host e host what in
    ap (λ h. m.is_out h) same.0 ∙ is ∙ ap (λ (p : Phase). is_some (out_of p)) (sym same.1)

signal-agrees : {H : Type 0} (m : Ghosts H) (laws : TellsFates m) (e : MasterState H) (signal : Letter) → IsWithin e.setup.max_resends e.phase → Agrees m e → Agrees m (master_after m e signal)
signal-agrees m laws e (Byte b) within agrees =
    let what = effect_of_byte m e b in
    performed-agrees m (with_byte e b) _ what (byte-agrees m laws e.setup.max_resends (with_byte e b) what (body_of (with_byte e b)) (heard-arises m (with_byte e b) (heard_at e b) within) agrees)
signal-agrees m laws e Tick within agrees =
    let what = effect_at_tick m e in
    performed-agrees m e _ what (tick-agrees m laws e.setup.max_resends e what (tick-arises m e within) agrees)
signal-agrees m laws e Take within agrees = begun-agrees m laws e (message_next m e) refl agrees

pub signals-agree : {H : Type 0} (m : Ghosts H) (laws : TellsFates m) (e : MasterState H) (signals : List Letter) → IsWithin e.setup.max_resends e.phase → Agrees m e → Agrees m (master_after_all m e signals)
signals-agree m laws e [] within agrees = agrees
signals-agree m laws e (signal ∷ signals) within agrees = signals-agree m laws (master_after m e signal) signals (stays-within m e signal within) (signal-agrees m laws e signal within agrees)
