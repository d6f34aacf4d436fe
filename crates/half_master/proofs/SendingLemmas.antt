-- Each message that is given is one transmission more, and nothing else is.
use Rattle.std.proofs.Common.{◌≡◌, ℕ, Bool, true, false, List, [], ◌∷◌, ◌++◌, Option, Some, None, refl, ap, ◌∙◌}
use Rattle.std.specs.Prelude.{slice_get, slice_index, if◌then◌else◌}
use Rattle.df1_base.specs.declared.host.Host.{Ghosts}
use Rattle.df1_base.specs.declared.host.Fate.TheVariants as fate
use Rattle.df1_base.specs.HostAnswers.{host_told}
use Rattle.half_frame.specs.declared.framer.Sent.{Sent}
use Rattle.half_mouth.specs.Giving.{Giving, one_more, taken}
use Rattle.half_master.specs.declared.stations.Station.{Station}
use Rattle.half_master.specs.declared.table.Effect.{Effect}
use Rattle.half_master.specs.declared.table.Effect.TheVariants as effect
use Rattle.half_master.specs.Stations.{is_listed}
use Rattle.half_master.specs.Master.{MasterState, with_host, with_byte, body_of, effect_of_byte, effect_at_tick, polled, performed, fate_of, host_accepted, host_ticked, message_next, transmitted, begun_of, given_next}
use Rattle.half_master.specs.Emission.{Letter, Byte, Tick, Take, master_after, master_after_all}
use Rattle.half_master.specs.Fates.{Event, HandedOut, GivenAgain, Told, ForNoStation, events_of, handed_out, events_at, events}
use Rattle.half_master.specs.Transmissions.{begun_after, sending_after}

-- the transmissions after these events
abbrev pub Counted : {H : Type 0} → MasterState H → List Event → MasterState H → Type 0
Counted e at after = (after.mouth.begun ≡ begun_after e.mouth.begun at) × (after.sending ≡ sending_after e.sending at)

-- ---- an effect

polled-counted : {H : Type 0} (e : MasterState H) (o : Option Station) → Counted e [] (polled e o)
polled-counted e None = (refl, refl)
polled-counted e (Some station) = (refl, refl)

performed-counted : {H : Type 0} (e : MasterState H) (what : Effect) → Counted e (events_of what) (performed e what)
performed-counted e effect.Nothing = (refl, refl)
performed-counted e (effect.Waits left) = (refl, refl)
performed-counted e effect.Delivered = (refl, refl)
performed-counted e (effect.Again resent) = (refl, refl)
performed-counted e effect.GivenUp = (refl, refl)
performed-counted e effect.PollOver = (refl, refl)
performed-counted e (effect.Accepted place) = (refl, refl)
performed-counted e effect.Repeated = (refl, refl)
performed-counted e effect.Refused = (refl, refl)
performed-counted e effect.Damaged = (refl, refl)
performed-counted e effect.Polls = polled-counted e (slice_get e.stations e.next)

-- ---- a take

taken-begun : (g : Giving) (left : List Sent) → (taken g left).0.begun ≡ g.begun
taken-begun g [] = refl
taken-begun g (sent ∷ left) = refl

listed-counted : {H : Type 0} (m : Ghosts H) (e : MasterState H) (body : List ℕ) (listed : Bool)
    → Counted e (if listed then HandedOut body ∷ [] else ForNoStation body ∷ [])
    (given_next (if listed then transmitted (record e { sending = body; host = m.after_next e.host }) 0 else with_host e (m.after_told (m.after_next e.host) fate.Undelivered)))
listed-counted {H} m e body true =
    let sent : MasterState H = transmitted (record e { sending = body; host = m.after_next e.host }) 0 in
    (taken-begun sent.mouth sent.mouth.left, refl)
listed-counted m e body false = (taken-begun e.mouth e.mouth.left, refl)

begun-counted : {H : Type 0} (m : Ghosts H) (e : MasterState H) (o : Option (List ℕ)) → Counted e (handed_out e o) (given_next (begun_of m e o))
begun-counted m e None = (taken-begun e.mouth e.mouth.left, refl)
begun-counted m e (Some body) = listed-counted m e body (is_listed e.stations (slice_index body 0))

-- ---- over signals

signal-counted : {H : Type 0} (m : Ghosts H) (e : MasterState H) (signal : Letter) → Counted e (events_at m e signal) (master_after m e signal)
signal-counted m e (Byte b) =
    let what = effect_of_byte m e b in
    performed-counted (with_host (with_byte e b) (host_told m (fate_of what) (host_accepted m what e.host (body_of (with_byte e b))))) what
signal-counted m e Tick =
    let what = effect_at_tick m e in
    performed-counted (with_host e (host_told m (fate_of what) (host_ticked m what e.host))) what
signal-counted m e Take = begun-counted m e (message_next m e)

begun-append : (begun : ℕ) (before later : List Event) → begun_after (begun_after begun before) later ≡ begun_after begun (before ++ later)
begun-append begun [] later = refl
begun-append begun (HandedOut body ∷ before) later = begun-append (one_more begun) before later
begun-append begun (GivenAgain ∷ before) later = begun-append (one_more begun) before later
begun-append begun (Told fate ∷ before) later = begun-append begun before later
begun-append begun (ForNoStation body ∷ before) later = begun-append begun before later

sending-append : (sending : List ℕ) (before later : List Event) → sending_after (sending_after sending before) later ≡ sending_after sending (before ++ later)
sending-append sending [] later = refl
sending-append sending (HandedOut body ∷ before) later = sending-append body before later
sending-append sending (GivenAgain ∷ before) later = sending-append sending before later
sending-append sending (Told fate ∷ before) later = sending-append sending before later
sending-append sending (ForNoStation body ∷ before) later = sending-append sending before later

pub signals-counted : {H : Type 0} (m : Ghosts H) (e : MasterState H) (signals : List Letter) → Counted e (events m e signals) (master_after_all m e signals)
signals-counted m e [] = (refl, refl)
signals-counted m e (signal ∷ signals) =
    let first = signal-counted m e signal in
    let rest = signals-counted m (master_after m e signal) signals in
    let later = events m (master_after m e signal) signals in (
      rest.0 ∙ ap (λ (begun : ℕ). begun_after begun later) first.0 ∙ begun-append e.mouth.begun (events_at m e signal) later,
      rest.1 ∙ ap (λ (sending : List ℕ). sending_after sending later) first.1 ∙ sending-append e.sending (events_at m e signal) later,
    )
