-- What a master transmits is the message that it was handed last.
use Rattle.std.proofs.Common.{◌≡◌, ◌∙◌, ℕ, Bool, true, false, List, [], ◌∷◌, ◌++◌, length, Option, Some, None, refl, sym, ap, append-nil, arith}
use Rattle.std.specs.Prelude.{slice_get, slice_index, option_to_list, nat_lt, ◌==◌, ◌&&◌, if◌then◌else◌}
use Rattle.std.proofs.lemmas.Bool.{cond_both, and_parts}
use Rattle.std.proofs.lemmas.Bool.Decides.{nat_tests}
use Rattle.df1_base.specs.declared.host.Fate.TheVariants as fate
use Rattle.df1_base.specs.declared.host.Host.{Ghosts}
use Rattle.df1_base.specs.declared.link.Out.{Out}
use Rattle.df1_base.specs.HostAnswers.{host_told}
use Rattle.half_frame.specs.declared.framer.Sent.{Sent}
use Rattle.half_frame.specs.declared.heard.MasterHeard.{MasterHeard}
use Rattle.half_frame.specs.declared.heard.MasterHeard.TheVariants as heard
use Rattle.half_mouth.specs.Giving.{Giving, is_done, out_of, taken, take}
use Rattle.pccc_envelope.specs.Accepted.{Verdict, Repeated, Accepted, Refused}
use Rattle.half_master.specs.declared.MasterSetup.{MasterSetup}
use Rattle.half_master.specs.declared.stations.Station.{Station}
use Rattle.half_master.specs.declared.table.Phase.{Phase}
use Rattle.half_master.specs.declared.table.Phase.TheVariants as phase
use Rattle.half_master.specs.declared.table.Effect.{Effect}
use Rattle.half_master.specs.declared.table.Effect.TheVariants as effect
use Rattle.half_master.specs.Stations.{is_listed}
use Rattle.half_master.specs.Master.{MasterState, new_master, with_host, with_byte, unacknowledged, effect_of_verdict, answered, effect_on_message, effect_on_poll, effect_in, effect_of_tick, effect_heard, effect_at_tick, effect_of_byte, with_left, polled, performed, heard_at, body_of, is_idle, message_next, transmitted, begun_of, begun, master_after_take, out_at_take, master_after_byte, master_after_tick, fate_of, host_accepted, host_ticked}

-- the last element of a list
abbrev pub IsLast : List (List ℕ) → List ℕ → Type 0
IsLast xs x = (before : List (List ℕ)) × (xs ≡ before ++ x ∷ [])

-- ---- a mouth

-- a transmission is being given
abbrev pub Gives : Giving → Type 0
Gives g = (number : ℕ) × (g.number ≡ Some number) × (is_done g ≡ false)

not-done : (g : Giving) (sent : Sent) (left : List Sent) → g.left ≡ sent ∷ left → is_done g ≡ false
not-done g sent left is = let count = ap length is in grind (arith, nat_tests)

taken-gives : (g : Giving) (left : List Sent) → g.left ≡ left → Gives (taken g left).0 → Gives g
taken-gives g [] is gives = gives
taken-gives g (sent ∷ left) is gives = (gives.0, gives.1, not-done g sent left is)

pub take-gives : (g : Giving) → Gives (take g).0 → Gives g
take-gives g gives = taken-gives g g.left refl gives

-- a last byte is one of a transmission
last-number : (is_last : Bool) (o : Option ℕ) (number : ℕ) → (if is_last then o else None) ≡ Some number → o ≡ Some number
last-number true o number is = is
last-number false o number is = absurd cc

out-number : (g : Giving) (sent : Sent) (is_last : Bool) (out : Out) (number : ℕ) → Some (out_of g.number sent is_last) ≡ Some out → out.last_of ≡ Some number → g.number ≡ Some number
out-number g sent is_last out number is last = last-number is_last g.number number (let same : out_of g.number sent is_last ≡ out = cc in ap (λ (o : Out). o.last_of) same ∙ last)

taken-ends : (g : Giving) (left : List Sent) → g.left ≡ left → (out : Out) (number : ℕ) → (taken g left).1 ≡ Some out → out.last_of ≡ Some number → Gives g
taken-ends g [] is out number given last = absurd cc
taken-ends g (sent ∷ left) is out number given last = (number, out-number g sent _ out number given last, not-done g sent left is)

pub take-ends : (g : Giving) (out : Out) (number : ℕ) → (take g).1 ≡ Some out → out.last_of ≡ Some number → Gives g
take-ends g out number given last = taken-ends g g.left refl out number given last

-- ---- a master that was handed these messages

-- an ACK is waited for
abbrev pub awaits : Phase → Bool
awaits phase.Idle = false
awaits (phase.WaitsForAck left resent) = true
awaits (phase.WaitsAfterPoll left place) = false

-- while one of them waits for its ACK, or is being given, it is the last of them
pub record Sends {H : Type 0} (e : MasterState H) (messages : List (List ℕ)) : Type 0 where
  pub current : awaits e.phase ≡ true → IsLast messages e.sending
  pub begun : Gives e.mouth → IsLast messages e.sending

-- before anything was handed out, and with another host
pub sends-start : {H : Type 0} (setup : MasterSetup) (numbers : List ℕ) (host : H) → Sends (new_master setup numbers host) []
sends-start setup numbers host = record { current = λ waits. absurd cc; begun = λ gives. absurd (let none = gives.1 in cc) }

pub sends-host : {H : Type 0} {messages : List (List ℕ)} (e : MasterState H) (host : H) → Sends e messages → Sends (with_host e host) messages
sends-host e host s = record { current = s.current; begun = s.begun }

-- ---- an effect

-- a message is given again only in a wait for its ACK
abbrev pub OnlyThen : Bool → Effect → Type 0
OnlyThen waits (effect.Again resent) = waits ≡ true
OnlyThen waits _ = Unit {0}

unacknowledged-then : (setup : MasterSetup) (resent : ℕ) → OnlyThen true (unacknowledged setup resent)
unacknowledged-then setup resent = cond_both (nat_lt resent setup.max_resends) _ _ (OnlyThen true) (λ is. refl) (λ is. tt)

message-then : (setup : MasterSetup) (resent : ℕ) (what : Option MasterHeard) → OnlyThen true (effect_on_message setup resent what)
message-then setup resent None = tt
message-then setup resent (Some heard.Good) = tt
message-then setup resent (Some heard.Damaged) = tt
message-then setup resent (Some heard.Ack) = tt
message-then setup resent (Some heard.Nak) = unacknowledged-then setup resent
message-then setup resent (Some heard.Eot) = tt
message-then setup resent (Some (heard.Stray b)) = tt
message-then setup resent (Some (heard.StrayPair c)) = tt

verdict-then : (place : ℕ) (v : Verdict) → OnlyThen false (effect_of_verdict place v)
verdict-then place Repeated = tt
verdict-then place Accepted = tt
verdict-then place Refused = tt

answered-then : (room : List ℕ → Bool) (place : ℕ) (o : Option Station) (body : List ℕ) → OnlyThen false (answered room place o body)
answered-then room place None body = tt
answered-then room place (Some station) body = cond_both (slice_index body 1 == station.number) _ _ (OnlyThen false) (λ is. verdict-then place _) (λ is. tt)

poll-then : (good : Effect) (what : Option MasterHeard) → OnlyThen false good → OnlyThen false (effect_on_poll good what)
poll-then good None h = tt
poll-then good (Some heard.Good) h = h
poll-then good (Some heard.Damaged) h = tt
poll-then good (Some heard.Ack) h = tt
poll-then good (Some heard.Nak) h = tt
poll-then good (Some heard.Eot) h = tt
poll-then good (Some (heard.Stray b)) h = tt
poll-then good (Some (heard.StrayPair c)) h = tt

in-then : {H : Type 0} (m : Ghosts H) (e : MasterState H) (what : Option MasterHeard) (at : Phase) → OnlyThen (awaits at) (effect_in m e what at)
in-then m e what phase.Idle = tt
in-then m e what (phase.WaitsForAck left resent) = message-then e.setup resent what
in-then m e what (phase.WaitsAfterPoll left place) = poll-then _ what (answered-then (m.room_for e.host) place (slice_get e.stations place) (body_of e))

pub heard-then : {H : Type 0} (m : Ghosts H) (e : MasterState H) (what : Option MasterHeard) → OnlyThen (awaits e.phase) (effect_heard m e what)
heard-then m e what = cond_both (is_done e.mouth) _ _ (OnlyThen (awaits e.phase)) (λ is. in-then m e what e.phase) (λ is. tt)

tick-in-then : (setup : MasterSetup) (ready : Bool) (at : Phase) → OnlyThen (awaits at) (effect_of_tick setup ready at)
tick-in-then setup ready phase.Idle = cond_both ready _ _ (OnlyThen false) (λ is. tt) (λ is. tt)
tick-in-then setup ready (phase.WaitsForAck left resent) = cond_both (nat_lt 1 left) _ _ (OnlyThen true) (λ is. tt) (λ is. unacknowledged-then setup resent)
tick-in-then setup ready (phase.WaitsAfterPoll left place) = cond_both (nat_lt 1 left) _ _ (OnlyThen false) (λ is. tt) (λ is. tt)

pub tick-then : {H : Type 0} (m : Ghosts H) (e : MasterState H) → OnlyThen (awaits e.phase) (effect_at_tick m e)
tick-then m e = cond_both (is_done e.mouth) _ _ (OnlyThen (awaits e.phase)) (λ is. tick-in-then e.setup _ e.phase) (λ is. tt)

pub left-awaits : (left : ℕ) (at : Phase) → awaits (with_left left at) ≡ awaits at
left-awaits left phase.Idle = refl
left-awaits left (phase.WaitsForAck was resent) = refl
left-awaits left (phase.WaitsAfterPoll was place) = refl

polled-sends : {H : Type 0} {messages : List (List ℕ)} (e : MasterState H) (o : Option Station) → Sends e messages → Sends (polled e o) messages
polled-sends e None s = s
polled-sends e (Some station) s = record { current = λ waits. absurd cc; begun = λ gives. absurd (let none = gives.1 in cc) }

performed-sends : {H : Type 0} {messages : List (List ℕ)} (e : MasterState H) (what : Effect) → OnlyThen (awaits e.phase) what → Sends e messages → Sends (performed e what) messages
performed-sends e effect.Nothing only s = s
performed-sends e (effect.Waits left) only s = record { current = λ waits. s.current (sym (left-awaits left e.phase) ∙ waits); begun = s.begun }
performed-sends e effect.Delivered only s = record { current = λ waits. absurd cc; begun = s.begun }
performed-sends e (effect.Again resent) only s = record { current = λ waits. s.current only; begun = λ gives. s.current only }
performed-sends e effect.GivenUp only s = record { current = λ waits. absurd cc; begun = s.begun }
performed-sends e effect.PollOver only s = record { current = λ waits. absurd cc; begun = s.begun }
performed-sends e (effect.Accepted place) only s = record { current = λ waits. absurd cc; begun = λ gives. absurd (let none = gives.1 in cc) }
performed-sends e effect.Repeated only s = record { current = λ waits. absurd cc; begun = λ gives. absurd (let none = gives.1 in cc) }
performed-sends e effect.Refused only s = s
performed-sends e effect.Damaged only s = s
performed-sends e effect.Polls only s = polled-sends e (slice_get e.stations e.next) s

-- a byte and a tick
pub sends-byte : {H : Type 0} {messages : List (List ℕ)} (m : Ghosts H) (e : MasterState H) (b : ℕ) → Sends e messages → Sends (master_after_byte m e b) messages
sends-byte m e b s =
    let what = effect_of_byte m e b in
    let host = host_told m (fate_of what) (host_accepted m what e.host (body_of (with_byte e b))) in
    performed-sends (with_host (with_byte e b) host) what (heard-then m (with_byte e b) (heard_at e b)) (record { current = s.current; begun = s.begun })

pub sends-tick : {H : Type 0} {messages : List (List ℕ)} (m : Ghosts H) (e : MasterState H) → Sends e messages → Sends (master_after_tick m e) messages
sends-tick m e s =
    let what = effect_at_tick m e in
    performed-sends (with_host e (host_told m (fate_of what) (host_ticked m what e.host))) what (tick-then m e) (record { current = s.current; begun = s.begun })

-- ---- a take

handed-when : (may : Bool) (next : Option (List ℕ)) (body : List ℕ) → (if may then next else None) ≡ Some body → (may ≡ true) × (next ≡ Some body)
handed-when true next body is = (refl, is)
handed-when false next body is = absurd cc

-- what a take begins is the host's next message
pub next-of : {H : Type 0} (m : Ghosts H) (e : MasterState H) (body : List ℕ) → message_next m e ≡ Some body → m.next_body e.host ≡ Some body
next-of m e body is = (handed-when (is_done e.mouth && is_idle e.phase) (m.next_body e.host) body is).1

idle-awaits : (at : Phase) → is_idle at ≡ true → awaits at ≡ true → ⊥
idle-awaits phase.Idle idle waits = cc
idle-awaits (phase.WaitsForAck left resent) idle waits = cc
idle-awaits (phase.WaitsAfterPoll left place) idle waits = cc

begun-with : {H : Type 0} (messages : List (List ℕ)) (m : Ghosts H) (e : MasterState H) (host later : H) (body : List ℕ) (listed : Bool) → is_done e.mouth ≡ true → is_idle e.phase ≡ true
    → Sends (if listed then transmitted (record e { sending = body; host = host }) 0 else with_host e later) (messages ++ body ∷ [])
begun-with messages m e host later body true done idle = record { current = λ waits. (messages, refl); begun = λ gives. (messages, refl) }
begun-with messages m e host later body false done idle = record { current = λ waits. absurd (idle-awaits e.phase idle waits); begun = λ gives. absurd (let not = gives.2 in cc) }

begun-sends : {H : Type 0} {messages : List (List ℕ)} (m : Ghosts H) (e : MasterState H) (o : Option (List ℕ)) → message_next m e ≡ o → Sends e messages → Sends (begun_of m e o) (messages ++ option_to_list o)
begun-sends {messages = messages} m e None is s = rw (append-nil messages) s
begun-sends {messages = messages} m e (Some body) is s =
    let may = and_parts _ _ (handed-when (is_done e.mouth && is_idle e.phase) (m.next_body e.host) body is).0 in
    begun-with messages m e (m.after_next e.host) (m.after_told (m.after_next e.host) fate.Undelivered) body (is_listed e.stations (slice_index body 0)) may.0 may.1

pub sends-take : {H : Type 0} {messages : List (List ℕ)} (m : Ghosts H) (e : MasterState H) → Sends e messages → Sends (master_after_take m e) (messages ++ option_to_list (message_next m e))
sends-take m e s =
    let b = begun-sends m e (message_next m e) refl s in
    record { current = b.current; begun = λ gives. b.begun (take-gives (begun m e).mouth gives) }

-- a byte that ends a transmission ends one of the last message
pub sent-ends : {H : Type 0} {messages : List (List ℕ)} (m : Ghosts H) (e : MasterState H) (out : Out) (number : ℕ) → Sends e messages → out_at_take m e ≡ Some out → out.last_of ≡ Some number
    → IsLast (messages ++ option_to_list (message_next m e)) (master_after_take m e).sending
sent-ends m e out number s is last = (begun-sends m e (message_next m e) refl s).begun (take-ends (begun m e).mouth out number is last)
