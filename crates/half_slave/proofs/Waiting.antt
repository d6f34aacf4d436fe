-- When an ACK counts.
use Rattle.std.proofs.Common.{◌≡◌, ℕ, Bool, true, false, List, [], ◌∷◌, Option, Some, None, ap, refl}
use Rattle.std.specs.Prelude.{is_some, nat_lt, ◌&&◌, ◌↔◌, if◌then◌else◌}
use Rattle.std.specs.Option.{option_map}
use Rattle.df1_base.specs.declared.host.Host.{Ghosts}
use Rattle.df1_base.specs.declared.host.Fate.{Fate}
use Rattle.df1_base.specs.declared.host.Fate.TheVariants as fate
use Rattle.half_frame.specs.declared.heard.SlaveHeard.{SlaveHeard}
use Rattle.half_frame.specs.declared.heard.SlaveHeard.TheVariants as heard
use Rattle.pccc_envelope.specs.Accepted.{Verdict, Repeated, Accepted, Refused}
use Rattle.half_slave.specs.declared.held.Held.{Held}
use Rattle.half_slave.specs.Slave.{SlaveState, is_own, is_answered, verdict, told, received, offered, answered, polled, closes_wait, after_heard, after_sending, ends_here, fate_at, fate_at_poll, fate_at_ack, fate_at_reset, heard_at, listened, out_at_take, slave_after_byte, slave_after_heard, slave_after_take}
use Rattle.half_slave.specs.Emission.{Letter, Byte, Take, slave_after_all}
use Rattle.half_slave.specs.Wait.{since_sending, is_waiting}

-- of a message that is held the wait is open exactly where this is true
abbrev pub Waits : Bool → Option Held → Type 0
Waits open_now held = is_waiting held ≡ (is_some held && open_now)

told-waits : {H : Type 0} (m : Ghosts H) (s : SlaveState H) (what : Option Fate) (now : Bool) → Waits now s.held → Waits now (told m s what).held
told-waits m s None now waits = waits
told-waits m s (Some what) now waits = refl

received-waits : {H : Type 0} (m : Ghosts H) (s : SlaveState H) (own : Bool) (v : Verdict) (now : Bool) → Waits now s.held → Waits now (if own then received m s v else s).held
received-waits m s true Repeated now waits = waits
received-waits m s true Accepted now waits = waits
received-waits m s true Refused now waits = waits
received-waits m s false v now waits = waits

-- ---- a poll, which closes the wait

offered-waits : {H : Type 0} (m : Ghosts H) (s : SlaveState H) (next : Option (List ℕ)) → Waits false (offered m (record s { held = None }) next).held
offered-waits m s None = refl
offered-waits m s (Some body) = refl

message-waits : {H : Type 0} (m : Ghosts H) (s : SlaveState H) (message : Held) (fewer : Bool) → Waits false (Some message)
    → let after = told m (record s { held = Some message }) (if fewer then None else Some fate.Undelivered) in
    Waits false (answered m after after.held).held
message-waits m s message true waits = waits
message-waits m s message false waits = offered-waits m (record s { host = m.after_told s.host fate.Undelivered }) (m.next_body (m.after_told s.host fate.Undelivered))

poll-waits : {H : Type 0} (m : Ghosts H) (s : SlaveState H) (held : Option Held) → Waits false held → Waits false (polled m (record s { held = held })).held
poll-waits m s None waits = offered-waits m s (m.next_body s.host)
poll-waits m s (Some message) waits = message-waits m s message (nat_lt message.sent s.setup.max_sends) waits

polled-waits : {H : Type 0} (m : Ghosts H) (s : SlaveState H) (answers : Bool) → Waits false s.held → Waits false (if answers then polled m s else s).held
polled-waits m s true waits = poll-waits m s s.held waits
polled-waits m s false waits = waits

-- ---- a byte

heard-waits : {H : Type 0} (m : Ghosts H) (s : SlaveState H) (what : Option SlaveHeard) (before : Bool)
    → Waits (if closes_wait what then false else before) s.held → Waits (if closes_wait what then false else before) (slave_after_heard m s what).held
heard-waits m s None before waits = waits
heard-waits m s (Some (heard.Addressed stn)) before waits = received-waits m s (is_own s stn) (verdict m s) before waits
heard-waits m s (Some (heard.Header stn)) before waits = waits
heard-waits m s (Some (heard.Poll stn)) before waits = polled-waits m s (is_answered s stn) waits
heard-waits m s (Some heard.BadPoll) before waits = waits
heard-waits m s (Some (heard.Damaged stn)) before waits = waits
heard-waits m s (Some heard.Ack) before waits = told-waits m s (fate_at_ack s.held) before waits
heard-waits m s (Some heard.Reset) before waits = told-waits m s (fate_at_reset s.held) before waits
heard-waits m s (Some (heard.Stray b)) before waits = waits
heard-waits m s (Some (heard.StrayPair code)) before waits = waits

listened-waits : (what : Option SlaveHeard) (held : Option Held) (before : Bool) → Waits before held → Waits (if closes_wait what then false else before) (option_map (after_heard what) held)
listened-waits what None before waits = refl
listened-waits what (Some message) before waits = ap (λ (now : Bool). if closes_wait what then false else now) waits

-- ---- a take

sent-waits : (last : Bool) (held : Option Held) (before : Bool) → Waits before held → Waits (if last then true else before) (if last then option_map after_sending held else held)
sent-waits true None before waits = refl
sent-waits true (Some message) before waits = refl
sent-waits false held before waits = waits

pub signals-wait : {H : Type 0} (m : Ghosts H) (s : SlaveState H) (before : Bool) (signals : List Letter) → Waits before s.held
    → Waits (since_sending m before s signals) (slave_after_all m s signals).held
signals-wait m s before [] waits = waits
signals-wait m s before (Byte b ∷ signals) waits =
    let what = heard_at s b in
    let now : Bool = if closes_wait what then false else before in
    signals-wait m (slave_after_byte m s b) now signals (heard-waits m (listened s b) what before (listened-waits what s.held before waits))
signals-wait m s before (Take ∷ signals) waits =
    signals-wait m (slave_after_take s) (if ends_here (out_at_take s) then true else before) signals (sent-waits (ends_here (out_at_take s)) s.held before waits)

-- ---- an ACK in the wait delivers, and nothing else does

open-delivers : (is_open : Bool) → (if is_open then Some fate.Delivered else None) ≡ Some fate.Delivered → is_open ≡ true
open-delivers true is = refl
open-delivers false is = cc

-- an ACK leaves the wait as it was
ack-delivers : (held : Option Held) → (fate_at_ack (option_map (after_heard (Some heard.Ack)) held) ≡ Some fate.Delivered) ↔ (is_waiting held ≡ true)
ack-delivers None = (λ is. cc, λ is. cc)
ack-delivers (Some message) = (λ is. open-delivers message.wait_open is, λ is. rw is refl)

poll-never : (answers fewer : Bool) → (if answers then (if fewer then None else Some fate.Undelivered) else None) ≡ Some fate.Delivered → ⊥
poll-never true true is = cc
poll-never true false is = cc
poll-never false fewer is = cc

poll-fate : (answers : Bool) (most : ℕ) (held : Option Held) → (if answers then fate_at_poll most held else None) ≡ Some fate.Delivered → ⊥
poll-fate true most None is = cc
poll-fate false most None is = cc
poll-fate answers most (Some message) is = poll-never answers (nat_lt message.sent most) is

reset-fate : (held : Option Held) → fate_at_reset held ≡ Some fate.Delivered → ⊥
reset-fate None is = cc
reset-fate (Some message) is = cc

heard-delivers : {H : Type 0} (s : SlaveState H) (held : Option Held) (what : Option SlaveHeard)
    → (fate_at (record s { held = option_map (after_heard what) held }) what ≡ Some fate.Delivered) ↔ ((what ≡ Some heard.Ack) × (is_waiting held ≡ true))
heard-delivers s held None = (λ is. cc, λ both. cc)
heard-delivers s held (Some (heard.Addressed stn)) = (λ is. cc, λ both. absurd (let no = both.0 in cc))
heard-delivers s held (Some (heard.Header stn)) = (λ is. cc, λ both. absurd (let no = both.0 in cc))
heard-delivers s held (Some (heard.Poll stn)) = (λ is. absurd (poll-fate _ s.setup.max_sends (option_map (after_heard (Some (heard.Poll stn))) held) is), λ both. absurd (let no = both.0 in cc))
heard-delivers s held (Some heard.BadPoll) = (λ is. cc, λ both. absurd (let no = both.0 in cc))
heard-delivers s held (Some (heard.Damaged stn)) = (λ is. cc, λ both. absurd (let no = both.0 in cc))
heard-delivers s held (Some heard.Ack) = (λ is. (refl, (ack-delivers held).0 is), λ both. (ack-delivers held).1 both.1)
heard-delivers s held (Some heard.Reset) = (λ is. absurd (reset-fate (option_map (after_heard (Some heard.Reset)) held) is), λ both. absurd (let no = both.0 in cc))
heard-delivers s held (Some (heard.Stray b)) = (λ is. cc, λ both. absurd (let no = both.0 in cc))
heard-delivers s held (Some (heard.StrayPair code)) = (λ is. cc, λ both. absurd (let no = both.0 in cc))

pub byte-delivers : {H : Type 0} (s : SlaveState H) (b : ℕ) → (fate_at (listened s b) (heard_at s b) ≡ Some fate.Delivered) ↔ ((heard_at s b ≡ Some heard.Ack) × (is_waiting s.held ≡ true))
byte-delivers s b = heard-delivers (listened s b) s.held (heard_at s b)
