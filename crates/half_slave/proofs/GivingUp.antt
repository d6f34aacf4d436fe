-- When a message is given up.
use Rattle.std.proofs.Common.{◌≡◌, ℕ, ◌≤◌, Bool, true, false, nat_lt, Option, Some, None, IsSome, refl, arith}
use Rattle.std.proofs.lemmas.Bool.Decides.{nat_tests}
use Rattle.std.specs.Prelude.{◌↔◌, if◌then◌else◌}
use Rattle.std.specs.Option.{option_map}
use Rattle.df1_base.specs.declared.host.Fate.TheVariants as fate
use Rattle.half_frame.specs.declared.heard.SlaveHeard.{SlaveHeard}
use Rattle.half_frame.specs.declared.heard.SlaveHeard.TheVariants as heard
use Rattle.half_slave.specs.declared.held.Held.{Held}
use Rattle.half_slave.specs.Slave.{SlaveState, is_answered, after_heard, fate_at, fate_at_poll, fate_at_ack, fate_at_reset, heard_at, listened}
use Rattle.half_slave.specs.Fates.{WasSent, IsGivenUp}

-- at a poll that is answered, of a message that was sent so often
message-given_up : (most : ℕ) (message : Held) (fewer : Bool) → nat_lt message.sent most ≡ fewer
    → ((if fewer then None else Some fate.Undelivered) ≡ Some fate.Undelivered) ↔ ((true ≡ true) × (most ≤ message.sent))
message-given_up most message true few = (λ is. cc, λ often. absurd (let enough = often.1 in grind (arith, nat_tests)))
message-given_up most message false few = (λ is. (refl, grind (arith, nat_tests)), λ often. refl)

poll-given_up : (answers : Bool) (most : ℕ) (what : Option SlaveHeard) (held : Option Held)
    → ((if answers then fate_at_poll most (option_map (after_heard what) held) else None) ≡ Some fate.Undelivered) ↔ ((answers ≡ true) × WasSent most held)
poll-given_up true most what None = (λ is. cc, λ often. absurd often.1)
poll-given_up true most what (Some message) = message-given_up most message (nat_lt message.sent most) refl
poll-given_up false most what held = (λ is. cc, λ often. absurd (let no = often.0 in cc))

reset-given_up : (what : Option SlaveHeard) (held : Option Held) → (fate_at_reset (option_map (after_heard what) held) ≡ Some fate.Undelivered) ↔ IsSome held
reset-given_up what None = (λ is. cc, λ some. absurd cc)
reset-given_up what (Some message) = (λ is. refl, λ some. refl)

-- an ACK gives up nothing
ack-never : (is_open : Bool) → (if is_open then Some fate.Delivered else None) ≡ Some fate.Undelivered → ⊥
ack-never true is = cc
ack-never false is = cc

ack-given_up : (what : Option SlaveHeard) (held : Option Held) → fate_at_ack (option_map (after_heard what) held) ≡ Some fate.Undelivered → ⊥
ack-given_up what None is = cc
ack-given_up what (Some message) is = ack-never _ is

heard-given_up : {H : Type 0} (s : SlaveState H) (held : Option Held) (what : Option SlaveHeard)
    → (fate_at (record s { held = option_map (after_heard what) held }) what ≡ Some fate.Undelivered) ↔ IsGivenUp (record s { held = held }) what
heard-given_up s held None = (λ is. cc, λ never. absurd never)
heard-given_up s held (Some (heard.Addressed stn)) = (λ is. cc, λ never. absurd never)
heard-given_up s held (Some (heard.Header stn)) = (λ is. cc, λ never. absurd never)
heard-given_up s held (Some (heard.Poll stn)) = poll-given_up (is_answered s stn) s.setup.max_sends (Some (heard.Poll stn)) held
heard-given_up s held (Some heard.BadPoll) = (λ is. cc, λ never. absurd never)
heard-given_up s held (Some (heard.Damaged stn)) = (λ is. cc, λ never. absurd never)
heard-given_up s held (Some heard.Ack) = (ack-given_up (Some heard.Ack) held, λ never. absurd never)
heard-given_up s held (Some heard.Reset) = reset-given_up (Some heard.Reset) held
heard-given_up s held (Some (heard.Stray b)) = (λ is. cc, λ never. absurd never)
heard-given_up s held (Some (heard.StrayPair code)) = (λ is. cc, λ never. absurd never)

pub byte-gives-up : {H : Type 0} (s : SlaveState H) (b : ℕ) → (fate_at (listened s b) (heard_at s b) ≡ Some fate.Undelivered) ↔ IsGivenUp s (heard_at s b)
byte-gives-up s b = heard-given_up s s.held (heard_at s b)
