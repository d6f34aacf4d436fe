-- A fate is told once per message, after its hand-out.
use Rattle.std.proofs.Common.{◌≡◌, ℕ, Bool, true, false, List, [], ◌∷◌, ◌++◌, Option, Some, None, IsSome, ap, sym, subst, ◌∙◌, refl}
use Rattle.std.specs.Prelude.{nat_lt, if◌then◌else◌}
use Rattle.df1_base.specs.declared.host.Host.{Ghosts}
use Rattle.df1_base.specs.declared.host.Fate.{Fate}
use Rattle.df1_base.specs.declared.host.Fate.TheVariants as fate
use Rattle.df1_base.specs.declared.link.Act.{Act}
use Rattle.df1_base.specs.declared.link.Act.TheVariants as act
use Rattle.df1_base.specs.HostAnswers.{host_told}
use Rattle.duplex_sender.specs.declared.Limits.{Limits}
use Rattle.duplex_sender.specs.declared.Phase.TheVariants as phase
use Rattle.duplex_sender.specs.declared.SendTurn.TheVariants as sends
use Rattle.duplex_sender.specs.Sender.{SenderState, Activity, Idle, Sending, Waiting, phase_of, load, sent_last, on_tick, tick_turn}
use Rattle.embedded_response.specs.Giving.{begin, take, given}
use Rattle.duplex_end.specs.End.{EndState, Place, OfMouth, FrameAgain, FrameOfNew, next_place, taken, sender_after, fate_at, ends_here, act_of_byte, host_after, host_at_byte, fate_of_tick, host_at_tick}
use Rattle.duplex_end.specs.Emission.{Letter, Byte, Tick, Take, end_after, end_after_all}
use Rattle.duplex_end.specs.Fates.{Event, HandedOut, Told, told, handed_out, events_at, events, InTurn, ends, hands_out, tells, has_message}
use Rattle.duplex_end.proofs.Order.{new-next}

-- what is told of the message that the sender has: it has none then
abbrev left_with : Option Fate → Bool → Bool
left_with None has = has
left_with (Some fate) has = false

-- ---- the sender's message, and its fate

nak-leaves : (again : Bool) (limits : Limits) (body : List ℕ) (naks enqs : ℕ)
    → has_message (record { limits = limits; activity = if again then Sending body naks enqs else Idle }) ≡ left_with (if again then None else Some fate.Undelivered) true
nak-leaves true limits body naks enqs = refl
nak-leaves false limits body naks enqs = refl

heard-leaves : (a : Act) (limits : Limits) (at : Activity) → let s : SenderState = record { limits = limits; activity = at } in has_message (sender_after a s) ≡ left_with (fate_at a s) (has_message s)
heard-leaves act.PeerAck limits Idle = refl
heard-leaves act.PeerAck limits (Sending body naks enqs) = refl
heard-leaves act.PeerAck limits (Waiting body naks enqs left) = refl
heard-leaves act.PeerNak limits Idle = refl
heard-leaves act.PeerNak limits (Sending body naks enqs) = refl
heard-leaves act.PeerNak limits (Waiting body naks enqs left) = nak-leaves (nat_lt naks limits.max_naks) limits body _ enqs
heard-leaves act.Accept limits at = refl
heard-leaves act.Repeat limits at = refl
heard-leaves act.Refuse limits at = refl
heard-leaves act.Damaged limits at = refl
heard-leaves act.Forgot limits at = refl
heard-leaves act.PeerEnq limits at = refl
heard-leaves act.Nothing limits at = refl

last-leaves : (again : Bool) (limits : Limits) (asked : Activity) → has_message (record { limits = limits; activity = asked }) ≡ true
    → has_message (record { limits = limits; activity = if again then asked else Idle }) ≡ left_with (fate_of_tick (if again then sends.Ask else sends.Failed)) true
last-leaves true limits asked has = has
last-leaves false limits asked has = refl

wait-leaves : (still again : Bool) (limits : Limits) (waits asked : Activity) → has_message (record { limits = limits; activity = waits }) ≡ true → has_message (record { limits = limits; activity = asked }) ≡ true
    → has_message (record { limits = limits; activity = if still then waits else (if again then asked else Idle) }) ≡ left_with (fate_of_tick (if still then sends.Still else (if again then sends.Ask else sends.Failed))) true
wait-leaves true again limits waits asked stays has = stays
wait-leaves false again limits waits asked stays has = last-leaves again limits asked has

tick-leaves : (limits : Limits) (at : Activity) → let s : SenderState = record { limits = limits; activity = at } in has_message (on_tick s) ≡ left_with (fate_of_tick (tick_turn s)) (has_message s)
tick-leaves limits Idle = refl
tick-leaves limits (Sending body naks enqs) = refl
tick-leaves limits (Waiting body naks enqs left) = wait-leaves (nat_lt 1 left) (nat_lt enqs limits.max_enqs) limits _ _ refl refl

-- a fate is decided only of a message that the sender has
nak-had : (again : Bool) (what : Fate) → (if again then None else Some fate.Undelivered) ≡ Some what → true ≡ true
nak-had again what is = refl

heard-had : (a : Act) (limits : Limits) (at : Activity) (what : Fate) → let s : SenderState = record { limits = limits; activity = at } in fate_at a s ≡ Some what → has_message s ≡ true
heard-had act.PeerAck limits Idle what is = cc
heard-had act.PeerAck limits (Sending body naks enqs) what is = refl
heard-had act.PeerAck limits (Waiting body naks enqs left) what is = refl
heard-had act.PeerNak limits Idle what is = cc
heard-had act.PeerNak limits (Sending body naks enqs) what is = refl
heard-had act.PeerNak limits (Waiting body naks enqs left) what is = refl
heard-had act.Accept limits at what is = cc
heard-had act.Repeat limits at what is = cc
heard-had act.Refuse limits at what is = cc
heard-had act.Damaged limits at what is = cc
heard-had act.Forgot limits at what is = cc
heard-had act.PeerEnq limits at what is = cc
heard-had act.Nothing limits at what is = cc

tick-had : (limits : Limits) (at : Activity) (what : Fate) → let s : SenderState = record { limits = limits; activity = at } in fate_of_tick (tick_turn s) ≡ Some what → has_message s ≡ true
tick-had limits Idle what is = cc
tick-had limits (Sending body naks enqs) what is = cc
tick-had limits (Waiting body naks enqs left) what is = refl

-- ---- in turn

told-turn : (what : Option Fate) (had has : Bool) (later : List Event) → ((x : Fate) → what ≡ Some x → had ≡ true) → has ≡ left_with what had → InTurn has later → InTurn had (told what ++ later)
told-turn None had has later only is turn = subst (λ (b : Bool). InTurn b later) is turn
told-turn (Some x) had has later only is turn =
    let after : InTurn false later = subst (λ (b : Bool). InTurn b later) is turn in
    subst (λ (b : Bool). InTurn b (Told x ∷ later)) (sym (only x refl)) (tells x later after)

sent-message : (limits : Limits) (at : Activity) → has_message (sent_last (record { limits = limits; activity = at })) ≡ has_message (record { limits = limits; activity = at })
sent-message limits Idle = refl
sent-message limits (Sending body naks enqs) = refl
sent-message limits (Waiting body naks enqs left) = refl

out-message : (last : Bool) (s : SenderState) → has_message (if last then sent_last s else s) ≡ has_message s
out-message true s = sent-message s.limits s.activity
out-message false s = refl

idle-none : (limits : Limits) (at : Activity) → phase_of (record { limits = limits; activity = at }) ≡ phase.Idle → has_message (record { limits = limits; activity = at }) ≡ false
idle-none limits Idle is = refl
idle-none limits (Sending body naks enqs) is = cc
idle-none limits (Waiting body naks enqs left) is = cc

take-turn : {H : Type 0} (m : Ghosts H) (e : EndState H) (p : Option Place) (later : List Event) → next_place m e ≡ p → InTurn (has_message (taken m e p).0.sender) later → InTurn (has_message e.sender) (handed_out p ++ later)
take-turn m e None later is turn = turn
take-turn m e (Some (OfMouth choice)) later is turn = subst (λ (b : Bool). InTurn b later) (out-message (ends_here (given e.mouth (Some choice)).1) e.sender) turn
take-turn m e (Some (FrameAgain body)) later is turn = subst (λ (b : Bool). InTurn b later) (out-message (ends_here (take (begin e.mouth body)).1) e.sender) turn
take-turn m e (Some (FrameOfNew body)) later is turn =
    let has : InTurn true later = subst (λ (b : Bool). InTurn b later) (out-message (ends_here (take (begin e.mouth body)).1) (load e.sender body)) turn in
    let none : has_message e.sender ≡ false = idle-none e.sender.limits e.sender.activity (new-next m e body is).0 in
    subst (λ (b : Bool). InTurn b (HandedOut body ∷ later)) (sym none) (hands_out body later has)

signal-turn : {H : Type 0} (m : Ghosts H) (e : EndState H) (signal : Letter) (later : List Event) → InTurn (has_message (end_after m e signal).sender) later → InTurn (has_message e.sender) (events_at m e signal ++ later)
signal-turn m e (Byte b) later turn =
    told-turn (fate_at (act_of_byte m e b) e.sender) (has_message e.sender) (has_message (sender_after (act_of_byte m e b) e.sender)) later
    (λ what is. heard-had (act_of_byte m e b) e.sender.limits e.sender.activity what is) (heard-leaves (act_of_byte m e b) e.sender.limits e.sender.activity) turn
signal-turn m e Tick later turn =
    told-turn (fate_of_tick (tick_turn e.sender)) (has_message e.sender) (has_message (on_tick e.sender)) later
    (λ what is. tick-had e.sender.limits e.sender.activity what is) (tick-leaves e.sender.limits e.sender.activity) turn
signal-turn m e Take later turn = take-turn m e (next_place m e) later refl turn

pub in-turn : {H : Type 0} (m : Ghosts H) (e : EndState H) (signals : List Letter) → InTurn (has_message e.sender) (events m e signals)
in-turn m e [] = ends (has_message e.sender)
in-turn m e (signal ∷ signals) = signal-turn m e signal (events m (end_after m e signal) signals) (in-turn m (end_after m e signal) signals)

-- ---- the host agrees

-- the laws of a host's fates
pub record TellsFates {H : Type 0} (m : Ghosts H) : Type 0 where
  pub at_next : (h : H) → IsSome (m.next_body h) → m.is_out (m.after_next h) ≡ true
  pub at_told : (h : H) (fate : Fate) → m.is_out (m.after_told h fate) ≡ false
  pub at_accept : (h : H) (body : List ℕ) → m.is_out (m.after_accept h body) ≡ m.is_out h
  pub at_tick : (h : H) → m.is_out (m.after_tick h) ≡ m.is_out h

host-told : {H : Type 0} (m : Ghosts H) (laws : TellsFates m) (what : Option Fate) (h : H) → m.is_out (host_told m what h) ≡ left_with what (m.is_out h)
host-told m laws None h = refl
host-told m laws (Some what) h = laws.at_told h what

host-accepts : {H : Type 0} (m : Ghosts H) (laws : TellsFates m) (a : Act) (h : H) (body : List ℕ) → m.is_out (host_after m a h body) ≡ m.is_out h
host-accepts m laws act.Accept h body = laws.at_accept h body
host-accepts m laws act.Repeat h body = refl
host-accepts m laws act.Refuse h body = refl
host-accepts m laws act.Damaged h body = refl
host-accepts m laws act.Forgot h body = refl
host-accepts m laws act.PeerAck h body = refl
host-accepts m laws act.PeerNak h body = refl
host-accepts m laws act.PeerEnq h body = refl
host-accepts m laws act.Nothing h body = refl

take-agrees : {H : Type 0} (m : Ghosts H) (laws : TellsFates m) (e : EndState H) (p : Option Place) → next_place m e ≡ p → m.is_out e.host ≡ has_message e.sender
    → m.is_out (taken m e p).0.host ≡ has_message (taken m e p).0.sender
take-agrees m laws e None is agrees = agrees
take-agrees m laws e (Some (OfMouth choice)) is agrees = agrees ∙ sym (out-message (ends_here (given e.mouth (Some choice)).1) e.sender)
take-agrees m laws e (Some (FrameAgain body)) is agrees = agrees ∙ sym (out-message (ends_here (take (begin e.mouth body)).1) e.sender)
take-agrees m laws e (Some (FrameOfNew body)) is agrees =
    laws.at_next e.host (subst (λ (o : Option (List ℕ)). IsSome o) (sym (new-next m e body is).1) refl) ∙ sym (out-message (ends_here (take (begin e.mouth body)).1) (load e.sender body))

signal-agrees : {H : Type 0} (m : Ghosts H) (laws : TellsFates m) (e : EndState H) (signal : Letter) → m.is_out e.host ≡ has_message e.sender → m.is_out (end_after m e signal).host ≡ has_message (end_after m e signal).sender
signal-agrees m laws e (Byte b) agrees =
    let a = act_of_byte m e b in
    host-told m laws (fate_at a e.sender) (host_at_byte m e b)
    ∙ ap (left_with (fate_at a e.sender)) (host-accepts m laws a e.host _ ∙ agrees)
    ∙ sym (heard-leaves a e.sender.limits e.sender.activity)
signal-agrees m laws e Tick agrees =
    laws.at_tick (host_at_tick m e)
    ∙ host-told m laws (fate_of_tick (tick_turn e.sender)) e.host
    ∙ ap (left_with (fate_of_tick (tick_turn e.sender))) agrees
    ∙ sym (tick-leaves e.sender.limits e.sender.activity)
signal-agrees m laws e Take agrees = take-agrees m laws e (next_place m e) refl agrees

pub signals-agree : {H : Type 0} (m : Ghosts H) (laws : TellsFates m) (e : EndState H) (signals : List Letter) → m.is_out e.host ≡ has_message e.sender
    → m.is_out (end_after_all m e signals).host ≡ has_message (end_after_all m e signals).sender
signals-agree m laws e [] agrees = agrees
signals-agree m laws e (signal ∷ signals) agrees = signals-agree m laws (end_after m e signal) signals (signal-agrees m laws e signal agrees)
