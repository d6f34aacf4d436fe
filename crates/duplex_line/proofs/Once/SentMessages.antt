-- Which messages an end has handed out to its sender, and that what it transmits is the last of them.
use Rattle.std.proofs.Common.{◌≡◌, ℕ, Bool, true, false, List, [], ◌∷◌, ◌++◌, length, drop, Option, Some, None, is_none, refl, sym, ap, ◌∙◌, subst, arith, append-nil}
use Rattle.std.proofs.lemmas.Bool.Decides.{nat_tests}
use Rattle.std.specs.Prelude.{IsTrue, not, ◌&&◌, ◌==◌, nat_lt, option_to_list, if◌then◌else◌}
use Rattle.std.specs.Option.{option_map_or}
use Rattle.df1_base.specs.declared.host.Host.{Ghosts}
use Rattle.df1_base.specs.declared.link.Act.{Act}
use Rattle.df1_base.specs.declared.link.Act.TheVariants as act
use Rattle.df1_base.specs.declared.link.Out.{Out}
use Rattle.df1_frame.specs.declared.framer.Unit.{Unit as Given}
use Rattle.df1_frame.specs.declared.heard.Heard.{Heard}
use Rattle.df1_frame.specs.declared.heard.Heard.TheVariants as heard
use Rattle.pccc_envelope.specs.declared.key.Key.{Key}
use Rattle.pccc_envelope.specs.Envelope.{key_of}
use Rattle.pccc_envelope.specs.Accepted.{Repeated, Accepted, Refused, is_kept}
use Rattle.duplex_sender.specs.declared.Limits.{Limits}
use Rattle.duplex_sender.specs.declared.Phase.{Phase}
use Rattle.duplex_sender.specs.declared.Phase.TheVariants as phase
use Rattle.duplex_sender.specs.declared.SendTurn.{SendTurn}
use Rattle.duplex_sender.specs.declared.SendTurn.TheVariants as turn
use Rattle.duplex_sender.specs.Sender.{SenderState, Activity, Idle, Sending, Waiting, phase_of, body_of, load, sent_last, on_ack, on_nak, on_tick, tick_turn}
use Rattle.duplex_receiver.specs.Receiver.{Hearing, Response, Offers, Forgets, Again, Silent, response_for, verdict_act, act_of, is_good, kept_at}
use Rattle.embedded_response.specs.Giving.{Giving, Choice, Second, Respond, Give, Enquire, offer, forget, answer_enq, unask, is_begun, given, chosen, take}
use Rattle.duplex_end.specs.declared.Setup.{Setup}
use Rattle.duplex_end.specs.End.{EndState, new_end, with_host, sender_after, responded, asked, is_waiting, ends_here, act_of_byte, end_after_byte, end_after_tick, begun_at, begun_next, prepared, given_next, end_after_take, out_at_take}
use Rattle.duplex_end.specs.Joined.{Joined}
use Rattle.duplex_end.specs.Emission.{Byte, Tick, Take}
use Rattle.duplex_end.proofs.Choices.{Chosen, is-chosen}
use Rattle.duplex_end.proofs.Joining.{begin-joined}
use Rattle.duplex_end.proofs.Order.{end-is, out-is}
use Rattle.duplex_end.proofs.Runs.{new-joined, signal-joined}

-- the last element of a list
abbrev pub IsLast : {A : Type 0} → List A → A → Type 0
IsLast {A} xs x = (before : List A) × (xs ≡ before ++ x ∷ [])

-- an end that handed out these messages: its sender's is the last of them, and a frame that is begun is the sender's
pub record Sends {H : Type 0} (e : EndState H) (messages : List (List ℕ)) : Type 0 where
  pub joined : Joined e.mouth e.sender
  pub current : (phase_of e.sender ≡ phase.Idle → ⊥) → IsLast messages (body_of e.sender)
  pub begun : is_begun e.mouth ≡ true → e.sending ≡ body_of e.sender

-- the message that is handed out in this phase
abbrev pub handed_in : Phase → Option (List ℕ) → Option (List ℕ)
handed_in phase.Idle next = next
handed_in phase.Sending next = None
handed_in phase.Waiting next = None

-- the message that is handed out at a take
abbrev pub handed_at : {H : Type 0} → Ghosts H → EndState H → Option (List ℕ)
handed_at m e = if is_none (chosen e.mouth) then handed_in (phase_of e.sender) (m.next_body e.host) else None

-- ---- what keeps a sender's message

-- a sender that has a message afterwards had it before
abbrev Keeps : SenderState → SenderState → Type 0
Keeps s after = (phase_of after ≡ phase.Idle → ⊥) → (phase_of s ≡ phase.Idle → ⊥) × (body_of after ≡ body_of s)

-- one of two activities follows
keeps-if : (s : SenderState) (limits : Limits) (test : Bool) (a b : Activity) → Keeps s (record { limits = limits; activity = a }) → Keeps s (record { limits = limits; activity = b })
    → Keeps s (record { limits = limits; activity = if test then a else b })
keeps-if s limits true a b h k = h
keeps-if s limits false a b h k = k

-- ACK, NAK, a tick and a frame's last byte keep the message or end it
ack-keeps : (limits : Limits) (a : Activity) → Keeps (record { limits = limits; activity = a }) (on_ack (record { limits = limits; activity = a }))
ack-keeps limits Idle = λ some. (some, refl)
ack-keeps limits (Sending body naks enqs) = λ some. (some, refl)
ack-keeps limits (Waiting body naks enqs left) = λ some. absurd (some refl)

nak-keeps : (limits : Limits) (a : Activity) → Keeps (record { limits = limits; activity = a }) (on_nak (record { limits = limits; activity = a }))
nak-keeps limits Idle = λ some. (some, refl)
nak-keeps limits (Sending body naks enqs) = λ some. (some, refl)
nak-keeps limits (Waiting body naks enqs left) =
    keeps-if (record { limits = limits; activity = Waiting body naks enqs left }) limits (nat_lt naks limits.max_naks) (Sending body _ enqs) Idle (λ some. (λ is. cc, refl)) (λ some. absurd (some refl))

tick-keeps : (limits : Limits) (a : Activity) → Keeps (record { limits = limits; activity = a }) (on_tick (record { limits = limits; activity = a }))
tick-keeps limits Idle = λ some. (some, refl)
tick-keeps limits (Sending body naks enqs) = λ some. (some, refl)
tick-keeps limits (Waiting body naks enqs left) =
    let s : SenderState = record { limits = limits; activity = Waiting body naks enqs left } in
    keeps-if s limits (nat_lt 1 left) (Waiting body naks enqs _) _ (λ some. (some, refl))
    (keeps-if s limits (nat_lt enqs limits.max_enqs) (Waiting body naks _ limits.ack_ticks) Idle (λ some. (some, refl)) (λ some. absurd (some refl)))

sent-keeps : (limits : Limits) (a : Activity) → Keeps (record { limits = limits; activity = a }) (sent_last (record { limits = limits; activity = a }))
sent-keeps limits Idle = λ some. (some, refl)
sent-keeps limits (Sending body naks enqs) = λ some. (λ is. cc, refl)
sent-keeps limits (Waiting body naks enqs left) = λ some. (some, refl)

heard-keeps : (what : Act) (s : SenderState) → Keeps s (sender_after what s)
heard-keeps act.PeerAck s = ack-keeps s.limits s.activity
heard-keeps act.PeerNak s = nak-keeps s.limits s.activity
heard-keeps _ s = λ some. (some, refl)

given-keeps : (ends : Bool) (s : SenderState) → Keeps s (if ends then sent_last s else s)
given-keeps true s = sent-keeps s.limits s.activity
given-keeps false s = λ some. (some, refl)

-- ---- a frame that is begun was begun before

-- what is put in and what is given begin no frame
pub dropped-begun : (leaves : Bool) (g : Giving) → is_begun (if leaves then unask g else g) ≡ true → is_begun g ≡ true
dropped-begun true g is = is
dropped-begun false g is = is

pub responded-begun : (r : Response) (g : Giving) → is_begun (elim r [ Offers resp ↦ offer g resp | Forgets ↦ forget g | Again ↦ answer_enq g | Silent ↦ g ]) ≡ true → is_begun g ≡ true
responded-begun (Offers resp) g is = is
responded-begun Forgets g is = is
responded-begun Again g is = is
responded-begun Silent g is = is

pub asked-begun : (what : SendTurn) (g : Giving) → is_begun (asked what g) ≡ true → is_begun g ≡ true
asked-begun turn.Still g is = is
asked-begun turn.Ask g is = is
asked-begun turn.Failed g is = is

cons-begun : (unit : Given) (rest : List Given) → not (length (unit ∷ rest) == 0) ≡ true
cons-begun unit rest = grind (arith, nat_tests)

left-begun : (left : List Given) → not (length (drop 1 left) == 0) ≡ true → not (length left == 0) ≡ true
left-begun [] is = is
left-begun (unit ∷ rest) is = cons-begun unit rest

pub given-begun : (g : Giving) (c : Option Choice) → is_begun (given g c).0 ≡ true → is_begun g ≡ true
given-begun g None is = is
given-begun g (Some (Second out)) is = is
given-begun g (Some (Respond r)) is = is
given-begun g (Some (Give unit)) is = left-begun g.left is
given-begun g (Some Enquire) is = is

-- ---- an end that goes on, with the same messages

-- an end whose sender keeps its message, and that begins no frame
sends-moved : {H : Type 0} {messages : List (List ℕ)} (e after : EndState H) → Joined after.mouth after.sender → after.sending ≡ e.sending → (is_begun after.mouth ≡ true → is_begun e.mouth ≡ true)
    → Keeps e.sender after.sender → Sends e messages → Sends after messages
sends-moved {messages = messages} e after joined sending begun keeps s = record {
  joined = joined;
  current = λ some. subst (IsLast messages) (sym (keeps some).1) (s.current (keeps some).0);
  begun = λ is. let busy : phase_of after.sender ≡ phase.Idle → ⊥ = λ idle. let sends = joined.sends is in cc in sending ∙ s.begun (begun is) ∙ sym (keeps busy).1;
}

-- a new end, another host, a byte and a tick
pub sends-start : {H : Type 0} (setup : Setup) (host : H) → Sends (new_end setup host) []
sends-start setup host = record { joined = new-joined setup host; current = λ some. absurd (some refl); begun = λ is. absurd cc }

pub sends-host : {H : Type 0} {messages : List (List ℕ)} (e : EndState H) (host : H) → Sends e messages → Sends (with_host e host) messages
sends-host e host s = record { joined = s.joined; current = s.current; begun = s.begun }

pub sends-byte : {H : Type 0} {messages : List (List ℕ)} (m : Ghosts H) (e : EndState H) (b : ℕ) → Sends e messages → Sends (end_after_byte m e b) messages
sends-byte m e b s =
    let what = act_of_byte m e b in
    let leaves = is_waiting (phase_of e.sender) && not (is_waiting (phase_of (sender_after what e.sender))) in
    sends-moved e (end_after_byte m e b) (signal-joined m e (Byte b) s.joined) refl
    (λ is. responded-begun (response_for what) e.mouth (dropped-begun leaves (responded what e.mouth) is)) (heard-keeps what e.sender) s

pub sends-tick : {H : Type 0} {messages : List (List ℕ)} (m : Ghosts H) (e : EndState H) → Sends e messages → Sends (end_after_tick m e) messages
sends-tick m e s =
    let leaves = is_waiting (phase_of e.sender) && not (is_waiting (phase_of (on_tick e.sender))) in
    sends-moved e (end_after_tick m e) (signal-joined m e Tick s.joined) refl
    (λ is. asked-begun (tick_turn e.sender) e.mouth (dropped-begun leaves (asked (tick_turn e.sender) e.mouth) is)) (tick-keeps e.sender.limits e.sender.activity) s

-- ---- a take: a message may be handed out, and a frame begun

-- what is handed out is loaded, and its frame is begun
begun-sends : {H : Type 0} {messages : List (List ℕ)} (m : Ghosts H) (e : EndState H) (p : Phase) (next : Option (List ℕ)) → phase_of e.sender ≡ p → Sends e messages
    → Sends (begun_at m e p next) (messages ++ option_to_list (handed_in p next))
begun-sends {messages = messages} m e phase.Idle None is s = rw (append-nil messages) s
begun-sends {messages = messages} m e phase.Idle (Some body) is s = record { joined = begin-joined e.mouth e.sender (load e.sender body) body s.joined refl; current = λ some. (messages, refl); begun = λ begun. refl }
begun-sends {messages = messages} m e phase.Sending next is s =
    rw (append-nil messages) (record { joined = begin-joined e.mouth e.sender e.sender (body_of e.sender) s.joined is; current = s.current; begun = λ begun. refl })
begun-sends {messages = messages} m e phase.Waiting next is s = rw (append-nil messages) s

pub prepared-sends : {H : Type 0} {messages : List (List ℕ)} (m : Ghosts H) (e : EndState H) (idle : Bool) → Sends e messages
    → Sends (if idle then begun_next m e else e) (messages ++ option_to_list (if idle then handed_in (phase_of e.sender) (m.next_body e.host) else None))
prepared-sends m e true s = begun-sends m e (phase_of e.sender) (m.next_body e.host) refl s
prepared-sends {messages = messages} m e false s = rw (append-nil messages) s

pub sends-take : {H : Type 0} {messages : List (List ℕ)} (m : Ghosts H) (e : EndState H) → Sends e messages → Sends (end_after_take m e) (messages ++ option_to_list (handed_at m e))
sends-take {H} {messages} m e s =
    let p = prepared m e in
    let joined = subst (λ (x : EndState H). Joined x.mouth x.sender) (end-is m e) (signal-joined m e Take s.joined) in
    subst (λ (x : EndState H). Sends x (messages ++ option_to_list (handed_at m e))) (sym (end-is m e))
    (sends-moved p (given_next p) joined refl (given-begun p.mouth (chosen p.mouth)) (given-keeps (ends_here (take p.mouth).1) p.sender)
    (prepared-sends m e (is_none (chosen e.mouth)) s))

-- the host after a take
begun-host : {H : Type 0} (m : Ghosts H) (e : EndState H) (p : Phase) (next : Option (List ℕ)) → (begun_at m e p next).host ≡ option_map_or (λ _. m.after_next e.host) (handed_in p next) e.host
begun-host m e phase.Idle None = refl
begun-host m e phase.Idle (Some body) = refl
begun-host m e phase.Sending next = refl
begun-host m e phase.Waiting next = refl

prepared-host : {H : Type 0} (m : Ghosts H) (e : EndState H) (idle : Bool)
    → (if idle then begun_next m e else e).host ≡ option_map_or (λ _. m.after_next e.host) (if idle then handed_in (phase_of e.sender) (m.next_body e.host) else None) e.host
prepared-host m e true = begun-host m e (phase_of e.sender) (m.next_body e.host)
prepared-host m e false = refl

pub take-host : {H : Type 0} (m : Ghosts H) (e : EndState H) → (end_after_take m e).host ≡ option_map_or (λ _. m.after_next e.host) (handed_at m e) e.host
take-host {H} m e = ap (λ (x : EndState H). x.host) (end-is m e) ∙ prepared-host m e (is_none (chosen e.mouth))

-- what is handed out is the host's next message
handed-next : (idle : Bool) (p : Phase) (next : Option (List ℕ)) (body : List ℕ) → (if idle then handed_in p next else None) ≡ Some body → next ≡ Some body
handed-next true phase.Idle next body is = is
handed-next true phase.Sending next body is = absurd cc
handed-next true phase.Waiting next body is = absurd cc
handed-next false p next body is = absurd cc

pub take-handed : {H : Type 0} (m : Ghosts H) (e : EndState H) (body : List ℕ) → handed_at m e ≡ Some body → m.next_body e.host ≡ Some body
take-handed m e body is = handed-next (is_none (chosen e.mouth)) (phase_of e.sender) (m.next_body e.host) body is

-- a byte that ends a transmission is one of a frame that is begun
pub ends-begun : (g : Giving) (s : SenderState) (c : Option Choice) → Joined g s → Chosen g.second g.waiting g.left g.asking c → IsTrue (ends_here (given g c).1) → is_begun g ≡ true
ends-begun g s None j h ends = absurd cc
ends-begun g s (Some (Second out)) j h ends = let plain = j.second_is_plain out h in let no : false ≡ true = rw plain at ends in absurd cc
ends-begun g s (Some (Respond r)) j h ends = absurd cc
ends-begun g s (Some (Give unit)) j h ends = rw h.1.1 (cons-begun unit h.1.0)
ends-begun g s (Some Enquire) j h ends = absurd cc

begun-last : {H : Type 0} {messages : List (List ℕ)} (e : EndState H) → Sends e messages → is_begun e.mouth ≡ true → IsLast messages e.sending
begun-last {messages = messages} e s is = subst (IsLast messages) (sym (s.begun is)) (s.current (λ idle. let sends = s.joined.sends is in cc))

pub take-ends : {H : Type 0} {messages : List (List ℕ)} (m : Ghosts H) (e : EndState H) (out : Out) (number : ℕ) → Sends e messages → out_at_take m e ≡ Some out → out.last_of ≡ Some number
    → IsLast (messages ++ option_to_list (handed_at m e)) (end_after_take m e).sending
take-ends {H} {messages} m e out number s is last =
    let p = prepared m e in
    let after = prepared-sends m e (is_none (chosen e.mouth)) s in
    let given : (take p.mouth).1 ≡ Some out = sym (out-is m e) ∙ is in
    subst (λ (x : EndState H). IsLast (messages ++ option_to_list (handed_at m e)) x.sending) (sym (end-is m e))
    (begun-last p after (ends-begun p.mouth p.sender (chosen p.mouth) after.joined (is-chosen p.mouth) (rw (given, last) refl)))

-- ---- what a byte does to the receiver

-- an accepted message was heard whole, and isn't the kept one
verdict-accept : (kept room : Bool) → verdict_act (if kept then Repeated else (if room then Accepted else Refused)) ≡ act.Accept → kept ≡ false
verdict-accept true room is = absurd cc
verdict-accept false room is = refl

heard-accept : (kept : Option Key) (what : Option Heard) (body : List ℕ) (room : Bool) → act_of kept (record { heard = what; body = body; has_room = room }) ≡ act.Accept
    → (is_good what ≡ true) × (is_kept kept (key_of body) ≡ false)
heard-accept kept None body room is = absurd cc
heard-accept kept (Some heard.Good) body room is = (refl, verdict-accept (is_kept kept (key_of body)) room is)
heard-accept kept (Some _) body room is = absurd cc

pub accept-heard : (kept : Option Key) (h : Hearing) → act_of kept h ≡ act.Accept → (is_good h.heard ≡ true) × (is_kept kept (key_of h.body) ≡ false)
accept-heard kept h is = heard-accept kept h.heard h.body h.has_room is

-- the kept key changes only where a message is accepted
pub kept-other : (kept : Option Key) (body : List ℕ) (what : Act) → (what ≡ act.Accept → ⊥) → kept_at kept body what ≡ kept
kept-other kept body act.Accept other = absurd (other refl)
kept-other kept body _ other = refl
