-- An end of a full-duplex link over any host: what a byte, a tick and a take do to it. A host's meaning is the record of its ghost members.
use Rattle.std.specs.Prelude.{ℕ, Bool, true, false, List, [], ◌∷◌, ◌++◌, map, Option, Some, None, is_some, is_none, not, ◌&&◌, if◌then◌else◌}
use Rattle.std.specs.Option.{option_map}
use Rattle.df1_base.specs.declared.host.Host.{Ghosts}
use Rattle.df1_base.specs.declared.host.Fate.{Fate}
use Rattle.df1_base.specs.declared.host.Fate.TheVariants as fate
use Rattle.df1_base.specs.declared.link.Act.{Act}
use Rattle.df1_base.specs.declared.link.Act.TheVariants as act
use Rattle.df1_base.specs.declared.link.Out.{Out}
use Rattle.df1_base.specs.declared.link.Step.{Step}
use Rattle.df1_base.specs.declared.link.Turn.{Turn}
use Rattle.df1_base.specs.declared.link.Turn.TheVariants as turn
use Rattle.df1_base.specs.HostAnswers.{did_at, host_told, news_of}
use Rattle.df1_frame.specs.Standing.{Outside}
use Rattle.duplex_sender.specs.declared.Phase.{Phase}
use Rattle.duplex_sender.specs.declared.Phase.TheVariants as phase
use Rattle.duplex_sender.specs.declared.SendTurn.{SendTurn}
use Rattle.duplex_sender.specs.declared.SendTurn.TheVariants as sends
use Rattle.duplex_sender.specs.Sender.{SenderState, idle, phase_of, body_of, load, sent_last, on_ack, ack_fate, on_nak, nak_fate, on_tick, tick_turn}
use Rattle.duplex_receiver.specs.Receiver.{ReceiverState, hearing, act_at, after_byte, body_at, is_good, is_whole, response_for, Offers, Forgets, Again, Silent}
use Rattle.embedded_response.specs.Giving.{Giving, Choice, nothing, offer, forget, answer_enq, ask, unask, begin, order, first_there, chosen, given, take}
use Rattle.duplex_end.specs.declared.Setup.{Setup}

-- an end: its receiver, its sender, what it has to give, the body of the transmission that was begun last (empty where none was), and its host
pub record EndState (H : Type 0) : Type 0 where
  pub receiver : ReceiverState
  pub sender : SenderState
  pub mouth : Giving
  pub sending : List ℕ
  pub host : H

-- an end that has heard and given nothing
abbrev pub new_end : {H : Type 0} → Setup → H → EndState H
new_end setup host = record {
  receiver = record { decoding = record { check = setup.check; standing = Outside }; kept = None };
  sender = idle setup.limits;
  mouth = nothing setup.check setup.embed;
  sending = [];
  host = host;
}

-- the end with another host
abbrev pub with_host : {H : Type 0} → EndState H → H → EndState H
with_host e host = record e { host = host }

-- a sender has a message
abbrev pub has_message : Phase → Bool
has_message phase.Idle = false
has_message phase.Sending = true
has_message phase.Waiting = true

-- the end has a message of its host that was neither acknowledged nor given up
abbrev pub holds_message : {H : Type 0} → EndState H → Bool
holds_message e = has_message (phase_of e.sender)

-- ---- what the parts make of an act, of a fate and of a byte that was given

-- the sender hears ACK and NAK
abbrev pub sender_after : Act → SenderState → SenderState
sender_after act.PeerAck s = on_ack s
sender_after act.PeerNak s = on_nak s
sender_after _ s = s

-- the fate that is decided there
abbrev pub fate_at : Act → SenderState → Option Fate
fate_at act.PeerAck s = ack_fate s
fate_at act.PeerNak s = nak_fate s
fate_at _ s = None

-- the response of an act is put in
abbrev pub responded : Act → Giving → Giving
responded a g = elim (response_for a) [ Offers r ↦ offer g r | Forgets ↦ forget g | Again ↦ answer_enq g | Silent ↦ g ]

-- a response is waited for
abbrev pub is_waiting : Phase → Bool
is_waiting phase.Waiting = true
is_waiting _ = false

-- where the sender leaves Waiting, no ENQ is wished
abbrev pub dropped : Phase → Phase → Giving → Giving
dropped before after g = if is_waiting before && not (is_waiting after) then unask g else g

-- the byte is the last of a transmission
abbrev pub ends_here : Option Out → Bool
ends_here None = false
ends_here (Some out) = is_some out.last_of

-- with the last byte of a transmission the sender begins to wait
abbrev pub after_out : Option Out → SenderState → SenderState
after_out out s = if ends_here out then sent_last s else s

-- the host takes an accepted body
abbrev pub host_after : {H : Type 0} → Ghosts H → Act → H → List ℕ → H
host_after m act.Accept host body = m.after_accept host body
host_after m _ host body = host

-- ---- an act

-- the host after an act, before a fate is told
abbrev pub host_at_act : {H : Type 0} → Ghosts H → EndState H → Act → H
host_at_act m e what = host_after m what e.host (body_at e.receiver)

-- the end after an act of its receiver: first the act's effect, then the fate is told
abbrev pub answered : {H : Type 0} → Ghosts H → EndState H → Act → EndState H
answered m e what =
    let sender = sender_after what e.sender in
    record {
      receiver = e.receiver;
      sender = sender;
      mouth = dropped (phase_of e.sender) (phase_of sender) (responded what e.mouth);
      sending = e.sending;
      host = host_told m (fate_at what e.sender) (host_at_act m e what);
    }

-- what is told of an act
abbrev pub answer_of : {H : Type 0} → Ghosts H → EndState H → Act → Step
answer_of m e what = record {
  act = what;
  did = did_at m what e.host (body_at e.receiver);
  news = news_of m (fate_at what e.sender) (host_at_act m e what);
  whole = is_whole what;
  station = 0;
}

-- ---- a byte

-- the act at a byte
abbrev pub act_of_byte : {H : Type 0} → Ghosts H → EndState H → ℕ → Act
act_of_byte m e b = act_at (m.room_for e.host) 250 e.receiver b

-- the receiver after a byte
abbrev pub receiver_after : {H : Type 0} → Ghosts H → EndState H → ℕ → ReceiverState
receiver_after m e b = after_byte (m.room_for e.host) 250 e.receiver b

-- the end whose receiver has taken a byte, before the act's effect
abbrev pub with_byte : {H : Type 0} → Ghosts H → EndState H → ℕ → EndState H
with_byte m e b = record e { receiver = receiver_after m e b }

-- the host after the act, before a fate is told
abbrev pub host_at_byte : {H : Type 0} → Ghosts H → EndState H → ℕ → H
host_at_byte m e b = host_at_act m (with_byte m e b) (act_of_byte m e b)

-- the end after a byte
abbrev pub end_after_byte : {H : Type 0} → Ghosts H → EndState H → ℕ → EndState H
end_after_byte m e b = answered m (with_byte m e b) (act_of_byte m e b)

-- what is told of a byte: a whole frame is one that is heard as good
abbrev pub step_at_byte : {H : Type 0} → Ghosts H → EndState H → ℕ → Step
step_at_byte m e b =
    record (answer_of m (with_byte m e b) (act_of_byte m e b)) { whole = is_good (hearing (m.room_for e.host) 250 e.receiver b).heard }

-- ---- a tick

-- the fate that a tick decides
abbrev pub fate_of_tick : SendTurn → Option Fate
fate_of_tick sends.Failed = Some fate.Undelivered
fate_of_tick _ = None

-- an ENQ is wished where the sender asks
abbrev pub asked : SendTurn → Giving → Giving
asked sends.Ask g = ask g
asked _ g = g

-- what is told of the sender's part of a tick
abbrev pub turn_told : {H : Type 0} → Ghosts H → SendTurn → H → Turn
turn_told m sends.Still host = turn.Still
turn_told m sends.Ask host = turn.Ask
turn_told m sends.Failed host = turn.Failed (m.news host fate.Undelivered)

-- the host after the sender's part of a tick
abbrev pub host_at_tick : {H : Type 0} → Ghosts H → EndState H → H
host_at_tick m e = host_told m (fate_of_tick (tick_turn e.sender)) e.host

-- the end after a tick: first the sender's tick, then the host's
abbrev pub end_after_tick : {H : Type 0} → Ghosts H → EndState H → EndState H
end_after_tick m e = record {
  receiver = e.receiver;
  sender = on_tick e.sender;
  mouth = dropped (phase_of e.sender) (phase_of (on_tick e.sender)) (asked (tick_turn e.sender) e.mouth);
  sending = e.sending;
  host = m.after_tick (host_at_tick m e);
}

-- what is told of a tick
abbrev pub turn_at_tick : {H : Type 0} → Ghosts H → EndState H → Turn
turn_at_tick m e = turn_told m (tick_turn e.sender) e.host

-- the commands that are unanswered from a tick on
abbrev pub gone_at_tick : {H : Type 0} → Ghosts H → EndState H → List ℕ
gone_at_tick m e = m.unanswered (host_at_tick m e)

-- ---- a take

-- what may be given next: one of what the mouth has, the frame of the sender's message again, or the frame of a new message
pub data Place : Type 0 where
  OfMouth : (choice : Choice) → Place
  FrameAgain : (body : List ℕ) → Place
  FrameOfNew : (body : List ℕ) → Place

-- the message of a sender that is in Sending
abbrev pub sent_again : SenderState → Option (List ℕ)
sent_again s = elim (phase_of s) [ phase.Idle ↦ None | phase.Sending ↦ Some (body_of s) | phase.Waiting ↦ None ]

-- the host's next message, where the sender is idle
abbrev pub sent_new : {H : Type 0} → Ghosts H → EndState H → Option (List ℕ)
sent_new m e = elim (phase_of e.sender) [ phase.Idle ↦ m.next_body e.host | phase.Sending ↦ None | phase.Waiting ↦ None ]

-- in this order: the second byte of a begun pair; in a frame a response where it may stand; the frame's next unit; a response; an ENQ; the frame of a sender that is in Sending; the frame of a new message
abbrev pub order_of : {H : Type 0} → Ghosts H → EndState H → List (Option Place)
order_of m e = map (option_map OfMouth) (order e.mouth) ++ option_map FrameAgain (sent_again e.sender) ∷ option_map FrameOfNew (sent_new m e) ∷ []

-- the first that is there
abbrev pub next_place : {H : Type 0} → Ghosts H → EndState H → Option Place
next_place m e = first_there (order_of m e)

-- a transmission of this body begins
abbrev pub transmitted : {H : Type 0} → EndState H → List ℕ → EndState H
transmitted e body = record { receiver = e.receiver; sender = e.sender; mouth = begin e.mouth body; sending = body; host = e.host }

-- the host's next message is handed out and loaded
abbrev pub loaded : {H : Type 0} → Ghosts H → EndState H → List ℕ → EndState H
loaded m e body = record { receiver = e.receiver; sender = load e.sender body; mouth = e.mouth; sending = e.sending; host = m.after_next e.host }

-- the end after a byte was given by its mouth, and that byte
abbrev pub gives : {H : Type 0} → EndState H → Giving × Option Out → EndState H × Option Out
gives e to = (record { receiver = e.receiver; sender = after_out to.1 e.sender; mouth = to.0; sending = e.sending; host = e.host }, to.1)

-- the end after what is next was given, and the byte: of a frame that is next, it is the first
abbrev pub taken : {H : Type 0} → Ghosts H → EndState H → Option Place → EndState H × Option Out
taken m e None = (e, None)
taken m e (Some (OfMouth choice)) = gives e (given e.mouth (Some choice))
taken m e (Some (FrameAgain body)) = gives (transmitted e body) (take (begin e.mouth body))
taken m e (Some (FrameOfNew body)) = gives (transmitted (loaded m e body) body) (take (begin e.mouth body))

-- the end after a take
abbrev pub end_after_take : {H : Type 0} → Ghosts H → EndState H → EndState H
end_after_take m e = (taken m e (next_place m e)).0

-- the byte that a take gives
abbrev pub out_at_take : {H : Type 0} → Ghosts H → EndState H → Option Out
out_at_take m e = (taken m e (next_place m e)).1

-- ---- a take in two steps: a frame that is next is begun, and then the mouth gives a byte

-- by the sender's phase and the host's next message: a sender that is in Sending has its frame begun; an idle one is given a new message, and that one's frame is begun
abbrev pub begun_at : {H : Type 0} → Ghosts H → EndState H → Phase → Option (List ℕ) → EndState H
begun_at m e phase.Idle None = e
begun_at m e phase.Idle (Some body) = transmitted (loaded m e body) body
begun_at m e phase.Sending next = transmitted e (body_of e.sender)
begun_at m e phase.Waiting next = e

-- the frame that is next is begun, if there is one
abbrev pub begun_next : {H : Type 0} → Ghosts H → EndState H → EndState H
begun_next m e = begun_at m e (phase_of e.sender) (m.next_body e.host)

-- a frame is begun only where nothing else is to be given
abbrev pub prepared : {H : Type 0} → Ghosts H → EndState H → EndState H
prepared m e = if is_none (chosen e.mouth) then begun_next m e else e

-- the next byte is given of what there is
abbrev pub given_next : {H : Type 0} → EndState H → EndState H
given_next e = record { receiver = e.receiver; sender = after_out (take e.mouth).1 e.sender; mouth = (take e.mouth).0; sending = e.sending; host = e.host }
