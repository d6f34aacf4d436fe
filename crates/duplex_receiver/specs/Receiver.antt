-- The full-duplex receiver: what it makes of each thing that is heard, and what it answers.
use Rattle.std.specs.Prelude.{ℕ, Bool, true, false, List, Option, Some, None}
use Rattle.std.specs.List.{fold}
use Rattle.df1_base.specs.declared.link.Act.{Act}
use Rattle.df1_base.specs.declared.link.Act.TheVariants as act
use Rattle.df1_base.specs.declared.link.Resp.{Resp}
use Rattle.df1_base.specs.declared.link.Resp.TheVariants as resp
use Rattle.df1_frame.specs.declared.heard.Heard.{Heard}
use Rattle.df1_frame.specs.declared.heard.Heard.TheVariants as heard
use Rattle.df1_frame.specs.Standing.{Decoding, lent_at}
use Rattle.df1_frame.specs.Step.{next}
use Rattle.pccc_envelope.specs.declared.key.Key.{Key}
use Rattle.pccc_envelope.specs.Envelope.{key_of}
use Rattle.pccc_envelope.specs.Accepted.{Offer, Verdict, Repeated, Accepted, Refused, judged}

-- what is heard at a byte, the body that is lent there, and whether there is room for that body
pub record Hearing : Type 0 where
  pub heard : Option Heard
  pub body : List ℕ
  pub has_room : Bool

-- the body as a message that is offered
abbrev pub offer_of : Hearing → Offer
offer_of h = record { body = h.body; has_room = h.has_room }

-- a message that was judged
abbrev pub verdict_act : Verdict → Act
verdict_act Repeated = act.Repeat
verdict_act Accepted = act.Accept
verdict_act Refused = act.Refuse

-- the rows of the receiver: what it makes of what is heard, beside the kept key
abbrev pub act_of : Option Key → Hearing → Act
act_of kept h = elim h.heard [
  | None ↦ act.Nothing
  | Some what ↦ elim what [
    | heard.Good ↦ verdict_act (judged kept (offer_of h))
    | heard.BadCheck ↦ act.Damaged
    | heard.Short ↦ act.Damaged
    | heard.Long ↦ act.Damaged
    | heard.Broken c ↦ act.Damaged
    | heard.Restart ↦ act.Forgot
    | heard.Ack ↦ act.PeerAck
    | heard.Nak ↦ act.PeerNak
    | heard.Enq ↦ act.PeerEnq
    | heard.Stray b ↦ act.Nothing
    | heard.StrayPair c ↦ act.Nothing
  ]
]

-- a frame was heard whole: it is good, and one of the acts of a good frame follows
abbrev pub is_good : Option Heard → Bool
is_good None = false
is_good (Some heard.Good) = true
is_good (Some _) = false

abbrev pub is_whole : Act → Bool
is_whole act.Accept = true
is_whole act.Repeat = true
is_whole act.Refuse = true
is_whole _ = false

-- the kept key changes where a message is accepted, and nowhere else
abbrev pub kept_at : Option Key → List ℕ → Act → Option Key
kept_at kept body act.Accept = Some (key_of body)
kept_at kept body _ = kept

-- ---- one byte

-- a receiver: its decoder, and the key that is kept
pub record ReceiverState : Type 0 where
  pub decoding : Decoding
  pub kept : Option Key

-- the body that is lent
abbrev pub body_at : ReceiverState → List ℕ
body_at s = lent_at s.decoding.standing

-- what is heard at a byte, with room for a body of N bytes, where the host has this room
abbrev pub hearing : (List ℕ → Bool) → ℕ → ReceiverState → ℕ → Hearing
hearing room N s b =
    let to = next N s.decoding b in
    let body = lent_at to.0.standing in
    record { heard = to.1; body = body; has_room = room body }

-- the act at a byte
abbrev pub act_at : (List ℕ → Bool) → ℕ → ReceiverState → ℕ → Act
act_at room N s b = act_of s.kept (hearing room N s b)

-- the receiver after a byte
abbrev pub after_byte : (List ℕ → Bool) → ℕ → ReceiverState → ℕ → ReceiverState
after_byte room N s b = record {
  decoding = (next N s.decoding b).0;
  kept = kept_at s.kept (hearing room N s b).body (act_at room N s b);
}

-- ---- responses

-- what an act does to the responses: one is offered; none is, and the last becomes NAK; the last goes out again; or nothing
pub data Response : Type 0 where
  Offers : Resp → Response
  Forgets : Response
  Again : Response
  Silent : Response

-- the response of each act
abbrev pub response_for : Act → Response
response_for act.Accept = Offers resp.Ack
response_for act.Repeat = Offers resp.Ack
response_for act.Refuse = Offers resp.Nak
response_for act.Damaged = Offers resp.Nak
response_for act.Forgot = Forgets
response_for act.PeerAck = Silent
response_for act.PeerNak = Silent
response_for act.PeerEnq = Again
response_for act.Nothing = Silent

-- the last response, after one act more
abbrev pub response_after : Resp → Act → Resp
response_after last a = elim (response_for a) [ Offers r ↦ r | Forgets ↦ resp.Nak | Again ↦ last | Silent ↦ last ]

-- the last response after these acts, NAK before any
abbrev pub last_response : List Act → Resp
last_response = fold response_after resp.Nak
