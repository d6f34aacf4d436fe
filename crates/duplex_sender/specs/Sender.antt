-- The full-duplex sender: one message at a time, sent again at a NAK and asked about by ENQ at the end of a wait.
use Rattle.std.specs.Prelude.{ℕ, ◌+◌, ◌-◌, List, [], Option, Some, None, nat_lt, if◌then◌else◌}
use Rattle.df1_base.specs.declared.host.Fate.{Fate}
use Rattle.df1_base.specs.declared.host.Fate.TheVariants as fate
use Rattle.duplex_sender.specs.declared.Limits.{Limits}
use Rattle.duplex_sender.specs.declared.Phase.{Phase}
use Rattle.duplex_sender.specs.declared.Phase.TheVariants as phase
use Rattle.duplex_sender.specs.declared.SendTurn.{SendTurn}
use Rattle.duplex_sender.specs.declared.SendTurn.TheVariants as turn

-- what a sender does: nothing; it gives a message's frame; or it waits for the response to it, so many ticks yet. The NAKs and ENQs are counted per message
pub data Activity : Type 0 where
  Idle : Activity
  Sending : (body : List ℕ) (naks enqs : ℕ) → Activity
  Waiting : (body : List ℕ) (naks enqs left : ℕ) → Activity

-- a sender, with the limits that it keeps
pub record SenderState : Type 0 where
  pub limits : Limits
  pub activity : Activity

-- the phase, without message and counts
abbrev pub phase_of : SenderState → Phase
phase_of s = elim s.activity [ Idle ↦ phase.Idle | Sending body naks enqs ↦ phase.Sending | Waiting body naks enqs left ↦ phase.Waiting ]

-- the body of the message, empty while there is none
abbrev pub body_of : SenderState → List ℕ
body_of s = elim s.activity [ Idle ↦ [] | Sending body naks enqs ↦ body | Waiting body naks enqs left ↦ body ]

-- a sender without a message
abbrev pub idle : Limits → SenderState
idle limits = record { limits = limits; activity = Idle }

-- a message is given to it
abbrev pub load : SenderState → List ℕ → SenderState
load s body = record s { activity = Sending body 0 0 }

-- the last byte of the frame was taken: the wait begins
abbrev pub sent_last : SenderState → SenderState
sent_last s = record s {
  activity = elim s.activity [
    | Idle ↦ Idle
    | Sending body naks enqs ↦ Waiting body naks enqs s.limits.ack_ticks
    | Waiting body naks enqs left ↦ Waiting body naks enqs left
  ];
}

-- an ACK was heard: a message that waits is delivered
abbrev pub on_ack : SenderState → SenderState
on_ack s = record s {
  activity = elim s.activity [
    | Idle ↦ Idle
    | Sending body naks enqs ↦ Sending body naks enqs
    | Waiting body naks enqs left ↦ Idle
  ];
}

-- the fate that an ACK decides: only a message that waits is delivered
abbrev pub ack_fate : SenderState → Option Fate
ack_fate s = elim s.activity [ Idle ↦ None | Sending body naks enqs ↦ None | Waiting body naks enqs left ↦ Some fate.Delivered ]

-- a NAK was heard: a message that waits is sent again, or given up where max_naks were counted before
abbrev pub on_nak : SenderState → SenderState
on_nak s = record s {
  activity = elim s.activity [
    | Idle ↦ Idle
    | Sending body naks enqs ↦ Sending body naks enqs
    | Waiting body naks enqs left ↦ if nat_lt naks s.limits.max_naks then Sending body (naks + 1) enqs else Idle
  ];
}

-- the fate that a NAK decides: the message is given up where max_naks were counted before
abbrev pub nak_fate : SenderState → Option Fate
nak_fate s = elim s.activity [
  | Idle ↦ None
  | Sending body naks enqs ↦ None
  | Waiting body naks enqs left ↦ if nat_lt naks s.limits.max_naks then None else Some fate.Undelivered
]

-- a tick: the wait grows shorter; at its last tick the response is asked for and the wait begins anew, or the message is given up where max_enqs were counted before
abbrev pub on_tick : SenderState → SenderState
on_tick s = record s {
  activity = elim s.activity [
    | Idle ↦ Idle
    | Sending body naks enqs ↦ Sending body naks enqs
    | Waiting body naks enqs left ↦ if nat_lt 1 left then Waiting body naks enqs (left - 1)
        else (if nat_lt enqs s.limits.max_enqs then Waiting body naks (enqs + 1) s.limits.ack_ticks else Idle)
  ];
}

-- what a tick asks for: only the last tick of a wait asks, or gives the message up
abbrev pub tick_turn : SenderState → SendTurn
tick_turn s = elim s.activity [
  | Idle ↦ turn.Still
  | Sending body naks enqs ↦ turn.Still
  | Waiting body naks enqs left ↦ if nat_lt 1 left then turn.Still
      else (if nat_lt enqs s.limits.max_enqs then turn.Ask else turn.Failed)
]
