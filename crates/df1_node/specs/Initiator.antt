-- The commands that a node issues, and what becomes of each. Places in the list of commands are counted from 0; command n is
-- at place n - 1.
use Rattle.std.specs.Prelude.{ℕ, suc, zero, ◌+◌, ◌-◌, ◌%◌, Bool, false, true, ◌&&◌, List, [], ◌∷◌, ◌++◌, map, length, drop, count_by, nat_lt, nat_le, ◌==◌, position, slice_get, slice_index, bit_or, if◌then◌else◌, Option, None, Some}
use Rattle.std.specs.Option.{option_and_then, option_map, option_map_or}
use Rattle.std.specs.Int.{bit_at}
use Rattle.pccc_envelope.specs.Envelope.{spelling, envelope_of}
use Rattle.df1_node.specs.declared.outcome.Outcome.{Outcome}
use Rattle.df1_node.specs.declared.outcome.Outcome.TheVariants as outcome
use Rattle.df1_node.specs.declared.outcome.IssueFault.{IssueFault}
use Rattle.df1_node.specs.declared.outcome.IssueFault.TheVariants.{Empty, TooLong, NotCommand, Spent}

-- how a command stands: it waits; it is out, with so many ticks left; it is answered by this reply; it is given up
pub data Standing : Type 0 where
  Waiting : Standing
  Out : ℕ → Standing
  Answered : List ℕ → Standing
  Undelivered : Standing
  Unanswered : Standing

-- a command: its body, and how it stands
pub record Issued : Type 0 where
  pub body : List ℕ
  pub standing : Standing

-- an initiator: its node, the TNS of its first command, the ticks that a reply may take, how many commands may be out, how many
-- of one source, and its commands in order
pub record InitiatorState : Type 0 where
  pub node : ℕ
  pub tns : ℕ
  pub reply_ticks : ℕ
  pub window : ℕ
  pub per_source : ℕ
  pub issued : List Issued

-- the command was not handed out yet
abbrev pub is_waiting : Standing → Bool
is_waiting Waiting = true
is_waiting (Out left) = false
is_waiting (Answered reply) = false
is_waiting Undelivered = false
is_waiting Unanswered = false

-- the command was handed out, and nothing became of it yet
abbrev pub is_out : Standing → Bool
is_out Waiting = false
is_out (Out left) = true
is_out (Answered reply) = false
is_out Undelivered = false
is_out Unanswered = false

-- what became of the command is known
abbrev pub is_settled : Standing → Bool
is_settled Waiting = false
is_settled (Out left) = false
is_settled (Answered reply) = true
is_settled Undelivered = true
is_settled Unanswered = true

-- the outcome that is told
abbrev pub told_outcome : Standing → Outcome
told_outcome Waiting = outcome.Waiting
told_outcome (Out left) = outcome.Out
told_outcome (Answered reply) = outcome.Answered
told_outcome Undelivered = outcome.Undelivered
told_outcome Unanswered = outcome.Unanswered

-- the reply that was accepted, and nothing where none was
abbrev pub told_reply : Standing → List ℕ
told_reply Waiting = []
told_reply (Out left) = []
told_reply (Answered reply) = reply
told_reply Undelivered = []
told_reply Unanswered = []

-- command n, from 1
abbrev pub command : InitiatorState → ℕ → Option Issued
command s zero = None
command s (suc place) = slice_get s.issued place

-- the outcome of command n
abbrev pub outcome_of : InitiatorState → ℕ → Option Outcome
outcome_of s n = option_map (λ c. told_outcome c.standing) (command s n)

-- the reply to command n
abbrev pub reply_of : InitiatorState → ℕ → List ℕ
reply_of s n = option_map_or (λ c. told_reply c.standing) (command s n) []

-- why a payload is not issued, the first that fits: it is empty, has over 245 bytes, bit 6 of CMD is set, or 65535 commands were issued
abbrev pub issue_fault : InitiatorState → List ℕ → Option IssueFault
issue_fault s payload =
    if length payload == 0 then Some Empty
    else if nat_lt 245 (length payload) then Some TooLong
    else if bit_at (slice_index payload 0) 6 == 1 then Some NotCommand
    else if nat_le 65535 (length s.issued) then Some Spent
    else None

-- the body of the next command: DST SRC CMD 00 TNS and what follows CMD in the payload
abbrev pub next_issued : InitiatorState → ℕ → ℕ → List ℕ → List ℕ
next_issued s src dst payload =
    spelling (record { dst = dst; src = src; cmd = slice_index payload 0; sts = 0x00; tns = (s.tns + length s.issued) % 65536 }) ++ drop 1 payload

-- a command more
abbrev pub after_issue : InitiatorState → ℕ → ℕ → List ℕ → InitiatorState
after_issue s src dst payload = record s { issued = s.issued ++ record { body = next_issued s src dst payload; standing = Waiting } ∷ [] }

-- the command at a place stands otherwise
abbrev pub restated : List Issued → ℕ → Standing → List Issued
restated [] place standing = []
restated (c ∷ cs) zero standing = record c { standing = standing } ∷ cs
restated (c ∷ cs) (suc place) standing = c ∷ restated cs place standing

-- the source of a command: SRC of its body, the second byte
abbrev pub source_of : Issued → ℕ
source_of c = slice_index c.body 1

-- how many commands are out
abbrev pub count_out : List Issued → ℕ
count_out issued = count_by (λ c. is_out c.standing) issued

-- how many commands of a source are out
abbrev pub count_out_of : ℕ → List Issued → ℕ
count_out_of source issued = count_by (λ c. is_out c.standing && (source_of c == source)) issued

-- a command waits, and fewer commands of its source are out than may be
abbrev pub is_due : InitiatorState → Issued → Bool
is_due s c = is_waiting c.standing && nat_lt (count_out_of (source_of c) s.issued) s.per_source

-- the place of the command to be handed out: the lowest that waits and of whose source fewer than `per_source` are out, where fewer
-- than `window` are out in all
abbrev pub next_place : InitiatorState → Option ℕ
next_place s = if nat_lt (count_out s.issued) s.window then position (is_due s) s.issued else None

-- the body of the command at a place
abbrev pub body_at : List Issued → ℕ → Option (List ℕ)
body_at issued place = option_map (λ c. c.body) (slice_get issued place)

-- the body of the command to be handed out
abbrev pub next_command : InitiatorState → Option (List ℕ)
next_command s = option_and_then (body_at s.issued) (next_place s)

-- the initiator after that command was handed out
abbrev pub after_hand_out : InitiatorState → InitiatorState
after_hand_out s = record s { issued = option_map_or (λ place. restated s.issued place (Out s.reply_ticks)) (next_place s) s.issued }

-- a reply answers a command: the same TNS, CMD with bit 6 set, and SRC and DST changed over
abbrev pub is_reply_to : List ℕ → List ℕ → Bool
is_reply_to body reply =
    ((envelope_of reply).tns == (envelope_of body).tns) && ((envelope_of reply).cmd == bit_or (envelope_of body).cmd 64)
    && ((envelope_of reply).src == (envelope_of body).dst) && ((envelope_of reply).dst == (envelope_of body).src)

-- the place of the command that is out and that a reply answers
abbrev pub answered_place : List Issued → List ℕ → Option ℕ
answered_place issued reply = position (λ c. is_out c.standing && is_reply_to c.body reply) issued

-- the initiator after a reply
abbrev pub after_reply : InitiatorState → List ℕ → InitiatorState
after_reply s reply = record s { issued = option_map_or (λ place. restated s.issued place (Answered reply)) (answered_place s.issued reply) s.issued }

-- the command at a place is out
abbrev pub is_out_at : List Issued → ℕ → Bool
is_out_at issued place = option_map_or (λ c. is_out c.standing) (slice_get issued place) false

-- the initiator after the command at a place was given up, which counts only while it is out
abbrev pub after_give_up : InitiatorState → ℕ → InitiatorState
after_give_up s place = record s { issued = if is_out_at s.issued place then restated s.issued place Undelivered else s.issued }

-- a tick: the last one that a reply may take leaves the command unanswered
abbrev pub ticked : Standing → Standing
ticked Waiting = Waiting
ticked (Out left) = if nat_lt 1 left then Out (left - 1) else Unanswered
ticked (Answered reply) = Answered reply
ticked Undelivered = Undelivered
ticked Unanswered = Unanswered

-- the tick is the last one that a reply may take
abbrev pub is_last_tick : Standing → Bool
is_last_tick Waiting = false
is_last_tick (Out left) = if nat_lt 1 left then false else true
is_last_tick (Answered reply) = false
is_last_tick Undelivered = false
is_last_tick Unanswered = false

-- the numbers, from this one on, of the commands that are unanswered from this tick on
abbrev pub unanswered_from : ℕ → List Issued → List ℕ
unanswered_from number [] = []
unanswered_from number (c ∷ cs) = if is_last_tick c.standing then number ∷ unanswered_from (number + 1) cs else unanswered_from (number + 1) cs

-- a tick for each command
abbrev pub all_ticked : List Issued → List Issued
all_ticked issued = map {A = Issued} (λ c. record c { standing = ticked c.standing }) issued

-- what waits is given up
abbrev pub cleared : Standing → Standing
cleared Waiting = Undelivered
cleared (Out left) = Out left
cleared (Answered reply) = Answered reply
cleared Undelivered = Undelivered
cleared Unanswered = Unanswered

-- each command that waits is given up
abbrev pub all_cleared : List Issued → List Issued
all_cleared issued = map {A = Issued} (λ c. record c { standing = cleared c.standing }) issued
