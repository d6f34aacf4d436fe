-- A slave of a half-duplex link over any host: what a byte and a take do to it. A host's meaning is the record of its ghost members.
use Rattle.std.specs.Prelude.{ℕ, ◌+◌, ◌-◌, ◌^◌, Bool, true, false, List, [], Option, Some, None, is_some, is_none, min, nat_lt, ◌&&◌, ◌==◌, if◌then◌else◌}
use Rattle.std.specs.Option.{option_map}
use Rattle.df1_base.specs.declared.host.Host.{Ghosts}
use Rattle.df1_base.specs.declared.host.Did.{Did}
use Rattle.df1_base.specs.declared.host.Fate.{Fate}
use Rattle.df1_base.specs.declared.host.Fate.TheVariants as fate
use Rattle.df1_base.specs.declared.host.News.{News}
use Rattle.df1_base.specs.declared.host.News.TheVariants as news
use Rattle.df1_base.specs.declared.link.Act.{Act}
use Rattle.df1_base.specs.declared.link.Act.TheVariants as act
use Rattle.df1_base.specs.declared.link.Out.{Out}
use Rattle.df1_base.specs.declared.link.Resp.{Resp}
use Rattle.df1_base.specs.declared.link.Resp.TheVariants as resp
use Rattle.df1_base.specs.declared.link.Step.{Step}
use Rattle.df1_base.specs.HostAnswers.{did_at, news_of}
use Rattle.half_frame.specs.declared.heard.SlaveHeard.{SlaveHeard}
use Rattle.half_frame.specs.declared.heard.SlaveHeard.TheVariants as heard
use Rattle.half_frame.specs.Spelling.{reply_sent, pair_bytes, unmarked}
use Rattle.half_frame.specs.SlaveStanding.{Listening, Outside, lent_at}
use Rattle.half_frame.specs.SlaveStep.{next}
use Rattle.half_mouth.specs.Giving.{Giving, nothing, transmit, give, is_done, bytes_left, take}
pub use Rattle.half_mouth.specs.Transmissions.{ends_here}
use Rattle.pccc_envelope.specs.declared.key.Key.{Key}
use Rattle.pccc_envelope.specs.Envelope.{key_of}
use Rattle.pccc_envelope.specs.Accepted.{Verdict, Repeated, Accepted, Refused, judged}
use Rattle.half_slave.specs.declared.SlaveSetup.{SlaveSetup}
use Rattle.half_slave.specs.declared.held.Held.{Held}

-- a slave: how it is set up; its ear, and the key of the message that it accepted last; a response that waits; what is being given; the message of its host that it holds; the body of the transmission that was begun last, which is that of the message it holds (empty where none was begun); and its host
pub record SlaveState (H : Type 0) : Type 0 where
  pub setup : SlaveSetup
  pub ear : Listening
  pub kept : Option Key
  pub responds : Option Resp
  pub mouth : Giving
  pub held : Option Held
  pub sending : List ℕ
  pub host : H

-- a slave that has heard and given nothing
abbrev pub new_slave : {H : Type 0} → SlaveSetup → H → SlaveState H
new_slave setup host = record {
  setup = setup;
  ear = record { check = setup.check; standing = Outside };
  kept = None;
  responds = None;
  mouth = nothing;
  held = None;
  sending = [];
  host = host;
}

-- the slave with another host
abbrev pub with_host : {H : Type 0} → SlaveState H → H → SlaveState H
with_host s host = record s { host = host }

-- the slave has a message of its host that was neither acknowledged nor given up
abbrev pub holds_message : {H : Type 0} → SlaveState H → Bool
holds_message s = is_some s.held

-- nothing is to be given
abbrev pub is_quiet : {H : Type 0} → SlaveState H → Bool
is_quiet s = is_done s.mouth && is_none s.responds

-- the body that is lent
abbrev pub body_of : {H : Type 0} → SlaveState H → List ℕ
body_of s = lent_at s.ear.standing

-- ---- the message that is held

-- it has just been loaded
abbrev pub loaded : Held
loaded = record { sent = 0; wait_open = false }

-- a header or a poll, whatever station it names, closes the wait
abbrev pub closes_wait : Option SlaveHeard → Bool
closes_wait (Some (heard.Header stn)) = true
closes_wait (Some (heard.Poll stn)) = true
closes_wait (Some heard.BadPoll) = true
closes_wait _ = false

-- a message that is held, after what is heard
abbrev pub after_heard : Option SlaveHeard → Held → Held
after_heard what message = record { sent = message.sent; wait_open = if closes_wait what then false else message.wait_open }

-- one sending more came to its end, of a count that stops at the last value of u32, and the wait opens
abbrev pub after_sending : Held → Held
after_sending message = record { sent = min (message.sent + 1) (2 ^ 32 - 1); wait_open = true }

-- the last byte of a transmission ends a sending of the message, where one is held
abbrev pub after_out : Option Out → Option Held → Option Held
after_out out held = if ends_here out then option_map after_sending held else held

-- a poll gives up a message that was sent so often
abbrev pub fate_at_poll : ℕ → Option Held → Option Fate
fate_at_poll max_sends None = None
fate_at_poll max_sends (Some message) = if nat_lt message.sent max_sends then None else Some fate.Undelivered

-- an ACK delivers it where the wait is open
abbrev pub fate_at_ack : Option Held → Option Fate
fate_at_ack None = None
fate_at_ack (Some message) = if message.wait_open then Some fate.Delivered else None

-- a reset gives it up
abbrev pub fate_at_reset : Option Held → Option Fate
fate_at_reset None = None
fate_at_reset (Some message) = Some fate.Undelivered

-- ---- a fate

-- a fate is told to the host, and the message is dropped
abbrev pub told : {H : Type 0} → Ghosts H → SlaveState H → Option Fate → SlaveState H
told m s None = s
told m s (Some what) = record s { held = None; host = m.after_told s.host what }

-- ---- the rows: a message to this station

-- by the kept key and the host's room it is a repeat, accepted, or refused
abbrev pub verdict : {H : Type 0} → Ghosts H → SlaveState H → Verdict
verdict m s = judged s.kept (record { body = body_of s; has_room = m.room_for s.host (body_of s) })

-- the act of each
abbrev pub verdict_act : Verdict → Act
verdict_act Repeated = act.Repeat
verdict_act Accepted = act.Accept
verdict_act Refused = act.Refuse

-- a repeat is acknowledged again; one that is accepted goes to the host, and its key is kept; a refusal is a NAK
abbrev pub received : {H : Type 0} → Ghosts H → SlaveState H → Verdict → SlaveState H
received m s Repeated = record s { responds = Some resp.Ack }
received m s Accepted = record s { kept = Some (key_of (body_of s)); responds = Some resp.Ack; host = m.after_accept s.host (body_of s) }
received m s Refused = record s { responds = Some resp.Nak }

-- ---- the rows: a poll of this station

-- a transmission of the message that is held begins
abbrev pub sent : {H : Type 0} → SlaveState H → SlaveState H
sent s = record s { mouth = transmit s.mouth (reply_sent s.setup.check s.sending) }

-- where none is held, the host's next message is loaded and sent, or else DLE EOT is given
abbrev pub offered : {H : Type 0} → Ghosts H → SlaveState H → Option (List ℕ) → SlaveState H
offered m s None = record s { mouth = give s.mouth (unmarked (pair_bytes 4)) }
offered m s (Some body) = sent (record s { held = Some loaded; sending = body; host = m.after_next s.host })

-- a message that is held is sent again
abbrev pub answered : {H : Type 0} → Ghosts H → SlaveState H → Option Held → SlaveState H
answered m s (Some message) = sent s
answered m s None = offered m s (m.next_body s.host)

-- a message that was sent max_sends times is given up first
abbrev pub polled : {H : Type 0} → Ghosts H → SlaveState H → SlaveState H
polled m s = let after = told m s (fate_at_poll s.setup.max_sends s.held) in answered m after after.held

-- ---- the rows: a reset

-- a message that is held is given up, and then what waits at the host is dropped
abbrev pub reset : {H : Type 0} → Ghosts H → SlaveState H → SlaveState H
reset m s = let after = told m s (fate_at_reset s.held) in record after { host = m.after_clear after.host }

-- ---- a byte

-- what is heard at a byte
abbrev pub heard_at : {H : Type 0} → SlaveState H → ℕ → Option SlaveHeard
heard_at s b = (next 250 s.ear b).1

-- the slave has heard it: the wait may be closed
abbrev pub listened : {H : Type 0} → SlaveState H → ℕ → SlaveState H
listened s b = record s { ear = (next 250 s.ear b).0; held = option_map (after_heard (heard_at s b)) s.held }

-- the station is this slave's
abbrev pub is_own : {H : Type 0} → SlaveState H → ℕ → Bool
is_own s stn = stn == s.setup.station

-- a poll is answered that names this station, where nothing is to be given
abbrev pub is_answered : {H : Type 0} → SlaveState H → ℕ → Bool
is_answered s stn = is_own s stn && is_quiet s

-- the table: what is done at what is heard
abbrev pub slave_after_heard : {H : Type 0} → Ghosts H → SlaveState H → Option SlaveHeard → SlaveState H
slave_after_heard m s (Some (heard.Addressed stn)) = if is_own s stn then received m s (verdict m s) else s
slave_after_heard m s (Some (heard.Poll stn)) = if is_answered s stn then polled m s else s
slave_after_heard m s (Some heard.Ack) = told m s (fate_at_ack s.held)
slave_after_heard m s (Some heard.Reset) = reset m s
slave_after_heard m s _ = s

-- the act at what is heard
abbrev pub act_at : {H : Type 0} → Ghosts H → SlaveState H → Option SlaveHeard → Act
act_at m s (Some (heard.Addressed stn)) = if is_own s stn then verdict_act (verdict m s) else act.Nothing
act_at m s (Some (heard.Damaged stn)) = if is_own s stn then act.Damaged else act.Nothing
act_at m s (Some heard.Ack) = act.PeerAck
act_at m s (Some heard.Reset) = act.PeerNak
act_at m s _ = act.Nothing

-- the fate that is told at what is heard
abbrev pub fate_at : {H : Type 0} → SlaveState H → Option SlaveHeard → Option Fate
fate_at s (Some (heard.Poll stn)) = if is_answered s stn then fate_at_poll s.setup.max_sends s.held else None
fate_at s (Some heard.Ack) = fate_at_ack s.held
fate_at s (Some heard.Reset) = fate_at_reset s.held
fate_at s _ = None

-- a whole message was heard
abbrev pub is_whole : Option SlaveHeard → Bool
is_whole (Some (heard.Addressed stn)) = true
is_whole _ = false

-- the station that it names, 0 where none was heard
abbrev pub station_of : Option SlaveHeard → ℕ
station_of (Some (heard.Addressed stn)) = stn
station_of _ = 0

-- what is told at what is heard
abbrev pub step_at_heard : {H : Type 0} → Ghosts H → SlaveState H → Option SlaveHeard → Step
step_at_heard m s what = record {
  act = act_at m s what;
  did = did_at m (act_at m s what) s.host (body_of s);
  news = news_of m (fate_at s what) s.host;
  whole = is_whole what;
  station = station_of what;
}

-- the slave after a byte
abbrev pub slave_after_byte : {H : Type 0} → Ghosts H → SlaveState H → ℕ → SlaveState H
slave_after_byte m s b = slave_after_heard m (listened s b) (heard_at s b)

-- what is told of a byte
abbrev pub step_at_byte : {H : Type 0} → Ghosts H → SlaveState H → ℕ → Step
step_at_byte m s b = step_at_heard m (listened s b) (heard_at s b)

-- ---- a take

-- the code of a response's pair: 6 is ACK, 21 NAK
abbrev pub response_code : Resp → ℕ
response_code resp.Ack = 6
response_code resp.Nak = 21

-- a response that waits is begun
abbrev pub with_response : Giving → Option Resp → Giving
with_response g None = g
with_response g (Some r) = give g (unmarked (pair_bytes (response_code r)))

-- it is begun where nothing else is left to be given
abbrev pub mouth_at_take : Giving → Option Resp → Giving
mouth_at_take g responds = if is_done g then with_response g responds else g

-- and it waits no more then
abbrev pub responds_at_take : Giving → Option Resp → Option Resp
responds_at_take g responds = if is_done g then None else responds

-- the byte that a take gives
abbrev pub out_at_take : {H : Type 0} → SlaveState H → Option Out
out_at_take s = (take (mouth_at_take s.mouth s.responds)).1

-- the slave after a take
abbrev pub slave_after_take : {H : Type 0} → SlaveState H → SlaveState H
slave_after_take s = record s {
  responds = responds_at_take s.mouth s.responds;
  mouth = (take (mouth_at_take s.mouth s.responds)).0;
  held = after_out (out_at_take s) s.held;
}

-- so many bytes are given by takes alone
abbrev pub left_to_give : {H : Type 0} → SlaveState H → ℕ
left_to_give s = bytes_left s.mouth + (if is_some s.responds then 2 else 0)
