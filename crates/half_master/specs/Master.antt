-- A half-duplex master over any host: what a byte, a tick and a take do to it. A host's meaning is the record of its ghost members.
use Rattle.std.specs.Prelude.{ℕ, ◌+◌, ◌-◌, Bool, true, false, List, [], Option, Some, None, is_some, nat_lt, ◌==◌, not, ◌&&◌, slice_get, slice_index, if◌then◌else◌}
use Rattle.std.specs.Option.{option_map}
use Rattle.df1_base.specs.declared.host.Host.{Ghosts}
use Rattle.df1_base.specs.declared.host.Did.{Did}
use Rattle.df1_base.specs.declared.host.Fate.{Fate}
use Rattle.df1_base.specs.declared.host.Fate.TheVariants as fate
use Rattle.df1_base.specs.declared.host.News.{News}
use Rattle.df1_base.specs.declared.link.Act.{Act}
use Rattle.df1_base.specs.declared.link.Act.TheVariants as act
use Rattle.df1_base.specs.declared.link.Out.{Out}
use Rattle.df1_base.specs.declared.link.Step.{Step}
use Rattle.df1_base.specs.declared.link.Turn.{Turn}
use Rattle.df1_base.specs.declared.link.Turn.TheVariants as turn
use Rattle.df1_base.specs.HostAnswers.{host_told, news_of}
use Rattle.half_frame.specs.declared.heard.MasterHeard.{MasterHeard}
use Rattle.half_frame.specs.declared.heard.MasterHeard.TheVariants as heard
use Rattle.half_frame.specs.MasterStanding.{Listening, Outside, lent_at}
use Rattle.half_frame.specs.MasterStep.{next as ear_after}
use Rattle.half_frame.specs.Spelling.{message_sent, pair_bytes, poll_bytes, unmarked}
use Rattle.half_mouth.specs.Giving.{Giving, nothing, transmit, give, is_done, take}
use Rattle.pccc_envelope.specs.Envelope.{key_of}
use Rattle.pccc_envelope.specs.Accepted.{Verdict, Repeated, Accepted, Refused, judged}
use Rattle.half_master.specs.declared.MasterSetup.{MasterSetup}
use Rattle.half_master.specs.declared.stations.Station.{Station}
use Rattle.half_master.specs.declared.table.Phase.{Phase}
use Rattle.half_master.specs.declared.table.Phase.TheVariants as phase
use Rattle.half_master.specs.declared.table.Effect.{Effect}
use Rattle.half_master.specs.declared.table.Effect.TheVariants as effect
use Rattle.half_master.specs.Stations.{listed, is_listed, with_key, place_after}

-- a master: its list and the place in it of the station that is polled next; its ear; its phase, which counts once no byte is left to be given; what it has to give; the body of the transmission that was begun last (empty where none was); and its host
pub record MasterState (H : Type 0) : Type 0 where
  pub setup : MasterSetup
  pub stations : List Station
  pub next : ℕ
  pub ear : Listening
  pub phase : Phase
  pub mouth : Giving
  pub sending : List ℕ
  pub host : H

-- a master that has heard and given nothing
abbrev pub new_master : {H : Type 0} → MasterSetup → List ℕ → H → MasterState H
new_master setup numbers host = record {
  setup = setup;
  stations = listed numbers;
  next = 0;
  ear = record { check = setup.check; standing = Outside };
  phase = phase.Idle;
  mouth = nothing;
  sending = [];
  host = host;
}

-- the master with another host
abbrev pub with_host : {H : Type 0} → MasterState H → H → MasterState H
with_host e host = record e { host = host }

-- a message is on its way, neither acknowledged nor given up
abbrev pub has_message : Phase → Bool
has_message phase.Idle = false
has_message (phase.WaitsForAck left resent) = true
has_message (phase.WaitsAfterPoll left place) = false

-- the master has a message of its host that was neither acknowledged nor given up
abbrev pub holds_message : {H : Type 0} → MasterState H → Bool
holds_message e = has_message e.phase

-- the station that is being polled, or is to answer its poll
abbrev pub polled_by : List Station → Phase → Option ℕ
polled_by stations phase.Idle = None
polled_by stations (phase.WaitsForAck left resent) = None
polled_by stations (phase.WaitsAfterPoll left place) = option_map (λ station. station.number) (slice_get stations place)

abbrev pub polled_station : {H : Type 0} → MasterState H → Option ℕ
polled_station e = polled_by e.stations e.phase

-- the body that is lent
abbrev pub body_of : {H : Type 0} → MasterState H → List ℕ
body_of e = lent_at e.ear.standing

-- ---- the table: what is done about a thing that is heard, and about a tick

-- a message that wasn't acknowledged is given again, at most max_resends times, and else given up
abbrev pub unacknowledged : MasterSetup → ℕ → Effect
unacknowledged setup resent = if nat_lt resent setup.max_resends then effect.Again (resent + 1) else effect.GivenUp

-- a message of the polled station was judged
abbrev pub effect_of_verdict : ℕ → Verdict → Effect
effect_of_verdict place Repeated = effect.Repeated
effect_of_verdict place Accepted = effect.Accepted place
effect_of_verdict place Refused = effect.Refused

-- a message is judged beside the key of the polled station where it is that station's, and else passed over
abbrev pub answered : (List ℕ → Bool) → ℕ → Option Station → List ℕ → Effect
answered room place None body = effect.Nothing
answered room place (Some station) body =
    if slice_index body 1 == station.number then effect_of_verdict place (judged station.kept (record { body = body; has_room = room body })) else effect.Nothing

-- what is heard in a wait for ACK
abbrev pub effect_on_message : MasterSetup → ℕ → Option MasterHeard → Effect
effect_on_message setup resent (Some heard.Ack) = effect.Delivered
effect_on_message setup resent (Some heard.Nak) = unacknowledged setup resent
effect_on_message setup resent _ = effect.Nothing

-- what is heard in a wait after a poll
abbrev pub effect_on_poll : Effect → Option MasterHeard → Effect
effect_on_poll good (Some heard.Eot) = effect.PollOver
effect_on_poll good (Some heard.Good) = good
effect_on_poll good (Some heard.Damaged) = effect.Damaged
effect_on_poll good _ = effect.Nothing

-- what is heard, by the phase
abbrev pub effect_in : {H : Type 0} → Ghosts H → MasterState H → Option MasterHeard → Phase → Effect
effect_in m e what phase.Idle = effect.Nothing
effect_in m e what (phase.WaitsForAck left resent) = effect_on_message e.setup resent what
effect_in m e what (phase.WaitsAfterPoll left place) = effect_on_poll (answered (m.room_for e.host) place (slice_get e.stations place) (body_of e)) what

-- what is heard while bytes are given is passed over
abbrev pub effect_heard : {H : Type 0} → Ghosts H → MasterState H → Option MasterHeard → Effect
effect_heard m e what = if is_done e.mouth then effect_in m e what e.phase else effect.Nothing

-- a tick, by the phase: in Idle where the host is ready nothing at all is done
abbrev pub effect_of_tick : MasterSetup → Bool → Phase → Effect
effect_of_tick setup ready phase.Idle = if ready then effect.Nothing else effect.Polls
effect_of_tick setup ready (phase.WaitsForAck left resent) = if nat_lt 1 left then effect.Waits (left - 1) else unacknowledged setup resent
effect_of_tick setup ready (phase.WaitsAfterPoll left place) = if nat_lt 1 left then effect.Waits (left - 1) else effect.PollOver

-- a tick that comes while bytes are given is passed over
abbrev pub effect_at_tick : {H : Type 0} → Ghosts H → MasterState H → Effect
effect_at_tick m e = if is_done e.mouth then effect_of_tick e.setup (is_some (m.next_body e.host)) e.phase else effect.Nothing

-- ---- what an effect does to the parts

-- the same phase with so many ticks left
abbrev pub with_left : ℕ → Phase → Phase
with_left left phase.Idle = phase.Idle
with_left left (phase.WaitsForAck _ resent) = phase.WaitsForAck left resent
with_left left (phase.WaitsAfterPoll _ place) = phase.WaitsAfterPoll left place

-- a message is given, whose first byte is its station's number; then its ACK is waited for, with all ticks left
abbrev pub transmitted : {H : Type 0} → MasterState H → ℕ → MasterState H
transmitted e resent = record e {
  phase = phase.WaitsForAck e.setup.ack_ticks resent;
  mouth = transmit e.mouth (message_sent e.setup.check (slice_index e.sending 0) e.sending);
}

-- DLE ACK is given, and then the master is idle
abbrev pub acknowledged : {H : Type 0} → MasterState H → MasterState H
acknowledged e = record e { phase = phase.Idle; mouth = give e.mouth (unmarked (pair_bytes 6)) }

-- a station is polled, if there is one; then its answer is waited for, with all ticks left
abbrev pub polled : {H : Type 0} → MasterState H → Option Station → MasterState H
polled e None = e
polled e (Some station) = record e {
  next = place_after e.stations e.next;
  phase = phase.WaitsAfterPoll e.setup.poll_ticks e.next;
  mouth = give e.mouth (unmarked (poll_bytes station.number));
}

-- the master after an effect, but for its host
abbrev pub performed : {H : Type 0} → MasterState H → Effect → MasterState H
performed e effect.Nothing = e
performed e (effect.Waits left) = record e { phase = with_left left e.phase }
performed e effect.Delivered = record e { phase = phase.Idle }
performed e (effect.Again resent) = transmitted e resent
performed e effect.GivenUp = record e { phase = phase.Idle }
performed e effect.PollOver = record e { phase = phase.Idle }
performed e (effect.Accepted place) = acknowledged (record e { stations = with_key e.stations place (key_of (body_of e)) })
performed e effect.Repeated = acknowledged e
performed e effect.Refused = e
performed e effect.Damaged = e
performed e effect.Polls = polled e (slice_get e.stations e.next)

-- what the host did with an accepted message
abbrev pub did_at : {H : Type 0} → Ghosts H → Effect → H → List ℕ → Option Did
did_at m (effect.Accepted place) host body = Some (m.did host body)
did_at m _ host body = None

-- the host takes an accepted message
abbrev pub host_accepted : {H : Type 0} → Ghosts H → Effect → H → List ℕ → H
host_accepted m (effect.Accepted place) host body = m.after_accept host body
host_accepted m _ host body = host

-- the fate that is told
abbrev pub fate_of : Effect → Option Fate
fate_of effect.Delivered = Some fate.Delivered
fate_of effect.GivenUp = Some fate.Undelivered
fate_of _ = None

-- the host's tick, which comes with a poll alone, and the commands that are unanswered from it on
abbrev pub host_ticked : {H : Type 0} → Ghosts H → Effect → H → H
host_ticked m effect.Polls host = m.after_tick host
host_ticked m _ host = host

abbrev pub gone_of : {H : Type 0} → Ghosts H → Effect → H → List ℕ
gone_of m effect.Polls host = m.unanswered host
gone_of m _ host = []

-- ---- a byte

-- the ear takes the byte
abbrev pub with_byte : {H : Type 0} → MasterState H → ℕ → MasterState H
with_byte e b = record e { ear = (ear_after 250 e.ear b).0 }

-- what is heard at it, and what is done about that
abbrev pub heard_at : {H : Type 0} → MasterState H → ℕ → Option MasterHeard
heard_at e b = (ear_after 250 e.ear b).1

abbrev pub effect_of_byte : {H : Type 0} → Ghosts H → MasterState H → ℕ → Effect
effect_of_byte m e b = effect_heard m (with_byte e b) (heard_at e b)

-- the master after a byte
abbrev pub master_after_byte : {H : Type 0} → Ghosts H → MasterState H → ℕ → MasterState H
master_after_byte m e b =
    let what = effect_of_byte m e b in
    let host = host_told m (fate_of what) (host_accepted m what e.host (body_of (with_byte e b))) in
    performed (with_host (with_byte e b) host) what

-- an ACK or a NAK is told whatever is done about it
abbrev pub act_heard : Option MasterHeard → Act
act_heard (Some heard.Ack) = act.PeerAck
act_heard (Some heard.Nak) = act.PeerNak
act_heard _ = act.Nothing

abbrev pub act_of : Effect → Option MasterHeard → Act
act_of (effect.Accepted place) what = act.Accept
act_of effect.Repeated what = act.Repeat
act_of effect.Refused what = act.Refuse
act_of effect.Damaged what = act.Damaged
act_of _ what = act_heard what

abbrev pub is_good : Option MasterHeard → Bool
is_good (Some heard.Good) = true
is_good _ = false

-- what is told of a byte
abbrev pub step_at_byte : {H : Type 0} → Ghosts H → MasterState H → ℕ → Step
step_at_byte m e b =
    let what = effect_of_byte m e b in
    let body = body_of (with_byte e b) in
    record {
      act = act_of what (heard_at e b);
      did = did_at m what e.host body;
      news = news_of m (fate_of what) (host_accepted m what e.host body);
      whole = is_good (heard_at e b);
      station = 0;
    }

-- ---- a tick

-- the master after a tick
abbrev pub master_after_tick : {H : Type 0} → Ghosts H → MasterState H → MasterState H
master_after_tick m e =
    let what = effect_at_tick m e in
    let host = host_told m (fate_of what) (host_ticked m what e.host) in
    performed (with_host e host) what

-- what is told of a tick: it is Failed exactly where the message was given up
abbrev pub turn_told : Effect → News → Turn
turn_told effect.GivenUp answer = turn.Failed answer
turn_told _ answer = turn.Still

abbrev pub turn_at_tick : {H : Type 0} → Ghosts H → MasterState H → Turn
turn_at_tick m e = let what = effect_at_tick m e in turn_told what (news_of m (fate_of what) (host_ticked m what e.host))

-- the commands that are unanswered from a tick on
abbrev pub gone_at_tick : {H : Type 0} → Ghosts H → MasterState H → List ℕ
gone_at_tick m e = gone_of m (effect_at_tick m e) e.host

-- ---- a take

abbrev pub is_idle : Phase → Bool
is_idle phase.Idle = true
is_idle _ = false

-- the message that a take begins: the host's next, where nothing is left to be given and the master is idle
abbrev pub message_next : {H : Type 0} → Ghosts H → MasterState H → Option (List ℕ)
message_next m e = if is_done e.mouth && is_idle e.phase then m.next_body e.host else None

-- a message that was handed out: one for a station of the list is given, and another is told as undelivered
abbrev pub begun_with : {H : Type 0} → Ghosts H → MasterState H → List ℕ → MasterState H
begun_with m e body =
    if is_listed e.stations (slice_index body 0)
    then transmitted (record e { sending = body }) 0
    else with_host e (m.after_told e.host fate.Undelivered)

-- the host's next message is handed out, if there is one
abbrev pub begun_of : {H : Type 0} → Ghosts H → MasterState H → Option (List ℕ) → MasterState H
begun_of m e None = e
begun_of m e (Some body) = begun_with m (with_host e (m.after_next e.host)) body

abbrev pub begun : {H : Type 0} → Ghosts H → MasterState H → MasterState H
begun m e = begun_of m e (message_next m e)

-- the next byte is given of what there is
abbrev pub given_next : {H : Type 0} → MasterState H → MasterState H
given_next e = record e { mouth = (take e.mouth).0 }

-- the master after a take
abbrev pub master_after_take : {H : Type 0} → Ghosts H → MasterState H → MasterState H
master_after_take m e = given_next (begun m e)

-- the byte that a take gives
abbrev pub out_at_take : {H : Type 0} → Ghosts H → MasterState H → Option Out
out_at_take m e = (take (begun m e).mouth).1

-- no byte is left to be given, and the master isn't idle with a host that is ready
abbrev pub is_quiet : {H : Type 0} → Ghosts H → MasterState H → Bool
is_quiet m e = is_done e.mouth && not (is_idle e.phase && is_some (m.next_body e.host))
