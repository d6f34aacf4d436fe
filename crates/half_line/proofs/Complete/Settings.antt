-- In every run: how the master's commands may be out and how long a reply is waited for, and how many replies may wait at a station, stay as they were set; and no more commands are out than may be.
use Rattle.std.proofs.Common.{◌≡◌, ◌∙◌, ℕ, zero, suc, ◌+◌, ◌-◌, ◌≤◌, Bool, true, false, cond, nat_lt, List, [], ◌∷◌, ◌++◌, is_some, Option, Some, None, refl, ap, sym, arith}
use Rattle.std.specs.Prelude.{slice_get, if◌then◌else◌}
use Rattle.std.specs.Option.{option_map_or}
use Rattle.std.proofs.lemmas.Bool.{ltb-true}
use Rattle.std.proofs.lemmas.List.Sums.{sum_by-cons}
use Rattle.df1_base.specs.declared.host.Fate.{Fate}
use Rattle.df1_base.specs.declared.host.Fate.TheVariants as fate
use Rattle.half_frame.specs.declared.heard.SlaveHeard.{SlaveHeard}
use Rattle.half_frame.specs.declared.heard.SlaveHeard.TheVariants as heard
use Rattle.pccc_envelope.specs.Accepted.{Verdict, Repeated, Accepted, Refused}
use Rattle.pccc_envelope.specs.Envelope.{is_reply}
use Rattle.df1_node.specs.declared.handed.Handed.{Handed}
use Rattle.df1_node.specs.declared.handed.Handed.TheVariants as handed
use Rattle.df1_node.specs.Initiator.{Issued, Standing, Waiting, Out, Answered, Undelivered, Unanswered, InitiatorState, is_out, is_out_at, restated, ticked, all_ticked, count_out, next_place, answered_place, after_issue, after_hand_out, after_reply, after_give_up, next_issued}
use Rattle.df1_node.specs.Node.{NodeState, after_accept, after_next, after_told, initiator_after}
use Rattle.half_slave.specs.declared.held.Held.{Held}
use Rattle.half_slave.specs.Slave.{SlaveState, told, verdict, received, offered, answered, polled, fate_at_poll, fate_at_ack, fate_at_reset, is_own, is_answered, heard_at, listened, slave_after_heard, slave_after_byte}
use Rattle.half_master.proofs.HostSteps.{Keeps, byte-keeps, tick-keeps, take-keeps}
use Rattle.script_parts.specs.declared.script.Event.{Event}
use Rattle.lane_cells.specs.Cells.{LaneCell}
use Rattle.each_once.specs.NodeHost.{node_host}
use Rattle.each_once.proofs.CommandCounts.{one_if, out_now, count-more}
use Rattle.each_once.proofs.Sublists.{from-map}
use Rattle.half_line.specs.Behind.{plain_node}
use Rattle.half_line.specs.declared.way.Way.{Way}
use Rattle.half_line.specs.declared.way.Way.TheVariants.{ToStation, ToMaster}
use Rattle.half_line.specs.Acts.{LineStationState, HalfState, LinkState, Issue, Give, Tick, LinkDeed, LaneDeed, StationGives, OnLane, joined, cells_given, lane_of, arriving, moved, after_arrival, after_link_deed}
use Rattle.half_line.specs.Steps.{UnitStep, AtMaster, AtStation, link_of, after_with, after_step, after_steps}
use Rattle.half_line.specs.Run.{steps_of, after_event, state_after}
use Rattle.half_line.proofs.Complete.StagePlaces.{at-place}

-- ---- how many commands are out

count-cons : (c : Issued) (cs : List Issued) → count_out (c ∷ cs) ≡ one_if (is_out c.standing) + count_out cs
count-cons c cs = sum_by-cons (λ (x : Issued). cond (is_out x.standing) 1 0) c cs

-- one stands otherwise: at most that one more
restated-most : (issued : List Issued) (p : ℕ) (x : Standing) → count_out (restated issued p x) ≤ count_out issued + one_if (is_out x)
restated-most [] p x = omega arith
restated-most (c ∷ cs) zero x =
    let now = count-cons (record c { standing = x }) cs in
    let was = count-cons c cs in
    omega (arith, now, was)
restated-most (c ∷ cs) (suc p) x =
    let now = count-cons c (restated cs p x) in
    let was = count-cons c cs in
    let later = restated-most cs p x in
    omega (arith, now, was, later)

ticked-most : (x : Standing) → one_if (is_out (ticked x)) ≤ one_if (is_out x)
ticked-most Waiting = omega arith
ticked-most (Out left) = elim (nat_lt 1 left) as (λ b. one_if (is_out (cond b (Out (left - 1)) Unanswered)) ≤ 1) [ true ↦ omega arith | false ↦ omega arith ]
ticked-most (Answered reply) = omega arith
ticked-most Undelivered = omega arith
ticked-most Unanswered = omega arith

all-ticked-most : (issued : List Issued) → count_out (all_ticked issued) ≤ count_out issued
all-ticked-most [] = omega arith
all-ticked-most (c ∷ cs) =
    let now = count-cons (record c { standing = ticked c.standing }) (all_ticked cs) in
    let was = count-cons c cs in
    let here = ticked-most c.standing in
    let later = all-ticked-most cs in
    omega (arith, now, was, here, later)

-- ---- an initiator

-- a later one is set up as an earlier, and has no more out than may be, where that had not
pub record IsSetAs (i later : InitiatorState) : Type 0 where
  pub window : later.window ≡ i.window
  pub per_source : later.per_source ≡ i.per_source
  pub reply_ticks : later.reply_ticks ≡ i.reply_ticks
  pub few : count_out i.issued ≤ i.window → count_out later.issued ≤ later.window

set-itself : (i : InitiatorState) → IsSetAs i i
set-itself i = record { window = refl; per_source = refl; reply_ticks = refl; few = λ few. few }

set-both : (i later last : InitiatorState) → IsSetAs i later → IsSetAs later last → IsSetAs i last
set-both i later last first second = record {
  window = second.window ∙ first.window;
  per_source = second.per_source ∙ first.per_source;
  reply_ticks = second.reply_ticks ∙ first.reply_ticks;
  few = λ few. second.few (first.few few);
}

-- with other commands, of which no more are out
set-fewer : (i : InitiatorState) (issued : List Issued) → count_out issued ≤ count_out i.issued → IsSetAs i (record i { issued = issued })
set-fewer i issued fewer = record { window = refl; per_source = refl; reply_ticks = refl; few = λ few. omega (arith, fewer, few) }

set-issue : (i : InitiatorState) (src dst : ℕ) (payload : List ℕ) → IsSetAs i (after_issue i src dst payload)
set-issue i src dst payload =
    let new : Issued = record { body = next_issued i src dst payload; standing = Waiting } in
    let more = count-more out_now i.issued new in
    set-fewer i (i.issued ++ new ∷ []) (omega (arith, more))

set-reply : (i : InitiatorState) (reply : List ℕ) → IsSetAs i (after_reply i reply)
set-reply i reply = by-place (answered_place i.issued reply)
  where
    by-place : (o : Option ℕ) → IsSetAs i (record i { issued = option_map_or (λ p. restated i.issued p (Answered reply)) o i.issued })
    by-place None = set-itself i
    by-place (Some p) = set-fewer i (restated i.issued p (Answered reply)) (let most = restated-most i.issued p (Answered reply) in omega (arith, most))

set-give_up : (i : InitiatorState) (place : ℕ) → IsSetAs i (after_give_up i place)
set-give_up i place = by-out (is_out_at i.issued place)
  where
    by-out : (out : Bool) → IsSetAs i (record i { issued = if out then restated i.issued place Undelivered else i.issued })
    by-out true = set-fewer i (restated i.issued place Undelivered) (let most = restated-most i.issued place Undelivered in omega (arith, most))
    by-out false = set-itself i

-- the next is handed out only where fewer are out than may be
none-place : (may : Bool) (o : Option ℕ) (p : ℕ) → (if may then o else None) ≡ Some p → may ≡ true
none-place true o p is = refl
none-place false o p is = absurd cc

set-hand_out : (i : InitiatorState) → IsSetAs i (after_hand_out i)
set-hand_out i = by-place (next_place i) refl
  where
    by-place : (o : Option ℕ) → next_place i ≡ o → IsSetAs i (record i { issued = option_map_or (λ p. restated i.issued p (Out i.reply_ticks)) o i.issued })
    by-place None is = set-itself i
    by-place (Some p) is =
        let room = ltb-true (count_out i.issued) i.window (none-place (nat_lt (count_out i.issued) i.window) _ p is) in
        let most = restated-most i.issued p (Out i.reply_ticks) in
        record { window = refl; per_source = refl; reply_ticks = refl; few = λ few. omega (arith, most, room) }

-- ---- a node

set-last : (i : InitiatorState) (last : Handed) → IsSetAs i (initiator_after i last)
set-last i handed.Nothing = set-itself i
set-last i handed.Reply = set-itself i
set-last i (handed.Command place) = set-give_up i place

set-told : (node : NodeState) (what : Fate) → IsSetAs node.initiator (after_told node what).initiator
set-told node fate.Delivered = set-itself node.initiator
set-told node fate.Undelivered = set-last node.initiator node.last

set-accept : (node : NodeState) (body : List ℕ) → IsSetAs node.initiator (after_accept node body).initiator
set-accept node body = by-kind (is_reply body)
  where
    by-kind : (reply : Bool) → IsSetAs node.initiator (if reply then after_reply node.initiator body else node.initiator)
    by-kind true = set-reply node.initiator body
    by-kind false = set-itself node.initiator

set-next : (node : NodeState) → IsSetAs node.initiator (after_next node).initiator
set-next node = by-reply (is_some (slice_get node.replies 0))
  where
    by-reply : (reply : Bool) → IsSetAs node.initiator (if reply then node.initiator else after_hand_out node.initiator)
    by-reply true = set-itself node.initiator
    by-reply false = set-hand_out node.initiator

set-keeps : Keeps node_host (λ (host later : NodeState). IsSetAs host.initiator later.initiator)
set-keeps = record {
  same = λ host. set-itself host.initiator;
  both = λ host later last. set-both host.initiator later.initiator last.initiator;
  accept = set-accept;
  told = set-told;
  next = set-next;
  tick = λ host. set-fewer host.initiator (all_ticked host.initiator.issued) (all-ticked-most host.initiator.issued);
}

-- ---- a station: how many replies may wait

room-told : (s : SlaveState NodeState) (what : Option Fate) → (told node_host s what).host.room ≡ s.host.room
room-told s None = refl
room-told s (Some fate.Delivered) = refl
room-told s (Some fate.Undelivered) = refl

room-received : (s : SlaveState NodeState) (own : Bool) (v : Verdict) → (if own then received node_host s v else s).host.room ≡ s.host.room
room-received s true Repeated = refl
room-received s true Accepted = refl
room-received s true Refused = refl
room-received s false v = refl

room-offered : (s : SlaveState NodeState) (next : Option (List ℕ)) → (offered node_host s next).host.room ≡ s.host.room
room-offered s None = refl
room-offered s (Some body) = refl

room-answered : (s : SlaveState NodeState) (held : Option Held) → (answered node_host s held).host.room ≡ s.host.room
room-answered s (Some message) = refl
room-answered s None = room-offered s (node_host.next_body s.host)

room-polled : (s : SlaveState NodeState) (answers : Bool) → (if answers then polled node_host s else s).host.room ≡ s.host.room
room-polled s true = let after = told node_host s (fate_at_poll s.setup.max_sends s.held) in room-answered after after.held ∙ room-told s (fate_at_poll s.setup.max_sends s.held)
room-polled s false = refl

room-heard : (s : SlaveState NodeState) (what : Option SlaveHeard) → (slave_after_heard node_host s what).host.room ≡ s.host.room
room-heard s None = refl
room-heard s (Some (heard.Addressed stn)) = room-received s (is_own s stn) (verdict node_host s)
room-heard s (Some (heard.Header stn)) = refl
room-heard s (Some (heard.Poll stn)) = room-polled s (is_answered s stn)
room-heard s (Some heard.BadPoll) = refl
room-heard s (Some (heard.Damaged stn)) = refl
room-heard s (Some heard.Ack) = room-told s (fate_at_ack s.held)
room-heard s (Some heard.Reset) = room-told s (fate_at_reset s.held)
room-heard s (Some (heard.Stray b)) = refl
room-heard s (Some (heard.StrayPair code)) = refl

room-byte : (s : SlaveState NodeState) (b : ℕ) → (slave_after_byte node_host s b).host.room ≡ s.host.room
room-byte s b = room-heard (listened s b) (heard_at s b)

-- ---- the line

-- the station at a place may have as many replies waiting as the one that was there
abbrev pub HadRoom : HalfState NodeState → ℕ → LineStationState → Type 0
HadRoom s p side = (was : LineStationState) × (slice_get s.stations p ≡ Some was) × (side.slave.host.room ≡ was.slave.host.room)

-- a later state is set up as an earlier
pub record AreSetAs (s later : HalfState NodeState) : Type 0 where
  pub master : IsSetAs s.master.host.initiator later.master.host.initiator
  pub rooms : (p : ℕ) (side : LineStationState) → slice_get later.stations p ≡ Some side → HadRoom s p side

are-itself : (s : HalfState NodeState) → AreSetAs s s
are-itself s = record { master = set-itself s.master.host.initiator; rooms = λ p side at. (side, at, refl) }

are-both : (s later last : HalfState NodeState) → AreSetAs s later → AreSetAs later last → AreSetAs s last
are-both s later last first second = record {
  master = set-both s.master.host.initiator later.master.host.initiator last.master.host.initiator first.master second.master;
  rooms = λ p side at.
      let now = second.rooms p side at in
      let was = first.rooms p now.0 now.1 in
      (was.0, was.1, now.2 ∙ was.2);
}

-- what happens with one station
arrival-set : (way : Way) (s : LinkState NodeState) (o : Option LaneCell) → IsSetAs s.master.host.initiator (after_arrival plain_node way s o).master.host.initiator
arrival-set way s None = set-itself s.master.host.initiator
arrival-set ToStation s (Some cell) = set-itself s.master.host.initiator
arrival-set ToMaster s (Some cell) = byte-keeps node_host _ set-keeps s.master cell.byte

arrival-room : (way : Way) (s : LinkState NodeState) (o : Option LaneCell) → (after_arrival plain_node way s o).side.slave.host.room ≡ s.side.slave.host.room
arrival-room way s None = refl
arrival-room ToStation s (Some cell) = room-byte s.side.slave cell.byte
arrival-room ToMaster s (Some cell) = refl

moved-room : (way : Way) (s : LinkState NodeState) (deed : LaneDeed) → (moved way s deed).side.slave.host.room ≡ s.side.slave.host.room
moved-room ToStation s deed = refl
moved-room ToMaster s deed = refl

link-set : (s : LinkState NodeState) (deed : LinkDeed) → IsSetAs s.master.host.initiator (after_link_deed plain_node s deed).master.host.initiator
link-set s StationGives = set-itself s.master.host.initiator
link-set s (OnLane way deed) = arrival-set way (moved way s deed) (arriving (lane_of way s.side) deed)

link-room : (s : LinkState NodeState) (deed : LinkDeed) → (after_link_deed plain_node s deed).side.slave.host.room ≡ s.side.slave.host.room
link-room s StationGives = refl
link-room s (OnLane way deed) = arrival-room way (moved way s deed) (arriving (lane_of way s.side) deed) ∙ moved-room way s deed

with-set : (s : HalfState NodeState) (place : ℕ) (deed : LinkDeed) (o : Option LineStationState) → slice_get s.stations place ≡ o → AreSetAs s (after_with plain_node s place deed o)
with-set s place deed None at = are-itself s
with-set s place deed (Some side) at = record {
  master = link-set (link_of s side) deed;
  rooms = at-place (λ p x. HadRoom s p x) s.stations place side (after_link_deed plain_node (link_of s side) deed).side at (side, at, link-room (link_of s side) deed) (λ p other there differ. (other, there, refl));
}

-- anything
step-set : (s : HalfState NodeState) (step : UnitStep) → AreSetAs s (after_step plain_node s step)
step-set s (AtMaster (Issue src dst payload)) = record { master = set-issue s.master.host.initiator _ dst payload; rooms = λ p side at. (side, at, refl) }
step-set s (AtMaster Give) = record {
  master = take-keeps node_host _ set-keeps s.master;
  rooms = λ p side at.
      let was = from-map (joined (cells_given plain_node s.master)) s.stations p side at in
      (was.0, was.1, ap (λ (x : LineStationState). x.slave.host.room) (sym was.2));
}
step-set s (AtMaster Tick) = record { master = tick-keeps node_host _ set-keeps s.master; rooms = λ p side at. (side, at, refl) }
step-set s (AtStation place deed) = with-set s place deed (slice_get s.stations place) refl

steps-set : (s : HalfState NodeState) (steps : List UnitStep) → AreSetAs s (after_steps plain_node s steps)
steps-set s [] = are-itself s
steps-set s (step ∷ steps) = are-both s (after_step plain_node s step) (after_steps plain_node (after_step plain_node s step) steps) (step-set s step) (steps-set (after_step plain_node s step) steps)

pub settings-kept : (s : HalfState NodeState) (events : List Event) → AreSetAs s (state_after plain_node s events)
settings-kept s [] = are-itself s
settings-kept s (e ∷ events) = are-both s (after_event plain_node s e) (state_after plain_node (after_event plain_node s e) events) (steps-set s (steps_of s e)) (settings-kept (after_event plain_node s e) events)
