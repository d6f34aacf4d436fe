-- A unit of time passes while something is awaited: the wait goes on, for its ticks that weren't late are not used up.
use Rattle.std.proofs.Common.{◌≡◌, ◌∙◌, ℕ, ◌+◌, ◌-◌, ◌<◌, ◌≤◌, Bool, true, false, List, [], ◌++◌, refl, ap, sym, subst, arith}
use Rattle.df1_node.specs.Node.{NodeState}
use Rattle.half_frame.specs.MasterStanding.{Listening}
use Rattle.half_mouth.specs.Giving.{Giving, is_done}
use Rattle.half_master.specs.declared.MasterSetup.{MasterSetup}
use Rattle.half_master.specs.declared.table.Phase.TheVariants as phase
use Rattle.half_master.specs.Master.{MasterState}
use Rattle.half_master.proofs.Changes.{TickLeaves, tick-giving, tick-waits, tick-polled}
use Rattle.lane_cells.specs.Cells.{LaneCell}
use Rattle.each_once.specs.NodeHost.{node_host}
use Rattle.half_line.specs.Acts.{LineStationState}
use Rattle.half_line.proofs.Complete.ComingCells.{coming}
use Rattle.half_line.proofs.Complete.EarHears.{Telling, Hears}
use Rattle.half_line.proofs.Complete.StationHears.{station_ear}
use Rattle.half_line.proofs.Complete.MasterHears.{IsOutside, master_ear}
use Rattle.half_line.proofs.Complete.ReplyHeard.{rests-same}
use Rattle.half_line.proofs.Complete.StationRests.{Called}
use Rattle.half_line.proofs.Complete.StationAnswers.{Answers}
use Rattle.half_line.proofs.Complete.Stages.{tape, Awaited, Receipt, Polling, Ack, Eot, Message, a_message, a_poll, an_ack, an_eot, a_reply, Comes, Returns, Progress, Expects, WaitsForAck, WaitsAfterPoll, Waits, Now, Idles, Awaits, Stage}

-- ---- beside another state of the master that hears and gives the same

pub record IsAlike (m after : MasterState NodeState) : Type 0 where
  pub ear : after.ear ≡ m.ear
  pub mouth : after.mouth ≡ m.mouth
  pub sending : after.sending ≡ m.sending

tape-same : (m after : MasterState NodeState) (side : LineStationState) → IsAlike m after → tape m side ≡ tape after side
tape-same m after side a = ap (λ (g : Giving). side.to_it ++ coming g m.sending) (sym a.mouth) ∙ ap (λ (body : List ℕ). side.to_it ++ coming after.mouth body) (sym a.sending)

comes-same : (m after : MasterState NodeState) (side : LineStationState) (call : Telling station_ear) → IsAlike m after → Comes m side call → Comes after side call
comes-same m after side call a c = record {
  called = subst (λ (cells : List LaneCell). Called side.slave cells call) (tape-same m after side a) c.called;
  none_back = c.none_back;
  outside = subst (λ (ear : Listening). IsOutside ear.standing) (sym a.ear) c.outside;
}

returns-same : (m after : MasterState NodeState) (side : LineStationState) (reply : Telling master_ear) → IsAlike m after → Returns m side reply → Returns after side reply
returns-same m after side reply a r = record {
  hears = subst (λ (cells : List LaneCell). Hears station_ear side.slave.ear cells []) (tape-same m after side a) r.hears;
  answers = subst (λ (ear : Listening). Answers side.slave side.from_it ear reply) (sym a.ear) r.answers;
}

progress-same : (m after : MasterState NodeState) (side : LineStationState) (awaited : Awaited) → IsAlike m after → Progress m side awaited → Progress after side awaited
progress-same m after side (Receipt body) a c = comes-same m after side (a_message side.number body) a c
progress-same m after side Polling a c = comes-same m after side (a_poll side.number) a c
progress-same m after side Ack a r = returns-same m after side an_ack a r
progress-same m after side Eot a r = returns-same m after side an_eot a r
progress-same m after side (Message body) a r = returns-same m after side (a_reply body) a r

pub expects-same : (m after : MasterState NodeState) (stations : List LineStationState) (place : ℕ) (awaited : Awaited) → IsAlike m after → Expects m stations place awaited → Expects after stations place awaited
expects-same m after stations place awaited a e = record {
  side = e.side;
  is_at = e.is_at;
  called = record {
    own = e.called.own;
    check = e.called.check ∙ ap (λ (ear : Listening). ear.check) (sym a.ear);
    line = e.called.line ∙ ap (λ (ear : Listening). ear.check) (sym a.ear);
    progress = progress-same m after e.side awaited a e.called.progress;
  };
  others = λ p other at differ. rests-same m after other (ap (λ (ear : Listening). ear.check) a.ear) a.mouth a.sending (e.others p other at differ);
}

-- so is a wait, where it is in the same phase and set up as it was
ack-alike : (late : ℕ) (m after : MasterState NodeState) → after.phase ≡ m.phase → after.setup ≡ m.setup → WaitsForAck late m → WaitsForAck late after
ack-alike late m after phase setup w = record { left = w.left; resent = w.resent; phase = phase ∙ w.phase; patient = subst (λ (x : MasterSetup). x.ack_ticks ≤ w.left + late) (sym setup) w.patient }

poll-alike : (late : ℕ) (m after : MasterState NodeState) (place : ℕ) → after.phase ≡ m.phase → after.setup ≡ m.setup → WaitsAfterPoll late m place → WaitsAfterPoll late after place
poll-alike late m after place phase setup w = record { left = w.left; phase = phase ∙ w.phase; patient = subst (λ (x : MasterSetup). x.poll_ticks ≤ w.left + late) (sym setup) w.patient }

pub waits-alike : (late : ℕ) (m after : MasterState NodeState) (place : ℕ) (awaited : Awaited) → after.phase ≡ m.phase → after.setup ≡ m.setup → Waits late m place awaited → Waits late after place awaited
waits-alike late m after place (Receipt body) phase setup w = ack-alike late m after phase setup w
waits-alike late m after place Ack phase setup w = ack-alike late m after phase setup w
waits-alike late m after place Polling phase setup w = poll-alike late m after place phase setup w
waits-alike late m after place Eot phase setup w = poll-alike late m after place phase setup w
waits-alike late m after place (Message body) phase setup w = poll-alike late m after place phase setup w

-- and the stage
pub stage-alike : (late : ℕ) (m after : MasterState NodeState) (stations : List LineStationState) (now : Now) → IsAlike m after → after.phase ≡ m.phase → after.setup ≡ m.setup → Stage late m stations now → Stage late after stations now
stage-alike late m after stations Idles a phase setup s = record {
  idle = phase ∙ s.idle;
  outside = subst (λ (ear : Listening). IsOutside ear.standing) (sym a.ear) s.outside;
  rest = λ p side at. rests-same m after side (ap (λ (ear : Listening). ear.check) a.ear) a.mouth a.sending (s.rest p side at);
}
stage-alike late m after stations (Awaits place awaited) a phase setup s = record {
  waits = waits-alike late m after place awaited phase setup s.waits;
  expects = expects-same m after stations place awaited a s.expects;
}

-- ---- a late tick of a wait

-- it leaves a master of which this is so, and nothing is given up
pub record Waited (m : MasterState NodeState) (W : MasterState NodeState → Type 0) : Type 0 where
  pub after : MasterState NodeState
  pub leaves : TickLeaves node_host m after []
  pub host : after.host ≡ m.host
  pub stations_are : after.stations ≡ m.stations
  pub alike : IsAlike m after
  pub setup : after.setup ≡ m.setup
  pub next_is : after.next ≡ m.next
  pub waits : W after

ack-by : (late : ℕ) (m : MasterState NodeState) (done : Bool) → is_done m.mouth ≡ done → late + 1 < m.setup.ack_ticks → WaitsForAck late m → Waited m (λ after. WaitsForAck (late + 1) after)
ack-by late m false gives few w = record {
  after = m;
  leaves = tick-giving node_host m gives;
  host = refl;
  stations_are = refl;
  alike = record { ear = refl; mouth = refl; sending = refl };
  setup = refl;
  next_is = refl;
  waits = record { left = w.left; resent = w.resent; phase = w.phase; patient = omega (arith, w.patient) };
}
ack-by late m true done few w = record {
  after = record m { phase = phase.WaitsForAck (w.left - 1) w.resent };
  leaves = tick-waits node_host m w.left w.resent done w.phase (omega (arith, w.patient, few));
  host = refl;
  stations_are = refl;
  alike = record { ear = refl; mouth = refl; sending = refl };
  setup = refl;
  next_is = refl;
  waits = record { left = w.left - 1; resent = w.resent; phase = refl; patient = omega (arith, w.patient, few) };
}

poll-by : (late : ℕ) (m : MasterState NodeState) (place : ℕ) (done : Bool) → is_done m.mouth ≡ done → late + 1 < m.setup.poll_ticks → WaitsAfterPoll late m place → Waited m (λ after. WaitsAfterPoll (late + 1) after place)
poll-by late m place false gives few w = record {
  after = m;
  leaves = tick-giving node_host m gives;
  host = refl;
  stations_are = refl;
  alike = record { ear = refl; mouth = refl; sending = refl };
  setup = refl;
  next_is = refl;
  waits = record { left = w.left; phase = w.phase; patient = omega (arith, w.patient) };
}
poll-by late m place true done few w = record {
  after = record m { phase = phase.WaitsAfterPoll (w.left - 1) place };
  leaves = tick-polled node_host m w.left place done w.phase (omega (arith, w.patient, few));
  host = refl;
  stations_are = refl;
  alike = record { ear = refl; mouth = refl; sending = refl };
  setup = refl;
  next_is = refl;
  waits = record { left = w.left - 1; phase = refl; patient = omega (arith, w.patient, few) };
}

pub tick-waited : (late : ℕ) (m : MasterState NodeState) (place : ℕ) (awaited : Awaited) → late + 1 < m.setup.ack_ticks → late + 1 < m.setup.poll_ticks → Waits late m place awaited → Waited m (λ after. Waits (late + 1) after place awaited)
tick-waited late m place (Receipt body) few_ack few_poll w = ack-by late m (is_done m.mouth) refl few_ack w
tick-waited late m place Ack few_ack few_poll w = ack-by late m (is_done m.mouth) refl few_ack w
tick-waited late m place Polling few_ack few_poll w = poll-by late m place (is_done m.mouth) refl few_poll w
tick-waited late m place Eot few_ack few_poll w = poll-by late m place (is_done m.mouth) refl few_poll w
tick-waited late m place (Message body) few_ack few_poll w = poll-by late m place (is_done m.mouth) refl few_poll w
