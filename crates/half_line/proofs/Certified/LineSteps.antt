-- From any state on, over steps at which all that the master gives arrives at each station: once a command was handed out, each ear is near where what is on its way leads it, and once one is answered, in step.
use Rattle.std.proofs.Common.{◌≡◌, ◌∙◌, ℕ, Bool, true, false, List, [], ◌∷◌, ◌++◌, map, Option, Some, None, refl, ap, sym, subst, inl, inr}
use Rattle.std.specs.Prelude.{◌⊎◌, slice_get, slice_set, slice_index, if◌then◌else◌}
use Rattle.std.proofs.lemmas.Bool.{cond_both}
use Rattle.df1_base.specs.declared.host.Fate.TheVariants as fate
use Rattle.df1_base.specs.HostAnswers.{host_told}
use Rattle.df1_check.specs.declared.Check.{Check}
use Rattle.df1_node.specs.Initiator.{Standing as CommandStanding, Issued, is_out}
use Rattle.df1_node.specs.Node.{NodeState, after_accept, after_next, after_tick, after_told}
use Rattle.half_frame.specs.SlaveStanding.{Standing, Listening}
use Rattle.half_frame.specs.SlaveStep.{step}
use Rattle.half_frame.specs.declared.framer.Sent.{Sent}
use Rattle.half_frame.specs.Spelling.{bytes_of, message_sent, unmarked, pair_bytes}
use Rattle.half_slave.specs.Slave.{SlaveState, slave_after_byte}
use Rattle.half_slave.proofs.Rows.{byte-ear}
use Rattle.half_master.specs.declared.MasterSetup.{MasterSetup}
use Rattle.half_master.specs.Emission.{Byte, Tick as TickLetter}
use Rattle.half_master.specs.Master.{MasterState, body_of, with_byte, with_host, transmitted, master_after_byte, master_after_tick, master_after_take, message_next, begun_of, begun, given_next}
use Rattle.half_master.specs.Stations.{is_listed}
use Rattle.half_master.proofs.FateLemmas.{begins-when}
use Rattle.half_master.proofs.Runs.{signal-setup}
use Rattle.half_master.proofs.Seen.{accepts, passes, at-byte, at-tick}
use Rattle.lane_cells.specs.Cells.{LaneCell}
use Rattle.each_once.specs.NodeHost.{node_host}
use Rattle.half_line.specs.Behind.{plain_node}
use Rattle.half_line.specs.declared.way.Way.TheVariants.{ToStation, ToMaster}
use Rattle.half_line.specs.Acts.{LineStationState, HalfState, LinkState, half_state, link_state, MasterDeed, Issue, Give, Tick, LaneDeed, Deliver, Lose, Alter, Foreign, LinkDeed, StationGives, OnLane, joined, cells_given, after_issue, after_take, after_master_deed, after_link_deed}
use Rattle.half_line.specs.Certified.{ArrivesAt, ArrivesWith, AllArrives, AllArrivesOver, AllArrivesAfter}
use Rattle.half_line.specs.Issues.{issued_of}
use Rattle.half_line.specs.Prompt.{IsGentleOn}
use Rattle.half_line.specs.Rest.{is_between_calls}
use Rattle.half_line.specs.Run.{steps_of, after_event, state_after}
use Rattle.half_line.specs.Steps.{UnitStep, AtMaster, AtStation, link_of, after_with, after_step, after_steps}
use Rattle.script_parts.specs.declared.script.Event.{Event}
use Rattle.half_line.proofs.Complete.QuietLine.{done-left}
use Rattle.half_line.proofs.Certified.CommandStands.{is_answered, Stands, StoodSo, IsOfUse, of-out, of-answered, issue-stood, tick-stood, told-stood, accept-out, accept-answers, next-answered, refused-out}
use Rattle.half_line.proofs.Certified.EarsAhead.{Each, each-goes, each-map, each-is, each-set, each-at, ahead, StandsAhead, message-ahead, ack-ahead, begins-near, begins-in-step, ahead-given}
use Rattle.half_line.proofs.Certified.EarsInStep.{after, is_near}
use Rattle.half_line.proofs.Certified.GivenItems.{Begins, goes_on, a_message, byte-begins, accept-acknowledges, tick-begins}

-- ---- what holds

-- of one command, by its place, counted from 0: where it is out, each ear will be near, and where it is answered, in step
pub record Heeds (check : Check) (k : ℕ) (s : HalfState NodeState) : Type 0 where
  pub check_is : s.master.setup.check ≡ check
  pub checks : Each (λ side. side.slave.ear.check ≡ check) s.stations
  pub near : Stands is_out (issued_of s.master) k → Each (StandsAhead is_near check s.master.mouth.left) s.stations
  pub in_step : Stands is_answered (issued_of s.master) k → Each (StandsAhead is_between_calls check s.master.mouth.left) s.stations

-- ---- the master changes

-- what is left is one whole message
record IsFresh (check : Check) (now : List Sent) : Type 0 where
  stn : ℕ
  body : List ℕ
  is : now ≡ message_sent check stn body

-- DLE ACK is begun where nothing was left, and the command was out
record IsClosed (k : ℕ) (issued : List Issued) (before now : List Sent) : Type 0 where
  was_out : Stands is_out issued k
  none : before ≡ []
  is : now ≡ unmarked (pair_bytes 6)

-- the lanes and the ears stay
record Changes (check : Check) (k : ℕ) (m now : MasterState NodeState) : Type 0 where
  setup : now.setup ≡ m.setup
  begins : Begins check m.mouth.left now.mouth.left
  out : Stands is_out (issued_of now) k → Stands is_out (issued_of m) k ⊎ IsFresh check now.mouth.left
  answered : Stands is_answered (issued_of now) k → Stands is_answered (issued_of m) k ⊎ IsClosed k (issued_of m) m.mouth.left now.mouth.left

heeds-master : (check : Check) (k : ℕ) (m now : MasterState NodeState) (stations : List LineStationState) (d e : ℕ) → Changes check k m now → Heeds check k (half_state m stations d) → Heeds check k (half_state now stations e)
heeds-master check k m now stations d e c h =
    let before = m.mouth.left in
    let later = now.mouth.left in
    record {
      check_is = ap (λ (setup : MasterSetup). setup.check) c.setup ∙ h.check_is;
      checks = h.checks;
      near = λ out. elim (c.out out) [
        | inl was ↦ each-goes (StandsAhead is_near check before) (StandsAhead is_near check later) (λ side. begins-near check before later side c.begins) stations (h.near was)
        | inr fresh ↦ each-is (StandsAhead is_near check later) (λ side. subst (λ (left : List Sent). StandsAhead is_near check left side) (sym fresh.is) (message-ahead check fresh.stn fresh.body side)) stations
      ];
      in_step = λ answered. elim (c.answered answered) [
        | inl was ↦ each-goes (StandsAhead is_between_calls check before) (StandsAhead is_between_calls check later) (λ side. begins-in-step check before later side c.begins) stations (h.in_step was)
        | inr closed ↦
            each-goes (StandsAhead is_near check before) (StandsAhead is_between_calls check later)
            (λ side near. subst (λ (left : List Sent). StandsAhead is_between_calls check left side) (sym closed.is) (ack-ahead check side (subst (λ (left : List Sent). StandsAhead is_near check left side) closed.none near)))
            stations (h.near closed.was_out)
      ];
    }

-- another host, of which each command stood so before
changes-host : (check : Check) (k : ℕ) (m now : MasterState NodeState) (host : NodeState) → now.host ≡ host → now.setup ≡ m.setup → Begins check m.mouth.left now.mouth.left
    → StoodSo is_out (issued_of m) host.initiator.issued → (Stands is_answered host.initiator.issued k → Stands is_answered (issued_of m) k ⊎ IsClosed k (issued_of m) m.mouth.left now.mouth.left) → Changes check k m now
changes-host check k m now host is setup begins out answered = record {
  setup = setup;
  begins = begins;
  out = λ stands. inl (out k (subst (λ (h : NodeState). Stands is_out h.initiator.issued k) is stands));
  answered = λ stands. answered (subst (λ (h : NodeState). Stands is_answered h.initiator.issued k) is stands);
}

-- ---- a byte, a tick, a command more

byte-changes : (check : Check) (k : ℕ) (m : MasterState NodeState) (b : ℕ) → m.setup.check ≡ check → Changes check k m (master_after_byte node_host m b)
byte-changes check k m b is =
    let now = master_after_byte node_host m b in
    let setup = signal-setup node_host m (Byte b) in
    let begins = subst (λ (c : Check). Begins c m.mouth.left now.mouth.left) is (byte-begins node_host m b) in
    elim (at-byte node_host m b) [
      | accepts a ↦
          let body = body_of (with_byte m b) in
          let ack = accept-acknowledges node_host m b a.act in
          changes-host check k m now (after_accept m.host body) a.host setup begins (accept-out m.host body)
          (λ stands. elim (accept-answers m.host body k stands) [ inl was ↦ inl was | inr out ↦ inr (record { was_out = out; none = ack.0; is = ack.1 }) ])
      | passes o ↦ changes-host check k m now (host_told node_host o.fate m.host) o.host setup begins (told-stood is_out of-out o.fate m.host) (λ stands. inl (told-stood is_answered of-answered o.fate m.host k stands))
    ]

abbrev pub ticked_host : Bool → NodeState → NodeState
ticked_host ticked host = if ticked then after_tick host else host

pub ticked-stood : (how : CommandStanding → Bool) → IsOfUse how → (ticked : Bool) (host : NodeState) → StoodSo how host.initiator.issued (ticked_host ticked host).initiator.issued
ticked-stood how u true host k h = tick-stood how u host k h
ticked-stood how u false host k h = h

tick-changes : (check : Check) (k : ℕ) (m : MasterState NodeState) → m.setup.check ≡ check → Changes check k m (master_after_tick node_host m)
tick-changes check k m is =
    let t = at-tick node_host m in
    let now = master_after_tick node_host m in
    let host = ticked_host t.ticked m.host in
    changes-host check k m now (host_told node_host t.fate host) t.host (signal-setup node_host m TickLetter) (subst (λ (c : Check). Begins c m.mouth.left now.mouth.left) is (tick-begins node_host m))
    (λ p stands. ticked-stood is_out of-out t.ticked m.host p (told-stood is_out of-out t.fate host p stands))
    (λ stands. inl (ticked-stood is_answered of-answered t.ticked m.host k (told-stood is_answered of-answered t.fate host k stands)))

issue-changes : (check : Check) (k : ℕ) (m : MasterState NodeState) (src : Option ℕ) (dst : ℕ) (payload : List ℕ) → Changes check k m (after_issue plain_node m src dst payload)
issue-changes check k m src dst payload =
    changes-host check k m (after_issue plain_node m src dst payload) _ refl refl (goes_on refl) (issue-stood is_out refl (issued_of m) _) (λ stands. inl (issue-stood is_answered refl (issued_of m) _ k stands))

-- ---- a take

-- a message is begun
begun-listed : (check : Check) (k : ℕ) (m : MasterState NodeState) (body : List ℕ) → m.setup.check ≡ check → m.mouth.left ≡ [] → Changes check k m (transmitted (record (with_host m (after_next m.host)) { sending = body }) 0)
begun-listed check k m body is none =
    let stn = slice_index body 0 in
    let given : message_sent m.setup.check stn body ≡ message_sent check stn body = ap (λ (c : Check). message_sent c stn body) is in
    record {
      setup = refl;
      begins = a_message none stn body given;
      out = λ stands. inr (record { stn = stn; body = body; is = given });
      answered = λ stands. inl (next-answered m.host k stands);
    }

-- or one for no station is passed over
begun-passed : (check : Check) (k : ℕ) (m : MasterState NodeState) → Changes check k m (with_host (with_host m (after_next m.host)) (after_told (after_next m.host) fate.Undelivered))
begun-passed check k m = record {
  setup = refl;
  begins = goes_on refl;
  out = λ stands. inl (refused-out m.host k stands);
  answered = λ stands. inl (next-answered m.host k (told-stood is_answered of-answered (Some fate.Undelivered) (after_next m.host) k stands));
}

begun-changes : (check : Check) (k : ℕ) (m : MasterState NodeState) (o : Option (List ℕ)) → m.setup.check ≡ check → message_next node_host m ≡ o → Changes check k m (begun_of node_host m o)
begun-changes check k m None is next = record { setup = refl; begins = goes_on refl; out = λ stands. inl stands; answered = λ stands. inl stands }
begun-changes check k m (Some body) is next =
    let none = done-left m.mouth.left (begins-when node_host m body next).done in
    cond_both (is_listed m.stations (slice_index body 0)) _ _ (λ (now : MasterState NodeState). Changes check k m now) (λ listed. begun-listed check k m body is none) (λ other. begun-passed check k m)

-- and a byte is given
heeds-given : (check : Check) (k : ℕ) (m : MasterState NodeState) (sending : List ℕ) (stations : List LineStationState) (cells : List LaneCell) (d : ℕ) → ((side : LineStationState) → ahead check (given_next m).mouth.left (joined cells side) ≡ ahead check m.mouth.left side)
    → Heeds check k (half_state m stations d) → Heeds check k (half_state (given_next m) (map (joined cells) stations) d)
heeds-given check k m sending stations cells d same h =
    let left = m.mouth.left in
    let later = (given_next m).mouth.left in
    let stays : (how : Standing → Bool) (side : LineStationState) → StandsAhead how check left side → StandsAhead how check later (joined cells side) = λ how side stands. ap how (same side) ∙ stands in
    record {
      check_is = h.check_is;
      checks = each-map (λ side. side.slave.ear.check ≡ check) (λ side. side.slave.ear.check ≡ check) (joined cells) (λ side is. is) stations h.checks;
      near = λ out. each-map (StandsAhead is_near check left) (StandsAhead is_near check later) (joined cells) (stays is_near) stations (h.near out);
      in_step = λ answered. each-map (StandsAhead is_between_calls check left) (StandsAhead is_between_calls check later) (joined cells) (stays is_between_calls) stations (h.in_step answered);
    }

heeds-give : (check : Check) (k : ℕ) (s : HalfState NodeState) → Heeds check k s → Heeds check k (after_master_deed plain_node s Give)
heeds-give check k s h =
    let m = s.master in
    let b = begun node_host m in
    let sending = (master_after_take node_host m).sending in
    heeds-given check k b sending s.stations (cells_given plain_node m) s.deceived (λ side. ahead-given check b.mouth sending side)
    (heeds-master check k m b s.stations s.deceived s.deceived (begun-changes check k m (message_next node_host m) h.check_is refl) h)

heeds-deed : (check : Check) (k : ℕ) (s : HalfState NodeState) (deed : MasterDeed) → Heeds check k s → Heeds check k (after_master_deed plain_node s deed)
heeds-deed check k s (Issue src dst payload) h = heeds-master check k s.master _ s.stations s.deceived s.deceived (issue-changes check k s.master src dst payload) h
heeds-deed check k s Give h = heeds-give check k s h
heeds-deed check k s Tick h = heeds-master check k s.master _ s.stations s.deceived s.deceived (tick-changes check k s.master h.check_is) h

-- ---- with a station

-- what its ear has still to hear leads it where it led it before
record Leads (check : Check) (side now : LineStationState) : Type 0 where
  check_is : now.slave.ear.check ≡ check
  same : (left : List Sent) → ahead check left now ≡ ahead check left side

heeds-side : (check : Check) (k : ℕ) (m : MasterState NodeState) (stations : List LineStationState) (place : ℕ) (side now : LineStationState) (d e : ℕ) → slice_get stations place ≡ Some side → Leads check side now
    → Heeds check k (half_state m stations d) → Heeds check k (half_state m (slice_set stations place now) e)
heeds-side check k m stations place side now d e at leads h =
    let left = m.mouth.left in
    let stays : (how : Standing → Bool) → Each (StandsAhead how check left) stations → Each (StandsAhead how check left) (slice_set stations place now) =
    λ how all. each-set (StandsAhead how check left) stations place now (ap how (leads.same left) ∙ each-at (StandsAhead how check left) stations place side at all) all in
    record {
      check_is = h.check_is;
      checks = each-set (λ other. other.slave.ear.check ≡ check) stations place now leads.check_is h.checks;
      near = λ out. stays is_near (h.near out);
      in_step = λ answered. stays is_between_calls (h.in_step answered);
    }

-- a byte arrives at it
byte-leads : (check : Check) (slave : SlaveState NodeState) (b : ℕ) → slave.ear.check ≡ check → (slave_after_byte node_host slave b).ear.standing ≡ (step check 250 slave.ear.standing b).0
byte-leads check slave b is = ap (λ (ear : Listening). ear.standing) (byte-ear node_host slave b) ∙ ap (λ (c : Check). (step c 250 slave.ear.standing b).0) is

-- the master stays, and the station is led on
abbrev Arrived : Check → MasterState NodeState → LineStationState → LinkState NodeState → Type 0
Arrived check m side now = (now.master ≡ m) × Leads check side now.side

to-station : (check : Check) (m : MasterState NodeState) (number : ℕ) (slave : SlaveState NodeState) (to_it from_it : List LaneCell) (d : ℕ) (deed : LaneDeed) → slave.ear.check ≡ check → IsGentleOn to_it deed
    → Arrived check m (record { number = number; slave = slave; to_it = to_it; from_it = from_it }) (after_link_deed plain_node (link_state m (record { number = number; slave = slave; to_it = to_it; from_it = from_it }) d) (OnLane ToStation deed))
to-station check m number slave [] from_it d Deliver is gentle = (refl, record { check_is = is; same = λ left. refl })
to-station check m number slave (cell ∷ cells) from_it d Deliver is gentle = (
  refl,
  record {
    check_is = ap (λ (ear : Listening). ear.check) (byte-ear node_host slave cell.byte) ∙ is;
    same = λ left. ap (λ (at : Standing). after check at (map (λ (c : LaneCell). c.byte) cells ++ bytes_of left)) (byte-leads check slave cell.byte is);
  },
)
to-station check m number slave [] from_it d Lose is gentle = (refl, record { check_is = is; same = λ left. refl })
to-station check m number slave (cell ∷ cells) from_it d Lose is gentle = absurd cc
to-station check m number slave [] from_it d (Alter mask) is gentle = (refl, record { check_is = is; same = λ left. refl })
to-station check m number slave (cell ∷ cells) from_it d (Alter mask) is gentle = absurd cc
to-station check m number slave to_it from_it d (Foreign byte) is gentle = absurd gentle

-- a byte arrives at the master, or none does; the station's ear and the lane to it stay
data MasterHears (m now : MasterState NodeState) : Type 0 where
  nothing : now ≡ m → MasterHears m now
  a_byte : (b : ℕ) → now ≡ master_after_byte node_host m b → MasterHears m now

abbrev Came : Check → MasterState NodeState → LineStationState → LinkState NodeState → Type 0
Came check m side now = MasterHears m now.master × Leads check side now.side

to-master : (check : Check) (m : MasterState NodeState) (number : ℕ) (slave : SlaveState NodeState) (to_it from_it : List LaneCell) (d : ℕ) (deed : LaneDeed) → slave.ear.check ≡ check
    → Came check m (record { number = number; slave = slave; to_it = to_it; from_it = from_it }) (after_link_deed plain_node (link_state m (record { number = number; slave = slave; to_it = to_it; from_it = from_it }) d) (OnLane ToMaster deed))
to-master check m number slave to_it [] d Deliver is = (nothing refl, record { check_is = is; same = λ left. refl })
to-master check m number slave to_it (cell ∷ cells) d Deliver is = (a_byte cell.byte refl, record { check_is = is; same = λ left. refl })
to-master check m number slave to_it from_it d Lose is = (nothing refl, record { check_is = is; same = λ left. refl })
to-master check m number slave to_it from_it d (Alter mask) is = (nothing refl, record { check_is = is; same = λ left. refl })
to-master check m number slave to_it from_it d (Foreign byte) is = (a_byte byte refl, record { check_is = is; same = λ left. refl })

heeds-heard : (check : Check) (k : ℕ) (m now : MasterState NodeState) (stations : List LineStationState) (d e : ℕ) → MasterHears m now → Heeds check k (half_state m stations d) → Heeds check k (half_state now stations e)
heeds-heard check k m now stations d e (nothing is) h = subst (λ (x : MasterState NodeState). Heeds check k (half_state x stations e)) (sym is) (record { check_is = h.check_is; checks = h.checks; near = h.near; in_step = h.in_step })
heeds-heard check k m now stations d e (a_byte b is) h = subst (λ (x : MasterState NodeState). Heeds check k (half_state x stations e)) (sym is) (heeds-master check k m (master_after_byte node_host m b) stations d e (byte-changes check k m b h.check_is) h)

heeds-link : (check : Check) (k : ℕ) (s : HalfState NodeState) (place : ℕ) (side : LineStationState) (deed : LinkDeed) → slice_get s.stations place ≡ Some side → ArrivesAt side deed → Heeds check k s → Heeds check k (after_with plain_node s place deed (Some side))
heeds-link check k s place side StationGives at arrives h =
    heeds-side check k s.master s.stations place side (after_take side) s.deceived s.deceived at (record { check_is = each-at (λ other. other.slave.ear.check ≡ check) s.stations place side at h.checks; same = λ left. refl }) h
heeds-link check k s place side (OnLane ToStation deed) at arrives h =
    let is = each-at (λ other. other.slave.ear.check ≡ check) s.stations place side at h.checks in
    let now = after_link_deed plain_node (link_of s side) (OnLane ToStation deed) in
    let a = to-station check s.master side.number side.slave side.to_it side.from_it s.deceived deed is arrives in
    subst (λ (x : MasterState NodeState). Heeds check k (half_state x (slice_set s.stations place now.side) now.deceived)) (sym a.0) (heeds-side check k s.master s.stations place side now.side s.deceived now.deceived at a.1 h)
heeds-link check k s place side (OnLane ToMaster deed) at arrives h =
    let is = each-at (λ other. other.slave.ear.check ≡ check) s.stations place side at h.checks in
    let now = after_link_deed plain_node (link_of s side) (OnLane ToMaster deed) in
    let a = to-master check s.master side.number side.slave side.to_it side.from_it s.deceived deed is in
    heeds-side check k now.master s.stations place side now.side s.deceived now.deceived at a.1 (heeds-heard check k s.master now.master s.stations s.deceived s.deceived a.0 h)

heeds-with : (check : Check) (k : ℕ) (s : HalfState NodeState) (place : ℕ) (deed : LinkDeed) (o : Option LineStationState) → slice_get s.stations place ≡ o → ArrivesWith deed o → Heeds check k s → Heeds check k (after_with plain_node s place deed o)
heeds-with check k s place deed None at arrives h = h
heeds-with check k s place deed (Some side) at arrives h = heeds-link check k s place side deed at arrives h

-- ---- one step after another

heeds-step : (check : Check) (k : ℕ) (s : HalfState NodeState) (step : UnitStep) → AllArrives s step → Heeds check k s → Heeds check k (after_step plain_node s step)
heeds-step check k s (AtMaster deed) arrives h = heeds-deed check k s deed h
heeds-step check k s (AtStation place deed) arrives h = heeds-with check k s place deed (slice_get s.stations place) refl arrives h

heeds-steps : (check : Check) (k : ℕ) (steps : List UnitStep) (s : HalfState NodeState) → AllArrivesOver s steps → Heeds check k s → Heeds check k (after_steps plain_node s steps)
heeds-steps check k [] s arrives h = h
heeds-steps check k (step ∷ steps) s arrives h = heeds-steps check k steps (after_step plain_node s step) arrives.1 (heeds-step check k s step arrives.0 h)

pub heeds-events : (check : Check) (k : ℕ) (events : List Event) (s : HalfState NodeState) → AllArrivesAfter s events → Heeds check k s → Heeds check k (state_after plain_node s events)
heeds-events check k [] s arrives h = h
heeds-events check k (e ∷ events) s arrives h = heeds-events check k events (after_event plain_node s e) arrives.1 (heeds-steps check k (steps_of s e) s arrives.0 h)
