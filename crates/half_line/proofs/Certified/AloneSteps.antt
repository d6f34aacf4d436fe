-- On a line with one station, from a quiet state on, over steps that lose, alter and add no byte: once a command is answered, the master's ear is in step with what the station gives.
use Rattle.std.proofs.Common.{◌≡◌, ◌∙◌, ℕ, zero, suc, ◌+◌, true, List, [], ◌∷◌, Option, Some, None, refl, ap, sym, subst, arith, inr}
use Rattle.std.specs.Prelude.{slice_get, slice_index}
use Rattle.std.specs.Option.{option_map}
use Rattle.std.proofs.lemmas.Bool.{cond_both}
use Rattle.df1_base.specs.declared.host.Fate.TheVariants as fate
use Rattle.df1_base.specs.HostAnswers.{host_told}
use Rattle.df1_check.specs.declared.Check.{Check}
use Rattle.df1_node.specs.Node.{NodeState, after_next}
use Rattle.half_frame.specs.MasterStanding.{Standing, Listening}
use Rattle.half_frame.specs.MasterStep.{step}
use Rattle.half_slave.specs.declared.SlaveSetup.{SlaveSetup}
use Rattle.half_slave.specs.Slave.{SlaveState, mouth_at_take, slave_after_byte}
use Rattle.half_slave.proofs.Rows.{byte-setup}
use Rattle.half_master.specs.Master.{MasterState, with_host, with_byte, effect_of_byte, effect_at_tick, fate_of, host_accepted, host_ticked, body_of, master_after_byte, master_after_tick, master_after_take, message_next, begun_of}
use Rattle.half_master.specs.Stations.{is_listed}
use Rattle.half_master.proofs.EarLemmas.{performed-ear, take-ear}
use Rattle.half_master.proofs.Seen.{accepts, passes, at-byte, at-tick}
use Rattle.lane_cells.specs.Cells.{LaneCell, Ending}
use Rattle.script_parts.specs.declared.script.Event.{Event}
use Rattle.each_once.specs.NodeHost.{node_host}
use Rattle.half_line.specs.Behind.{plain_node}
use Rattle.half_line.specs.declared.way.Way.{Way}
use Rattle.half_line.specs.declared.way.Way.TheVariants.{ToStation, ToMaster}
use Rattle.half_line.specs.Acts.{LineStationState, HalfState, LinkState, half_state, link_state, lane_of, arriving, moved, after_arrival, MasterDeed, Issue, Give, Tick, LaneDeed, Deliver, Lose, Alter, Foreign, LinkDeed, StationGives, OnLane, cells_given, joined, after_issue, body_heard, deceptions_at, after_take, after_master_deed, after_link_deed}
use Rattle.half_line.specs.Certified.{AreGentleOver, AreGentleAfter}
use Rattle.half_line.specs.Issues.{issued_of}
use Rattle.half_line.specs.Prompt.{IsGentleAt, IsGentle}
use Rattle.half_line.specs.Rest.{is_between_answers}
use Rattle.half_line.specs.Run.{steps_of, after_event, state_after}
use Rattle.half_line.specs.Steps.{UnitStep, AtMaster, AtStation, link_of, after_with, after_step, after_steps}
use Rattle.half_line.proofs.Once.Honest.{honest}
use Rattle.half_line.proofs.Certified.AnswersInStep.{AreAlike, alike-next, good-in-step}
use Rattle.half_line.proofs.Certified.CommandStands.{is_answered, Stands, StoodSo, of-answered, issue-stood, told-stood, next-answered}
use Rattle.half_line.proofs.Certified.LineSteps.{ticked_host, ticked-stood}
use Rattle.half_line.proofs.Certified.StationGives.{Begins, EndsInStep, Leads, leads-begin, leads-take, byte-begins, take-begins}

-- ---- what holds

-- An ear is imagined that was in step at the quiet state, and that has heard since what the master's has: behind all that is on its way
-- and still to be given it is in step. Where the command at this place is answered, the master's own ear is as that one.
pub record Follows (check : Check) (k : ℕ) (m : MasterState NodeState) (side : LineStationState) : Type 0 where
  pub line : side.slave.setup.check ≡ check
  pub ear : m.ear.check ≡ check
  pub imagined : Standing
  pub leads : Leads check imagined side.from_it side.slave.mouth.left
  pub alike : Stands is_answered (issued_of m) k → AreAlike imagined m.ear.standing

-- of a line with one station
pub record FollowsOne (check : Check) (k : ℕ) (s : HalfState NodeState) : Type 0 where
  pub side : LineStationState
  pub is : s.stations ≡ side ∷ []
  pub follows : Follows check k s.master side

-- ---- at the master

-- a command that is answered then was before, and the ear stays
follows-master : (check : Check) (k : ℕ) (m now : MasterState NodeState) (side : LineStationState) → now.ear ≡ m.ear → StoodSo is_answered (issued_of m) (issued_of now) → Follows check k m side → Follows check k now side
follows-master check k m now side same stood f = record {
  line = f.line;
  ear = ap (λ (ear : Listening). ear.check) same ∙ f.ear;
  imagined = f.imagined;
  leads = f.leads;
  alike = λ answered. subst (λ (ear : Listening). AreAlike f.imagined ear.standing) (sym same) (f.alike (stood k answered));
}

begun-stood : (m : MasterState NodeState) (o : Option (List ℕ)) → StoodSo is_answered (issued_of m) (issued_of (begun_of node_host m o))
begun-stood m None k h = h
begun-stood m (Some body) k h =
    cond_both (is_listed m.stations (slice_index body 0)) _ _ (λ (now : MasterState NodeState). StoodSo is_answered (issued_of m) (issued_of now))
    (λ listed. next-answered m.host) (λ other k h. next-answered m.host k (told-stood is_answered of-answered (Some fate.Undelivered) (after_next m.host) k h)) k h

tick-ear : (m : MasterState NodeState) → (master_after_tick node_host m).ear ≡ m.ear
tick-ear m = let what = effect_at_tick node_host m in performed-ear (with_host m (host_told node_host (fate_of what) (host_ticked node_host what m.host))) what

tick-stands : (m : MasterState NodeState) → StoodSo is_answered (issued_of m) (issued_of (master_after_tick node_host m))
tick-stands m k h =
    let t = at-tick node_host m in
    let host = ticked_host t.ticked m.host in
    ticked-stood is_answered of-answered t.ticked m.host k (told-stood is_answered of-answered t.fate host k (subst (λ (n : NodeState). Stands is_answered n.initiator.issued k) t.host h))

follows-deed : (check : Check) (k : ℕ) (m : MasterState NodeState) (side : LineStationState) (d : ℕ) (deed : MasterDeed) → Follows check k m side → FollowsOne check k (after_master_deed plain_node (half_state m (side ∷ []) d) deed)
follows-deed check k m side d (Issue src dst payload) f = record { side = side; is = refl; follows = follows-master check k m (after_issue plain_node m src dst payload) side refl (issue-stood is_answered refl (issued_of m) _) f }
follows-deed check k m side d Give f =
    let now = follows-master check k m (master_after_take node_host m) side (take-ear node_host m) (begun-stood m (message_next node_host m)) f in
    record { side = joined (cells_given plain_node m) side; is = refl; follows = record { line = now.line; ear = now.ear; imagined = now.imagined; leads = now.leads; alike = now.alike } }
follows-deed check k m side d Tick f = record { side = side; is = refl; follows = follows-master check k m (master_after_tick node_host m) side (tick-ear m) (tick-stands m) f }

-- ---- a byte arrives at the master

byte-ear : (m : MasterState NodeState) (b : ℕ) → (master_after_byte node_host m b).ear ≡ (with_byte m b).ear
byte-ear m b =
    let what = effect_of_byte node_host m b in
    performed-ear (with_host (with_byte m b) (host_told node_host (fate_of what) (host_accepted node_host what m.host (body_of (with_byte m b))))) what

byte-standing : (check : Check) (m : MasterState NodeState) (b : ℕ) → m.ear.check ≡ check → (master_after_byte node_host m b).ear.standing ≡ (step check 250 m.ear.standing b).0
byte-standing check m b is = ap (λ (ear : Listening). ear.standing) (byte-ear m b) ∙ ap (λ (c : Check). (step c 250 m.ear.standing b).0) is

ends-there : (ends : Option Ending) (body : List ℕ) (at : Standing) → option_map (λ (e : Ending). e.body) ends ≡ Some body → EndsInStep ends at → is_between_answers at ≡ true
ends-there None body at is in_step = absurd cc
ends-there (Some e) body at is in_step = in_step

cell-alike : (check : Check) (k : ℕ) (m : MasterState NodeState) (side : LineStationState) (cell : LaneCell) (d : ℕ) (imagined : Standing) → m.ear.check ≡ check → EndsInStep cell.ends (step check 250 imagined cell.byte).0 → deceptions_at plain_node ToMaster (link_state m side d) cell ≡ 0
    → (Stands is_answered (issued_of m) k → AreAlike imagined m.ear.standing) → Stands is_answered (issued_of (master_after_byte node_host m cell.byte)) k → AreAlike (step check 250 imagined cell.byte).0 (master_after_byte node_host m cell.byte).ear.standing
cell-alike check k m side cell d imagined is ends none alike answered =
    let b = cell.byte in
    let to = (step check 250 imagined b).0 in
    let now = byte-standing check m b is in
    elim (at-byte node_host m b) [
      | accepts a ↦
          let between = ends-there cell.ends (body_heard plain_node ToMaster (link_state m side d) cell) to (honest _ cell.ends _ none a.whole) ends in
          let good : is_between_answers (step m.ear.check 250 m.ear.standing b).0 ≡ true = good-in-step m.ear.check m.ear.standing b a.whole in
          inr (between, ap is_between_answers (ap (λ (ear : Listening). ear.standing) (byte-ear m b)) ∙ good)
      | passes o ↦
          let before = told-stood is_answered of-answered o.fate m.host k (subst (λ (n : NodeState). Stands is_answered n.initiator.issued k) o.host answered) in
          subst (λ (at : Standing). AreAlike to at) (sym now) (alike-next check imagined m.ear.standing b (alike before))
    ]

-- ---- with the station

plus-none : (n m : ℕ) → n + m ≡ 0 → m ≡ 0
plus-none n m is = omega (arith, is)

-- the lanes and the slave of a station, and how often an end was deceived
abbrev a_side : ℕ → SlaveState NodeState → List LaneCell → List LaneCell → LineStationState
a_side number slave to_it from_it = record { number = number; slave = slave; to_it = to_it; from_it = from_it }

abbrev FollowsThen : Check → ℕ → MasterState NodeState → LineStationState → ℕ → LinkDeed → Type 0
FollowsThen check k m side d deed = let now = after_link_deed plain_node (link_state m side d) deed in now.deceived ≡ 0 → Follows check k m side → Follows check k now.master now.side

follows-take : (check : Check) (k : ℕ) (m : MasterState NodeState) (side : LineStationState) (d : ℕ) → FollowsThen check k m side d StationGives
follows-take check k m side d none f =
    let g = mouth_at_take side.slave.mouth side.slave.responds in
    record {
      line = f.line;
      ear = f.ear;
      imagined = f.imagined;
      leads = leads-take check f.imagined side.from_it g (after_take side).slave.sending (leads-begin check f.imagined side.from_it side.slave.mouth.left g.left (take-begins check side.slave.mouth side.slave.responds) f.leads);
      alike = f.alike;
    }

follows-to : (check : Check) (k : ℕ) (m : MasterState NodeState) (number : ℕ) (slave : SlaveState NodeState) (to_it from_it : List LaneCell) (d : ℕ) (deed : LaneDeed) → IsGentleAt (a_side number slave to_it from_it) (OnLane ToStation deed)
    → FollowsThen check k m (a_side number slave to_it from_it) d (OnLane ToStation deed)
follows-to check k m number slave [] from_it d Deliver gentle none f = record { line = f.line; ear = f.ear; imagined = f.imagined; leads = f.leads; alike = f.alike }
follows-to check k m number slave (cell ∷ cells) from_it d Deliver gentle none f = record {
  line = ap (λ (setup : SlaveSetup). setup.check) (byte-setup node_host slave cell.byte) ∙ f.line;
  ear = f.ear;
  imagined = f.imagined;
  leads = leads-begin check f.imagined from_it slave.mouth.left _ (subst (λ (c : Check). Begins c slave.mouth.left (slave_after_byte node_host slave cell.byte).mouth.left) f.line (byte-begins slave cell.byte)) f.leads;
  alike = f.alike;
}
follows-to check k m number slave [] from_it d Lose gentle none f = record { line = f.line; ear = f.ear; imagined = f.imagined; leads = f.leads; alike = f.alike }
follows-to check k m number slave (cell ∷ cells) from_it d Lose gentle none f = absurd cc
follows-to check k m number slave [] from_it d (Alter mask) gentle none f = record { line = f.line; ear = f.ear; imagined = f.imagined; leads = f.leads; alike = f.alike }
follows-to check k m number slave (cell ∷ cells) from_it d (Alter mask) gentle none f = absurd cc
follows-to check k m number slave to_it from_it d (Foreign byte) gentle none f = absurd gentle

follows-from : (check : Check) (k : ℕ) (m : MasterState NodeState) (number : ℕ) (slave : SlaveState NodeState) (to_it from_it : List LaneCell) (d : ℕ) (deed : LaneDeed) → IsGentleAt (a_side number slave to_it from_it) (OnLane ToMaster deed)
    → FollowsThen check k m (a_side number slave to_it from_it) d (OnLane ToMaster deed)
follows-from check k m number slave to_it [] d Deliver gentle none f = record { line = f.line; ear = f.ear; imagined = f.imagined; leads = f.leads; alike = f.alike }
follows-from check k m number slave to_it (cell ∷ cells) d Deliver gentle none f = record {
  line = f.line;
  ear = ap (λ (ear : Listening). ear.check) (byte-ear m cell.byte) ∙ f.ear;
  imagined = (step check 250 f.imagined cell.byte).0;
  leads = f.leads.1;
  alike = cell-alike check k m (a_side number slave to_it cells) cell d f.imagined f.ear f.leads.0 (plus-none d _ none) f.alike;
}
follows-from check k m number slave to_it [] d Lose gentle none f = record { line = f.line; ear = f.ear; imagined = f.imagined; leads = f.leads; alike = f.alike }
follows-from check k m number slave to_it (cell ∷ cells) d Lose gentle none f = absurd cc
follows-from check k m number slave to_it [] d (Alter mask) gentle none f = record { line = f.line; ear = f.ear; imagined = f.imagined; leads = f.leads; alike = f.alike }
follows-from check k m number slave to_it (cell ∷ cells) d (Alter mask) gentle none f = absurd cc
follows-from check k m number slave to_it from_it d (Foreign byte) gentle none f = absurd gentle

follows-link : (check : Check) (k : ℕ) (m : MasterState NodeState) (side : LineStationState) (d : ℕ) (deed : LinkDeed) → IsGentleAt side deed → FollowsThen check k m side d deed
follows-link check k m side d StationGives gentle = follows-take check k m side d
follows-link check k m side d (OnLane ToStation deed) gentle = follows-to check k m side.number side.slave side.to_it side.from_it d deed gentle
follows-link check k m side d (OnLane ToMaster deed) gentle = follows-from check k m side.number side.slave side.to_it side.from_it d deed gentle

-- ---- one step after another

follows-here : (check : Check) (k : ℕ) (m : MasterState NodeState) (side : LineStationState) (d : ℕ) (step : UnitStep) → IsGentle (half_state m (side ∷ []) d) step → (after_step plain_node (half_state m (side ∷ []) d) step).deceived ≡ 0 → Follows check k m side
    → FollowsOne check k (after_step plain_node (half_state m (side ∷ []) d) step)
follows-here check k m side d (AtMaster deed) gentle none f = follows-deed check k m side d deed f
follows-here check k m side d (AtStation zero deed) gentle none f = record { side = (after_link_deed plain_node (link_state m side d) deed).side; is = refl; follows = follows-link check k m side d deed gentle none f }
follows-here check k m side d (AtStation (suc place) deed) gentle none f = record { side = side; is = refl; follows = f }

-- as long as no end was deceived
abbrev pub FollowsUnless : Check → ℕ → HalfState NodeState → Type 0
FollowsUnless check k s = s.deceived ≡ 0 → FollowsOne check k s

follows-step : (check : Check) (k : ℕ) (s : HalfState NodeState) (step : UnitStep) → IsGentle s step → (after_step plain_node s step).deceived ≡ 0 → FollowsOne check k s → FollowsOne check k (after_step plain_node s step)
follows-step check k s step gentle none f =
    subst (λ (stations : List LineStationState). IsGentle (half_state s.master stations s.deceived) step → (after_step plain_node (half_state s.master stations s.deceived) step).deceived ≡ 0 → FollowsOne check k (after_step plain_node (half_state s.master stations s.deceived) step)) (sym f.is)
    (λ gentle_here none_here. follows-here check k s.master f.side s.deceived step gentle_here none_here f.follows) gentle none

-- no step takes a deception back
earlier : (s : HalfState NodeState) (step : UnitStep) → (after_step plain_node s step).deceived ≡ 0 → s.deceived ≡ 0
earlier s (AtMaster deed) none = none
earlier s (AtStation place deed) none = earlier-with s place deed (slice_get s.stations place) none
  where
    earlier-arrival : (way : Way) (link : LinkState NodeState) (o : Option LaneCell) → (after_arrival plain_node way link o).deceived ≡ 0 → link.deceived ≡ 0
    earlier-arrival way link None none = none
    earlier-arrival way link (Some cell) none = omega (arith, none)

    earlier-with : (s : HalfState NodeState) (place : ℕ) (deed : LinkDeed) (o : Option LineStationState) → (after_with plain_node s place deed o).deceived ≡ 0 → s.deceived ≡ 0
    earlier-with s place deed None none = none
    earlier-with s place StationGives (Some side) none = none
    earlier-with s place (OnLane way deed) (Some side) none = earlier-arrival way (moved way (link_of s side) deed) (arriving (lane_of way side) deed) none

follows-steps : (check : Check) (k : ℕ) (steps : List UnitStep) (s : HalfState NodeState) → AreGentleOver s steps → FollowsUnless check k s → FollowsUnless check k (after_steps plain_node s steps)
follows-steps check k [] s gentle f = f
follows-steps check k (step ∷ steps) s gentle f = follows-steps check k steps (after_step plain_node s step) gentle.1 (λ none. follows-step check k s step gentle.0 none (f (earlier s step none)))

pub follows-events : (check : Check) (k : ℕ) (events : List Event) (s : HalfState NodeState) → AreGentleAfter s events → FollowsUnless check k s → FollowsUnless check k (state_after plain_node s events)
follows-events check k [] s gentle f = f
follows-events check k (e ∷ events) s gentle f = follows-events check k events (after_event plain_node s e) gentle.1 (follows-steps check k (steps_of s e) s gentle.0 f)
