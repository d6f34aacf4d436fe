-- What a master has to give after a byte, a tick, and where it begins a message: what it had, or, where that was nothing, one whole thing.
use Rattle.std.proofs.Common.{◌≡◌, ℕ, List, [], Option, Some, None, refl}
use Rattle.std.specs.Prelude.{slice_get, slice_index}
use Rattle.std.proofs.lemmas.Bool.{cond_both}
use Rattle.df1_base.specs.declared.host.Host.{Ghosts}
use Rattle.df1_base.specs.declared.link.Act.TheVariants as act
use Rattle.df1_base.specs.HostAnswers.{host_told}
use Rattle.df1_check.specs.declared.Check.{Check}
use Rattle.half_frame.specs.declared.framer.Sent.{Sent}
use Rattle.half_frame.specs.declared.heard.MasterHeard.{MasterHeard}
use Rattle.half_frame.specs.declared.heard.MasterHeard.TheVariants as heard
use Rattle.half_frame.specs.Spelling.{unmarked, pair_bytes, poll_bytes, message_sent}
use Rattle.half_mouth.specs.Giving.{is_done}
use Rattle.half_master.specs.declared.stations.Station.{Station}
use Rattle.half_master.specs.declared.table.Effect.{Effect}
use Rattle.half_master.specs.declared.table.Effect.TheVariants as effect
use Rattle.half_master.specs.Master.{MasterState, with_host, with_byte, heard_at, body_of, effect_in, effect_of_tick, fate_of, host_accepted, host_ticked, polled, performed, act_heard, act_of, master_after_byte, master_after_tick, step_at_byte}
use Rattle.half_line.proofs.Complete.QuietLine.{done-left}

-- what was left before is left after it; or nothing was, and a message, a poll or DLE ACK is
pub data Begins (check : Check) (before after : List Sent) : Type 0 where
  goes_on : after ≡ before → Begins check before after
  a_message : before ≡ [] → (stn : ℕ) (body : List ℕ) → after ≡ message_sent check stn body → Begins check before after
  a_poll : before ≡ [] → (stn : ℕ) → after ≡ unmarked (poll_bytes stn) → Begins check before after
  an_ack : before ≡ [] → after ≡ unmarked (pair_bytes 6) → Begins check before after

-- ---- an effect

polled-begins : {H : Type 0} (e : MasterState H) (station : Option Station) → e.mouth.left ≡ [] → Begins e.setup.check e.mouth.left (polled e station).mouth.left
polled-begins e None none = goes_on refl
polled-begins e (Some station) none = a_poll none station.number refl

performed-begins : {H : Type 0} (e : MasterState H) (what : Effect) → e.mouth.left ≡ [] → Begins e.setup.check e.mouth.left (performed e what).mouth.left
performed-begins e effect.Nothing none = goes_on refl
performed-begins e (effect.Waits left) none = goes_on refl
performed-begins e effect.Delivered none = goes_on refl
performed-begins e (effect.Again resent) none = a_message none (slice_index e.sending 0) e.sending refl
performed-begins e effect.GivenUp none = goes_on refl
performed-begins e effect.PollOver none = goes_on refl
performed-begins e (effect.Accepted place) none = an_ack none refl
performed-begins e effect.Repeated none = an_ack none refl
performed-begins e effect.Refused none = goes_on refl
performed-begins e effect.Damaged none = goes_on refl
performed-begins e effect.Polls none = polled-begins e (slice_get e.stations e.next) none

-- ---- a byte

abbrev by_effect : {H : Type 0} → Ghosts H → MasterState H → ℕ → Effect → MasterState H
by_effect m e b what = performed (with_host (with_byte e b) (host_told m (fate_of what) (host_accepted m what e.host (body_of (with_byte e b))))) what

pub byte-begins : {H : Type 0} (m : Ghosts H) (e : MasterState H) (b : ℕ) → Begins e.setup.check e.mouth.left (master_after_byte m e b).mouth.left
byte-begins m e b =
    cond_both (is_done e.mouth) (effect_in m (with_byte e b) (heard_at e b) e.phase) effect.Nothing (λ (what : Effect). Begins e.setup.check e.mouth.left (by_effect m e b what).mouth.left)
    (λ done. let what = effect_in m (with_byte e b) (heard_at e b) e.phase in performed-begins (with_host (with_byte e b) (host_told m (fate_of what) (host_accepted m what e.host (body_of (with_byte e b))))) what (done-left e.mouth.left done))
    (λ gives. goes_on refl)

-- one at which a message is accepted: nothing was left, and DLE ACK is
abbrev Acknowledges : List Sent → List Sent → Type 0
Acknowledges before after = (before ≡ []) × (after ≡ unmarked (pair_bytes 6))

heard-nothing : (what : Option MasterHeard) → act_heard what ≡ act.Accept → ⊥
heard-nothing None is = cc
heard-nothing (Some heard.Good) is = cc
heard-nothing (Some heard.Damaged) is = cc
heard-nothing (Some heard.Ack) is = cc
heard-nothing (Some heard.Nak) is = cc
heard-nothing (Some heard.Eot) is = cc
heard-nothing (Some (heard.Stray b)) is = cc
heard-nothing (Some (heard.StrayPair code)) is = cc

accepted-acknowledges : {H : Type 0} (e : MasterState H) (h : Option MasterHeard) (what : Effect) → act_of what h ≡ act.Accept → (performed e what).mouth.left ≡ unmarked (pair_bytes 6)
accepted-acknowledges e h effect.Nothing is = absurd (heard-nothing h is)
accepted-acknowledges e h (effect.Waits left) is = absurd (heard-nothing h is)
accepted-acknowledges e h effect.Delivered is = absurd (heard-nothing h is)
accepted-acknowledges e h (effect.Again resent) is = absurd (heard-nothing h is)
accepted-acknowledges e h effect.GivenUp is = absurd (heard-nothing h is)
accepted-acknowledges e h effect.PollOver is = absurd (heard-nothing h is)
accepted-acknowledges e h (effect.Accepted place) is = refl
accepted-acknowledges e h effect.Repeated is = absurd cc
accepted-acknowledges e h effect.Refused is = absurd cc
accepted-acknowledges e h effect.Damaged is = absurd cc
accepted-acknowledges e h effect.Polls is = absurd (heard-nothing h is)

pub accept-acknowledges : {H : Type 0} (m : Ghosts H) (e : MasterState H) (b : ℕ) → (step_at_byte m e b).act ≡ act.Accept → Acknowledges e.mouth.left (master_after_byte m e b).mouth.left
accept-acknowledges m e b is =
    cond_both (is_done e.mouth) (effect_in m (with_byte e b) (heard_at e b) e.phase) effect.Nothing (λ (what : Effect). act_of what (heard_at e b) ≡ act.Accept → Acknowledges e.mouth.left (by_effect m e b what).mouth.left)
    (λ done at. (done-left e.mouth.left done, accepted-acknowledges (with_host (with_byte e b) (host_told m (fate_of (effect_in m (with_byte e b) (heard_at e b) e.phase)) (host_accepted m (effect_in m (with_byte e b) (heard_at e b) e.phase) e.host (body_of (with_byte e b))))) (heard_at e b) (effect_in m (with_byte e b) (heard_at e b) e.phase) at))
    (λ gives at. absurd (heard-nothing (heard_at e b) at)) is

-- ---- a tick

abbrev at_effect : {H : Type 0} → Ghosts H → MasterState H → Effect → MasterState H
at_effect m e what = performed (with_host e (host_told m (fate_of what) (host_ticked m what e.host))) what

pub tick-begins : {H : Type 0} (m : Ghosts H) (e : MasterState H) → Begins e.setup.check e.mouth.left (master_after_tick m e).mouth.left
tick-begins m e =
    cond_both (is_done e.mouth) (effect_of_tick e.setup _ e.phase) effect.Nothing (λ (what : Effect). Begins e.setup.check e.mouth.left (at_effect m e what).mouth.left)
    (λ done. performed-begins (with_host e (host_told m (fate_of (effect_of_tick e.setup _ e.phase)) (host_ticked m (effect_of_tick e.setup _ e.phase) e.host))) (effect_of_tick e.setup _ e.phase) (done-left e.mouth.left done))
    (λ gives. goes_on refl)
