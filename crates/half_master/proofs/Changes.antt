-- What a master does at what it hears, at a tick and at a take, where nothing disturbs it: each as one change of the master, with what is told of it.
use Rattle.std.proofs.Common.{◌≡◌, ◌∙◌, ℕ, ◌-◌, ◌<◌, Bool, true, false, List, [], Option, Some, None, is_some, refl, ap, subst}
use Rattle.std.specs.Prelude.{if◌then◌else◌, slice_get, slice_index, ◌&&◌}
use Rattle.std.proofs.lemmas.Bool.{eq-eqb, lt-ltb}
use Rattle.df1_base.specs.declared.host.Host.{Ghosts}
use Rattle.df1_base.specs.declared.host.Did.{Did}
use Rattle.df1_base.specs.declared.host.Fate.TheVariants as fate
use Rattle.df1_base.specs.declared.host.News.{News}
use Rattle.df1_base.specs.declared.host.News.TheVariants as news
use Rattle.df1_base.specs.declared.link.Act.{Act}
use Rattle.df1_base.specs.declared.link.Act.TheVariants as act
use Rattle.df1_base.specs.declared.link.Turn.{Turn}
use Rattle.df1_base.specs.declared.link.Turn.TheVariants as turn
use Rattle.df1_base.specs.HostAnswers.{host_told, news_of}
use Rattle.half_frame.specs.declared.heard.MasterHeard.{MasterHeard}
use Rattle.half_frame.specs.declared.heard.MasterHeard.TheVariants as heard
use Rattle.half_mouth.specs.Giving.{is_done}
use Rattle.pccc_envelope.specs.Envelope.{key_of}
use Rattle.pccc_envelope.specs.Accepted.{is_kept}
use Rattle.half_master.specs.declared.stations.Station.{Station}
use Rattle.half_master.specs.declared.table.Phase.{Phase}
use Rattle.half_master.specs.declared.table.Phase.TheVariants as phase
use Rattle.half_master.specs.declared.table.Effect.{Effect}
use Rattle.half_master.specs.declared.table.Effect.TheVariants as effect
use Rattle.half_master.specs.Stations.{is_listed, with_key}
use Rattle.half_master.specs.Master.{MasterState, with_host, with_byte, heard_at, body_of, effect_in, answered, effect_heard, effect_of_tick, effect_of_byte, effect_at_tick, performed, host_accepted, host_ticked, fate_of, transmitted, acknowledged, polled, master_after_byte, step_at_byte, act_heard, act_of, did_at, gone_of, turn_told, turn_at_tick, gone_at_tick, master_after_tick, message_next, is_idle, begun_of, begun}

-- ---- a byte

-- the effect of a byte makes the master what it is then
abbrev by_effect : {H : Type 0} → Ghosts H → MasterState H → ℕ → Effect → MasterState H
by_effect m e b what = performed (with_host (with_byte e b) (host_told m (fate_of what) (host_accepted m what e.host (body_of (with_byte e b))))) what

by-effect : {H : Type 0} (m : Ghosts H) (e : MasterState H) (b : ℕ) (what : Effect) → effect_of_byte m e b ≡ what → master_after_byte m e b ≡ by_effect m e b what
by-effect m e b what is = ap (by_effect m e b) is

-- what is told of a byte
pub record Says {H : Type 0} (m : Ghosts H) (e : MasterState H) (b : ℕ) (what : Act) (done : Option Did) (answer : News) : Type 0 where
  pub act : (step_at_byte m e b).act ≡ what
  pub did : (step_at_byte m e b).did ≡ done
  pub news : (step_at_byte m e b).news ≡ answer

abbrev told_by : {H : Type 0} → Ghosts H → MasterState H → ℕ → Effect → News
told_by m e b what = news_of m (fate_of what) (host_accepted m what e.host (body_of (with_byte e b)))

says-effect : {H : Type 0} (m : Ghosts H) (e : MasterState H) (b : ℕ) (what : Effect) → effect_of_byte m e b ≡ what → Says m e b (act_of what (heard_at e b)) (did_at m what e.host (body_of (with_byte e b))) (told_by m e b what)
says-effect m e b what is = record {
  act = ap (λ (w : Effect). act_of w (heard_at e b)) is;
  did = ap (λ (w : Effect). did_at m w e.host (body_of (with_byte e b))) is;
  news = ap (told_by m e b) is;
}

-- where nothing is heard nothing is done
none-heard : {H : Type 0} (m : Ghosts H) (e : MasterState H) (p : Phase) → effect_in m e None p ≡ effect.Nothing
none-heard m e phase.Idle = refl
none-heard m e (phase.WaitsForAck left resent) = refl
none-heard m e (phase.WaitsAfterPoll left place) = refl

same-either : (done : Bool) → (if done then effect.Nothing else effect.Nothing) ≡ effect.Nothing
same-either true = refl
same-either false = refl

silent-effect : {H : Type 0} (m : Ghosts H) (e : MasterState H) (what : Option MasterHeard) → what ≡ None → effect_heard m e what ≡ effect.Nothing
silent-effect m e what is = rw (is, none-heard m e e.phase) (same-either (is_done e.mouth))

pub turn-silent : {H : Type 0} (m : Ghosts H) (e : MasterState H) (b : ℕ) → heard_at e b ≡ None → (master_after_byte m e b ≡ with_byte e b) × Says m e b act.Nothing None news.Nothing
turn-silent m e b is =
    let what = silent-effect m (with_byte e b) (heard_at e b) is in
    (by-effect m e b effect.Nothing what, subst (λ (a : Act). Says m e b a None news.Nothing) (ap act_heard is) (says-effect m e b effect.Nothing what))

-- what is heard in a phase where no byte is left to be given
heard-in : {H : Type 0} (m : Ghosts H) (e : MasterState H) (b : ℕ) (what : MasterHeard) (p : Phase) → is_done e.mouth ≡ true → heard_at e b ≡ Some what → e.phase ≡ p → effect_of_byte m e b ≡ effect_in m (with_byte e b) (Some what) p
heard-in m e b what p done is at = rw (done, is, at) refl

-- the ACK for which it waits
pub turn-acked : {H : Type 0} (m : Ghosts H) (e : MasterState H) (b left resent : ℕ) → is_done e.mouth ≡ true → heard_at e b ≡ Some heard.Ack → e.phase ≡ phase.WaitsForAck left resent
    → (master_after_byte m e b ≡ (let now = with_byte e b in record now { phase = phase.Idle; host = m.after_told e.host fate.Delivered })) × Says m e b act.PeerAck None (m.news e.host fate.Delivered)
turn-acked m e b left resent done is at =
    let what = heard-in m e b heard.Ack (phase.WaitsForAck left resent) done is at in
    (by-effect m e b effect.Delivered what, subst (λ (a : Act). Says m e b a None (m.news e.host fate.Delivered)) (ap act_heard is) (says-effect m e b effect.Delivered what))

-- the polled station has no message
pub turn-ended : {H : Type 0} (m : Ghosts H) (e : MasterState H) (b left place : ℕ) → is_done e.mouth ≡ true → heard_at e b ≡ Some heard.Eot → e.phase ≡ phase.WaitsAfterPoll left place
    → (master_after_byte m e b ≡ (let now = with_byte e b in record now { phase = phase.Idle })) × Says m e b act.Nothing None news.Nothing
turn-ended m e b left place done is at =
    let what = heard-in m e b heard.Eot (phase.WaitsAfterPoll left place) done is at in
    (by-effect m e b effect.PollOver what, subst (λ (a : Act). Says m e b a None news.Nothing) (ap act_heard is) (says-effect m e b effect.PollOver what))

-- it has one, which is new
good-effect : (room : List ℕ → Bool) (place : ℕ) (stations : Option Station) (station : Station) (body : List ℕ) → stations ≡ Some station → slice_index body 1 ≡ station.number → is_kept station.kept (key_of body) ≡ false → room body ≡ true
    → answered room place stations body ≡ effect.Accepted place
good-effect room place stations station body is from new fits = rw (is, eq-eqb (slice_index body 1) station.number from, new, fits) refl

pub turn-accepts : {H : Type 0} (m : Ghosts H) (e : MasterState H) (b left place : ℕ) (station : Station) → let body = body_of (with_byte e b) in is_done e.mouth ≡ true → heard_at e b ≡ Some heard.Good → e.phase ≡ phase.WaitsAfterPoll left place
    → slice_get e.stations place ≡ Some station → slice_index body 1 ≡ station.number → is_kept station.kept (key_of body) ≡ false → m.room_for e.host body ≡ true
    → (master_after_byte m e b ≡ (let now = with_byte e b in acknowledged (record now { stations = with_key e.stations place (key_of body); host = m.after_accept e.host body }))) × Says m e b act.Accept (Some (m.did e.host body)) news.Nothing
turn-accepts m e b left place station done is at found from new room =
    let good = good-effect (m.room_for e.host) place (slice_get e.stations place) station (body_of (with_byte e b)) found from new room in
    let what = heard-in m e b heard.Good (phase.WaitsAfterPoll left place) done is at ∙ good in
    (by-effect m e b (effect.Accepted place) what, says-effect m e b (effect.Accepted place) what)

-- ---- a tick

abbrev by_tick : {H : Type 0} → Ghosts H → MasterState H → Effect → MasterState H
by_tick m e what = performed (with_host e (host_told m (fate_of what) (host_ticked m what e.host))) what

by-tick : {H : Type 0} (m : Ghosts H) (e : MasterState H) (what : Effect) → effect_at_tick m e ≡ what → master_after_tick m e ≡ by_tick m e what
by-tick m e what is = ap (by_tick m e) is

-- a tick that leaves this master and gives up nothing; these commands are unanswered from it on
pub record TickLeaves {H : Type 0} (m : Ghosts H) (e after : MasterState H) (lost : List ℕ) : Type 0 where
  pub master : master_after_tick m e ≡ after
  pub turn : turn_at_tick m e ≡ turn.Still
  pub gone : gone_at_tick m e ≡ lost

abbrev turned : {H : Type 0} → Ghosts H → MasterState H → Effect → Turn
turned m e what = turn_told what (news_of m (fate_of what) (host_ticked m what e.host))

leaves : {H : Type 0} (m : Ghosts H) (e after : MasterState H) (what : Effect) → effect_at_tick m e ≡ what → by_tick m e what ≡ after → turned m e what ≡ turn.Still → TickLeaves m e after (gone_of m what e.host)
leaves m e after what is same still = record { master = by-tick m e what is ∙ same; turn = ap (turned m e) is ∙ still; gone = ap (λ (w : Effect). gone_of m w e.host) is }

-- while bytes are given nothing is done
pub tick-giving : {H : Type 0} (m : Ghosts H) (e : MasterState H) → is_done e.mouth ≡ false → TickLeaves m e e []
tick-giving m e gives =
    let is : effect_at_tick m e ≡ effect.Nothing = rw gives refl in
    leaves m e e effect.Nothing is refl refl

tick-in : {H : Type 0} (m : Ghosts H) (e : MasterState H) (p : Phase) → is_done e.mouth ≡ true → e.phase ≡ p → effect_at_tick m e ≡ effect_of_tick e.setup (is_some (m.next_body e.host)) p
tick-in m e p done at = rw (done, at) refl

-- a tick of a wait that isn't its last
pub tick-waits : {H : Type 0} (m : Ghosts H) (e : MasterState H) (left resent : ℕ) → is_done e.mouth ≡ true → e.phase ≡ phase.WaitsForAck left resent → 1 < left
    → TickLeaves m e (record e { phase = phase.WaitsForAck (left - 1) resent }) []
tick-waits m e left resent done at more =
    let is : effect_at_tick m e ≡ effect.Waits (left - 1) = tick-in m e (phase.WaitsForAck left resent) done at ∙ rw (lt-ltb 1 left more) refl in
    leaves m e _ (effect.Waits (left - 1)) is (rw at refl) refl

pub tick-polled : {H : Type 0} (m : Ghosts H) (e : MasterState H) (left place : ℕ) → is_done e.mouth ≡ true → e.phase ≡ phase.WaitsAfterPoll left place → 1 < left
    → TickLeaves m e (record e { phase = phase.WaitsAfterPoll (left - 1) place }) []
tick-polled m e left place done at more =
    let is : effect_at_tick m e ≡ effect.Waits (left - 1) = tick-in m e (phase.WaitsAfterPoll left place) done at ∙ rw (lt-ltb 1 left more) refl in
    leaves m e _ (effect.Waits (left - 1)) is (rw at refl) refl

-- an idle master with a message to give does nothing
pub tick-ready : {H : Type 0} (m : Ghosts H) (e : MasterState H) (body : List ℕ) → is_done e.mouth ≡ true → e.phase ≡ phase.Idle → m.next_body e.host ≡ Some body → TickLeaves m e e []
tick-ready m e body done at next =
    let is : effect_at_tick m e ≡ effect.Nothing = tick-in m e phase.Idle done at ∙ rw next refl in
    leaves m e e effect.Nothing is refl refl

-- and without one polls
pub tick-polls : {H : Type 0} (m : Ghosts H) (e : MasterState H) → is_done e.mouth ≡ true → e.phase ≡ phase.Idle → m.next_body e.host ≡ None
    → TickLeaves m e (polled (with_host e (m.after_tick e.host)) (slice_get e.stations e.next)) (m.unanswered e.host)
tick-polls m e done at next =
    let is : effect_at_tick m e ≡ effect.Polls = tick-in m e phase.Idle done at ∙ rw next refl in
    leaves m e _ effect.Polls is refl refl

-- ---- a take

-- of what was begun
pub take-giving : {H : Type 0} (m : Ghosts H) (e : MasterState H) → is_done e.mouth ≡ false → begun m e ≡ e
take-giving m e gives = ap (begun_of m e) (none gives)
  where
    none : is_done e.mouth ≡ false → message_next m e ≡ None
    none gives = rw gives refl

-- while it waits it begins nothing
pub take-waiting : {H : Type 0} (m : Ghosts H) (e : MasterState H) → is_idle e.phase ≡ false → begun m e ≡ e
take-waiting m e waits = ap (begun_of m e) (none (is_done e.mouth) waits)
  where
    none : (done : Bool) → is_idle e.phase ≡ false → (if done && is_idle e.phase then m.next_body e.host else None) ≡ None
    none true waits = rw waits refl
    none false waits = refl

-- where there is no message it begins none
pub take-none : {H : Type 0} (m : Ghosts H) (e : MasterState H) → m.next_body e.host ≡ None → begun m e ≡ e
take-none m e next = ap (begun_of m e) (none _ next)
  where
    none : (idle : Bool) → m.next_body e.host ≡ None → (if idle then m.next_body e.host else None) ≡ None
    none true next = next
    none false next = refl

-- a message for a station of the list is begun
pub take-begins : {H : Type 0} (m : Ghosts H) (e : MasterState H) (body : List ℕ) → is_done e.mouth ≡ true → e.phase ≡ phase.Idle → m.next_body e.host ≡ Some body → is_listed e.stations (slice_index body 0) ≡ true
    → begun m e ≡ transmitted (let now = with_host e (m.after_next e.host) in record now { sending = body }) 0
take-begins m e body done at next listed =
    let is : message_next m e ≡ Some body = rw (done, at) next in
    ap (begun_of m e) is ∙ rw listed refl
