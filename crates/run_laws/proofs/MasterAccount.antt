-- A half-duplex master over a node: how many drained ticks its messages and commands may take yet, and what each signal changes of that.
use Rattle.std.proofs.Common.{◌≡◌, ◌∙◌, ◌⊎◌, inl, inr, ℕ, zero, suc, ◌+◌, ◌-◌, ◌*◌, ◌<◌, ◌≤◌, Bool, true, false, cond, not, ◌&&◌, nat_lt, List, length, Option, Some, None, is_some, refl, sym, ap, subst, arith, add-zero}
use Rattle.std.specs.Prelude.{slice_get, slice_index, ◌==◌}
use Rattle.std.proofs.Math.Nat.{mul-suc, suc-mul, mul-add, mul_comm}
use Rattle.std.proofs.lemmas.Bool.{cond_both}
use Rattle.std.proofs.lemmas.Bool.Decides.{nat_tests}
use Rattle.df1_base.specs.declared.host.Fate.TheVariants as fate
use Rattle.df1_base.specs.HostAnswers.{host_told}
use Rattle.df1_node.specs.Initiator.{InitiatorState}
use Rattle.df1_node.specs.Node.{NodeState, after_next, after_tick, after_told, after_node_issue, next_body}
use Rattle.each_once.specs.NodeHost.{node_host}
use Rattle.half_frame.specs.declared.heard.MasterHeard.{MasterHeard}
use Rattle.half_frame.specs.declared.heard.MasterHeard.TheVariants as heard
use Rattle.half_master.specs.declared.MasterSetup.{MasterSetup}
use Rattle.half_master.specs.declared.stations.Station.{Station}
use Rattle.half_master.specs.declared.table.Phase.{Phase}
use Rattle.half_master.specs.declared.table.Phase.TheVariants as phase
use Rattle.half_master.specs.declared.table.Effect.{Effect}
use Rattle.half_master.specs.declared.table.Effect.TheVariants as effect
use Rattle.half_master.specs.Master.{MasterState, with_host, with_byte, heard_at, body_of, unacknowledged, effect_of_verdict, answered, effect_on_message, effect_on_poll, effect_in, effect_of_byte, effect_of_tick, with_left, transmitted, performed, polled, host_accepted, host_ticked, fate_of, master_after_byte, master_after_tick, master_after_take, begun_of, message_next, is_quiet, is_idle}
use Rattle.half_master.specs.Stations.{is_listed}
use Rattle.half_master.proofs.LastMessage.{next-of}
use Rattle.half_mouth.specs.Giving.{is_done}
use Rattle.pccc_envelope.specs.Accepted.{Verdict, Repeated, Accepted, Refused}
use Rattle.pccc_envelope.specs.Envelope.{is_reply}
use Rattle.run_laws.proofs.NodeAccount.{AreWithin, count_waiting, within-more, tick-waiting, tick-within, HandsOut, hands_reply, hands_command, hands-out, queued, times-more, add-times, SameSettings, next-settings, both-settings, Accepts, accepts-none, accepts-body, accepts-fate, fate-accepts, IsOver, tick-over, handed-over, keeps-over, issue-waiting, issue-within, no-replies, none-to-hand-out}

-- ---- the phase

-- how many ticks it may last yet
abbrev pub wait_left : MasterSetup → Phase → ℕ
wait_left setup phase.Idle = 0
wait_left setup (phase.WaitsForAck left resent) = left + setup.ack_ticks * (setup.max_resends - resent)
wait_left setup (phase.WaitsAfterPoll left place) = left

abbrev pub HasLeft : Phase → Type 0
HasLeft phase.Idle = Unit {0}
HasLeft (phase.WaitsForAck left resent) = 1 ≤ left
HasLeft (phase.WaitsAfterPoll left place) = 1 ≤ left

-- the phase after an effect, but for a poll
abbrev phase_after : MasterSetup → Phase → Effect → Phase
phase_after setup p effect.Nothing = p
phase_after setup p (effect.Waits left) = with_left left p
phase_after setup p effect.Delivered = phase.Idle
phase_after setup p (effect.Again resent) = phase.WaitsForAck setup.ack_ticks resent
phase_after setup p effect.GivenUp = phase.Idle
phase_after setup p effect.PollOver = phase.Idle
phase_after setup p (effect.Accepted place) = phase.Idle
phase_after setup p effect.Repeated = phase.Idle
phase_after setup p effect.Refused = p
phase_after setup p effect.Damaged = p
phase_after setup p effect.Polls = p

-- so many ticks fewer, at least
abbrev Lasts : MasterSetup → ℕ → Phase → Phase → Type 0
Lasts setup fewer p q = (wait_left setup q + fewer ≤ wait_left setup p) × HasLeft q

-- an effect that is no poll
abbrev IsNoPoll : Effect → Type 0
IsNoPoll effect.Polls = ⊥
IsNoPoll _ = Unit {0}

abbrev Goes : MasterSetup → ℕ → Phase → Effect → Type 0
Goes setup fewer p what = Lasts setup fewer p (phase_after setup p what) × IsNoPoll what

-- one more sending again takes one from what is left
one-less : (k most count : ℕ) → count < most → k * (most - count) ≡ k * (most - (count + 1)) + k
one-less k most count fewer = ap (λ (n : ℕ). k * n) (let e : most - count ≡ suc (most - (count + 1)) = omega (arith, fewer) in e) ∙ mul-suc k (most - (count + 1))

unacknowledged-goes : (setup : MasterSetup) (left resent : ℕ) → 1 ≤ setup.ack_ticks → 1 ≤ left → Goes setup 1 (phase.WaitsForAck left resent) (unacknowledged setup resent)
unacknowledged-goes setup left resent some has = at (nat_lt resent setup.max_resends) refl
  where
    at : (again : Bool) → nat_lt resent setup.max_resends ≡ again → Goes setup 1 (phase.WaitsForAck left resent) (cond again (effect.Again (resent + 1)) effect.GivenUp)
    at true is =
        let fewer : resent < setup.max_resends = grind (arith, nat_tests, is) in
        let less = one-less setup.ack_ticks setup.max_resends resent fewer in
        ((omega (arith, has, less), some), tt)
    at false is = ((omega (arith, has), tt), tt)

-- where nothing is done
stays : (setup : MasterSetup) (p : Phase) → HasLeft p → Goes setup 0 p effect.Nothing
stays setup p has = ((omega arith, has), tt)

fewer-none : (setup : MasterSetup) (p : Phase) (what : Effect) → Goes setup 1 p what → Goes setup 0 p what
fewer-none setup p what goes = (((let few = goes.0.0 in omega (arith, few)), goes.0.1), goes.1)

message-goes : (setup : MasterSetup) (left resent : ℕ) (what : Option MasterHeard) → 1 ≤ setup.ack_ticks → 1 ≤ left → Goes setup 0 (phase.WaitsForAck left resent) (effect_on_message setup resent what)
message-goes setup left resent None some has = stays setup (phase.WaitsForAck left resent) has
message-goes setup left resent (Some heard.Good) some has = stays setup (phase.WaitsForAck left resent) has
message-goes setup left resent (Some heard.Damaged) some has = stays setup (phase.WaitsForAck left resent) has
message-goes setup left resent (Some heard.Ack) some has = ((omega arith, tt), tt)
message-goes setup left resent (Some heard.Nak) some has = fewer-none setup (phase.WaitsForAck left resent) (unacknowledged setup resent) (unacknowledged-goes setup left resent some has)
message-goes setup left resent (Some heard.Eot) some has = stays setup (phase.WaitsForAck left resent) has
message-goes setup left resent (Some (heard.Stray b)) some has = stays setup (phase.WaitsForAck left resent) has
message-goes setup left resent (Some (heard.StrayPair c)) some has = stays setup (phase.WaitsForAck left resent) has

verdict-goes : (setup : MasterSetup) (p : Phase) (place : ℕ) (verdict : Verdict) → HasLeft p → Goes setup 0 p (effect_of_verdict place verdict)
verdict-goes setup p place Repeated has = ((omega arith, tt), tt)
verdict-goes setup p place Accepted has = ((omega arith, tt), tt)
verdict-goes setup p place Refused has = ((omega arith, has), tt)

answered-goes : (setup : MasterSetup) (p : Phase) (room : List ℕ → Bool) (place : ℕ) (o : Option Station) (body : List ℕ) → HasLeft p → Goes setup 0 p (answered room place o body)
answered-goes setup p room place None body has = stays setup p has
answered-goes setup p room place (Some station) body has = cond_both (slice_index body 1 == station.number) _ _ (Goes setup 0 p) (λ is. verdict-goes setup p place _ has) (λ is. stays setup p has)

poll-goes : (setup : MasterSetup) (p : Phase) (good : Effect) (what : Option MasterHeard) → HasLeft p → Goes setup 0 p good → Goes setup 0 p (effect_on_poll good what)
poll-goes setup p good None has goes = stays setup p has
poll-goes setup p good (Some heard.Good) has goes = goes
poll-goes setup p good (Some heard.Damaged) has goes = ((omega arith, has), tt)
poll-goes setup p good (Some heard.Ack) has goes = stays setup p has
poll-goes setup p good (Some heard.Nak) has goes = stays setup p has
poll-goes setup p good (Some heard.Eot) has goes = ((omega arith, tt), tt)
poll-goes setup p good (Some (heard.Stray b)) has goes = stays setup p has
poll-goes setup p good (Some (heard.StrayPair c)) has goes = stays setup p has

in-goes : (e : MasterState NodeState) (what : Option MasterHeard) (p : Phase) → 1 ≤ e.setup.ack_ticks → HasLeft p → Goes e.setup 0 p (effect_in node_host e what p)
in-goes e what phase.Idle some has = stays e.setup phase.Idle has
in-goes e what (phase.WaitsForAck left resent) some has = message-goes e.setup left resent what some has
in-goes e what (phase.WaitsAfterPoll left place) some has = poll-goes e.setup (phase.WaitsAfterPoll left place) _ what has (answered-goes e.setup (phase.WaitsAfterPoll left place) (node_host.room_for e.host) place (slice_get e.stations place) (body_of e) has)

byte-goes : (e : MasterState NodeState) (b : ℕ) → 1 ≤ e.setup.ack_ticks → HasLeft e.phase → Goes e.setup 0 e.phase (effect_of_byte node_host e b)
byte-goes e b some has = cond_both (is_done e.mouth) _ _ (Goes e.setup 0 e.phase) (λ is. in-goes (with_byte e b) (heard_at e b) e.phase some has) (λ is. stays e.setup e.phase has)

-- the parts after an effect that is no poll
performed-phase : (e : MasterState NodeState) (what : Effect) → IsNoPoll what → (performed e what).phase ≡ phase_after e.setup e.phase what
performed-phase e effect.Nothing not_poll = refl
performed-phase e (effect.Waits left) not_poll = refl
performed-phase e effect.Delivered not_poll = refl
performed-phase e (effect.Again resent) not_poll = refl
performed-phase e effect.GivenUp not_poll = refl
performed-phase e effect.PollOver not_poll = refl
performed-phase e (effect.Accepted place) not_poll = refl
performed-phase e effect.Repeated not_poll = refl
performed-phase e effect.Refused not_poll = refl
performed-phase e effect.Damaged not_poll = refl
performed-phase e effect.Polls not_poll = absurd not_poll

-- a poll begins its wait, where a station is polled
polled-phase : (e : MasterState NodeState) (o : Option Station) → e.phase ≡ phase.Idle → 1 ≤ e.setup.poll_ticks → (wait_left e.setup (polled e o).phase ≤ e.setup.poll_ticks) × HasLeft (polled e o).phase
polled-phase e None idle some = rw idle (omega arith, tt)
polled-phase e (Some station) idle some = (omega arith, some)

polled-rest : (e : MasterState NodeState) (o : Option Station) → ((polled e o).setup ≡ e.setup) × ((polled e o).host ≡ e.host)
polled-rest e None = (refl, refl)
polled-rest e (Some station) = (refl, refl)

performed-rest : (e : MasterState NodeState) (what : Effect) → ((performed e what).setup ≡ e.setup) × ((performed e what).host ≡ e.host)
performed-rest e effect.Nothing = (refl, refl)
performed-rest e (effect.Waits left) = (refl, refl)
performed-rest e effect.Delivered = (refl, refl)
performed-rest e (effect.Again resent) = (refl, refl)
performed-rest e effect.GivenUp = (refl, refl)
performed-rest e effect.PollOver = (refl, refl)
performed-rest e (effect.Accepted place) = (refl, refl)
performed-rest e effect.Repeated = (refl, refl)
performed-rest e effect.Refused = (refl, refl)
performed-rest e effect.Damaged = (refl, refl)
performed-rest e effect.Polls = polled-rest e (slice_get e.stations e.next)

-- ---- what is due at a master

pub record Figures : Type 0 where
  pub setup : MasterSetup
  pub reply_ticks : ℕ
  pub message : ℕ
  pub command : ℕ

-- a message waits through all its waits, and a command through those and through a poll and one tick for each of its reply's ticks
pub record AreFigures (f : Figures) : Type 0 where
  pub some_ack : 1 ≤ f.setup.ack_ticks
  pub some_poll : 1 ≤ f.setup.poll_ticks
  pub some_reply : 1 ≤ f.reply_ticks
  pub waits : f.setup.ack_ticks + f.setup.ack_ticks * f.setup.max_resends ≤ f.message
  pub of_command : f.message + f.reply_ticks * (f.setup.poll_ticks + 1) ≤ f.command

pub record HasSettings (f : Figures) (setup : MasterSetup) (host : NodeState) : Type 0 where
  pub setup_is : setup ≡ f.setup
  pub reply_ticks : host.initiator.reply_ticks ≡ f.reply_ticks
  pub window : 1 ≤ host.initiator.window
  pub per_source : 1 ≤ host.initiator.per_source

-- no more than so many drained ticks, and a poll's, may pass until all that is under way, and that waits, is over
pub record Due (f : Figures) (p : Phase) (host : NodeState) (ticks : ℕ) : Type 0 where
  pub most : ℕ
  pub left : HasLeft p
  pub out : AreWithin most host.initiator.issued
  pub all : wait_left f.setup p + most * (f.setup.poll_ticks + 1) + queued f.message f.command host ≤ ticks + f.setup.poll_ticks

-- the phase lasts so many ticks fewer, and the host keeps what waits and what is out
due-goes : (f : Figures) (p q : Phase) (host now : NodeState) (ticks fewer rest more : ℕ) → Lasts f.setup fewer p q → Accepts host now more → ticks + more * f.message ≤ rest + fewer → Due f p host ticks → Due f q now rest
due-goes f p q host now ticks fewer rest more lasts accepts few d = record {
  most = d.most;
  left = lasts.1;
  out = accepts.keeps.within d.most d.out;
  all = (let all = d.all in
      let shorter = lasts.0 in
      let longer = ap (λ (n : ℕ). f.message * n) accepts.replies in
      let parts = mul-add f.message (length host.replies) more in
      let swapped = mul_comm f.message more in
      let same_times = ap (λ (n : ℕ). f.command * n) accepts.keeps.waiting in
      omega (arith, all, shorter, few, longer, parts, swapped, same_times));
}

-- a message is handed out, and the wait for its ACK begins, or none does
due-handed : (f : Figures) → AreFigures f → (p q : Phase) (host : NodeState) (ticks : ℕ) → host.initiator.reply_ticks ≡ f.reply_ticks → wait_left f.setup q ≤ wait_left f.setup p + f.message → HasLeft q → HandsOut host → Due f p host ticks → Due f q (after_next host) ticks
due-handed f are p q host ticks reply waits left (hands_reply one same) d =
    let paid = times-more f.message (length host.replies) (length (after_next host).replies) one in
    record {
      most = d.most;
      left = left;
      out = subst (λ (i : InitiatorState). AreWithin d.most i.issued) (sym same) d.out;
      all = (let all = d.all in let same_times = ap (λ (i : InitiatorState). f.command * count_waiting i.issued) same in omega (arith, all, waits, paid, same_times));
    }
due-handed f are p q host ticks reply waits left (hands_command same one within) d =
    let paid = times-more f.command (count_waiting host.initiator.issued) (count_waiting (after_next host).initiator.issued) (sym one) in
    let times = add-times d.most f.reply_ticks (f.setup.poll_ticks + 1) in
    record {
      most = d.most + f.reply_ticks;
      left = left;
      out = subst (λ (n : ℕ). AreWithin (d.most + n) (after_next host).initiator.issued) reply (within d.most d.out (let some = are.some_reply in omega (arith, some, reply)));
      all = (let all = d.all in let more = are.of_command in let same_times = ap (λ (rs : List (List ℕ)). f.message * length rs) same in omega (arith, all, waits, more, paid, times, same_times));
    }

-- ---- what a master has to wait for

abbrev pub DueAt : Figures → MasterState NodeState → ℕ → Type 0
DueAt f e ticks = Due f e.phase e.host ticks

-- all is over, or it is within so many ticks less than the whole
abbrev pub Spent : Figures → MasterState NodeState → ℕ → ℕ → Type 0
Spent f e total drained = IsOver e.host.initiator.issued ⊎ ((rest : ℕ) × DueAt f e rest × (rest + drained ≤ total))

-- a master with its settings: so many drained ticks suffice for all, and so many have come already since its last command
pub record Account (f : Figures) (e : MasterState NodeState) (total drained : ℕ) : Type 0 where
  pub has : HasSettings f e.setup e.host
  pub whole : DueAt f e total
  pub spent : Spent f e total drained

spent-step : (f : Figures) (e now : MasterState NodeState) (total drained more : ℕ) → (IsOver e.host.initiator.issued → IsOver now.host.initiator.issued) → ((ticks : ℕ) → DueAt f e ticks → DueAt f now (ticks + more)) → Spent f e total drained → Spent f now (total + more) drained
spent-step f e now total drained more over due (inl is) = inl (over is)
spent-step f e now total drained more over due (inr rest) = inr (rest.0 + more, due rest.0 rest.1, (let few = rest.2 in omega (arith, few)))

account-step : (f : Figures) (e now : MasterState NodeState) (total drained more : ℕ) → HasSettings f now.setup now.host → (IsOver e.host.initiator.issued → IsOver now.host.initiator.issued) → ((ticks : ℕ) → DueAt f e ticks → DueAt f now (ticks + more)) → Account f e total drained → Account f now (total + more) drained
account-step f e now total drained more has over due a = record { has = has; whole = due total a.whole; spent = spent-step f e now total drained more over due a.spent }

settings-host : (f : Figures) (setup now : MasterSetup) (host after : NodeState) → now ≡ setup → SameSettings host.initiator after.initiator → HasSettings f setup host → HasSettings f now after
settings-host f setup now host after is same has = record {
  setup_is = is ∙ has.setup_is;
  reply_ticks = same.reply_ticks ∙ has.reply_ticks;
  window = subst (λ (n : ℕ). 1 ≤ n) (sym same.window) has.window;
  per_source = subst (λ (n : ℕ). 1 ≤ n) (sym same.per_source) has.per_source;
}

-- a step of which no more is owed
spent-still : (f : Figures) (e now : MasterState NodeState) (total drained : ℕ) → (IsOver e.host.initiator.issued → IsOver now.host.initiator.issued) → ((ticks : ℕ) → DueAt f e ticks → DueAt f now ticks) → Spent f e total drained → Spent f now total drained
spent-still f e now total drained over due (inl is) = inl (over is)
spent-still f e now total drained over due (inr rest) = inr (rest.0, due rest.0 rest.1, rest.2)

account-still : (f : Figures) (e now : MasterState NodeState) (total drained : ℕ) → HasSettings f now.setup now.host → (IsOver e.host.initiator.issued → IsOver now.host.initiator.issued) → ((ticks : ℕ) → DueAt f e ticks → DueAt f now ticks) → Account f e total drained → Account f now total drained
account-still f e now total drained has over due a = record { has = has; whole = due total a.whole; spent = spent-still f e now total drained over due a.spent }

-- ---- a command is issued

pub account-issue : (f : Figures) (e : MasterState NodeState) (src dst : ℕ) (payload : List ℕ) (total drained : ℕ) → Account f e total drained → Account f (with_host e (after_node_issue e.host src dst payload)) (total + f.command) 0
account-issue f e src dst payload total drained a =
    let d = a.whole in
    let paid = times-more f.command (count_waiting (after_node_issue e.host src dst payload).initiator.issued) (count_waiting e.host.initiator.issued) (issue-waiting e.host src dst payload) in
    let due : DueAt f (with_host e (after_node_issue e.host src dst payload)) (total + f.command) =
    record { most = d.most; left = d.left; out = issue-within e.host src dst payload d.most d.out; all = (let all = d.all in omega (arith, all, paid)) } in
    record {
      has = record { setup_is = a.has.setup_is; reply_ticks = a.has.reply_ticks; window = a.has.window; per_source = a.has.per_source };
      whole = due;
      spent = inr (total + f.command, due, omega arith);
    }

-- ---- a take

-- a message that was handed out: its station is listed, or it is given up at once
begun-account : (f : Figures) → AreFigures f → (e : MasterState NodeState) (body : List ℕ) (total drained : ℕ) (listed : Bool) → HandsOut e.host → Account f e total drained
    → Account f (cond listed (transmitted (record (with_host e (after_next e.host)) { sending = body }) 0) (with_host e (after_told (after_next e.host) fate.Undelivered))) total drained
begun-account f are e body total drained true hands a =
    account-still f e (transmitted (record (with_host e (after_next e.host)) { sending = body }) 0) total drained (settings-host f e.setup e.setup e.host (after_next e.host) refl (next-settings e.host) a.has) (handed-over e.host hands)
    (λ ticks d. subst (λ (setup : MasterSetup). Due f (phase.WaitsForAck setup.ack_ticks 0) (after_next e.host) ticks) (sym a.has.setup_is)
    (due-handed f are e.phase (phase.WaitsForAck f.setup.ack_ticks 0) e.host ticks a.has.reply_ticks (let waits = are.waits in let same = ap (λ (n : ℕ). f.setup.ack_ticks * n) (let e : f.setup.max_resends - 0 ≡ f.setup.max_resends = omega arith in e) in omega (arith, waits, same)) are.some_ack hands d)) a
begun-account f are e body total drained false hands a =
    let next = after_next e.host in
    let told = fate-accepts (Some fate.Undelivered) next in
    account-still f e (with_host e (after_told next fate.Undelivered)) total drained (settings-host f e.setup e.setup e.host (after_told next fate.Undelivered) refl (both-settings e.host.initiator next.initiator _ (next-settings e.host) told.settings) a.has)
    (λ over. keeps-over next.initiator.issued (after_told next fate.Undelivered).initiator.issued told.keeps (handed-over e.host hands over))
    (λ ticks d. due-goes f e.phase e.phase next (after_told next fate.Undelivered) ticks 0 ticks 0 (omega arith, d.left) told (omega arith)
    (due-handed f are e.phase e.phase e.host ticks a.has.reply_ticks (omega arith) d.left hands d)) a

pub account-take : (f : Figures) → AreFigures f → (e : MasterState NodeState) (total drained : ℕ) → Account f e total drained → Account f (master_after_take node_host e) total drained
account-take f are e total drained a = given (begun-next (message_next node_host e) refl)
  where
    begun-next : (o : Option (List ℕ)) → message_next node_host e ≡ o → Account f (begun_of node_host e o) total drained
    begun-next None is = a
    begun-next (Some body) is = begun-account f are e body total drained (is_listed e.stations (slice_index body 0)) (hands-out e.host body (next-of node_host e body is)) a

    given : Account f (begun_of node_host e (message_next node_host e)) total drained → Account f (master_after_take node_host e) total drained
    given b = record { has = b.has; whole = b.whole; spent = b.spent }

-- ---- a byte

-- one, where a command is accepted
abbrev pub executes : Effect → List ℕ → ℕ
executes (effect.Accepted place) body = cond (is_reply body) 0 1
executes effect.Nothing body = 0
executes (effect.Waits left) body = 0
executes effect.Delivered body = 0
executes (effect.Again resent) body = 0
executes effect.GivenUp body = 0
executes effect.PollOver body = 0
executes effect.Repeated body = 0
executes effect.Refused body = 0
executes effect.Damaged body = 0
executes effect.Polls body = 0

effect-accepts : (what : Effect) (host : NodeState) (body : List ℕ) → Accepts host (host_accepted node_host what host body) (executes what body)
effect-accepts (effect.Accepted place) host body = accepts-body host body
effect-accepts effect.Nothing host body = accepts-none host
effect-accepts (effect.Waits left) host body = accepts-none host
effect-accepts effect.Delivered host body = accepts-none host
effect-accepts (effect.Again resent) host body = accepts-none host
effect-accepts effect.GivenUp host body = accepts-none host
effect-accepts effect.PollOver host body = accepts-none host
effect-accepts effect.Repeated host body = accepts-none host
effect-accepts effect.Refused host body = accepts-none host
effect-accepts effect.Damaged host body = accepts-none host
effect-accepts effect.Polls host body = accepts-none host

-- the master after an effect that is no poll, over another host
done : (f : Figures) (e after : MasterState NodeState) (now : NodeState) (what : Effect) (more : ℕ) → after.setup ≡ e.setup → after.host ≡ now → after.phase ≡ phase_after e.setup e.phase what → Accepts e.host now more → HasSettings f e.setup e.host
    → HasSettings f after.setup after.host × (IsOver e.host.initiator.issued → IsOver after.host.initiator.issued)
    × ((fewer ticks rest : ℕ) → Goes e.setup fewer e.phase what → ticks + more * f.message ≤ rest + fewer → DueAt f e ticks → DueAt f after rest)
done f e after now what more setup_is host_is phase_is accepts has = (
  subst (λ (h : NodeState). HasSettings f after.setup h) (sym host_is) (settings-host f e.setup after.setup e.host now setup_is accepts.settings has),
  (λ over. subst (λ (h : NodeState). IsOver h.initiator.issued) (sym host_is) (keeps-over e.host.initiator.issued now.initiator.issued accepts.keeps over)),
  (λ fewer ticks rest goes few d. subst (λ (p : Phase). Due f p after.host rest) (sym phase_is) (subst (λ (h : NodeState). Due f (phase_after e.setup e.phase what) h rest) (sym host_is)
      (due-goes f e.phase (phase_after e.setup e.phase what) e.host now ticks fewer rest more (subst (λ (setup : MasterSetup). Lasts setup fewer e.phase (phase_after e.setup e.phase what)) has.setup_is goes.0) accepts few d))),
)

pub account-byte : (f : Figures) → AreFigures f → (e : MasterState NodeState) (b : ℕ) (total drained : ℕ) → Account f e total drained
    → Account f (master_after_byte node_host e b) (total + executes (effect_of_byte node_host e b) (body_of (with_byte e b)) * f.message) drained
account-byte f are e b total drained a =
    let what = effect_of_byte node_host e b in
    let body = body_of (with_byte e b) in
    let more = executes what body in
    let now = host_told node_host (fate_of what) (host_accepted node_host what e.host body) in
    let some : 1 ≤ e.setup.ack_ticks = (let enough = are.some_ack in let same = ap (λ (s : MasterSetup). s.ack_ticks) a.has.setup_is in omega (arith, enough, same)) in
    let goes = byte-goes e b some a.whole.left in
    let started = with_host (with_byte e b) now in
    let rest = performed-rest started what in
    let is = done f e (master_after_byte node_host e b) now what more rest.0 rest.1 (performed-phase started what goes.1) (accepts-fate e.host (host_accepted node_host what e.host body) more (fate_of what) (effect-accepts what e.host body)) a.has in
    account-step f e (master_after_byte node_host e b) total drained (more * f.message) is.0 is.1 (λ ticks d. is.2 0 ticks (ticks + more * f.message) goes (omega arith) d) a

-- ---- a tick

-- within no tick at all: nothing is out, and nothing waits
due-none : (f : Figures) → AreFigures f → (p : Phase) (host : NodeState) → Due f p host 0 → IsOver host.initiator.issued
due-none f are p host d =
    let all = d.all in
    record {
      none_waits = below f.command (count_waiting host.initiator.issued) f.setup.poll_ticks (let more = are.of_command in let times = times-one f.reply_ticks are.some_reply in omega (arith, more, times)) (omega (arith, all));
      none_out = subst (λ (n : ℕ). AreWithin n host.initiator.issued) (below (f.setup.poll_ticks + 1) d.most f.setup.poll_ticks (omega arith) (let swapped = mul_comm (f.setup.poll_ticks + 1) d.most in omega (arith, all, swapped))) d.out;
    }
  where
    times-one : (n : ℕ) → 1 ≤ n → f.setup.poll_ticks + 1 ≤ n * (f.setup.poll_ticks + 1)
    times-one zero some = absurd (omega (arith, some))
    times-one (suc n) some = (let more = suc-mul n (f.setup.poll_ticks + 1) in omega (arith, more))

    below : (k n most : ℕ) → most + 1 ≤ k → k * n ≤ most → n ≡ 0
    below k zero most more few = refl
    below k (suc n) most more few = absurd (let times = mul-suc k n in omega (arith, more, few, times))

-- a step at a drained tick: of what is left a tick less
spent-less : (f : Figures) → AreFigures f → (e now : MasterState NodeState) (total drained : ℕ) → (IsOver e.host.initiator.issued → IsOver now.host.initiator.issued)
    → ((ticks : ℕ) → DueAt f e (ticks + 1) → IsOver e.host.initiator.issued ⊎ DueAt f now ticks) → Spent f e total drained → Spent f now total (drained + 1)
spent-less f are e now total drained over due (inl is) = inl (over is)
spent-less f are e now total drained over due (inr rest) = at rest.0 rest.1 rest.2
  where
    at : (ticks : ℕ) → DueAt f e ticks → ticks + drained ≤ total → Spent f now total (drained + 1)
    at zero d few = inl (over (due-none f are e.phase e.host d))
    at (suc ticks) d few = elim (due ticks (subst (DueAt f e) (let is : suc ticks ≡ ticks + 1 = omega arith in is) d)) [
      | inl is ↦ inl (over is)
      | inr less ↦ inr (ticks, less, (omega (arith, few)))
    ]

-- the master after the effect of a tick
abbrev after_effect : MasterState NodeState → Effect → MasterState NodeState
after_effect e what = performed (with_host e (host_told node_host (fate_of what) (host_ticked node_host what e.host))) what

no-ticked : (what : Effect) (host : NodeState) → IsNoPoll what → host_ticked node_host what host ≡ host
no-ticked effect.Nothing host not_poll = refl
no-ticked (effect.Waits left) host not_poll = refl
no-ticked effect.Delivered host not_poll = refl
no-ticked (effect.Again resent) host not_poll = refl
no-ticked effect.GivenUp host not_poll = refl
no-ticked effect.PollOver host not_poll = refl
no-ticked (effect.Accepted place) host not_poll = refl
no-ticked effect.Repeated host not_poll = refl
no-ticked effect.Refused host not_poll = refl
no-ticked effect.Damaged host not_poll = refl
no-ticked effect.Polls host not_poll = absurd not_poll

-- a drained tick of a wait
waited : (f : Figures) → AreFigures f → (e : MasterState NodeState) (what : Effect) (total drained : ℕ) → Goes e.setup 1 e.phase what → Account f e total drained → Account f (after_effect e what) total (drained + 1)
waited f are e what total drained goes a =
    let now = host_told node_host (fate_of what) e.host in
    let same = no-ticked what e.host goes.1 in
    let started = with_host e (host_told node_host (fate_of what) (host_ticked node_host what e.host)) in
    let rest = performed-rest started what in
    let host_is : (after_effect e what).host ≡ now = rest.1 ∙ ap (host_told node_host (fate_of what)) same in
    let is = done f e (after_effect e what) now what 0 rest.0 host_is (performed-phase started what goes.1) (fate-accepts (fate_of what) e.host) a.has in
    record {
      has = is.0;
      whole = is.2 1 total total goes (omega arith) a.whole;
      spent = spent-less f are e (after_effect e what) total drained is.1 (λ ticks d. inr (is.2 1 (ticks + 1) ticks goes (omega arith) d)) a.spent;
    }

-- at a drained tick of an idle master: its host has a tick, and a poll's wait begins; or all is over
polled-due : (f : Figures) (p q : Phase) (host : NodeState) (most ticks : ℕ) → next_body host ≡ None → 1 ≤ host.initiator.window → 1 ≤ host.initiator.per_source → HasLeft q → wait_left f.setup q ≤ f.setup.poll_ticks → AreWithin most host.initiator.issued
    → wait_left f.setup p + most * (f.setup.poll_ticks + 1) + queued f.message f.command host ≤ ticks + 1 + f.setup.poll_ticks → IsOver host.initiator.issued ⊎ Due f q (after_tick host) ticks
polled-due f p q host zero ticks none window per_source left few out all = inl (none-to-hand-out host window per_source out none)
polled-due f p q host (suc most) ticks none window per_source left few out all = inr (record {
  most = most;
  left = left;
  out = within-more (suc most - 1) most (after_tick host).initiator.issued (omega arith) (tick-within host (suc most) out);
  all = (let times = suc-mul most (f.setup.poll_ticks + 1) in let same_waits = ap (λ (n : ℕ). f.command * n) (tick-waiting host) in omega (arith, all, few, times, same_waits));
})

polled-whole : (f : Figures) (q : Phase) (host : NodeState) (ticks : ℕ) → next_body host ≡ None → HasLeft q → wait_left f.setup q ≤ f.setup.poll_ticks → IsOver host.initiator.issued ⊎ Due f q (after_tick host) ticks → Due f q (after_tick host) ticks
polled-whole f q host ticks none left few (inr d) = d
polled-whole f q host ticks none left few (inl over) = record {
  most = 0;
  left = left;
  out = (tick-over host over).none_out;
  all = (let replies = ap (λ (n : ℕ). f.message * n) (no-replies host none) in let waits = ap (λ (n : ℕ). f.command * n) (tick-over host over).none_waits in omega (arith, few, replies, waits));
}

polls : (f : Figures) → AreFigures f → (e : MasterState NodeState) (total drained : ℕ) → e.phase ≡ phase.Idle → next_body e.host ≡ None → Account f e total drained → Account f (after_effect e effect.Polls) total (drained + 1)
polls f are e total drained idle none a =
    let now = after_tick e.host in
    let started = with_host e now in
    let after = after_effect e effect.Polls in
    let rest = polled-rest started (slice_get e.stations e.next) in
    let some : 1 ≤ e.setup.poll_ticks = (let enough = are.some_poll in let same = ap (λ (s : MasterSetup). s.poll_ticks) a.has.setup_is in omega (arith, enough, same)) in
    let begun = polled-phase started (slice_get e.stations e.next) idle some in
    let few : wait_left f.setup after.phase ≤ f.setup.poll_ticks = subst (λ (s : MasterSetup). wait_left s after.phase ≤ s.poll_ticks) a.has.setup_is begun.0 in
    let at : (ticks : ℕ) → DueAt f e (ticks + 1) → IsOver e.host.initiator.issued ⊎ Due f after.phase now ticks = λ ticks d. polled-due f e.phase after.phase e.host d.most ticks none a.has.window a.has.per_source begun.1 few d.out d.all in
    let whole : Due f after.phase now total = polled-whole f after.phase e.host total none begun.1 few (at total (due-more f e.phase e.host total a.whole)) in
    record {
      has = subst (λ (h : NodeState). HasSettings f after.setup h) (sym rest.1) (settings-host f e.setup after.setup e.host now rest.0 (record { reply_ticks = refl; window = refl; per_source = refl }) a.has);
      whole = subst (λ (h : NodeState). Due f after.phase h total) (sym rest.1) whole;
      spent = spent-less f are e after total drained (λ is. subst (λ (h : NodeState). IsOver h.initiator.issued) (sym rest.1) (tick-over e.host is))
          (λ ticks d. subst (λ (h : NodeState). IsOver e.host.initiator.issued ⊎ Due f after.phase h ticks) (sym rest.1) (at ticks d)) a.spent;
    }
  where
    due-more : (f : Figures) (p : Phase) (host : NodeState) (ticks : ℕ) → Due f p host ticks → Due f p host (ticks + 1)
    due-more f p host ticks d = record { most = d.most; left = d.left; out = d.out; all = (let all = d.all in omega (arith, all)) }

-- nothing is done
passed : (f : Figures) (e : MasterState NodeState) (total drained : ℕ) → Account f e total drained → Account f (after_effect e effect.Nothing) total (drained + 0)
passed f e total drained a = subst (λ (n : ℕ). Account f (after_effect e effect.Nothing) total n) (sym (add-zero drained)) (record { has = a.has; whole = a.whole; spent = a.spent })

wait-goes : (setup : MasterSetup) (left place : ℕ) → 1 ≤ left → Goes setup 1 (phase.WaitsAfterPoll left place) (cond (nat_lt 1 left) (effect.Waits (left - 1)) effect.PollOver)
wait-goes setup left place has = at (nat_lt 1 left) refl
  where
    at : (longer : Bool) → nat_lt 1 left ≡ longer → Goes setup 1 (phase.WaitsAfterPoll left place) (cond longer (effect.Waits (left - 1)) effect.PollOver)
    at true is = let more : 1 < left = grind (arith, nat_tests, is) in ((omega (arith, more), omega (arith, more)), tt)
    at false is = ((omega (arith, has), tt), tt)

ack-goes : (setup : MasterSetup) (left resent : ℕ) → 1 ≤ setup.ack_ticks → 1 ≤ left → Goes setup 1 (phase.WaitsForAck left resent) (cond (nat_lt 1 left) (effect.Waits (left - 1)) (unacknowledged setup resent))
ack-goes setup left resent some has = at (nat_lt 1 left) refl
  where
    at : (longer : Bool) → nat_lt 1 left ≡ longer → Goes setup 1 (phase.WaitsForAck left resent) (cond longer (effect.Waits (left - 1)) (unacknowledged setup resent))
    at true is = let more : 1 < left = grind (arith, nat_tests, is) in ((omega (arith, more), omega (arith, more)), tt)
    at false is = unacknowledged-goes setup left resent some has

ticked-in : (f : Figures) → AreFigures f → (e : MasterState NodeState) (total drained : ℕ) (ready : Bool) (p : Phase) → is_some (next_body e.host) ≡ ready → e.phase ≡ p → Account f e total drained
    → Account f (after_effect e (effect_of_tick e.setup ready p)) total (drained + cond (not (is_idle p && ready)) 1 0)
ticked-in f are e total drained true phase.Idle next is a = passed f e total drained a
ticked-in f are e total drained false phase.Idle next is a = polls f are e total drained is (none-is (next_body e.host) next) a
  where
    none-is : (o : Option (List ℕ)) → is_some o ≡ false → o ≡ None
    none-is None is = refl
    none-is (Some body) is = absurd cc
ticked-in f are e total drained ready (phase.WaitsForAck left resent) next is a =
    let some : 1 ≤ e.setup.ack_ticks = (let enough = are.some_ack in let same = ap (λ (s : MasterSetup). s.ack_ticks) a.has.setup_is in omega (arith, enough, same)) in
    waited f are e _ total drained (subst (λ (p : Phase). Goes e.setup 1 p (effect_of_tick e.setup ready (phase.WaitsForAck left resent))) (sym is) (ack-goes e.setup left resent some (subst HasLeft is a.whole.left))) a
ticked-in f are e total drained ready (phase.WaitsAfterPoll left place) next is a =
    waited f are e _ total drained (subst (λ (p : Phase). Goes e.setup 1 p (effect_of_tick e.setup ready (phase.WaitsAfterPoll left place))) (sym is) (wait-goes e.setup left place (subst HasLeft is a.whole.left))) a

pub account-tick : (f : Figures) → AreFigures f → (e : MasterState NodeState) (total drained : ℕ) → Account f e total drained → Account f (master_after_tick node_host e) total (drained + cond (is_quiet node_host e) 1 0)
account-tick f are e total drained a = at (is_done e.mouth) refl
  where
    ready : Bool
    ready = is_some (next_body e.host)

    at : (done : Bool) → is_done e.mouth ≡ done → Account f (after_effect e (cond done (effect_of_tick e.setup ready e.phase) effect.Nothing)) total (drained + cond (done && not (is_idle e.phase && ready)) 1 0)
    at false is = passed f e total drained a
    at true is = ticked-in f are e total drained ready e.phase refl refl a

-- ---- in the end

-- where so many ticks have come, all is over
pub all-over : (f : Figures) → AreFigures f → (e : MasterState NodeState) (total drained : ℕ) → total ≤ drained → Account f e total drained → IsOver e.host.initiator.issued
all-over f are e total drained enough a = over a.spent
  where
    over : Spent f e total drained → IsOver e.host.initiator.issued
    over (inl is) = is
    over (inr rest) = due-none f are e.phase e.host (subst (DueAt f e) (let few = rest.2 in let none : rest.0 ≡ 0 = omega (arith, few, enough) in none) rest.1)
