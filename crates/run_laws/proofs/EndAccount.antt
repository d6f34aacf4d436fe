-- An end of a full-duplex line: how many drained ticks its messages and commands may take yet, and what each signal changes of that.
use Rattle.std.proofs.Common.{◌≡◌, ◌∙◌, ◌⊎◌, inl, inr, ℕ, zero, suc, ◌+◌, ◌-◌, ◌*◌, ◌<◌, ◌≤◌, Bool, true, false, cond, nat_lt, List, length, Option, Some, None, is_none, refl, sym, ap, subst, arith, add-zero}
use Rattle.std.proofs.Math.Nat.{mul-suc, mul-add, mul_comm}
use Rattle.std.proofs.lemmas.Bool.Decides.{nat_tests}
use Rattle.df1_base.specs.declared.host.Fate.{Fate}
use Rattle.df1_base.specs.declared.link.Act.{Act}
use Rattle.df1_base.specs.declared.link.Act.TheVariants as act
use Rattle.df1_base.specs.HostAnswers.{host_told}
use Rattle.df1_base.specs.declared.link.Out.{Out}
use Rattle.df1_node.specs.Node.{NodeState, after_next, after_tick, after_node_issue, next_body}
use Rattle.duplex_sender.specs.declared.Limits.{Limits}
use Rattle.duplex_sender.specs.declared.Phase.{Phase}
use Rattle.duplex_sender.specs.declared.Phase.TheVariants as phase
use Rattle.duplex_sender.specs.Sender.{SenderState, Activity, Idle, Sending, Waiting, phase_of, load, sent_last, on_ack, on_nak, on_tick, tick_turn}
use Rattle.embedded_response.specs.Giving.{chosen, take}
use Rattle.duplex_end.specs.End.{EndState, with_host, begun_at, begun_next, prepared, given_next, ends_here, sender_after, host_after, end_after_take, end_after_tick, out_at_take, fate_of_tick}
use Rattle.duplex_end.proofs.Order.{end-is}
use Rattle.duplex_line.proofs.Complete.QuietEnd.{gives-nothing}
use Rattle.each_once.specs.NodeHost.{node_host}
use Rattle.pccc_envelope.specs.Envelope.{is_reply}
use Rattle.run_laws.proofs.NodeAccount.{AreWithin, count_waiting, within-more, Keeps, tick-waiting, tick-within, HandsOut, hands_reply, hands_command, hands-out, queued, times-more, no-times, SameSettings, next-settings, Accepts, accepts-none, accepts-body, told-replies, fate-keeps, fate-settings, IsOver, tick-over, handed-over, keeps-over, issue-waiting, issue-within, none-to-hand-out}

-- ---- the sender

-- the waits of a message after this one, where so many NAKs and ENQs were counted
abbrev pub later_waits : Limits → ℕ → ℕ → ℕ
later_waits limits naks enqs = limits.ack_ticks * (limits.max_enqs - enqs) + (limits.ack_ticks - 1) * (limits.max_naks - naks)

-- how many ticks its message may wait yet
abbrev pub ticks_left : Limits → Activity → ℕ
ticks_left limits Idle = 0
ticks_left limits (Sending body naks enqs) = limits.ack_ticks + later_waits limits naks enqs
ticks_left limits (Waiting body naks enqs left) = left + later_waits limits naks enqs

abbrev pub sender_ticks : SenderState → ℕ
sender_ticks s = ticks_left s.limits s.activity

-- a wait has a tick left
abbrev pub HasLeft : Activity → Type 0
HasLeft Idle = Unit {0}
HasLeft (Sending body naks enqs) = Unit {0}
HasLeft (Waiting body naks enqs left) = 1 ≤ left

-- after a step it waits no longer than before
pub record Shrinks (s t : SenderState) : Type 0 where
  pub limits : t.limits ≡ s.limits
  pub few : sender_ticks t ≤ sender_ticks s
  pub left : HasLeft t.activity

shrinks-same : (s : SenderState) → HasLeft s.activity → Shrinks s s
shrinks-same s left = record { limits = refl; few = omega arith; left = left }

pub sent-shrinks : (limits : Limits) (a : Activity) → 1 ≤ limits.ack_ticks → HasLeft a → Shrinks (record { limits = limits; activity = a }) (sent_last (record { limits = limits; activity = a }))
sent-shrinks limits Idle some left = record { limits = refl; few = omega arith; left = left }
sent-shrinks limits (Sending body naks enqs) some left = record { limits = refl; few = omega arith; left = some }
sent-shrinks limits (Waiting body naks enqs ticks) some left = record { limits = refl; few = omega arith; left = left }

pub ack-shrinks : (limits : Limits) (a : Activity) → HasLeft a → Shrinks (record { limits = limits; activity = a }) (on_ack (record { limits = limits; activity = a }))
ack-shrinks limits Idle left = record { limits = refl; few = omega arith; left = left }
ack-shrinks limits (Sending body naks enqs) left = record { limits = refl; few = omega arith; left = left }
ack-shrinks limits (Waiting body naks enqs ticks) left = record { limits = refl; few = omega arith; left = tt }

-- one more counted takes one from what is left
one-less : (k most count : ℕ) → count < most → k * (most - count) ≡ k * (most - (count + 1)) + k
one-less k most count fewer = ap (λ (n : ℕ). k * n) (let e : most - count ≡ suc (most - (count + 1)) = omega (arith, fewer) in e) ∙ mul-suc k (most - (count + 1))

pub nak-shrinks : (limits : Limits) (a : Activity) → 1 ≤ limits.ack_ticks → HasLeft a → Shrinks (record { limits = limits; activity = a }) (on_nak (record { limits = limits; activity = a }))
nak-shrinks limits Idle some left = record { limits = refl; few = omega arith; left = left }
nak-shrinks limits (Sending body naks enqs) some left = record { limits = refl; few = omega arith; left = left }
nak-shrinks limits (Waiting body naks enqs ticks) some left = at (nat_lt naks limits.max_naks) refl
  where
    at : (again : Bool) → nat_lt naks limits.max_naks ≡ again
        → Shrinks (record { limits = limits; activity = Waiting body naks enqs ticks }) (record { limits = limits; activity = cond again (Sending body (naks + 1) enqs) Idle })
    at true is =
        let fewer : naks < limits.max_naks = grind (arith, nat_tests, is) in
        let less = one-less (limits.ack_ticks - 1) limits.max_naks naks fewer in
        record { limits = refl; few = (omega (arith, some, left, less)); left = tt }
    at false is = record { limits = refl; few = omega arith; left = tt }

-- after a tick of a wait a tick less
abbrev pub one_if_waiting : Activity → ℕ
one_if_waiting Idle = 0
one_if_waiting (Sending body naks enqs) = 0
one_if_waiting (Waiting body naks enqs left) = 1

pub record Ticks (s t : SenderState) : Type 0 where
  pub limits : t.limits ≡ s.limits
  pub few : sender_ticks t + one_if_waiting s.activity ≤ sender_ticks s
  pub left : HasLeft t.activity

pub tick-shrinks : (limits : Limits) (a : Activity) → 1 ≤ limits.ack_ticks → HasLeft a → Ticks (record { limits = limits; activity = a }) (on_tick (record { limits = limits; activity = a }))
tick-shrinks limits Idle some left = record { limits = refl; few = omega arith; left = left }
tick-shrinks limits (Sending body naks enqs) some left = record { limits = refl; few = omega arith; left = left }
tick-shrinks limits (Waiting body naks enqs ticks) some left = at (nat_lt 1 ticks) (nat_lt enqs limits.max_enqs) refl refl
  where
    at : (longer again : Bool) → nat_lt 1 ticks ≡ longer → nat_lt enqs limits.max_enqs ≡ again
        → Ticks (record { limits = limits; activity = Waiting body naks enqs ticks })
        (record { limits = limits; activity = cond longer (Waiting body naks enqs (ticks - 1)) (cond again (Waiting body naks (enqs + 1) limits.ack_ticks) Idle) })
    at true again more is = let longer : 1 < ticks = grind (arith, nat_tests, more) in record { limits = refl; few = (omega (arith, longer)); left = (omega (arith, longer)) }
    at false true more is =
        let fewer : enqs < limits.max_enqs = grind (arith, nat_tests, is) in
        let less = one-less limits.ack_ticks limits.max_enqs enqs fewer in
        record { limits = refl; few = (omega (arith, left, less)); left = some }
    at false false more is = record { limits = refl; few = (omega (arith, left)); left = tt }

-- ---- what is due at an end

-- what a full-duplex end's figures are: the ticks of a message, of a command and of a reply, and its limits
pub record Figures : Type 0 where
  pub limits : Limits
  pub reply_ticks : ℕ
  pub message : ℕ
  pub command : ℕ

-- a message waits through all its waits, and a command through those, or through those for its reply
pub record AreFigures (f : Figures) : Type 0 where
  pub some_ack : 1 ≤ f.limits.ack_ticks
  pub some_reply : 1 ≤ f.reply_ticks
  pub waits : f.limits.ack_ticks + later_waits f.limits 0 0 ≤ f.message
  pub of_message : f.message ≤ f.command
  pub of_reply : f.reply_ticks ≤ f.command

-- the end has these settings
pub record HasSettings (f : Figures) (s : SenderState) (host : NodeState) : Type 0 where
  pub limits : s.limits ≡ f.limits
  pub reply_ticks : host.initiator.reply_ticks ≡ f.reply_ticks
  pub window : 1 ≤ host.initiator.window
  pub per_source : 1 ≤ host.initiator.per_source

-- no more than so many drained ticks may pass until all that is now under way, and that waits, is over
pub record Due (f : Figures) (s : SenderState) (host : NodeState) (ticks : ℕ) : Type 0 where
  pub most : ℕ
  pub sender : sender_ticks s ≤ most
  pub left : HasLeft s.activity
  pub out : AreWithin most host.initiator.issued
  pub all : most + queued f.message f.command host ≤ ticks

pub due-more : (f : Figures) (s : SenderState) (host : NodeState) (ticks more : ℕ) → ticks ≤ more → Due f s host ticks → Due f s host more
due-more f s host ticks more few d = record { most = d.most; sender = d.sender; left = d.left; out = d.out; all = (let all = d.all in omega (arith, all, few)) }

-- the sender goes on
due-sender : (f : Figures) (s t : SenderState) (host : NodeState) (ticks : ℕ) → Shrinks s t → Due f s host ticks → Due f t host ticks
due-sender f s t host ticks shrinks d = record { most = d.most; sender = (let few = shrinks.few in let was = d.sender in omega (arith, few, was)); left = shrinks.left; out = d.out; all = d.all }

-- the host keeps what waits and what is out
due-host : (f : Figures) (s : SenderState) (host now : NodeState) (ticks : ℕ) → now.replies ≡ host.replies → Keeps host.initiator.issued now.initiator.issued → Due f s host ticks → Due f s now ticks
due-host f s host now ticks same keeps d = record {
  most = d.most;
  sender = d.sender;
  left = d.left;
  out = keeps.within d.most d.out;
  all = rw (same, keeps.waiting) d.all;
}

-- ---- a message is handed out

due-handed : (f : Figures) → AreFigures f → (s : SenderState) (host : NodeState) (body : List ℕ) (ticks : ℕ) → HasSettings f s host → HandsOut host → Due f s host ticks → Due f (load s body) (after_next host) ticks
due-handed f are s host body ticks has (hands_reply one same) d =
    let paid = times-more f.message (length host.replies) (length (after_next host).replies) one in
    let same_waits = ap (λ (i : _). count_waiting i.issued) same in
    record {
      most = d.most + f.message;
      sender = (let waits = are.waits in let limits = ap (λ (l : Limits). l.ack_ticks + later_waits l 0 0) has.limits in omega (arith, waits, limits));
      left = tt;
      out = rw same (within-more d.most (d.most + f.message) host.initiator.issued (omega arith) d.out);
      all = (let all = d.all in let same_times = ap (λ (n : ℕ). f.command * n) same_waits in omega (arith, all, paid, same_times));
    }
due-handed f are s host body ticks has (hands_command same one within) d =
    let paid = times-more f.command (count_waiting host.initiator.issued) (count_waiting (after_next host).initiator.issued) (sym one) in
    record {
      most = d.most + f.command;
      sender = (let waits = are.waits in let more = are.of_message in let limits = ap (λ (l : Limits). l.ack_ticks + later_waits l 0 0) has.limits in omega (arith, waits, more, limits));
      left = tt;
      out = within-more (d.most + host.initiator.reply_ticks) (d.most + f.command) (after_next host).initiator.issued (let more = are.of_reply in let is = has.reply_ticks in omega (arith, more, is))
          (within d.most d.out (let some = are.some_reply in let is = has.reply_ticks in omega (arith, some, is)));
      all = (let all = d.all in let same_times = ap (λ (rs : List (List ℕ)). f.message * length rs) same in omega (arith, all, paid, same_times));
    }

-- ---- a take

-- of an end
abbrev pub DueAt : Figures → EndState NodeState → ℕ → Type 0
DueAt f e ticks = Due f e.sender e.host ticks

begun-due : (f : Figures) → AreFigures f → (e : EndState NodeState) (p : Phase) (next : Option (List ℕ)) (ticks : ℕ) → next_body e.host ≡ next → HasSettings f e.sender e.host → DueAt f e ticks → DueAt f (begun_at node_host e p next) ticks
begun-due f are e phase.Idle None ticks is has d = d
begun-due f are e phase.Idle (Some body) ticks is has d = due-handed f are e.sender e.host body ticks has (hands-out e.host body is) d
begun-due f are e phase.Sending next ticks is has d = d
begun-due f are e phase.Waiting next ticks is has d = d

prepared-due : (f : Figures) → AreFigures f → (e : EndState NodeState) (begins : Bool) (ticks : ℕ) → HasSettings f e.sender e.host → DueAt f e ticks → DueAt f (cond begins (begun_next node_host e) e) ticks
prepared-due f are e true ticks has d = begun-due f are e (phase_of e.sender) (next_body e.host) ticks refl has d
prepared-due f are e false ticks has d = d

given-due : (f : Figures) → AreFigures f → (s : SenderState) (host : NodeState) (ends : Bool) (ticks : ℕ) → s.limits ≡ f.limits → Due f s host ticks → Due f (cond ends (sent_last s) s) host ticks
given-due f are s host true ticks limits d = due-sender f s (sent_last s) host ticks (sent-shrinks s.limits s.activity (let some = are.some_ack in let same = ap (λ (l : Limits). l.ack_ticks) limits in omega (arith, some, same)) d.left) d
given-due f are s host false ticks limits d = d

-- ---- the settings stay

settings-host : (f : Figures) (s t : SenderState) (host now : NodeState) → t.limits ≡ s.limits → SameSettings host.initiator now.initiator → HasSettings f s host → HasSettings f t now
settings-host f s t host now limits same has = record {
  limits = limits ∙ has.limits;
  reply_ticks = same.reply_ticks ∙ has.reply_ticks;
  window = subst (λ (n : ℕ). 1 ≤ n) (sym same.window) has.window;
  per_source = subst (λ (n : ℕ). 1 ≤ n) (sym same.per_source) has.per_source;
}

begun-settings : (f : Figures) (e : EndState NodeState) (p : Phase) (next : Option (List ℕ)) → HasSettings f e.sender e.host → HasSettings f (begun_at node_host e p next).sender (begun_at node_host e p next).host
begun-settings f e phase.Idle None has = has
begun-settings f e phase.Idle (Some body) has = settings-host f e.sender (load e.sender body) e.host (after_next e.host) refl (next-settings e.host) has
begun-settings f e phase.Sending next has = has
begun-settings f e phase.Waiting next has = has

prepared-settings : (f : Figures) (e : EndState NodeState) (begins : Bool) → HasSettings f e.sender e.host → HasSettings f (cond begins (begun_next node_host e) e).sender (cond begins (begun_next node_host e) e).host
prepared-settings f e true has = begun-settings f e (phase_of e.sender) (next_body e.host) has
prepared-settings f e false has = has

given-settings : (f : Figures) (s : SenderState) (host : NodeState) (ends : Bool) → HasSettings f s host → HasSettings f (cond ends (sent_last s) s) host
given-settings f s host true has = settings-host f s (sent_last s) host host refl (record { reply_ticks = refl; window = refl; per_source = refl }) has
given-settings f s host false has = has

-- ---- what an end has to wait for

-- all is over, or it is within so many ticks less than the whole
abbrev pub Spent : Figures → EndState NodeState → ℕ → ℕ → Type 0
Spent f e total drained = IsOver e.host.initiator.issued ⊎ ((rest : ℕ) × DueAt f e rest × (rest + drained ≤ total))

-- an end with its settings: so many drained ticks suffice for all, and so many have come already since its last command
pub record Account (f : Figures) (e : EndState NodeState) (total drained : ℕ) : Type 0 where
  pub has : HasSettings f e.sender e.host
  pub whole : DueAt f e total
  pub spent : Spent f e total drained

-- a step of which so many more ticks are owed
spent-step : (f : Figures) (e now : EndState NodeState) (total drained more : ℕ) → (IsOver e.host.initiator.issued → IsOver now.host.initiator.issued) → ((ticks : ℕ) → DueAt f e ticks → DueAt f now (ticks + more)) → Spent f e total drained → Spent f now (total + more) drained
spent-step f e now total drained more over due (inl is) = inl (over is)
spent-step f e now total drained more over due (inr rest) = inr (rest.0 + more, due rest.0 rest.1, (let few = rest.2 in omega (arith, few)))

account-step : (f : Figures) (e now : EndState NodeState) (total drained more : ℕ) → HasSettings f now.sender now.host → (IsOver e.host.initiator.issued → IsOver now.host.initiator.issued) → ((ticks : ℕ) → DueAt f e ticks → DueAt f now (ticks + more)) → Account f e total drained → Account f now (total + more) drained
account-step f e now total drained more has over due a = record { has = has; whole = due total a.whole; spent = spent-step f e now total drained more over due a.spent }

-- a step of which no more is owed
spent-still : (f : Figures) (e now : EndState NodeState) (total drained : ℕ) → (IsOver e.host.initiator.issued → IsOver now.host.initiator.issued) → ((ticks : ℕ) → DueAt f e ticks → DueAt f now ticks) → Spent f e total drained → Spent f now total drained
spent-still f e now total drained over due (inl is) = inl (over is)
spent-still f e now total drained over due (inr rest) = inr (rest.0, due rest.0 rest.1, rest.2)

account-still : (f : Figures) (e now : EndState NodeState) (total drained : ℕ) → HasSettings f now.sender now.host → (IsOver e.host.initiator.issued → IsOver now.host.initiator.issued) → ((ticks : ℕ) → DueAt f e ticks → DueAt f now ticks) → Account f e total drained → Account f now total drained
account-still f e now total drained has over due a = record { has = has; whole = due total a.whole; spent = spent-still f e now total drained over due a.spent }

-- ---- a take

begun-over : (e : EndState NodeState) (p : Phase) (next : Option (List ℕ)) → next_body e.host ≡ next → IsOver e.host.initiator.issued → IsOver (begun_at node_host e p next).host.initiator.issued
begun-over e phase.Idle None is over = over
begun-over e phase.Idle (Some body) is over = handed-over e.host (hands-out e.host body is) over
begun-over e phase.Sending next is over = over
begun-over e phase.Waiting next is over = over

prepared-over : (e : EndState NodeState) (begins : Bool) → IsOver e.host.initiator.issued → IsOver (cond begins (begun_next node_host e) e).host.initiator.issued
prepared-over e true over = begun-over e (phase_of e.sender) (next_body e.host) refl over
prepared-over e false over = over

pub account-take : (f : Figures) → AreFigures f → (e : EndState NodeState) (total drained : ℕ) → Account f e total drained → Account f (end_after_take node_host e) total drained
account-take f are e total drained a =
    let p = prepared node_host e in
    let begins = is_none (chosen e.mouth) in
    let ends = ends_here (take p.mouth).1 in
    let has = prepared-settings f e begins a.has in
    let due : (ticks : ℕ) → DueAt f e ticks → DueAt f (given_next p) ticks = λ ticks d. given-due f are p.sender p.host ends ticks has.limits (prepared-due f are e begins ticks a.has d) in
    subst (λ (x : EndState NodeState). Account f x total drained) (sym (end-is node_host e))
    (account-still f e (given_next p) total drained (given-settings f p.sender p.host ends has) (λ over. prepared-over e begins over) due a)

-- ---- a command is issued

pub account-issue : (f : Figures) (e : EndState NodeState) (src dst : ℕ) (payload : List ℕ) (total drained : ℕ) → Account f e total drained → Account f (with_host e (after_node_issue e.host src dst payload)) (total + f.command) 0
account-issue f e src dst payload total drained a =
    let d = a.whole in
    let paid = times-more f.command (count_waiting (after_node_issue e.host src dst payload).initiator.issued) (count_waiting e.host.initiator.issued) (issue-waiting e.host src dst payload) in
    let due : DueAt f (with_host e (after_node_issue e.host src dst payload)) (total + f.command) =
    record { most = d.most; sender = d.sender; left = d.left; out = issue-within e.host src dst payload d.most d.out; all = (let all = d.all in omega (arith, all, paid)) } in
    record {
      has = record { limits = a.has.limits; reply_ticks = a.has.reply_ticks; window = a.has.window; per_source = a.has.per_source };
      whole = due;
      spent = inr (total + f.command, due, omega arith);
    }

-- ---- a tick

-- the tick leaves at most so many ticks
pub due-ticked : (f : Figures) (s t : SenderState) (host : NodeState) (what : Option Fate) (ticks most rest : ℕ) (d : Due f s host ticks) → d.most - 1 ≤ most → sender_ticks t ≤ most → HasLeft t.activity → most + queued f.message f.command host ≤ rest
    → Due f t (after_tick (host_told node_host what host)) rest
due-ticked f s t host what ticks most rest d enough few left all =
    let told = host_told node_host what host in
    let keeps = fate-keeps what host in
    let waiting = tick-waiting told ∙ keeps.waiting in
    record {
      most = most;
      sender = few;
      left = left;
      out = within-more (d.most - 1) most (after_tick told).initiator.issued enough (tick-within told d.most (keeps.within d.most d.out));
      all = (let same = ap (λ (rs : List (List ℕ)). f.message * length rs) (told-replies what host) in let same_times = ap (λ (n : ℕ). f.command * n) waiting in omega (arith, all, same, same_times));
    }

ticked-over : (host : NodeState) (what : Option Fate) → IsOver host.initiator.issued → IsOver (after_tick (host_told node_host what host)).initiator.issued
ticked-over host what over = let told = host_told node_host what host in tick-over told (keeps-over host.initiator.issued told.initiator.issued (fate-keeps what host) over)

-- what a sender that doesn't wait has to give: nothing
abbrev pub Rests : SenderState → NodeState → Type 0
Rests s host = (phase_of s ≡ phase.Waiting → ⊥) → (phase_of s ≡ phase.Idle) × (next_body host ≡ None)

-- a drained tick takes one from what is under way, if anything is
spends : (f : Figures) (limits : Limits) (a : Activity) (host : NodeState) (most : ℕ) → Rests (record { limits = limits; activity = a }) host → 1 ≤ limits.ack_ticks → 1 ≤ host.initiator.window → 1 ≤ host.initiator.per_source
    → HasLeft a → ticks_left limits a ≤ most → AreWithin most host.initiator.issued → IsOver host.initiator.issued ⊎ ((1 ≤ most) × (sender_ticks (on_tick (record { limits = limits; activity = a })) ≤ most - 1))
spends f limits Idle host zero rests some window per_source left few out = inl (none-to-hand-out host window per_source out (rests (λ is. cc)).1)
spends f limits Idle host (suc most) rests some window per_source left few out = inr (omega arith, omega arith)
spends f limits (Sending body naks enqs) host most rests some window per_source left few out = absurd (let idle = (rests (λ is. cc)).0 in cc)
spends f limits (Waiting body naks enqs ticks) host most rests some window per_source left few out =
    let t = tick-shrinks limits (Waiting body naks enqs ticks) some left in
    inr (omega (arith, few, left), (let less = t.few in omega (arith, less, few)))

tick-any : (f : Figures) → AreFigures f → (s : SenderState) (host : NodeState) (what : Option Fate) (ticks : ℕ) → s.limits ≡ f.limits → Due f s host ticks → Due f (on_tick s) (after_tick (host_told node_host what host)) ticks
tick-any f are s host what ticks limits d =
    let t = tick-shrinks s.limits s.activity (let some = are.some_ack in let same = ap (λ (l : Limits). l.ack_ticks) limits in omega (arith, some, same)) d.left in
    due-ticked f s (on_tick s) host what ticks d.most ticks d (omega arith) (let less = t.few in let few = d.sender in omega (arith, less, few)) t.left d.all

tick-settings : (f : Figures) (s : SenderState) (host : NodeState) (what : Option Fate) → HasSettings f s host → HasSettings f (on_tick s) (after_tick (host_told node_host what host))
tick-settings f s host what has = let same = fate-settings what host in settings-host f s (on_tick s) host (after_tick (host_told node_host what host)) refl (record { reply_ticks = same.reply_ticks; window = same.window; per_source = same.per_source }) has

-- a tick that isn't drained
tick-plain : (f : Figures) → AreFigures f → (e : EndState NodeState) (total drained : ℕ) → Account f e total drained → Account f (end_after_tick node_host e) total drained
tick-plain f are e total drained a =
    let what = fate_of_tick (tick_turn e.sender) in
    account-still f e (end_after_tick node_host e) total drained (tick-settings f e.sender e.host what a.has) (ticked-over e.host what) (λ ticks d. tick-any f are e.sender e.host what ticks a.has.limits d) a

tick-spent : (f : Figures) → AreFigures f → (e : EndState NodeState) (total drained : ℕ) → out_at_take node_host e ≡ None → HasSettings f e.sender e.host → Spent f e total drained → Spent f (end_after_tick node_host e) total (drained + 1)
tick-spent f are e total drained none has (inl over) = inl (ticked-over e.host (fate_of_tick (tick_turn e.sender)) over)
tick-spent f are e total drained none has (inr rest) =
    let what = fate_of_tick (tick_turn e.sender) in
    let d = rest.1 in
    let some : 1 ≤ e.sender.limits.ack_ticks = (let enough = are.some_ack in let same = ap (λ (l : Limits). l.ack_ticks) has.limits in omega (arith, enough, same)) in
    let t = tick-shrinks e.sender.limits e.sender.activity some d.left in
    elim (spends f e.sender.limits e.sender.activity e.host d.most (gives-nothing node_host e none).idle some has.window has.per_source d.left d.sender d.out) [
      | inl over ↦ inl (ticked-over e.host what over)
      | inr less ↦ inr (
        rest.0 - 1,
        due-ticked f e.sender (on_tick e.sender) e.host what rest.0 (d.most - 1) (rest.0 - 1) d (omega arith) less.1 t.left (let all = d.all in let one = less.0 in omega (arith, all, one)),
        (let all = d.all in let one = less.0 in let few = rest.2 in omega (arith, all, one, few)),
      )
    ]

tick-drained : (f : Figures) → AreFigures f → (e : EndState NodeState) (total drained : ℕ) → out_at_take node_host e ≡ None → Account f e total drained → Account f (end_after_tick node_host e) total (drained + 1)
tick-drained f are e total drained none a =
    let plain = tick-plain f are e total drained a in
    record { has = plain.has; whole = plain.whole; spent = tick-spent f are e total drained none a.has a.spent }

pub account-tick : (f : Figures) → AreFigures f → (e : EndState NodeState) (total drained : ℕ) → Account f e total drained → Account f (end_after_tick node_host e) total (drained + (cond (is_none (out_at_take node_host e)) 1 0))
account-tick f are e total drained a = at (out_at_take node_host e) refl
  where
    at : (o : Option Out) → out_at_take node_host e ≡ o → Account f (end_after_tick node_host e) total (drained + (cond (is_none o) 1 0))
    at None is = tick-drained f are e total drained is a
    at (Some out) is = subst (λ (n : ℕ). Account f (end_after_tick node_host e) total n) (sym (add-zero drained)) (tick-plain f are e total drained a)

-- ---- a byte

-- one, where a command is accepted
abbrev pub executes : Act → List ℕ → ℕ
executes act.Accept body = cond (is_reply body) 0 1
executes act.Repeat body = 0
executes act.Refuse body = 0
executes act.Damaged body = 0
executes act.Forgot body = 0
executes act.PeerAck body = 0
executes act.PeerNak body = 0
executes act.PeerEnq body = 0
executes act.Nothing body = 0

-- the sender at an act
pub act-shrinks : (what : Act) (s : SenderState) → 1 ≤ s.limits.ack_ticks → HasLeft s.activity → Shrinks s (sender_after what s)
act-shrinks act.Accept s some left = shrinks-same s left
act-shrinks act.Repeat s some left = shrinks-same s left
act-shrinks act.Refuse s some left = shrinks-same s left
act-shrinks act.Damaged s some left = shrinks-same s left
act-shrinks act.Forgot s some left = shrinks-same s left
act-shrinks act.PeerAck s some left = ack-shrinks s.limits s.activity left
act-shrinks act.PeerNak s some left = nak-shrinks s.limits s.activity some left
act-shrinks act.PeerEnq s some left = shrinks-same s left
act-shrinks act.Nothing s some left = shrinks-same s left

pub act-accepts : (what : Act) (host : NodeState) (body : List ℕ) → Accepts host (host_after node_host what host body) (executes what body)
act-accepts act.Accept host body = accepts-body host body
act-accepts act.Repeat host body = accepts-none host
act-accepts act.Refuse host body = accepts-none host
act-accepts act.Damaged host body = accepts-none host
act-accepts act.Forgot host body = accepts-none host
act-accepts act.PeerAck host body = accepts-none host
act-accepts act.PeerNak host body = accepts-none host
act-accepts act.PeerEnq host body = accepts-none host
act-accepts act.Nothing host body = accepts-none host

due-accepted : (f : Figures) (s t : SenderState) (host now : NodeState) (what : Option Fate) (ticks more : ℕ) → Shrinks s t → Accepts host now more → Due f s host ticks → Due f t (host_told node_host what now) (ticks + more * f.message)
due-accepted f s t host now what ticks more shrinks accepts d =
    let keeps = fate-keeps what now in
    let waiting = keeps.waiting ∙ accepts.keeps.waiting in
    record {
      most = d.most;
      sender = (let few = shrinks.few in let was = d.sender in omega (arith, few, was));
      left = shrinks.left;
      out = keeps.within d.most (accepts.keeps.within d.most d.out);
      all = (let all = d.all in
          let same = ap (λ (rs : List (List ℕ)). f.message * length rs) (told-replies what now) in
          let longer = ap (λ (n : ℕ). f.message * n) accepts.replies in
          let parts = mul-add f.message (length host.replies) more in
          let swapped = mul_comm f.message more in
          let same_times = ap (λ (n : ℕ). f.command * n) waiting in
          omega (arith, all, same, longer, parts, swapped, same_times));
    }

pub account-act : (f : Figures) → AreFigures f → (e now : EndState NodeState) (what : Act) (fate : Option Fate) (body : List ℕ) (total drained : ℕ) → now.sender ≡ sender_after what e.sender → now.host ≡ host_told node_host fate (host_after node_host what e.host body)
    → Account f e total drained → Account f now (total + executes what body * f.message) drained
account-act f are e now what fate body total drained is-sender is-host a =
    let host = host_after node_host what e.host body in
    let accepts = act-accepts what e.host body in
    let some : 1 ≤ e.sender.limits.ack_ticks = (let enough = are.some_ack in let same = ap (λ (l : Limits). l.ack_ticks) a.has.limits in omega (arith, enough, same)) in
    let shrinks = act-shrinks what e.sender some a.whole.left in
    let fates = fate-settings fate host in
    let has : HasSettings f (sender_after what e.sender) (host_told node_host fate host) = settings-host f e.sender (sender_after what e.sender) e.host (host_told node_host fate host) shrinks.limits
    (record { reply_ticks = fates.reply_ticks ∙ accepts.settings.reply_ticks; window = fates.window ∙ accepts.settings.window; per_source = fates.per_source ∙ accepts.settings.per_source }) a.has in
    let over : IsOver e.host.initiator.issued → IsOver (host_told node_host fate host).initiator.issued = λ is. keeps-over host.initiator.issued (host_told node_host fate host).initiator.issued (fate-keeps fate host) (keeps-over e.host.initiator.issued host.initiator.issued accepts.keeps is) in
    account-step f e now total drained (executes what body * f.message)
    (subst (λ (s : SenderState). HasSettings f s now.host) (sym is-sender) (subst (λ (h : NodeState). HasSettings f (sender_after what e.sender) h) (sym is-host) has))
    (λ is. subst (λ (h : NodeState). IsOver h.initiator.issued) (sym is-host) (over is))
    (λ ticks d. subst (λ (s : SenderState). Due f s now.host (ticks + executes what body * f.message)) (sym is-sender)
    (subst (λ (h : NodeState). Due f (sender_after what e.sender) h (ticks + executes what body * f.message)) (sym is-host)
    (due-accepted f e.sender (sender_after what e.sender) e.host host fate ticks (executes what body) shrinks accepts d))) a

-- ---- in the end

-- where so many ticks have come, all is over
pub all-over : (f : Figures) → AreFigures f → (e : EndState NodeState) (total drained : ℕ) → total ≤ drained → Account f e total drained → IsOver e.host.initiator.issued
all-over f are e total drained enough a = over a.spent
  where
    over : Spent f e total drained → IsOver e.host.initiator.issued
    over (inl is) = is
    over (inr rest) =
        let d = rest.1 in
        let all = d.all in
        let few = rest.2 in
        let none : d.most ≡ 0 = omega (arith, all, few, enough) in
        let none_queued : f.command * count_waiting e.host.initiator.issued ≡ 0 = omega (arith, all, few, enough) in
        let some : 1 ≤ f.command = (let reply = are.some_reply in let more = are.of_reply in omega (arith, reply, more)) in
        record { none_waits = no-times f.command (count_waiting e.host.initiator.issued) some none_queued; none_out = subst (λ (n : ℕ). AreWithin n e.host.initiator.issued) none d.out }
