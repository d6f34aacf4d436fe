-- An end of a full-duplex line: how many drained ticks are left to it at most, what each signal changes of that, and an end to which none is left.
use Rattle.std.proofs.Common.{◌≡◌, ◌⊎◌, inl, inr, ℕ, zero, suc, ◌+◌, ◌-◌, ◌*◌, ◌≤◌, false, cond, List, [], ◌∷◌, length, Option, Some, None, is_none, refl, ap, subst, arith}
use Rattle.df1_base.specs.declared.host.Fate.{Fate}
use Rattle.df1_base.specs.declared.link.Act.{Act}
use Rattle.df1_base.specs.HostAnswers.{host_told}
use Rattle.df1_base.specs.declared.link.Out.{Out}
use Rattle.df1_node.specs.Node.{NodeState, next_body}
use Rattle.duplex_sender.specs.declared.Limits.{Limits}
use Rattle.duplex_sender.specs.Sender.{Activity, Idle, Sending, Waiting, on_tick, tick_turn}
use Rattle.duplex_end.specs.End.{EndState, has_message, holds_message, sender_after, host_after, end_after_take, end_after_tick, out_at_take, fate_of_tick}
use Rattle.duplex_sender.specs.Sender.{phase_of}
use Rattle.duplex_line.proofs.Complete.QuietEnd.{gives-nothing}
use Rattle.each_once.specs.NodeHost.{node_host}
use Rattle.run_laws.proofs.NodeAccount.{AreWithin, count_waiting, queued, no-times, no-replies, none-to-hand-out, IsOver}
use Rattle.run_laws.proofs.EndAccount.{HasLeft, ticks_left, sender_ticks, tick-shrinks, Figures, AreFigures, HasSettings, DueAt, due-more, due-ticked, Rests, Account, account-take, account-tick, account-act, executes}

-- an end with its settings, to which no more drained ticks are left until all is over
pub record Left (f : Figures) (e : EndState NodeState) (ticks : ℕ) : Type 0 where
  pub has : HasSettings f e.sender e.host
  pub due : DueAt f e ticks

pub left-more : (f : Figures) (e : EndState NodeState) (ticks more : ℕ) → ticks ≤ more → Left f e ticks → Left f e more
left-more f e ticks more few l = record { has = l.has; due = due-more f e.sender e.host ticks more few l.due }

-- the account of it, from here on
as-account : (f : Figures) (e : EndState NodeState) (ticks : ℕ) → Left f e ticks → Account f e ticks 0
as-account f e ticks l = record { has = l.has; whole = l.due; spent = inr (ticks, l.due, omega arith) }

pub of-account : (f : Figures) (e : EndState NodeState) (total drained : ℕ) → Account f e total drained → Left f e total
of-account f e total drained a = record { has = a.has; due = a.whole }

-- ---- a take, and an act

pub left-take : (f : Figures) → AreFigures f → (e : EndState NodeState) (ticks : ℕ) → Left f e ticks → Left f (end_after_take node_host e) ticks
left-take f are e ticks l = of-account f (end_after_take node_host e) ticks 0 (account-take f are e ticks 0 (as-account f e ticks l))

pub left-act : (f : Figures) → AreFigures f → (e now : EndState NodeState) (what : Act) (fate : Option Fate) (body : List ℕ) (ticks : ℕ) → now.sender ≡ sender_after what e.sender → now.host ≡ host_told node_host fate (host_after node_host what e.host body)
    → executes what body ≡ 0 → Left f e ticks → Left f now ticks
left-act f are e now what fate body ticks is-sender is-host none l =
    let times = ap (λ (n : ℕ). n * f.message) none in
    left-more f now (ticks + executes what body * f.message) ticks (omega (arith, times))
    (of-account f now (ticks + executes what body * f.message) 0 (account-act f are e now what fate body ticks 0 is-sender is-host (as-account f e ticks l)))

-- ---- a tick

-- where no command is out and none is handed out, nothing waits
none-queued : (f : Figures) (host : NodeState) → 1 ≤ host.initiator.window → 1 ≤ host.initiator.per_source → AreWithin 0 host.initiator.issued → next_body host ≡ None → queued f.message f.command host ≡ 0
none-queued f host window per_source out none =
    let replies = ap (λ (n : ℕ). f.message * n) (no-replies host none) in
    let commands = ap (λ (n : ℕ). f.command * n) (none-to-hand-out host window per_source out none).none_waits in
    omega (arith, replies, commands)

-- a drained tick comes where nothing is left, or takes one
takes-one : (f : Figures) (limits : Limits) (a : Activity) (host : NodeState) (most : ℕ) → Rests (record { limits = limits; activity = a }) host → 1 ≤ limits.ack_ticks → 1 ≤ host.initiator.window → 1 ≤ host.initiator.per_source
    → HasLeft a → ticks_left limits a ≤ most → AreWithin most host.initiator.issued
    → ((most ≡ 0) × (sender_ticks (on_tick (record { limits = limits; activity = a })) ≤ 0) × (queued f.message f.command host ≡ 0)) ⊎ ((1 ≤ most) × (sender_ticks (on_tick (record { limits = limits; activity = a })) ≤ most - 1))
takes-one f limits Idle host zero rests some window per_source left few out = inl (refl, omega arith, none-queued f host window per_source out (rests (λ is. cc)).1)
takes-one f limits Idle host (suc most) rests some window per_source left few out = inr (omega arith, omega arith)
takes-one f limits (Sending body naks enqs) host most rests some window per_source left few out = absurd (let idle = (rests (λ is. cc)).0 in cc)
takes-one f limits (Waiting body naks enqs ticks) host most rests some window per_source left few out =
    let t = tick-shrinks limits (Waiting body naks enqs ticks) some left in
    inr (omega (arith, few, left), (let less = t.few in omega (arith, less, few)))

some-ack : (f : Figures) (e : EndState NodeState) → AreFigures f → HasSettings f e.sender e.host → 1 ≤ e.sender.limits.ack_ticks
some-ack f e are has = let enough = are.some_ack in let same = ap (λ (l : Limits). l.ack_ticks) has.limits in omega (arith, enough, same)

tick-due : (f : Figures) → AreFigures f → (e : EndState NodeState) (ticks : ℕ) → out_at_take node_host e ≡ None → Left f e ticks → DueAt f (end_after_tick node_host e) (ticks - 1)
tick-due f are e ticks none l =
    let what = fate_of_tick (tick_turn e.sender) in
    let d = l.due in
    let has = l.has in
    let some = some-ack f e are has in
    let t = tick-shrinks e.sender.limits e.sender.activity some d.left in
    elim (takes-one f e.sender.limits e.sender.activity e.host d.most (gives-nothing node_host e none).idle some has.window has.per_source d.left d.sender d.out) [
      | inl over ↦ due-ticked f e.sender (on_tick e.sender) e.host what ticks 0 (ticks - 1) d (let is = over.0 in omega (arith, is)) over.1 t.left (let is = over.2 in omega (arith, is))
      | inr less ↦ due-ticked f e.sender (on_tick e.sender) e.host what ticks (d.most - 1) (ticks - 1) d (omega arith) less.1 t.left (let all = d.all in let one = less.0 in omega (arith, all, one))
    ]

pub left-tick : (f : Figures) → AreFigures f → (e : EndState NodeState) (ticks : ℕ) → Left f e ticks → Left f (end_after_tick node_host e) (ticks - (cond (is_none (out_at_take node_host e)) 1 0))
left-tick f are e ticks l = at (out_at_take node_host e) refl (of-account f (end_after_tick node_host e) ticks _ (account-tick f are e ticks 0 (as-account f e ticks l)))
  where
    at : (o : Option Out) → out_at_take node_host e ≡ o → Left f (end_after_tick node_host e) ticks → Left f (end_after_tick node_host e) (ticks - (cond (is_none o) 1 0))
    at None is plain = record { has = plain.has; due = tick-due f are e ticks is l }
    at (Some out) is plain = left-more f (end_after_tick node_host e) ticks (ticks - 0) (omega arith) plain

-- ---- in the end

-- an end that has no message, no reply and no command without an outcome
pub record IsDone (e : EndState NodeState) : Type 0 where
  pub holds_none : holds_message e ≡ false
  pub no_reply : e.host.replies ≡ []
  pub over : IsOver e.host.initiator.issued

none-held : (limits : Limits) (a : Activity) → 1 ≤ limits.ack_ticks → HasLeft a → ticks_left limits a ≤ 0 → has_message (phase_of (record { limits = limits; activity = a })) ≡ false
none-held limits Idle some left few = refl
none-held limits (Sending body naks enqs) some left few = absurd (omega (arith, some, few))
none-held limits (Waiting body naks enqs ticks) some left few = absurd (omega (arith, left, few))

none-is-empty : (bodies : List (List ℕ)) → length bodies ≡ 0 → bodies ≡ []
none-is-empty [] none = refl
none-is-empty (body ∷ bodies) none = absurd (omega (arith, none))

-- where no drained tick is left, all is over
pub none-left : (f : Figures) → AreFigures f → (e : EndState NodeState) → Left f e 0 → IsDone e
none-left f are e l =
    let d = l.due in
    let all = d.all in
    let none : d.most ≡ 0 = omega (arith, all) in
    let no_replies : f.message * length e.host.replies ≡ 0 = omega (arith, all) in
    let no_commands : f.command * count_waiting e.host.initiator.issued ≡ 0 = omega (arith, all) in
    let some_message : 1 ≤ f.message = (let ack = are.some_ack in let waits = are.waits in omega (arith, ack, waits)) in
    let some_command : 1 ≤ f.command = (let more = are.of_message in omega (arith, some_message, more)) in
    record {
      holds_none = none-held e.sender.limits e.sender.activity (some-ack f e are l.has) d.left (let few = d.sender in omega (arith, few, none));
      no_reply = none-is-empty e.host.replies (no-times f.message (length e.host.replies) some_message no_replies);
      over = record { none_waits = no-times f.command (count_waiting e.host.initiator.issued) some_command no_commands; none_out = subst (λ (n : ℕ). AreWithin n e.host.initiator.issued) none d.out };
    }
