-- A full-duplex end whose replies may take as long as a message's waits holds no command that is unanswered, where each of its ticks is drained: each signal leaves that.
use Rattle.std.proofs.Common.{◌≡◌, ◌∙◌, ◌⊎◌, inl, inr, ℕ, ◌+◌, ◌-◌, ◌<◌, ◌≤◌, Bool, true, false, cond, not, nat_lt, List, Option, Some, None, is_none, refl, sym, ap, subst, arith}
use Rattle.std.specs.Prelude.{◌==◌}
use Rattle.std.proofs.lemmas.Bool.{eqb-true, eq-eqb}
use Rattle.std.proofs.lemmas.Bool.Decides.{nat_tests}
use Rattle.df1_base.specs.declared.host.Fate.{Fate}
use Rattle.df1_base.specs.declared.host.Fate.TheVariants as fate
use Rattle.df1_base.specs.declared.link.Act.{Act}
use Rattle.df1_base.specs.HostAnswers.{host_told}
use Rattle.df1_node.specs.Initiator.{Issued, Standing, Waiting, Out as IsOutWith, Answered, Undelivered, Unanswered, is_waiting, next_issued, ticked}
use Rattle.df1_node.specs.Node.{NodeState, after_next, after_tick, after_node_issue, next_body}
use Rattle.duplex_sender.specs.declared.Limits.{Limits}
use Rattle.duplex_sender.specs.declared.Phase.{Phase}
use Rattle.duplex_sender.specs.declared.Phase.TheVariants as phase
use Rattle.duplex_sender.specs.declared.SendTurn.{SendTurn}
use Rattle.duplex_sender.specs.declared.SendTurn.TheVariants as turn
use Rattle.duplex_sender.specs.Sender.{SenderState, Activity, Idle, Sending, Waiting as WaitsFor, phase_of, load, sent_last, on_tick, tick_turn}
use Rattle.duplex_end.specs.End.{EndState, with_host, begun_at, begun_next, prepared, ends_here, act_of_byte, fate_at, sender_after, host_after, end_after_byte, end_after_take, end_after_tick, out_at_take, fate_of_tick}
use Rattle.duplex_end.proofs.Order.{end-is}
use Rattle.duplex_line.proofs.Complete.QuietEnd.{gives-nothing}
use Rattle.duplex_receiver.specs.Receiver.{body_at}
use Rattle.each_once.specs.NodeHost.{node_host}
use Rattle.embedded_response.specs.Giving.{chosen, take}
use Rattle.run_laws.proofs.EndAccount.{Shrinks, later_waits, ticks_left, sender_ticks, HasLeft, sent-shrinks, act-shrinks, act-accepts, tick-shrinks}
use Rattle.run_laws.proofs.NodeAccount.{next-settings, fate-settings}
use Rattle.run_laws.specs.Over.{HoldsNot}
use Rattle.run_laws.proofs.KnownNode.{Known, StandsSo, gives-not, so-plain, next-so, told-so, tick-so, push-so}
use Rattle.run_laws.proofs.OverEnd.{holds-act, holds-sent, holds-tick}
use Rattle.run_laws.proofs.OverNode.{hands-other}
use Rattle.run_laws.proofs.UndeliveredEnd.{UndeliveredEnd, act-so, fated-idle, gives-up, tick-idle, undelivered-byte, undelivered-issue, undelivered-take, undelivered-tick}

abbrev pub is_unanswered : Standing → Bool
is_unanswered Waiting = false
is_unanswered (IsOutWith left) = false
is_unanswered (Answered reply) = false
is_unanswered Undelivered = false
is_unanswered Unanswered = true

-- it is out, with so many ticks left
abbrev pub is_out_for : ℕ → Standing → Bool
is_out_for n Waiting = false
is_out_for n (IsOutWith left) = left == n
is_out_for n (Answered reply) = false
is_out_for n Undelivered = false
is_out_for n Unanswered = false

-- from the next tick on it is unanswered
abbrev ends_now : Standing → Bool
ends_now Waiting = false
ends_now (IsOutWith left) = not (nat_lt 1 left)
ends_now (Answered reply) = false
ends_now Undelivered = false
ends_now Unanswered = true

unanswered-out : (s : Standing) → is_unanswered s ≡ true → is_waiting s ≡ false
unanswered-out Waiting is = absurd cc
unanswered-out (IsOutWith left) is = refl
unanswered-out (Answered reply) is = refl
unanswered-out Undelivered is = refl
unanswered-out Unanswered is = refl

out-out : (n : ℕ) (s : Standing) → is_out_for n s ≡ true → is_waiting s ≡ false
out-out n Waiting is = absurd cc
out-out n (IsOutWith left) is = refl
out-out n (Answered reply) is = refl
out-out n Undelivered is = refl
out-out n Unanswered is = refl

was-ending : (s : Standing) → is_unanswered (ticked s) ≡ true → ends_now s ≡ true
was-ending Waiting is = absurd cc
was-ending (IsOutWith left) is = by (nat_lt 1 left) is
  where
    by : (more : Bool) → is_unanswered (cond more (IsOutWith (left - 1)) Unanswered) ≡ true → not more ≡ true
    by true is = absurd cc
    by false is = refl
was-ending (Answered reply) is = absurd cc
was-ending Undelivered is = absurd cc
was-ending Unanswered is = refl

was-out : (n : ℕ) (s : Standing) → is_out_for n (ticked s) ≡ true → is_out_for (n + 1) s ≡ true
was-out n Waiting is = absurd cc
was-out n (IsOutWith left) is = by (nat_lt 1 left) refl is
  where
    by : (more : Bool) → nat_lt 1 left ≡ more → is_out_for n (cond more (IsOutWith (left - 1)) Unanswered) ≡ true → (left == n + 1) ≡ true
    by true longer is =
        let some : 1 < left = grind (arith, nat_tests, longer) in
        let same = eqb-true (left - 1) n is in
        eq-eqb left (n + 1) (omega (arith, same, some))
    by false longer is = absurd cc
was-out n (Answered reply) is = absurd cc
was-out n Undelivered is = absurd cc
was-out n Unanswered is = absurd cc

-- a sender and a host: what is out is held no longer than its reply may take yet
pub record Patience (limits : Limits) (reply_ticks : ℕ) (s : SenderState) (host : NodeState) : Type 0 where
  pub limits_are : s.limits ≡ limits
  pub ticks_are : host.initiator.reply_ticks ≡ reply_ticks
  pub left : HasLeft s.activity
  pub holds_not : (body : List ℕ) → StandsSo is_unanswered host.initiator.issued body → HoldsNot s body
  pub in_time : (body : List ℕ) (n : ℕ) → StandsSo (is_out_for n) host.initiator.issued body → HoldsNot s body ⊎ (sender_ticks s ≤ n)

-- a reply may take as long as all waits of a message
pub record IsPatient (limits : Limits) (reply_ticks : ℕ) : Type 0 where
  pub some : 1 ≤ limits.ack_ticks
  pub enough : limits.ack_ticks + later_waits limits 0 0 ≤ reply_ticks

pub record UnansweredEnd (limits : Limits) (reply_ticks : ℕ) (e : EndState NodeState) : Type 0 where
  pub undelivered : UndeliveredEnd e
  pub patience : Patience limits reply_ticks e.sender e.host

-- the sender has an ACK to wait for
some-ack : (limits : Limits) (reply_ticks : ℕ) (s : SenderState) → IsPatient limits reply_ticks → s.limits ≡ limits → 1 ≤ s.limits.ack_ticks
some-ack limits reply_ticks s is same = subst (λ (l : Limits). 1 ≤ l.ack_ticks) (sym same) is.some

-- ---- a tick

-- what a sender has to give that doesn't wait: nothing
abbrev IsFree : SenderState → Type 0
IsFree s = (phase_of s ≡ phase.Waiting → ⊥) → phase_of s ≡ phase.Idle

-- a drained tick takes one from what is left of the message's waits
fewer-left : (limits : Limits) (a : Activity) (n : ℕ) → 1 ≤ limits.ack_ticks → HasLeft a → IsFree (record { limits = limits; activity = a }) → ticks_left limits a ≤ n + 1
    → (phase_of (on_tick (record { limits = limits; activity = a })) ≡ phase.Idle) ⊎ (sender_ticks (on_tick (record { limits = limits; activity = a })) ≤ n)
fewer-left limits Idle n some left idle few = inl refl
fewer-left limits (Sending body naks enqs) n some left idle few = absurd (let no = idle (λ is. cc) in cc)
fewer-left limits (WaitsFor body naks enqs ticks) n some left idle few = inr (let less = (tick-shrinks limits (WaitsFor body naks enqs ticks) some left).few in omega (arith, less, few))

ticked-in-time : (s : SenderState) (body : List ℕ) (n : ℕ) → 1 ≤ s.limits.ack_ticks → HasLeft s.activity → IsFree s → HoldsNot s body ⊎ (sender_ticks s ≤ n + 1) → HoldsNot (on_tick s) body ⊎ (sender_ticks (on_tick s) ≤ n)
ticked-in-time s body n some left idle (inl free) = inl (holds-tick s.limits s.activity body free)
ticked-in-time s body n some left idle (inr few) = elim (fewer-left s.limits s.activity n some left idle few) [ inl is ↦ inl (inl is) | inr less ↦ inr less ]

none-left : (limits : Limits) (a : Activity) → 1 ≤ limits.ack_ticks → HasLeft a → ticks_left limits a ≤ 0 → phase_of (record { limits = limits; activity = a }) ≡ phase.Idle
none-left limits Idle some left few = refl
none-left limits (Sending body naks enqs) some left few = absurd (omega (arith, some, few))
none-left limits (WaitsFor body naks enqs ticks) some left few = absurd (omega (arith, left, few))

ended : (s : SenderState) (body : List ℕ) → 1 ≤ s.limits.ack_ticks → HasLeft s.activity → HoldsNot (on_tick s) body ⊎ (sender_ticks (on_tick s) ≤ 0) → HoldsNot (on_tick s) body
ended s body some left (inl free) = free
ended s body some left (inr few) = inl (none-left s.limits (on_tick s).activity some (tick-shrinks s.limits s.activity some left).left few)

-- it ends with this tick
ends-held-not : (limits : Limits) (reply_ticks : ℕ) (s : SenderState) (host : NodeState) (body : List ℕ) → IsPatient limits reply_ticks → Patience limits reply_ticks s host → IsFree s → StandsSo ends_now host.initiator.issued body → HoldsNot (on_tick s) body
ends-held-not limits reply_ticks s host body is p idle so = by so.command.standing refl
  where
    some : 1 ≤ s.limits.ack_ticks
    some = some-ack limits reply_ticks s is p.limits_are

    by : (standing : Standing) → so.command.standing ≡ standing → HoldsNot (on_tick s) body
    by Waiting at = absurd (let clash : true ≡ false = sym so.stands ∙ ap ends_now at in cc)
    by (IsOutWith left) at =
        let stands : StandsSo (is_out_for left) host.initiator.issued body = record { place = so.place; command = so.command; is_at = so.is_at; stands = ap (is_out_for left) at ∙ eq-eqb left left refl; has_body = so.has_body } in
        let ends : not (nat_lt 1 left) ≡ true = sym (ap ends_now at) ∙ so.stands in
        let few : left ≤ 1 = grind (arith, nat_tests, ends) in
        let soon : HoldsNot s body ⊎ (sender_ticks s ≤ 0 + 1) = elim (p.in_time body left stands) [ inl free ↦ inl free | inr within ↦ inr (omega (arith, within, few)) ] in
        ended s body some p.left (ticked-in-time s body 0 some p.left idle soon)
    by (Answered reply) at = absurd (let clash : true ≡ false = sym so.stands ∙ ap ends_now at in cc)
    by Undelivered at = absurd (let clash : true ≡ false = sym so.stands ∙ ap ends_now at in cc)
    by Unanswered at = holds-tick s.limits s.activity body (p.holds_not body (record { place = so.place; command = so.command; is_at = so.is_at; stands = ap is_unanswered at; has_body = so.has_body }))

-- where the host is told nothing
waited-patience : (limits : Limits) (reply_ticks : ℕ) (s : SenderState) (host : NodeState) → IsPatient limits reply_ticks → IsFree s → Patience limits reply_ticks s host → Patience limits reply_ticks (on_tick s) (after_tick host)
waited-patience limits reply_ticks s host is idle p = record {
  limits_are = p.limits_are;
  ticks_are = p.ticks_are;
  left = (tick-shrinks s.limits s.activity (some-ack limits reply_ticks s is p.limits_are) p.left).left;
  holds_not = λ body so. ends-held-not limits reply_ticks s host body is p idle (tick-so is_unanswered ends_now was-ending host.initiator.issued body so);
  in_time = λ body n so. ticked-in-time s body n (some-ack limits reply_ticks s is p.limits_are) p.left idle (p.in_time body (n + 1) (tick-so (is_out_for n) (is_out_for (n + 1)) (was-out n) host.initiator.issued body so));
}

-- where the message is given up the sender is idle
ticked-patience : (limits : Limits) (reply_ticks : ℕ) (s : SenderState) (host : NodeState) (turns : SendTurn) → tick_turn s ≡ turns → IsPatient limits reply_ticks → IsFree s → Patience limits reply_ticks s host
    → Patience limits reply_ticks (on_tick s) (after_tick (host_told node_host (fate_of_tick turns) host))
ticked-patience limits reply_ticks s host turn.Failed at is idle p = record {
  limits_are = p.limits_are;
  ticks_are = (fate-settings (Some fate.Undelivered) host).reply_ticks ∙ p.ticks_are;
  left = (tick-shrinks s.limits s.activity (some-ack limits reply_ticks s is p.limits_are) p.left).left;
  holds_not = λ body so. inl (tick-idle s.limits s.activity at);
  in_time = λ body n so. inl (inl (tick-idle s.limits s.activity at));
}
ticked-patience limits reply_ticks s host turn.Still at is idle p = waited-patience limits reply_ticks s host is idle p
ticked-patience limits reply_ticks s host turn.Ask at is idle p = waited-patience limits reply_ticks s host is idle p

pub unanswered-tick : (limits : Limits) (reply_ticks : ℕ) → IsPatient limits reply_ticks → (e : EndState NodeState) → out_at_take node_host e ≡ None → UnansweredEnd limits reply_ticks e → UnansweredEnd limits reply_ticks (end_after_tick node_host e)
unanswered-tick limits reply_ticks is e drained u = record {
  undelivered = undelivered-tick e u.undelivered;
  patience = ticked-patience limits reply_ticks e.sender e.host (tick_turn e.sender) refl is (λ other. ((gives-nothing node_host e drained).idle other).0) u.patience;
}

-- ---- a byte

acted-patience : (limits : Limits) (reply_ticks : ℕ) (s : SenderState) (host : NodeState) (what : Act) (given : Option Fate) (message : List ℕ) → fate_at what s ≡ given → IsPatient limits reply_ticks → Patience limits reply_ticks s host
    → Patience limits reply_ticks (sender_after what s) (host_told node_host given (host_after node_host what host message))
acted-patience limits reply_ticks s host what given message at is p = record {
  limits_are = shrinks.limits ∙ p.limits_are;
  ticks_are = (fate-settings given acted).reply_ticks ∙ (act-accepts what host message).settings.reply_ticks ∙ p.ticks_are;
  left = shrinks.left;
  holds_not = λ body so. held body so (gives-up given);
  in_time = λ body n so. timed body n so (gives-up given);
}
  where
    acted : NodeState
    acted = host_after node_host what host message

    shrinks : Shrinks s (sender_after what s)
    shrinks = act-shrinks what s (some-ack limits reply_ticks s is p.limits_are) p.left

    held : (body : List ℕ) → StandsSo is_unanswered (host_told node_host given acted).initiator.issued body → (given ≡ Some fate.Undelivered) ⊎ (given ≡ Some fate.Undelivered → ⊥) → HoldsNot (sender_after what s) body
    held body so (inl up) = inl (fated-idle what s (at ∙ up))
    held body so (inr other) = holds-act what s body (p.holds_not body (act-so is_unanswered what host message body refl (told-so is_unanswered given acted body other so)))

    timed : (body : List ℕ) (n : ℕ) → StandsSo (is_out_for n) (host_told node_host given acted).initiator.issued body → (given ≡ Some fate.Undelivered) ⊎ (given ≡ Some fate.Undelivered → ⊥) → HoldsNot (sender_after what s) body ⊎ (sender_ticks (sender_after what s) ≤ n)
    timed body n so (inl up) = inl (inl (fated-idle what s (at ∙ up)))
    timed body n so (inr other) = elim (p.in_time body n (act-so (is_out_for n) what host message body refl (told-so (is_out_for n) given acted body other so))) [
      | inl free ↦ inl (holds-act what s body free)
      | inr few ↦ inr (let less = shrinks.few in omega (arith, less, few))
    ]

pub unanswered-byte : (limits : Limits) (reply_ticks : ℕ) → IsPatient limits reply_ticks → (e : EndState NodeState) (b : ℕ) → UnansweredEnd limits reply_ticks e → UnansweredEnd limits reply_ticks (end_after_byte node_host e b)
unanswered-byte limits reply_ticks is e b u =
    let now = end_after_byte node_host e b in
    let what = act_of_byte node_host e b in
    record {
      undelivered = undelivered-byte e b u.undelivered;
      patience = acted-patience limits reply_ticks e.sender e.host what (fate_at what e.sender) (body_at now.receiver) refl is u.patience;
    }

-- ---- a take

-- a command that is out after a message was handed out was out before, or has all its ticks
out-before : (n : ℕ) (host : NodeState) (body : List ℕ) (fresh : Bool) → is_out_for n (IsOutWith host.initiator.reply_ticks) ≡ fresh → StandsSo (is_out_for n) (after_next host).initiator.issued body → StandsSo (is_out_for n) host.initiator.issued body ⊎ (host.initiator.reply_ticks ≡ n)
out-before n host body true is so = inr (eqb-true host.initiator.reply_ticks n is)
out-before n host body false is so = inl (next-so (is_out_for n) host body is so)

handed-patience : (limits : Limits) (reply_ticks : ℕ) (s : SenderState) (host : NodeState) (message : List ℕ) → next_body host ≡ Some message → IsPatient limits reply_ticks → Known host → Patience limits reply_ticks s host → Patience limits reply_ticks (load s message) (after_next host)
handed-patience limits reply_ticks s host message next is known p = record {
  limits_are = p.limits_are;
  ticks_are = (next-settings host).reply_ticks ∙ p.ticks_are;
  left = tt;
  holds_not = λ body so. inr (other is_unanswered unanswered-out body (next-so is_unanswered host body refl so));
  in_time = λ body n so. elim (out-before n host body (is_out_for n (IsOutWith host.initiator.reply_ticks)) refl so) [
    | inl before ↦ inl (inr (other (is_out_for n) (out-out n) body before))
    | inr fresh ↦ inr (let enough = is.enough in let same = ap (λ (l : Limits). l.ack_ticks + later_waits l 0 0) p.limits_are in let all = p.ticks_are in omega (arith, enough, same, all, fresh))
  ];
}
  where
    other : (is_so : Standing → Bool) → ((st : Standing) → is_so st ≡ true → is_waiting st ≡ false) → (body : List ℕ) → StandsSo is_so host.initiator.issued body → message ≡ body → ⊥
    other is_so out body so = hands-other body host host.replies message (so-plain is_so host body known so) refl next (gives-not is_so out host body known so)

begun-patience : (limits : Limits) (reply_ticks : ℕ) → IsPatient limits reply_ticks → (e : EndState NodeState) (p : Phase) (next : Option (List ℕ)) → next_body e.host ≡ next → Known e.host → Patience limits reply_ticks e.sender e.host
    → Patience limits reply_ticks (begun_at node_host e p next).sender (begun_at node_host e p next).host
begun-patience limits reply_ticks is e phase.Idle None at known p = p
begun-patience limits reply_ticks is e phase.Idle (Some message) at known p = handed-patience limits reply_ticks e.sender e.host message at is known p
begun-patience limits reply_ticks is e phase.Sending next at known p = p
begun-patience limits reply_ticks is e phase.Waiting next at known p = p

prepared-patience : (limits : Limits) (reply_ticks : ℕ) → IsPatient limits reply_ticks → (e : EndState NodeState) (begins : Bool) → Known e.host → Patience limits reply_ticks e.sender e.host
    → Patience limits reply_ticks (cond begins (begun_next node_host e) e).sender (cond begins (begun_next node_host e) e).host
prepared-patience limits reply_ticks is e true known p = begun-patience limits reply_ticks is e (phase_of e.sender) (next_body e.host) refl known p
prepared-patience limits reply_ticks is e false known p = p

given-patience : (limits : Limits) (reply_ticks : ℕ) → IsPatient limits reply_ticks → (s : SenderState) (host : NodeState) (ends : Bool) → Patience limits reply_ticks s host → Patience limits reply_ticks (cond ends (sent_last s) s) host
given-patience limits reply_ticks is s host true p =
    let shrinks = sent-shrinks s.limits s.activity (some-ack limits reply_ticks s is p.limits_are) p.left in
    record {
      limits_are = p.limits_are;
      ticks_are = p.ticks_are;
      left = shrinks.left;
      holds_not = λ body so. holds-sent s.limits s.activity body (p.holds_not body so);
      in_time = λ body n so. elim (p.in_time body n so) [
        | inl free ↦ inl (holds-sent s.limits s.activity body free)
        | inr few ↦ inr (let less = shrinks.few in omega (arith, less, few))
      ];
    }
given-patience limits reply_ticks is s host false p = p

pub unanswered-take : (limits : Limits) (reply_ticks : ℕ) → IsPatient limits reply_ticks → (e : EndState NodeState) → UnansweredEnd limits reply_ticks e → UnansweredEnd limits reply_ticks (end_after_take node_host e)
unanswered-take limits reply_ticks is e u =
    let p = prepared node_host e in
    let now = prepared-patience limits reply_ticks is e (is_none (chosen e.mouth)) u.undelivered.known u.patience in
    record {
      undelivered = undelivered-take e u.undelivered;
      patience = subst (λ (x : EndState NodeState). Patience limits reply_ticks x.sender x.host) (sym (end-is node_host e)) (given-patience limits reply_ticks is p.sender p.host (ends_here (take p.mouth).1) now);
    }

-- ---- a command is issued

pub unanswered-issue : (limits : Limits) (reply_ticks : ℕ) (e : EndState NodeState) (src dst : ℕ) (payload : List ℕ) → Known (after_node_issue e.host src dst payload) → UnansweredEnd limits reply_ticks e
    → UnansweredEnd limits reply_ticks (with_host e (after_node_issue e.host src dst payload))
unanswered-issue limits reply_ticks e src dst payload known u =
    let p = u.patience in
    let new : Issued = record { body = next_issued e.host.initiator src dst payload; standing = Waiting } in
    record {
      undelivered = undelivered-issue e src dst payload known u.undelivered;
      patience = record {
        limits_are = p.limits_are;
        ticks_are = p.ticks_are;
        left = p.left;
        holds_not = λ body so. p.holds_not body (push-so is_unanswered e.host.initiator.issued new body refl so);
        in_time = λ body n so. p.in_time body n (push-so (is_out_for n) e.host.initiator.issued new body refl so);
      };
    }
