-- A full-duplex end holds no command that is undelivered: each signal leaves that.
use Rattle.std.proofs.Common.{◌≡◌, ◌∙◌, ◌⊎◌, inl, inr, ℕ, ◌+◌, ◌-◌, Bool, true, false, cond, nat_lt, List, ◌++◌, Option, Some, None, refl, sym, ap, subst}
use Rattle.std.specs.Prelude.{option_to_list}
use Rattle.std.specs.Option.{option_map_or}
use Rattle.df1_base.specs.declared.host.Fate.{Fate}
use Rattle.df1_base.specs.declared.host.Fate.TheVariants as fate
use Rattle.df1_base.specs.declared.link.Act.{Act}
use Rattle.df1_base.specs.declared.link.Act.TheVariants as act
use Rattle.df1_base.specs.HostAnswers.{host_told}
use Rattle.df1_node.specs.Initiator.{Standing, Waiting, Out as IsOutWith, Answered, Undelivered, Unanswered, is_waiting, next_issued, ticked}
use Rattle.df1_node.specs.Node.{NodeState, after_next, after_tick, after_node_issue}
use Rattle.duplex_sender.specs.declared.Limits.{Limits}
use Rattle.duplex_sender.specs.declared.Phase.TheVariants as phase
use Rattle.duplex_sender.specs.declared.SendTurn.{SendTurn}
use Rattle.duplex_sender.specs.declared.SendTurn.TheVariants as turn
use Rattle.duplex_sender.specs.Sender.{SenderState, Activity, Idle, Sending, Waiting as WaitsFor, phase_of, ack_fate, nak_fate, on_nak, on_tick, tick_turn}
use Rattle.duplex_end.specs.End.{EndState, with_host, act_of_byte, fate_at, sender_after, host_after, host_at_byte, end_after_byte, end_after_take, end_after_tick, fate_of_tick}
use Rattle.duplex_receiver.specs.Receiver.{body_at}
use Rattle.duplex_line.proofs.Once.SentMessages.{Sends, handed_at, sends-host, sends-take, sends-tick, sends-byte, take-host}
use Rattle.each_once.specs.NodeHost.{node_host}
use Rattle.run_laws.specs.Over.{HoldsNot}
use Rattle.run_laws.proofs.KnownNode.{Known, StandsSo, known-accept, known-told, known-tick, known-next, gives-not, so-plain, accept-so, next-so, told-so, tick-so, push-so}
use Rattle.run_laws.proofs.OverEnd.{EndsNot, end-act, end-take, end-tick}

abbrev pub is_undelivered : Standing → Bool
is_undelivered Waiting = false
is_undelivered (IsOutWith left) = false
is_undelivered (Answered reply) = false
is_undelivered Undelivered = true
is_undelivered Unanswered = false

waits-not : (s : Standing) → is_undelivered s ≡ true → is_waiting s ≡ false
waits-not Waiting is = absurd cc
waits-not (IsOutWith left) is = refl
waits-not (Answered reply) is = refl
waits-not Undelivered is = refl
waits-not Unanswered is = refl

out-ticked : (more : Bool) (left : ℕ) → is_undelivered (cond more (IsOutWith (left - 1)) Unanswered) ≡ true → is_undelivered (IsOutWith left) ≡ true
out-ticked true left is = is
out-ticked false left is = is

was-undelivered : (s : Standing) → is_undelivered (ticked s) ≡ true → is_undelivered s ≡ true
was-undelivered Waiting is = is
was-undelivered (IsOutWith left) is = out-ticked (nat_lt 1 left) left is
was-undelivered (Answered reply) is = is
was-undelivered Undelivered is = is
was-undelivered Unanswered is = is

-- a node of which such things are known, a sender that sends its last message, and none that is undelivered
pub record UndeliveredEnd (e : EndState NodeState) : Type 0 where
  pub known : Known e.host
  pub messages : List (List ℕ)
  pub sends : Sends e messages
  pub holds_not : (body : List ℕ) → StandsSo is_undelivered e.host.initiator.issued body → HoldsNot e.sender body

-- so the end won't give such a command any more
pub ends-not : (e : EndState NodeState) (body : List ℕ) → UndeliveredEnd e → StandsSo is_undelivered e.host.initiator.issued body → EndsNot body e
ends-not e body u so = record {
  command = so-plain is_undelivered e.host body u.known so;
  messages = u.messages;
  sends = u.sends;
  holds = u.holds_not body so;
  gives = gives-not is_undelivered waits-not e.host body u.known so;
}

-- ---- a fate

-- where a message is given up, the sender is idle
pub tick-idle : (limits : Limits) (a : Activity) → tick_turn (record { limits = limits; activity = a }) ≡ turn.Failed → phase_of (on_tick (record { limits = limits; activity = a })) ≡ phase.Idle
tick-idle limits Idle is = refl
tick-idle limits (Sending body naks enqs) is = absurd cc
tick-idle limits (WaitsFor body naks enqs left) is = at (nat_lt 1 left) (nat_lt enqs limits.max_enqs) is
  where
    at : (longer again : Bool) → cond longer turn.Still (cond again turn.Ask turn.Failed) ≡ turn.Failed → phase_of (record { limits = limits; activity = cond longer (WaitsFor body naks enqs (left - 1)) (cond again (WaitsFor body naks (enqs + 1) limits.ack_ticks) Idle) }) ≡ phase.Idle
    at true again is = absurd cc
    at false true is = absurd cc
    at false false is = refl

nak-idle : (limits : Limits) (a : Activity) → nak_fate (record { limits = limits; activity = a }) ≡ Some fate.Undelivered → phase_of (on_nak (record { limits = limits; activity = a })) ≡ phase.Idle
nak-idle limits Idle is = refl
nak-idle limits (Sending body naks enqs) is = absurd cc
nak-idle limits (WaitsFor body naks enqs left) is = at (nat_lt naks limits.max_naks) is
  where
    at : (again : Bool) → cond again None (Some fate.Undelivered) ≡ Some fate.Undelivered → phase_of (record { limits = limits; activity = cond again (Sending body (naks + 1) enqs) Idle }) ≡ phase.Idle
    at true is = absurd cc
    at false is = refl

ack-delivers : (limits : Limits) (a : Activity) → ack_fate (record { limits = limits; activity = a }) ≡ Some fate.Undelivered → ⊥
ack-delivers limits Idle is = cc
ack-delivers limits (Sending body naks enqs) is = cc
ack-delivers limits (WaitsFor body naks enqs left) is = cc

pub fated-idle : (what : Act) (s : SenderState) → fate_at what s ≡ Some fate.Undelivered → phase_of (sender_after what s) ≡ phase.Idle
fated-idle act.Accept s is = absurd cc
fated-idle act.Repeat s is = absurd cc
fated-idle act.Refuse s is = absurd cc
fated-idle act.Damaged s is = absurd cc
fated-idle act.Forgot s is = absurd cc
fated-idle act.PeerAck s is = absurd (ack-delivers s.limits s.activity is)
fated-idle act.PeerNak s is = nak-idle s.limits s.activity is
fated-idle act.PeerEnq s is = absurd cc
fated-idle act.Nothing s is = absurd cc

-- ---- signals

pub known-act : (what : Act) (host : NodeState) (message : List ℕ) → Known host → Known (host_after node_host what host message)
known-act act.Accept host message k = known-accept host message k
known-act act.Repeat host message k = k
known-act act.Refuse host message k = k
known-act act.Damaged host message k = k
known-act act.Forgot host message k = k
known-act act.PeerAck host message k = k
known-act act.PeerNak host message k = k
known-act act.PeerEnq host message k = k
known-act act.Nothing host message k = k

pub act-so : (is_so : Standing → Bool) (what : Act) (host : NodeState) (message body : List ℕ) → is_so (Answered message) ≡ false → StandsSo is_so (host_after node_host what host message).initiator.issued body → StandsSo is_so host.initiator.issued body
act-so is_so act.Accept host message body not so = accept-so is_so host message body not so
act-so is_so act.Repeat host message body not so = so
act-so is_so act.Refuse host message body not so = so
act-so is_so act.Damaged host message body not so = so
act-so is_so act.Forgot host message body not so = so
act-so is_so act.PeerAck host message body not so = so
act-so is_so act.PeerNak host message body not so = so
act-so is_so act.PeerEnq host message body not so = so
act-so is_so act.Nothing host message body not so = so

-- whether a message is given up
pub gives-up : (what : Option Fate) → (what ≡ Some fate.Undelivered) ⊎ (what ≡ Some fate.Undelivered → ⊥)
gives-up None = inr (λ is. cc)
gives-up (Some fate.Delivered) = inr (λ is. cc)
gives-up (Some fate.Undelivered) = inl refl

byte-holds-not : (e : EndState NodeState) (b : ℕ) (what : Act) (given : Option Fate) (message : List ℕ) → UndeliveredEnd e → (now : EndState NodeState) → now ≡ end_after_byte node_host e b → now.sender ≡ sender_after what e.sender
    → now.host ≡ host_told node_host given (host_after node_host what e.host message) → fate_at what e.sender ≡ given → (body : List ℕ) → StandsSo is_undelivered now.host.initiator.issued body → HoldsNot now.sender body
byte-holds-not e b what given message u now is is_sender is_host is_fate body so = by (gives-up given)
  where
    by : (given ≡ Some fate.Undelivered) ⊎ (given ≡ Some fate.Undelivered → ⊥) → HoldsNot now.sender body
    by (inl up) = inl (ap phase_of is_sender ∙ fated-idle what e.sender (is_fate ∙ up))
    by (inr not) =
        let told = subst (λ (h : NodeState). StandsSo is_undelivered h.initiator.issued body) is_host so in
        let before = act-so is_undelivered what e.host message body refl (told-so is_undelivered given (host_after node_host what e.host message) body not told) in
        (end-act body e now b what given message is is_sender is_host (ends-not e body u before)).holds

pub undelivered-byte : (e : EndState NodeState) (b : ℕ) → UndeliveredEnd e → UndeliveredEnd (end_after_byte node_host e b)
undelivered-byte e b u =
    let now = end_after_byte node_host e b in
    let what = act_of_byte node_host e b in
    let message = body_at now.receiver in
    record {
      known = known-told (fate_at what e.sender) (host_at_byte node_host e b) (known-act what e.host message u.known);
      messages = u.messages;
      sends = sends-byte node_host e b u.sends;
      holds_not = λ body so. byte-holds-not e b what (fate_at what e.sender) message u now refl refl refl refl body so;
    }

tick-holds-not : (e : EndState NodeState) → UndeliveredEnd e → (turns : SendTurn) → tick_turn e.sender ≡ turns → (body : List ℕ) → StandsSo is_undelivered (after_tick (host_told node_host (fate_of_tick turns) e.host)).initiator.issued body → HoldsNot (on_tick e.sender) body
tick-holds-not e u turn.Still is body so = (end-tick body e (ends-not e body u (tick-so is_undelivered is_undelivered was-undelivered e.host.initiator.issued body so))).holds
tick-holds-not e u turn.Ask is body so = (end-tick body e (ends-not e body u (tick-so is_undelivered is_undelivered was-undelivered e.host.initiator.issued body so))).holds
tick-holds-not e u turn.Failed is body so = inl (tick-idle e.sender.limits e.sender.activity is)

pub undelivered-tick : (e : EndState NodeState) → UndeliveredEnd e → UndeliveredEnd (end_after_tick node_host e)
undelivered-tick e u =
    let told = host_told node_host (fate_of_tick (tick_turn e.sender)) e.host in
    record {
      known = known-tick told (known-told (fate_of_tick (tick_turn e.sender)) e.host u.known);
      messages = u.messages;
      sends = sends-tick node_host e u.sends;
      holds_not = λ body so. tick-holds-not e u (tick_turn e.sender) refl body so;
    }

pub known-handed : (o : Option (List ℕ)) (host : NodeState) → Known host → Known (option_map_or (λ (body : List ℕ). after_next host) o host)
known-handed None host k = k
known-handed (Some message) host k = known-next host k

pub handed-so : (is_so : Standing → Bool) (o : Option (List ℕ)) (host : NodeState) (body : List ℕ) → is_so (IsOutWith host.initiator.reply_ticks) ≡ false → StandsSo is_so (option_map_or (λ (body : List ℕ). after_next host) o host).initiator.issued body → StandsSo is_so host.initiator.issued body
handed-so is_so None host body not so = so
handed-so is_so (Some message) host body not so = next-so is_so host body not so

pub undelivered-take : (e : EndState NodeState) → UndeliveredEnd e → UndeliveredEnd (end_after_take node_host e)
undelivered-take e u =
    let handed = handed_at node_host e in
    let same = take-host node_host e in
    record {
      known = subst Known (sym same) (known-handed handed e.host u.known);
      messages = u.messages ++ option_to_list handed;
      sends = sends-take node_host e u.sends;
      holds_not = λ body so.
          let before = handed-so is_undelivered handed e.host body refl (subst (λ (h : NodeState). StandsSo is_undelivered h.initiator.issued body) same so) in
          (end-take body e (ends-not e body u before)).holds;
    }

pub undelivered-issue : (e : EndState NodeState) (src dst : ℕ) (payload : List ℕ) → Known (after_node_issue e.host src dst payload) → UndeliveredEnd e → UndeliveredEnd (with_host e (after_node_issue e.host src dst payload))
undelivered-issue e src dst payload known u = record {
  known = known;
  messages = u.messages;
  sends = sends-host e (after_node_issue e.host src dst payload) u.sends;
  holds_not = λ body so. u.holds_not body (push-so is_undelivered e.host.initiator.issued (record { body = next_issued e.host.initiator src dst payload; standing = Waiting }) body refl so);
}
