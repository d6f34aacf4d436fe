-- An end whose command is over: what each signal leaves of that.
use Rattle.std.proofs.Common.{◌≡◌, ◌∙◌, inl, inr, ℕ, ◌+◌, ◌-◌, Bool, true, false, cond, nat_lt, List, ◌++◌, Option, Some, None, is_none, refl, sym, ap, subst}
use Rattle.std.specs.Prelude.{option_to_list}
use Rattle.std.specs.Option.{option_map}
use Rattle.df1_base.specs.declared.host.Fate.{Fate}
use Rattle.df1_base.specs.declared.link.Act.{Act}
use Rattle.df1_base.specs.declared.link.Act.TheVariants as act
use Rattle.df1_base.specs.declared.link.Out.{Out}
use Rattle.df1_base.specs.HostAnswers.{host_told}
use Rattle.df1_node.specs.Initiator.{next_issued}
use Rattle.df1_node.specs.Node.{NodeState, after_node_issue, next_body}
use Rattle.duplex_sender.specs.declared.Limits.{Limits}
use Rattle.duplex_sender.specs.declared.Phase.{Phase}
use Rattle.duplex_sender.specs.declared.Phase.TheVariants as phase
use Rattle.duplex_sender.specs.Sender.{SenderState, Activity, Idle, Sending, Waiting as WaitsFor, phase_of, body_of, load, sent_last, on_ack, on_nak, on_tick, tick_turn}
use Rattle.duplex_end.specs.End.{EndState, with_host, begun_at, begun_next, prepared, ends_here, sender_after, host_after, end_after_take, end_after_tick, end_after_byte, out_at_take, fate_of_tick}
use Rattle.duplex_end.proofs.Choices.{is-chosen}
use Rattle.duplex_end.proofs.Order.{end-is, out-is}
use Rattle.duplex_line.specs.Acts.{LineEndState, taken}
use Rattle.duplex_line.proofs.Once.SentMessages.{Sends, ends-begun, handed_at, prepared-sends, sends-byte, sends-host, sends-take, sends-tick}
use Rattle.each_once.specs.NodeHost.{node_host}
use Rattle.embedded_response.specs.Giving.{chosen, take}
use Rattle.lane_cells.specs.Cells.{cell_of}
use Rattle.pccc_envelope.specs.Envelope.{is_reply}
use Rattle.run_laws.specs.Over.{HoldsNot}
use Rattle.run_laws.proofs.OverNode.{GivesNot, NoneEnds, accepts, told, node-ticks, node-issues, hands-other, node-hands, none-more, marked-other}

-- ---- the sender

holds-load : (s : SenderState) (message body : List ℕ) → (message ≡ body → ⊥) → HoldsNot (load s message) body
holds-load s message body apart = inr apart

pub holds-sent : (limits : Limits) (a : Activity) (body : List ℕ) → HoldsNot (record { limits = limits; activity = a }) body → HoldsNot (sent_last (record { limits = limits; activity = a })) body
holds-sent limits Idle body h = inl refl
holds-sent limits (Sending b naks enqs) body (inl idle) = absurd cc
holds-sent limits (Sending b naks enqs) body (inr apart) = inr apart
holds-sent limits (WaitsFor b naks enqs left) body h = h

holds-ack : (limits : Limits) (a : Activity) (body : List ℕ) → HoldsNot (record { limits = limits; activity = a }) body → HoldsNot (on_ack (record { limits = limits; activity = a })) body
holds-ack limits Idle body h = inl refl
holds-ack limits (Sending b naks enqs) body h = h
holds-ack limits (WaitsFor b naks enqs left) body h = inl refl

holds-nak : (limits : Limits) (a : Activity) (body : List ℕ) → HoldsNot (record { limits = limits; activity = a }) body → HoldsNot (on_nak (record { limits = limits; activity = a })) body
holds-nak limits Idle body h = inl refl
holds-nak limits (Sending b naks enqs) body h = h
holds-nak limits (WaitsFor b naks enqs left) body (inl idle) = absurd cc
holds-nak limits (WaitsFor b naks enqs left) body (inr apart) = at (nat_lt naks limits.max_naks)
  where
    at : (again : Bool) → HoldsNot (record { limits = limits; activity = cond again (Sending b (naks + 1) enqs) Idle }) body
    at true = inr apart
    at false = inl refl

pub holds-tick : (limits : Limits) (a : Activity) (body : List ℕ) → HoldsNot (record { limits = limits; activity = a }) body → HoldsNot (on_tick (record { limits = limits; activity = a })) body
holds-tick limits Idle body h = inl refl
holds-tick limits (Sending b naks enqs) body h = h
holds-tick limits (WaitsFor b naks enqs left) body (inl idle) = absurd cc
holds-tick limits (WaitsFor b naks enqs left) body (inr apart) = at (nat_lt 1 left) (nat_lt enqs limits.max_enqs)
  where
    at : (longer again : Bool) → HoldsNot (record { limits = limits; activity = cond longer (WaitsFor b naks enqs (left - 1)) (cond again (WaitsFor b naks (enqs + 1) limits.ack_ticks) Idle) }) body
    at true again = inr apart
    at false true = inr apart
    at false false = inl refl

pub holds-act : (what : Act) (s : SenderState) (body : List ℕ) → HoldsNot s body → HoldsNot (sender_after what s) body
holds-act act.Accept s body h = h
holds-act act.Repeat s body h = h
holds-act act.Refuse s body h = h
holds-act act.Damaged s body h = h
holds-act act.Forgot s body h = h
holds-act act.PeerAck s body h = holds-ack s.limits s.activity body h
holds-act act.PeerNak s body h = holds-nak s.limits s.activity body h
holds-act act.PeerEnq s body h = h
holds-act act.Nothing s body h = h

act-gives : (what : Act) (node : NodeState) (body message : List ℕ) → GivesNot body node → GivesNot body (host_after node_host what node message)
act-gives act.Accept node body message g = accepts body node message g
act-gives act.Repeat node body message g = g
act-gives act.Refuse node body message g = g
act-gives act.Damaged node body message g = g
act-gives act.Forgot node body message g = g
act-gives act.PeerAck node body message g = g
act-gives act.PeerNak node body message g = g
act-gives act.PeerEnq node body message g = g
act-gives act.Nothing node body message g = g

-- ---- the end

-- it won't give a frame of this command any more; a frame that is begun is of its sender's message
pub record EndsNot (body : List ℕ) (e : EndState NodeState) : Type 0 where
  pub command : is_reply body ≡ false
  pub messages : List (List ℕ)
  pub sends : Sends e messages
  pub holds : HoldsNot e.sender body
  pub gives : GivesNot body e.host

pub end-tick : (body : List ℕ) (e : EndState NodeState) → EndsNot body e → EndsNot body (end_after_tick node_host e)
end-tick body e h = record {
  command = h.command;
  messages = h.messages;
  sends = sends-tick node_host e h.sends;
  holds = holds-tick e.sender.limits e.sender.activity body h.holds;
  gives = node-ticks body (host_told node_host (fate_of_tick (tick_turn e.sender)) e.host) (told body (fate_of_tick (tick_turn e.sender)) e.host h.gives);
}

-- the end after an act: what becomes of its sender and its host
pub end-act : (body : List ℕ) (e now : EndState NodeState) (b : ℕ) (what : Act) (fate : Option Fate) (message : List ℕ) → now ≡ end_after_byte node_host e b → now.sender ≡ sender_after what e.sender → now.host ≡ host_told node_host fate (host_after node_host what e.host message)
    → EndsNot body e → EndsNot body now
end-act body e now b what fate message is is-sender is-host h = record {
  command = h.command;
  messages = h.messages;
  sends = subst (λ (x : EndState NodeState). Sends x h.messages) (sym is) (sends-byte node_host e b h.sends);
  holds = subst (λ (s : SenderState). HoldsNot s body) (sym is-sender) (holds-act what e.sender body h.holds);
  gives = subst (GivesNot body) (sym is-host) (told body fate (host_after node_host what e.host message) (act-gives what e.host body message h.gives));
}

-- ---- a take

begun-holds : (body : List ℕ) (e : EndState NodeState) (p : Phase) (next : Option (List ℕ)) → next_body e.host ≡ next → EndsNot body e → HoldsNot (begun_at node_host e p next).sender body × GivesNot body (begun_at node_host e p next).host
begun-holds body e phase.Idle None is h = (h.holds, h.gives)
begun-holds body e phase.Idle (Some message) is h =
    (holds-load e.sender message body (hands-other body e.host e.host.replies message h.command refl is h.gives), node-hands body e.host h.gives)
begun-holds body e phase.Sending next is h = (h.holds, h.gives)
begun-holds body e phase.Waiting next is h = (h.holds, h.gives)

prepared-holds : (body : List ℕ) (e : EndState NodeState) (begins : Bool) → EndsNot body e → HoldsNot (cond begins (begun_next node_host e) e).sender body × GivesNot body (cond begins (begun_next node_host e) e).host
prepared-holds body e true h = begun-holds body e (phase_of e.sender) (next_body e.host) refl h
prepared-holds body e false h = (h.holds, h.gives)

given-holds : (body : List ℕ) (s : SenderState) (ends : Bool) → HoldsNot s body → HoldsNot (cond ends (sent_last s) s) body
given-holds body s true h = holds-sent s.limits s.activity body h
given-holds body s false h = h

pub end-take : (body : List ℕ) (e : EndState NodeState) → EndsNot body e → EndsNot body (end_after_take node_host e)
end-take body e h =
    let p = prepared node_host e in
    let now = prepared-holds body e (is_none (chosen e.mouth)) h in
    record {
      command = h.command;
      messages = h.messages ++ option_to_list (handed_at node_host e);
      sends = sends-take node_host e h.sends;
      holds = subst (λ (x : EndState NodeState). HoldsNot x.sender body) (sym (end-is node_host e)) (given-holds body p.sender (ends_here (take p.mouth).1) now.0);
      gives = subst (λ (x : EndState NodeState). GivesNot body x.host) (sym (end-is node_host e)) now.1;
    }

-- a sender that sends this message holds it
holds-sent-one : (s : SenderState) (body : List ℕ) → phase_of s ≡ phase.Sending → body_of s ≡ body → HoldsNot s body → ⊥
holds-sent-one s body sends same (inl idle) = let clash : phase.Sending ≡ phase.Idle = sym sends ∙ idle in cc
holds-sent-one s body sends same (inr apart) = apart same

-- the cell that a take gives ends no transmission of it
take-other : (body : List ℕ) (e : EndState NodeState) (out : Out) (number : ℕ) → out_at_take node_host e ≡ Some out → out.last_of ≡ Some number → EndsNot body e → (end_after_take node_host e).sending ≡ body → ⊥
take-other body e out number is last h same =
    let p = prepared node_host e in
    let after = prepared-sends node_host e (is_none (chosen e.mouth)) h.sends in
    let given : (take p.mouth).1 ≡ Some out = sym (out-is node_host e) ∙ is in
    let begun = ends-begun p.mouth p.sender (chosen p.mouth) after.joined (is-chosen p.mouth) (rw (given, last) refl) in
    let now = prepared-holds body e (is_none (chosen e.mouth)) h in
    holds-sent-one p.sender body (after.joined.sends begun) (sym (after.begun begun) ∙ ap (λ (x : EndState NodeState). x.sending) (sym (end-is node_host e)) ∙ same) now.0

given-other : (body : List ℕ) (e : EndState NodeState) (o : Option Out) → out_at_take node_host e ≡ o → EndsNot body e → NoneEnds body (option_to_list (option_map (cell_of (end_after_take node_host e).sending) o))
given-other body e None is h = tt
given-other body e (Some out) is h = (marked-other body (end_after_take node_host e).sending out.last_of (λ number last same. take-other body e out number is last h same), tt)

pub taken-other : (body : List ℕ) (side : LineEndState) → EndsNot body side.end → NoneEnds body side.lane → NoneEnds body (side.lane ++ taken side)
taken-other body side h none = none-more body side.lane (taken side) none (given-other body side.end (out_at_take node_host side.end) refl h)

-- ---- a command is issued

pub end-issue : (body : List ℕ) (e : EndState NodeState) (src dst : ℕ) (payload : List ℕ) → (next_issued e.host.initiator src dst payload ≡ body → ⊥) → EndsNot body e → EndsNot body (with_host e (after_node_issue e.host src dst payload))
end-issue body e src dst payload apart h = record {
  command = h.command;
  messages = h.messages;
  sends = sends-host e (after_node_issue e.host src dst payload) h.sends;
  holds = h.holds;
  gives = node-issues body e.host src dst payload apart h.gives;
}
