-- A byte arrives, in a run that nothing disturbs.
use Rattle.std.proofs.Common.{◌≡◌, ◌∙◌, ◌<◌, ℕ, suc, ◌+◌, ◌≤◌, Bool, true, false, List, [], ◌∷◌, ◌++◌, length, map, Option, Some, None, refl, ap, sym, subst, arith, append_assoc, length-append, inl, inr}
use Rattle.std.specs.Prelude.{◌⊎◌, slice_get, not, ◌&&◌}
use Rattle.std.specs.Option.{option_map}
use Rattle.std.specs.List.{filter}
use Rattle.std.specs.Str.{bytes_eq}
use Rattle.std.proofs.lemmas.Slice.Eq.{bytes_eq-Decides}
use Rattle.std.proofs.lemmas.Bool.{lt-ltb}
use Rattle.df1_base.specs.declared.host.Fate.{Fate}
use Rattle.df1_base.specs.declared.host.Fate.TheVariants as fate
use Rattle.df1_base.specs.declared.link.Act.{Act}
use Rattle.df1_base.specs.declared.link.Act.TheVariants as act
use Rattle.df1_base.specs.HostAnswers.{news_of, host_told}
use Rattle.df1_frame.specs.declared.heard.Heard.{Heard}
use Rattle.df1_frame.specs.declared.heard.Heard.TheVariants as hears
use Rattle.df1_frame.specs.Standing.{Decoding, lent_at}
use Rattle.df1_frame.specs.Step.{next}
use Rattle.pccc_envelope.specs.declared.key.Key.{Key}
use Rattle.pccc_envelope.specs.Envelope.{is_reply, tns_of, key_of}
use Rattle.pccc_envelope.specs.Accepted.{is_kept}
use Rattle.df1_node.specs.Initiator.{answered_place, is_reply_to}
use Rattle.df1_node.specs.Node.{NodeState, has_room, after_accept, after_told}
use Rattle.duplex_sender.specs.declared.Limits.{Limits}
use Rattle.duplex_sender.specs.Sender.{Activity, Idle, Sending, Waiting, phase_of, on_ack, on_nak, ack_fate, nak_fate}
use Rattle.duplex_receiver.specs.Receiver.{act_of, is_good}
use Rattle.duplex_end.specs.End.{EndState, act_of_byte, is_waiting}
use Rattle.embedded_response.specs.Giving.{offer}
use Rattle.df1_base.specs.declared.link.Resp.TheVariants as resp
use Rattle.script_statement.specs.declared.who.Who.{Who}
use Rattle.replay_report.specs.declared.record.Line.{Line}
use Rattle.lane_cells.specs.Cells.{LaneCell, Ending}
use Rattle.each_once.specs.NodeHost.{node_host}
use Rattle.lane_cells.specs.Deception.{deceptions}
use Rattle.report_lines.specs.NodeLines.{news_lines}
use Rattle.duplex_line.specs.Acts.{LineEndState, LineState, deceptions_at, cell_lines}
use Rattle.each_once.specs.Tells.{executed_in}
use Rattle.duplex_line.proofs.Once.IssueLimits.{byte-commands}
use Rattle.each_once.proofs.Sublists.{Has, IsWithin, get-last, within-filter, differ-within, filter-keeps, filter-drops}
use Rattle.duplex_line.proofs.Once.SentMessages.{Sends, sends-byte}
use Rattle.each_once.proofs.CommandBodies.{bodies-accept}
use Rattle.duplex_line.proofs.Once.EndSteps.{hosts-act, hosts-fate}
use Rattle.duplex_line.proofs.Once.Invariant.{AreTwo}
use Rattle.duplex_line.proofs.Once.ArrivingCell.{told_at, coming, arrived}
use Rattle.duplex_line.specs.Prompt.{Late}
use Rattle.duplex_line.proofs.Complete.ClearLane.{end_of, IsTrueEnd}
use Rattle.duplex_line.specs.Recoverable.{Damage, Damages, hits_of}
use Rattle.duplex_line.proofs.Complete.DamageDone.{IsDamage, damage-leaves}
use Rattle.duplex_line.proofs.Complete.MessageUnderWay.{Marks, May, awaits, heard_by, byte-acts, begun-same, flow-silent, far-silent, flow-acked, far-acked, flow-naked, far-naked, good-end, bad-end, good-arrives, flow-accepted, far-accepted, flow-refused, far-refused}
use Rattle.each_once.proofs.CommandsUnderWay.{under-way-reply}
use Rattle.each_once.proofs.HandedOut.{is_command, Hosts}
use Rattle.each_once.proofs.TwoNodes.{answer-fits, few-replies, commands-differ, key-is-new}
use Rattle.each_once.proofs.MessageLengths.{AreBodies}
use Rattle.duplex_line.proofs.Complete.ToldMessages.{TellsOf, tells-silent, tells-accept, none-accepted}
use Rattle.duplex_line.proofs.Once.Settings.{IsAllowed, allowed-accept}
use Rattle.duplex_line.proofs.Complete.Invariant.{Origin, station_from, is_later, IsAhead, HostsSince, Flows, replies-of, within-both}

-- ---- what is heard

-- nothing, a response, or a frame's end
heard-cases : (P : Type 0) (end : Option (List ℕ)) (h : Option Heard) (lent : List ℕ) → IsTrueEnd P end h lent → (h ≡ None) ⊎ ((h ≡ Some hears.Ack) ⊎ ((h ≡ Some hears.Nak) ⊎ ((h ≡ Some hears.BadCheck) ⊎ (h ≡ Some hears.Good))))
heard-cases P None None lent t = inl refl
heard-cases P None (Some hears.Ack) lent t = inr (inl refl)
heard-cases P None (Some hears.Nak) lent t = inr (inr (inl refl))
heard-cases P (Some body) (Some hears.BadCheck) lent t = inr (inr (inr (inl refl)))
heard-cases P (Some body) (Some hears.Good) lent t = inr (inr (inr (inr refl)))
heard-cases P (Some body) None lent t = absurd t
heard-cases P None (Some other) lent t = absurd t
heard-cases P (Some body) (Some other) lent t = absurd t

-- the act of each
silent-act : (kept : Option Key) (h : Option Heard) (body : List ℕ) (room : Bool) → h ≡ None → act_of kept (record { heard = h; body = body; has_room = room }) ≡ act.Nothing
silent-act kept h body room is = rw is refl

ack-act : (kept : Option Key) (h : Option Heard) (body : List ℕ) (room : Bool) → h ≡ Some hears.Ack → act_of kept (record { heard = h; body = body; has_room = room }) ≡ act.PeerAck
ack-act kept h body room is = rw is refl

nak-act : (kept : Option Key) (h : Option Heard) (body : List ℕ) (room : Bool) → h ≡ Some hears.Nak → act_of kept (record { heard = h; body = body; has_room = room }) ≡ act.PeerNak
nak-act kept h body room is = rw is refl

bad-act : (kept : Option Key) (h : Option Heard) (body : List ℕ) (room : Bool) → h ≡ Some hears.BadCheck → act_of kept (record { heard = h; body = body; has_room = room }) ≡ act.Damaged
bad-act kept h body room is = rw is refl

good-act : (kept : Option Key) (h : Option Heard) (body : List ℕ) (room : Bool) → h ≡ Some hears.Good → is_kept kept (key_of body) ≡ false → room ≡ true → act_of kept (record { heard = h; body = body; has_room = room }) ≡ act.Accept
good-act kept h body room is new has = rw (is, new, has) refl

-- ---- no deception

not-whole : (h : Option Heard) (ends : Option Ending) (body : List ℕ) → is_good h ≡ false → deceptions (is_good h) ends body ≡ 0
not-whole h ends body is = rw is refl

whole-sent : (h : Option Heard) (ends : Option Ending) (body : List ℕ) → option_map (λ (e : Ending). e.body) ends ≡ Some body → deceptions (is_good h) ends body ≡ 0
whole-sent h None body is = absurd cc
whole-sent h (Some ending) body is =
    let same : ending.body ≡ body = cc in
    let yes : bytes_eq ending.body body ≡ true = (bytes_eq-Decides ending.body body).1 same in
    rw yes (none (is_good h))
  where
    none : (whole : Bool) → deceptions whole (Some (record { number = 0; body = [] })) [] ≡ 0
    none true = refl
    none false = refl

-- the other way round: where a frame is heard whole that deceives nobody, it is the one that ends there
honest-end : (h : Option Heard) (end : Option Ending) (body other : List ℕ) → h ≡ Some hears.Good → option_map (λ (e : Ending). e.body) end ≡ Some other → deceptions (is_good h) end body ≡ 0 → body ≡ other
honest-end h None body other good is none = absurd cc
honest-end h (Some ending) body other good is none =
    let same : ending.body ≡ other = cc in
    by-test (bytes_eq ending.body body) refl ∙ same
  where
    by-test : (equal : Bool) → bytes_eq ending.body body ≡ equal → body ≡ ending.body
    by-test true e = sym ((bytes_eq-Decides ending.body body).0 e)
    by-test false e = absurd (let one : deceptions (is_good h) (Some ending) body ≡ 1 = rw (good, e) refl in omega (arith, one, none))

-- ---- the end at which it arrives

-- the head of the lane from end a is gone
abbrev pub leaves : Damages → Damages
leaves dam = record { a = record dam.a { touched = false }; b = dam.b }

-- what was done to the transmissions of the end at which it arrives stays
far-stays : (dam : Damage) (marks : Marks) (begun after most : ℕ) (decoding : Decoding) (lane : List LaneCell) → after ≡ begun → IsDamage dam marks begun most decoding lane → IsDamage dam marks after most decoding lane
far-stays dam marks begun after most decoding lane same h = subst (λ (n : ℕ). IsDamage dam marks n most decoding lane) (sym same) h

-- the line after a cell has arrived with this act
abbrev reached : EndState NodeState → LaneCell → List LaneCell → LineEndState → ℕ → Act → LineState
reached end cell cells b count what = record { a = record { end = end; lane = cells }; b = record { end = heard_by node_host b.end cell.byte what; lane = b.lane }; deceived = count }

abbrev lent_after : LineEndState → LaneCell → List ℕ
lent_after b cell = lent_at (next 250 b.end.receiver.decoding cell.byte).0.standing

-- nothing is heard
reach-silent : (near far : Who) (first far_first : Origin) (end : EndState NodeState) (cell : LaneCell) (cells : List LaneCell) (b : LineEndState) (count after : ℕ) (late : Late) (dam : Damages) (lines : List Line)
    → act_of_byte node_host b.end cell.byte ≡ act.Nothing → (next 250 b.end.receiver.decoding cell.byte).1 ≡ None → after ≡ 0 → Flows near far first far_first (coming end cell cells b count) late dam lines
    → Flows near far first far_first (reached end cell cells b after act.Nothing) late (leaves dam) (lines ++ told_at far act.Nothing b.end.sender b.end.host (lent_after b cell))
reach-silent near far first far_first end cell cells b count after late dam lines acts is none h = record {
  sent = h.sent;
  heard = h.heard;
  far_sent = h.far_sent;
  far_heard = h.far_heard;
  allowed = h.allowed;
  far_allowed = h.far_allowed;
  rooms = h.rooms;
  past = h.past;
  end = h.end;
  far_end = record {
    hosts = h.far_end.hosts;
    sends = subst (λ (e : EndState NodeState). Sends e h.far_sent) (byte-acts node_host b.end cell.byte act.Nothing acts) (sends-byte node_host b.end cell.byte h.far_end.sends);
    ahead = h.far_end.ahead;
    bodies = h.far_end.bodies;
    commands = h.far_end.commands;
    allowed = h.far_end.allowed;
    block = h.far_end.block;
    few = h.far_end.few;
  };
  marks = h.marks;
  far_marks = h.far_marks;
  damage = damage-leaves dam.a h.marks end.mouth.begun end.sender.limits.max_naks b.end.receiver.decoding _ (cell ∷ cells) cells h.damage;
  far_damage = far-stays dam.b h.far_marks b.end.mouth.begun (heard_by node_host b.end cell.byte act.Nothing).mouth.begun b.end.sender.limits.max_naks end.receiver.decoding b.lane (begun-same (is_waiting (phase_of b.end.sender) && not (is_waiting (phase_of b.end.sender))) b.end.mouth) h.far_damage;
  flow = flow-silent node_host end b.end cell cells b.lane h.sent h.far_heard late.a h.marks is h.flow;
  far_flow = far-silent node_host end b.end cell cells b.lane h.far_sent h.heard late.b h.far_marks is h.far_flow;
  kept = h.kept;
  far_kept = h.far_kept;
  tells = tells-silent near (first.heard ++ h.heard) lines [] refl h.tells;
  far_tells = tells-silent far (far_first.heard ++ h.far_heard) lines [] refl h.far_tells;
  honest = none;
}

-- a frame is heard whose check differs
reach-damaged : (near far : Who) (first far_first : Origin) (end : EndState NodeState) (cell : LaneCell) (cells : List LaneCell) (b : LineEndState) (count after : ℕ) (late : Late) (dam : Damages) (lines : List Line)
    → act_of_byte node_host b.end cell.byte ≡ act.Damaged → (next 250 b.end.receiver.decoding cell.byte).1 ≡ Some hears.BadCheck → (body : List ℕ) → end_of cell ≡ Some body → ((marks : Marks) → IsTrueEnd (May end.sender.activity marks.hits) (end_of cell) (next 250 b.end.receiver.decoding cell.byte).1 (lent_after b cell) → May end.sender.activity marks.hits) → after ≡ 0 → Flows near far first far_first (coming end cell cells b count) late dam lines
    → Flows near far first far_first (reached end cell cells b after act.Damaged) late (leaves dam) (lines ++ told_at far act.Damaged b.end.sender b.end.host (lent_after b cell))
reach-damaged near far first far_first end cell cells b count after late dam lines acts is body ends may none h = record {
  sent = h.sent;
  heard = h.heard;
  far_sent = h.far_sent;
  far_heard = h.far_heard;
  allowed = h.allowed;
  far_allowed = h.far_allowed;
  rooms = h.rooms;
  past = h.past;
  end = h.end;
  far_end = record {
    hosts = h.far_end.hosts;
    sends = subst (λ (e : EndState NodeState). Sends e h.far_sent) (byte-acts node_host b.end cell.byte act.Damaged acts) (sends-byte node_host b.end cell.byte h.far_end.sends);
    ahead = h.far_end.ahead;
    bodies = h.far_end.bodies;
    commands = h.far_end.commands;
    allowed = h.far_end.allowed;
    block = h.far_end.block;
    few = h.far_end.few;
  };
  marks = h.marks;
  far_marks = h.far_marks;
  damage = damage-leaves dam.a h.marks end.mouth.begun end.sender.limits.max_naks b.end.receiver.decoding _ (cell ∷ cells) cells h.damage;
  far_damage = far-stays dam.b h.far_marks b.end.mouth.begun (heard_by node_host b.end cell.byte act.Damaged).mouth.begun b.end.sender.limits.max_naks end.receiver.decoding b.lane (begun-same (is_waiting (phase_of b.end.sender) && not (is_waiting (phase_of b.end.sender))) (offer b.end.mouth resp.Nak)) h.far_damage;
  flow = flow-refused node_host end b.end cell cells b.lane h.sent h.far_heard late.a h.marks body ends (may h.marks h.flow.clear.0.0) h.flow;
  far_flow = far-refused node_host end b.end cell cells b.lane h.far_sent h.heard late.b h.far_marks is h.far_flow;
  kept = h.kept;
  far_kept = h.far_kept;
  tells = tells-silent near (first.heard ++ h.heard) lines _ refl h.tells;
  far_tells = tells-silent far (far_first.heard ++ h.far_heard) lines _ refl h.far_tells;
  honest = none;
}

-- an ACK is heard, and delivers the message
delivered : (limits : Limits) (a : Activity) → awaits a ≡ 1 → ack_fate (record { limits = limits; activity = a }) ≡ Some fate.Delivered
delivered limits Idle one = absurd (omega (arith, one))
delivered limits (Sending body naks enqs) one = absurd (omega (arith, one))
delivered limits (Waiting body naks enqs left) one = refl

reach-ack : (near far : Who) (first far_first : Origin) (end : EndState NodeState) (cell : LaneCell) (cells : List LaneCell) (b : LineEndState) (count after : ℕ) (late : Late) (dam : Damages) (lines : List Line)
    → act_of_byte node_host b.end cell.byte ≡ act.PeerAck → (next 250 b.end.receiver.decoding cell.byte).1 ≡ Some hears.Ack → after ≡ 0 → Flows near far first far_first (coming end cell cells b count) late dam lines
    → Flows near far first far_first (reached end cell cells b after act.PeerAck) late (leaves dam) (lines ++ told_at far act.PeerAck b.end.sender b.end.host (lent_after b cell))
reach-ack near far first far_first end cell cells b count after late dam lines acts is none h =
    let acked = far-acked node_host end b.end cell cells b.lane h.far_sent h.heard late.b h.far_marks is h.far_flow in
    let is_fate = delivered b.end.sender.limits b.end.sender.activity acked.1 in
    let told : NodeState = after_told b.end.host fate.Delivered in
    let is_host : told ≡ host_told node_host (ack_fate b.end.sender) b.end.host = ap (λ (o : Option Fate). host_told node_host o b.end.host) (sym is_fate) in
    let news = news_lines far (news_of node_host (ack_fate b.end.sender) b.end.host) in
    let no_news : news ≡ [] = ap (λ (o : Option Fate). news_lines far (news_of node_host o b.end.host)) is_fate in
    record {
      sent = h.sent;
      heard = h.heard;
      far_sent = h.far_sent;
      far_heard = h.far_heard;
      allowed = h.allowed;
      far_allowed = h.far_allowed;
      rooms = h.rooms;
      past = h.past;
      end = h.end;
      far_end = record {
        hosts = hosts-fate (ack_fate b.end.sender) far_first.station b.end.host (far_first.sent ++ h.far_sent) (far_first.heard ++ h.far_heard) h.far_end.hosts;
        sends = subst (λ (e : EndState NodeState). Sends e h.far_sent) (byte-acts node_host b.end cell.byte act.PeerAck acts) (sends-byte node_host b.end cell.byte h.far_end.sends);
        ahead = subst (λ (node : NodeState). IsAhead far_first node.initiator (filter is_command h.far_sent) h.far_heard late.b) is_host (record { done = h.far_end.ahead.done; under_way = h.far_end.ahead.under_way; answers = h.far_end.ahead.answers });
        bodies = h.far_end.bodies;
        commands = subst (λ (node : NodeState). AreBodies (map (λ c. c.body) node.initiator.issued)) is_host h.far_end.commands;
        allowed = subst (λ (node : NodeState). IsAllowed h.far_allowed node) is_host (record { room = h.far_end.allowed.room; window = h.far_end.allowed.window; per_source = h.far_end.allowed.per_source });
        block = h.far_end.block;
        few = subst (λ (node : NodeState). length node.initiator.issued ≤ 65535) is_host h.far_end.few;
      };
      marks = h.marks;
      far_marks = h.far_marks;
      damage = damage-leaves dam.a h.marks end.mouth.begun end.sender.limits.max_naks b.end.receiver.decoding _ (cell ∷ cells) cells h.damage;
      far_damage = far-stays dam.b h.far_marks b.end.mouth.begun (heard_by node_host b.end cell.byte act.PeerAck).mouth.begun b.end.sender.limits.max_naks end.receiver.decoding b.lane (begun-same (is_waiting (phase_of b.end.sender) && not (is_waiting (phase_of (on_ack b.end.sender)))) b.end.mouth) h.far_damage;
      flow = flow-acked node_host end b.end cell cells b.lane h.sent h.far_heard late.a h.marks is h.flow;
      far_flow = acked.0;
      kept = h.kept;
      far_kept = h.far_kept;
      tells = tells-silent near (first.heard ++ h.heard) lines news (ap (executed_in near) no_news) h.tells;
      far_tells = tells-silent far (far_first.heard ++ h.far_heard) lines news (ap (executed_in far) no_news) h.far_tells;
      honest = none;
    }

-- a NAK is heard, and the message is sent again
reach-nak : (near far : Who) (first far_first : Origin) (end : EndState NodeState) (cell : LaneCell) (cells : List LaneCell) (b : LineEndState) (count after : ℕ) (late : Late) (dam : Damages) (lines : List Line)
    → act_of_byte node_host b.end cell.byte ≡ act.PeerNak → (next 250 b.end.receiver.decoding cell.byte).1 ≡ Some hears.Nak → after ≡ 0 → Flows near far first far_first (coming end cell cells b count) late dam lines
    → Flows near far first far_first (reached end cell cells b after act.PeerNak) late (leaves dam) (lines ++ told_at far act.PeerNak b.end.sender b.end.host (lent_after b cell))
reach-nak near far first far_first end cell cells b count after late dam lines acts is none h =
    let again = far-naked node_host end b.end cell cells b.lane h.far_sent h.heard late.b h.far_marks is h.far_damage.few h.far_flow in
    let is_fate = again.1 in
    let is_host : b.end.host ≡ host_told node_host (nak_fate b.end.sender) b.end.host = ap (λ (o : Option Fate). host_told node_host o b.end.host) (sym is_fate) in
    let news = news_lines far (news_of node_host (nak_fate b.end.sender) b.end.host) in
    let no_news : news ≡ [] = ap (λ (o : Option Fate). news_lines far (news_of node_host o b.end.host)) is_fate in
    record {
      sent = h.sent;
      heard = h.heard;
      far_sent = h.far_sent;
      far_heard = h.far_heard;
      allowed = h.allowed;
      far_allowed = h.far_allowed;
      rooms = h.rooms;
      past = h.past;
      end = h.end;
      far_end = record {
        hosts = hosts-fate (nak_fate b.end.sender) far_first.station b.end.host (far_first.sent ++ h.far_sent) (far_first.heard ++ h.far_heard) h.far_end.hosts;
        sends = subst (λ (e : EndState NodeState). Sends e h.far_sent) (byte-acts node_host b.end cell.byte act.PeerNak acts) (sends-byte node_host b.end cell.byte h.far_end.sends);
        ahead = subst (λ (node : NodeState). IsAhead far_first node.initiator (filter is_command h.far_sent) h.far_heard late.b) is_host (record { done = h.far_end.ahead.done; under_way = h.far_end.ahead.under_way; answers = h.far_end.ahead.answers });
        bodies = h.far_end.bodies;
        commands = subst (λ (node : NodeState). AreBodies (map (λ c. c.body) node.initiator.issued)) is_host h.far_end.commands;
        allowed = subst (λ (node : NodeState). IsAllowed h.far_allowed node) is_host (record { room = h.far_end.allowed.room; window = h.far_end.allowed.window; per_source = h.far_end.allowed.per_source });
        block = h.far_end.block;
        few = subst (λ (node : NodeState). length node.initiator.issued ≤ 65535) is_host h.far_end.few;
      };
      marks = h.marks;
      far_marks = h.far_marks;
      damage = damage-leaves dam.a h.marks end.mouth.begun end.sender.limits.max_naks b.end.receiver.decoding _ (cell ∷ cells) cells h.damage;
      far_damage = far-stays dam.b h.far_marks b.end.mouth.begun (heard_by node_host b.end cell.byte act.PeerNak).mouth.begun b.end.sender.limits.max_naks end.receiver.decoding b.lane (begun-same (is_waiting (phase_of b.end.sender) && not (is_waiting (phase_of (on_nak b.end.sender)))) b.end.mouth) h.far_damage;
      flow = flow-naked node_host end b.end cell cells b.lane h.sent h.far_heard late.a h.marks is h.flow;
      far_flow = again.0;
      kept = h.kept;
      far_kept = h.far_kept;
      tells = tells-silent near (first.heard ++ h.heard) lines news (ap (executed_in near) no_news) h.tells;
      far_tells = tells-silent far (far_first.heard ++ h.far_heard) lines news (ap (executed_in far) no_news) h.far_tells;
      honest = none;
    }

-- ---- a message is accepted

length-push : {A : Type 0} (xs : List A) (x : A) → length (xs ++ x ∷ []) ≡ suc (length xs)
length-push xs x = omega (arith, length-append xs (x ∷ []))

-- a reply answers the first command that isn't answered, and that is its place
reply-ahead : (first : Origin) (node : NodeState) (sent heard : List (List ℕ)) (body : List ℕ) (late : ℕ) (command : List ℕ) → is_reply body ≡ true → HostsSince first node sent heard → length node.initiator.issued ≤ 65535
    → (a : IsAhead first node.initiator (filter is_command sent) heard late) → slice_get (filter is_command sent) a.done ≡ Some command → is_reply_to command body ≡ true → IsAhead first (after_accept node body).initiator (filter is_command sent) (heard ++ body ∷ []) late
reply-ahead first node sent heard body late command reply h few a next fits =
    let answered = under-way-reply (is_later first) node.initiator (filter is_command sent) a.done _ command body few h.initiates.numbered next fits a.under_way in
    rw reply (record {
      done = suc a.done;
      under_way = answered.1;
      answers = ap length (filter-keeps is_reply heard body reply) ∙ length-push (filter is_reply heard) body ∙ ap suc a.answers;
    })

command-ahead : (first : Origin) (node : NodeState) (commands heard : List (List ℕ)) (body : List ℕ) (late : ℕ) → is_reply body ≡ false → IsAhead first node.initiator commands heard late → IsAhead first (after_accept node body).initiator commands (heard ++ body ∷ []) late
command-ahead first node commands heard body late command a = rw command (record {
  done = a.done;
  under_way = a.under_way;
  answers = ap length (filter-drops is_reply heard body command) ∙ a.answers;
})

accepted-ahead : (near far : Who) (first far_first : Origin) (end : EndState NodeState) (cell : LaneCell) (cells : List LaneCell) (b : LineEndState) (count : ℕ) (late : Late) (dam : Damages) (lines : List Line) (body : List ℕ) → (h : Flows near far first far_first (coming end cell cells b count) late dam lines)
    → h.sent ≡ h.far_heard ++ body ∷ [] → (reply : Bool) → is_reply body ≡ reply → IsAhead far_first (after_accept b.end.host body).initiator (filter is_command h.far_sent) (h.far_heard ++ body ∷ []) late.b
accepted-ahead near far first far_first end cell cells b count late dam lines body h arrives true reply =
    let a = h.far_end.ahead in
    let replied = replies-of first end.host h.sent h.heard h.past.even h.end.hosts in
    let fits = answer-fits (station_from first) h.sent h.heard end.host.replies h.far_sent h.far_heard replied body arrives _ h.far_flow.flight reply a.done a.answers in
    reply-ahead far_first b.end.host h.far_sent h.far_heard body late.b fits.0 reply h.far_end.hosts h.far_end.few a fits.1 fits.2
accepted-ahead near far first far_first end cell cells b count late dam lines body h arrives false command = command-ahead far_first b.end.host (filter is_command h.far_sent) h.far_heard body late.b command h.far_end.ahead

-- there is room for it
has-room : (near far : Who) (first far_first : Origin) (end : EndState NodeState) (cell : LaneCell) (cells : List LaneCell) (b : LineEndState) (count : ℕ) (late : Late) (dam : Damages) (lines : List Line) (body : List ℕ) → (h : Flows near far first far_first (coming end cell cells b count) late dam lines)
    → h.sent ≡ h.far_heard ++ body ∷ [] → (reply : Bool) → is_reply body ≡ reply → has_room b.end.host body ≡ true
has-room near far first far_first end cell cells b count late dam lines body h arrives true reply = rw reply refl
has-room near far first far_first end cell cells b count late dam lines body h arrives false command =
    let a = h.end.ahead in
    let replied = replies-of far_first b.end.host h.far_sent h.far_heard h.past.far_even h.far_end.hosts in
    let few = few-replies (station_from far_first) h.far_sent h.far_heard b.end.host.replies h.sent h.heard replied (is_later first) end.host.initiator body arrives command _ h.far_flow.flight a.done _ a.answers a.under_way in
    let fewer : length b.end.host.replies < b.end.host.room = omega (arith, few, h.end.allowed.window, h.far_end.allowed.room, h.rooms.far_room) in
    rw command (lt-ltb (length b.end.host.replies) b.end.host.room fewer)

-- its key is new
new-key : (near far : Who) (first far_first : Origin) (end : EndState NodeState) (cell : LaneCell) (cells : List LaneCell) (b : LineEndState) (count : ℕ) (late : Late) (dam : Damages) (lines : List Line) (body : List ℕ) → (h : Flows near far first far_first (coming end cell cells b count) late dam lines)
    → h.sent ≡ h.far_heard ++ body ∷ [] → is_kept b.end.receiver.kept (key_of body) ≡ false
new-key near far first far_first end cell cells b count late dam lines body h arrives =
    let within : IsWithin (first.heard ++ h.heard) (far_first.sent ++ h.far_sent) =
    subst (λ (xs : List (List ℕ)). IsWithin (first.heard ++ h.heard) (far_first.sent ++ xs)) (sym h.far_flow.flight) (within-both first.heard far_first.sent h.heard _ h.past.within) in
    let executed = differ-within tns_of (filter is_command (first.heard ++ h.heard)) (filter is_command (far_first.sent ++ h.far_sent)) (within-filter is_command (first.heard ++ h.heard) (far_first.sent ++ h.far_sent) within) (commands-differ h.far_end.hosts h.far_end.few) in
    let sends : first.sent ++ h.sent ≡ (first.sent ++ h.far_heard) ++ body ∷ [] = ap (λ (xs : List (List ℕ)). first.sent ++ xs) arrives ∙ sym (append_assoc first.sent h.far_heard (body ∷ [])) in
    key-is-new h.end.hosts h.end.few executed (first.sent ++ h.far_heard) body sends b.end.receiver.kept h.kept

reach-good : (near far : Who) → AreTwo near far → (first far_first : Origin) (end : EndState NodeState) (cell : LaneCell) (cells : List LaneCell) (b : LineEndState) (count after : ℕ) (late : Late) (dam : Damages) (lines : List Line)
    → act_of_byte node_host b.end cell.byte ≡ act.Accept → (next 250 b.end.receiver.decoding cell.byte).1 ≡ Some hears.Good → end_of cell ≡ Some (lent_after b cell) → after ≡ 0 → (h : Flows near far first far_first (coming end cell cells b count) late dam lines) → h.sent ≡ h.far_heard ++ lent_after b cell ∷ []
    → Flows near far first far_first (reached end cell cells b after act.Accept) late (leaves dam) (lines ++ told_at far act.Accept b.end.sender b.end.host (lent_after b cell))
reach-good near far two first far_first end cell cells b count after late dam lines acts is ends none h arrives =
    let body = lent_after b cell in
    let place = answered_place b.end.host.initiator.issued body in
    record {
      sent = h.sent;
      heard = h.heard;
      far_sent = h.far_sent;
      far_heard = h.far_heard ++ body ∷ [];
      allowed = h.allowed;
      far_allowed = h.far_allowed;
      rooms = h.rooms;
      past = h.past;
      end = h.end;
      far_end = record {
        hosts = subst (λ (heard : List (List ℕ)). Hosts far_first.station (after_accept b.end.host body) (far_first.sent ++ h.far_sent) heard) (append_assoc far_first.heard h.far_heard (body ∷ []))
            (hosts-act act.Accept far_first.station b.end.host (far_first.sent ++ h.far_sent) (far_first.heard ++ h.far_heard) body h.far_end.hosts);
        sends = subst (λ (e : EndState NodeState). Sends e h.far_sent) (byte-acts node_host b.end cell.byte act.Accept acts) (sends-byte node_host b.end cell.byte h.far_end.sends);
        ahead = accepted-ahead near far first far_first end cell cells b count late dam lines body h arrives (is_reply body) refl;
        bodies = h.far_end.bodies;
        commands = subst AreBodies (sym (bodies-accept b.end.host body)) h.far_end.commands;
        allowed = allowed-accept h.far_allowed b.end.host body h.far_end.allowed;
        block = h.far_end.block;
        few = let same = byte-commands b.end cell.byte in subst (λ (x : EndState NodeState). length x.host.initiator.issued ≤ 65535) (byte-acts node_host b.end cell.byte act.Accept acts) (omega (arith, same, h.far_end.few));
      };
      marks = h.marks;
      far_marks = h.far_marks;
      damage = damage-leaves dam.a h.marks end.mouth.begun end.sender.limits.max_naks b.end.receiver.decoding _ (cell ∷ cells) cells h.damage;
      far_damage = far-stays dam.b h.far_marks b.end.mouth.begun (heard_by node_host b.end cell.byte act.Accept).mouth.begun b.end.sender.limits.max_naks end.receiver.decoding b.lane (begun-same (is_waiting (phase_of b.end.sender) && not (is_waiting (phase_of b.end.sender))) (offer b.end.mouth resp.Ack)) h.far_damage;
      flow = flow-accepted node_host end b.end cell cells b.lane h.sent h.far_heard late.a h.marks ends h.flow;
      far_flow = far-accepted node_host end b.end cell cells b.lane h.far_sent h.heard late.b h.far_marks is h.far_flow;
      kept = (body, subst (λ (xs : List (List ℕ)). Has xs body) (append_assoc first.sent h.far_heard (body ∷ [])) (get-last (first.sent ++ h.far_heard) body), refl);
      far_kept = h.far_kept;
      tells = tells-silent near (first.heard ++ h.heard) lines _ (none-accepted near far two.other body place (is_reply body)) h.tells;
      far_tells = subst (λ (heard : List (List ℕ)). TellsOf far heard (lines ++ told_at far act.Accept b.end.sender b.end.host body)) (append_assoc far_first.heard h.far_heard (body ∷ [])) (tells-accept far two.far_itself (far_first.heard ++ h.far_heard) lines body place (is_reply body) refl h.far_tells);
      honest = none;
    }

-- ---- whichever

-- no end is deceived from here on, or nothing was altered
abbrev pub IsSure : ℕ → Damages → Type 0
IsSure count dam = (count ≡ 0) ⊎ (dam.a.hits ≡ [])

-- a frame that is heard whole is the one that ends there
ends-so : (hits : ℕ) (d : Damage) (a : Activity) (h : Option Heard) (cell : LaneCell) (body lent : List ℕ) → hits ≡ hits_of d (length d.firsts) → h ≡ Some hears.Good → end_of cell ≡ Some body → (lent ≡ body) ⊎ May a hits → (deceptions (is_good h) cell.ends lent ≡ 0) ⊎ (d.hits ≡ []) → lent ≡ body
ends-so hits d a h cell body lent are good ends (inl same) sure = same
ends-so hits d a h cell body lent are good ends (inr may) (inl none) = honest-end h cell.ends lent body good ends none
ends-so hits d a h cell body lent are good ends (inr may) (inr none) = absurd (let zero : hits_of d (length d.firsts) ≡ 0 = rw none refl in omega (arith, may, are, zero))

pub flows-arrival : (near far : Who) → AreTwo near far → (first far_first : Origin) (end : EndState NodeState) (cell : LaneCell) (cells : List LaneCell) (b : LineEndState) (count : ℕ) (late : Late) (dam : Damages) (lines : List Line) → IsSure (count + deceptions_at b cell) dam
    → Flows near far first far_first (coming end cell cells b count) late dam lines → Flows near far first far_first (arrived end cell cells b (count + deceptions_at b cell)) late (leaves dam) (lines ++ cell_lines far b cell)
flows-arrival near far two first far_first end cell cells b count late dam lines sure h = elim (heard-cases (May end.sender.activity h.marks.hits) (end_of cell) heard body h.flow.clear.0.0) [
  | inl none ↦
      let acts = silent-act kept heard body room none in
      by-act act.Nothing acts (reach-silent near far first far_first end cell cells b count (count + deceptions_at b cell) late dam lines acts none (honest-sum (not-whole heard cell.ends body (ap is_good none))) h)
  | inr other ↦ elim other [
    | inl ack ↦
        let acts = ack-act kept heard body room ack in
        by-act act.PeerAck acts (reach-ack near far first far_first end cell cells b count (count + deceptions_at b cell) late dam lines acts ack (honest-sum (not-whole heard cell.ends body (ap is_good ack))) h)
    | inr more ↦ elim more [
      | inl nak ↦
          let acts = nak-act kept heard body room nak in
          by-act act.PeerNak acts (reach-nak near far first far_first end cell cells b count (count + deceptions_at b cell) late dam lines acts nak (honest-sum (not-whole heard cell.ends body (ap is_good nak))) h)
      | inr frame ↦ elim frame [
        | inl bad ↦
            let acts = bad-act kept heard body room bad in
            let ended = bad-end (May end.sender.activity h.marks.hits) (end_of cell) heard body bad h.flow.clear.0.0 in
            by-act act.Damaged acts (reach-damaged near far first far_first end cell cells b count (count + deceptions_at b cell) late dam lines acts bad ended.0 ended.1
            (λ marks t. (bad-end (May end.sender.activity marks.hits) (end_of cell) heard body bad t).2) (honest-sum (not-whole heard cell.ends body (ap is_good bad))) h)
        | inr good ↦
            let ended = good-end (May end.sender.activity h.marks.hits) (end_of cell) heard body good h.flow.clear.0.0 in
            let same = ends-so h.marks.hits dam.a end.sender.activity heard cell ended.0 body h.damage.hits_are good ended.1 ended.2 (no-more sure) in
            let ends : end_of cell ≡ Some body = ended.1 ∙ ap Some (sym same) in
            let arrives = good-arrives end b.end cell cells b.lane h.sent h.far_heard late.a h.marks ends h.flow in
            let acts = good-act kept heard body room good (new-key near far first far_first end cell cells b count late dam lines body h arrives) (has-room near far first far_first end cell cells b count late dam lines body h arrives (is_reply body) refl) in
            by-act act.Accept acts (reach-good near far two first far_first end cell cells b count (count + deceptions_at b cell) late dam lines acts good ends (honest-sum (whole-sent heard cell.ends body ends)) h arrives)
      ]
    ]
  ]
]
  where
    heard : Option Heard
    heard = (next 250 b.end.receiver.decoding cell.byte).1

    body : List ℕ
    body = lent_after b cell

    kept : Option Key
    kept = b.end.receiver.kept

    room : Bool
    room = has_room b.end.host body

    no-more : IsSure (count + deceptions_at b cell) dam → (deceptions (is_good heard) cell.ends body ≡ 0) ⊎ (dam.a.hits ≡ [])
    no-more (inl none) = inl (omega (arith, none))
    no-more (inr none) = inr none

    honest-sum : deceptions_at b cell ≡ 0 → count + deceptions_at b cell ≡ 0
    honest-sum none = omega (arith, none, h.honest)

    by-act : (what : Act) → act_of_byte node_host b.end cell.byte ≡ what → Flows near far first far_first (reached end cell cells b (count + deceptions_at b cell) what) late (leaves dam) (lines ++ told_at far what b.end.sender b.end.host (lent_after b cell))
        → Flows near far first far_first (arrived end cell cells b (count + deceptions_at b cell)) late (leaves dam) (lines ++ cell_lines far b cell)
    by-act what acts after = subst (λ (w : Act). Flows near far first far_first (reached end cell cells b (count + deceptions_at b cell) w) late (leaves dam) (lines ++ told_at far w b.end.sender b.end.host (lent_after b cell))) (sym acts) after
