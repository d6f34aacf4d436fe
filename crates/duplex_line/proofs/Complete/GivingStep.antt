-- A command is issued, and a byte is given, in a run that nothing disturbs.
use Rattle.std.proofs.Common.{◌≡◌, ◌∙◌, ℕ, ◌+◌, ◌-◌, ◌^◌, ◌<◌, ◌≤◌, Bool, true, false, List, [], ◌∷◌, ◌++◌, length, map, Option, Some, None, is_none, is_some, eqb, refl, ap, sym, subst, arith, append-nil, append_assoc, length-append}
use Rattle.std.specs.Prelude.{IsTrue, ◌&&◌, slice_index, option_to_list, unwrap_or, if◌then◌else◌}
use Rattle.std.specs.List.{filter}
use Rattle.std.specs.Option.{option_map, option_map_or}
use Rattle.std.specs.Int.{bit_at}
use Rattle.df1_base.specs.declared.link.Out.{Out}
use Rattle.duplex_sender.specs.declared.Phase.{Phase}
use Rattle.duplex_sender.specs.declared.Phase.TheVariants as phase
use Rattle.duplex_sender.specs.declared.Limits.{Limits}
use Rattle.duplex_sender.specs.Sender.{SenderState, phase_of, body_of, sent_last}
use Rattle.embedded_response.specs.Giving.{Giving, begin, chosen, take}
use Rattle.df1_node.specs.Initiator.{Issued, Waiting, next_issued}
use Rattle.df1_node.specs.Node.{NodeState, next_body, after_next, after_node_issue}
use Rattle.duplex_end.specs.End.{EndState, begun_at, begun_next, prepared, given_next, end_after_take, out_at_take, ends_here, after_out}
use Rattle.duplex_end.proofs.Choices.{is-chosen}
use Rattle.duplex_end.proofs.Joining.{take-sends}
use Rattle.duplex_end.proofs.Order.{end-is, out-is}
use Rattle.duplex_end.proofs.Runs.{take-receiver}
use Rattle.script_statement.specs.declared.who.Who.{Who}
use Rattle.script_statement.specs.Statements.{is_payload}
use Rattle.replay_report.specs.declared.record.Line.{Line}
use Rattle.lane_cells.specs.Cells.{LaneCell}
use Rattle.each_once.specs.NodeHost.{node_host}
use Rattle.lane_cells.specs.Cells.{cell_of}
use Rattle.duplex_line.specs.Acts.{LineState, LineEndState, Issue, Take, after_deed, after_take}
use Rattle.duplex_line.specs.Plays.{issued_by}
use Rattle.duplex_line.proofs.Once.IssueLimits.{take-commands}
use Rattle.duplex_line.proofs.Steps.NothingToGive.{take-none}
use Rattle.duplex_line.proofs.Once.SentMessages.{Sends, handed_in, handed_at, sends-host, sends-take, prepared-sends, ends-begun, take-host, take-handed}
use Rattle.each_once.proofs.HandedOut.{is_command, Hosts}
use Rattle.each_once.proofs.NodeSteps.{hosts-issue}
use Rattle.each_once.proofs.CommandBodies.{bodies-next}
use Rattle.duplex_line.proofs.Once.EndSteps.{hosts-handed}
use Rattle.duplex_line.specs.Prompt.{Late}
use Rattle.duplex_line.specs.Recoverable.{Damage, Damages, hits_of, with_take, AreFewHits}
use Rattle.duplex_line.proofs.Complete.DecoderPlace.{quiet-left}
use Rattle.duplex_line.proofs.Complete.DamageDone.{IsDamage, damage-gives, damage-rests, damage-again, damage-new}
use Rattle.duplex_line.proofs.Complete.QuietEnd.{gives-nothing}
use Rattle.duplex_line.proofs.Complete.MessageUnderWay.{Flow, Marks, May, awaits, awaits-idle, awaits-sending, gave, take-begun, flow-transmits, flow-loads, flow-gives, flow-back, flow-host, far-host}
use Rattle.each_once.proofs.CommandsUnderWay.{under-way-issue}
use Rattle.each_once.proofs.MessageLengths.{AreBodies, issued-fits, next-fits, bodies-push, bodies-last}
use Rattle.duplex_line.proofs.Once.Settings.{Allowance, IsAllowed, allowed-handed}
use Rattle.duplex_line.proofs.Complete.Invariant.{Origin, station_from, is_later, IsAhead, HostsSince, IsEnd, Flows, heard-bodies, replies-of, ahead-next}
use Rattle.each_once.proofs.Sublists.{none-is}

-- ---- a command is issued

pub flows-issue : (near far : Who) (first far_first : Origin) (s : LineState) (late : Late) (dam : Damages) (lines : List Line) (src : Option ℕ) (dst : ℕ) (payload : List ℕ) → IsTrue (is_payload payload) → eqb (bit_at (slice_index payload 0) 6) 1 ≡ false → issued_by s.a < 65535
    → Flows near far first far_first s late dam lines → Flows near far first far_first (after_deed s (Issue src dst payload)) late dam lines
flows-issue near far first far_first s late dam lines src dst payload may command few h =
    let node = s.a.end.host in
    let source = unwrap_or src node.initiator.node in
    let new : Issued = record { body = next_issued node.initiator source dst payload; standing = Waiting } in
    let after = after_node_issue node source dst payload in
    record {
      sent = h.sent;
      heard = h.heard;
      far_sent = h.far_sent;
      far_heard = h.far_heard;
      allowed = h.allowed;
      far_allowed = h.far_allowed;
      rooms = h.rooms;
      past = h.past;
      end = record {
        hosts = hosts-issue h.end.hosts source dst payload command few;
        sends = sends-host s.a.end after h.end.sends;
        ahead = record { done = h.end.ahead.done; under_way = under-way-issue (is_later first) node.initiator source dst payload (filter is_command h.sent) h.end.ahead.done _ h.end.ahead.under_way; answers = h.end.ahead.answers };
        bodies = h.end.bodies;
        commands = issued-fits node.initiator source dst payload h.end.commands may;
        allowed = record { room = h.end.allowed.room; window = h.end.allowed.window; per_source = h.end.allowed.per_source };
        block = h.end.block;
        few = omega (arith, length-append node.initiator.issued (new ∷ []), few);
      };
      far_end = h.far_end;
      marks = h.marks;
      far_marks = h.far_marks;
      flow = flow-host s.a.end s.b.end after s.a.lane s.b.lane h.sent h.far_heard late.a h.marks h.flow;
      far_flow = far-host s.a.end s.b.end after s.b.lane s.a.lane h.far_sent h.heard late.b h.far_marks h.far_flow;
      kept = h.kept;
      far_kept = h.far_kept;
      damage = h.damage;
      far_damage = h.far_damage;
      tells = h.tells;
      far_tells = h.far_tells;
      honest = h.honest;
    }

-- ---- a frame is begun

-- the message that is handed out, by what the sender does
abbrev new_of : Phase → Option (List ℕ) → Option (List ℕ)
new_of p next = elim p [ phase.Idle ↦ next | phase.Sending ↦ None | phase.Waiting ↦ None ]

-- the damage with it, whose first transmission has this number
abbrev with_new : Bool → Option (List ℕ) → ℕ → Damage → Damage
with_new idle new begun d = if idle && is_some new then record d { firsts = d.firsts ++ begun ∷ [] } else d

-- an end that may have begun a frame
record HasBegun (x b : EndState NodeState) (lane back : List LaneCell) (sent heard : List (List ℕ)) (late : ℕ) (d : Damage) (most : ℕ) : Type 0 where
  marks : Marks
  flow : Flow x b lane back sent heard late marks
  damage : IsDamage d marks x.mouth.begun most b.receiver.decoding lane

begun-next : (g : Giving) (body : List ℕ) → g.begun < 2 ^ 64 - 1 → (begin g body).begun ≡ g.begun + 1
begun-next g body small = omega (arith, small)

-- where nothing is chosen and the sender doesn't wait, no touched cell is in the lane
rests-now : (e b : EndState NodeState) (lane back : List LaneCell) (sent heard : List (List ℕ)) (late : ℕ) (d : Damage) (marks : Marks) (most : ℕ) → chosen e.mouth ≡ None → awaits e.sender.activity ≡ 0 → Flow e b lane back sent heard late marks → IsDamage d marks e.mouth.begun most b.receiver.decoding lane → d.touched ≡ true → ⊥
rests-now e b lane back sent heard late d marks most none awaited f h =
    damage-rests (May e.sender.activity marks.hits) d marks e.mouth.begun most b.receiver.decoding lane e.mouth e.sending (omega (arith, f.responses, awaited)) (quiet-left e.mouth none) f.clear h

flow-begun : (e b : EndState NodeState) (lane back : List LaneCell) (sent heard : List (List ℕ)) (late : ℕ) (d : Damage) (marks : Marks) (most : ℕ) (p : Phase) (next : Option (List ℕ)) → phase_of e.sender ≡ p → chosen e.mouth ≡ None → e.mouth.begun < 2 ^ 64 - 1
    → ((body : List ℕ) → next ≡ Some body → (6 ≤ length body) × (length body ≤ 250)) → (p ≡ phase.Sending → (6 ≤ length (body_of e.sender)) × (length (body_of e.sender) ≤ 250))
    → (let after = with_new true (new_of p next) (begun_at node_host e p next).mouth.begun d in hits_of after (length after.firsts) ≤ most) → Flow e b lane back sent heard late marks → IsDamage d marks e.mouth.begun most b.receiver.decoding lane
    → HasBegun (begun_at node_host e p next) b lane back (sent ++ option_to_list (handed_in p next)) heard late (with_new true (new_of p next) (begun_at node_host e p next).mouth.begun d) most
flow-begun e b lane back sent heard late d marks most phase.Idle None is none small next_fits fits few f h = rw (append-nil sent) (record { marks = marks; flow = f; damage = h })
flow-begun e b lane back sent heard late d marks most phase.Idle (Some body) is none small next_fits fits few f h =
    let fit = next_fits body refl in
    let number = (begin e.mouth body).begun in
    let more = begun-next e.mouth body small in
    let D : ℕ → Damage = λ n. record d { firsts = d.firsts ++ n ∷ [] } in
    let H : ℕ → ℕ = λ n. hits_of (D n) (length (D n).firsts) in
    let fewer : H (e.mouth.begun + 1) ≤ most = subst (λ (n : ℕ). H n ≤ most) more few in
    let rests = rests-now e b lane back sent heard late d marks most none (awaits-idle e.sender.activity e.sender.limits is) f h in
    let loaded = flow-loads e b lane back sent heard late marks (H number) body (after_next e.host) none is f in
    record {
      marks = record { hits = H number; last_hit = false };
      flow = flow-transmits _ b lane back (sent ++ body ∷ []) heard late (record { hits = H number; last_hit = marks.last_hit }) body none refl fit.0 fit.1 loaded;
      damage = subst (λ (n : ℕ). IsDamage (D n) (record { hits = H n; last_hit = false }) n most b.receiver.decoding lane) (sym more) (damage-new d marks e.mouth.begun most b.receiver.decoding lane rests fewer h);
    }
flow-begun e b lane back sent heard late d marks most phase.Sending next is none small next_fits fits few f h =
    let fit = fits refl in
    let more = begun-next e.mouth (body_of e.sender) small in
    let rests = rests-now e b lane back sent heard late d marks most none (awaits-sending e.sender.activity e.sender.limits is) f h in
    rw (append-nil sent) (record {
      marks = record { hits = marks.hits; last_hit = false };
      flow = flow-transmits e b lane back sent heard late marks (body_of e.sender) none is fit.0 fit.1 f;
      damage = subst (λ (n : ℕ). IsDamage d (record { hits = marks.hits; last_hit = false }) n most b.receiver.decoding lane) (sym more) (damage-again d marks e.mouth.begun most b.receiver.decoding lane rests h);
    })
flow-begun e b lane back sent heard late d marks most phase.Waiting next is none small next_fits fits few f h = rw (append-nil sent) (record { marks = marks; flow = f; damage = h })

-- the other direction
record FarBegun (x b : EndState NodeState) (lane back : List LaneCell) (sent heard : List (List ℕ)) (late : ℕ) (d : Damage) (marks : Marks) (most : ℕ) : Type 0 where
  flow : Flow b x lane back sent heard late marks
  damage : IsDamage d marks b.mouth.begun most x.receiver.decoding lane

far-begun : (e b : EndState NodeState) (lane back : List LaneCell) (sent heard : List (List ℕ)) (late : ℕ) (d : Damage) (marks : Marks) (most : ℕ) (p : Phase) (next : Option (List ℕ)) → FarBegun e b lane back sent heard late d marks most → FarBegun (begun_at node_host e p next) b lane back sent heard late d marks most
far-begun e b lane back sent heard late d marks most phase.Idle None f = f
far-begun e b lane back sent heard late d marks most phase.Idle (Some body) f = record { flow = record { clear = f.flow.clear; responses = f.flow.responses; bodies = f.flow.bodies; flight = f.flow.flight; patient = f.flow.patient; spent = f.flow.spent; struck = f.flow.struck; given = f.flow.given }; damage = f.damage }
far-begun e b lane back sent heard late d marks most phase.Sending next f = record { flow = record { clear = f.flow.clear; responses = f.flow.responses; bodies = f.flow.bodies; flight = f.flow.flight; patient = f.flow.patient; spent = f.flow.spent; struck = f.flow.struck; given = f.flow.given }; damage = f.damage }
far-begun e b lane back sent heard late d marks most phase.Waiting next f = f

flow-prepared : (e b : EndState NodeState) (lane back : List LaneCell) (sent heard : List (List ℕ)) (late : ℕ) (d : Damage) (marks : Marks) (most : ℕ) (idle : Bool) → is_none (chosen e.mouth) ≡ idle → e.mouth.begun < 2 ^ 64 - 1
    → ((body : List ℕ) → next_body e.host ≡ Some body → (6 ≤ length body) × (length body ≤ 250)) → (phase_of e.sender ≡ phase.Sending → (6 ≤ length (body_of e.sender)) × (length (body_of e.sender) ≤ 250))
    → (let after = with_new idle (new_of (phase_of e.sender) (next_body e.host)) (if idle then begun_next node_host e else e).mouth.begun d in hits_of after (length after.firsts) ≤ most) → Flow e b lane back sent heard late marks → IsDamage d marks e.mouth.begun most b.receiver.decoding lane
    → HasBegun (if idle then begun_next node_host e else e) b lane back (sent ++ option_to_list (if idle then handed_in (phase_of e.sender) (next_body e.host) else None)) heard late (with_new idle (new_of (phase_of e.sender) (next_body e.host)) (if idle then begun_next node_host e else e).mouth.begun d) most
flow-prepared e b lane back sent heard late d marks most true is small next_fits fits few f h = flow-begun e b lane back sent heard late d marks most (phase_of e.sender) (next_body e.host) refl (none-is (chosen e.mouth) is) small next_fits fits few f h
flow-prepared e b lane back sent heard late d marks most false is small next_fits fits few f h = rw (append-nil sent) (record { marks = marks; flow = f; damage = h })

far-prepared : (e b : EndState NodeState) (lane back : List LaneCell) (sent heard : List (List ℕ)) (late : ℕ) (d : Damage) (marks : Marks) (most : ℕ) (idle : Bool) → FarBegun e b lane back sent heard late d marks most → FarBegun (if idle then begun_next node_host e else e) b lane back sent heard late d marks most
far-prepared e b lane back sent heard late d marks most true f = far-begun e b lane back sent heard late d marks most (phase_of e.sender) (next_body e.host) f
far-prepared e b lane back sent heard late d marks most false f = f

-- the limits of a sender stay
begun-limits : (e : EndState NodeState) (p : Phase) (next : Option (List ℕ)) → (begun_at node_host e p next).sender.limits ≡ e.sender.limits
begun-limits e phase.Idle None = refl
begun-limits e phase.Idle (Some body) = refl
begun-limits e phase.Sending next = refl
begun-limits e phase.Waiting next = refl

prepared-limits : (e : EndState NodeState) (idle : Bool) → (if idle then begun_next node_host e else e).sender.limits ≡ e.sender.limits
prepared-limits e true = begun-limits e (phase_of e.sender) (next_body e.host)
prepared-limits e false = refl

out-limits : (s : SenderState) (ends : Bool) → (if ends then sent_last s else s).limits ≡ s.limits
out-limits s true = refl
out-limits s false = refl

pub take-limits : (e : EndState NodeState) → (end_after_take node_host e).sender.limits ≡ e.sender.limits
take-limits e =
    let p = prepared node_host e in
    ap (λ (x : EndState NodeState). x.sender.limits) (end-is node_host e) ∙ out-limits p.sender (ends_here (take p.mouth).1) ∙ prepared-limits e (is_none (chosen e.mouth))

-- as many transmissions have begun as before the byte is given
pub take-transmissions : (e : EndState NodeState) → (end_after_take node_host e).mouth.begun ≡ (prepared node_host e).mouth.begun
take-transmissions e = ap (λ (x : EndState NodeState). x.mouth.begun) (end-is node_host e) ∙ take-begun (prepared node_host e).mouth

-- ---- a byte is given

-- what is next to be sent is a body
next-body-fits : (near far : Who) (first far_first : Origin) (s : LineState) (late : Late) (dam : Damages) (lines : List Line) → (h : Flows near far first far_first s late dam lines) → (body : List ℕ) → next_body s.a.end.host ≡ Some body → (6 ≤ length body) × (length body ≤ 250)
next-body-fits near far first far_first s late dam lines h body next =
    next-fits (station_from first) s.a.end.host h.sent h.heard (replies-of first s.a.end.host h.sent h.heard h.past.even h.end.hosts) h.end.block (heard-bodies h.far_sent h.heard _ h.far_end.bodies h.far_flow.flight) h.end.commands body next

current-fits : (e : EndState NodeState) (sent : List (List ℕ)) → Sends e sent → AreBodies sent → phase_of e.sender ≡ phase.Sending → (6 ≤ length (body_of e.sender)) × (length (body_of e.sender) ≤ 250)
current-fits e sent sends bodies is =
    let last = sends.current (λ idle. let no : phase.Sending ≡ phase.Idle = sym is ∙ idle in cc) in
    bodies-last last.0 (body_of e.sender) (subst AreBodies last.1 bodies)

handed-bodies : (sent : List (List ℕ)) (o : Option (List ℕ)) → AreBodies sent → ((body : List ℕ) → o ≡ Some body → (6 ≤ length body) × (length body ≤ 250)) → AreBodies (sent ++ option_to_list o)
handed-bodies sent None bodies fits = rw (append-nil sent) bodies
handed-bodies sent (Some body) bodies fits = let fit = fits body refl in bodies-push sent body bodies fit.0 fit.1

handed-ahead : (o : Option (List ℕ)) (first : Origin) (node : NodeState) (sent heard : List (List ℕ)) (late : ℕ) → length node.initiator.issued ≤ 65535 → ((body : List ℕ) → o ≡ Some body → next_body node ≡ Some body) → HostsSince first node sent heard → IsAhead first node.initiator (filter is_command sent) heard late
    → IsAhead first (option_map_or (λ (body : List ℕ). after_next node) o node).initiator (filter is_command (sent ++ option_to_list o)) heard late
handed-ahead None first node sent heard late few next h a = rw (append-nil sent) a
handed-ahead (Some body) first node sent heard late few next h a = ahead-next first node body sent heard late few (next body refl) h a

handed-since : (o : Option (List ℕ)) (first : Origin) (node : NodeState) (sent heard : List (List ℕ)) → ((body : List ℕ) → o ≡ Some body → next_body node ≡ Some body) → HostsSince first node sent heard → HostsSince first (option_map_or (λ (body : List ℕ). after_next node) o node) (sent ++ option_to_list o) heard
handed-since o first node sent heard next h =
    subst (λ (messages : List (List ℕ)). Hosts first.station (option_map_or (λ (body : List ℕ). after_next node) o node) messages (first.heard ++ heard)) (append_assoc first.sent sent (option_to_list o))
    (hosts-handed o first.station node (first.sent ++ sent) (first.heard ++ heard) next h)

handed-commands : (o : Option (List ℕ)) (node : NodeState) → map (λ c. c.body) (option_map_or (λ (body : List ℕ). after_next node) o node).initiator.issued ≡ map (λ c. c.body) node.initiator.issued
handed-commands None node = refl
handed-commands (Some body) node = bodies-next node

-- the end that gives it
gave-end : (first : Origin) (allowed : Allowance) (e : EndState NodeState) (sent heard : List (List ℕ)) (late : ℕ) → ((body : List ℕ) → next_body e.host ≡ Some body → (6 ≤ length body) × (length body ≤ 250)) → IsEnd first allowed e sent heard late
    → IsEnd first allowed (end_after_take node_host e) (sent ++ option_to_list (handed_at node_host e)) heard late
gave-end first allowed e sent heard late fits h =
    let o = handed_at node_host e in
    let host = option_map_or (λ (body : List ℕ). after_next e.host) o e.host in
    let is_host : host ≡ (end_after_take node_host e).host = sym (take-host node_host e) in
    record {
      hosts = subst (λ (node : NodeState). HostsSince first node (sent ++ option_to_list o) heard) is_host (handed-since o first e.host sent heard (λ body is. take-handed node_host e body is) h.hosts);
      sends = sends-take node_host e h.sends;
      ahead = subst (λ (node : NodeState). IsAhead first node.initiator (filter is_command (sent ++ option_to_list o)) heard late) is_host (handed-ahead o first e.host sent heard late h.few (λ body is. take-handed node_host e body is) h.hosts h.ahead);
      bodies = handed-bodies sent o h.bodies (λ body is. fits body (take-handed node_host e body is));
      commands = subst (λ (node : NodeState). AreBodies (map (λ c. c.body) node.initiator.issued)) is_host (subst AreBodies (sym (handed-commands o e.host)) h.commands);
      allowed = subst (λ (node : NodeState). IsAllowed allowed node) is_host (allowed-handed o allowed e.host h.allowed);
      block = h.block;
      few = let same = take-commands e in omega (arith, same, h.few);
    }

-- both directions
record GoOn (x b : EndState NodeState) (lane back : List LaneCell) (out : Out) (sent far_heard far_sent heard : List (List ℕ)) (late far_late : ℕ) (d far_d : Damage) (far_marks : Marks) (most far_most : ℕ) : Type 0 where
  marks : Marks
  flow : Flow x b (lane ++ cell_of x.sending out ∷ []) back sent far_heard late marks
  far_flow : Flow b x back (lane ++ cell_of x.sending out ∷ []) far_sent heard far_late far_marks
  damage : IsDamage d marks x.mouth.begun most b.receiver.decoding (lane ++ cell_of x.sending out ∷ [])
  far_damage : IsDamage far_d far_marks b.mouth.begun far_most x.receiver.decoding back

gave-flow : (e b : EndState NodeState) (lane back : List LaneCell) (sent heard far_sent far_heard : List (List ℕ)) (late far_late : ℕ) (d far_d : Damage) (marks far_marks : Marks) (most far_most : ℕ) (out : Out) → out_at_take node_host e ≡ Some out → Sends e sent → e.mouth.begun < 2 ^ 64 - 1
    → ((body : List ℕ) → next_body e.host ≡ Some body → (6 ≤ length body) × (length body ≤ 250)) → AreBodies sent
    → (let after = with_new (is_none (chosen e.mouth)) (new_of (phase_of e.sender) (next_body e.host)) (end_after_take node_host e).mouth.begun d in hits_of after (length after.firsts) ≤ most)
    → Flow e b lane back sent far_heard late marks → Flow b e back lane far_sent heard far_late far_marks → IsDamage d marks e.mouth.begun most b.receiver.decoding lane → IsDamage far_d far_marks b.mouth.begun far_most e.receiver.decoding back
    → GoOn (end_after_take node_host e) b lane back out (sent ++ option_to_list (handed_at node_host e)) far_heard far_sent heard late far_late (with_new (is_none (chosen e.mouth)) (new_of (phase_of e.sender) (next_body e.host)) (end_after_take node_host e).mouth.begun d) far_d far_marks most far_most
gave-flow e b lane back sent heard far_sent far_heard late far_late d far_d marks far_marks most far_most out is sends small next_fits bodies few f far h far_h =
    let p = prepared node_host e in
    let idle = is_none (chosen e.mouth) in
    let new = new_of (phase_of e.sender) (next_body e.host) in
    let same = take-transmissions e in
    let D : ℕ → Damage = λ n. with_new idle new n d in
    let fewer : hits_of (D p.mouth.begun) (length (D p.mouth.begun).firsts) ≤ most = subst (λ (n : ℕ). hits_of (D n) (length (D n).firsts) ≤ most) same few in
    let now = flow-prepared e b lane back sent far_heard late d marks most idle refl small next_fits (current-fits e sent sends bodies) fewer f h in
    let far_now = far-prepared e b back lane far_sent heard far_late far_d far_marks far_most idle (record { flow = far; damage = far_h }) in
    let s = prepared-sends node_host e idle sends in
    let takes : (take p.mouth).1 ≡ Some out = sym (out-is node_host e) ∙ is in
    let gives = flow-gives p b lane back (sent ++ option_to_list (handed_at node_host e)) far_heard late now.marks out takes
    (λ ends. take-sends p.mouth p.sender s.joined (subst (λ (o : Option Out). IsTrue (ends_here o)) (sym takes) ends))
    (λ ends. s.begun (ends-begun p.mouth p.sender (chosen p.mouth) s.joined (is-chosen p.mouth) (subst (λ (o : Option Out). IsTrue (ends_here o)) (sym takes) ends))) now.flow in
    let given : given_next p ≡ gave p out = ap (λ (o : Option Out). let g : EndState NodeState = record { receiver = p.receiver; sender = after_out o p.sender; mouth = (take p.mouth).0; sending = p.sending; host = p.host } in g) takes in
    let Goes : EndState NodeState → Type 0 = λ x. GoOn x b lane back out (sent ++ option_to_list (handed_at node_host e)) far_heard far_sent heard late far_late (D p.mouth.begun) far_d far_marks most far_most in
    let damage = subst (λ (n : ℕ). IsDamage (D p.mouth.begun) now.marks n most b.receiver.decoding (lane ++ cell_of p.sending out ∷ [])) (sym (take-begun p.mouth)) (damage-gives (D p.mouth.begun) now.marks p.mouth.begun most b.receiver.decoding lane (cell_of p.sending out) now.damage) in
    let on : Goes (gave p out) = record {
      marks = now.marks;
      flow = gives;
      far_flow = flow-back (May p.sender.activity now.marks.hits) p b back lane far_sent heard far_late far_marks out takes now.flow.clear far_now.flow;
      damage = damage;
      far_damage = far_now.damage;
    } in
    subst (λ (n : ℕ). GoOn (end_after_take node_host e) b lane back out (sent ++ option_to_list (handed_at node_host e)) far_heard far_sent heard late far_late (D n) far_d far_marks most far_most) (sym same) (subst Goes (sym (end-is node_host e ∙ given)) on)

-- the damage after a take
abbrev taken_damage : LineState → Damages → Damages
taken_damage s dam = record { a = with_take s.a (after_take s.a) dam.a; b = dam.b }

take-some : (near far : Who) (first far_first : Origin) (s : LineState) (late : Late) (dam : Damages) (lines : List Line) (out : Out) → out_at_take node_host s.a.end ≡ Some out → s.a.end.mouth.begun < 2 ^ 64 - 1 → AreFewHits (after_take s.a) (with_take s.a (after_take s.a) dam.a) → Flows near far first far_first s late dam lines
    → Flows near far first far_first (record { a = record { end = end_after_take node_host s.a.end; lane = s.a.lane ++ cell_of (end_after_take node_host s.a.end).sending out ∷ [] }; b = s.b; deceived = s.deceived }) late (taken_damage s dam) lines
take-some near far first far_first s late dam lines out is small few h =
    let fits = next-body-fits near far first far_first s late dam lines h in
    let most = (end_after_take node_host s.a.end).sender.limits.max_naks in
    let same : s.a.end.sender.limits.max_naks ≡ most = ap (λ (l : Limits). l.max_naks) (sym (take-limits s.a.end)) in
    let damage = subst (λ (n : ℕ). IsDamage dam.a h.marks s.a.end.mouth.begun n s.b.end.receiver.decoding s.a.lane) same h.damage in
    let both = gave-flow s.a.end s.b.end s.a.lane s.b.lane h.sent h.heard h.far_sent h.far_heard late.a late.b dam.a dam.b h.marks h.far_marks most s.b.end.sender.limits.max_naks out is h.end.sends small fits h.end.bodies
    (few (length (with_take s.a (after_take s.a) dam.a).firsts)) h.flow h.far_flow damage h.far_damage in
    record {
      sent = h.sent ++ option_to_list (handed_at node_host s.a.end);
      heard = h.heard;
      far_sent = h.far_sent;
      far_heard = h.far_heard;
      allowed = h.allowed;
      far_allowed = h.far_allowed;
      rooms = h.rooms;
      past = h.past;
      end = gave-end first h.allowed s.a.end h.sent h.heard late.a fits h.end;
      far_end = h.far_end;
      marks = both.marks;
      far_marks = h.far_marks;
      flow = both.flow;
      far_flow = both.far_flow;
      kept = h.kept;
      far_kept = rw (take-receiver node_host s.a.end) h.far_kept;
      damage = both.damage;
      far_damage = both.far_damage;
      tells = h.tells;
      far_tells = h.far_tells;
      honest = h.honest;
    }

-- an end that gives nothing hands no message out
new-none : (p : Phase) (next : Option (List ℕ)) → ((p ≡ phase.Waiting → ⊥) → (p ≡ phase.Idle) × (next ≡ None)) → is_some (new_of p next) ≡ false
new-none phase.Idle next idle = let none = (idle (λ e. cc)).1 in rw none refl
new-none phase.Sending next idle = refl
new-none phase.Waiting next idle = refl

gives-no-message : (e : EndState NodeState) (idle : Bool) (n : ℕ) (d : Damage) → out_at_take node_host e ≡ None → with_new idle (new_of (phase_of e.sender) (next_body e.host)) n d ≡ d
gives-no-message e idle n d none =
    let gives = gives-nothing node_host e none in
    let no_new = new-none (phase_of e.sender) (next_body e.host) gives.idle in
    by-test idle (is_some (new_of (phase_of e.sender) (next_body e.host))) no_new
  where
    by-test : (idle new : Bool) → new ≡ false → (if idle && new then record d { firsts = d.firsts ++ n ∷ [] } else d) ≡ d
    by-test true true is = absurd cc
    by-test true false is = refl
    by-test false new is = refl

take-by : (near far : Who) (first far_first : Origin) (s : LineState) (late : Late) (dam : Damages) (lines : List Line) (o : Option Out) → out_at_take node_host s.a.end ≡ o → s.a.end.mouth.begun < 2 ^ 64 - 1 → AreFewHits (after_take s.a) (with_take s.a (after_take s.a) dam.a) → Flows near far first far_first s late dam lines → Flows near far first far_first (after_deed s Take) late (taken_damage s dam) lines
take-by near far first far_first s late dam lines None is small few h =
    let same : after_take s.a ≡ s.a = take-none s.a (ap (option_map (λ (out : Out). out.byte)) is) in
    let none : with_take s.a (after_take s.a) dam.a ≡ dam.a = gives-no-message s.a.end (is_none (chosen s.a.end.mouth)) (after_take s.a).end.mouth.begun dam.a is in
    subst (λ (d : Damage). Flows near far first far_first (record { a = after_take s.a; b = s.b; deceived = s.deceived }) late (record { a = d; b = dam.b }) lines) (sym none)
    (subst (λ (a : LineEndState). Flows near far first far_first (record { a = a; b = s.b; deceived = s.deceived }) late dam lines) (sym same) h)
take-by near far first far_first s late dam lines (Some out) is small few h =
    subst (λ (o : Option Out). Flows near far first far_first (record { a = record { end = end_after_take node_host s.a.end; lane = s.a.lane ++ option_to_list (option_map (cell_of (end_after_take node_host s.a.end).sending) o) }; b = s.b; deceived = s.deceived }) late (taken_damage s dam) lines) (sym is)
    (take-some near far first far_first s late dam lines out is small few h)

pub flows-take : (near far : Who) (first far_first : Origin) (s : LineState) (late : Late) (dam : Damages) (lines : List Line) → s.a.end.mouth.begun < 2 ^ 64 - 1 → AreFewHits (after_take s.a) (with_take s.a (after_take s.a) dam.a) → Flows near far first far_first s late dam lines → Flows near far first far_first (after_deed s Take) late (record { a = with_take s.a (after_take s.a) dam.a; b = dam.b }) lines
flows-take near far first far_first s late dam lines small few h = take-by near far first far_first s late dam lines (out_at_take node_host s.a.end) refl small few h
