-- At each point of a run, of one end: what it gave is DF1, and its messages are its own.
use Rattle.std.proofs.Common.{◌≡◌, ◌∙◌, ℕ, ◌<◌, ◌≤◌, true, List, [], ◌++◌, length, map, Option, Some, None, is_none, refl, sym, ap, subst, append-nil, option_map}
use Rattle.std.specs.Prelude.{IsTrue, option_to_list, unwrap_or, if◌then◌else◌}
use Rattle.std.specs.Option.{option_map_or}
use Rattle.std.specs.List.{filter}
use Rattle.std.proofs.lemmas.List.Elements.{All-nil}
use Rattle.df1_base.specs.declared.host.Fate.{Fate}
use Rattle.df1_base.specs.declared.link.Act.{Act}
use Rattle.df1_base.specs.declared.link.Out.{Out}
use Rattle.df1_base.specs.HostAnswers.{did_at}
use Rattle.df1_check.specs.declared.Check.{Check}
use Rattle.df1_node.specs.Answer.{StationState}
use Rattle.df1_node.specs.HostLaws.{next_is_body, bodies_at_accept, bodies_at_next, bodies_at_told, bodies_at_tick}
use Rattle.df1_node.specs.Node.{NodeState, after_next, after_node_issue}
use Rattle.duplex_sender.specs.declared.Phase.{Phase}
use Rattle.duplex_sender.specs.declared.Phase.TheVariants as phase
use Rattle.duplex_sender.specs.Sender.{SenderState, phase_of, tick_turn}
use Rattle.embedded_response.specs.Giving.{Choice, chosen}
use Rattle.duplex_end.specs.declared.Setup.{Setup}
use Rattle.duplex_end.specs.End.{EndState, Place, new_end, end_after_take, out_at_take, next_place, act_of_byte, fate_at, fate_of_tick, host_at_byte}
use Rattle.duplex_end.specs.Emission.{Byte, Tick, Take}
use Rattle.duplex_end.specs.Fates.{handed_out, told}
use Rattle.duplex_end.specs.Moves.{messages_of}
use Rattle.duplex_end.specs.Reached.{Reached, begins, goes_on, changes}
use Rattle.duplex_end.proofs.Order.{place_after, frame_at, next-is}
use Rattle.duplex_end.proofs.Reaching.{KeepsBodies, reached-carries}
use Rattle.duplex_end.proofs.OnWire.{OnWire, signal-on-wire, host-on-wire, new-on-wire}
use Rattle.script_statement.specs.declared.who.Who.{Who}
use Rattle.script_statement.specs.Statements.{is_payload}
use Rattle.replay_report.specs.declared.record.Line.{Line}
use Rattle.each_once.specs.NodeHost.{node_host}
use Rattle.each_once.specs.Tells.{is_who, executed_in, executed_at}
use Rattle.each_once.proofs.HandedOut.{is_command, Hosts}
use Rattle.each_once.proofs.MessageLengths.{issue-holds}
use Rattle.each_once.proofs.NodeSteps.{hosts-issue, hosts-tick, hosts-start}
use Rattle.each_once.proofs.SentAndExecuted.{ExecuteNothing, step-own}
use Rattle.each_once.proofs.ToldLines.{adds-none}
use Rattle.lane_cells.specs.Cells.{LaneCell}
use Rattle.duplex_line.specs.Acts.{LineEndState, Deed, Issue as Issues, Take as Takes, Deliver, Lose, Alter, Foreign, Tick as Ticks, near_after, after_issue, after_cell, after_arrival, given_at, near_lines, cell_lines, arrival_lines, step_of, body_heard}
use Rattle.duplex_line.specs.Plays.{issued_by}
use Rattle.duplex_line.proofs.Once.EndSteps.{heard_after, hosts-act, hosts-fate, hosts-handed}
use Rattle.duplex_line.proofs.Once.LineSteps.{payload-command}
use Rattle.duplex_line.proofs.Once.SentMessages.{handed_in, handed_at, take-host, take-handed}
use Rattle.duplex_line.proofs.Wire.SilentLines.{near-executes, commands-heard}

pub node_keeps : KeepsBodies node_host
node_keeps = record { next_is = next_is_body; at_accept = bodies_at_accept; at_next = bodies_at_next; at_told = bodies_at_told; at_tick = bodies_at_tick }

-- an end that gave these bytes, of which the lines tell what it executed
pub record Gave (who : Who) (check : Check) (first : StationState) (side : LineEndState) (lines : List Line) (bytes : List ℕ) : Type 0 where
  pub messages : List (List ℕ)
  pub heard : List (List ℕ)
  pub on_wire : OnWire check messages bytes side.end
  pub hosts : Hosts first side.end.host messages heard
  pub executed : executed_in who lines ≡ filter is_command heard
  pub reached : Reached node_host side.end

-- ---- what is handed out at a take

handed-frame : (s : SenderState) (at : Phase) (next : Option (List ℕ)) → messages_of (handed_out (frame_at s at next)) ≡ option_to_list (handed_in at next)
handed-frame s phase.Idle None = refl
handed-frame s phase.Idle (Some body) = refl
handed-frame s phase.Sending next = refl
handed-frame s phase.Waiting next = refl

handed-place : (c : Option Choice) (s : SenderState) (at : Phase) (next : Option (List ℕ)) → messages_of (handed_out (place_after c (frame_at s at next))) ≡ option_to_list (if is_none c then handed_in at next else None)
handed-place None s at next = handed-frame s at next
handed-place (Some choice) s at next = refl

handed-is : (e : EndState NodeState) → messages_of (handed_out (next_place node_host e)) ≡ option_to_list (handed_at node_host e)
handed-is e = ap (λ (p : Option Place). messages_of (handed_out p)) (next-is node_host e) ∙ handed-place (chosen e.mouth) e.sender (phase_of e.sender) (node_host.next_body e.host)

-- where a fate is told, no message is handed out
told-none : (fate : Option Fate) → messages_of (told fate) ≡ []
told-none None = refl
told-none (Some what) = refl

-- ---- the end's own steps

-- lines that tell of no command that the end executed
gave-silent : (who : Who) (check : Check) (first : StationState) (side : LineEndState) (lines more : List Line) (bytes : List ℕ) → ExecuteNothing who more → Gave who check first side lines bytes → Gave who check first side (lines ++ more) bytes
gave-silent who check first side lines more bytes none g = record {
  messages = g.messages;
  heard = g.heard;
  on_wire = g.on_wire;
  hosts = g.hosts;
  executed = adds-none (executed_at who) lines more none ∙ g.executed;
  reached = g.reached;
}

-- a step may be done: what is issued is a payload, and not the 65,536th
abbrev pub May : LineEndState → Deed → Type 0
May side (Issues src dst payload) = IsTrue (is_payload payload) × (issued_by side < 65535)
May side Takes = Unit {0}
May side Deliver = Unit {0}
May side Lose = Unit {0}
May side (Alter mask) = Unit {0}
May side (Foreign byte) = Unit {0}
May side Ticks = Unit {0}

given-byte : (o : Option Out) → map {A = Out} (λ out. out.byte) (option_to_list o) ≡ option_to_list (option_map (λ (out : Out). out.byte) o)
given-byte None = refl
given-byte (Some out) = refl

gave-take : (who : Who) (check : Check) (first : StationState) (side : LineEndState) (lines : List Line) (bytes : List ℕ) → Gave who check first side lines bytes
    → Gave who check first (near_after side Takes) lines (bytes ++ given_at side Takes)
gave-take who check first side lines bytes g =
    let e = side.end in
    let o = handed_at node_host e in
    let host = option_map_or (λ (body : List ℕ). after_next e.host) o e.host in
    let sent = g.messages ++ option_to_list o in
    let is_host : host ≡ (end_after_take node_host e).host = sym (take-host node_host e) in
    let on = signal-on-wire node_host node_keeps check g.messages bytes e Take (reached-carries node_host node_keeps e g.reached).holds g.on_wire in
    record {
      messages = sent;
      heard = g.heard;
      on_wire = rw (handed-is e, given-byte (out_at_take node_host e)) at on;
      hosts = subst (λ (node : NodeState). Hosts first node sent g.heard) is_host (hosts-handed o first e.host g.messages g.heard (λ body is. take-handed node_host e body is) g.hosts);
      executed = g.executed;
      reached = goes_on e Take g.reached;
    }

gave-tick : (who : Who) (check : Check) (first : StationState) (side : LineEndState) (lines : List Line) (bytes : List ℕ) → Gave who check first side lines bytes
    → Gave who check first (near_after side Ticks) lines bytes
gave-tick who check first side lines bytes g =
    let e = side.end in
    let fate = fate_of_tick (tick_turn e.sender) in
    let on = signal-on-wire node_host node_keeps check g.messages bytes e Tick (reached-carries node_host node_keeps e g.reached).holds g.on_wire in
    record {
      messages = g.messages;
      heard = g.heard;
      on_wire = rw (told-none fate, append-nil g.messages, append-nil bytes) at on;
      hosts = hosts-tick (hosts-fate fate first e.host g.messages g.heard g.hosts);
      executed = g.executed;
      reached = goes_on e Tick g.reached;
    }

gave-issue : (who : Who) (check : Check) (first : StationState) (side : LineEndState) (src : Option ℕ) (dst : ℕ) (payload : List ℕ) (lines : List Line) (bytes : List ℕ) → May side (Issues src dst payload) → Gave who check first side lines bytes
    → Gave who check first (after_issue side src dst payload) lines bytes
gave-issue who check first side src dst payload lines bytes may g =
    let e = side.end in
    let source = unwrap_or src e.host.initiator.node in
    let host = after_node_issue e.host source dst payload in
    record {
      messages = g.messages;
      heard = g.heard;
      on_wire = host-on-wire check g.messages bytes e host g.on_wire;
      hosts = hosts-issue g.hosts source dst payload (payload-command payload may.0) may.1;
      executed = g.executed;
      reached = changes e host (issue-holds e.host source dst payload may.0 (reached-carries node_host node_keeps e g.reached).holds) g.reached;
    }

-- another lane
gave-lane : (who : Who) (check : Check) (first : StationState) (side : LineEndState) (lane : List LaneCell) (lines : List Line) (bytes : List ℕ) → Gave who check first side lines bytes
    → Gave who check first (record { end = side.end; lane = lane }) lines bytes
gave-lane who check first side lane lines bytes g =
    record { messages = g.messages; heard = g.heard; on_wire = g.on_wire; hosts = g.hosts; executed = g.executed; reached = g.reached }

gave-step : (who : Who) (check : Check) (first : StationState) (side : LineEndState) (deed : Deed) (lines : List Line) (bytes : List ℕ) → May side deed → Gave who check first side lines bytes
    → Gave who check first (near_after side deed) lines (bytes ++ given_at side deed)
gave-step who check first side (Issues src dst payload) lines bytes may g = rw (append-nil bytes) (gave-issue who check first side src dst payload lines bytes may g)
gave-step who check first side Takes lines bytes may g = gave-take who check first side lines bytes g
gave-step who check first side Deliver lines bytes may g = rw (append-nil bytes) (gave-lane who check first side _ lines bytes g)
gave-step who check first side Lose lines bytes may g = rw (append-nil bytes) (gave-lane who check first side _ lines bytes g)
gave-step who check first side (Alter mask) lines bytes may g = rw (append-nil bytes) (gave-lane who check first side _ lines bytes g)
gave-step who check first side (Foreign byte) lines bytes may g = rw (append-nil bytes) g
gave-step who check first side Ticks lines bytes may g = rw (append-nil bytes) (gave-tick who check first side lines bytes g)

-- a step of the end, with the lines that it makes there
pub gave-near : (who by : Who) (check : Check) (first : StationState) (side : LineEndState) (deed : Deed) (lines : List Line) (bytes : List ℕ) → May side deed → Gave who check first side lines bytes
    → Gave who check first (near_after side deed) (lines ++ near_lines by side deed) (bytes ++ given_at side deed)
gave-near who by check first side deed lines bytes may g =
    gave-silent who check first (near_after side deed) lines (near_lines by side deed) (bytes ++ given_at side deed) (near-executes who by side deed) (gave-step who check first side deed lines bytes may g)

-- lines that another end makes
pub gave-other : (who : Who) (check : Check) (first : StationState) (side : LineEndState) (lines more : List Line) (bytes : List ℕ) → ExecuteNothing who more → Gave who check first side lines bytes → Gave who check first side (lines ++ more) bytes
gave-other who check first side lines more bytes none g = gave-silent who check first side lines more bytes none g

-- ---- a byte arrives

gave-cell : (who : Who) → is_who who who ≡ true → (check : Check) (first : StationState) (side : LineEndState) (cell : LaneCell) (lines : List Line) (bytes : List ℕ) → Gave who check first side lines bytes
    → Gave who check first (after_cell side cell) (lines ++ cell_lines who side cell) bytes
gave-cell who itself check first side cell lines bytes g =
    let e = side.end in
    let what = act_of_byte node_host e cell.byte in
    let body = body_heard side cell in
    let fate = fate_at what e.sender in
    let step = step_of side cell in
    let on = signal-on-wire node_host node_keeps check g.messages bytes e (Byte cell.byte) (reached-carries node_host node_keeps e g.reached).holds g.on_wire in
    record {
      messages = g.messages;
      heard = heard_after what g.heard body;
      on_wire = rw (told-none fate, append-nil g.messages, append-nil bytes) at on;
      hosts = hosts-fate fate first (host_at_byte node_host e cell.byte) g.messages (heard_after what g.heard body) (hosts-act what first e.host g.messages g.heard body g.hosts);
      executed = step-own who itself step e.host body lines (filter is_command g.heard) (λ is. ap (λ (a : Act). did_at node_host a e.host body) is) g.executed ∙ commands-heard what g.heard body;
      reached = goes_on e (Byte cell.byte) g.reached;
    }

pub gave-arrival : (who : Who) → is_who who who ≡ true → (check : Check) (first : StationState) (side : LineEndState) (cell : Option LaneCell) (lines : List Line) (bytes : List ℕ) → Gave who check first side lines bytes
    → Gave who check first (after_arrival side cell) (lines ++ arrival_lines who side cell) bytes
gave-arrival who itself check first side None lines bytes g = rw (append-nil lines) g
gave-arrival who itself check first side (Some cell) lines bytes g = gave-cell who itself check first side cell lines bytes g

-- ---- the beginning

pub gave-start : (who : Who) (check : Check) (first : StationState) (setup : Setup) (node : NodeState) → setup.check ≡ check → node.station ≡ first → node.replies ≡ [] → node.initiator.issued ≡ [] → length first.block ≤ 244
    → Gave who check first (record { end = new_end setup node; lane = [] }) [] []
gave-start who check first setup node is station replies issued few = record {
  messages = [];
  heard = [];
  on_wire = rw (← is) (new-on-wire setup node);
  hosts = hosts-start first node station replies issued;
  executed = refl;
  reached = begins setup node (rw (replies, issued, station) (All-nil _, All-nil _, few));
}
