-- Each unit step at an end, or with its bytes, leaves what holds.
use Rattle.std.proofs.Common.{◌≡◌, ◌∙◌, ℕ, ◌+◌, ◌<◌, Bool, true, false, List, [], ◌∷◌, ◌++◌, length, drop, Option, Some, None, eqb, not, refl, ap, sym, subst, arith, append-nil, length-append}
use Rattle.std.specs.Prelude.{slice_index, IsTrue, option_to_list, unwrap_or, ◌==◌, ◌&&◌, nat_le, bit_and}
use Rattle.std.specs.Option.{option_map, option_map_or}
use Rattle.std.specs.Int.{bit_at}
use Rattle.std.specs.List.{filter}
use Rattle.std.proofs.lemmas.List.{map-append}
use Rattle.df1_base.specs.declared.link.Out.{Out}
use Rattle.df1_base.specs.declared.link.Turn.{Turn}
use Rattle.df1_base.specs.declared.link.Turn.TheVariants as turn
use Rattle.pccc_envelope.proofs.Replies.{and_64}
use Rattle.df1_node.specs.Answer.{StationState}
use Rattle.df1_node.specs.Initiator.{Issued, Waiting, next_issued}
use Rattle.df1_node.specs.Node.{NodeState, after_tick as node_ticked, after_next, after_node_issue}
use Rattle.duplex_sender.specs.Sender.{tick_turn}
use Rattle.duplex_end.specs.End.{EndState, end_after_take, out_at_take, fate_of_tick, host_at_tick, turn_at_tick, gone_at_tick}
use Rattle.script_statement.specs.declared.who.Who.{Who}
use Rattle.script_statement.specs.Statements.{is_payload}
use Rattle.replay_report.specs.declared.record.Line.{Line}
use Rattle.replay_report.specs.declared.record.Line.TheVariants as line
use Rattle.lane_cells.specs.Cells.{LaneCell, Ending}
use Rattle.each_once.specs.NodeHost.{node_host}
use Rattle.report_lines.specs.NodeLines.{turn_lines, gone_lines}
use Rattle.lane_cells.specs.Cells.{cell_of, altered, bare}
use Rattle.duplex_line.specs.Acts.{LineEndState, LineState, Issue, Take, Deliver, Lose, Alter, Foreign, Tick, after_deed, lines_at, deceptions_at}
use Rattle.duplex_line.specs.Plays.{issued_by}
use Rattle.duplex_line.proofs.Once.IssueLimits.{take-commands, tick-commands}
use Rattle.each_once.proofs.OneDirection.{Lane, Way, way-more, way-put, way-end, way-leaves, way-bare}
use Rattle.duplex_line.proofs.Once.SentMessages.{IsLast, handed_at, sends-host, sends-take, sends-tick, take-host, take-handed, take-ends}
use Rattle.duplex_end.proofs.Runs.{take-receiver}
use Rattle.each_once.proofs.HandedOut.{is_command, Hosts}
use Rattle.each_once.proofs.NodeSteps.{hosts-issue, hosts-tick}
use Rattle.each_once.proofs.ToldLines.{IsTold, stays-more, stays-both, told-stays, AreSilent, silent-none, silent-both, told-silent}
use Rattle.duplex_line.proofs.Once.EndSteps.{stays-fate, stays-tick, stays-handed, hosts-fate, hosts-handed, others-told, others-handed}
use Rattle.each_once.proofs.WaitingCommands.{OthersWait, others-issue, others-tick}
use Rattle.duplex_line.proofs.Once.Invariant.{lane_of, AreTwo, Holds}
use Rattle.duplex_line.proofs.Once.ArrivingCell.{news-silent, holds-arrival}

-- a state in which the near end and its lane are others
abbrev nearer : LineState → LineEndState → LineState
nearer s a = record { a = a; b = s.b; deceived = s.deceived }

-- ---- a command is issued

and-parts : (a b : Bool) → IsTrue (a && b) → b ≡ true
and-parts true b h = h
and-parts false b h = absurd cc

-- what may be issued is no reply
pub payload-command : (payload : List ℕ) → IsTrue (is_payload payload) → eqb (bit_at (slice_index payload 0) 6) 1 ≡ false
payload-command [] h = absurd cc
payload-command (cmd ∷ rest) h = sym (and_64 cmd) ∙ ap not (and-parts (nat_le (length (cmd ∷ rest)) 245) (bit_and cmd 0x40 == 0) h)

pub holds-issue : (near far : Who) (first far_first : StationState) (s : LineState) (src : Option ℕ) (dst : ℕ) (payload : List ℕ) (lines : List Line) → IsTrue (is_payload payload) → issued_by s.a < 65535
    → Holds near far first far_first s lines → Holds near far first far_first (after_deed s (Issue src dst payload)) lines
holds-issue near far first far_first s src dst payload lines may few h =
    let issued = s.a.end.host.initiator.issued in
    let source = unwrap_or src s.a.end.host.initiator.node in
    let new : Issued = record { body = next_issued s.a.end.host.initiator source dst payload; standing = Waiting } in
    record {
      sent = h.sent;
      heard = h.heard;
      far_sent = h.far_sent;
      far_heard = h.far_heard;
      hosts = hosts-issue h.hosts source dst payload (payload-command payload may) few;
      far_hosts = h.far_hosts;
      sends = sends-host s.a.end (after_node_issue s.a.end.host source dst payload) h.sends;
      far_sends = h.far_sends;
      way = h.way;
      back = h.back;
      few = omega (arith, length-append issued (new ∷ []), few);
      far_few = h.far_few;
      told = told-stays near far far_first issued (issued ++ new ∷ []) (filter is_command h.far_heard) lines (stays-more issued (new ∷ [])) h.told;
      far_told = h.far_told;
      waits = others-issue s.a.end.host.initiator source dst payload (filter is_command h.sent) h.waits;
      far_waits = h.far_waits;
    }

-- ---- a byte is given

-- the lane, with the byte that is given
way-out : (sent : List (List ℕ)) (sending : List ℕ) (out : Out) (ends : Option ℕ) (lane : Lane) → out.last_of ≡ ends → ((number : ℕ) → out.last_of ≡ Some number → IsLast sent sending)
    → {kept : _} {heard : List (List ℕ)} → Way sent lane kept heard → Way sent (lane ++ option_map (λ (e : Ending). e.body) (cell_of sending out).ends ∷ []) kept heard
way-out sent sending out None lane is last {kept = kept} {heard = heard} w = rw is (way-put sent lane kept heard w)
way-out sent sending out (Some number) lane is last {kept = kept} {heard = heard} w =
    let l = last number is in
    rw is (subst (λ (m : List (List ℕ)). Way m (lane ++ Some sending ∷ []) kept heard) (sym l.1) (way-end l.0 sending lane kept heard (subst (λ (m : List (List ℕ)). Way m lane kept heard) l.1 w)))

way-given : (sent : List (List ℕ)) (sending : List ℕ) (cells : List LaneCell) (o : Option Out) → ((out : Out) (number : ℕ) → o ≡ Some out → out.last_of ≡ Some number → IsLast sent sending)
    → {kept : _} {heard : List (List ℕ)} → Way sent (lane_of cells) kept heard → Way sent (lane_of (cells ++ option_to_list (option_map (cell_of sending) o))) kept heard
way-given sent sending cells None last w = rw (append-nil cells) w
way-given sent sending cells (Some out) last {kept = kept} {heard = heard} w =
    let same : lane_of (cells ++ cell_of sending out ∷ []) ≡ lane_of cells ++ option_map (λ (e : Ending). e.body) (cell_of sending out).ends ∷ [] = map-append (λ (c : LaneCell). option_map (λ (e : Ending). e.body) c.ends) cells (cell_of sending out ∷ []) in
    subst (λ (lane : Lane). Way sent lane kept heard) (sym same) (way-out sent sending out out.last_of (lane_of cells) refl (λ number is. last out number refl is) w)

pub holds-take : (near far : Who) (first far_first : StationState) (s : LineState) (lines : List Line) → Holds near far first far_first s lines → Holds near far first far_first (after_deed s Take) lines
holds-take near far first far_first s lines h =
    let e = s.a.end in
    let o = handed_at node_host e in
    let host = option_map_or (λ (body : List ℕ). after_next e.host) o e.host in
    let sent = h.sent ++ option_to_list o in
    let is_host : host ≡ (end_after_take node_host e).host = sym (take-host node_host e) in
    record {
      sent = sent;
      heard = h.heard;
      far_sent = h.far_sent;
      far_heard = h.far_heard;
      hosts = subst (λ (node : NodeState). Hosts first node sent h.heard) is_host (hosts-handed o first e.host h.sent h.heard (λ body is. take-handed node_host e body is) h.hosts);
      far_hosts = h.far_hosts;
      sends = sends-take node_host e h.sends;
      far_sends = h.far_sends;
      way = way-given sent (end_after_take node_host e).sending s.a.lane (out_at_take node_host e) (λ out number is last. take-ends node_host e out number h.sends is last) (way-more h.sent (option_to_list o) (lane_of s.a.lane) s.b.end.receiver.kept h.far_heard h.way);
      back = rw (take-receiver node_host e) h.back;
      few = let same = take-commands e in omega (arith, same, h.few);
      far_few = h.far_few;
      told = subst (λ (node : NodeState). IsTold near far far_first node.initiator.issued (filter is_command h.far_heard) lines) is_host
          (told-stays near far far_first e.host.initiator.issued host.initiator.issued (filter is_command h.far_heard) lines (stays-handed o e.host) h.told);
      far_told = h.far_told;
      waits = subst (λ (node : NodeState). OthersWait node.initiator (filter is_command sent)) is_host (others-handed o first e.host h.sent h.heard (λ body is. take-handed node_host e body is) h.hosts h.waits);
      far_waits = h.far_waits;
    }

-- ---- the head of the lane is lost or altered

-- another lane at the near end
with-lane : (near far : Who) (first far_first : StationState) (s : LineState) (cells : List LaneCell) (lines : List Line) (h : Holds near far first far_first s lines) → Way h.sent (lane_of cells) s.b.end.receiver.kept h.far_heard
    → Holds near far first far_first (nearer s (record { end = s.a.end; lane = cells })) lines
with-lane near far first far_first s cells lines h way = record {
  sent = h.sent;
  heard = h.heard;
  far_sent = h.far_sent;
  far_heard = h.far_heard;
  hosts = h.hosts;
  far_hosts = h.far_hosts;
  sends = h.sends;
  far_sends = h.far_sends;
  way = way;
  back = h.back;
  few = h.few;
  far_few = h.far_few;
  told = h.told;
  far_told = h.far_told;
  waits = h.waits;
  far_waits = h.far_waits;
}

way-lost : (sent : List (List ℕ)) (cells : List LaneCell) → {kept : _} {heard : List (List ℕ)} → Way sent (lane_of cells) kept heard → Way sent (lane_of (drop 1 cells)) kept heard
way-lost sent [] w = w
way-lost sent (cell ∷ cells) {kept = kept} {heard = heard} w = way-leaves sent (option_map (λ (e : Ending). e.body) cell.ends) (lane_of cells) kept heard w

way-altered : (sent : List (List ℕ)) (mask : ℕ) (cells : List LaneCell) → {kept : _} {heard : List (List ℕ)} → Way sent (lane_of cells) kept heard → Way sent (lane_of (altered mask cells)) kept heard
way-altered sent mask [] w = w
way-altered sent mask (cell ∷ cells) {kept = kept} {heard = heard} w = way-bare sent (lane_of cells) kept heard (way-leaves sent (option_map (λ (e : Ending). e.body) cell.ends) (lane_of cells) kept heard w)

pub holds-lose : (near far : Who) (first far_first : StationState) (s : LineState) (lines : List Line) → Holds near far first far_first s lines → Holds near far first far_first (after_deed s Lose) lines
holds-lose near far first far_first s lines h = with-lane near far first far_first s (drop 1 s.a.lane) lines h (way-lost h.sent s.a.lane h.way)

pub holds-alter : (near far : Who) (first far_first : StationState) (s : LineState) (mask : ℕ) (lines : List Line) → Holds near far first far_first s lines → Holds near far first far_first (after_deed s (Alter mask)) lines
holds-alter near far first far_first s mask lines h = with-lane near far first far_first s (altered mask s.a.lane) lines h (way-altered h.sent mask s.a.lane h.way)

-- ---- a unit of time passes

turn-silent : (from to who : Who) (t : Turn) → AreSilent from to (turn_lines who t)
turn-silent from to who turn.Still = silent-none from to
turn-silent from to who turn.Ask = record { executes = refl; answers = refl; strays = refl }
turn-silent from to who (turn.Failed n) = news-silent from to who n

gone-silent : (from to who : Who) (numbers : List ℕ) → AreSilent from to (gone_lines who numbers)
gone-silent from to who [] = silent-none from to
gone-silent from to who (n ∷ numbers) = silent-both from to (line.Unanswered who n ∷ []) (gone_lines who numbers) (record { executes = refl; answers = refl; strays = refl }) (gone-silent from to who numbers)

pub tick-silent : (from to who : Who) (e : EndState NodeState) → AreSilent from to (turn_lines who (turn_at_tick node_host e) ++ gone_lines who (gone_at_tick node_host e))
tick-silent from to who e = silent-both from to (turn_lines who (turn_at_tick node_host e)) (gone_lines who (gone_at_tick node_host e)) (turn-silent from to who (turn_at_tick node_host e)) (gone-silent from to who (gone_at_tick node_host e))

pub holds-tick : (near far : Who) (first far_first : StationState) (s : LineState) (lines : List Line) → Holds near far first far_first s lines → Holds near far first far_first (after_deed s Tick) (lines ++ lines_at near far s Tick)
holds-tick near far first far_first s lines h =
    let e = s.a.end in
    let fate = fate_of_tick (tick_turn e.sender) in
    let told = host_at_tick node_host e in
    let more = turn_lines near (turn_at_tick node_host e) ++ gone_lines near (gone_at_tick node_host e) in
    let same : more ++ [] ≡ more = append-nil more in
    let stays = stays-both e.host.initiator.issued told.initiator.issued (node_ticked told).initiator.issued (stays-fate fate e.host) (stays-tick told) in
    record {
      sent = h.sent;
      heard = h.heard;
      far_sent = h.far_sent;
      far_heard = h.far_heard;
      hosts = hosts-tick (hosts-fate fate first e.host h.sent h.heard h.hosts);
      far_hosts = h.far_hosts;
      sends = sends-tick node_host e h.sends;
      far_sends = h.far_sends;
      way = h.way;
      back = h.back;
      few = let count = tick-commands e in omega (arith, count, h.few);
      far_few = h.far_few;
      told = rw same (told-silent near far far_first (node_ticked told).initiator.issued (filter is_command h.far_heard) lines more (tick-silent near far near e)
          (told-stays near far far_first e.host.initiator.issued (node_ticked told).initiator.issued (filter is_command h.far_heard) lines stays h.told));
      far_told = rw same (told-silent far near first s.b.end.host.initiator.issued (filter is_command h.heard) lines more (tick-silent far near near e) h.far_told);
      waits = others-tick told.initiator (filter is_command h.sent) (others-told fate e.host (filter is_command h.sent) h.waits);
      far_waits = h.far_waits;
    }

-- ---- a byte arrives at the far end

plus-none : (n m : ℕ) → n + m ≡ 0 → m ≡ 0
plus-none n m is = omega (arith, is)

deliver-cells : (near far : Who) → AreTwo near far → (first far_first : StationState) (s : LineState) (cells : List LaneCell) (lines : List Line) → s.a.lane ≡ cells → (after_deed s Deliver).deceived ≡ 0
    → Holds near far first far_first (nearer s (record { end = s.a.end; lane = cells })) lines
    → Holds near far first far_first (after_deed (nearer s (record { end = s.a.end; lane = cells })) Deliver) (lines ++ lines_at near far (nearer s (record { end = s.a.end; lane = cells })) Deliver)
deliver-cells near far two first far_first s [] lines is none h = rw (append-nil lines) h
deliver-cells near far two first far_first s (cell ∷ cells) lines is none h =
    let honest : s.deceived + deceptions_at s.b cell ≡ 0 = rw is at none in
    holds-arrival near far two first far_first s.a.end cell cells s.b s.deceived (s.deceived + deceptions_at s.b cell) lines (plus-none s.deceived (deceptions_at s.b cell) honest) h

pub holds-deliver : (near far : Who) → AreTwo near far → (first far_first : StationState) (s : LineState) (lines : List Line) → (after_deed s Deliver).deceived ≡ 0 → Holds near far first far_first s lines
    → Holds near far first far_first (after_deed s Deliver) (lines ++ lines_at near far s Deliver)
holds-deliver near far two first far_first s lines none h = deliver-cells near far two first far_first s s.a.lane lines refl none h

pub holds-foreign : (near far : Who) → AreTwo near far → (first far_first : StationState) (s : LineState) (byte : ℕ) (lines : List Line) → (after_deed s (Foreign byte)).deceived ≡ 0 → Holds near far first far_first s lines
    → Holds near far first far_first (after_deed s (Foreign byte)) (lines ++ lines_at near far s (Foreign byte))
holds-foreign near far two first far_first s byte lines none h =
    holds-arrival near far two first far_first s.a.end (bare byte) s.a.lane s.b s.deceived (s.deceived + deceptions_at s.b (bare byte)) lines (plus-none s.deceived (deceptions_at s.b (bare byte)) none)
    (with-lane near far first far_first s (bare byte ∷ s.a.lane) lines h (way-bare h.sent (lane_of s.a.lane) s.b.end.receiver.kept h.far_heard h.way))
