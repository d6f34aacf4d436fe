-- What the master does leaves what holds: a command is issued, a byte is given to every station, a unit of time passes.
use Rattle.std.proofs.Common.{◌≡◌, ◌∙◌, ℕ, ◌+◌, ◌<◌, Bool, true, false, List, [], ◌∷◌, ◌++◌, length, map, eqb, not, Option, Some, None, refl, ap, sym, subst, append-nil, length-append}
use Rattle.std.specs.Prelude.{slice_get, slice_index, option_to_list, unwrap_or, IsTrue, ◌&&◌, ◌==◌, bit_and, nat_le, if◌then◌else◌}
use Rattle.std.specs.Int.{bit_at}
use Rattle.std.proofs.lemmas.Bool.{cond_both}
use Rattle.df1_base.specs.declared.host.Fate.TheVariants as fate
use Rattle.pccc_envelope.proofs.Replies.{and_64}
use Rattle.df1_node.specs.Answer.{StationState}
use Rattle.df1_node.specs.Initiator.{Issued, Waiting, next_issued}
use Rattle.df1_node.specs.Node.{NodeState, after_node_issue, after_next, after_told, after_tick}
use Rattle.half_master.specs.Emission.{Tick as TickLetter, Take as TakeLetter}
use Rattle.half_master.specs.Keys.{kept_at}
use Rattle.half_master.specs.Master.{MasterState, begun_of, message_next, master_after_take, master_after_tick, out_at_take, turn_at_tick, gone_at_tick}
use Rattle.half_master.specs.Stations.{is_listed}
use Rattle.half_master.proofs.KeyLemmas.{signal-numbers}
use Rattle.half_master.proofs.LastMessage.{sends-host, sends-take, sends-tick, sent-ends, next-of}
use Rattle.half_master.proofs.Seen.{at-tick}
use Rattle.script_statement.specs.Statements.{is_payload}
use Rattle.script_statement.specs.declared.who.Who.TheVariants.{M}
use Rattle.replay_report.specs.declared.record.Line.{Line}
use Rattle.lane_cells.specs.Cells.{LaneCell}
use Rattle.each_once.specs.NodeHost.{node_host}
use Rattle.each_once.proofs.ContinuedCommands.{Continues, continues-same, continues-both, continues-told, continues-tick, continues-next}
use Rattle.each_once.proofs.IssuingNode.{Issues, issues-issue, issues-told, issues-tick, issues-next}
use Rattle.each_once.proofs.Sublists.{from-map}
use Rattle.each_once.proofs.ToldLines.{stays-more}
use Rattle.half_line.specs.Behind.{plain_node}
use Rattle.half_line.specs.Acts.{LineStationState, HalfState, Issue, Give, Tick, after_master_deed, master_lines, cells_given, joined}
use Rattle.half_line.proofs.Once.GivenCell.{way-given}
use Rattle.half_line.specs.Issues.{issued_of}
use Rattle.half_line.proofs.Once.Invariant.{shared, SideHolds, side-issued, side-lines, side-commands, side-heard, side-lanes, Setting, Holds}
use Rattle.half_line.proofs.Once.MasterArrival.{told-continues, told-issues}
use Rattle.half_line.proofs.Once.QuietLines.{tick-silent, tick-mute}
use Rattle.half_line.proofs.Once.MasterReplies.{master-mute}

-- ---- a command is issued

and-parts : (a b : Bool) → IsTrue (a && b) → b ≡ true
and-parts true b h = h
and-parts false b h = absurd cc

-- what may be issued is no reply
pub payload-command : (payload : List ℕ) → IsTrue (is_payload payload) → eqb (bit_at (slice_index payload 0) 6) 1 ≡ false
payload-command [] h = absurd cc
payload-command (cmd ∷ rest) h = sym (and_64 cmd) ∙ ap not (and-parts (nat_le (length (cmd ∷ rest)) 245) (bit_and cmd 0x40 == 0) h)

pub holds-issue : (setting : Setting) (count : ℕ) (s : HalfState NodeState) (src : Option ℕ) (dst : ℕ) (payload : List ℕ) (lines : List Line) → IsTrue (is_payload payload) → count < 65535 → Holds setting count s lines
    → Holds setting (count + 1) (after_master_deed plain_node s (Issue src dst payload)) lines
holds-issue setting count s src dst payload lines may few h =
    let m = s.master in
    let source = unwrap_or src m.host.initiator.node in
    let node = after_node_issue m.host source dst payload in
    let issued = issued_of m in
    let new : Issued = record { body = next_issued m.host.initiator source dst payload; standing = Waiting } in
    record {
      commands = h.commands;
      heard = h.heard;
      master = record {
        issues = issues-issue source dst payload (payload-command payload may) (subst (λ n. n < 65535) (sym h.master.count_is) few) h.master.issues;
        sends = sends-host m node h.master.sends;
        count_is = length-append issued (new ∷ []) ∙ ap (λ n. n + 1) h.master.count_is;
        numbers_are = h.master.numbers_are;
      };
      replies = h.replies;
      numbers_are = h.numbers_are;
      sides = λ p side at. side-issued (issued ++ new ∷ []) (stays-more issued (new ∷ [])) (h.sides p side at);
    }

-- ---- a unit of time passes

ticked-issues : (first : StationState) (node : NodeState) (commands heard : List (List ℕ)) (ticked : Bool) → Issues first node commands heard → Issues first (if ticked then after_tick node else node) commands heard
ticked-issues first node commands heard true h = issues-tick h
ticked-issues first node commands heard false h = h

ticked-continues : (node : NodeState) (ticked : Bool) → Continues node.initiator.issued (if ticked then after_tick node else node).initiator.issued
ticked-continues node true = continues-tick node
ticked-continues node false = continues-same node.initiator.issued

pub holds-tick : (setting : Setting) (count : ℕ) (s : HalfState NodeState) (lines : List Line) → Holds setting count s lines → Holds setting count (after_master_deed plain_node s Tick) (lines ++ master_lines plain_node s.master Tick)
holds-tick setting count s lines h =
    let m = s.master in
    let after = master_after_tick node_host m in
    let t = at-tick node_host m in
    let host : NodeState = if t.ticked then after_tick m.host else m.host in
    let continues : Continues (issued_of m) (issued_of after) = subst (λ (node : NodeState). Continues (issued_of m) node.initiator.issued) (sym t.host)
    (continues-both (issued_of m) host.initiator.issued _ (ticked-continues m.host t.ticked) (told-continues host t.fate)) in
    record {
      commands = h.commands;
      heard = h.heard;
      master = record {
        issues = subst (λ (node : NodeState). Issues setting.of_master node h.commands h.heard) (sym t.host)
            (told-issues setting.of_master host h.commands h.heard t.fate (ticked-issues setting.of_master m.host h.commands h.heard t.ticked h.master.issues));
        sends = sends-tick node_host m h.master.sends;
        count_is = continues.count ∙ h.master.count_is;
        numbers_are = signal-numbers node_host m TickLetter ∙ h.master.numbers_are;
      };
      replies = master-mute setting.numbers lines (master_lines plain_node m Tick) (tick-mute M (turn_at_tick node_host m) (gone_at_tick node_host m)) h.replies;
      numbers_are = h.numbers_are;
      sides = λ p side at.
          side-lines (master_lines plain_node m Tick) (tick-silent side.number M (turn_at_tick node_host m) (gone_at_tick node_host m))
          (side-issued (issued_of after) continues.stays (side-heard h.heard (kept_at after.stations p) refl (ap (λ l. kept_at l p) t.stations) (h.sides p side at)));
    }

-- ---- a byte is given

-- what beginning a message leaves, of these
abbrev Begun : StationState → MasterState NodeState → List (List ℕ) → List (List ℕ) → MasterState NodeState → Type 0
Begun first e commands heard after = Issues first after.host commands heard × Continues (issued_of e) (issued_of after) × (after.stations ≡ e.stations)

begins : (first : StationState) (e : MasterState NodeState) (commands heard : List (List ℕ)) (o : Option (List ℕ)) → message_next node_host e ≡ o → Issues first e.host commands heard
    → Begun first e (commands ++ option_to_list o) heard (begun_of node_host e o)
begins first e commands heard None is h = (subst (λ all. Issues first e.host all heard) (sym (append-nil commands)) h, continues-same (issued_of e), refl)
begins first e commands heard (Some body) is h =
    let next = issues-next body (next-of node_host e body is) h in
    let node = after_next e.host in
    let one = continues-next e.host in
    cond_both (is_listed e.stations (slice_index body 0)) _ _ (Begun first e (commands ++ body ∷ []) heard)
    (λ listed. (next, one, refl))
    (λ not. (issues-told fate.Undelivered next, continues-both (issued_of e) node.initiator.issued (after_told node fate.Undelivered).initiator.issued one (continues-told node fate.Undelivered), refl))

pub joined-numbers : (cells : List LaneCell) (stations : List LineStationState) → map (λ (side : LineStationState). side.number) (map (joined cells) stations) ≡ map (λ (side : LineStationState). side.number) stations
joined-numbers cells [] = refl
joined-numbers cells (side ∷ stations) = ap (λ ns. side.number ∷ ns) (joined-numbers cells stations)

pub holds-give : (setting : Setting) (count : ℕ) (s : HalfState NodeState) (lines : List Line) → Holds setting count s lines → Holds setting count (after_master_deed plain_node s Give) lines
holds-give setting count s lines h =
    let m = s.master in
    let after = master_after_take node_host m in
    let next = message_next node_host m in
    let more = option_to_list next in
    let b = begins setting.of_master m h.commands h.heard next refl h.master.issues in
    let cells = cells_given plain_node m in
    let given : (p : ℕ) (side : LineStationState) → slice_get s.stations p ≡ Some side → SideHolds (shared (h.commands ++ more) h.heard (issued_of after) lines) (setting.first p) (kept_at after.stations p) (joined cells side) = λ p side at.
    let old = side-issued (issued_of after) b.1.stays (side-heard h.heard (kept_at after.stations p) refl (ap (λ l. kept_at l p) b.2) (side-commands more (h.sides p side at))) in
    side-lanes (side.to_it ++ cells) side.from_it old
    (way-given (h.commands ++ more) after.sending side.to_it (out_at_take node_host m) side.slave.kept old.executed (λ out number is last. sent-ends node_host m out number h.master.sends is last) old.way)
    old.back in
    record {
      commands = h.commands ++ more;
      heard = h.heard;
      master = record {
        issues = b.0;
        sends = sends-take node_host m h.master.sends;
        count_is = b.1.count ∙ h.master.count_is;
        numbers_are = signal-numbers node_host m TakeLetter ∙ h.master.numbers_are;
      };
      replies = h.replies;
      numbers_are = joined-numbers cells s.stations ∙ h.numbers_are;
      sides = λ p side at.
          let was = from-map (joined cells) s.stations p side at in
          subst (λ (x : LineStationState). SideHolds (shared (h.commands ++ more) h.heard (issued_of after) lines) (setting.first p) (kept_at after.stations p) x) was.2 (given p was.0 was.1);
    }
