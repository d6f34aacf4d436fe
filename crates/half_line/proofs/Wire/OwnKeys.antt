-- Of a run that deceives no end: what shows that the messages of each end have keys of their own.
use Rattle.std.proofs.Common.{◌≡◌, ◌∙◌, ℕ, ◌≤◌, List, [], length, map, Some, sym, subst, arith}
use Rattle.std.specs.Prelude.{slice_get}
use Rattle.df1_node.specs.Node.{NodeState}
use Rattle.pccc_envelope.specs.Envelope.{tns_of}
use Rattle.script_statement.specs.declared.who.Who.TheVariants.{M, S}
use Rattle.script_parts.specs.declared.script.Script.{Script}
use Rattle.script_parts.specs.HalfPlayable.{IsHalfPlayable, numbers_of}
use Rattle.replay_report.specs.declared.record.Line.{Line}
use Rattle.each_once.specs.Tells.{executed_in}
use Rattle.each_once.proofs.OneDirection.{way-within}
use Rattle.each_once.proofs.StationAnswers.{executed-differ}
use Rattle.each_once.proofs.Sublists.{Differ}
use Rattle.half_line.specs.Behind.{plain_node}
use Rattle.half_line.specs.Acts.{LineStationState, HalfState}
use Rattle.half_line.specs.Issues.{issued_of}
use Rattle.half_line.specs.Run.{start, last_state, lines_after}
use Rattle.half_line.proofs.Once.EachStation as each_station
use Rattle.half_line.proofs.Once.Invariant.{marks, Setting, Holds}
use Rattle.half_line.proofs.Once.LinesOfStation.{executed-same}
use Rattle.half_line.proofs.Once.WholeRun.{counted_over, counted-within, kept-events}

-- few commands were issued, the master executed nothing, and each station executed commands with different numbers
pub record Numbered (s : HalfState NodeState) (lines : List Line) : Type 0 where
  pub few : length (issued_of s.master) ≤ 65535
  pub none : executed_in M lines ≡ []
  pub differ : (p : ℕ) (side : LineStationState) → slice_get s.stations p ≡ Some side → Differ (map tns_of (executed_in (S side.number) lines))

numbered : (setting : Setting) (count : ℕ) (s : HalfState NodeState) (lines : List Line) → count ≤ 65535 → Holds setting count s lines → Numbered s lines
numbered setting count s lines most h =
    let few : length (issued_of s.master) ≤ 65535 = subst (λ n. n ≤ 65535) (sym h.master.count_is) most in
    record {
      few = few;
      none = h.replies.executes_none;
      differ = λ p side at.
          let this = h.sides p side at in
          let within = way-within h.commands (marks side.to_it) side.slave.kept this.executed this.way in
          let same : this.executed ≡ executed_in (S side.number) lines = sym this.told.executes ∙ executed-same side.number (S side.number) lines in
          subst (λ (l : List (List ℕ)). Differ (map tns_of l)) same (executed-differ this.executed s.master.host.initiator h.commands h.heard h.master.issues.initiates few within);
    }

pub run-numbered : (script : Script) → IsHalfPlayable script → (last_state script).deceived ≡ 0 → Numbered (last_state script) (lines_after plain_node (start script) script.events)
run-numbered script playable zero =
    let setting = each_station.setting_of script playable in
    let count = counted_over 0 script.events in
    let h = kept-events setting (numbers_of script.ends) 0 script.events (start script) [] playable.events (omega (arith, playable.commands)) (λ none. each_station.holds-start script playable) zero in
    numbered setting count (last_state script) (lines_after plain_node (start script) script.events) (omega (arith, counted-within 0 script.events, playable.commands)) h
