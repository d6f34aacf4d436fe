-- The events of a run that nothing disturbs, one after another.
use Rattle.std.proofs.Common.{ℕ, ◌+◌, ◌≤◌, List, [], ◌∷◌, ◌++◌, sym, subst, append_assoc, append-nil, arith}
use Rattle.std.specs.Prelude.{All, count_by}
use Rattle.std.proofs.lemmas.List.Elements.{All-head, All-tail}
use Rattle.df1_node.specs.Node.{NodeState}
use Rattle.script_statement.specs.declared.who.Who.{Who}
use Rattle.script_parts.specs.declared.script.Event.{Event}
use Rattle.script_parts.specs.declared.script.Event.TheVariants as event
use Rattle.script_parts.specs.HalfPlayable.{IsHalfPossible, is_issue}
use Rattle.replay_report.specs.declared.record.Line.{Line}
use Rattle.replay_report.specs.Report.{sent_lines}
use Rattle.half_line.specs.Behind.{plain_node}
use Rattle.half_line.specs.Acts.{HalfState, Tick}
use Rattle.half_line.specs.Prompt.{late_event, IsPromptOver, IsPromptAfter}
use Rattle.half_line.specs.Run.{station_at, number_of, station_between, place_of, link_deeds, steps_of, after_event, giver, lines_of, state_after, lines_after}
use Rattle.half_line.specs.Steps.{bytes_over, lines_over}
use Rattle.half_line.proofs.Once.QuietLines.{sent-silent}
use Rattle.half_line.proofs.Once.WholeRun.{Kept, ArePlain, plain-with, plain-master, plain-take, counted, counted-more, with-bytes}
use Rattle.half_line.proofs.Complete.Invariant.{Flow}
use Rattle.half_line.proofs.Complete.Ledger.{ledger-lines}
use Rattle.half_line.proofs.Complete.LineFacts.{AreShort}
use Rattle.half_line.proofs.Complete.Origin.{Origin}
use Rattle.half_line.proofs.Complete.RunSteps.{Along, along-steps, along-issue, kept-more}

flow-lines : (origin : Origin) (s : HalfState NodeState) (late : ℕ) (lines : List Line) (who : Who) (bytes : List ℕ) → Flow origin s late lines → Flow origin s late (lines ++ sent_lines who bytes)
flow-lines origin s late lines who bytes f =
    let c = f.course in
    record {
      course = record { now = c.now; stage = c.stage; ledger = ledger-lines (sent_lines who bytes) (λ number. sent-silent number who bytes) c.ledger };
      check = f.check;
      honest = f.honest;
    }

plain-along : (origin : Origin) (count : ℕ) (s : HalfState NodeState) (late : ℕ) (lines : List Line) (e : Event) → ArePlain (steps_of s e) → count ≤ 65535 → AreShort origin.setting → IsPromptOver late s (steps_of s e) → Along origin count s late lines
    → Along origin count (after_event plain_node s e) (late_event late s e) (lines ++ lines_of plain_node s e)
plain-along origin count s late lines e plain few short prompt a =
    let over = lines_over plain_node s (steps_of s e) in
    let bytes = bytes_over plain_node s (steps_of s e) in
    let who = giver (station_at e) in
    let now = after_event plain_node s e in
    let all = along-steps origin count (steps_of s e) plain few short s late lines prompt a in
    let kept = subst (λ (told : List Line). Kept origin.setting count now told) (sym (append_assoc origin.lines lines over)) all.kept in
    record {
      kept = kept-more origin count now lines (lines_of plain_node s e) (with-bytes origin.setting count s e (origin.lines ++ lines) kept);
      flow = subst (λ (told : List Line). Flow origin now (late_event late s e) told) (append_assoc lines over (sent_lines who bytes)) (flow-lines origin now (late_event late s e) (lines ++ over) who bytes all.flow);
    }

event-along : (origin : Origin) (count : ℕ) (s : HalfState NodeState) (late : ℕ) (lines : List Line) (e : Event) → IsHalfPossible origin.setting.numbers e → count ≤ 65535 → counted count e ≤ 65535 → AreShort origin.setting → IsPromptOver late s (steps_of s e)
    → Along origin count s late lines → Along origin (counted count e) (after_event plain_node s e) (late_event late s e) (lines ++ lines_of plain_node s e)
event-along origin count s late lines (event.Issue who src dst payload) may few more short prompt a =
    subst (λ (told : List Line). Along origin (count + 1) (after_event plain_node s (event.Issue who src dst payload)) (late_event late s (event.Issue who src dst payload)) told) (sym (append-nil lines))
    (along-issue origin count s late lines src dst payload may.2 may.1 (omega (arith, more)) a)
event-along origin count s late lines (event.Take who n) may few more short prompt a = plain-along origin count s late lines (event.Take who n) (plain-take s.stations who n (number_of who)) few short prompt a
event-along origin count s late lines (event.Deliver lane n) may few more short prompt a =
    plain-along origin count s late lines (event.Deliver lane n) (plain-with (place_of s.stations (station_between lane.from lane.to)) (link_deeds (event.Deliver lane n))) few short prompt a
event-along origin count s late lines (event.Lose lane n) may few more short prompt a =
    plain-along origin count s late lines (event.Lose lane n) (plain-with (place_of s.stations (station_between lane.from lane.to)) (link_deeds (event.Lose lane n))) few short prompt a
event-along origin count s late lines (event.Alter lane mask) may few more short prompt a =
    plain-along origin count s late lines (event.Alter lane mask) (plain-with (place_of s.stations (station_between lane.from lane.to)) (link_deeds (event.Alter lane mask))) few short prompt a
event-along origin count s late lines (event.Foreign lane bytes) may few more short prompt a =
    plain-along origin count s late lines (event.Foreign lane bytes) (plain-with (place_of s.stations (station_between lane.from lane.to)) (link_deeds (event.Foreign lane bytes))) few short prompt a
event-along origin count s late lines (event.Tick who n) may few more short prompt a = plain-along origin count s late lines (event.Tick who n) (plain-master Tick tt n) few short prompt a

-- what is so after all events
pub record Ends (origin : Origin) (s : HalfState NodeState) (lines : List Line) : Type 0 where
  pub count : ℕ
  pub few : count ≤ 65535
  pub late : ℕ
  pub along : Along origin count s late lines

pub events-along : (origin : Origin) (count : ℕ) (events : List Event) (s : HalfState NodeState) (late : ℕ) (lines : List Line) → All (IsHalfPossible origin.setting.numbers) events → count + count_by is_issue events ≤ 65535 → AreShort origin.setting → IsPromptAfter late s events
    → Along origin count s late lines → Ends origin (state_after plain_node s events) (lines ++ lines_after plain_node s events)
events-along origin count [] s late lines possible few short prompt a =
    record { count = count; few = omega (arith, few); late = late; along = subst (λ (told : List Line). Along origin count s late told) (sym (append-nil lines)) a }
events-along origin count (e ∷ events) s late lines possible few short prompt a =
    let more = counted-more count e events in
    let one = event-along origin count s late lines e (All-head (IsHalfPossible origin.setting.numbers) e events possible) (omega (arith, few)) (omega (arith, few, more)) short prompt.0 a in
    subst (λ (told : List Line). Ends origin (state_after plain_node (after_event plain_node s e) events) told) (append_assoc lines (lines_of plain_node s e) (lines_after plain_node (after_event plain_node s e) events))
    (events-along origin (counted count e) events (after_event plain_node s e) (late_event late s e) (lines ++ lines_of plain_node s e) (All-tail (IsHalfPossible origin.setting.numbers) e events possible) (omega (arith, few, more)) short prompt.1 one)
