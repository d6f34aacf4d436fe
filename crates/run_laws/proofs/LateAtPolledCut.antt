-- A half-duplex script cut where the report tells a command as ended and nothing is on its way to a station: no later line tells it as executed there.
use Rattle.std.proofs.Common.{◌≡◌, ◌∙◌, ℕ, suc, true, List, ◌++◌, Some, get_or, slice_get, sym, ap, subst}
use Rattle.std.specs.Prelude.{All, Contains}
use Rattle.std.proofs.lemmas.List.Elements.{All-nil}
use Rattle.std.proofs.lemmas.Option.{slice_get-get_or}
use Rattle.each_once.specs.Tells.{executed_in}
use Rattle.each_once.specs.Commands.{AreOutcomesTold, command_at}
use Rattle.half_line.specs.Behind.{plain_node}
use Rattle.half_line.specs.Issues.{commands_of_m, issued_of}
use Rattle.half_line.specs.Run.{start, lines_after, last_state, record_of as polled_record}
use Rattle.half_line.proofs.Once.EachStation.{are-distinct}
use Rattle.half_line.proofs.Once.MasterOutcomes.{outcomes-run}
use Rattle.lane_cells.specs.Cells.{LaneCell}
use Rattle.line_world.specs.Runs.{record_of}
use Rattle.line_world.proofs.EitherMode.{polled-record}
use Rattle.run_laws.specs.Overtaking.{with_events}
use Rattle.run_laws.proofs.Cut.{half-front}
use Rattle.replay_report.specs.declared.record.Line.{Line}
use Rattle.replay_report.specs.declared.record.Record.{Record}
use Rattle.script_parts.specs.declared.script.EndPlan.{EndPlan}
use Rattle.script_parts.specs.declared.script.Event.{Event}
use Rattle.script_parts.specs.declared.script.Script.{Script}
use Rattle.script_parts.specs.HalfPlayable.{IsHalfPlayable, station_plans}
use Rattle.script_statement.specs.declared.who.Who.TheVariants.{M, S}
use Rattle.run_laws.specs.GivenUp.{AtStations, IsCleared, NeverLater, lines_so_far}
use Rattle.run_laws.specs.Over.{IsOfOther, IsOverTo, MasterHoldsNot}
use Rattle.run_laws.proofs.ClearedStation.{is-empty, lane_to, lines-both, so-far, station-there}
use Rattle.run_laws.proofs.LateAtCut.{same-body, told-place}
use Rattle.run_laws.proofs.NoneSettled.{no-settled-held}
use Rattle.run_laws.proofs.OverAtPolledCut.{bodies-front, over-there-for-good, state_at}

-- a script, cut after these events
record Cut (script : Script) (front back : List Event) : Type 0 where
  playable : IsHalfPlayable script
  none : (last_state script).deceived ≡ 0
  is : script.events ≡ front ++ back

outcomes-at : (script : Script) (front back : List Event) → Cut script front back → AreOutcomesTold M (issued_of (state_at script front).master) (lines_so_far script front)
outcomes-at script front back cut = subst (AreOutcomesTold M (issued_of (state_at script front).master)) (sym (so-far script front cut.playable.mode)) (outcomes-run (with_events script front) (half-front script front back cut.playable cut.is))

-- to the station of a plan
late-none : (script : Script) (front back : List Event) → Cut script front back → (place : ℕ) (plan : EndPlan) → slice_get (station_plans script.ends) place ≡ Some plan → IsCleared (lane_to plan.node) script front
    → NeverLater M (S plan.node) (λ outcome. Unit {0}) (commands_of_m script) (lines_so_far script front) (lines_after plain_node (state_at script front) back)
late-none script front back cut place plan at cleared n outcome told ended executed =
    let m = (state_at script front).master in
    let issued = issued_of m in
    let there = station-there script front place plan at in
    let empty = is-empty script cut.playable.mode (are-distinct script.ends cut.playable.ends) front place plan at cleared there.0 there.1 in
    let found = told-place M issued (lines_so_far script front) (outcomes-at script front back cut) n outcome told in
    let stands = found.2 in
    let front_of = bodies-front script front back cut.is in
    let at_place : slice_get (commands_of_m script) found.0 ≡ Some executed.body = sym (ap (command_at (commands_of_m script)) found.1) ∙ executed.is_command in
    let same = same-body issued found.0 stands.command (commands_of_m script) front_of.0 executed.body stands.is_at front_of.1 at_place in
    let over : IsOverTo m there.0 (suc found.0) executed.body = record {
      standing = stands.command;
      is_command = stands.is_at;
      has_body = same;
      handed_out = stands.handed_out;
      holds_not = subst (MasterHoldsNot m) same (no-settled-held script cut.playable cut.none front back cut.is (suc found.0) stands.command stands.is_at stands.settled);
      none_comes = subst (All (λ (cell : LaneCell). IsOfOther executed.body cell.ends)) (sym empty) (All-nil (λ (cell : LaneCell). IsOfOther executed.body cell.ends));
    } in
    over-there-for-good script cut.playable cut.none front back cut.is place there.0 there.1 (suc found.0) executed.body over
    (subst (λ (number : ℕ). Contains (executed_in (S number) (lines_after plain_node (state_at script front) back)) executed.body) (sym there.2) executed.is_executed)

-- the lines of the report, where it is cut
pub cut-report : (script : Script) (front back : List Event) → script.half ≡ true → script.events ≡ front ++ back → (record_of script).lines ≡ lines_so_far script front ++ lines_after plain_node (state_at script front) back
unfolding polled_record
cut-report script front back mode is =
    ap (λ (r : Record). r.lines) (polled-record script mode) ∙ ap (lines_after plain_node (start script)) is ∙ lines-both front back (start script)
    ∙ ap (λ (l : List Line). l ++ lines_after plain_node (state_at script front) back) (sym (so-far script front mode))

pub at-stations : (script : Script) → IsHalfPlayable script → (last_state script).deceived ≡ 0 → (front back : List Event) → script.events ≡ front ++ back → AtStations script front (lines_so_far script front) (lines_after plain_node (state_at script front) back)
at-stations script playable none front back is place plan inside =
    let cut : Cut script front back = record { playable = playable; none = none; is = is } in
    let here = slice_get-get_or (station_plans script.ends) place plan inside in
    late-none script front back cut place (get_or (station_plans script.ends) place plan) here
