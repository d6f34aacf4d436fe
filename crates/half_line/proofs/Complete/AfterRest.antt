-- Each command that the master hands out from a state at rest on is answered.
use Rattle.std.proofs.Common.{◌≡◌, ◌∙◌, ℕ, zero, suc, ◌≤◌, Bool, true, false, List, [], ◌++◌, length, get_or, Option, Some, refl, ap, sym, subst, arith, inl, inr}
use Rattle.std.specs.Prelude.{All, slice_get, count_by}
use Rattle.std.specs.Option.{option_map_or}
use Rattle.std.proofs.lemmas.List.{length-map}
use Rattle.std.proofs.lemmas.Option.{slice_get-get_or}
use Rattle.pccc_envelope.specs.Envelope.{tns_of}
use Rattle.df1_node.specs.Initiator.{Issued, Waiting, is_waiting}
use Rattle.df1_node.specs.Node.{NodeState}
use Rattle.script_parts.specs.declared.script.Event.{Event}
use Rattle.script_parts.specs.declared.script.Script.{Script}
use Rattle.script_parts.specs.HalfPlayable.{IsHalfPossible, IsHalfPlayable, is_issue, numbers_of}
use Rattle.script_statement.specs.declared.who.Who.TheVariants.{M}
use Rattle.replay_report.specs.declared.record.Line.{Line}
use Rattle.each_once.specs.Commands.{AreOutcomesTold}
use Rattle.each_once.proofs.AcceptedReplies.{tns-place}
use Rattle.each_once.proofs.CommandsUnderWay.{IsDone, body-of}
use Rattle.half_line.specs.Behind.{plain_node}
use Rattle.half_line.specs.Acts.{HalfState}
use Rattle.half_line.specs.Complete.{IsAnsweredByOne}
use Rattle.half_line.specs.Issues.{commands_of_m, issued_of, bodies_of}
use Rattle.half_line.specs.Once.{EachOnce}
use Rattle.half_line.specs.Rest.{IsCalmAfter, is_to_come, IsWellAfter}
use Rattle.half_line.specs.Run.{start, state_after, lines_after, last_state, record_from}
use Rattle.half_line.proofs.Once.EachStation.{setting_of, holds-start, each-once}
use Rattle.half_line.proofs.Once.MasterCommands.{issued-run}
use Rattle.half_line.proofs.Once.MasterOutcomes.{outcomes-run}
use Rattle.half_line.proofs.Once.WholeRun.{kept-events}
use Rattle.half_line.proofs.Complete.AnsweredCommands.{AreSettled, are-settled, done-or-waits, origin_at, one-answered}
use Rattle.half_line.proofs.Complete.EarlierCommands.{is_new, IsHandedAt, AreStillHanded, old-handed}
use Rattle.half_line.proofs.Complete.Fronts.{all-front, count-both, state-both, lines-both}
use Rattle.half_line.proofs.Complete.LineFacts.{Known, known}
use Rattle.half_line.proofs.Complete.Origin.{Origin}
use Rattle.half_line.proofs.Complete.RestingLine.{are-short, ends-after}
use Rattle.half_line.proofs.Complete.RunSteps.{Along}

-- ---- one command, counted from 0

-- how it stood and how it stands, by what was to come
stood : (m : List Issued) (k : ℕ) (c : Issued) → slice_get m k ≡ Some c → option_map_or (λ x. is_waiting x.standing) (slice_get m k) true ≡ is_waiting c.standing
stood issued k c at = ap (λ (o : Option Issued). option_map_or (λ x. is_waiting x.standing) o true) at

-- one that wasn't handed out before has another body than those that were
is-later : (origin : Origin) (s : HalfState NodeState) (lines : List Line) (k : ℕ) (c : Issued) → Known origin s.master s.stations lines → AreStillHanded origin.issued (issued_of s.master) → slice_get (issued_of s.master) k ≡ Some c
    → option_map_or (λ x. is_waiting x.standing) (slice_get origin.issued k) true ≡ true → is_new origin.issued c.body ≡ true
is-later origin s lines k c known still at came = by-test (is_new origin.issued c.body) refl
  where
    by-test : (new : Bool) → is_new origin.issued c.body ≡ new → new ≡ true
    by-test true is = refl
    by-test false is =
        let old = old-handed origin.issued c.body is in
        let there = still old.0 c.body old.1 in
        let place : old.0 ≡ k = tns-place s.master.host.initiator.tns (issued_of s.master) old.0 k there.command c known.numbered known.few there.is_at at (ap tns_of there.has_body) in
        let here = subst (λ (p : ℕ). IsHandedAt origin.issued p c.body) place old.1 in
        absurd (let clash : false ≡ true = sym here.handed ∙ sym (stood origin.issued k here.command here.is_at) ∙ came in cc)

-- so where it doesn't wait, it is answered
is-answered : (origin : Origin) (s : HalfState NodeState) (lines : List Line) (k : ℕ) (c : Issued) → Known origin s.master s.stations lines → AreSettled origin s lines → slice_get (issued_of s.master) k ≡ Some c
    → option_map_or (λ x. is_waiting x.standing) (slice_get origin.issued k) true ≡ true → option_map_or (λ x. is_waiting x.standing) (slice_get (issued_of s.master) k) true ≡ false → IsDone c.standing
is-answered origin s lines k c known a at came gone = elim (done-or-waits origin s lines known a k c at (is-later origin s lines k c known a.ledger.handed at came)) [
  | inl done ↦ done
  | inr waits ↦ absurd (let clash : true ≡ false = sym waits ∙ sym (stood (issued_of s.master) k c at) ∙ gone in cc)
]

-- ---- a run

by-number : (script : Script) (playable : IsHalfPlayable script) (count : ℕ) (s : HalfState NodeState) (before : List Line) (issued : List Issued) (lines : List Line) → length (issued_of s.master) ≡ length (commands_of_m script)
    → ((k : ℕ) (c : Issued) → slice_get (issued_of s.master) k ≡ Some c → option_map_or (λ x. is_waiting x.standing) (slice_get issued k) true ≡ true → option_map_or (λ x. is_waiting x.standing) (slice_get (issued_of s.master) k) true ≡ false → IsAnsweredByOne script (record_from plain_node s (before ++ lines)) (suc k))
    → (m : HalfState NodeState) → issued_of m.master ≡ issued → (n : ℕ) → 1 ≤ n → n ≤ length (commands_of_m script) → is_to_come m.master n ≡ true → is_to_come s.master n ≡ false → IsAnsweredByOne script (record_from plain_node s (before ++ lines)) n
by-number script playable count s before issued lines same each m is zero least most came gone = absurd (omega (arith, least))
by-number script playable count s before issued lines same each m is (suc k) least most came gone =
    let none : Issued = record { body = []; standing = Waiting } in
    each k (get_or (issued_of s.master) k none) (slice_get-get_or (issued_of s.master) k none (omega (arith, same, most))) (subst (λ (all : List Issued). option_map_or (λ x. is_waiting x.standing) (slice_get all k) true ≡ true) is came) gone

pub goes-well : (script : Script) (front rest : List Event) → IsHalfPlayable script → IsCalmAfter script front rest → IsWellAfter script front (record_from plain_node (last_state script) (lines_after plain_node (start script) script.events))
goes-well script front rest playable c =
    let setting = setting_of script playable in
    let numbers = numbers_of script.ends in
    let s = state_after plain_node (start script) front in
    let last = last_state script in
    let before = lines_after plain_node (start script) front in
    let since = lines_after plain_node s rest in
    let issued = issued_of s.master in
    let origin = origin_at script playable before issued in
    let possible = subst (λ (events : List Event). All (IsHalfPossible numbers) events) c.events playable.events in
    let few = subst (λ (events : List Event). count_by is_issue events ≤ 65535) c.events playable.commands in
    let both = count-both front rest in
    let held = kept-events setting numbers 0 front (start script) [] (all-front numbers front rest possible) (omega (arith, few, both)) (λ zero. holds-start script playable) c.undeceived in
    let e = ends-after script playable front rest c.events c.rooms c.turns c.at_rest c.undeceived held c.prompt in
    let last_is : last ≡ state_after plain_node s rest = ap (state_after plain_node (start script)) c.events ∙ state-both (start script) front rest in
    let told_is : lines_after plain_node (start script) script.events ≡ before ++ since = ap (lines_after plain_node (start script)) c.events ∙ lines-both (start script) front rest in
    let along : Along origin e.count last e.late since = subst (λ (t : HalfState NodeState). Along origin e.count t e.late since) (sym last_is) e.along in
    let h = along.kept along.flow.honest in
    let k = known origin e.count last since e.few (are-short script playable) h in
    let a = are-settled origin last e.late since c.quiet c.fetched along.flow in
    let bodies : bodies_of last.master ≡ commands_of_m script = (issued-run script).bodies in
    let outcomes = outcomes-run script playable in
    let once = each-once script playable bodies outcomes along.flow.honest in
    let told = subst (λ (lines : List Line). AreOutcomesTold M (issued_of last.master) lines) told_is outcomes in
    let all_once = subst (λ (lines : List Line). EachOnce script (record_from plain_node last lines)) told_is once in
    record {
      honest = along.flow.honest;
      answered = λ n least most came gone. subst (λ (lines : List Line). IsAnsweredByOne script (record_from plain_node last lines) n) (sym told_is)
          (by-number script playable e.count last before issued since (sym (length-map (issued_of last.master) (λ (x : Issued). x.body)) ∙ ap length bodies)
          (λ k1 c1 at came1 gone1. one-answered script playable e.count last before issued since k1 c1 told all_once k h (a.ledger.declared k1 c1.body (body-of (issued_of last.master) k1 c1 at)) (is-answered origin last since k1 c1 k a at came1 gone1) at)
          s refl n least most came gone);
    }
