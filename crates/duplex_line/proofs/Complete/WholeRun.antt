-- Over a whole run that nothing disturbs, and that ends with nothing under way: each command executed and answered.
use Rattle.std.proofs.Common.{◌≡◌, ◌∙◌, ℕ, zero, suc, ◌≤◌, Bool, true, false, List, [], ◌∷◌, ◌++◌, length, map, Some, None, refl, ap, sym, arith, inl, inr}
use Rattle.std.specs.Prelude.{slice_get, ◌&&◌}
use Rattle.std.specs.List.{filter}
use Rattle.std.proofs.lemmas.List.{length-map}
use Rattle.std.proofs.lemmas.List.Elements.{filter-append}
use Rattle.df1_node.specs.Answer.{StationState}
use Rattle.df1_node.specs.Initiator.{Issued, next_command}
use Rattle.script_statement.specs.declared.who.Who.{Who}
use Rattle.script_statement.specs.declared.who.Who.TheVariants.{A, B}
use Rattle.script_parts.specs.declared.script.Script.{Script}
use Rattle.script_parts.specs.Playable.{IsPlayable}
use Rattle.replay_report.specs.declared.record.Line.{Line}
use Rattle.each_once.specs.Commands.{AreOutcomesTold}
use Rattle.each_once.specs.Exchanges.{exchanges}
use Rattle.each_once.specs.Once.{Once, IsAnswered}
use Rattle.each_once.specs.Tells.{executed_in}
use Rattle.duplex_line.specs.Acts.{LineEndState}
use Rattle.duplex_line.specs.Complete.{AreAllDone, IsComplete}
use Rattle.duplex_line.specs.Issues.{issued_of, bodies_of}
use Rattle.duplex_line.specs.Prompt.{none_late, is_quiet, IsPrompt, EndsQuiet, HasRooms}
use Rattle.duplex_line.specs.Recoverable.{no_damages, IsMildAfter, HasFewTicksAfter, IsRecoverable}
use Rattle.duplex_line.specs.Rest.{is_at_rest, is_resting}
use Rattle.duplex_line.specs.Run.{first_station, plan_of_a, plan_of_b, start, lines_after, last_state, record_from}
use Rattle.each_once.proofs.CommandsUnderWay.{IsDone, filter-all, under-way-rested, all-done, under-way-full}
use Rattle.each_once.proofs.HandedOut.{is_command, AreHanded}
use Rattle.each_once.proofs.HandedOrder.{AreAt}
use Rattle.each_once.proofs.WaitingCommands.{is_other}
use Rattle.duplex_line.proofs.Once.Settings.{Allowance}
use Rattle.duplex_line.proofs.Once.ToldCommands.{recounts-run}
use Rattle.duplex_line.proofs.Once.WholeRun.{each-once}
use Rattle.duplex_line.proofs.Wire.FirstState.{first-quiet}
use Rattle.duplex_line.proofs.Complete.AfterRest.{goes-on, answered-of}
use Rattle.duplex_line.proofs.Complete.GentleSteps.{prompt-after}
use Rattle.duplex_line.proofs.Complete.Invariant.{Origin, is_later, IsAhead}
use Rattle.duplex_line.proofs.Complete.RestingEnds.{from-rest}
use Rattle.duplex_line.proofs.Complete.RunSteps.{IsSureOf, damage_events}
use Rattle.duplex_line.proofs.Complete.TickStep.{quiet-still, at-rest}
use Rattle.duplex_line.proofs.Complete.ToldMessages.{TellsOf}

-- ---- the first state

-- before the first event the line is at rest
pub first-rests : (script : Script) → is_at_rest (start script) ≡ true
first-rests script = by-quiet (is_quiet (start script)) (first-quiet script)
  where
    by-quiet : (quiet : Bool) → quiet ≡ true → (quiet && (is_resting (start script).a && is_resting (start script).b)) ≡ true
    by-quiet true is = refl
    by-quiet false is = absurd cc

-- an end without commands handed out none
none-handed : (issued : List Issued) (handed : List (List ℕ)) → issued ≡ [] → AreHanded issued handed → handed ≡ []
none-handed issued handed none h = by-places h.order handed h.are_at
  where
    by-places : (ps : List ℕ) (xs : List (List ℕ)) → AreAt (map (λ c. c.body) issued) ps xs → xs ≡ []
    by-places [] [] at = refl
    by-places [] (x ∷ xs) at = absurd at
    by-places (p ∷ ps) [] at = refl
    by-places (p ∷ ps) (x ∷ xs) at = absurd (let found = at.0 in let no : slice_get (map (λ (c : Issued). c.body) []) p ≡ Some x = sym (ap (λ (cs : List Issued). slice_get (map (λ (c : Issued). c.body) cs) p) none) ∙ found in cc)

-- ---- the commands of one end, where nothing is under way

at-place : (issued : List Issued) (k : ℕ) → suc k ≤ length issued → (c : Issued) × (slice_get issued k ≡ Some c)
at-place [] k within = absurd (omega (arith, within))
at-place (c ∷ cs) zero within = (c, refl)
at-place (c ∷ cs) (suc k) within = at-place cs k (omega (arith, within))

-- each command passes the test of those that weren't handed out before the first event
each-later : (first : Origin) → filter is_command first.sent ≡ [] → (body : List ℕ) → is_later first body ≡ true
each-later first none body = ap (λ (handed : List (List ℕ)). is_other handed body) none

each-done : (from to : Who) (near far : Origin) (station : StationState) (after : LineEndState) (commands told heard : List (List ℕ)) (late : ℕ) (lines : List Line) → filter is_command near.sent ≡ [] → filter is_command far.heard ≡ [] → commands ≡ heard
    → next_command after.end.host.initiator ≡ None → 1 ≤ after.end.host.initiator.window → 1 ≤ after.end.host.initiator.per_source → (a : IsAhead near after.end.host.initiator (filter is_command commands) told late) → a.done ≡ length (filter is_command commands) → TellsOf to (far.heard ++ heard) lines
    → AreOutcomesTold from (issued_of after) lines → (bodies : List (List ℕ)) → bodies_of after ≡ bodies → Once from to bodies station lines → AreAllDone from to bodies station lines
each-done from to near far station after commands told heard late lines none_sent none_heard all_heard nothing window per_source a all executes outcomes bodies are once =
    let handed = filter is_command commands in
    let issued = issued_of after in
    let mine = is_later near in
    let each = all-done after.end.host.initiator window per_source nothing (λ k c at. under-way-rested mine after.end.host.initiator handed a.done _ all a.under_way k c at (each-later near none_sent c.body)) in
    let full : length handed ≡ length issued = under-way-full mine after.end.host.initiator handed a.done _ a.under_way each ∙ ap length (filter-all mine (each-later near none_sent) (map (λ c. c.body) issued)) ∙ length-map issued (λ c. c.body) in
    let split : filter is_command (far.heard ++ heard) ≡ filter is_command heard = filter-append is_command far.heard heard ∙ ap (λ (xs : List (List ℕ)). xs ++ filter is_command heard) none_heard in
    let count : length (executed_in to lines) ≡ length bodies =
    ap length (executes.executes ∙ split ∙ ap (filter is_command) (sym all_heard)) ∙ full ∙ sym (length-map issued (λ c. c.body)) ∙ ap length are in
    record {
      executed = (once.in_order, count);
      answered = by-number (sym (length-map issued (λ c. c.body)) ∙ ap length are) each;
    }
  where
    by-number : length (issued_of after) ≡ length bodies → ((k : ℕ) (c : Issued) → slice_get (issued_of after) k ≡ Some c → IsDone c.standing)
        → (n : ℕ) → 1 ≤ n → n ≤ length bodies → IsAnswered from bodies (exchanges station (executed_in to lines)) lines n
    by-number same each zero least most = absurd (omega (arith, least))
    by-number same each (suc k) least most =
        let c = at-place (issued_of after) k (omega (arith, same, most)) in
        answered-of from to bodies station (issued_of after) lines outcomes once k c.0 c.1 (each k c.0 c.1)

-- a run that is mild, has few late ticks, and in which no end was deceived or nothing was altered
completes : (script : Script) → IsPlayable script → HasRooms script → IsMildAfter no_damages (start script) script.events → HasFewTicksAfter none_late (start script) script.events → EndsQuiet script → IsSureOf (last_state script) (damage_events no_damages (start script) script.events)
    → IsComplete script (record_from (last_state script) (lines_after (start script) script.events))
completes script playable rooms mild few quiet sure =
    let s = last_state script in
    let lines = lines_after (start script) script.events in
    let reached = from-rest script [] script.events playable refl rooms (first-rests script) refl in
    let ends = goes-on script [] script.events playable refl reached mild few sure in
    let h = ends.flows in
    let rest = at-rest A B reached.of_a reached.of_b s ends.late ends.dam lines h (quiet-still s quiet) in
    let r = recounts-run script playable in
    let once = each-once script playable h.honest in
    let sent_a = none-handed (issued_of (start script).a) (filter is_command reached.of_a.sent) refl reached.hosts.initiates.in_order in
    let sent_b = none-handed (issued_of (start script).b) (filter is_command reached.of_b.sent) refl reached.far_hosts.initiates.in_order in
    record {
      honest = h.honest;
      of_a = each-done A B reached.of_a reached.of_b (first_station (plan_of_b script)) s.a h.sent h.heard h.far_heard ends.late.a lines sent_a (sym reached.far_executed) rest.all_heard rest.nothing_waits.1
          (some-window h.allowed h.rooms.near_some h.end.allowed.window) h.end.allowed.per_source h.end.ahead rest.none_out h.far_tells r.recounts.outcomes _ r.recounts.issued.bodies once.to_b;
      of_b = each-done B A reached.of_b reached.of_a (first_station (plan_of_a script)) s.b h.far_sent h.far_heard h.heard ends.late.b lines sent_b (sym reached.executed) rest.far_all_heard rest.far_nothing_waits.1
          (some-window h.far_allowed h.rooms.far_some h.far_end.allowed.window) h.far_end.allowed.per_source h.far_end.ahead rest.far_none_out h.tells r.far_recounts.outcomes _ r.far_recounts.issued.bodies once.to_a;
    }
  where
    some-window : {window : ℕ} (allowed : Allowance) → 1 ≤ allowed.window → window ≡ allowed.window → 1 ≤ window
    some-window allowed some is = omega (arith, some, is)

-- ---- a run of which the line recovers

pub recovers : (script : Script) → IsPlayable script → IsRecoverable script → IsComplete script (record_from (last_state script) (lines_after (start script) script.events))
recovers script playable r = completes script playable r.rooms r.mild r.few r.quiet (inl r.undeceived)

-- ---- a run that nothing disturbs

pub is-complete : (script : Script) → IsPlayable script → HasRooms script → IsPrompt script → EndsQuiet script → IsComplete script (record_from (last_state script) (lines_after (start script) script.events))
is-complete script playable rooms prompt quiet =
    let all = prompt-after script.events (start script) none_late no_damages (refl, refl) prompt in
    completes script playable rooms all.0 all.1 quiet (inr all.2)
