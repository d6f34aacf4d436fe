-- Each command that is handed out from a state at rest on is answered.
use Rattle.std.proofs.Common.{◌≡◌, ◌∙◌, ℕ, zero, suc, ◌+◌, ◌≤◌, Bool, true, false, List, [], ◌∷◌, ◌++◌, Option, Some, None, refl, ap, sym, subst, arith, append_assoc, inl, inr}
use Rattle.std.specs.Prelude.{All, count_by, sum_by, slice_get}
use Rattle.std.specs.List.{filter}
use Rattle.std.specs.Option.{option_map_or}
use Rattle.std.proofs.lemmas.List.Sums.{sum_by-append}
use Rattle.std.proofs.lemmas.List.Elements.{All-head, All-tail, filter_map-append}
use Rattle.df1_node.specs.Answer.{StationState}
use Rattle.df1_node.specs.Initiator.{Issued, is_waiting}
use Rattle.script_statement.specs.declared.who.Who.{Who}
use Rattle.script_statement.specs.declared.who.Who.TheVariants.{A, B, M, S}
use Rattle.script_parts.specs.declared.script.Event.{Event}
use Rattle.script_parts.specs.declared.script.Script.{Script}
use Rattle.script_parts.specs.Playable.{IsPossible, IsPlayable, issues, count_of}
use Rattle.replay_report.specs.declared.record.Line.{Line}
use Rattle.each_once.specs.Commands.{Request, command_bodies, AreOutcomesTold}
use Rattle.each_once.specs.Exchanges.{exchanges}
use Rattle.each_once.specs.Once.{AreApart, Once, IsReplyTo, IsAnswered}
use Rattle.each_once.specs.Tells.{executed_in, answers_in}
use Rattle.duplex_line.specs.Acts.{LineEndState, LineState, swapped, Deed, arriving, after_deed, after_deeds}
use Rattle.duplex_line.specs.Issues.{request_at, requests_in, commands_of_a, commands_of_b, issued_of, bodies_of}
use Rattle.duplex_line.specs.Plays.{issued_by}
use Rattle.duplex_line.specs.Prompt.{Late, none_late, EndsQuiet, HasRooms}
use Rattle.duplex_line.specs.Recoverable.{Damages, no_damages, IsMildAfter, HasFewTicksAfter}
use Rattle.duplex_line.specs.Rest.{is_at_rest, IsCalmAfter, IsMildAfterRest, IsSoundAfter, is_to_come, AreAnsweredSince, IsWellAfter}
use Rattle.duplex_line.specs.Run.{first_station, plan_of_a, plan_of_b, start, who_of, deeds_of, seen_from, after_event, lines_of, state_after, lines_after, last_state, record_from}
use Rattle.each_once.proofs.AnsweredCommands.{answered-at}
use Rattle.each_once.proofs.CommandsUnderWay.{IsDone, IsDoneOrWaits, body-of, under-way-rested}
use Rattle.each_once.proofs.HandedOut.{is_command, Hosts, handed-at}
use Rattle.each_once.proofs.Sublists.{all-at}
use Rattle.each_once.proofs.WaitingCommands.{is_one_of, is_other, one-of}
use Rattle.duplex_line.proofs.Steps.EventsToCome.{room-of-a, room-of-b}
use Rattle.duplex_line.proofs.Once.ToldCommands.{recounts-run}
use Rattle.duplex_line.proofs.Once.WholeRun.{earlier, each-once}
use Rattle.duplex_line.proofs.Wire.Fronts.{front-plays}
use Rattle.duplex_line.proofs.Complete.GentleSteps.{prompt-after}
use Rattle.duplex_line.proofs.Complete.Invariant.{Origin, is_later, Flows}
use Rattle.duplex_line.proofs.Complete.RestingEnds.{IsReached, from-rest}
use Rattle.duplex_line.proofs.Complete.RunSteps.{IsSureOf, HasSpare, late_events, damage_events, steps_of, all-steps, spare-event, flows-events}
use Rattle.duplex_line.proofs.Complete.TickStep.{quiet-still, at-rest}

-- ---- a run in two parts

pub state-both : (s : LineState) (front rest : List Event) → state_after s (front ++ rest) ≡ state_after (state_after s front) rest
state-both s [] rest = refl
state-both s (e ∷ front) rest = state-both (after_event s e) front rest

pub lines-both : (s : LineState) (front rest : List Event) → lines_after s (front ++ rest) ≡ lines_after s front ++ lines_after (state_after s front) rest
lines-both s [] rest = refl
lines-both s (e ∷ front) rest = ap (λ (lines : List Line). lines_of s e ++ lines) (lines-both (after_event s e) front rest) ∙ sym (append_assoc (lines_of s e) (lines_after (after_event s e) front) (lines_after (state_after (after_event s e) front) rest))

pub all-back : (front rest : List Event) → All IsPossible (front ++ rest) → All IsPossible rest
all-back [] rest all = all
all-back (e ∷ front) rest all = all-back front rest (All-tail IsPossible e (front ++ rest) all)

room-left-a : (front rest : List Event) (s : LineState) → All IsPossible (front ++ rest) → issued_by s.a + count_by (issues A) (front ++ rest) ≤ 65535 → issued_by (state_after s front).a + count_by (issues A) rest ≤ 65535
room-left-a [] rest s possible few = few
room-left-a (e ∷ front) rest s possible few = room-left-a front rest (after_event s e) (All-tail IsPossible e (front ++ rest) possible) (room-of-a s e (front ++ rest) (All-head IsPossible e (front ++ rest) possible) few)

room-left-b : (front rest : List Event) (s : LineState) → All IsPossible (front ++ rest) → issued_by s.b + count_by (issues B) (front ++ rest) ≤ 65535 → issued_by (state_after s front).b + count_by (issues B) rest ≤ 65535
room-left-b [] rest s possible few = few
room-left-b (e ∷ front) rest s possible few = room-left-b front rest (after_event s e) (All-tail IsPossible e (front ++ rest) possible) (room-of-b s e (front ++ rest) (All-head IsPossible e (front ++ rest) possible) few)

spare-left : (front : List Event) (s : LineState) (n : ℕ) → HasSpare s (steps_of front + n) → HasSpare (state_after s front) n
spare-left [] s n h = record { of_a = let a = h.of_a in omega (arith, a); of_b = let b = h.of_b in omega (arith, b) }
spare-left (e ∷ front) s n h = spare-left front (after_event s e) n (spare-event e s (steps_of front + n) (record { of_a = let a = h.of_a in omega (arith, a); of_b = let b = h.of_b in omega (arith, b) }))

-- an end that was deceived before was deceived
deceived-deeds : (s : LineState) (deeds : List Deed) → (after_deeds s deeds).deceived ≡ 0 → s.deceived ≡ 0
deceived-deeds s [] none = none
deceived-deeds s (deed ∷ deeds) none = earlier s.deceived s.b (arriving s.a deed) (deceived-deeds (after_deed s deed) deeds none)

deceived-seen : (who : Who) (s : LineState) (deeds : List Deed) → (seen_from who (after_deeds (seen_from who s) deeds)).deceived ≡ 0 → s.deceived ≡ 0
deceived-seen A s deeds none = deceived-deeds s deeds none
deceived-seen B s deeds none = deceived-deeds (swapped s) deeds none
deceived-seen M s deeds none = deceived-deeds s deeds none
deceived-seen (S station) s deeds none = deceived-deeds s deeds none

pub deceived-before : (events : List Event) (s : LineState) → (state_after s events).deceived ≡ 0 → s.deceived ≡ 0
deceived-before [] s none = none
deceived-before (e ∷ events) s none = deceived-seen (who_of e) s (deeds_of e) (deceived-before events (after_event s e) none)

-- ---- the end of a run

-- what holds there, seen from the state at rest
pub record Ends (script : Script) (first far_first : Origin) : Type 0 where
  pub late : Late
  pub dam : Damages
  pub flows : Flows A B first far_first (last_state script) late dam (lines_after (start script) script.events)

pub goes-on : (script : Script) (front rest : List Event) → IsPlayable script → script.events ≡ front ++ rest → (r : IsReached script (state_after (start script) front) (lines_after (start script) front)) → IsMildAfter no_damages (state_after (start script) front) rest → HasFewTicksAfter none_late (state_after (start script) front) rest
    → IsSureOf (last_state script) (damage_events no_damages (state_after (start script) front) rest) → Ends script r.of_a r.of_b
goes-on script front rest playable is r mild few sure =
    let s = state_after (start script) front in
    let lines = lines_after (start script) front in
    let late = late_events none_late s rest in
    let dam = damage_events no_damages s rest in
    let possible = subst (λ (events : List Event). All IsPossible events) is playable.events in
    let few_a = subst (λ (events : List Event). count_by (issues A) events ≤ 65535) is playable.commands_of_a in
    let few_b = subst (λ (events : List Event). count_by (issues B) events ≤ 65535) is playable.commands_of_b in
    let sum = subst (λ (events : List Event). sum_by count_of events ≤ 5000000) is playable.sum in
    let all = sum_by-append count_of front rest in
    let steps_front = all-steps front in
    let steps_rest = all-steps rest in
    let spare : HasSpare (start script) (steps_of front + steps_of rest) = record { of_a = omega (arith, steps_front, steps_rest, all, sum); of_b = omega (arith, steps_front, steps_rest, all, sum) } in
    let last : last_state script ≡ state_after s rest = ap (state_after (start script)) is ∙ state-both (start script) front rest in
    let told : lines_after (start script) script.events ≡ lines ++ lines_after s rest = ap (lines_after (start script)) is ∙ lines-both (start script) front rest in
    let h = flows-events r.of_a r.of_b rest s none_late no_damages lines (all-back front rest possible) (room-left-a front rest (start script) possible (omega (arith, few_a))) (room-left-b front rest (start script) possible (omega (arith, few_b))) (spare-left front (start script) (steps_of rest) spare) mild few
    (λ sure. r.flows) (subst (λ (t : LineState). IsSureOf t dam) last sure) in
    record {
      late = late;
      dam = dam;
      flows = subst (λ (t : LineState). Flows A B r.of_a r.of_b t late dam (lines_after (start script) script.events)) (sym last) (subst (λ (all : List Line). Flows A B r.of_a r.of_b (state_after s rest) late dam all) (sym told) h);
    }

-- ---- the commands of one end

-- an answered command is told as such
pub answered-of : (from to : Who) (bodies : List (List ℕ)) (first : StationState) (issued : List Issued) (lines : List Line) → AreOutcomesTold from issued lines → Once from to bodies first lines → (k : ℕ) (c : Issued) → slice_get issued k ≡ Some c → IsDone c.standing
    → IsAnswered from bodies (exchanges first (executed_in to lines)) lines (suc k)
answered-of from to bodies first issued lines told once k c is done =
    let answered = exchanges first (executed_in to lines) in
    answered-at from bodies answered issued lines told k c is done (λ reply by among. all-at (λ a. IsReplyTo bodies answered a.0 a.1) (answers_in from lines) among.0 (suc k, reply) once.answers among.1)

-- the commands of the first requests are the first
pub bodies-more : (number : ℕ) (requests more : List Request) (k : ℕ) (body : List ℕ) → slice_get (command_bodies number requests) k ≡ Some body → slice_get (command_bodies number (requests ++ more)) k ≡ Some body
bodies-more number [] more k body at = absurd cc
bodies-more number (request ∷ requests) more zero body at = at
bodies-more number (request ∷ requests) more (suc k) body at = bodies-more (number + 1) requests more k body at

-- a command that wasn't handed out at a state is none of those that were
later-is : (number : ℕ) (requests more : List Request) (before : LineEndState) (first : StationState) (sent heard bodies : List (List ℕ)) → Hosts first before.end.host sent heard → bodies_of before ≡ command_bodies number requests → bodies ≡ command_bodies number (requests ++ more) → AreApart bodies
    → (k : ℕ) (body : List ℕ) → slice_get bodies k ≡ Some body → is_to_come before (suc k) ≡ true → is_other (filter is_command sent) body ≡ true
later-is number requests more before first sent heard bodies hosts are all apart k body at to_come = by-test (is_one_of (filter is_command sent) body) refl
  where
    by-test : (one : Bool) → is_one_of (filter is_command sent) body ≡ one → is_other (filter is_command sent) body ≡ true
    by-test false is = rw is refl
    by-test true is =
        let has = one-of (filter is_command sent) body is in
        let c = handed-at (issued_of before) (filter is_command sent) has.0 body hosts.initiates.in_order has.1 in
        let was : slice_get (command_bodies number requests) c.0 ≡ Some body = ap (λ (xs : List (List ℕ)). slice_get xs c.0) (sym are) ∙ body-of (issued_of before) c.0 c.1 c.2 ∙ ap Some c.3 in
        let place : c.0 ≡ k = apart c.0 k body (ap (λ (xs : List (List ℕ)). slice_get xs c.0) all ∙ bodies-more number requests more c.0 body was) at in
        let found : slice_get (issued_of before) k ≡ Some c.1 = ap (slice_get (issued_of before)) (sym place) ∙ c.2 in
        let came : is_to_come before (suc k) ≡ false = ap (λ (o : Option Issued). option_map_or (λ (d : Issued). is_waiting d.standing) o true) found ∙ c.4 in
        absurd (let clash : true ≡ false = sym to_come ∙ came in cc)

answers-since : (from to : Who) (before after : LineEndState) (first : Origin) (bodies : List (List ℕ)) (station : StationState) (lines : List Line) → AreOutcomesTold from (issued_of after) lines → bodies_of after ≡ bodies → Once from to bodies station lines
    → ((k : ℕ) (c : Issued) → slice_get (issued_of after) k ≡ Some c → is_later first c.body ≡ true → IsDoneOrWaits c.standing) → ((k : ℕ) (body : List ℕ) → slice_get bodies k ≡ Some body → is_to_come before (suc k) ≡ true → is_later first body ≡ true) → AreAnsweredSince from to before after bodies station lines
answers-since from to before after first bodies station lines told are once each later zero least most to_come came = absurd (omega (arith, least))
answers-since from to before after first bodies station lines told are once each later (suc k) least most to_come came = by-command (slice_get (issued_of after) k) refl
  where
    by-command : (o : Option Issued) → slice_get (issued_of after) k ≡ o → IsAnswered from bodies (exchanges station (executed_in to lines)) lines (suc k)
    by-command None at = absurd (let waits : is_to_come after (suc k) ≡ true = ap (λ (o : Option Issued). option_map_or (λ (d : Issued). is_waiting d.standing) o true) at in let clash : true ≡ false = sym waits ∙ came in cc)
    by-command (Some c) at =
        let gone : is_waiting c.standing ≡ false = sym (ap (λ (o : Option Issued). option_map_or (λ (d : Issued). is_waiting d.standing) o true) at) ∙ came in
        let body : slice_get bodies k ≡ Some c.body = ap (λ (xs : List (List ℕ)). slice_get xs k) (sym are) ∙ body-of (issued_of after) k c at in
        elim (each k c at (later k c.body body to_come)) [
          | inl done ↦ answered-of from to bodies station (issued_of after) lines told once k c at done
          | inr waits ↦ absurd (let clash : true ≡ false = sym waits ∙ gone in cc)
        ]

-- ---- both ends

goes-well : (script : Script) (front rest : List Event) → IsPlayable script → script.events ≡ front ++ rest → HasRooms script → is_at_rest (state_after (start script) front) ≡ true → (state_after (start script) front).deceived ≡ 0 → IsMildAfter no_damages (state_after (start script) front) rest → HasFewTicksAfter none_late (state_after (start script) front) rest
    → EndsQuiet script → IsSureOf (last_state script) (damage_events no_damages (state_after (start script) front) rest) → IsWellAfter script front (record_from (last_state script) (lines_after (start script) script.events))
goes-well script front rest playable is rooms at_rest honest mild few quiet sure =
    let s = last_state script in
    let lines = lines_after (start script) script.events in
    let reached = from-rest script front rest playable is rooms at_rest honest in
    let ends = goes-on script front rest playable is reached mild few sure in
    let h = ends.flows in
    let still = at-rest A B reached.of_a reached.of_b s ends.late ends.dam lines h (quiet-still s quiet) in
    let once = each-once script playable h.honest in
    let r = recounts-run script playable in
    let before = recounts-run (record script { events = front }) (front-plays script front rest playable is) in
    let node_a = (plan_of_a script).node in
    let node_b = (plan_of_b script).node in
    let all_a : commands_of_a script ≡ command_bodies (plan_of_a script).tns (requests_in A node_a front ++ requests_in A node_a rest) =
    ap (λ (events : List Event). command_bodies (plan_of_a script).tns (requests_in A node_a events)) is ∙ ap (command_bodies (plan_of_a script).tns) (filter_map-append (request_at A node_a) front rest) in
    let all_b : commands_of_b script ≡ command_bodies (plan_of_b script).tns (requests_in B node_b front ++ requests_in B node_b rest) =
    ap (λ (events : List Event). command_bodies (plan_of_b script).tns (requests_in B node_b events)) is ∙ ap (command_bodies (plan_of_b script).tns) (filter_map-append (request_at B node_b) front rest) in
    record {
      honest = h.honest;
      of_a = answers-since A B (state_after (start script) front).a s.a reached.of_a (commands_of_a script) (first_station (plan_of_b script)) lines r.recounts.outcomes r.recounts.issued.bodies once.to_b
          (under-way-rested (is_later reached.of_a) s.a.end.host.initiator (filter is_command h.sent) h.end.ahead.done _ still.none_out h.end.ahead.under_way)
          (later-is (plan_of_a script).tns (requests_in A node_a front) (requests_in A node_a rest) (state_after (start script) front).a (first_station (plan_of_a script)) reached.of_a.sent reached.of_a.heard (commands_of_a script) reached.hosts before.recounts.issued.bodies all_a once.to_b.apart);
      of_b = answers-since B A (state_after (start script) front).b s.b reached.of_b (commands_of_b script) (first_station (plan_of_a script)) lines r.far_recounts.outcomes r.far_recounts.issued.bodies once.to_a
          (under-way-rested (is_later reached.of_b) s.b.end.host.initiator (filter is_command h.far_sent) h.far_end.ahead.done _ still.far_none_out h.far_end.ahead.under_way)
          (later-is (plan_of_b script).tns (requests_in B node_b front) (requests_in B node_b rest) (state_after (start script) front).b (first_station (plan_of_b script)) reached.of_b.sent reached.of_b.heard (commands_of_b script) reached.far_hosts before.far_recounts.issued.bodies all_b once.to_a.apart);
    }

-- where nothing disturbs the line from there on
pub goes-calmly : (script : Script) (front rest : List Event) → IsPlayable script → IsCalmAfter script front rest → IsWellAfter script front (record_from (last_state script) (lines_after (start script) script.events))
goes-calmly script front rest playable c =
    let all = prompt-after rest (state_after (start script) front) none_late no_damages (refl, refl) c.prompt in
    goes-well script front rest playable c.events c.rooms c.at_rest c.undeceived all.0 all.1 c.quiet (inr all.2)

-- and where it recovers
pub goes-mildly : (script : Script) (front rest : List Event) → IsPlayable script → IsMildAfterRest script front rest → IsWellAfter script front (record_from (last_state script) (lines_after (start script) script.events))
goes-mildly script front rest playable m =
    let last : last_state script ≡ state_after (state_after (start script) front) rest = ap (state_after (start script)) m.events ∙ state-both (start script) front rest in
    let honest = deceived-before rest (state_after (start script) front) (ap (λ (t : LineState). t.deceived) (sym last) ∙ m.undeceived) in
    goes-well script front rest playable m.events m.rooms m.at_rest honest m.mild m.few m.quiet (inl m.undeceived)

pub goes-soundly : (script : Script) → IsPlayable script → (front rest : List Event) → IsSoundAfter script front rest → IsWellAfter script front (record_from (last_state script) (lines_after (start script) script.events))
goes-soundly script playable front rest (inl calm) = goes-calmly script front rest playable calm
goes-soundly script playable front rest (inr mild) = goes-mildly script front rest playable mild
