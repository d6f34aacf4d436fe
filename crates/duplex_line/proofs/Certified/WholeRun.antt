-- Over a run: once a command is answered that was to come at a quiet state, a line on which nothing is under way and no sender has a message is at rest.
use Rattle.std.proofs.Common.{◌≡◌, ◌∙◌, ℕ, Bool, true, List, [], ◌∷◌, ◌++◌, Some, None, is_none, refl, ap, sym, subst, append-nil, append_assoc, arith, inl, inr}
use Rattle.std.specs.Prelude.{IsTrue, All, Contains, ◌⊎◌, ◌&&◌, not, slice_get}
use Rattle.std.proofs.lemmas.List.Elements.{All-head, All-tail, Contains-append_left, filter_map-append}
use Rattle.df1_frame.specs.Standing.{Outside, Decoding}
use Rattle.embedded_response.specs.Giving.{chosen}
use Rattle.duplex_end.specs.End.{holds_message, out_at_take}
use Rattle.script_statement.specs.declared.who.Who.{Who}
use Rattle.script_statement.specs.declared.who.Who.TheVariants.{A, B, M, S}
use Rattle.script_parts.specs.declared.script.Event.{Event}
use Rattle.script_parts.specs.declared.script.Script.{Script}
use Rattle.script_parts.specs.Playable.{IsPossible, IsPlayable, is_end}
use Rattle.replay_report.specs.declared.record.Line.{Line}
use Rattle.replay_report.specs.Report.{sent_lines}
use Rattle.lane_cells.specs.Cells.{LaneCell}
use Rattle.each_once.specs.NodeHost.{node_host}
use Rattle.each_once.specs.Once.{Once}
use Rattle.each_once.specs.Commands.{Request, command_bodies}
use Rattle.each_once.specs.Tells.{answer_at, answers_in}
use Rattle.each_once.proofs.Sublists.{none-is}
use Rattle.duplex_line.specs.Acts.{LineEndState, LineState, swapped, Deed, after_deeds, lines_over, given_over}
use Rattle.duplex_line.specs.Certified.{AreGentle, AreGentleAfter, IsAnsweredAfter, IsCertified, GoesOnCalmly}
use Rattle.duplex_line.specs.Issues.{requests_in, request_at, commands_of_a, commands_of_b, bodies_of}
use Rattle.duplex_line.specs.Prompt.{is_quiet}
use Rattle.duplex_line.specs.Rest.{is_between, IsCalmAfter, IsWellAfter}
use Rattle.duplex_line.specs.Run.{first_station, plan_of_a, plan_of_b, start, who_of, deeds_of, seen_from, after_event, deed_lines, lines_of, state_after, lines_after, last_state, record_from}
use Rattle.duplex_line.proofs.Complete.AfterRest.{state-both, lines-both, all-back, deceived-before, bodies-more, goes-calmly}
use Rattle.duplex_line.proofs.Complete.QuietEnd.{gives-nothing}
use Rattle.duplex_line.proofs.Complete.TickStep.{both}
use Rattle.duplex_line.proofs.Once.Arrivals.{end-of, run-hears}
use Rattle.duplex_line.proofs.Once.Invariant.{AreTwo, two-swapped, a-and-b, Holds, holds-swapped}
use Rattle.duplex_line.proofs.Once.ToldCommands.{recounts-run}
use Rattle.duplex_line.proofs.Once.WholeRun.{sent-silent, holds-run, each-once}
use Rattle.duplex_line.proofs.Wire.Fronts.{front-plays}
use Rattle.duplex_line.proofs.Wire.WholeRun.{run-checks}
use Rattle.duplex_line.proofs.Certified.ExecutedSince.{executed-since}
use Rattle.duplex_line.proofs.Certified.GivenBytes.{InStep, step-start, quiet-between}
use Rattle.duplex_line.proofs.Certified.LaneInStep.{Leads, alike-between, AreAlike}
use Rattle.duplex_line.proofs.Certified.LineSteps.{Direction, BothWays, ways-swapped, ways-silent, WaysUnless, ways-deeds}
use Rattle.duplex_line.proofs.Certified.SilentLines.{TellNothing}

-- ---- events

-- the steps of an event at one of two ends, with its bytes
ways-own : (near far : Who) → AreTwo near far → (s : LineState) (deeds : List Deed) (bytes : List ℕ) (lines : List Line) → AreGentle s deeds → WaysUnless near far s lines
    → WaysUnless near far (after_deeds s deeds) (lines ++ (lines_over near far s deeds ++ sent_lines near bytes))
ways-own near far two s deeds bytes lines gentle h none =
    let over = lines_over near far s deeds in
    let sent = sent_lines near bytes in
    subst (BothWays near far (after_deeds s deeds)) (append_assoc lines over sent)
    (ways-silent near far (after_deeds s deeds) (lines ++ over) sent (sent-silent near near near bytes) (sent-silent far far near bytes) (ways-deeds near far two s deeds lines gentle h none))

ways-seen : (who : Who) → IsTrue (is_end who) → (s : LineState) (deeds : List Deed) (lines : List Line) → AreGentle (seen_from who s) deeds → WaysUnless A B s lines
    → WaysUnless A B (seen_from who (after_deeds (seen_from who s) deeds)) (lines ++ deed_lines who (seen_from who s) deeds)
ways-seen A end s deeds lines gentle h none = ways-own A B a-and-b s deeds (given_over s.a deeds) lines gentle h none
ways-seen B end s deeds lines gentle h none =
    ways-swapped B A (after_deeds (swapped s) deeds) _
    (ways-own B A (two-swapped A B a-and-b) (swapped s) deeds (given_over s.b deeds) lines gentle (λ zero. ways-swapped A B s lines (h zero)) none)
ways-seen M end s deeds lines gentle h none = absurd cc
ways-seen (S station) end s deeds lines gentle h none = absurd cc

ways-events : (events : List Event) (s : LineState) (lines : List Line) → All IsPossible events → AreGentleAfter s events → WaysUnless A B s lines → WaysUnless A B (state_after s events) (lines ++ lines_after s events)
ways-events [] s lines possible gentle h = rw (append-nil lines) h
ways-events (e ∷ events) s lines possible gentle h =
    let one = ways-seen (who_of e) (end-of e (All-head IsPossible e events possible)) s (deeds_of e) lines gentle.0 h in
    let more = ways-events events (after_event s e) (lines ++ lines_of s e) (All-tail IsPossible e events possible) gentle.1 one in
    subst (λ (all : List Line). WaysUnless A B (state_after (after_event s e) events) all) (append_assoc lines (lines_of s e) (lines_after (after_event s e) events)) more

-- ---- a quiet state

-- an end that gives nothing, and of which nothing is on its way
record IsStill (side : LineEndState) : Type 0 where
  empty : side.lane ≡ []
  chooses : chosen side.end.mouth ≡ None

none-there : (cells : List LaneCell) → slice_get cells 0 ≡ None → cells ≡ []
none-there [] none = refl
none-there (cell ∷ cells) none = absurd cc

still : (side : LineEndState) → (is_none (slice_get side.lane 0) && is_none (out_at_take node_host side.end)) ≡ true → IsStill side
still side idle =
    let parts = both (is_none (slice_get side.lane 0)) (is_none (out_at_take node_host side.end)) idle in
    record { empty = none-there side.lane (none-is (slice_get side.lane 0) parts.0); chooses = (gives-nothing node_host side.end (none-is (out_at_take node_host side.end) parts.1)).chooses }

-- both ends
record AreStill (s : LineState) : Type 0 where
  of_a : IsStill s.a
  of_b : IsStill s.b

are-still : (s : LineState) → IsTrue (is_quiet s) → AreStill s
are-still s quiet =
    let parts = both (is_none (slice_get s.a.lane 0) && is_none (out_at_take node_host s.a.end)) (is_none (slice_get s.b.lane 0) && is_none (out_at_take node_host s.b.end)) quiet in
    record { of_a = still s.a parts.0; of_b = still s.b parts.1 }

-- from there on
direction-start : (who : Who) (giver : LineEndState) (d : Decoding) → giver.end.mouth.check ≡ d.check → IsStill giver → Direction who [] giver.lane giver.end.mouth d
direction-start who giver d same quiet =
    let imagined : Decoding = record { check = d.check; standing = Outside } in
    record {
      imagined = imagined;
      same_check = refl;
      leads = subst (λ (cells : List LaneCell). Leads imagined cells giver.end.mouth) (sym quiet.empty) (step-start giver.end.mouth imagined quiet.chooses (sym same) refl);
      alike = inl (record { executes = refl; answers = refl; strays = refl });
    }

-- there a decoder that has accepted a message since is between items
direction-ends : (who : Who) (lines : List Line) (giver : LineEndState) (d : Decoding) → IsStill giver → (TellNothing who lines → ⊥) → Direction who lines giver.lane giver.end.mouth d → is_between d.standing ≡ true
direction-ends who lines giver d quiet told h =
    let in_step : InStep giver.end.mouth h.imagined = subst (λ (cells : List LaneCell). Leads h.imagined cells giver.end.mouth) quiet.empty h.leads in
    by-alike (quiet-between giver.end.mouth h.imagined quiet.chooses in_step) h.alike
  where
    by-alike : is_between h.imagined.standing ≡ true → TellNothing who lines ⊎ AreAlike h.imagined.standing d.standing → is_between d.standing ≡ true
    by-alike between (inl nothing) = absurd (told nothing)
    by-alike between (inr alike) = alike-between h.imagined.standing d.standing alike between

-- ---- the run

-- what holds of a state at which both ends have accepted a message since a quiet one
certified-at : (s : LineState) (lines : List Line) → (TellNothing A lines → ⊥) → (TellNothing B lines → ⊥) → BothWays A B s lines → IsCertified s
certified-at s lines at_a at_b h quiet idle =
    let still = are-still s quiet in
    let senders = both (not (holds_message s.a.end)) (not (holds_message s.b.end)) idle in
    let a = direction-ends A lines s.b s.a.end.receiver.decoding still.of_b at_a h.back in
    let b = direction-ends B lines s.a s.b.end.receiver.decoding still.of_a at_b h.way in
    all-true (is_quiet s) (not (holds_message s.a.end)) (is_between s.a.end.receiver.decoding.standing) (not (holds_message s.b.end)) (is_between s.b.end.receiver.decoding.standing) quiet senders.0 a senders.1 b
  where
    all-true : (q x y u v : Bool) → q ≡ true → x ≡ true → y ≡ true → u ≡ true → v ≡ true → (q && ((x && y) && (u && v))) ≡ true
    all-true q x y u v hq hx hy hu hv = rw (hq, hx, hy, hu, hv) refl

none-contained : {X : Type 0} (xs : List X) (x : X) → Contains xs x → xs ≡ [] → ⊥
none-contained [] x c is = absurd (let inside = c.1 in omega (arith, inside))
none-contained (y ∷ xs) x c is = absurd cc

-- the commands that were issued before the first cut keep their places
keep-places : (tns : ℕ) (requests : List Event → List Request) (bodies : List (List ℕ)) (front rest : List Event) → requests (front ++ rest) ≡ requests front ++ requests rest → bodies ≡ command_bodies tns (requests front)
    → (place : ℕ) (body : List ℕ) → slice_get bodies place ≡ Some body → slice_get (command_bodies tns (requests (front ++ rest))) place ≡ Some body
keep-places tns requests bodies front rest splits is place body at =
    subst (λ (all : List Request). slice_get (command_bodies tns all) place ≡ Some body) (sym splits) (bodies-more tns (requests front) (requests rest) place body (subst (λ (all : List (List ℕ)). slice_get all place ≡ Some body) is at))

-- A run that is cut twice: what holds at the first cut, what the report tells up to the second, and what holds there of the steps between.
record IsCut (script : Script) (front since : List Event) : Type 0 where
  holds : Holds A B (first_station (plan_of_a script)) (first_station (plan_of_b script)) (state_after (start script) front) (lines_after (start script) front)
  places_of_a : (place : ℕ) (body : List ℕ) → slice_get (bodies_of (state_after (start script) front).a) place ≡ Some body → slice_get (commands_of_a (record script { events = front ++ since })) place ≡ Some body
  places_of_b : (place : ℕ) (body : List ℕ) → slice_get (bodies_of (state_after (start script) front).b) place ≡ Some body → slice_get (commands_of_b (record script { events = front ++ since })) place ≡ Some body
  to_b : Once A B (commands_of_a (record script { events = front ++ since })) (first_station (plan_of_b script)) (lines_after (start script) front ++ lines_after (state_after (start script) front) since)
  to_a : Once B A (commands_of_b (record script { events = front ++ since })) (first_station (plan_of_a script)) (lines_after (start script) front ++ lines_after (state_after (start script) front) since)
  ways : BothWays A B (state_after (start script) (front ++ since)) (lines_after (state_after (start script) front) since)

cut-run : (script : Script) (front since rest : List Event) → IsPlayable script → script.events ≡ front ++ (since ++ rest) → IsTrue (is_quiet (state_after (start script) front)) → AreGentleAfter (state_after (start script) front) since → (state_after (start script) (front ++ since)).deceived ≡ 0 → IsCut script front since
cut-run script front since rest playable parts quiet gentle undeceived =
    let whole : Script = record script { events = front ++ since } in
    let cut : Script = record script { events = front } in
    let plays : IsPlayable whole = front-plays script (front ++ since) rest playable (parts ∙ sym (append_assoc front since rest)) in
    let cut_plays : IsPlayable cut = front-plays script front (since ++ rest) playable parts in
    let s = state_after (start script) front in
    let lines = lines-both (start script) front since in
    let later : (state_after s since).deceived ≡ 0 = ap (λ (x : LineState). x.deceived) (sym (state-both (start script) front since)) ∙ undeceived in
    let once = each-once whole plays undeceived in
    let recounts = recounts-run cut cut_plays in
    let a = plan_of_a script in
    let b = plan_of_b script in
    let hears = run-hears cut cut_plays in
    let checks = run-checks cut cut_plays in
    let still = are-still s quiet in
    let from : BothWays A B s [] = record {
      way = direction-start B s.a s.b.end.receiver.decoding (checks.0 ∙ sym (ap (λ (d : Decoding). d.check) hears.of_b.stands.is)) still.of_a;
      back = direction-start A s.b s.a.end.receiver.decoding (checks.1 ∙ sym (ap (λ (d : Decoding). d.check) hears.of_a.stands.is)) still.of_b;
    } in
    record {
      holds = holds-run cut cut_plays (deceived-before since s later);
      places_of_a = keep-places a.tns (requests_in A a.node) (bodies_of s.a) front since (filter_map-append (request_at A a.node) front since) recounts.recounts.issued.bodies;
      places_of_b = keep-places b.tns (requests_in B b.node) (bodies_of s.b) front since (filter_map-append (request_at B b.node) front since) recounts.far_recounts.issued.bodies;
      to_b = subst (Once A B (commands_of_a whole) (first_station b)) lines once.to_b;
      to_a = subst (Once B A (commands_of_b whole) (first_station a)) lines once.to_a;
      ways = subst (λ (x : LineState). BothWays A B x (lines_after s since)) (sym (state-both (start script) front since))
          (ways-events since s [] (all-back front since plays.events) gentle (λ none. from) later);
    }

-- what is told over a part of the events is told over more of them
answered-later : (who : Who) (s : LineState) (middle more : List Event) (answer : ℕ × List ℕ) → Contains (answers_in who (lines_after s middle)) answer → Contains (answers_in who (lines_after s (middle ++ more))) answer
answered-later who s middle more answer answered =
    let behind = lines_after (state_after s middle) more in
    subst (λ (answers : List (ℕ × List ℕ)). Contains answers answer) (sym (ap (answers_in who) (lines-both s middle more) ∙ filter_map-append (answer_at who) (lines_after s middle) behind))
    (Contains-append_left (answers_in who (lines_after s middle)) (answers_in who behind) answer answered)

pub certified-by-a : (script : Script) (front middle more rest : List Event) (n : ℕ) → IsPlayable script → IsAnsweredAfter A script front middle more rest n → IsCertified (state_after (start script) (front ++ (middle ++ more)))
certified-by-a script front middle more rest n playable h =
    let since = middle ++ more in
    let s = state_after (start script) front in
    let lines = lines_after s since in
    let cut = cut-run script front since rest playable h.parts h.quiet h.gentle h.undeceived in
    let answered = answered-later A s middle more (n, h.reply) h.answered in
    certified-at (state_after (start script) (front ++ since)) lines
    (λ nothing. none-contained (answers_in A lines) (n, h.reply) answered nothing.answers)
    (executed-since A B (first_station (plan_of_a script)) (first_station (plan_of_b script)) s (lines_after (start script) front) lines (commands_of_a (record script { events = front ++ since })) n h.reply cut.holds cut.places_of_a cut.to_b h.to_come answered)
    cut.ways

pub certified-by-b : (script : Script) (front middle more rest : List Event) (n : ℕ) → IsPlayable script → IsAnsweredAfter B script front middle more rest n → IsCertified (state_after (start script) (front ++ (middle ++ more)))
certified-by-b script front middle more rest n playable h =
    let since = middle ++ more in
    let s = state_after (start script) front in
    let a = first_station (plan_of_a script) in
    let b = first_station (plan_of_b script) in
    let before = lines_after (start script) front in
    let lines = lines_after s since in
    let cut = cut-run script front since rest playable h.parts h.quiet h.gentle h.undeceived in
    let answered = answered-later B s middle more (n, h.reply) h.answered in
    certified-at (state_after (start script) (front ++ since)) lines
    (executed-since B A b a (swapped s) before lines (commands_of_b (record script { events = front ++ since })) n h.reply (holds-swapped A B a b s before cut.holds) cut.places_of_b cut.to_a h.to_come answered)
    (λ nothing. none-contained (answers_in B lines) (n, h.reply) answered nothing.answers)
    cut.ways

-- ---- and what follows for the commands to come

calm-after : (who : Who) (script : Script) (front middle more rest : List Event) (n : ℕ) → IsAnsweredAfter who script front middle more rest n → IsCertified (state_after (start script) (front ++ (middle ++ more)))
    → GoesOnCalmly script (front ++ (middle ++ more)) rest → IsCalmAfter script (front ++ (middle ++ more)) rest
calm-after who script front middle more rest n h certified on = record {
  events = h.parts ∙ sym (append_assoc front (middle ++ more) rest);
  undeceived = h.undeceived;
  at_rest = certified on.still on.idle;
  prompt = on.prompt;
  quiet = on.quiet;
  rooms = on.rooms;
}

pub well-after-a : (script : Script) (front middle more rest : List Event) (n : ℕ) → IsPlayable script → IsAnsweredAfter A script front middle more rest n → GoesOnCalmly script (front ++ (middle ++ more)) rest
    → IsWellAfter script (front ++ (middle ++ more)) (record_from (last_state script) (lines_after (start script) script.events))
well-after-a script front middle more rest n playable h on =
    goes-calmly script (front ++ (middle ++ more)) rest playable (calm-after A script front middle more rest n h (certified-by-a script front middle more rest n playable h) on)

pub well-after-b : (script : Script) (front middle more rest : List Event) (n : ℕ) → IsPlayable script → IsAnsweredAfter B script front middle more rest n → GoesOnCalmly script (front ++ (middle ++ more)) rest
    → IsWellAfter script (front ++ (middle ++ more)) (record_from (last_state script) (lines_after (start script) script.events))
well-after-b script front middle more rest n playable h on =
    goes-calmly script (front ++ (middle ++ more)) rest playable (calm-after B script front middle more rest n h (certified-by-b script front middle more rest n playable h) on)
