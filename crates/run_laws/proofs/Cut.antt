-- A script that is cut after an event: it can be played, its report begins that of the whole script, and its commands those of the whole.
use Rattle.std.proofs.Common.{◌≡◌, ◌∙◌, ℕ, ◌+◌, ◌≤◌, Bool, true, false, cond, List, [], ◌∷◌, ◌++◌, length, Option, Some, None, refl, sym, ap, subst, arith}
use Rattle.std.specs.Prelude.{All, count_by, slice_get}
use Rattle.std.proofs.Math.Seq.{take-append_seam}
use Rattle.std.proofs.lemmas.List.Elements.{All-take, filter-append, filter_map-append}
use Rattle.std.proofs.lemmas.List.Sums.{sum_by-append}
use Rattle.df1_node.specs.Node.{NodeState}
use Rattle.duplex_line.specs.Acts.{Deed, LineState, after_deeds, arriving}
use Rattle.duplex_line.specs.Issues.{commands_of_a, commands_of_b, requests_in}
use Rattle.duplex_line.specs.Run as duplex
use Rattle.duplex_line.proofs.Once.WholeRun.{earlier}
use Rattle.each_once.specs.Commands.{Request, command_bodies, command_body}
use Rattle.each_once.specs.OfStation.{is_line_of, lines_of}
use Rattle.each_once.specs.Once.{Once}
use Rattle.half_line.specs.Acts.{HalfState}
use Rattle.half_line.specs.Behind.{plain_node}
use Rattle.half_line.specs.Issues.{commands_of_m, requests_in as requests_of_m}
use Rattle.half_line.specs.Once.{OnceAtStation}
use Rattle.half_line.specs.Run as polled
use Rattle.half_line.specs.Steps.{UnitStep, AtMaster, AtStation, after_step, after_steps, after_with, link_of}
use Rattle.half_line.proofs.Once.LinkSteps.{earlier as earlier-link}
use Rattle.line_world.specs.declared.world.World.{World}
use Rattle.line_world.specs.declared.world.World.TheVariants.{Duplex, Polled}
use Rattle.line_world.specs.Runs.{after_events, all_lines, begun, last_world, lines_after, record_from, record_of}
use Rattle.line_world.proofs.EitherMode.{duplex-once, duplex-record, lines-behind, polled-once, polled-record}
use Rattle.outset.specs.Outset.{first_station}
use Rattle.replay_report.specs.declared.record.Line.{Line}
use Rattle.replay_report.specs.declared.record.Record.{Record}
use Rattle.script_parts.specs.declared.script.EndPlan.{EndPlan}
use Rattle.script_parts.specs.declared.script.Event.{Event}
use Rattle.script_parts.specs.declared.script.Script.{Script}
use Rattle.script_parts.specs.HalfPlayable.{CanBePlayed, IsHalfPlayable, IsHalfPossible, half_count_of, is_issue, numbers_of, station_plans}
use Rattle.script_parts.specs.Playable.{IsPlayable, IsPossible, count_of, issues}
use Rattle.script_statement.specs.declared.who.Who.{Who}
use Rattle.script_statement.specs.declared.who.Who.TheVariants.{A, B, M, S}
use Rattle.run_laws.specs.Overtaking.{AtBothEnds, AtEachStation, AtStationsOf, NothingIsOvertaken, NothingOvertakes, with_events}
use Rattle.run_laws.proofs.Order.{none-overtakes}

-- ---- a front of a list

pub all-front : {X : Type 0} (P : X → Type 0) (front back : List X) → All P (front ++ back) → All P front
all-front P front back all = subst (All P) (take-append_seam front back) (All-take P (length front) (front ++ back) all)

count-front : {X : Type 0} (p : X → Bool) (front back : List X) (most : ℕ) → count_by p (front ++ back) ≤ most → count_by p front ≤ most
count-front p front back most few = let both = sum_by-append (λ x. cond (p x) 1 0) front back in omega (arith, both, few)

all-both : {X : Type 0} (P Q R : X → Type 0) (xs : List X) → ((x : X) → P x → Q x → R x) → All P xs → All Q xs → All R xs
all-both P Q R xs each p q k d inside = each _ (p k d inside) (q k d inside)

-- ---- the commands that are issued

front-bodies : (n : ℕ) (front back : List Request) → (more : List (List ℕ)) × (command_bodies n (front ++ back) ≡ command_bodies n front ++ more)
front-bodies n [] back = (command_bodies n back, refl)
front-bodies n (request ∷ front) back = let more = front-bodies (n + 1) front back in (more.0, ap (λ bodies. command_body n request ∷ bodies) more.1)

pub front-of : (n : ℕ) (requests : List Event → List Request) (events front back : List Event) → events ≡ front ++ back → requests (front ++ back) ≡ requests front ++ requests back
    → (more : List (List ℕ)) × (command_bodies n (requests events) ≡ command_bodies n (requests front) ++ more)
front-of n requests events front back is both =
    let more = front-bodies n (requests front) (requests back) in
    (more.0, ap (λ e. command_bodies n (requests e)) is ∙ ap (command_bodies n) both ∙ more.1)

-- ---- the report

record-lines : (w : World) (lines : List Line) → (record_from w lines).lines ≡ lines
record-lines (Duplex p) lines = refl
record-lines (Polled p) lines = refl

-- the lines behind those of the front
rest_of : Script → List Event → List Event → List Line
rest_of script front back = lines_after (after_events (begun script) front) back

cut-lines : (script : Script) (front back : List Event) → script.events ≡ front ++ back → (record_of script).lines ≡ (record_of (with_events script front)).lines ++ rest_of script front back
unfolding record_of rest_of
cut-lines script front back is =
    record-lines (last_world script) (all_lines script)
    ∙ ap (lines_after (begun script)) is
    ∙ lines-behind (begun script) front back
    ∙ ap (λ lines. lines ++ lines_after (after_events (begun script) front) back) (sym (record-lines (last_world (with_events script front)) (lines_after (begun script) front)))

-- ---- a full-duplex script

deeds-earlier : (deeds : List Deed) (s : LineState) → (after_deeds s deeds).deceived ≡ 0 → s.deceived ≡ 0
deeds-earlier [] s none = none
deeds-earlier (deed ∷ deeds) s none = earlier s.deceived s.b (arriving s.a deed) (deeds-earlier deeds _ none)

seen-count : (who : Who) (s : LineState) → (duplex.seen_from who s).deceived ≡ s.deceived
seen-count A s = refl
seen-count B s = refl
seen-count M s = refl
seen-count (S station) s = refl

event-earlier : (s : LineState) (e : Event) → (duplex.after_event s e).deceived ≡ 0 → s.deceived ≡ 0
event-earlier s e none =
    let who = duplex.who_of e in
    let deeds = duplex.deeds_of e in
    sym (seen-count who s) ∙ deeds-earlier deeds (duplex.seen_from who s) (sym (seen-count who (after_deeds (duplex.seen_from who s) deeds)) ∙ none)

pub events-earlier : (s : LineState) (front back : List Event) → (duplex.state_after s (front ++ back)).deceived ≡ 0 → (duplex.state_after s front).deceived ≡ 0
events-earlier s [] [] none = none
events-earlier s [] (e ∷ back) none = event-earlier s e (events-earlier (duplex.after_event s e) [] back none)
events-earlier s (e ∷ front) back none = events-earlier (duplex.after_event s e) front back none

duplex-honest : (script : Script) (front back : List Event) → script.half ≡ false → script.events ≡ front ++ back → (record_of script).deceived ≡ 0 → (record_of (with_events script front)).deceived ≡ 0
unfolding duplex.record_of
duplex-honest script front back mode is none =
    let whole = ap (λ (r : Record). r.deceived) (duplex-record script mode) in
    let last = ap (λ events. (duplex.state_after (duplex.start script) events).deceived) is in
    ap (λ (r : Record). r.deceived) (duplex-record (with_events script front) mode) ∙ events-earlier (duplex.start script) front back (sym last ∙ sym whole ∙ none)

pub duplex-front : (script : Script) (front back : List Event) → IsPlayable script → script.events ≡ front ++ back → IsPlayable (with_events script front)
duplex-front script front back h is = record {
  mode = h.mode;
  ends = h.ends;
  events = all-front IsPossible front back (subst (All IsPossible) is h.events);
  commands_of_a = count-front (issues A) front back 65535 (subst (λ events. count_by (issues A) events ≤ 65535) is h.commands_of_a);
  commands_of_b = count-front (issues B) front back 65535 (subst (λ events. count_by (issues B) events ≤ 65535) is h.commands_of_b);
  sum = (let both = sum_by-append count_of front back in let few = rw is at h.sum in omega (arith, both, few));
}

duplex-behind : (script : Script) (front back : List Event) → IsPlayable script → script.events ≡ front ++ back → (record_of script).deceived ≡ 0
    → AtBothEnds script (record_of (with_events script front)).lines (rest_of script front back)
duplex-behind script front back h is none =
    let cut = with_events script front in
    let before = (record_of cut).lines in
    let after = rest_of script front back in
    let lines = cut-lines script front back is in
    let whole = duplex-once script h none in
    let first = duplex-once cut (duplex-front script front back h is) (duplex-honest script front back h.mode is none) in
    let a = duplex.plan_of_a script in
    let b = duplex.plan_of_b script in
    let of-a = front-of a.tns (requests_in A a.node) script.events front back is (filter_map-append _ front back) in
    let of-b = front-of b.tns (requests_in B b.node) script.events front back is (filter_map-append _ front back) in
    record {
      at_b = none-overtakes A B (commands_of_a script) (commands_of_a cut) of-a.0 (first_station b) before after of-a.1 first.to_b (subst (λ (l : List Line). Once A B (commands_of_a script) (first_station b) l) lines whole.to_b);
      at_a = none-overtakes B A (commands_of_b script) (commands_of_b cut) of-b.0 (first_station a) before after of-b.1 first.to_a (subst (λ (l : List Line). Once B A (commands_of_b script) (first_station a) l) lines whole.to_a);
    }

-- ---- a half-duplex script

with-earlier : (s : HalfState NodeState) (place : ℕ) (o : Option _) (deed : _) → (after_with plain_node s place deed o).deceived ≡ 0 → s.deceived ≡ 0
with-earlier s place None deed none = none
with-earlier s place (Some side) deed none = earlier-link plain_node deed (link_of s side) none

step-earlier : (s : HalfState NodeState) (step : UnitStep) → (after_step plain_node s step).deceived ≡ 0 → s.deceived ≡ 0
step-earlier s (AtMaster deed) none = none
step-earlier s (AtStation place deed) none = with-earlier s place (slice_get s.stations place) deed none

steps-earlier : (steps : List UnitStep) (s : HalfState NodeState) → (after_steps plain_node s steps).deceived ≡ 0 → s.deceived ≡ 0
steps-earlier [] s none = none
steps-earlier (step ∷ steps) s none = step-earlier s step (steps-earlier steps (after_step plain_node s step) none)

pub half-earlier : (s : HalfState NodeState) (front back : List Event) → (polled.state_after plain_node s (front ++ back)).deceived ≡ 0 → (polled.state_after plain_node s front).deceived ≡ 0
half-earlier s [] [] none = none
half-earlier s [] (e ∷ back) none = steps-earlier (polled.steps_of s e) s (half-earlier (polled.after_event plain_node s e) [] back none)
half-earlier s (e ∷ front) back none = half-earlier (polled.after_event plain_node s e) front back none

half-honest : (script : Script) (front back : List Event) → script.half ≡ true → script.events ≡ front ++ back → (record_of script).deceived ≡ 0 → (record_of (with_events script front)).deceived ≡ 0
unfolding polled.record_of
half-honest script front back mode is none =
    let whole = ap (λ (r : Record). r.deceived) (polled-record script mode) in
    let last = ap (λ events. (polled.state_after plain_node (polled.start script) events).deceived) is in
    ap (λ (r : Record). r.deceived) (polled-record (with_events script front) mode) ∙ half-earlier (polled.start script) front back (sym last ∙ sym whole ∙ none)

pub half-front : (script : Script) (front back : List Event) → IsHalfPlayable script → script.events ≡ front ++ back → IsHalfPlayable (with_events script front)
half-front script front back h is =
    let numbers = numbers_of script.ends in
    record {
      mode = h.mode;
      ends = h.ends;
      events = all-front (IsHalfPossible numbers) front back (subst (All (IsHalfPossible numbers)) is h.events);
      commands = count-front is_issue front back 65535 (subst (λ events. count_by is_issue events ≤ 65535) is h.commands);
      sum = (let both = sum_by-append (half_count_of numbers) front back in let few = rw is at h.sum in omega (arith, both, few));
    }

half-behind : (script : Script) (front back : List Event) → IsHalfPlayable script → script.events ≡ front ++ back → (record_of script).deceived ≡ 0
    → AtEachStation script (record_of (with_events script front)).lines (rest_of script front back)
half-behind script front back h is none =
    let cut = with_events script front in
    let before = (record_of cut).lines in
    let after = rest_of script front back in
    let lines = cut-lines script front back is in
    let whole = polled-once script h none in
    let first = polled-once cut (half-front script front back h is) (half-honest script front back h.mode is none) in
    let m = polled.plan_of_m script in
    let of-m = front-of m.tns (requests_of_m m.node) script.events front back is (filter_map-append _ front back) in
    all-both (OnceAtStation cut (record_of cut)) (OnceAtStation script (record_of script)) (λ (plan : EndPlan). NothingOvertakes M (S plan.node) (commands_of_m script) (lines_of plan.node before) (lines_of plan.node after)) (station_plans script.ends)
    (λ plan one all. none-overtakes M (S plan.node) (commands_of_m script) (commands_of_m cut) of-m.0 (first_station plan) (lines_of plan.node before) (lines_of plan.node after) of-m.1 one.once
    (subst (λ (l : List Line). Once M (S plan.node) (commands_of_m script) (first_station plan) l) (ap (lines_of plan.node) lines ∙ filter-append (is_line_of plan.node) before after) all.once))
    first.stations whole.stations

-- ---- either mode

behind-in : (half : Bool) (script : Script) (front back : List Event) → script.half ≡ half → CanBePlayed script → script.events ≡ front ++ back → (record_of script).deceived ≡ 0
    → AtStationsOf half script (record_of (with_events script front)).lines (rest_of script front back)
behind-in true script front back mode h is none = half-behind script front back (h.half mode) is none
behind-in false script front back mode h is none = duplex-behind script front back (h.full mode) is none

pub nothing-is-overtaken : (script : Script) → CanBePlayed script → (record_of script).deceived ≡ 0 → NothingIsOvertaken script (record_of script)
nothing-is-overtaken script h none front back is = record { after = rest_of script front back; lines = cut-lines script front back is; behind = behind-in script.half script front back refl h is none }
