-- The next event of a script that can be played may happen on the world of the events before it.
use Rattle.std.proofs.Common.{◌≡◌, ◌∙◌, ◌+◌, ◌≤◌, Bool, true, false, cond, List, [], ◌∷◌, ◌++◌, refl, sym, ap, subst, arith}
use Rattle.std.specs.Prelude.{All, count_by, sum_by}
use Rattle.std.proofs.lemmas.List.Elements.{All-cons, All-head, All-tail}
use Rattle.std.proofs.lemmas.List.Sums.{sum_by-append, sum_by-cons}
use Rattle.script_statement.specs.declared.who.Who.TheVariants.{A, B}
use Rattle.script_parts.specs.declared.script.Event.{Event}
use Rattle.script_parts.specs.declared.script.Script.{Script}
use Rattle.script_parts.specs.Playable.{IsPossible, IsPlayable, issues, count_of}
use Rattle.script_parts.specs.HalfPlayable.{CanBePlayed, IsHalfPlayable, IsHalfPossible, half_count_of, is_issue, numbers_of}
use Rattle.duplex_line.specs.Acts.{LineState}
use Rattle.duplex_line.specs.Plays as duplex
use Rattle.duplex_line.specs.Run.{start, after_event, state_after}
use Rattle.duplex_line.proofs.Once.IssueLimits.{commands-of-a, commands-of-b}
use Rattle.duplex_line.proofs.Steps.EventsToCome.{unspent}
use Rattle.line_world.specs.declared.world.World.{World}
use Rattle.line_world.specs.Runs.{IsNext, after_events, begun}
use Rattle.df1_node.specs.Node.{NodeState}
use Rattle.half_line.specs.Behind.{plain_node}
use Rattle.half_line.specs.Plays as polled
use Rattle.half_line.specs.Run as polled_run
use Rattle.half_line.specs.Acts.{HalfState}
use Rattle.half_line.proofs.Steps.EventsToCome.{event-numbers, room-of-m, start-numbers, unspent as polled-unspent}
use Rattle.line_world.proofs.EitherMode.{duplex-after, polled-after}

-- what holds of all events holds of those before one, and of that one
pub all-front : (P : Event → Type 0) (events : List Event) (e : Event) (rest : List Event) → All P (events ++ e ∷ rest) → All P events × P e
all-front P [] e rest all = (λ k d lt. absurd (omega (arith, lt)), All-head P e rest all)
all-front P (x ∷ events) e rest all =
    let more = all-front P events e rest (All-tail P x (events ++ e ∷ rest) all) in
    (All-cons P x events (All-head P x (events ++ e ∷ rest) all) more.0, more.1)

-- ---- a full-duplex line

issued-of-a : (events : List Event) (s : LineState) → All IsPossible events → duplex.issued_by (state_after s events).a ≡ duplex.issued_by s.a + count_by (issues A) events
issued-of-a [] s all = omega arith
issued-of-a (e ∷ events) s all =
    let one = commands-of-a e s (All-head IsPossible e events all) in
    let more = issued-of-a events (after_event s e) (All-tail IsPossible e events all) in
    let sum = sum_by-cons (λ (x : Event). cond (issues A x) 1 0) e events in
    omega (arith, one, more, sum)

issued-of-b : (events : List Event) (s : LineState) → All IsPossible events → duplex.issued_by (state_after s events).b ≡ duplex.issued_by s.b + count_by (issues B) events
issued-of-b [] s all = omega arith
issued-of-b (e ∷ events) s all =
    let one = commands-of-b e s (All-head IsPossible e events all) in
    let more = issued-of-b events (after_event s e) (All-tail IsPossible e events all) in
    let sum = sum_by-cons (λ (x : Event). cond (issues B x) 1 0) e events in
    omega (arith, one, more, sum)

duplex-next : (script : Script) (front : List Event) (e : Event) (rest : List Event) → IsPlayable script → script.events ≡ front ++ e ∷ rest → IsNext (after_events (begun script) front) e
duplex-next script front e rest h is =
    let all = all-front IsPossible front e rest (subst (All IsPossible) is h.events) in
    let s = start script in
    let a = issued-of-a front s all.0 in
    let b = issued-of-b front s all.0 in
    let few-a = subst (λ events. count_by (issues A) events ≤ 65535) is h.commands_of_a in
    let few-b = subst (λ events. count_by (issues B) events ≤ 65535) is h.commands_of_b in
    let few = subst (λ events. sum_by count_of events ≤ 5000000) is h.sum in
    let sum-a = sum_by-append (λ (x : Event). cond (issues A x) 1 0) front (e ∷ rest) in
    let sum-b = sum_by-append (λ (x : Event). cond (issues B x) 1 0) front (e ∷ rest) in
    let sum = sum_by-append count_of front (e ∷ rest) in
    let one = sum_by-cons count_of e rest in
    let next : duplex.IsNext (record { state = state_after s front; lines = []; events = 0 + sum_by count_of front }) e = record {
      possible = all.1;
      unspent = unspent (state_after s front) e rest all.1 (omega (arith, a, sum-a, few-a)) (omega (arith, b, sum-b, few-b));
      sum = omega (arith, sum, one, few);
    } in
    subst (λ (w : World). IsNext w e) (sym (duplex-after script front h.mode)) next

-- ---- a half-duplex line

events-numbers : (events : List Event) (s : HalfState NodeState) → polled.numbers_at (polled_run.state_after plain_node s events).stations ≡ polled.numbers_at s.stations
events-numbers [] s = refl
events-numbers (e ∷ events) s = events-numbers events (polled_run.after_event plain_node s e) ∙ event-numbers plain_node s e

room-behind : (front : List Event) (s : HalfState NodeState) (rest : List Event) → polled.issued_by plain_node s.master + count_by is_issue (front ++ rest) ≤ 65535 → polled.issued_by plain_node (polled_run.state_after plain_node s front).master + count_by is_issue rest ≤ 65535
room-behind [] s rest few = few
room-behind (e ∷ front) s rest few = room-behind front (polled_run.after_event plain_node s e) rest (room-of-m s e (front ++ rest) few)

polled-next : (script : Script) (front : List Event) (e : Event) (rest : List Event) → IsHalfPlayable script → script.events ≡ front ++ e ∷ rest → IsNext (after_events (begun script) front) e
polled-next script front e rest h is =
    let numbers = numbers_of script.ends in
    let all = all-front (IsHalfPossible numbers) front e rest (subst (All (IsHalfPossible numbers)) is h.events) in
    let s = polled_run.start script in
    let after = polled_run.state_after plain_node s front in
    let are : polled.numbers_at after.stations ≡ numbers = events-numbers front s ∙ start-numbers script in
    let few-commands = subst (λ events. count_by is_issue events ≤ 65535) is h.commands in
    let few = subst (λ events. sum_by (half_count_of numbers) events ≤ 5000000) is h.sum in
    let none : polled.issued_by plain_node s.master ≡ 0 = refl in
    let room = room-behind front s (e ∷ rest) (omega (arith, none, few-commands)) in
    let sum = sum_by-append (half_count_of numbers) front (e ∷ rest) in
    let one = sum_by-cons (half_count_of numbers) e rest in
    let weight : half_count_of (polled.numbers_at after.stations) e ≡ half_count_of numbers e = ap (λ ns. half_count_of ns e) are in
    let next : polled.IsNext plain_node (record { state = after; lines = []; events = 0 + sum_by (half_count_of numbers) front }) e = record {
      possible = subst (λ ns. IsHalfPossible ns e) (sym are) all.1;
      unspent = polled-unspent plain_node after e rest room;
      sum = omega (arith, sum, one, weight, few);
    } in
    subst (λ (w : World). IsNext w e) (sym (polled-after script front h.mode)) next

-- ---- either

next-in : (half : Bool) (script : Script) (front : List Event) (e : Event) (rest : List Event) → script.half ≡ half → CanBePlayed script → script.events ≡ front ++ e ∷ rest → IsNext (after_events (begun script) front) e
next-in true script front e rest mode h is = polled-next script front e rest (h.half mode) is
next-in false script front e rest mode h is = duplex-next script front e rest (h.full mode) is

pub next-at : (script : Script) (front : List Event) (e : Event) (rest : List Event) → CanBePlayed script → script.events ≡ front ++ e ∷ rest → IsNext (after_events (begun script) front) e
next-at script front e rest h is = next-in script.half script front e rest refl h is
