-- The run of a script, event by event, and the record of all of it.
use Rattle.std.proofs.Common.{◌≡◌, ◌∙◌, ℕ, ◌+◌, ◌<◌, suc, List, [], ◌∷◌, ◌++◌, length, take, drop, drop-cons, get_or, refl, ap, sym}
use Rattle.std.proofs.Math.Numerals.{suc-eq-add-one}
use Rattle.std.proofs.lemmas.List.{take_more}
use Rattle.script_parts.specs.declared.script.Event.{Event}
use Rattle.script_parts.specs.declared.script.Script.{Script}
use Rattle.half_line.specs.Behind.{routed_node}
use Rattle.half_line.specs.Run.{record_from}
use Rattle.half_route.specs.Run.{Routed, after_event, after_events, route_of, whole_run}

-- some events, and then others
after-behind : (p : Routed) (events more : List Event) → after_events p (events ++ more) ≡ after_events (after_events p events) more
after-behind p [] more = refl
after-behind p (e ∷ events) more = after-behind (after_event p e) events more

-- what is played before an event, and then the event
pub one-after : (p world : Routed) (events : List Event) (i : ℕ) (e : Event) → i < length events → e ≡ get_or events i e → world ≡ after_events p (take i events) → after_event world e ≡ after_events p (take (i + 1) events)
one-after p world events i e within is so_far =
    ap (λ (w : Routed). after_event w e) so_far ∙ sym (after-behind p (take i events) (e ∷ []))
    ∙ ap (after_events p) (ap (λ (x : Event). take i events ++ x ∷ []) is ∙ sym (take_more events i e within))

-- what is still to come
pub to-come : (events : List Event) (i : ℕ) (e : Event) → i < length events → e ≡ get_or events i e → drop i events ≡ e ∷ drop (i + 1) events
to-come events i e within is = drop-cons events i e within ∙ ap (λ (x : Event). x ∷ drop (suc i) events) (sym is) ∙ ap (λ (j : ℕ). e ∷ drop j events) (suc-eq-add-one i)

-- the record after all events is that of the script
pub is-record : (script : Script) (world : Routed) → world ≡ whole_run script → record_from routed_node world.state world.lines ≡ route_of script
unfolding route_of
is-record script world is = ap (λ (w : Routed). record_from routed_node w.state w.lines) is
