-- In every run: each end stands for the bytes that arrived at it, and hears a whole frame exactly where the grammar does.
use Rattle.std.proofs.Common.{◌≡◌, ℕ, List, [], ◌∷◌, ◌++◌, Option, Some, None, refl, sym, subst, append-nil, append_assoc}
use Rattle.std.specs.Prelude.{IsTrue, All}
use Rattle.std.proofs.lemmas.List.{map-append}
use Rattle.std.proofs.lemmas.List.Elements.{All-head, All-tail}
use Rattle.df1_check.specs.declared.Check.{Check}
use Rattle.duplex_end.specs.Arrived.{Arrival, StandsFor, HeardByGrammar, bytes_arrived}
use Rattle.duplex_end.proofs.Arriving.{stands-new, stands-byte, stands-take, whole-byte, heard-none, heard-more}
use Rattle.script_statement.specs.declared.who.Who.{Who}
use Rattle.script_statement.specs.declared.who.Who.TheVariants.{A, B, M, S}
use Rattle.script_parts.specs.declared.script.Event.{Event}
use Rattle.script_parts.specs.declared.script.Event.TheVariants as event
use Rattle.script_parts.specs.declared.script.Script.{Script}
use Rattle.script_parts.specs.Playable.{IsPossible, IsPlayable, is_end}
use Rattle.each_once.specs.NodeHost.{node_host}
use Rattle.lane_cells.specs.Cells.{LaneCell}
use Rattle.duplex_line.specs.Acts.{LineEndState, LineState, swapped, Deed, Issue, Take, Deliver, Lose, Alter, Foreign, Tick, near_after, arriving, step_of, after_cell, after_arrival, after_deed, after_deeds}
use Rattle.duplex_line.specs.Arrivals.{arrived, arrivals_over, arrivals_at, arrivals_in}
use Rattle.duplex_line.specs.Run.{plan_of_a, plan_of_b, setup_of, first_node, start, who_of, deeds_of, after_event, state_after}
use Rattle.duplex_line.proofs.Once.Invariant.{joins-end}

-- the end stands for what arrived, at which it heard whole frames by the grammar
pub record Hears (check : Check) (arrivals : List Arrival) (side : LineEndState) : Type 0 where
  pub stands : StandsFor check (bytes_arrived arrivals) side.end
  pub heard : HeardByGrammar check arrivals

hears-near : (check : Check) (arrivals : List Arrival) (deed : Deed) (side : LineEndState) → Hears check arrivals side → Hears check arrivals (near_after side deed)
hears-near check arrivals (Issue src dst payload) side h = record { stands = h.stands; heard = h.heard }
hears-near check arrivals Take side h = record { stands = stands-take node_host side.end check (bytes_arrived arrivals) h.stands; heard = h.heard }
hears-near check arrivals Deliver side h = record { stands = h.stands; heard = h.heard }
hears-near check arrivals Lose side h = record { stands = h.stands; heard = h.heard }
hears-near check arrivals (Alter mask) side h = record { stands = h.stands; heard = h.heard }
hears-near check arrivals (Foreign byte) side h = h
hears-near check arrivals Tick side h = record { stands = h.stands; heard = h.heard }

hears-cell : (check : Check) (arrivals : List Arrival) (side : LineEndState) (cell : LaneCell) → Hears check arrivals side → Hears check (arrivals ++ record { byte = cell.byte; whole = (step_of side cell).whole } ∷ []) (after_cell side cell)
hears-cell check arrivals side cell h =
    let last : Arrival = record { byte = cell.byte; whole = (step_of side cell).whole } in
    record {
      stands = subst (λ (bytes : List ℕ). StandsFor check bytes (after_cell side cell).end) (sym (map-append (λ (a : Arrival). a.byte) arrivals (last ∷ []))) (stands-byte node_host side.end cell.byte check (bytes_arrived arrivals) h.stands);
      heard = heard-more check arrivals last h.heard (whole-byte node_host side.end cell.byte check (bytes_arrived arrivals) h.stands);
    }

hears-arrival : (check : Check) (arrivals : List Arrival) (side : LineEndState) (cell : Option LaneCell) → Hears check arrivals side → Hears check (arrivals ++ arrived side cell) (after_arrival side cell)
hears-arrival check arrivals side None h = rw (append-nil arrivals) h
hears-arrival check arrivals side (Some cell) h = hears-cell check arrivals side cell h

-- both ends
pub record BothHear (check : Check) (at_a at_b : List Arrival) (s : LineState) : Type 0 where
  pub of_a : Hears check at_a s.a
  pub of_b : Hears check at_b s.b

hear-deeds : (check : Check) (at_a at_b : List Arrival) (s : LineState) (deeds : List Deed) → BothHear check at_a at_b s → BothHear check at_a (at_b ++ arrivals_over s deeds) (after_deeds s deeds)
hear-deeds check at_a at_b s [] h = rw (append-nil at_b) h
hear-deeds check at_a at_b s (deed ∷ deeds) h =
    let now = arrived s.b (arriving s.a deed) in
    rw (sym (append_assoc at_b now (arrivals_over (after_deed s deed) deeds)))
    (hear-deeds check at_a (at_b ++ now) (after_deed s deed) deeds (record { of_a = hears-near check at_a deed s.a h.of_a; of_b = hears-arrival check at_b s.b (arriving s.a deed) h.of_b }))

hear-seen : (who : Who) → IsTrue (is_end who) → (check : Check) (at_a at_b : List Arrival) (s : LineState) (e : Event) → who_of e ≡ who → BothHear check at_a at_b s
    → BothHear check (at_a ++ arrivals_at A s e) (at_b ++ arrivals_at B s e) (after_event s e)
hear-seen A end check at_a at_b s e is h = rw is (rw (append-nil at_a) (hear-deeds check at_a at_b s (deeds_of e) h))
hear-seen B end check at_a at_b s e is h =
    let b = hear-deeds check at_b at_a (swapped s) (deeds_of e) (record { of_a = h.of_b; of_b = h.of_a }) in
    rw is (rw (append-nil at_b) (record { of_a = b.of_b; of_b = b.of_a }))
hear-seen M end check at_a at_b s e is h = absurd cc
hear-seen (S station) end check at_a at_b s e is h = absurd cc

pub end-of : (e : Event) → IsPossible e → IsTrue (is_end (who_of e))
end-of (event.Issue who src dst payload) possible = possible.0
end-of (event.Take who n) possible = possible.0
end-of (event.Deliver lane n) possible = joins-end lane.from lane.to possible.0
end-of (event.Lose lane n) possible = joins-end lane.from lane.to possible.0
end-of (event.Alter lane mask) possible = joins-end lane.from lane.to possible.0
end-of (event.Foreign lane bytes) possible = joins-end lane.from lane.to possible.0
end-of (event.Tick who n) possible = possible.0

hear-events : (check : Check) (events : List Event) (at_a at_b : List Arrival) (s : LineState) → All IsPossible events → BothHear check at_a at_b s → BothHear check (at_a ++ arrivals_in A s events) (at_b ++ arrivals_in B s events) (state_after s events)
hear-events check [] at_a at_b s possible h = rw (append-nil at_a, append-nil at_b) h
hear-events check (e ∷ events) at_a at_b s possible h =
    let now = hear-seen (who_of e) (end-of e (All-head IsPossible e events possible)) check at_a at_b s e refl h in
    rw (sym (append_assoc at_a (arrivals_at A s e) (arrivals_in A (after_event s e) events)), sym (append_assoc at_b (arrivals_at B s e) (arrivals_in B (after_event s e) events)))
    (hear-events check events (at_a ++ arrivals_at A s e) (at_b ++ arrivals_at B s e) (after_event s e) (All-tail IsPossible e events possible) now)

pub run-hears : (script : Script) → IsPlayable script → BothHear script.check (arrivals_in A (start script) script.events) (arrivals_in B (start script) script.events) (state_after (start script) script.events)
run-hears script playable = hear-events script.check script.events [] [] (start script) playable.events (record {
  of_a = record { stands = stands-new (setup_of script.check (plan_of_a script)) (first_node (plan_of_a script)); heard = heard-none script.check };
  of_b = record { stands = stands-new (setup_of script.check (plan_of_b script)) (first_node (plan_of_b script)); heard = heard-none script.check };
})
