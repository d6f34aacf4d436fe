-- In every run: all that an end hears is what the grammar hears in the bytes that arrived at it.
use Rattle.std.proofs.Common.{◌≡◌, ℕ, List, [], ◌∷◌, ◌++◌, Option, Some, None, refl, sym, subst, append-nil, append_assoc}
use Rattle.std.specs.Prelude.{IsTrue, All}
use Rattle.std.proofs.lemmas.List.{map-append}
use Rattle.std.proofs.lemmas.List.Elements.{All-head, All-tail}
use Rattle.df1_check.specs.declared.Check.{Check}
use Rattle.duplex_receiver.specs.Receiver.{Hearing, ReceiverState}
use Rattle.duplex_receiver.specs.Hearing.{Stands}
use Rattle.duplex_end.specs.Arrived.{Arrival, bytes_arrived}
use Rattle.duplex_end.specs.Emission.{Byte}
use Rattle.duplex_end.proofs.Runs.{signals-stand, take-receiver, new-stands}
use Rattle.script_statement.specs.declared.who.Who.{Who}
use Rattle.script_statement.specs.declared.who.Who.TheVariants.{A, B, M, S}
use Rattle.script_parts.specs.declared.script.Event.{Event}
use Rattle.script_parts.specs.declared.script.Script.{Script}
use Rattle.script_parts.specs.Playable.{IsPossible, IsPlayable, is_end}
use Rattle.each_once.specs.NodeHost.{node_host}
use Rattle.lane_cells.specs.Cells.{LaneCell}
use Rattle.duplex_line.specs.Acts.{LineEndState, LineState, swapped, Deed, Issue, Take, Deliver, Lose, Alter, Foreign, Tick, near_after, arriving, step_of, after_cell, after_arrival, after_deed, after_deeds}
use Rattle.duplex_line.specs.Arrivals.{arrived, arrivals_over, arrivals_at, arrivals_in, heard_with, heard_over, heard_at, heard_in}
use Rattle.duplex_line.specs.Run.{plan_of_a, plan_of_b, setup_of, first_node, start, who_of, deeds_of, after_event, state_after}
use Rattle.duplex_line.proofs.Once.Arrivals.{end-of}

-- the receiver of an end stands for what arrived
abbrev Stood : Check → List Arrival → List Hearing → LineEndState → Type 0
Stood check arrivals hearings side = Stands check 250 (bytes_arrived arrivals) hearings side.end.receiver

stood-near : (check : Check) (arrivals : List Arrival) (hearings : List Hearing) (deed : Deed) (side : LineEndState) → Stood check arrivals hearings side → Stood check arrivals hearings (near_after side deed)
stood-near check arrivals hearings (Issue src dst payload) side h = h
stood-near check arrivals hearings Take side h = subst (λ (s : ReceiverState). Stands check 250 (bytes_arrived arrivals) hearings s) (sym (take-receiver node_host side.end)) h
stood-near check arrivals hearings Deliver side h = h
stood-near check arrivals hearings Lose side h = h
stood-near check arrivals hearings (Alter mask) side h = h
stood-near check arrivals hearings (Foreign byte) side h = h
stood-near check arrivals hearings Tick side h = h

stood-arrival : (check : Check) (arrivals : List Arrival) (hearings : List Hearing) (side : LineEndState) (cell : Option LaneCell) → Stood check arrivals hearings side
    → Stood check (arrivals ++ arrived side cell) (hearings ++ heard_with side cell) (after_arrival side cell)
stood-arrival check arrivals hearings side None h = rw (append-nil arrivals, append-nil hearings) h
stood-arrival check arrivals hearings side (Some cell) h =
    let last : Arrival = record { byte = cell.byte; whole = (step_of side cell).whole } in
    subst (λ (bytes : List ℕ). Stands check 250 bytes (hearings ++ heard_with side (Some cell)) (after_cell side cell).end.receiver) (sym (map-append (λ (a : Arrival). a.byte) arrivals (last ∷ [])))
    (signals-stand node_host check side.end (bytes_arrived arrivals) hearings (Byte cell.byte ∷ []) h)

-- both ends
record BothStand (check : Check) (at_a at_b : List Arrival) (by_a by_b : List Hearing) (s : LineState) : Type 0 where
  of_a : Stood check at_a by_a s.a
  of_b : Stood check at_b by_b s.b

stand-deeds : (check : Check) (at_a at_b : List Arrival) (by_a by_b : List Hearing) (s : LineState) (deeds : List Deed) → BothStand check at_a at_b by_a by_b s
    → BothStand check at_a (at_b ++ arrivals_over s deeds) by_a (by_b ++ heard_over s deeds) (after_deeds s deeds)
stand-deeds check at_a at_b by_a by_b s [] h = rw (append-nil at_b, append-nil by_b) h
stand-deeds check at_a at_b by_a by_b s (deed ∷ deeds) h =
    let now = arrived s.b (arriving s.a deed) in
    let heard = heard_with s.b (arriving s.a deed) in
    rw (sym (append_assoc at_b now (arrivals_over (after_deed s deed) deeds)), sym (append_assoc by_b heard (heard_over (after_deed s deed) deeds)))
    (stand-deeds check at_a (at_b ++ now) by_a (by_b ++ heard) (after_deed s deed) deeds (record { of_a = stood-near check at_a by_a deed s.a h.of_a; of_b = stood-arrival check at_b by_b s.b (arriving s.a deed) h.of_b }))

stand-seen : (who : Who) → IsTrue (is_end who) → (check : Check) (at_a at_b : List Arrival) (by_a by_b : List Hearing) (s : LineState) (e : Event) → who_of e ≡ who → BothStand check at_a at_b by_a by_b s
    → BothStand check (at_a ++ arrivals_at A s e) (at_b ++ arrivals_at B s e) (by_a ++ heard_at A s e) (by_b ++ heard_at B s e) (after_event s e)
stand-seen A end check at_a at_b by_a by_b s e is h = rw is (rw (append-nil at_a, append-nil by_a) (stand-deeds check at_a at_b by_a by_b s (deeds_of e) h))
stand-seen B end check at_a at_b by_a by_b s e is h =
    let b = stand-deeds check at_b at_a by_b by_a (swapped s) (deeds_of e) (record { of_a = h.of_b; of_b = h.of_a }) in
    rw is (rw (append-nil at_b, append-nil by_b) (record { of_a = b.of_b; of_b = b.of_a }))
stand-seen M end check at_a at_b by_a by_b s e is h = absurd cc
stand-seen (S station) end check at_a at_b by_a by_b s e is h = absurd cc

stand-events : (check : Check) (events : List Event) (at_a at_b : List Arrival) (by_a by_b : List Hearing) (s : LineState) → All IsPossible events → BothStand check at_a at_b by_a by_b s
    → BothStand check (at_a ++ arrivals_in A s events) (at_b ++ arrivals_in B s events) (by_a ++ heard_in A s events) (by_b ++ heard_in B s events) (state_after s events)
stand-events check [] at_a at_b by_a by_b s possible h = rw (append-nil at_a, append-nil at_b, append-nil by_a, append-nil by_b) h
stand-events check (e ∷ events) at_a at_b by_a by_b s possible h =
    let now = stand-seen (who_of e) (end-of e (All-head IsPossible e events possible)) check at_a at_b by_a by_b s e refl h in
    rw (
      sym (append_assoc at_a (arrivals_at A s e) (arrivals_in A (after_event s e) events)),
      sym (append_assoc at_b (arrivals_at B s e) (arrivals_in B (after_event s e) events)),
      sym (append_assoc by_a (heard_at A s e) (heard_in A (after_event s e) events)),
      sym (append_assoc by_b (heard_at B s e) (heard_in B (after_event s e) events)),
    )
    (stand-events check events (at_a ++ arrivals_at A s e) (at_b ++ arrivals_at B s e) (by_a ++ heard_at A s e) (by_b ++ heard_at B s e) (after_event s e) (All-tail IsPossible e events possible) now)

pub run-stands-a : (script : Script) → IsPlayable script → Stands script.check 250 (bytes_arrived (arrivals_in A (start script) script.events)) (heard_in A (start script) script.events) (state_after (start script) script.events).a.end.receiver
run-stands-a script playable = (stand-events script.check script.events [] [] [] [] (start script) playable.events (record {
  of_a = new-stands node_host (setup_of script.check (plan_of_a script)) (first_node (plan_of_a script)) [];
  of_b = new-stands node_host (setup_of script.check (plan_of_b script)) (first_node (plan_of_b script)) [];
})).of_a

pub run-stands-b : (script : Script) → IsPlayable script → Stands script.check 250 (bytes_arrived (arrivals_in B (start script) script.events)) (heard_in B (start script) script.events) (state_after (start script) script.events).b.end.receiver
run-stands-b script playable = (stand-events script.check script.events [] [] [] [] (start script) playable.events (record {
  of_a = new-stands node_host (setup_of script.check (plan_of_a script)) (first_node (plan_of_a script)) [];
  of_b = new-stands node_host (setup_of script.check (plan_of_b script)) (first_node (plan_of_b script)) [];
})).of_b
