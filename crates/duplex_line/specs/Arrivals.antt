-- The bytes that arrive at the ends of a line, whether a whole frame is heard at each, and what is heard.
use Rattle.std.specs.Prelude.{List, [], ◌∷◌, ◌++◌, Option, Some, None, if◌then◌else◌}
use Rattle.duplex_receiver.specs.Receiver.{Hearing, hearing}
use Rattle.duplex_end.specs.Arrived.{Arrival}
use Rattle.script_statement.specs.declared.who.Who.{Who}
use Rattle.script_parts.specs.declared.script.Event.{Event}
use Rattle.lane_cells.specs.Cells.{LaneCell}
use Rattle.each_once.specs.NodeHost.{node_host}
use Rattle.each_once.specs.Tells.{is_who}
use Rattle.duplex_line.specs.Acts.{LineEndState, LineState, Deed, arriving, step_of, after_deed}
use Rattle.duplex_line.specs.Run.{who_of, deeds_of, seen_from, other, after_event}

-- what arrives at an end with a cell
abbrev pub arrived : LineEndState → Option LaneCell → List Arrival
arrived side None = []
arrived side (Some cell) = record { byte = cell.byte; whole = (step_of side cell).whole } ∷ []

-- what arrives at the end b at these steps of the end a
abbrev pub arrivals_over : LineState → List Deed → List Arrival
arrivals_over s [] = []
arrivals_over s (deed ∷ deeds) = arrived s.b (arriving s.a deed) ++ arrivals_over (after_deed s deed) deeds

-- what arrives at an end at an event: something only where it happens at the other end, or with the bytes from it
abbrev pub arrivals_at : Who → LineState → Event → List Arrival
arrivals_at who s e = if is_who who (other (who_of e)) then arrivals_over (seen_from (who_of e) s) (deeds_of e) else []

-- what arrives at an end over these events
abbrev pub arrivals_in : Who → LineState → List Event → List Arrival
arrivals_in who s [] = []
arrivals_in who s (e ∷ events) = arrivals_at who s e ++ arrivals_in who (after_event s e) events

-- ---- what is heard there

-- what an end hears with a cell
abbrev pub heard_with : LineEndState → Option LaneCell → List Hearing
heard_with side None = []
heard_with side (Some cell) = hearing (node_host.room_for side.end.host) 250 side.end.receiver cell.byte ∷ []

-- what the end b hears at these steps of the end a
abbrev pub heard_over : LineState → List Deed → List Hearing
heard_over s [] = []
heard_over s (deed ∷ deeds) = heard_with s.b (arriving s.a deed) ++ heard_over (after_deed s deed) deeds

-- what an end hears at an event
abbrev pub heard_at : Who → LineState → Event → List Hearing
heard_at who s e = if is_who who (other (who_of e)) then heard_over (seen_from (who_of e) s) (deeds_of e) else []

-- what an end hears over these events, at each byte that arrives
abbrev pub heard_in : Who → LineState → List Event → List Hearing
heard_in who s [] = []
heard_in who s (e ∷ events) = heard_at who s e ++ heard_in who (after_event s e) events
