-- The commands that the ends of a script issue: a function of the script alone.
use Rattle.std.specs.Prelude.{ℕ, List, map, unwrap_or, Option, None}
use Rattle.std.specs.List.{filter_map}
use Rattle.script_statement.specs.declared.who.Who.{Who}
use Rattle.script_statement.specs.declared.who.Who.TheVariants.{A, B}
use Rattle.script_parts.specs.declared.script.Event.{Event}
use Rattle.script_parts.specs.declared.script.Event.TheVariants as event
use Rattle.script_parts.specs.declared.script.Script.{Script}
use Rattle.each_once.specs.Commands.{Request, command_bodies}
use Rattle.each_once.specs.Tells.{where_of}
use Rattle.df1_node.specs.Initiator.{Issued}
use Rattle.duplex_line.specs.Acts.{LineEndState}
use Rattle.duplex_line.specs.Run.{plan_of_a, plan_of_b}

-- what an end of this address issues at an event: in its own name where the event names no source
abbrev pub request_at : Who → ℕ → Event → Option Request
request_at who node (event.Issue by src dst payload) = where_of who by (record { src = unwrap_or src node; dst = dst; payload = payload })
request_at who node other = None

abbrev pub requests_in : Who → ℕ → List Event → List Request
requests_in who node events = filter_map (request_at who node) events

-- the bodies of the commands of end a, and of end b: in the order of the script, numbered from the end's first TNS on
abbrev pub commands_of_a : Script → List (List ℕ)
commands_of_a script = command_bodies (plan_of_a script).tns (requests_in A (plan_of_a script).node script.events)

abbrev pub commands_of_b : Script → List (List ℕ)
commands_of_b script = command_bodies (plan_of_b script).tns (requests_in B (plan_of_b script).node script.events)

-- the commands of an end, with how each stands, and their bodies
abbrev pub issued_of : LineEndState → List Issued
issued_of side = side.end.host.initiator.issued

abbrev pub bodies_of : LineEndState → List (List ℕ)
bodies_of side = map (λ c. c.body) (issued_of side)
