-- The commands that the master of a script issues: a function of the script alone.
use Rattle.std.specs.Prelude.{ℕ, List, map, unwrap_or, Option, Some, None}
use Rattle.std.specs.List.{filter_map}
use Rattle.df1_node.specs.Initiator.{Issued}
use Rattle.df1_node.specs.Node.{NodeState}
use Rattle.half_master.specs.Master.{MasterState}
use Rattle.script_parts.specs.declared.script.Event.{Event}
use Rattle.script_parts.specs.declared.script.Event.TheVariants as event
use Rattle.script_parts.specs.declared.script.Script.{Script}
use Rattle.each_once.specs.Commands.{Request, command_bodies}
use Rattle.half_line.specs.Run.{plan_of_m}

-- what a master of this address issues at an event: in its own name where the event names no source; the master alone issues
abbrev pub request_at : ℕ → Event → Option Request
request_at node (event.Issue by src dst payload) = Some (record { src = unwrap_or src node; dst = dst; payload = payload })
request_at node other = None

abbrev pub requests_in : ℕ → List Event → List Request
requests_in node events = filter_map (request_at node) events

-- the bodies of the commands of the master: in the order of the script, numbered from its first TNS on
abbrev pub commands_of_m : Script → List (List ℕ)
commands_of_m script = command_bodies (plan_of_m script).tns (requests_in (plan_of_m script).node script.events)

-- the commands of the master, with how each stands, and their bodies
abbrev pub issued_of : MasterState NodeState → List Issued
issued_of m = m.host.initiator.issued

abbrev pub bodies_of : MasterState NodeState → List (List ℕ)
bodies_of m = map (λ c. c.body) (issued_of m)
