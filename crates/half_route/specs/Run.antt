-- The run of a route script: the half-duplex line of its master and stations, with a router between all stations before the master's node.
use Rattle.std.specs.Prelude.{List, [], ◌∷◌}
use Rattle.df1_node.specs.Node.{NodeState}
use Rattle.half_line.specs.Behind.{routed_node}
use Rattle.half_line.specs.Plays as line
use Rattle.half_line.specs.Plays.{MayIssueAt, Played, begun_with, issued_at, played}
use Rattle.half_line.specs.Run.{plan_of_m, record_from}
use Rattle.outset.specs.Outset.{first_node}
use Rattle.replay_report.specs.declared.record.Record.{Record}
use Rattle.script_parts.specs.declared.script.Event.{Event}
use Rattle.script_parts.specs.declared.script.Event.TheVariants as event
use Rattle.script_parts.specs.declared.script.Script.{Script}
use Rattle.script_parts.specs.HalfPlayable.{numbers_of}
use Rattle.script_statement.specs.declared.who.Who.TheVariants.{S}
use Rattle.station_router.specs.Router.{RouterState, new_router}

-- what a route holds while it is played
abbrev pub Routed : Type 0
Routed = Played (RouterState NodeState)

-- before the first event: no body waits to be carried
abbrev pub begun : Script → Routed
begun script = begun_with script (new_router (numbers_of script.ends) (first_node (plan_of_m script)))

-- after an event more: a station issues a command, or what happens on every half-duplex line
abbrev pub after_event : Routed → Event → Routed
after_event p (event.Issue (S number) src dst payload) = issued_at p number dst payload
after_event p e = played routed_node p e

abbrev pub after_events : Routed → List Event → Routed
after_events p [] = p
after_events p (e ∷ events) = after_events (after_event p e) events

-- an event that may happen next
abbrev pub IsNext : Routed → Event → Type 0
IsNext p (event.Issue (S number) src dst payload) = MayIssueAt p number payload
IsNext p e = line.IsNext routed_node p e

-- after all events of a script
abbrev pub whole_run : Script → Routed
whole_run script = after_events (begun script) script.events

-- the record of a script's run
unfoldable pub route_of : Script → Record
route_of script = record_from routed_node (whole_run script).state (whole_run script).lines
