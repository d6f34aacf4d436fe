-- The commands of each end are those of the script.
use Rattle.std.proofs.Common.{◌≡◌, ◌∙◌, List, [], ◌∷◌, ap, sym}
use Rattle.std.specs.Prelude.{All, slice_index_or}
use Rattle.std.specs.List.{AllZip, filter_map}
use Rattle.std.proofs.lemmas.List.Elements.{All-head, All-tail}
use Rattle.df1_node.specs.Node.{NodeState}
use Rattle.script_statement.specs.declared.who.Who.{Who}
use Rattle.script_statement.specs.declared.who.Who.TheVariants.{M, S}
use Rattle.script_parts.specs.declared.script.EndPlan.{EndPlan}
use Rattle.script_parts.specs.declared.script.Script.{Script}
use Rattle.script_parts.specs.HalfPlayable.{AreHalfEnds, IsStationPlan, station_plans}
use Rattle.script_parts.specs.Plans.{first_plan}
use Rattle.each_once.specs.Commands.{command_bodies}
use Rattle.half_line.specs.Acts.{LineStationState}
use Rattle.half_line.specs.Run.{plan_of_m}
use Rattle.half_route.specs.Issues.{HasItsCommands}
use Rattle.half_route.specs.Once.{request_at}
use Rattle.half_route.specs.Run.{whole_run}
use Rattle.half_route.proofs.Issued.{HasIssued, IsStationOf, run-issued}
use Rattle.half_route.proofs.laws.commands_are_issued.Goals as goal

-- an end whose plan has this name
as-named : (script : Script) (who : Who) (plan : EndPlan) (node : NodeState) → plan.who ≡ who → HasIssued who plan script.events node → HasItsCommands script plan node
as-named script who plan node named i = i.bodies ∙ ap (λ w. command_bodies plan.tns (filter_map (request_at w plan.node) script.events)) (sym named)

stations-named : (script : Script) (plans : List EndPlan) (sides : List LineStationState) → All IsStationPlan plans → AllZip (IsStationOf script.events) plans sides
    → AllZip (λ plan (side : LineStationState). HasItsCommands script plan side.slave.host) plans sides
stations-named script [] [] named all = tt
stations-named script [] (side ∷ sides) named all = absurd all
stations-named script (plan ∷ plans) [] named all = absurd all
stations-named script (plan ∷ plans) (side ∷ sides) named all = (
  as-named script (S plan.node) plan side.slave.host (All-head IsStationPlan plan plans named).end all.0.issued,
  stations-named script plans sides (All-tail IsStationPlan plan plans named) all.1,
)

master-named : (ends : List EndPlan) → AreHalfEnds ends → (slice_index_or ends 0 (first_plan M 0)).who ≡ M
master-named [] h = absurd h
master-named (master ∷ stations) h = h.0.end

are-stations : (ends : List EndPlan) → AreHalfEnds ends → All IsStationPlan (station_plans ends)
are-stations [] h = absurd h
are-stations (master ∷ stations) h = h.1

pub returns-clause-at_master : goal.returns-clause-at_master
returns-clause-at_master c script h = as-named script M (plan_of_m script) (whole_run script).state.master.host.inner (master-named script.ends h.ends) (run-issued script h).master

pub returns-clause-at_stations : goal.returns-clause-at_stations
returns-clause-at_stations c script h = stations-named script (station_plans script.ends) (whole_run script).state.stations (are-stations script.ends h.ends) (run-issued script h).stations
