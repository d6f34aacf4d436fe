-- The run of a route's script that deceives no end shows each command once between its ends.
use Rattle.std.proofs.Common.{◌≡◌, ◌∙◌, ℕ, ap, sym, subst}
use Rattle.std.specs.Prelude.{All}
use Rattle.std.specs.List.{filter_map}
use Rattle.df1_node.specs.Node.{NodeState}
use Rattle.script_statement.specs.declared.who.Who.{Who}
use Rattle.script_parts.specs.declared.script.EndPlan.{EndPlan}
use Rattle.script_parts.specs.declared.script.Script.{Script}
use Rattle.script_parts.specs.Plans.{first_plan}
use Rattle.script_parts.specs.HalfPlayable.{numbers_of, station_plans}
use Rattle.script_parts.specs.RoutePlayable.{IsRoutePlayable, IsRoutePossible}
use Rattle.script_statement.specs.declared.who.Who.TheVariants.{M, S}
use Rattle.each_once.specs.Commands.{command_bodies}
use Rattle.each_once.proofs.HandedOut.{bodies_of}
use Rattle.each_once.proofs.Sublists.{same-some}
use Rattle.half_line.specs.Run.{plan_of_m}
use Rattle.half_route.specs.Once.{RoutedOnce, commands_of, request_at}
use Rattle.half_route.specs.Run.{begun, route_of, whole_run}
use Rattle.half_route.proofs.AlongPlans.{zip-at}
use Rattle.half_route.proofs.EventsToCome.{all-next}
use Rattle.half_route.proofs.Issued.{HasIssued, IsStationOf, run-issued}
use Rattle.half_route.proofs.Once.FirstState.{holds-start, master-node, setting_of}
use Rattle.half_route.proofs.Once.WholeRecord.{AreAsIssued, first-who, master-first, routed-once, station-who}
use Rattle.half_route.proofs.Once.WholeRun.{kept-events}

-- what an end issued is what the script tells of the end of its plan
as-issued : (script : Script) (who : Who) (plan : EndPlan) (node : NodeState) → plan.who ≡ who → HasIssued who plan script.events node → bodies_of node.initiator.issued ≡ commands_of script plan
as-issued script who plan node is issued = issued.bodies ∙ ap (λ (w : Who). command_bodies plan.tns (filter_map (request_at w plan.node) script.events)) (sym is)

all-as-issued : (script : Script) → IsRoutePlayable script → AreAsIssued script (whole_run script).state
all-as-issued script playable =
    let s = (whole_run script).state in
    let issued = run-issued script playable in
    let m = plan_of_m script in
    record {
      master = as-issued script M m s.master.host.inner (first-who script.ends m playable.ends (master-first script.ends (first_plan M 0) playable.ends)) issued.master;
      sides = λ p side plan at at_plan.
          let of = zip-at (IsStationOf script.events) (station_plans script.ends) s.stations p side issued.stations at in
          let same : of.0 ≡ plan = same-some of.0 plan (sym of.1 ∙ at_plan) in
          let its : HasIssued (S plan.node) plan script.events side.slave.host = subst (λ (q : EndPlan). HasIssued (S q.node) q script.events side.slave.host) same of.2.issued in
          as-issued script (S plan.node) plan side.slave.host (station-who script.ends p plan playable.ends at_plan) its;
    }

pub run-shows : (script : Script) → IsRoutePlayable script → (route_of script).deceived ≡ 0 → RoutedOnce script (route_of script)
unfolding route_of
run-shows script playable none =
    let setting = setting_of script playable in
    let possible : All (IsRoutePossible (numbers_of script.ends) (plan_of_m script).node) script.events = subst (λ (node : ℕ). All (IsRoutePossible (numbers_of script.ends) node) script.events) (master-node script) playable.events in
    let h = kept-events setting script.events (begun script) possible (all-next script playable) (λ zero. holds-start script playable) none in
    routed-once script playable (whole_run script).state (whole_run script).lines h (all-as-issued script playable)
