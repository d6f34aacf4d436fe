-- The ends of a script of a route, and that all holds before the first event.
use Rattle.std.proofs.Common.{◌≡◌, ◌∙◌, ℕ, Bool, true, false, not, ◌&&◌, ◌||◌, List, [], ◌∷◌, Some, None, refl, ap, sym, subst}
use Rattle.std.specs.Prelude.{slice_get, slice_index_or, ◌==◌}
use Rattle.std.proofs.lemmas.Bool.{eq-eqb, eqb-true}
use Rattle.std.proofs.lemmas.Option.{get_or_from_slice_get}
use Rattle.df1_check.specs.declared.Check.{Check}
use Rattle.half_master.specs.Keys.{kept_at}
use Rattle.half_master.specs.Stations.{listed}
use Rattle.half_master.proofs.LastMessage.{sends-start}
use Rattle.outset.specs.Outset.{first_node, first_station}
use Rattle.script_statement.specs.declared.who.Who.TheVariants.{M, S}
use Rattle.script_parts.specs.declared.script.EndPlan.{EndPlan}
use Rattle.script_parts.specs.declared.script.Script.{Script}
use Rattle.script_parts.specs.Plans.{first_plan}
use Rattle.script_parts.specs.HalfPlayable.{is_declared, numbers_of, station_plans}
use Rattle.script_parts.specs.RoutePlayable.{IsRoutePlayable, is_reached, node_of_master}
use Rattle.station_router.specs.Router.{new_router}
use Rattle.each_once.proofs.OneDirection.{way-start}
use Rattle.each_once.proofs.Sublists.{from-map}
use Rattle.half_line.specs.Acts.{LineStationState}
use Rattle.half_line.specs.Run.{first_side, master_setup, plan_of_m, slave_setup}
use Rattle.half_line.proofs.Once.EachStation.{plan_at, are-distinct, listed-numbers, listed-kept, side-numbers}
use Rattle.half_line.proofs.Once.StationSteps.{sends-start as station-sends}
use Rattle.half_route.specs.Run.{begun}
use Rattle.half_route.proofs.Once.EndSteps.{End, end-start}
use Rattle.half_route.proofs.Once.Invariant.{Setting, SideHolds, Holds}
use Rattle.half_route.proofs.Once.RouterSteps.{routes-start}

-- ---- the ends

-- the master's address
node-of : (ends : List EndPlan) → node_of_master ends ≡ (slice_index_or ends 0 (first_plan M 0)).node
node-of [] = refl
node-of (plan ∷ plans) = refl

pub master-node : (script : Script) → node_of_master script.ends ≡ (plan_of_m script).node
master-node script = node-of script.ends

abbrev pub master_end : Script → End
master_end script = record {
  who = M;
  itself = refl;
  address = (plan_of_m script).node;
  first = first_station (plan_of_m script);
  may = λ dst. is_declared (numbers_of script.ends) dst;
}

abbrev pub station_end : Script → EndPlan → End
station_end script plan = record {
  who = S plan.node;
  itself = eq-eqb plan.node plan.node refl;
  address = plan.node;
  first = first_station plan;
  may = λ dst. is_reached (numbers_of script.ends) (plan_of_m script).node plan.node dst;
}

-- the plan of the station of a number
pub plan-numbered : (script : Script) (p n : ℕ) → slice_get (numbers_of script.ends) p ≡ Some n → (plan_at script p).node ≡ n
plan-numbered script p n at =
    let plans = station_plans script.ends in
    let was = from-map (λ (plan : EndPlan). plan.node) plans p n at in
    ap (λ (plan : EndPlan). plan.node) (get_or_from_slice_get plans p was.0 (first_plan M 0) was.1) ∙ was.2

pub reached-master : (declared same : Bool) (other : Bool) → ((declared && other) || same) ≡ true → declared ≡ false → same ≡ true
reached-master true same other reached not = let no : true ≡ false = not in absurd cc
reached-master false same other reached not = reached

abbrev pub setting_of : (script : Script) → IsRoutePlayable script → Setting
setting_of script playable = record {
  master = master_end script;
  is_master = refl;
  side = λ p. station_end script (plan_at script p);
  numbers = numbers_of script.ends;
  distinct = are-distinct script.ends playable.ends;
  apart = ap (is_declared (numbers_of script.ends)) (sym (master-node script)) ∙ playable.apart;
  named = λ p n at. let is = plan-numbered script p n at in (ap S is, is);
  reaches = λ p dst may not_declared. eqb-true _ _ (reached-master (is_declared (numbers_of script.ends) dst) (dst == (plan_of_m script).node) (not (dst == (plan_at script p).node)) may not_declared);
  master_reaches = λ dst may. may;
  may_reach = λ p n dst at reached. subst (λ number. is_reached (numbers_of script.ends) (plan_of_m script).node number dst ≡ true) (sym (plan-numbered script p n at)) reached;
  master_may = λ dst declared. declared;
}

-- ---- before the first event

first-holds : (script : Script) (check : Check) (plan : EndPlan) → SideHolds (station_end script plan) [] [] None (first_side check plan) []
first-holds script check plan = record {
  handed = [];
  accepted = [];
  own = refl;
  holds = end-start (station_end script plan) (first_node plan) refl refl refl refl;
  sends = station-sends (slave_setup check plan) (first_node plan);
  to_it = λ k body at. absurd cc;
  way = way-start;
  back = way-start;
}

pub holds-start : (script : Script) (playable : IsRoutePlayable script) → Holds (setting_of script playable) (begun script).state []
holds-start script playable =
    let m = plan_of_m script in
    let plans = station_plans script.ends in
    let numbers = numbers_of script.ends in
    let router = new_router numbers (first_node m) in
    record {
      sent = [];
      heard = [];
      master = record {
        routes = routes-start (master_end script) numbers router refl refl (end-start (master_end script) (first_node m) refl refl refl refl);
        sends = sends-start (master_setup script.check m) numbers router;
        numbers_are = listed-numbers numbers;
      };
      sides_are = side-numbers script.check plans;
      sides = λ p side at.
          let was = from-map (first_side script.check) plans p side at in
          let plan : plan_at script p ≡ was.0 = get_or_from_slice_get plans p was.0 (first_plan M 0) was.1 in
          subst (λ (x : LineStationState). SideHolds (station_end script (plan_at script p)) [] [] (kept_at (listed numbers) p) x []) was.2
          (subst (λ k. SideHolds (station_end script (plan_at script p)) [] [] k (first_side script.check was.0) []) (sym (listed-kept numbers p))
          (subst (λ (x : EndPlan). SideHolds (station_end script x) [] [] None (first_side script.check was.0) []) (sym plan) (first-holds script script.check was.0)));
    }
