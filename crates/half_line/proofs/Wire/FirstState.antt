-- Before the first event nothing is under way.
use Rattle.std.proofs.Common.{◌≡◌, ◌∙◌, ℕ, Bool, true, false, List, [], ◌∷◌, map, Option, None, is_none, refl, sym, subst}
use Rattle.std.specs.Prelude.{IsTrue, nat_lt, if◌then◌else◌}
use Rattle.std.specs.List.{list_all}
use Rattle.df1_check.specs.declared.Check.{Check}
use Rattle.df1_node.specs.HostLaws.{command-found}
use Rattle.df1_node.specs.Node.{NodeState, next_body}
use Rattle.half_mouth.specs.Giving.{take}
use Rattle.half_master.specs.declared.MasterSetup.{MasterSetup}
use Rattle.half_master.specs.Master.{MasterState, new_master, begun_of, out_at_take}
use Rattle.script_parts.specs.declared.script.EndPlan.{EndPlan}
use Rattle.script_parts.specs.declared.script.Script.{Script}
use Rattle.script_parts.specs.HalfPlayable.{station_plans, numbers_of}
use Rattle.outset.specs.Outset.{first_node}
use Rattle.each_once.specs.NodeHost.{node_host}
use Rattle.half_line.specs.Prompt.{is_idle, is_quiet}
use Rattle.half_line.specs.Run.{master_setup, first_side, plan_of_m, start}

either-none : (b : Bool) (o : Option (List ℕ)) → o ≡ None → (if b then o else o) ≡ None
either-none true o none = none
either-none false o none = none

-- a node without commands and replies hands out nothing
first-body : (plan : EndPlan) → next_body (first_node plan) ≡ None
first-body plan = command-found (first_node plan).initiator ∙ either-none (nat_lt 0 plan.window) None refl

new-gives : (setup : MasterSetup) (numbers : List ℕ) (node : NodeState) → next_body node ≡ None → is_none (out_at_take node_host (new_master setup numbers node)) ≡ true
new-gives setup numbers node none =
    let e : MasterState NodeState = new_master setup numbers node in
    subst (λ (o : Option (List ℕ)). is_none (take (begun_of node_host e o).mouth).1 ≡ true) (sym none) refl

idle-stations : (check : Check) (plans : List EndPlan) → list_all is_idle (map (first_side check) plans) ≡ true
idle-stations check [] = refl
idle-stations check (plan ∷ plans) = idle-stations check plans

pub first-quiet : (script : Script) → IsTrue (is_quiet (start script))
first-quiet script =
    let plan = plan_of_m script in
    rw (new-gives (master_setup script.check plan) (numbers_of script.ends) (first_node plan) (first-body plan)) (idle-stations script.check (station_plans script.ends))
