-- Before the first event nothing is under way.
use Rattle.std.proofs.Common.{◌≡◌, ◌∙◌, ℕ, Bool, true, false, List, Option, None, is_none, ap, sym, subst, refl}
use Rattle.std.specs.Prelude.{IsTrue, nat_lt, if◌then◌else◌}
use Rattle.df1_check.specs.declared.Check.{Check}
use Rattle.df1_node.specs.HostLaws.{command-found}
use Rattle.df1_node.specs.Node.{NodeState, next_body}
use Rattle.duplex_end.specs.declared.Setup.{Setup}
use Rattle.duplex_sender.specs.declared.Phase.TheVariants as phase
use Rattle.embedded_response.specs.Giving.{Choice, nothing, chosen}
use Rattle.duplex_end.specs.End.{EndState, Place, new_end, next_place, taken, out_at_take}
use Rattle.duplex_end.proofs.Order.{place_after, frame_at, next-is}
use Rattle.script_parts.specs.declared.script.EndPlan.{EndPlan}
use Rattle.script_parts.specs.declared.script.Script.{Script}
use Rattle.each_once.specs.NodeHost.{node_host}
use Rattle.duplex_line.specs.Prompt.{is_idle, is_quiet}
use Rattle.duplex_line.specs.Run.{first_node, first_side, start, plan_of_a, plan_of_b}

either-none : (b : Bool) (o : Option (List ℕ)) → o ≡ None → (if b then o else o) ≡ None
either-none true o none = none
either-none false o none = none

-- a node without commands and replies hands out nothing
first-body : (plan : EndPlan) → next_body (first_node plan) ≡ None
first-body plan = command-found (first_node plan).initiator ∙ either-none (nat_lt 0 plan.window) None refl

none-chosen : (check : Check) (embed : Bool) → chosen (nothing check embed) ≡ None
none-chosen check true = refl
none-chosen check false = refl

none-taken : (e : EndState NodeState) (next : Option (List ℕ)) → next ≡ None → is_none (taken node_host e (frame_at e.sender phase.Idle next)).1 ≡ true
none-taken e next none = subst (λ (o : Option (List ℕ)). is_none (taken node_host e (frame_at e.sender phase.Idle o)).1 ≡ true) (sym none) refl

-- an end gives nothing where nothing was heard and its node hands out nothing
new-gives : (setup : Setup) (node : NodeState) → next_body node ≡ None → is_none (out_at_take node_host (new_end setup node)) ≡ true
new-gives setup node none =
    let e : EndState NodeState = new_end setup node in
    let place : next_place node_host e ≡ frame_at e.sender phase.Idle (next_body node) =
    next-is node_host e ∙ ap (λ (c : Option Choice). place_after c (frame_at e.sender phase.Idle (next_body node))) (none-chosen setup.check setup.embed) in
    ap (λ (p : Option Place). is_none (taken node_host e p).1) place ∙ none-taken e (next_body node) none

first-idle : (check : Check) (plan : EndPlan) → is_idle (first_side check plan) ≡ true
first-idle check plan = new-gives _ (first_node plan) (first-body plan)

pub first-quiet : (script : Script) → IsTrue (is_quiet (start script))
first-quiet script = rw (first-idle script.check (plan_of_a script), first-idle script.check (plan_of_b script)) refl
