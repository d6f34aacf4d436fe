-- The commands that an end of a route has issued.
use Rattle.std.specs.Prelude.{◌≡◌, map}
use Rattle.df1_node.specs.Node.{NodeState}
use Rattle.script_parts.specs.declared.script.EndPlan.{EndPlan}
use Rattle.script_parts.specs.declared.script.Script.{Script}
use Rattle.half_route.specs.Once.{commands_of}

-- a node has issued what the script issues at the end of this plan, in that order
abbrev pub HasItsCommands : Script → EndPlan → NodeState → Type 0
HasItsCommands script plan node = map (λ c. c.body) node.initiator.issued ≡ commands_of script plan
