-- The service of one end: the commands that it issues, and what it tells of them.
use Rattle.std.specs.Prelude.{◌≡◌, ◌≤◌, ℕ, zero, suc, ◌+◌, ◌*◌, ◌/◌, Bool, List, [], ◌∷◌, ◌++◌, length, codes, decimal, unwrap_or}
use Rattle.hex.specs.Hex.{encode_upper}
use Rattle.df1_node.specs.declared.outcome.Outcome.{Outcome}
use Rattle.df1_node.specs.declared.outcome.Outcome.TheVariants.{Waiting, Out, Answered, Undelivered, Unanswered}
use Rattle.df1_node.specs.Initiator.{InitiatorState, Issued, told_outcome, told_reply}
use Rattle.df1_node.specs.Node.{NodeState, after_node_issue}
use Rattle.bulk_orders.specs.Orders.{orders_of, pull_payload, push_payload}
use Rattle.bulk_orders.specs.Outcomes.{pull_result, push_result, words_pulled}
use Rattle.bulk_orders.specs.Telling.{pull_line, push_line}
use Rattle.df1_plan.specs.declared.plan.Plan.{Plan}
use Rattle.df1_plan.specs.declared.plan.PlannedCommand.{PlannedCommand}
use Rattle.df1_service.specs.declared.commands.Issues.{Issues}
use Rattle.df1_service.specs.declared.commands.Issues.TheVariants as issue
use Rattle.df1_service.specs.declared.service.Service.{Service}

-- ---- what is issued

-- the commands that a service issues, without where their bytes lie in memory: none, the plan's, or the orders of a transfer
pub data Commands : Type 0 where
  NoCommands : Commands
  PlanCommands : Commands
  PullOrders : (file words : ℕ) → Commands
  PushOrders : (file : ℕ) (bytes : List ℕ) → Commands

abbrev pub seen : Issues → Commands
seen issue.Nothing = NoCommands
seen issue.Plan = PlanCommands
seen (issue.Pull file words) = PullOrders file words
seen (issue.Push file bytes) = PushOrders file bytes.now

-- how an end is served, likewise
pub record Serving : Type 0 where
  pub timed : Bool
  pub issues : Commands

abbrev pub serving_of : Service → Serving
serving_of service = record { timed = service.timed; issues = seen service.issues }

-- a transfer has a file of 0 to 999, and 1 to 3,000 words
abbrev pub CanBeIssued : Commands → Type 0
CanBeIssued NoCommands = Unit {0}
CanBeIssued PlanCommands = Unit {0}
CanBeIssued (PullOrders file words) = (file ≤ 999) × (1 ≤ words) × (words ≤ 3000)
CanBeIssued (PushOrders file bytes) = (file ≤ 999) × (2 ≤ length bytes) × (length bytes ≤ 6000) × (length bytes ≡ 2 * (length bytes / 2))

-- a node after a command of a plan was issued to this address, in the name of its source or else in the node's own
abbrev pub after_command : NodeState → ℕ → PlannedCommand → NodeState
after_command node dst command = after_node_issue node (unwrap_or command.src node.initiator.node) dst command.payload

-- a node after these commands were issued to this address, in order
abbrev pub all_issued : NodeState → ℕ → List PlannedCommand → NodeState
all_issued node dst [] = node
all_issued node dst (command ∷ commands) = all_issued (after_command node dst command) dst commands

-- a node after an order was issued to this address, in its own name
abbrev pub after_order : NodeState → ℕ → List ℕ → NodeState
after_order node dst order = after_node_issue node node.initiator.node dst order

-- a node after the first so many orders were issued to this address
abbrev pub orders_issued : NodeState → ℕ → (ℕ → List ℕ) → ℕ → NodeState
orders_issued node dst order zero = node
orders_issued node dst order (suc n) = after_order (orders_issued node dst order n) dst (order (suc n))

-- a node after these commands were issued to the peer of a plan
abbrev pub after_commands : Commands → Plan → NodeState → NodeState
after_commands NoCommands plan node = node
after_commands PlanCommands plan node = all_issued node plan.peer plan.issue
after_commands (PullOrders file words) plan node = orders_issued node plan.peer (pull_payload file words) (orders_of words)
after_commands (PushOrders file bytes) plan node = orders_issued node plan.peer (push_payload file bytes) (orders_of (length bytes / 2))

-- ---- what is told

-- the line of a command: its number, what became of it, and the reply where one was accepted
abbrev pub outcome_line : ℕ → Outcome → List ℕ → List ℕ
outcome_line n Waiting reply = decimal n ++ codes " unfinished\n"
outcome_line n Out reply = decimal n ++ codes " unfinished\n"
outcome_line n Answered reply = decimal n ++ codes " answered " ++ encode_upper reply ++ codes "\n"
outcome_line n Undelivered reply = decimal n ++ codes " undelivered\n"
outcome_line n Unanswered reply = decimal n ++ codes " unanswered\n"

-- the lines of commands, numbered from this number on
abbrev pub outcome_lines : ℕ → List Issued → List ℕ
outcome_lines n [] = []
outcome_lines n (c ∷ cs) = outcome_line n (told_outcome c.standing) (told_reply c.standing) ++ outcome_lines (n + 1) cs

-- a line for each command of an initiator, numbered from 1
abbrev pub outcomes_text : InitiatorState → List ℕ
outcomes_text initiator = outcome_lines 1 initiator.issued

-- of no command nothing, of the plan's a line each, and of the orders of a transfer the line of what it came to
abbrev pub told_text : Commands → InitiatorState → List ℕ
told_text NoCommands initiator = []
told_text PlanCommands initiator = outcomes_text initiator
told_text (PullOrders file words) initiator = pull_line (pull_result initiator words) (words_pulled initiator words)
told_text (PushOrders file bytes) initiator = push_line (push_result initiator (length bytes / 2)) (orders_of (length bytes / 2))
