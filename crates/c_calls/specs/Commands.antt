-- What C is told of the commands of a node.
use Rattle.std.specs.Prelude.{◌≡◌, ◌⊎◌, ℕ, ◌+◌, List, length, if◌then◌else◌}
use Rattle.std.specs.declared.option.Option.{Option}
use Rattle.std.specs.declared.option.Option.TheVariants.{Some, None}
use Rattle.std.specs.Option.{option_map, option_or}
use Rattle.df1_node.specs.declared.outcome.Outcome.{Outcome}
use Rattle.df1_node.specs.declared.outcome.Outcome.TheVariants as outcome
use Rattle.df1_node.specs.Initiator.{issue_fault, outcome_of, reply_of}
use Rattle.df1_node.specs.Node.{NodeState}
use Rattle.c_ends.specs.declared.code.Code.{Code}
use Rattle.c_ends.specs.declared.code.Code.TheVariants as code
use Rattle.c_ends.specs.declared.held.Held.{Held}
use Rattle.c_ends.specs.declared.held.Held.TheVariants as held
use Rattle.half_master.specs.Stations.{is_listed}
use Rattle.c_ends.specs.Code.{code_number}
use Rattle.c_transfers.specs.Transfers.{fault_code}
use Rattle.c_calls.specs.Copied.{room_code}
use Rattle.c_calls.specs.Behind.{node_in}

-- ---- issuing one

-- what stands against a command, but for want of memory
abbrev pub node_refusal : Option NodeState → List ℕ → Option Code
node_refusal None payload = Some code.NoHandle
node_refusal (Some node) payload = option_map fault_code (issue_fault node.initiator payload)

-- a master gives messages to its stations alone
abbrev pub station_refusal : Held → (dst : ℕ) → Option Code
station_refusal (held.Decoder decoder) dst = None
station_refusal (held.Duplex end) dst = None
station_refusal (held.Master end) dst = if is_listed end.stations dst then None else Some code.NoStation
station_refusal (held.Slave end) dst = None

abbrev pub refusal : Option Held → (dst : ℕ) → List ℕ → Option Code
refusal None dst payload = Some code.NoHandle
refusal (Some held) dst payload = option_or (station_refusal held dst) (node_refusal (node_in held) payload)

-- the number of the next command
abbrev pub next_number : NodeState → ℕ
next_number node = length node.initiator.issued + 1

-- a call that issues a command: where something stands against it the code of that, with nothing changed; else it is done, and tells the number `next`, or there is no memory, with nothing changed
abbrev pub IsIssue : {S : Type 0} → Option Code → S → ℕ → ℕ → S → S → ℕ → ℕ → Type 0
IsIssue None done next answer old new before after =
    ((answer ≡ code_number code.Done) × (new ≡ done) × (after ≡ next)) ⊎ ((answer ≡ code_number code.NoMemory) × (new ≡ old) × (after ≡ before))
IsIssue (Some fault) done next answer old new before after = (answer ≡ code_number fault) × (new ≡ old) × (after ≡ before)

-- ---- what became of one

abbrev pub outcome_number : Outcome → ℕ
outcome_number outcome.Waiting = 1
outcome_number outcome.Out = 2
outcome_number outcome.Answered = 3
outcome_number outcome.Undelivered = 4
outcome_number outcome.Unanswered = 5

abbrev pub outcome_code : Option Outcome → Code
outcome_code None = code.NoCommand
outcome_code (Some became) = code.Done

abbrev pub outcome_told : NodeState → ℕ → Option ℕ
outcome_told node number = option_map outcome_number (outcome_of node.initiator number)

-- ---- its reply

abbrev pub accepted : Option Outcome → List ℕ → Option (List ℕ)
accepted None reply = None
accepted (Some outcome.Waiting) reply = None
accepted (Some outcome.Out) reply = None
accepted (Some outcome.Answered) reply = Some reply
accepted (Some outcome.Undelivered) reply = None
accepted (Some outcome.Unanswered) reply = None

-- the accepted reply
abbrev pub reply_told : NodeState → ℕ → Option (List ℕ)
reply_told node number = accepted (outcome_of node.initiator number) (reply_of node.initiator number)

-- of so many bytes, with so much room
abbrev pub accepted_code : Option Outcome → ℕ → ℕ → Code
accepted_code None count room = code.NoCommand
accepted_code (Some outcome.Waiting) count room = code.NotAnswered
accepted_code (Some outcome.Out) count room = code.NotAnswered
accepted_code (Some outcome.Answered) count room = room_code count room
accepted_code (Some outcome.Undelivered) count room = code.NotAnswered
accepted_code (Some outcome.Unanswered) count room = code.NotAnswered

abbrev pub reply_code : NodeState → ℕ → ℕ → Code
reply_code node number room = accepted_code (outcome_of node.initiator number) (length (reply_of node.initiator number)) room
