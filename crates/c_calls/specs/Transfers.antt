-- What C is told of the transfers of a node.
use Rattle.std.specs.Prelude.{ℕ, List, length, nat_lt, if◌then◌else◌}
use Rattle.std.specs.declared.option.Option.{Option}
use Rattle.std.specs.declared.option.Option.TheVariants.{Some, None}
use Rattle.std.specs.Option.{option_or, unwrap_or}
use Rattle.df1_node.specs.Node.{NodeState}
use Rattle.bulk_orders.specs.Outcomes.{pull_result_from, push_result_from, words_pulled_from}
use Rattle.c_ends.specs.declared.code.Code.{Code}
use Rattle.c_ends.specs.declared.code.Code.TheVariants as code
use Rattle.c_transfers.specs.declared.TransferTold.{TransferTold}
use Rattle.c_transfers.specs.Transfers.{pull_fault, push_fault, transfer_told, words_fault}
use Rattle.c_ends.specs.declared.held.Held.{Held}
use Rattle.c_calls.specs.Behind.{node_in}
use Rattle.c_calls.specs.Commands.{station_refusal}
use Rattle.c_calls.specs.Copied.{room_code}

-- ---- issuing one

-- what stands against something at a node, where there is one
abbrev pub at_node : (NodeState → Option Code) → Option NodeState → Option Code
at_node fault None = Some code.NoHandle
at_node fault (Some node) = fault node

-- what stands against a transfer that reads so many words of a file, but for want of memory
abbrev pub pull_refusal : Option Held → (dst file words : ℕ) → Option Code
pull_refusal None dst file words = Some code.NoHandle
pull_refusal (Some held) dst file words = option_or (station_refusal held dst) (at_node (λ node. pull_fault node file words) (node_in held))

-- and against one that writes so many bytes to it
abbrev pub push_refusal : Option Held → (dst file bytes : ℕ) → Option Code
push_refusal None dst file bytes = Some code.NoHandle
push_refusal (Some held) dst file bytes = option_or (station_refusal held dst) (at_node (λ node. push_fault node file bytes) (node_in held))

-- ---- what it came to

-- of a transfer that may have so many words
abbrev pub unless_fault : {T : Type 0} → Option Code → T → Option T
unless_fault None told = Some told
unless_fault (Some fault) told = None

-- the words of one that reads, where it is whole, else none
abbrev pub words_told : NodeState → (first words : ℕ) → Option (List ℕ)
words_told node first words = unless_fault (words_fault words) (words_pulled_from node.initiator first words)

-- with room for so many bytes
abbrev pub pulled_code : NodeState → (first words room : ℕ) → Code
pulled_code node first words room = unwrap_or (words_fault words) (room_code (length (words_pulled_from node.initiator first words)) room)

-- what one that reads came to so far, where there is room for its words
abbrev pub pulled_told : NodeState → (first words room : ℕ) → Option TransferTold
pulled_told node first words room =
    if nat_lt room (length (words_pulled_from node.initiator first words)) then None
    else unless_fault (words_fault words) (transfer_told node.initiator (pull_result_from node.initiator first words))

abbrev pub pushed_code : ℕ → Code
pushed_code words = unwrap_or (words_fault words) code.Done

-- what one that writes came to so far
abbrev pub pushed_told : NodeState → (first words : ℕ) → Option TransferTold
pushed_told node first words = unless_fault (words_fault words) (transfer_told node.initiator (push_result_from node.initiator first words))
