-- The transfers of a node as C has them: what stands against one, the orders that it issues, and what it came to so far.
use Rattle.std.specs.Prelude.{ℕ, ◌*◌, ◌/◌, Bool, ◌&&◌, ◌==◌, nat_le, nat_lt, if◌then◌else◌, List, length, Option, Some, None}
use Rattle.std.specs.Option.{option_map, option_or}
use Rattle.df1_node.specs.declared.outcome.IssueFault.{IssueFault}
use Rattle.df1_node.specs.declared.outcome.IssueFault.TheVariants as fault
use Rattle.df1_node.specs.Initiator.{InitiatorState}
use Rattle.df1_node.specs.Node.{NodeState}
use Rattle.df1_node.specs.Together.{after_node_all, together_fault}
use Rattle.bulk_orders.specs.declared.outcome.Bulk.{Bulk}
use Rattle.bulk_orders.specs.declared.outcome.Bulk.TheVariants.{Whole, Missing, Refused, Odd}
use Rattle.bulk_orders.specs.Orders.{all_orders, orders_of, pull_payload, push_payload}
use Rattle.bulk_orders.specs.Outcomes.{is_under_way}
use Rattle.c_ends.specs.declared.code.Code.{Code}
use Rattle.c_ends.specs.declared.code.Code.TheVariants as code
use Rattle.c_transfers.specs.declared.TransferTold.{TransferTold}

-- ---- what stands against a transfer

abbrev pub file_fault : ℕ → Option Code
file_fault file = if nat_lt 999 file then Some code.BadFile else None

-- it has 1 to 3,000 words
abbrev pub words_fault : ℕ → Option Code
words_fault words = if nat_le 1 words && nat_le words 3000 then None else Some code.BadWords

-- so many bytes are 1 to 3,000 words, two bytes each
abbrev pub bytes_fault : ℕ → Option Code
bytes_fault bytes = if bytes == 2 * (bytes / 2) then words_fault (bytes / 2) else Some code.BadWords

-- the code of a fault
abbrev pub fault_code : IssueFault → Code
fault_code fault.NoMemory = code.NoMemory
fault_code fault.Empty = code.NoPayload
fault_code fault.TooLong = code.LongPayload
fault_code fault.NotCommand = code.NotCommand
fault_code fault.Spent = code.Spent

-- fewer numbers are left than a transfer of so many words has orders
abbrev pub numbers_fault : NodeState → ℕ → Option Code
numbers_fault node words = option_map fault_code (together_fault node.initiator (orders_of words))

-- of one that reads, the first of these; for want of memory one is refused besides
abbrev pub pull_fault : NodeState → (file words : ℕ) → Option Code
pull_fault node file words = option_or (file_fault file) (option_or (words_fault words) (numbers_fault node words))

-- and of one that writes so many bytes
abbrev pub push_fault : NodeState → (file bytes : ℕ) → Option Code
push_fault node file bytes = option_or (file_fault file) (option_or (bytes_fault bytes) (numbers_fault node (bytes / 2)))

-- ---- its orders

-- the node after the orders of a transfer that reads so many words of a file were issued, in its own name
abbrev pub after_pull : (dst file words : ℕ) → NodeState → NodeState
after_pull dst file words node = after_node_all node dst (all_orders (pull_payload file words) (orders_of words))

-- and of one that writes these words to it
abbrev pub after_push : (dst file : ℕ) → List ℕ → NodeState → NodeState
after_push dst file bytes node = after_node_all node dst (all_orders (push_payload file bytes) (orders_of (length bytes / 2)))

-- ---- what it came to

-- what it came to so far, where it may be under way still
abbrev pub bulk_told : Bool → Bulk → TransferTold
bulk_told pending Whole = record { state = 1; number = 0; sts = 0; ext = 0 }
bulk_told pending (Missing number) = record { state = if pending then 0 else 2; number = number; sts = 0; ext = 0 }
bulk_told pending (Refused number sts ext) = record { state = 3; number = number; sts = sts; ext = ext }
bulk_told pending (Odd number) = record { state = 4; number = number; sts = 0; ext = 0 }

abbrev pub transfer_told : InitiatorState → Bulk → TransferTold
transfer_told initiator came = bulk_told (is_under_way initiator came) came
