-- Commands that are issued together, to one node and in the initiator's own name: all of them, in order, or none.
use Rattle.std.specs.Prelude.{◌≡◌, ◌≤◌, ℕ, ◌+◌, ◌*◌, true, false, ◌==◌, nat_lt, if◌then◌else◌, List, [], ◌∷◌, length, slice_index, Option, Some, None}
use Rattle.std.specs.Int.{bit_at}
use Rattle.df1_node.specs.declared.outcome.IssueFault.{IssueFault}
use Rattle.df1_node.specs.declared.outcome.IssueFault.TheVariants.{Spent}
use Rattle.df1_node.specs.declared.queue.Queue.{Queue}
use Rattle.df1_node.specs.Initiator.{InitiatorState, after_issue}
use Rattle.df1_node.specs.Node.{NodeState}
use Rattle.df1_node.specs.Queue.{HasRoom, is_listed}

-- a payload that is issued while numbers are left: 1 to 245 bytes, and bit 6 of CMD, the first, is clear
pub record IsPayload (payload : List ℕ) : Type 0 where
  pub some : 1 ≤ length payload
  pub short : length payload ≤ 245
  pub is_command : (bit_at (slice_index payload 0) 6 == 1) ≡ false

-- the initiator after a command of each payload was issued
abbrev pub after_all : InitiatorState → ℕ → List (List ℕ) → InitiatorState
after_all s dst [] = s
after_all s dst (payload ∷ payloads) = after_all (after_issue s s.node dst payload) dst payloads

-- fewer numbers are left than there are commands
abbrev pub together_fault : InitiatorState → ℕ → Option IssueFault
together_fault s count = if nat_lt 65535 (length s.issued + count) then Some Spent else None

-- the node after a command of each payload was issued
abbrev pub after_node_all : NodeState → ℕ → List (List ℕ) → NodeState
after_node_all node dst payloads = record node { initiator = after_all node.initiator dst payloads }

-- there is room for so many commands more of a source, and for the replies to them and to those that may still be answered
pub record HasRoomFor (count source : ℕ) (bytes : List ℕ) (room commands places : ℕ) (queue : Queue) : Type 0 where
  pub for_bytes : length bytes + 250 * (queue.unsettled + 2 * count) ≤ room
  pub for_commands : commands + count ≤ places
  pub for_waiting : HasRoom count queue.sources.items source
  pub is_used : is_listed queue.used.items source ≡ true
