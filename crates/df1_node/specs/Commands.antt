-- How an initiator keeps its commands. The bytes of their bodies and replies stand in one row.
use Rattle.std.specs.Prelude.{ℕ, suc, zero, ◌+◌, ◌*◌, ◌≤◌, List, [], ◌∷◌, ◌++◌, map, take, drop, length, All, Option, None, slice_get, slice_range}
use Rattle.df1_base.specs.Host.{IsBody}
use Rattle.df1_node.specs.declared.part.Part.{Part}
use Rattle.df1_node.specs.declared.issued.Command.{Command}
use Rattle.df1_node.specs.declared.issued.State.{State}
use Rattle.df1_node.specs.declared.issued.State.TheVariants as stands
use Rattle.df1_node.specs.declared.queue.Queue.{Queue}
use Rattle.df1_node.specs.Initiator.{Standing, Waiting, Out, Answered, Undelivered, Unanswered, Issued, ticked}
use Rattle.df1_node.specs.Queue.{IsQueue}

-- the bytes of a part
abbrev pub part_of : List ℕ → Part → List ℕ
part_of bytes p = slice_range bytes p.start p.end

-- a part of these bytes, and a body
pub record IsPart (bytes : List ℕ) (p : Part) : Type 0 where
  pub ordered : p.start ≤ p.end
  pub within : p.end ≤ length bytes
  pub body : IsBody (part_of bytes p)

-- how a command stands, whose reply is among these bytes
abbrev pub standing_of : List ℕ → State → Standing
standing_of bytes stands.Waiting = Waiting
standing_of bytes (stands.Out left) = Out left
standing_of bytes (stands.Answered reply) = Answered (part_of bytes reply)
standing_of bytes stands.Undelivered = Undelivered
standing_of bytes stands.Unanswered = Unanswered

-- the reply, where there is one, is a part of these bytes
abbrev pub IsStateKept : List ℕ → State → Type 0
IsStateKept bytes stands.Waiting = Unit {0}
IsStateKept bytes (stands.Out left) = Unit {0}
IsStateKept bytes (stands.Answered reply) = IsPart bytes reply
IsStateKept bytes stands.Undelivered = Unit {0}
IsStateKept bytes stands.Unanswered = Unit {0}

-- a command whose body and reply are among these bytes
abbrev pub issued_of : List ℕ → Command → Issued
issued_of bytes c = record { body = part_of bytes c.body; standing = standing_of bytes c.state }

-- these bytes have the body and the reply of the command
pub record IsKept (bytes : List ℕ) (c : Command) : Type 0 where
  pub body : IsPart bytes c.body
  pub state : IsStateKept bytes c.state

-- the commands as they are kept
abbrev pub all_issued : List ℕ → List Command → List Issued
all_issued bytes commands = map (issued_of bytes) commands

-- command n, from 1, as it is kept
abbrev pub kept_at : List Command → ℕ → Option Command
kept_at commands zero = None
kept_at commands (suc place) = slice_get commands place

-- a tick for the command at a place
abbrev pub ticked_at : ℕ → List Issued → List Issued
ticked_at place [] = []
ticked_at zero (c ∷ cs) = record c { standing = ticked c.standing } ∷ cs
ticked_at (suc place) (c ∷ cs) = c ∷ ticked_at place cs

-- how a command stands after what waits was given up
abbrev pub cleared_state : State → State
cleared_state stands.Waiting = stands.Undelivered
cleared_state (stands.Out left) = stands.Out left
cleared_state (stands.Answered reply) = stands.Answered reply
cleared_state stands.Undelivered = stands.Undelivered
cleared_state stands.Unanswered = stands.Unanswered

-- the commands after each that waits, from a place on, was given up
abbrev pub cleared_from : ℕ → List Command → List Command
cleared_from place commands = take place commands ++ map {A = Command} (λ c. record c { state = cleared_state c.state }) (drop place commands)

-- the commands are such as an initiator may have, what is kept of their order fits them, and there is room for a reply to each that
-- may still be answered
pub record AreCommands (bytes : List ℕ) (room : ℕ) (commands : List Command) (queue : Queue) (window : ℕ) : Type 0 where
  pub ordered : IsQueue (all_issued bytes commands) queue
  pub kept : All (IsKept bytes) commands
  pub few : length commands ≤ 65535
  pub fits : length bytes + 250 * queue.unsettled ≤ room
  pub short : length bytes + 250 * queue.unsettled ≤ 500 * length commands
  pub narrow : window ≤ 16
