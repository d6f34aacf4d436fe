-- The commands of an initiator: the bodies of what a script issues, and what became of each.
use Rattle.std.specs.Prelude.{◌≡◌, ℕ, zero, suc, ◌+◌, ◌%◌, Bool, not, List, [], ◌∷◌, ◌++◌, drop, slice_get, slice_index, Option, Some, None}
use Rattle.pccc_envelope.specs.Envelope.{spelling, is_reply}
use Rattle.df1_node.specs.Initiator.{Standing, Waiting, Out, Answered, Undelivered, Unanswered, Issued}
use Rattle.script_statement.specs.declared.who.Who.{Who}
use Rattle.replay_report.specs.declared.record.Line.{Line}
use Rattle.each_once.specs.Tells.{outcomes_in}

-- what is issued: in whose name, the address that it goes to, and the payload, which is CMD and what follows TNS
pub record Request : Type 0 where
  pub src : ℕ
  pub dst : ℕ
  pub payload : List ℕ

-- the body of a command: DST SRC CMD 00 TNS and what follows CMD in the payload; TNS is counted modulo 65,536
abbrev pub command_body : ℕ → Request → List ℕ
command_body number request =
    spelling (record { dst = request.dst; src = request.src; cmd = slice_index request.payload 0; sts = 0x00; tns = number % 65536 }) ++ drop 1 request.payload

-- the bodies of a node's commands, which it numbers one by one, from a first TNS on
abbrev pub command_bodies : ℕ → List Request → List (List ℕ)
command_bodies number [] = []
command_bodies number (request ∷ requests) = command_body number request ∷ command_bodies (number + 1) requests

-- command n, counted from 1
abbrev pub command_at : {C : Type 0} → List C → ℕ → Option C
command_at commands zero = None
command_at commands (suc place) = slice_get commands place

-- what is told of how a command stands: nothing while it waits or is out
abbrev pub told_of : Standing → List Standing
told_of Waiting = []
told_of (Out left) = []
told_of (Answered reply) = Answered reply ∷ []
told_of Undelivered = Undelivered ∷ []
told_of Unanswered = Unanswered ∷ []

abbrev pub told_of_command : Option Issued → List Standing
told_of_command None = []
told_of_command (Some c) = told_of c.standing

-- the lines tell of each command how it ended, once, and of no other
abbrev pub AreOutcomesTold : Who → List Issued → List Line → Type 0
AreOutcomesTold who issued lines = (n : ℕ) → outcomes_in who n lines ≡ told_of_command (command_at issued n)

-- a message is a command, or else a reply
abbrev pub is_command : List ℕ → Bool
is_command body = not (is_reply body)
