-- When a command is over: its end can't give it any more, and nothing of it is on its way.
use Rattle.std.specs.Prelude.{◌≡◌, ◌≢◌, ◌⊎◌, ℕ, List, ◌++◌, Option, Some, None, true, false, All, Bool, Contains, slice_get}
use Rattle.df1_node.specs.Initiator.{Issued, InitiatorState, command, is_waiting}
use Rattle.df1_node.specs.Node.{NodeState}
use Rattle.duplex_sender.specs.declared.Phase.TheVariants as sends
use Rattle.duplex_sender.specs.Sender.{SenderState, phase_of, body_of}
use Rattle.duplex_line.specs.Acts.{LineEndState}
use Rattle.duplex_line.specs.Run as duplex
use Rattle.each_once.specs.Tells.{executed_in}
use Rattle.half_line.specs.Acts.{LineStationState}
use Rattle.half_line.specs.Behind.{plain_node}
use Rattle.half_line.specs.Run as polled
use Rattle.half_master.specs.declared.table.Phase.{Phase}
use Rattle.half_master.specs.declared.table.Phase.TheVariants as phase
use Rattle.half_master.specs.Master.{MasterState}
use Rattle.half_mouth.specs.Giving.{Giving, is_done}
use Rattle.lane_cells.specs.Cells.{Ending, LaneCell}
use Rattle.script_parts.specs.declared.script.Event.{Event}
use Rattle.script_parts.specs.declared.script.Script.{Script}
use Rattle.script_statement.specs.declared.who.Who.TheVariants.{A, B, S}

-- ---- an end doesn't hold a message

-- a full-duplex sender has no message, or another one
abbrev pub HoldsNot : SenderState → List ℕ → Type 0
HoldsNot s body = (phase_of s ≡ sends.Idle) ⊎ (body_of s ≢ body)

-- a master waits for the ACK of a message
abbrev pub waits_for_ack : Phase → Bool
waits_for_ack phase.Idle = false
waits_for_ack (phase.WaitsForAck left resent) = true
waits_for_ack (phase.WaitsAfterPoll left place) = false

-- no byte is left to be given, or those that are are none of a message
abbrev pub GivesNone : Giving → Type 0
GivesNone g = (is_done g ≡ true) ⊎ (g.number ≡ None)

-- a master gives no message and waits for no ACK, or its message is another one
abbrev pub MasterHoldsNot : MasterState NodeState → List ℕ → Type 0
MasterHoldsNot m body = ((waits_for_ack m.phase ≡ false) × GivesNone m.mouth) ⊎ (m.sending ≢ body)

-- ---- a command is over

-- the byte ends no transmission of this body
abbrev pub IsOfOther : List ℕ → Option Ending → Type 0
IsOfOther body None = Unit {0}
IsOfOther body (Some ending) = ending.body ≢ body

-- command n was handed out; its end doesn't hold it; and no byte of this lane ends a transmission of it
pub record IsOver (commands : InitiatorState) (not_held : Type 0) (lane : List LaneCell) (n : ℕ) (body : List ℕ) : Type 0 where
  pub standing : Issued
  pub is_command : command commands n ≡ Some standing
  pub has_body : standing.body ≡ body
  pub handed_out : is_waiting standing.standing ≡ false
  pub holds_not : not_held
  pub none_comes : All (λ (cell : LaneCell). IsOfOther body cell.ends) lane

-- a command of an end of a full-duplex line
abbrev pub IsOverAt : LineEndState → ℕ → List ℕ → Type 0
IsOverAt side n body = IsOver side.end.host.initiator (HoldsNot side.end.sender body) side.lane n body

-- a command of the master, on its way to a station
abbrev pub IsOverTo : MasterState NodeState → LineStationState → ℕ → List ℕ → Type 0
IsOverTo m side n body = IsOver m.host.initiator (MasterHoldsNot m body) side.to_it n body

-- ---- for good

-- after these events a command that is over isn't executed at the other end
pub record NoneIsExecuted (script : Script) (front back : List Event) : Type 0 where
  pub of_a : (n : ℕ) (body : List ℕ) → IsOverAt (duplex.state_after (duplex.start script) front).a n body → Contains (executed_in B (duplex.lines_after (duplex.state_after (duplex.start script) front) back)) body → ⊥
  pub of_b : (n : ℕ) (body : List ℕ) → IsOverAt (duplex.state_after (duplex.start script) front).b n body → Contains (executed_in A (duplex.lines_after (duplex.state_after (duplex.start script) front) back)) body → ⊥

-- cut the script anywhere
abbrev pub IsOverForGood : Script → Type 0
IsOverForGood script = (front back : List Event) → script.events ≡ front ++ back → NoneIsExecuted script front back

-- after these events a command that is over on its way to a station isn't executed there
abbrev pub NoneIsExecutedThere : Script → List Event → List Event → Type 0
NoneIsExecutedThere script front back =
    (place : ℕ) (side : LineStationState) → slice_get (polled.state_after plain_node (polled.start script) front).stations place ≡ Some side
    → (n : ℕ) (body : List ℕ) → IsOverTo (polled.state_after plain_node (polled.start script) front).master side n body
    → Contains (executed_in (S side.number) (polled.lines_after plain_node (polled.state_after plain_node (polled.start script) front) back)) body → ⊥

-- cut the script anywhere
abbrev pub IsOverThereForGood : Script → Type 0
IsOverThereForGood script = (front back : List Event) → script.events ≡ front ++ back → NoneIsExecutedThere script front back
