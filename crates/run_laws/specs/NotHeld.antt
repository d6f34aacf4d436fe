-- A command that was given up isn't held: its end won't give it again, whatever is heard.
use Rattle.std.specs.Prelude.{◌≡◌, ◌≤◌, ℕ, List, [], ◌∷◌, ◌++◌, Some, None, true}
use Rattle.df1_node.specs.Initiator.{Issued, Undelivered, Unanswered, command, is_settled}
use Rattle.df1_node.specs.Node.{NodeState}
use Rattle.duplex_end.specs.End.{EndState, out_at_take}
use Rattle.duplex_line.specs.Acts.{LineEndState, LineState, Deed, Issue, Take, Deliver, Lose, Alter, Foreign, Tick, near_after}
use Rattle.duplex_line.specs.Run as duplex
use Rattle.duplex_line.specs.Run.{plan_of_a, plan_of_b}
use Rattle.each_once.specs.NodeHost.{node_host}
use Rattle.half_line.specs.Behind.{plain_node}
use Rattle.half_line.specs.Run as polled
use Rattle.half_master.specs.Master.{MasterState}
use Rattle.run_laws.specs.Bounds.{message_ticks}
use Rattle.script_parts.specs.declared.script.Event.{Event}
use Rattle.script_parts.specs.declared.script.Script.{Script}
use Rattle.script_statement.specs.declared.who.Who.{Who}
use Rattle.script_statement.specs.declared.who.Who.TheVariants.{A, B}
use Rattle.run_laws.specs.Over.{HoldsNot, MasterHoldsNot}

-- an end of a full-duplex line holds no command that is undelivered
abbrev pub HoldsNoneUndelivered : LineEndState → Type 0
HoldsNoneUndelivered side = (n : ℕ) (c : Issued) → command side.end.host.initiator n ≡ Some c → c.standing ≡ Undelivered → HoldsNot side.end.sender c.body

-- and none that is unanswered
abbrev pub HoldsNoneUnanswered : LineEndState → Type 0
HoldsNoneUnanswered side = (n : ℕ) (c : Issued) → command side.end.host.initiator n ≡ Some c → c.standing ≡ Unanswered → HoldsNot side.end.sender c.body

-- a master holds no command whose outcome is known
abbrev pub HoldsNoneSettled : MasterState NodeState → Type 0
HoldsNoneSettled m = (n : ℕ) (c : Issued) → command m.host.initiator n ≡ Some c → is_settled c.standing ≡ true → MasterHoldsNot m c.body

pub record BothHoldNone (s : LineState) : Type 0 where
  pub at_a : HoldsNoneUndelivered s.a
  pub at_b : HoldsNoneUndelivered s.b

-- after whichever event of a script
abbrev pub NoUndeliveredIsHeld : Script → Type 0
NoUndeliveredIsHeld script = (front back : List Event) → script.events ≡ front ++ back → BothHoldNone (duplex.state_after (duplex.start script) front)

abbrev pub NoSettledIsHeld : Script → Type 0
NoSettledIsHeld script = (front back : List Event) → script.events ≡ front ++ back → HoldsNoneSettled (polled.state_after plain_node (polled.start script) front).master

-- ---- ticks

-- this is so of the end at a step that is a tick
abbrev pub AtTick : (EndState NodeState → Type 0) → LineEndState → Deed → Type 0
AtTick D side (Issue src dst payload) = Unit {0}
AtTick D side Take = Unit {0}
AtTick D side Deliver = Unit {0}
AtTick D side Lose = Unit {0}
AtTick D side (Alter mask) = Unit {0}
AtTick D side (Foreign byte) = Unit {0}
AtTick D side Tick = D side.end

abbrev pub AtTicks : (EndState NodeState → Type 0) → LineEndState → List Deed → Type 0
AtTicks D side [] = Unit {0}
AtTicks D side (deed ∷ deeds) = AtTick D side deed × AtTicks D (near_after side deed) deeds

-- at each tick of this end
abbrev pub AtTicksIn : (EndState NodeState → Type 0) → Who → LineState → List Event → Type 0
AtTicksIn D who s [] = Unit {0}
AtTicksIn D who s (e ∷ events) = (duplex.who_of e ≡ who → AtTicks D (duplex.seen_from who s).a (duplex.deeds_of e)) × AtTicksIn D who (duplex.after_event s e) events

-- a take would give nothing
abbrev pub IsDrained : EndState NodeState → Type 0
IsDrained e = out_at_take node_host e ≡ None

-- an end whose ticks so far were all drained, and whose replies may take as long as all waits of a message
pub record NoneUnansweredAt (script : Script) (front : List Event) : Type 0 where
  pub at_a : message_ticks (plan_of_a script) ≤ (plan_of_a script).reply_ticks → AtTicksIn IsDrained A (duplex.start script) front → HoldsNoneUnanswered (duplex.state_after (duplex.start script) front).a
  pub at_b : message_ticks (plan_of_b script) ≤ (plan_of_b script).reply_ticks → AtTicksIn IsDrained B (duplex.start script) front → HoldsNoneUnanswered (duplex.state_after (duplex.start script) front).b

abbrev pub NoUnansweredIsHeld : Script → Type 0
NoUnansweredIsHeld script = (front back : List Event) → script.events ≡ front ++ back → NoneUnansweredAt script front
