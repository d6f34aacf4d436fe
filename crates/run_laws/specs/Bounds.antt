-- How many drained ticks are enough for the outcomes of all commands of an end.
use Rattle.std.specs.Prelude.{◌≢◌, ◌≤◌, ◌+◌, ◌-◌, ◌*◌, ℕ, Bool, true, false, List, [], length, max}
use Rattle.each_once.specs.Tells.{executed_in, outcomes_in}
use Rattle.duplex_line.specs.Issues.{commands_of_a, commands_of_b}
use Rattle.duplex_line.specs.Run.{plan_of_a, plan_of_b}
use Rattle.half_line.specs.Issues.{commands_of_m}
use Rattle.half_line.specs.Run.{plan_of_m}
use Rattle.replay_report.specs.declared.record.Line.{Line}
use Rattle.replay_report.specs.declared.record.Record.{Record}
use Rattle.script_parts.specs.declared.script.EndPlan.{EndPlan}
use Rattle.script_parts.specs.declared.script.Script.{Script}
use Rattle.script_statement.specs.declared.who.Who.{Who}
use Rattle.script_statement.specs.declared.who.Who.TheVariants.{A, B, M}
use Rattle.run_laws.specs.Drained.{drained_ticks, drained_ticks_of_master}

-- ---- on a full-duplex line

-- the waits for a response to one message: the first, and one after each ENQ; a NAK begins one anew of which a tick at least had passed
abbrev pub message_ticks : EndPlan → ℕ
message_ticks plan = plan.ack_ticks * (plan.max_enqs + 1) + (plan.ack_ticks - 1) * plan.max_naks

-- a command waits for its response and for its reply at once
abbrev pub command_ticks : EndPlan → ℕ
command_ticks plan = max (message_ticks plan) plan.reply_ticks

-- ---- on a half-duplex line

-- the waits for an ACK of one message: the first, and one after each time that it is sent again
abbrev pub polled_message_ticks : EndPlan → ℕ
polled_message_ticks plan = plan.ack_ticks * (plan.max_resends + 1)

-- a command waits for its ACK, and then for its reply: each tick of that wait comes with a poll
abbrev pub polled_command_ticks : EndPlan → ℕ
polled_command_ticks plan = polled_message_ticks plan + plan.reply_ticks * (plan.poll_ticks + 1)

-- ---- what is told

-- the lines tell how command n of the end ended
abbrev pub IsTold : Who → List Line → ℕ → Type 0
IsTold who lines n = outcomes_in who n lines ≢ []

-- and so of each command that it issued
abbrev pub AreAllTold : Who → List (List ℕ) → List Line → Type 0
AreAllTold who issued lines = (n : ℕ) → 1 ≤ n → n ≤ length issued → IsTold who lines n

-- where so many ticks came for each command of an end and so many for each reply of its station, each command's outcome is told
abbrev pub AreToldIn : Who → ℕ → ℕ → List (List ℕ) → ℕ → List Line → Type 0
AreToldIn who command message issued drained lines = length issued * command + length (executed_in who lines) * message ≤ drained → AreAllTold who issued lines

-- ---- in a run

pub record AtBothEnds (script : Script) (r : Record) : Type 0 where
  pub at_a : AreToldIn A (command_ticks (plan_of_a script)) (message_ticks (plan_of_a script)) (commands_of_a script) (drained_ticks A script) r.lines
  pub at_b : AreToldIn B (command_ticks (plan_of_b script)) (message_ticks (plan_of_b script)) (commands_of_b script) (drained_ticks B script) r.lines

abbrev pub AtMaster : Script → Record → Type 0
AtMaster script r = AreToldIn M (polled_command_ticks (plan_of_m script)) (polled_message_ticks (plan_of_m script)) (commands_of_m script) (drained_ticks_of_master script) r.lines

abbrev pub AtIssuersOf : Bool → Script → Record → Type 0
AtIssuersOf true script r = AtMaster script r
AtIssuersOf false script r = AtBothEnds script r

-- each end that issues commands has their outcomes, whatever the line does, once enough drained ticks came there
abbrev pub OutcomesCome : Script → Record → Type 0
OutcomesCome script r = AtIssuersOf script.half script r
