-- What each end of a full-duplex line sent, as the report tells it.
use Rattle.std.specs.Prelude.{◌≡◌, ℕ, List, ◌++◌}
use Rattle.std.specs.List.{filter}
use Rattle.df1_check.specs.declared.Check.{Check}
use Rattle.df1_frame.specs.Wire.{IsDf1}
use Rattle.df1_node.specs.Answer.{StationState}
use Rattle.pccc_envelope.specs.Envelope.{is_reply}
use Rattle.script_statement.specs.declared.who.Who.{Who}
use Rattle.script_statement.specs.declared.who.Who.TheVariants.{A, B}
use Rattle.script_parts.specs.declared.script.Script.{Script}
use Rattle.replay_report.specs.declared.record.Record.{Record}
use Rattle.report_lines.specs.SentBytes.{sent_by}
use Rattle.each_once.specs.BySource.{AreOnceOf}
use Rattle.each_once.specs.Commands.{is_command}
use Rattle.each_once.specs.Exchanges.{replies_to}
use Rattle.each_once.specs.OwnKeys.{HaveOwnKeys}
use Rattle.each_once.specs.Tells.{executed_in}
use Rattle.duplex_line.specs.Issues.{commands_of_a, commands_of_b}
use Rattle.duplex_line.specs.Run.{first_station, plan_of_a, plan_of_b}

-- What an end sent is DF1, and the messages that its frames carry are its own: some of these commands, each handed out once, those of
-- each source in their order, and the first of the replies that its station made to what it is told to have executed, in their order.
-- Where no end was deceived, no two of them have the same key.
pub record IsDf1Wire (who : Who) (check : Check) (commands : List (List ℕ)) (first : StationState) (r : Record) : Type 0 where
  pub messages : List (List ℕ)
  pub df1 : IsDf1 check messages (sent_by who r.lines)
  pub commands_once : AreOnceOf (filter is_command messages) commands
  pub waiting : List (List ℕ)
  pub replies_in_order : filter is_reply messages ++ waiting ≡ replies_to first (executed_in who r.lines)
  pub own_keys : r.deceived ≡ 0 → HaveOwnKeys messages

-- both ends, each with the commands that the script issues there
pub record AreDf1Wires (script : Script) (r : Record) : Type 0 where
  pub of_a : IsDf1Wire A script.check (commands_of_a script) (first_station (plan_of_a script)) r
  pub of_b : IsDf1Wire B script.check (commands_of_b script) (first_station (plan_of_b script)) r
