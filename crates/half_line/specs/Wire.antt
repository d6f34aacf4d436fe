-- What each end of a half-duplex line sent, as the report tells it.
use Rattle.std.specs.Prelude.{◌≡◌, ℕ, List, [], All}
use Rattle.std.specs.List.{filter}
use Rattle.pccc_envelope.specs.Envelope.{is_reply}
use Rattle.df1_node.specs.Answer.{StationState}
use Rattle.half_frame.specs.MasterGives.{IsGivenByMaster}
use Rattle.half_frame.specs.SlaveGives.{IsGivenBySlave}
use Rattle.script_statement.specs.declared.who.Who.{Who}
use Rattle.script_statement.specs.declared.who.Who.TheVariants.{M, S}
use Rattle.script_parts.specs.declared.script.EndPlan.{EndPlan}
use Rattle.script_parts.specs.declared.script.Script.{Script}
use Rattle.script_parts.specs.HalfPlayable.{station_plans}
use Rattle.replay_report.specs.declared.record.Record.{Record}
use Rattle.outset.specs.Outset.{first_station}
use Rattle.report_lines.specs.SentBytes.{sent_by}
use Rattle.each_once.specs.BySource.{AreOnceOf}
use Rattle.each_once.specs.Commands.{is_command}
use Rattle.each_once.specs.Direction.{AreSomeOf}
use Rattle.each_once.specs.Exchanges.{replies_to}
use Rattle.each_once.specs.OwnKeys.{HaveOwnKeys}
use Rattle.each_once.specs.Tells.{executed_in}
use Rattle.half_line.specs.Issues.{commands_of_m}
use Rattle.half_line.specs.Run.{plan_of_m}

-- What an end sent is DF1, as bytes of that direction are, and its messages are its own: some of these commands, each handed out
-- once, those of each source in their order; and some of the replies that its station made to what it is told to have executed, in
-- their order. Where no end was deceived, no two of them have the same key.
pub record IsDf1Wire (IsGiven : List (List ℕ) → List ℕ → Type 0) (who : Who) (commands : List (List ℕ)) (first : StationState) (r : Record) : Type 0 where
  pub messages : List (List ℕ)
  pub df1 : IsGiven messages (sent_by who r.lines)
  pub commands_once : AreOnceOf (filter is_command messages) commands
  pub replies_in_order : AreSomeOf (filter is_reply messages) (replies_to first (executed_in who r.lines))
  pub own_keys : r.deceived ≡ 0 → HaveOwnKeys messages

-- a station, at which the script issues no command
abbrev pub IsStationWire : Script → Record → EndPlan → Type 0
IsStationWire script r plan = IsDf1Wire (IsGivenBySlave script.check) (S plan.node) [] (first_station plan) r

-- the master, with the commands that the script issues there, and each station
pub record AreDf1Wires (script : Script) (r : Record) : Type 0 where
  pub of_master : IsDf1Wire (IsGivenByMaster script.check) M (commands_of_m script) (first_station (plan_of_m script)) r
  pub of_stations : All (IsStationWire script r) (station_plans script.ends)
