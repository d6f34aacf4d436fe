-- Each command once, both ways, in the record of a full-duplex script.
use Rattle.std.specs.Prelude.{◌≡◌, ◌++◌}
use Rattle.script_statement.specs.declared.who.Who.{Who}
use Rattle.script_statement.specs.declared.who.Who.TheVariants.{A, B}
use Rattle.script_parts.specs.declared.script.EndPlan.{EndPlan}
use Rattle.script_parts.specs.declared.script.Script.{Script}
use Rattle.replay_report.specs.declared.record.Record.{Record}
use Rattle.data_files.specs.Tables.{DataTables}
use Rattle.each_once.specs.Once.{Once}
use Rattle.each_once.specs.Exchanges.{station_after}
use Rattle.each_once.specs.Tells.{executed_in}
use Rattle.duplex_line.specs.Issues.{commands_of_a, commands_of_b}
use Rattle.report_lines.specs.Words.{words_of}
use Rattle.duplex_line.specs.Run.{first_station, plan_of_a, plan_of_b}

-- the tables that the commands which an end is told to have executed make of its first ones
abbrev pub tables_made : Who → EndPlan → Record → DataTables
tables_made who plan r = (station_after (first_station plan) (executed_in who r.lines)).tables

-- each command once from end a to end b and from end b to end a; and the words of the record are those that the executed
-- commands make of the first ones
pub record EachOnce (script : Script) (r : Record) : Type 0 where
  pub to_b : Once A B (commands_of_a script) (first_station (plan_of_b script)) r.lines
  pub to_a : Once B A (commands_of_b script) (first_station (plan_of_a script)) r.lines
  pub words : r.words ≡ words_of A (tables_made A (plan_of_a script) r) ++ words_of B (tables_made B (plan_of_b script) r)
