-- Each command once, for each station, in the record of a half-duplex script.
use Rattle.std.specs.Prelude.{◌≡◌, ◌≤◌, ℕ, List, [], ◌++◌, All, IsTrue, length, slice_index}
use Rattle.std.specs.List.{flat_map}
use Rattle.data_files.specs.Tables.{DataTables}
use Rattle.script_statement.specs.declared.who.Who.TheVariants.{M, S}
use Rattle.script_parts.specs.declared.script.EndPlan.{EndPlan}
use Rattle.script_parts.specs.declared.script.Script.{Script}
use Rattle.script_parts.specs.declared.script.WordOf.{WordOf}
use Rattle.script_parts.specs.HalfPlayable.{is_declared, numbers_of, station_plans}
use Rattle.replay_report.specs.declared.record.Record.{Record}
use Rattle.outset.specs.Outset.{first_station, first_tables}
use Rattle.report_lines.specs.Words.{words_of}
use Rattle.each_once.specs.Exchanges.{station_after}
use Rattle.each_once.specs.OfStation.{lines_of}
use Rattle.each_once.specs.Once.{Once}
use Rattle.each_once.specs.Tells.{executed_in, answers_in, strays_in, outcomes_in}
use Rattle.half_line.specs.Issues.{commands_of_m}
use Rattle.half_line.specs.Run.{plan_of_m}

-- the tables that the commands which a station is told to have executed make of its first ones
abbrev pub tables_made : Record → EndPlan → DataTables
tables_made r plan = (station_after (first_station plan) (executed_in (S plan.node) r.lines)).tables

-- its words
abbrev pub words_made : Record → EndPlan → List WordOf
words_made r plan = words_of (S plan.node) (tables_made r plan)

-- each command once from the master to this station, by the lines without the replies of other stations; and each command that
-- the station executed was issued to it: DST, its first byte, is the station's number
pub record OnceAtStation (script : Script) (r : Record) (plan : EndPlan) : Type 0 where
  pub once : Once M (S plan.node) (commands_of_m script) (first_station plan) (lines_of plan.node r.lines)
  pub issued_to_it : All (λ body. slice_index body 0 ≡ plan.node) (executed_in (S plan.node) r.lines)

-- a reply is from a station of the script: SRC, its second byte, is the number of one
abbrev pub IsFromOne : Script → List ℕ → Type 0
IsFromOne script reply = IsTrue (is_declared (numbers_of script.ends) (slice_index reply 1))

-- each command once from the master to each station; of each command one outcome is told at most, whatever station it comes
-- from; each reply that the master accepts is from a station of the script; the master executes nothing; and the words of the
-- record are those of the master's first tables, and then, station by station, those that the executed commands make of the
-- first ones
pub record EachOnce (script : Script) (r : Record) : Type 0 where
  pub stations : All (OnceAtStation script r) (station_plans script.ends)
  pub outcomes : (n : ℕ) → length (outcomes_in M n r.lines) ≤ 1
  pub answers_from : All (λ a. IsFromOne script a.1) (answers_in M r.lines)
  pub strays_from : All (IsFromOne script) (strays_in M r.lines)
  pub executes_none : executed_in M r.lines ≡ []
  pub words : r.words ≡ words_of M (first_tables (plan_of_m script)) ++ flat_map (words_made r) (station_plans script.ends)
