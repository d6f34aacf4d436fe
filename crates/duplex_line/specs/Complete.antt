-- Each command executed and answered: what the record of an undisturbed run that ends with nothing under way tells.
use Rattle.std.specs.Prelude.{◌≡◌, ◌≤◌, ℕ, List, length}
use Rattle.df1_node.specs.Answer.{StationState}
use Rattle.script_statement.specs.declared.who.Who.{Who}
use Rattle.script_statement.specs.declared.who.Who.TheVariants.{A, B}
use Rattle.script_parts.specs.declared.script.Script.{Script}
use Rattle.replay_report.specs.declared.record.Line.{Line}
use Rattle.replay_report.specs.declared.record.Record.{Record}
use Rattle.each_once.specs.BySource.{AreAllOf}
use Rattle.each_once.specs.Exchanges.{exchanges}
use Rattle.each_once.specs.Once.{IsAnswered}
use Rattle.each_once.specs.Tells.{executed_in}
use Rattle.duplex_line.specs.Issues.{commands_of_a, commands_of_b}
use Rattle.duplex_line.specs.Run.{first_station, plan_of_a, plan_of_b}

-- the station of one end executed all commands of the other, each once, those of each source in their order; and each was answered
pub record AreAllDone (from to : Who) (issued : List (List ℕ)) (first : StationState) (lines : List Line) : Type 0 where
  pub executed : AreAllOf (executed_in to lines) issued
  pub answered : (n : ℕ) → 1 ≤ n → n ≤ length issued → IsAnswered from issued (exchanges first (executed_in to lines)) lines n

-- no end was deceived, and all commands of both ends were executed and answered
pub record IsComplete (script : Script) (r : Record) : Type 0 where
  pub honest : r.deceived ≡ 0
  pub of_a : AreAllDone A B (commands_of_a script) (first_station (plan_of_b script)) r.lines
  pub of_b : AreAllDone B A (commands_of_b script) (first_station (plan_of_a script)) r.lines
