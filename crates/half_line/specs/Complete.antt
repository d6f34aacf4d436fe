-- Each command executed and answered: what the record of an undisturbed half-duplex run tells, that ends with no reply left at a station.
use Rattle.std.specs.Prelude.{◌≡◌, ◌≤◌, ℕ, Bool, All, Contains, List, length, map, slice_index, ◌==◌}
use Rattle.std.specs.List.{filter}
use Rattle.script_statement.specs.declared.who.Who.TheVariants.{M, S}
use Rattle.script_parts.specs.declared.script.EndPlan.{EndPlan}
use Rattle.script_parts.specs.declared.script.Script.{Script}
use Rattle.script_parts.specs.HalfPlayable.{station_plans}
use Rattle.replay_report.specs.declared.record.Record.{Record}
use Rattle.outset.specs.Outset.{first_station}
use Rattle.each_once.specs.BySource.{AreAllOf}
use Rattle.each_once.specs.Exchanges.{exchanges, replies_to}
use Rattle.each_once.specs.OfStation.{lines_of}
use Rattle.each_once.specs.Once.{IsAnswered}
use Rattle.each_once.specs.Tells.{executed_in, answers_in}
use Rattle.half_line.specs.Issues.{commands_of_m}

-- a command is for this station: DST, its first byte, is the station's number
abbrev pub is_to : ℕ → List ℕ → Bool
is_to station body = slice_index body 0 == station

-- each command that the station executed, with its reply
abbrev pub exchanges_at : Record → EndPlan → List (List ℕ × List ℕ)
exchanges_at r plan = exchanges (first_station plan) (executed_in (S plan.node) r.lines)

-- the station executed all commands that were issued to it, each once, those of each source in their order; and the master
-- accepted its replies to all of them, in the order in which it executed them
pub record AllDoneAt (script : Script) (r : Record) (plan : EndPlan) : Type 0 where
  pub executed : AreAllOf (executed_in (S plan.node) r.lines) (filter (is_to plan.node) (commands_of_m script))
  pub replied : map (λ a. a.1) (answers_in M (lines_of plan.node r.lines)) ≡ replies_to (first_station plan) (executed_in (S plan.node) r.lines)

-- command n is told as answered, by what a station of the script answered to it
pub record IsAnsweredByOne (script : Script) (r : Record) (n : ℕ) : Type 0 where
  pub plan : EndPlan
  pub is_station : Contains (station_plans script.ends) plan
  pub answered : IsAnswered M (commands_of_m script) (exchanges_at r plan) r.lines n

-- no end was deceived; each station executed all commands for it, and all its replies were accepted; and each command of the master
-- was answered
pub record IsComplete (script : Script) (r : Record) : Type 0 where
  pub honest : r.deceived ≡ 0
  pub stations : All (AllDoneAt script r) (station_plans script.ends)
  pub answered : (n : ℕ) → 1 ≤ n → n ≤ length (commands_of_m script) → IsAnsweredByOne script r n
