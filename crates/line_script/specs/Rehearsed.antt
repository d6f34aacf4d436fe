-- Scripts that are read for a rehearsal.
use Rattle.std.specs.Prelude.{◌≡◌, ◌≤◌, false, count_by, sum_by}
use Rattle.script_parts.specs.declared.script.Script.{Script}
use Rattle.script_parts.specs.Playable.{count_of, issues}
use Rattle.script_statement.specs.declared.who.Who.TheVariants as who

-- what every script meets that was read for a rehearsal: full duplex, no command of end a, and events that sum to 4,000,000 at most
pub record IsRehearsed (script : Script) : Type 0 where
  pub mode : script.half ≡ false
  pub commands_of_a : count_by (issues who.A) script.events ≡ 0
  pub sum : sum_by count_of script.events ≤ 4000000
