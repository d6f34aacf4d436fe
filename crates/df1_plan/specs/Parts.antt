-- The parts of a plan as they are read, and the plan that is joined of them.
use Rattle.std.specs.Prelude.{◌≡◌, ℕ, List, Option, None, Ok}
use Rattle.end_settings.specs.Given.{chosen}
use Rattle.script_statement.specs.declared.who.Who.TheVariants.{A}
use Rattle.script_parts.specs.Plans.{plan_with}
use Rattle.toml.specs.Data.{Members}
use Rattle.df1_plan.specs.declared.plan.Plan.{Plan}
use Rattle.df1_plan.specs.declared.plan.PlannedCommand.{PlannedCommand}
use Rattle.df1_plan.specs.declared.reading.Front.{Front}
use Rattle.df1_plan.specs.declared.reading.Entries.{Entries}
use Rattle.df1_plan.specs.declared.files.PlannedFile.{PlannedFile}
use Rattle.df1_plan.specs.Files.{specs_of, words_of_all}
use Rattle.df1_plan.specs.Plans.{back_causes, block, check, compat, entry_causes, files, first_there, front_causes, issue, peer}

-- the keys before `file` say this, and none of them is refused
pub record FrontSays (members : Members) (front : Front) : Type 0 where
  pub block : block members ≡ Ok front.block
  pub check : check members ≡ Ok front.check
  pub compat : compat members ≡ Ok front.compat
  pub none : first_there (front_causes members) ≡ None

-- the keys with entries say this, and neither is refused, nor is a setting before them
pub record EntriesSay (members : Members) (entries : Entries) : Type 0 where
  pub files : files members ≡ Ok entries.files
  pub issue : issue members ≡ Ok entries.issue
  pub none : first_there (entry_causes members) ≡ None

-- the key `peer` says this, and no key after `issue` is refused
pub record BackSays (members : Members) (address : ℕ) : Type 0 where
  pub peer : peer members ≡ Ok address
  pub none : first_there (back_causes members) ≡ None

-- the plan of these settings and of what the other keys tell
abbrev pub joined : List (Option ℕ) → Front → List PlannedFile → List PlannedCommand → ℕ → Plan
joined given front planned commands peer = record {
  check = front.check;
  peer = peer;
  end = plan_with A (chosen given 1) front.compat front.block (specs_of planned) (words_of_all planned);
  issue = commands;
}
