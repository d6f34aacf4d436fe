-- The commands of a plan, by its entries in order.
use Rattle.std.specs.Prelude.{ℕ, ◌+◌, Bool, List, [], ◌∷◌, ◌++◌, length, codes, nat_lt, ◌&&◌, ◌||◌, if◌then◌else◌, Option, Some, None, option_map, Result, Ok, Err}
use Rattle.std.specs.Str.{bytes_eq}
use Rattle.script_statement.specs.Statements.{is_payload}
use Rattle.toml.specs.Data.{Data, table, Items, no_items, item, Members, as_array}
use Rattle.df1_plan.specs.declared.plan.PlannedCommand.{PlannedCommand}
use Rattle.df1_plan.specs.declared.fault.PlanFault.{PlanFault}
use Rattle.df1_plan.specs.declared.fault.PlanFault.TheVariants as fault
use Rattle.df1_plan.specs.declared.plan_key.PlanKey.TheVariants as key
use Rattle.df1_plan.specs.Files.{field}
use Rattle.df1_plan.specs.Keys.{has_other}
use Rattle.df1_plan.specs.Values.{hex_in, integer_in}

-- a command in its end's own name
abbrev pub own_command : List ℕ → PlannedCommand
own_command payload = record { src = None; payload = payload }

-- the names of a command's fields
abbrev pub is_command_field : List ℕ → Bool
is_command_field name = bytes_eq name (codes "source") || bytes_eq name (codes "payload")

-- a command in the name of a source, where both are there
abbrev pub command_from : Option ℕ → Option (List ℕ) → Option PlannedCommand
command_from (Some src) (Some payload) = Some (record { src = Some src; payload = payload })
command_from src payload = None

-- the command that the fields describe: both have to be there
abbrev pub command_with : Members → Option PlannedCommand
command_with fields = command_from (field (integer_in 0 255) (codes "source") fields) (field hex_in (codes "payload") fields)

-- the command that an entry describes, by itself: a table with a source and a payload, or the text of a payload
abbrev pub command_in : Data → Option PlannedCommand
command_in (table fields) = if has_other is_command_field fields then None else command_with fields
command_in other = option_map own_command (hex_in other)

-- fewer than 65,535 commands stand before it, and its payload is one
abbrev pub may_issue : List PlannedCommand → PlannedCommand → Bool
may_issue before command = nat_lt (length before) 65535 && is_payload command.payload

abbrev pub next_of : List PlannedCommand → Option PlannedCommand → Option PlannedCommand
next_of before None = None
next_of before (Some command) = if may_issue before command then Some command else None

-- the command of an entry after these
abbrev pub next_command : List PlannedCommand → Data → Option PlannedCommand
next_command before value = next_of before (command_in value)

-- the commands of entries after these, or the place of the first entry that is refused, counted from 1
abbrev pub commands_after : List PlannedCommand → Items → Result (List PlannedCommand) PlanFault
commands_after before no_items = Ok before
commands_after before (item value values) = elim (next_command before value) [ None ↦ Err (fault.Issue (length before + 1)) | Some command ↦ commands_after (before ++ command ∷ []) values ]

abbrev pub commands_of_array : Option Items → Result (List PlannedCommand) PlanFault
commands_of_array None = Err (fault.Key key.Issue)
commands_of_array (Some entries) = commands_after [] entries

-- the commands of a plan, by its key `issue`
abbrev pub commands_in : Option Data → Result (List PlannedCommand) PlanFault
commands_in None = Ok []
commands_in (Some value) = commands_of_array (as_array value)
