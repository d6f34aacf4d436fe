use Rattle.std.proofs.Common.{◌≡◌, not, string_bytes}
use Rattle.std.specs.List.{list_any}
use Rattle.toml.specs.View.{table_view}
use Rattle.df1_plan.specs.Keys.{has_other}
use Rattle.df1_plan.specs.Issues.{is_command_field}
use Rattle.df1_plan.proofs.issue.has_other_field.Given as goal

-- the names that are left decide as all do
abbrev pub invariant-loop-name : goal.invariant-loop-name
invariant-loop-name l = list_any (λ k. not (is_command_field (string_bytes k))) l.name-iterator ≡ has_other is_command_field (table_view l.fields)
