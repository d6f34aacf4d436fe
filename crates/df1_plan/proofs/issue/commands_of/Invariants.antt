use Rattle.std.proofs.Common.{◌≡◌, ◌≤◌, [], drop, length}
use Rattle.toml.specs.View.{items_view}
use Rattle.df1_plan.specs.Issues.{commands_after}
use Rattle.df1_plan.proofs.issue.commands_of.Given as goal

-- the commands so far go on as all do
abbrev pub invariant-loop-entry : goal.invariant-loop-entry
invariant-loop-entry l = record {
  same : commands_after l.commands (items_view (drop l.entry-index l.entries)) ≡ commands_after [] (items_view l.entries);
  few : length l.commands ≤ 65535;
}
