use Rattle.std.proofs.Common.{◌≡◌, ◌≤◌, [], drop, length}
use Rattle.toml.specs.View.{items_view}
use Rattle.df1_plan.specs.Files.{files_after}
use Rattle.df1_plan.proofs.files.files_of.Given as goal

-- the files so far go on as all do
abbrev pub invariant-loop-entry : goal.invariant-loop-entry
invariant-loop-entry l = record {
  same : files_after l.files (items_view (drop l.entry-index l.entries)) ≡ files_after [] (items_view l.entries);
  few : length l.files ≤ 256;
}
