use Rattle.std.proofs.Common.{◌≡◌, None, drop}
use Rattle.data_files.specs.Effect.{refusal}
use Rattle.plc_commands.specs.Tests.{change_tests}
use Rattle.plc_commands.specs.Meaning.{with_sets}
use Rattle.plc_commands.proofs.change.change.Given as goal

abbrev pub invariant-loop-set : goal.invariant-loop-set
invariant-loop-set l = record {
  passes : refusal (change_tests l.tables.specs (drop l.set-index l.sets)) ≡ None;
  files : l.tables.specs ≡ l.fn.tables.specs;
  so_far : with_sets l.tables (drop l.set-index l.sets) ≡ with_sets l.fn.tables l.sets;
}
