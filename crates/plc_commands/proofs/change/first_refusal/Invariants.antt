use Rattle.std.proofs.Common.{◌≡◌, drop}
use Rattle.data_files.specs.Effect.{refusal}
use Rattle.plc_commands.specs.Tests.{change_tests}
use Rattle.plc_commands.proofs.change.first_refusal.Given as goal

abbrev pub invariant-loop-set : goal.invariant-loop-set
invariant-loop-set l = refusal (change_tests l.tables.specs (drop l.set-index l.sets)) ≡ refusal (change_tests l.tables.specs l.sets)
