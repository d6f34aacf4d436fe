use Rattle.std.proofs.Common.{◌≡◌, ℕ, take, None}
use Rattle.std.specs.Ordering.{nat_cmp}
use Rattle.std.specs.BTreeMap.{get}
use Rattle.data_files.specs.Tables.{faults, total_words}
use Rattle.data_files.specs.Directory.{found}
use Rattle.data_files.proofs.tables.Tables.zeroed.Given as goal

abbrev pub invariant-loop-spec : goal.invariant-loop-spec
invariant-loop-spec l =
    record {
      valid : faults l.specs ≡ None;
      start : l.start ≡ total_words (take l.spec-index l.specs);
      finds : (number : ℕ) → get nat_cmp l.directory number ≡ found 0 (take l.spec-index l.specs) number;
    }
