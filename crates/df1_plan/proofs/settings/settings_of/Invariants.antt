use Rattle.std.proofs.Common.{◌≡◌, drop}
use Rattle.end_settings.specs.Table.{keys}
use Rattle.end_settings.specs.Given.{no_settings}
use Rattle.toml.specs.View.{table_view}
use Rattle.df1_plan.proofs.GivenSettings.{with_given}
use Rattle.df1_plan.proofs.settings.settings_of.Given as goal

-- the keys that are left make of the settings what all make
abbrev pub invariant-loop-key : goal.invariant-loop-key
invariant-loop-key l = with_given (table_view l.table) l.settings (drop l.key-index keys) ≡ with_given (table_view l.table) no_settings keys
