use Rattle.std.proofs.Common.{◌∙◌, sym}
use Rattle.toml.specs.View.{table_view}
use Rattle.df1_plan.proofs.GivenSettings.{none-left, with_given-next}
use Rattle.df1_plan.proofs.settings.settings_of.Goals as goal

pub loop-key-preserved : goal.loop-key-preserved
loop-key-preserved c =
    sym (with_given-next (table_view c.args.table.now) _ _ c.loop-key.key-index _ _ c.loop-key-test.true c.given_at-value.ensures c.set.ensures)
    ∙ c.loop-key.invariant

pub returns : goal.returns
returns c = none-left (table_view c.args.table.now) c.loop-key.settings c.loop-key.key-index c.loop-key-test.false c.loop-key.invariant
