use Rattle.plc_commands.proofs.Changes.{refused_here}
use Rattle.plc_commands.proofs.change.first_refusal.Goals as goal

pub returns-then-is_some : goal.returns-then-is_some
returns-then-is_some c =
    refused_here c.args.tables.now.specs c.args.sets.now c.loop-set.set-index _ c.set_refusal-code.result c.loop-set-test.true c.set_refusal-code.ensures c.if-is_some.ensures c.loop-set.invariant
