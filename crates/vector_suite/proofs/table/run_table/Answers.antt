-- The first case that differs is found.
use Rattle.std.proofs.Common.{◌∙◌, sym, arith}
use Rattle.vector_suite.specs.Vectors.{differs}
use Rattle.vector_suite.proofs.Places.{found-there, none-further}
use Rattle.vector_suite.proofs.table.run_table.Goals as goal

pub returns-then-branch : goal.returns-then-branch
returns-then-branch g c =
    sym (found-there differs c.args.cases.now c.loop-place.place c.index-cases-place.result (omega (arith, c.loop-place-test.true, c.type_inv.cases)) c.loop-place.invariant (sym c.in_ok-differs.ensures ∙ c.if-branch.true))

pub loop-place-preserved : goal.loop-place-preserved
loop-place-preserved g c =
    none-further differs c.args.cases.now c.loop-place.place c.index-cases-place.result (omega (arith, c.loop-place-test.true, c.type_inv.cases)) c.loop-place.invariant (sym c.in_ok-differs.ensures ∙ c.if-branch.false)
