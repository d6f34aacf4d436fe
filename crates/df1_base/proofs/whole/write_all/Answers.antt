use Rattle.std.proofs.Common.{◌∙◌}
use Rattle.df1_base.proofs.Laws.{wrote_rest, later_then}
use Rattle.df1_base.proofs.whole.write_all.Goals as goal

pub loop-rest-preserved : goal.loop-rest-preserved
loop-rest-preserved g c = record {
  wrote = wrote_rest _ _ _ _ _ c.in_ok-count.count c.loop-rest.invariant.wrote c.in_ok-count.ensures.put;
  calm = c.in_ok-count.ensures.calm ∙ c.loop-rest.invariant.calm;
  later = later_then _ _ _ _ _ _ c.loop-rest.invariant.later c.in_ok-count.ensures.later;
}
