use Rattle.std.proofs.Common.{ap, ◌∙◌}
use Rattle.half_frame.specs.SlaveStanding.{Listening, is_inside}
use Rattle.half_frame.proofs.SlaveLemmas.{is_inside-standing}
use Rattle.half_frame.proofs.slave_ear.SlaveEar.inside.Goals as goal

pub returns-clause-inside : goal.returns-clause-inside
returns-clause-inside g c = λ check l r. record {
  items = r.items;
  front = r.front;
  splits = r.splits;
  is = c.is_inside.ensures ∙ ap (λ (e : Listening). is_inside e.standing) r.is ∙ is_inside-standing check g.row.N r.items r.front;
}
