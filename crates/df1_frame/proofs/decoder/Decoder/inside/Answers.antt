use Rattle.std.proofs.Common.{ap, ◌∙◌}
use Rattle.df1_frame.specs.Standing.{Decoding, is_inside}
use Rattle.df1_frame.proofs.GrammarLemmas.{is_inside-standing}
use Rattle.df1_frame.proofs.decoder.Decoder.inside.Goals as goal

pub returns-clause-inside : goal.returns-clause-inside
returns-clause-inside g c = λ check l r. record {
  items = r.items;
  front = r.front;
  splits = r.splits;
  is = c.is_inside.ensures ∙ ap (λ (d : Decoding). is_inside d.standing) r.is ∙ is_inside-standing check g.row.N r.items r.front;
}
