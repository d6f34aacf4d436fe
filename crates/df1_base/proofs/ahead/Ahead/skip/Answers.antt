use Rattle.std.proofs.Common.{◌≡◌, ◌-◌, length, drop, ap, sym, ◌∙◌, arith, length-drop}
use Rattle.std.proofs.lemmas.List.{length-take-le}
use Rattle.df1_base.proofs.Pieces.{used}
use Rattle.df1_base.proofs.ahead.Ahead.skip.Goals as goal

pub returns : goal.returns
returns c =
    let s = c.self.inside in
    let size : length c.args.self.now ≡ s.end - s.at = ap length (sym c.self.view_is) ∙ length-take-le (s.end - s.at) (drop s.at s.bytes) (omega (arith, length-drop s.at s.bytes, c.self.invariant.0, c.self.invariant.1, c.self.told)) in
    used s.bytes s.at s.end c.args.count (omega (arith, size, c.requires)) ∙ ap (drop c.args.count) c.self.view_is
