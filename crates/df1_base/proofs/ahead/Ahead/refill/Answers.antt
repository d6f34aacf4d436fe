use Rattle.std.proofs.Common.{◌≡◌, ◌+◌, ◌-◌, ◌≤◌, ◌++◌, length, take, drop, ap, sym, ◌∙◌, arith, length-drop}
use Rattle.std.proofs.lemmas.Grind.{common_steps}
use Rattle.std.proofs.lemmas.List.{length-take-le}
use Rattle.df1_base.proofs.Pieces.{behind}
use Rattle.df1_base.proofs.ahead.Ahead.refill.Goals as goal

pub returns-clause-took : goal.returns-clause-took
returns-clause-took g c =
    let s = c.self.inside in
    let count = s.end - s.at in
    let n = c.in_ok-self-inside.field-0 in
    let into = c.read.new.into in
    let bytes = c.to_front.new.bytes in
    let whole : length bytes ≡ 4096 = grind (arith, common_steps) in
    let room : length into ≡ 4096 - count = grind (arith, common_steps) in
    let few : n ≤ length into = c.in_ok-self-inside.ensures.bound in
    let size : length c.args.self.now ≡ count = ap length (sym c.self.view_is) ∙ length-take-le count (drop s.at s.bytes) (omega (arith, length-drop s.at s.bytes, c.self.invariant.0, c.self.invariant.1, c.self.told)) in
    let given : length (take n into) ≡ n = length-take-le n into few in
    let kept : take count bytes ≡ c.args.self.now = c.to_front.ensures ∙ c.self.view_is in
    let same : count + n - 0 ≡ count + n = omega arith in (
      take n into,
      c.in_ok-self-inside.ensures.took,
      rw same (behind bytes into _ count n (omega (arith, whole, c.self.invariant.1)) few) ∙ ap (λ k. k ++ take n into) kept,
      omega (arith, given, few, room),
      λ none. c.in_ok-self-inside.ensures.end (sym given ∙ ap length none) (omega (arith, room, size, c.requires)),
    )
