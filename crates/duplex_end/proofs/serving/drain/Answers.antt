use Rattle.std.proofs.Common.{◌≡◌, ◌+◌, ◌≤◌, ◌∷◌, [], ◌++◌, List, ℕ, suc, ◌⊎◌, inl, inr, Some, None, length, sym, ◌∙◌, refl, arith, length-append}
use Rattle.duplex_end.specs.End.{out_at_take}
use Rattle.duplex_end.specs.Joined.{most_left}
use Rattle.duplex_end.proofs.Signals.{gives-drain, gives-none, end-take, bytes-take}
use Rattle.duplex_end.proofs.serving.drain.Goals as goal

-- one byte more fits, since at the first take at most 511 are left
few-more : (before after : List ℕ) (byte left now : ℕ) → after ≡ before ++ byte ∷ [] → (before ≡ []) ⊎ (length before + left ≤ 511) → left ≤ 511 → now + 1 ≤ left → length after + now ≤ 511
few-more before after byte left now is (inl none) most fewer = rw (is, none) (omega (arith, fewer, most))
few-more before after byte left now is (inr few) most fewer = rw is (omega (arith, fewer, few, length-append before (byte ∷ [])))

pub loop-out-preserved : goal.loop-out-preserved
loop-out-preserved g c =
    let m = g.H.Host in
    let before = c.loop-out.invariant.taken in
    let some : out_at_take m c.loop-out.end ≡ Some c.in-Some.out = sym c.take.ensures.out ∙ c.in-Some.is in
    record {
      taken = (
        suc before.0,
        end-take m c.args.end.now c.loop-out.end c.take.new.self before.0 before.1 c.take.ensures.state,
        c.push.ensures.items ∙ bytes-take m c.args.end.now c.loop-out.end before.0 c.in-Some.out c.loop-out.given.items before.1 before.2 some,
      );
      few = inr (few-more c.loop-out.given.items c.push.new.self.items c.in-Some.out.byte (most_left m c.loop-out.end) (most_left m c.take.new.self)
          c.push.ensures.items c.loop-out.invariant.few c.take.ensures.most (c.take.ensures.fewer (rw c.in-Some.is refl)));
    }

pub returns : goal.returns
returns g c =
    let taken = c.loop-out.invariant.taken in
    let none : out_at_take g.H.Host c.loop-out.end ≡ None = sym c.take.ensures.out ∙ c.in_default.is in
    gives-drain g.H.Host c.args.end.now c.loop-out.end c.take.new.self taken.0 c.loop-out.given.items taken.1 taken.2 none c.take.ensures.state

pub returns-then-quiet : goal.returns-then-quiet
returns-then-quiet g c = gives-none g.H.Host c.args.end.now c.args.given.now.items c.requires (sym c.quiet.ensures.gives_none ∙ c.if-quiet.true)
