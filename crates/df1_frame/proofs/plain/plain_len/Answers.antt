-- The first DLE, or the end.
use Rattle.std.proofs.Common.{◌≡◌, ℕ, eqb, false, get_or, length, refl, sym, arith}
use Rattle.std.proofs.lemmas.Bool.{ne_eqb}
use Rattle.std.proofs.lemmas.List.Sums.{position_or_len_is}
use borrow.Author.Count.{below_more}
use Rattle.df1_frame.proofs.plain.plain_len.Goals as goal

pub loop-at-init : goal.loop-at-init
loop-at-init c = λ k below. absurd (omega arith)

pub loop-at-preserved : goal.loop-at-preserved
loop-at-preserved c = below_more (λ (k : ℕ). eqb (get_or c.args.bytes.now k 0) 16 ≡ false) c.loop-at.at c.loop-at.invariant (ne_eqb (get_or c.args.bytes.now c.loop-at.at 0) 16 c.if-b-eq-DLE.false)

pub returns-then-b-eq-DLE : goal.returns-then-b-eq-DLE
returns-then-b-eq-DLE c = sym (position_or_len_is (λ (b : ℕ). eqb b 16) c.args.bytes.now c.loop-at.at 0 c.loop-at.auto.at-end c.loop-at.invariant (λ more. rw c.if-b-eq-DLE.true refl))

pub returns : goal.returns
returns c =
    let all : c.loop-at.at ≡ length c.args.bytes.now = omega arith in
    sym (rw all at (position_or_len_is (λ (b : ℕ). eqb b 16) c.args.bytes.now c.loop-at.at 0 c.loop-at.auto.at-end c.loop-at.invariant (λ more. absurd (omega arith))))
