-- A run more, or a byte.
use Rattle.std.proofs.Common.{◌≡◌, ◌≤◌, ◌∙◌, ℕ, ◌+◌, ◌-◌, List, drop, length, take, refl, sym, ap, arith}
use Rattle.std.proofs.lemmas.List.{at_drop_all, drop-drop, length-drop, length-take-le, take-append-drop, take_rest}
use Rattle.std.proofs.lemmas.List.Sums.{fold-append}
use Rattle.df1_dissect.specs.Reading.{Reading}
use Rattle.df1_dissect.specs.Step.{next}
use Rattle.df1_dissect.specs.Runs.{after}
use Rattle.df1_dissect.proofs.RunLemmas.{after-fed, stands-after}
use Rattle.df1_dissect.proofs.reader.Reader.hear_all.Goals as goal

pub loop-at-init : goal.loop-at-init
loop-at-init c = record { within = omega arith; few = omega (arith, c.requires); value = refl }

pub hear_some-at-requires-clause-few : goal.hear_some-at-requires-clause-few
hear_some-at-requires-clause-few c =
    rw (take_rest c.args.bytes.now c.loop-at.at) (omega (arith, length-drop c.loop-at.at c.args.bytes.now, c.loop-at.invariant.few))

-- the first bytes of what is left, and then the others
onward : (r : Reading) (n from : ℕ) (bytes : List ℕ) → after r (drop from bytes) ≡ after (after r (take n (drop from bytes))) (drop (from + n) bytes)
onward r n from bytes =
    let rest = drop from bytes in
    ap (after r) (sym (take-append-drop n rest)) ∙ fold-append (λ (r : Reading) (b : ℕ). (next r b).0) r (take n rest) (drop n rest) ∙ ap (after (after r (take n rest))) (drop-drop n from bytes)

pub loop-at-preserved : goal.loop-at-preserved
loop-at-preserved c =
    let l = c.loop-at in
    let all = c.args.bytes.now in
    let n = c.hear_some-at.result in
    let rest = drop l.at all in
    let whole : take (length all - l.at) rest ≡ rest = take_rest all l.at in
    let step : c.hear_some-at.new.self ≡ after l.self (take n rest) = rw whole at c.hear_some-at.ensures.value in
    let most : n ≤ length rest = rw whole at c.hear_some-at.ensures.most in
    let fed = ap (λ (r : Reading). r.fed) step ∙ after-fed (take n rest) l.self in
    let size = length-take-le n rest most in
    let left = length-drop l.at all in
    record {
      within = omega (arith, most, left, l.invariant.within);
      few = omega (arith, most, left, fed, size, l.invariant.few, l.invariant.within);
      value = l.invariant.value ∙ onward l.self n l.at all ∙ ap (λ (r : Reading). after r (drop (l.at + n) all)) (sym step);
    }

whole : (r l : Reading) (from : ℕ) (bytes : List ℕ) → after r bytes ≡ after l (drop from bytes) → length bytes ≤ from → l ≡ after r bytes
whole r l from bytes value end = sym (value ∙ at_drop_all (after l) bytes from end)

pub returns-clause-stands : goal.returns-clause-stands
returns-clause-stands c = λ side check before stands.
    rw (whole c.args.self.now c.loop-at.self c.loop-at.at c.args.bytes.now c.loop-at.invariant.value c.loop-at-test.false) (stands-after side check c.args.bytes.now before c.args.self.now stands)

pub returns-clause-value : goal.returns-clause-value
returns-clause-value c = whole c.args.self.now c.loop-at.self c.loop-at.at c.args.bytes.now c.loop-at.invariant.value c.loop-at-test.false

pub returns-clause-fed : goal.returns-clause-fed
returns-clause-fed c =
    ap (λ (r : Reading). r.fed) (whole c.args.self.now c.loop-at.self c.loop-at.at c.args.bytes.now c.loop-at.invariant.value c.loop-at-test.false) ∙ after-fed c.args.bytes.now c.args.self.now
