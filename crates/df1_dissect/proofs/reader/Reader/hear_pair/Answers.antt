-- One byte, or two.
use Rattle.std.proofs.Common.{◌≡◌, ◌∙◌, ℕ, ◌≤◌, List, [], ◌∷◌, length, take, get_or, refl, sym, ap, arith}
use Rattle.df1_dissect.specs.Reading.{Reading}
use Rattle.df1_dissect.specs.Step.{next}
use Rattle.df1_dissect.specs.Runs.{after}
use Rattle.df1_dissect.proofs.reader.Reader.hear_pair.Goals as goal

two : (l : List ℕ) → 2 ≤ length l → take 2 l ≡ get_or l 0 0 ∷ get_or l 1 0 ∷ []
two [] some = absurd (omega arith)
two (a ∷ []) some = absurd (omega arith)
two (a ∷ b ∷ l) some = refl

pub returns-clause-value : goal.returns-clause-value
returns-clause-value c =
    let v = c.args.self.now in
    let all = c.args.bytes.now in
    let some : 2 ≤ length all = omega (arith, c.requires.some, c.if-bytes-eq1.false) in
    c.hear-2.ensures.value ∙ ap (λ (r : Reading). (next r (get_or all 1 0)).0) c.hear.ensures.value ∙ sym (ap (after v) (two all some))
