-- The four bytes of the name, and the digits.
use Rattle.std.proofs.Common.{◌≡◌, ◌∙◌, ℕ, List, [], ◌∷◌, ◌++◌, length, get_or, refl, ap, arith, append_assoc}
use Rattle.hex.specs.Hex.{encode_with}
use Rattle.df1_dissect.specs.Lines.{byte_digits}
use Rattle.df1_dissect.proofs.fields.append_field.Goals as goal

four : (l rest : List ℕ) → length l ≡ 4 → get_or l 0 0 ∷ get_or l 1 0 ∷ get_or l 2 0 ∷ get_or l 3 0 ∷ rest ≡ l ++ rest
four [] rest e = absurd (omega arith)
four (a ∷ []) rest e = absurd (omega arith)
four (a ∷ b ∷ []) rest e = absurd (omega arith)
four (a ∷ b ∷ c ∷ []) rest e = absurd (omega arith)
four (a ∷ b ∷ c ∷ d ∷ []) rest e = refl
four (a ∷ b ∷ c ∷ d ∷ f ∷ l) rest e = absurd (omega arith)

pub returns-clause-text : goal.returns-clause-text
unfolding encode_with
returns-clause-text g c =
    let text = c.args.text.now.items in
    let name = c.args.name.now in
    let digits = byte_digits c.args.byte in
    let regroup : text ++ (name ++ (digits ++ 32 ∷ [])) ≡ text ++ name ++ digits ++ 32 ∷ [] = simp append_assoc in
    c.append.ensures ∙ rw (c.high_digit-high.ensures, c.low_digit-low.ensures) (ap (λ (l : List ℕ). text ++ l) (four name (digits ++ 32 ∷ []) c.requires.name) ∙ regroup)
