-- What two words ask for, and four; more than four are no form.
use Rattle.std.proofs.Common.{◌≡◌, ◌∙◌, ◌≤◌, ◌<◌, ℕ, List, [], ◌∷◌, length, get_or, map, None, refl, ap, arith}
use Rattle.std.specs.Prelude.{string_bytes}
use Rattle.df1_tool.specs.Forms.{form_of, form_of_four, form_of_two}
use Rattle.df1_tool.proofs.form.form_of.Goals as goal

two-words : {X : Type 0} (bytes : X → List ℕ) (words : List X) (word : X) → 2 ≤ length words → length words < 3 → word ≡ get_or words 0 word → form_of_two (bytes word) ≡ form_of (map bytes words)
unfolding form_of
two-words bytes [] word some few is = absurd (omega (arith, some))
two-words bytes (a ∷ []) word some few is = absurd (omega (arith, some))
two-words bytes (a ∷ b ∷ []) word some few is = ap (λ x. form_of_two (bytes x)) is
two-words bytes (a ∷ b ∷ c ∷ more) word some few is = absurd (omega (arith, few))

pub returns-in-len2-clause-value : goal.returns-in-len2-clause-value
returns-in-len2-clause-value c =
    c.form_of_two.ensures ∙ ap form_of_two c.deref-in-len2.ensures
    ∙ two-words string_bytes c.args.words.now c.word-item-then-words-lt3.result c.in-len2.len_at_least c.in-len2.len_below c.word-item-then-words-lt3.is

four-words : {X : Type 0} (bytes : X → List ℕ) (words : List X) (word second third fourth : X) → 4 ≤ length words → length words < 5 → word ≡ get_or words 0 word → second ≡ get_or words 1 second → third ≡ get_or words 2 third → fourth ≡ get_or words 3 fourth
    → form_of_four (bytes word) (bytes second) (bytes third) (bytes fourth) ≡ form_of (map bytes words)
unfolding form_of
four-words bytes [] word second third fourth some few one two three four = absurd (omega (arith, some))
four-words bytes (a ∷ []) word second third fourth some few one two three four = absurd (omega (arith, some))
four-words bytes (a ∷ b ∷ []) word second third fourth some few one two three four = absurd (omega (arith, some))
four-words bytes (a ∷ b ∷ c ∷ []) word second third fourth some few one two three four = absurd (omega (arith, some))
four-words bytes (a ∷ b ∷ c ∷ d ∷ []) word second third fourth some few one two three four =
    ap (λ x. form_of_four (bytes x) (bytes second) (bytes third) (bytes fourth)) one
    ∙ ap (λ x. form_of_four (bytes a) (bytes x) (bytes third) (bytes fourth)) two
    ∙ ap (λ x. form_of_four (bytes a) (bytes b) (bytes x) (bytes fourth)) three
    ∙ ap (λ x. form_of_four (bytes a) (bytes b) (bytes c) (bytes x)) four
four-words bytes (a ∷ b ∷ c ∷ d ∷ e ∷ more) word second third fourth some few one two three four = absurd (omega (arith, few))

more-words : {X : Type 0} (bytes : X → List ℕ) (words : List X) → 5 ≤ length words → None ≡ form_of (map bytes words)
unfolding form_of
more-words bytes [] many = absurd (omega (arith, many))
more-words bytes (a ∷ []) many = absurd (omega (arith, many))
more-words bytes (a ∷ b ∷ []) many = absurd (omega (arith, many))
more-words bytes (a ∷ b ∷ c ∷ []) many = absurd (omega (arith, many))
more-words bytes (a ∷ b ∷ c ∷ d ∷ []) many = absurd (omega (arith, many))
more-words bytes (a ∷ b ∷ c ∷ d ∷ e ∷ more) many = refl

pub returns-in-len4-clause-value : goal.returns-in-len4-clause-value
returns-in-len4-clause-value c =
    let word = c.word-item-then-words-lt5 in
    let second = c.second-item-then-words-lt5 in
    let third = c.third-item-then-words-lt5 in
    let fourth = c.fourth-item in
    c.form_of_four.ensures
    ∙ ap (λ (x : List ℕ). form_of_four x c.deref-in-len4-2.result.now c.deref-in-len4-3.result.now c.deref-in-len4-4.result.now) c.deref-in-len4.ensures
    ∙ ap (λ (x : List ℕ). form_of_four (string_bytes word.result) x c.deref-in-len4-3.result.now c.deref-in-len4-4.result.now) c.deref-in-len4-2.ensures
    ∙ ap (λ (x : List ℕ). form_of_four (string_bytes word.result) (string_bytes second.result) x c.deref-in-len4-4.result.now) c.deref-in-len4-3.ensures
    ∙ ap (λ (x : List ℕ). form_of_four (string_bytes word.result) (string_bytes second.result) (string_bytes third.result) x) c.deref-in-len4-4.ensures
    ∙ four-words string_bytes c.args.words.now word.result second.result third.result fourth.result c.in-len4.len_at_least c.in-len4.len_below word.is second.is third.is fourth.is

pub returns-in_default-2-clause-value : goal.returns-in_default-2-clause-value
returns-in_default-2-clause-value c = more-words string_bytes c.args.words.now c.in_default.len_at_least
