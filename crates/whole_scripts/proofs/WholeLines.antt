-- The lines of a text that a line feed ends, and those with the last one where it is long: what stands behind them may be anything.
use Rattle.std.proofs.Common.{◌≡◌, ◌∙◌, ◌⊎◌, ℕ, suc, get_or, ◌+◌, ◌-◌, ◌<◌, ◌≤◌, Bool, true, false, cond, eqb, ltb, List, [], ◌∷◌, ◌++◌, length, take, drop, inl, inr, refl, sym, ap, subst, arith, take-append-drop, append-nil}
use Rattle.std.proofs.lemmas.Bool.{cases_lt, le-ltb}
use Rattle.std.proofs.Math.Seq.{take-suc}
use Rattle.line_script.proofs.Fed.{unfinished-behind}
use Rattle.line_script.specs.Unfinished.{IsSettled, settled, unfinished, unfinished_after}

-- what stands behind the last line feed is no more than the text, or there is no line feed in it
counted : (before : ℕ) (text : List ℕ) → (unfinished_after before text ≤ length text) ⊎ (unfinished_after before text ≡ before + length text)
counted before [] = inr (omega arith)
counted before (x ∷ text) =
    elim (eqb x 10) as (λ b. (unfinished_after (cond b 0 (before + 1)) text ≤ length (x ∷ text)) ⊎ (unfinished_after (cond b 0 (before + 1)) text ≡ before + length (x ∷ text))) [
      | true ↦ elim (counted 0 text) [
        | inl few ↦ inl (omega (arith, few))
        | inr all ↦ inl (omega (arith, all))
      ]
      | false ↦ elim (counted (before + 1) text) [
        | inl few ↦ inl (omega (arith, few))
        | inr all ↦ inr (omega (arith, all))
      ]
    ]

pub few-unfinished : (text : List ℕ) → unfinished text ≤ length text
few-unfinished text = elim (counted 0 text) [
  | inl few ↦ few
  | inr all ↦ omega (arith, all)
]

-- a byte in front of a text
ended-next : (before x : ℕ) (text : List ℕ) (now : ℕ) → cond (eqb x 10) 0 (before + 1) ≡ now → unfinished_after now text ≤ length text
    → unfinished_after now (take (length text - unfinished_after now text) text) ≡ 0 → unfinished_after before (take (length (x ∷ text) - unfinished_after now text) (x ∷ text)) ≡ 0
ended-next before x text now is less ended =
    let size : length (x ∷ text) - unfinished_after now text ≡ suc (length text - unfinished_after now text) = omega (arith, less) in
    subst (λ n. unfinished_after before (take n (x ∷ text)) ≡ 0) (sym size)
    (subst (λ n. unfinished_after n (take (length text - unfinished_after now text) text) ≡ 0) (sym is) ended)

-- a text in which there is no line feed
ended-none : (before x : ℕ) (text : List ℕ) → unfinished_after (before + 1) text ≤ length (x ∷ text) → unfinished_after (before + 1) text ≡ before + 1 + length text
    → unfinished_after before (take (length (x ∷ text) - unfinished_after (before + 1) text) (x ∷ text)) ≡ 0
ended-none before x text few all =
    let none : length (x ∷ text) - unfinished_after (before + 1) text ≡ 0 = omega (arith, all) in
    let first : before ≡ 0 = omega (arith, all, few) in
    subst (λ n. unfinished_after before (take n (x ∷ text)) ≡ 0) (sym none) first

-- without it nothing stands behind a line feed
ended-after : (before : ℕ) (text : List ℕ) → unfinished_after before text ≤ length text → unfinished_after before (take (length text - unfinished_after before text) text) ≡ 0
ended-after before [] few = let first : before ≡ 0 = omega (arith, few) in rw first refl
ended-after before (x ∷ text) few =
    elim (eqb x 10) as (λ b. eqb x 10 ≡ b → unfinished_after (cond b 0 (before + 1)) text ≤ length (x ∷ text)
    → unfinished_after before (take (length (x ∷ text) - unfinished_after (cond b 0 (before + 1)) text) (x ∷ text)) ≡ 0) [
      | true ↦ λ is few'. ended-next before x text 0 (ap (λ b. cond b 0 (before + 1)) is) (few-unfinished text) (ended-after 0 text (few-unfinished text))
      | false ↦ λ is few'. elim (counted (before + 1) text) [
        | inl less ↦ ended-next before x text (before + 1) (ap (λ b. cond b 0 (before + 1)) is) less (ended-after (before + 1) text less)
        | inr all ↦ ended-none before x text few' all
      ]
    ] refl few

-- one byte more of a text
pub counted-next : (text : List ℕ) (i : ℕ) → i < length text → unfinished (take (i + 1) text) ≡ cond (eqb (get_or text i 0) 10) 0 (unfinished (take i text) + 1)
counted-next text i inside =
    let next : i + 1 ≡ suc i = omega arith in
    ap (λ n. unfinished (take n text)) next ∙ ap unfinished (take-suc text i 0 inside) ∙ unfinished-behind 0 (take i text) (get_or text i 0 ∷ [])

settled-either : (long : Bool) (text : List ℕ) → ltb 1024 (unfinished text) ≡ long → IsSettled (cond long text (take (length text - unfinished text) text))
settled-either true text is = elim (cases_lt 1024 (unfinished text)) [
  | inl long ↦ inr long
  | inr short ↦ let no : ltb 1024 (unfinished text) ≡ false = le-ltb 1024 (unfinished text) short in cc
]
settled-either false text is = inl (ended-after 0 text (few-unfinished text))

pub is-settled : (text : List ℕ) → IsSettled (settled text)
is-settled text = settled-either (ltb 1024 (unfinished text)) text refl

behind-either : (long : Bool) (text : List ℕ) → (rest : List ℕ) × (text ≡ cond long text (take (length text - unfinished text) text) ++ rest)
behind-either true text = ([], sym (append-nil text))
behind-either false text = (drop (length text - unfinished text) text, sym (take-append-drop (length text - unfinished text) text))

-- and then comes the rest
pub settled-behind : (text : List ℕ) → (rest : List ℕ) × (text ≡ settled text ++ rest)
settled-behind text = behind-either (ltb 1024 (unfinished text)) text
