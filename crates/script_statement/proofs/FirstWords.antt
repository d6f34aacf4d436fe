-- The words of a line, one after another.
use Rattle.std.proofs.Common.{◌≡◌, ◌∙◌, ℕ, suc, zero, ◌+◌, ◌-◌, ◌<◌, ◌≤◌, Bool, true, false, not, cond, eqb, List, [], ◌∷◌, ◌++◌, length, take, drop, map, Bor, refl, sym, ap, subst, inl, inr, arith, append_assoc, append-nil, length-append, length-drop}
use Rattle.std.specs.Prelude.{filter, unwrap_or}
use Rattle.std.specs.List.{slice_split, onto_first, position, position_or_len}
use Rattle.std.proofs.lemmas.Bool.{cases_lt, lt-ltb, le-ltb, ne_eqb}
use Rattle.std.proofs.lemmas.List.{drop_all, map_push}
use Rattle.std.proofs.lemmas.List.Sums.{prefix_len-le-length}
use Rattle.script_statement.specs.Words.{is_blank, words}

-- a byte of a word comes first
abbrev pub IsWordFirst : List ℕ → Type 0
IsWordFirst [] = ⊥
IsWordFirst (byte ∷ rest) = is_blank byte ≡ false

abbrev is_word : List ℕ → Bool
is_word word = not (eqb (length word) 0)

abbrev blanks : List ℕ → ℕ
blanks line = position_or_len (λ byte. not (is_blank byte)) line

-- the words of a line are those from its first on
pub from_the_first : (line : List ℕ) → words line ≡ words (drop (blanks line) line)
from_the_first [] = refl
from_the_first (x ∷ line) =
    let one : 1 + blanks line ≡ suc (blanks line) = omega arith in
    elim (is_blank x) as (λ b. is_blank x ≡ b → words (x ∷ line) ≡ words (drop (cond (not (not b)) (1 + blanks line) 0) (x ∷ line))) [
      | true ↦ λ is. rw one (rw is (from_the_first line))
      | false ↦ λ is. refl
    ] refl

-- which begins with it
pub begins : (line : List ℕ) → blanks line < length line → IsWordFirst (drop (blanks line) line)
begins [] some = absurd (omega arith)
begins (x ∷ line) some =
    let one : 1 + blanks line ≡ suc (blanks line) = omega arith in
    elim (is_blank x) as (λ b. is_blank x ≡ b → cond (not (not b)) (1 + blanks line) 0 < length (x ∷ line) → IsWordFirst (drop (cond (not (not b)) (1 + blanks line) 0) (x ∷ line))) [
      | true ↦ λ is more. rw one (begins line (omega arith))
      | false ↦ λ is more. is
    ] refl some

-- a line is cut at its first blank
cut : (line : List ℕ) → (rest : List (List ℕ)) × (slice_split is_blank line ≡ take (position_or_len is_blank line) line ∷ rest) × (filter is_word rest ≡ words (drop (position_or_len is_blank line) line))
cut [] = ([], refl, refl)
cut (x ∷ line) =
    let n = position_or_len is_blank line in
    let one : 1 + n ≡ suc n = omega arith in
    let more = cut line in
    elim (is_blank x) as (λ b. is_blank x ≡ b → (rest : List (List ℕ)) × (cond b ([] ∷ slice_split is_blank line) (onto_first x (slice_split is_blank line)) ≡ take (cond (not b) (1 + n) 0) (x ∷ line) ∷ rest)
    × (filter is_word rest ≡ words (drop (cond (not b) (1 + n) 0) (x ∷ line)))) [
      | true ↦ λ is. (slice_split is_blank line, refl, rw is refl)
      | false ↦ λ is. (more.0, rw one (ap (onto_first x) more.1), rw one more.2)
    ] refl

kept : (x : ℕ) (word : List ℕ) (rest : List (List ℕ)) → filter is_word ((x ∷ word) ∷ rest) ≡ (x ∷ word) ∷ filter is_word rest
kept x word rest =
    let some : eqb (suc (length word)) 0 ≡ false = ne_eqb (suc (length word)) 0 (λ none. omega (arith, none)) in
    rw some refl

length_of_first : (x : ℕ) (line : List ℕ) → is_blank x ≡ false → position_or_len is_blank (x ∷ line) ≡ suc (position_or_len is_blank line)
length_of_first x line is =
    let one : 1 + position_or_len is_blank line ≡ suc (position_or_len is_blank line) = omega arith in
    rw is one

-- the word that a line begins with, and those behind it
pub first_of : (line : List ℕ) → IsWordFirst line → words line ≡ take (position_or_len is_blank line) line ∷ words (drop (position_or_len is_blank line) line)
first_of [] never = absurd never
first_of (x ∷ line) is =
    let e = position_or_len is_blank (x ∷ line) in
    let all = cut (x ∷ line) in
    let size = length_of_first x line is in
    let keep : filter is_word (take e (x ∷ line) ∷ all.0) ≡ take e (x ∷ line) ∷ filter is_word all.0 = rw size (kept x (take (position_or_len is_blank line) line) all.0) in
    ap (filter is_word) all.1 ∙ keep ∙ ap (λ ws. take e (x ∷ line) ∷ ws) all.2

pub fewer_left : (line : List ℕ) → IsWordFirst line → length (drop (position_or_len is_blank line) line) < length line
fewer_left [] never = absurd never
fewer_left (x ∷ line) is =
    let size = length_of_first x line is in
    omega (arith, size, length-drop (position_or_len is_blank (x ∷ line)) (x ∷ line))

-- what `position` gives, or the length
pub or_length : (p : ℕ → Bool) (line : List ℕ) → unwrap_or (position p line) (length line) ≡ position_or_len p line
or_length p line = elim (cases_lt (position_or_len p line) (length line)) [
  | inl lt ↦ rw (lt-ltb (position_or_len p line) (length line) lt) refl
  | inr le ↦ rw (le-ltb (position_or_len p line) (length line) le) (let most = prefix_len-le-length (λ byte. not (p byte)) line in omega (arith, le, most))
]

-- a line of blanks
pub none_left : (line : List ℕ) → length (drop (blanks line) line) ≡ 0 → words line ≡ []
none_left line none =
    let all : length line ≤ blanks line = omega (arith, none, length-drop (blanks line) line) in
    from_the_first line ∙ ap words (drop_all (blanks line) line all)

-- what is left after a word
pub next_words : (line begun : List ℕ) → begun ≡ drop (blanks line) line → 0 < length begun
    → (words line ≡ take (position_or_len is_blank begun) begun ∷ words (drop (position_or_len is_blank begun) begun)) × (length (drop (position_or_len is_blank begun) begun) < length line)
next_words line begun is some =
    let size = length-drop (blanks line) line in
    let same = ap length is in
    let first : IsWordFirst begun = subst IsWordFirst (sym is) (begins line (omega (arith, some, size, same))) in
    let fewer = fewer_left begun first in
    (from_the_first line ∙ ap words (sym is) ∙ first_of begun first, omega (arith, fewer, size, same))

-- one word more of the first six
pub word_more : (so_far : List (Bor (List ℕ))) (word : Bor (List ℕ)) (rest more : List ℕ) (all : List (List ℕ)) → words rest ≡ word.now ∷ words more → length so_far < 6
    → map (λ x. x.now) so_far ++ take (6 - length so_far) (words rest) ≡ all → map (λ x. x.now) (so_far ++ word ∷ []) ++ take (6 - length (so_far ++ word ∷ [])) (words more) ≡ all
word_more so_far word rest more all is few before =
    let left : 6 - length so_far ≡ suc (6 - length (so_far ++ word ∷ [])) = omega (arith, few, length-append so_far (word ∷ [])) in
    let n = 6 - length (so_far ++ word ∷ []) in
    let moved : take (6 - length so_far) (words rest) ≡ word.now ∷ take n (words more) = rw (is, left) refl in
    ap (λ t. t ++ take n (words more)) (map_push (λ x. x.now) so_far word) ∙ append_assoc (map (λ x. x.now) so_far) (word.now ∷ []) (take n (words more)) ∙ ap (λ t. map (λ x. x.now) so_far ++ t) (sym moved) ∙ before

take_none : (n : ℕ) → take n (let none : List (List ℕ) = [] in none) ≡ []
take_none zero = refl
take_none (suc n) = refl

-- all of them
pub no_more : (so_far : List (Bor (List ℕ))) (rest : List ℕ) (all : List (List ℕ)) → words rest ≡ [] → map (λ x. x.now) so_far ++ take (6 - length so_far) (words rest) ≡ all → map (λ x. x.now) so_far ≡ all
no_more so_far rest all none before =
    let left : take (6 - length so_far) (words rest) ≡ [] = rw none (take_none (6 - length so_far)) in
    sym (append-nil (map (λ x. x.now) so_far)) ∙ ap (λ t. map (λ x. x.now) so_far ++ t) (sym left) ∙ before

-- or as many as there is room for
pub six_words : (so_far : List (Bor (List ℕ))) (rest : List ℕ) (all : List (List ℕ)) → 6 ≤ length so_far → map (λ x. x.now) so_far ++ take (6 - length so_far) (words rest) ≡ all → map (λ x. x.now) so_far ≡ all
six_words so_far rest all full before =
    let none : 6 - length so_far ≡ 0 = omega (arith, full) in
    let left : take (6 - length so_far) (words rest) ≡ [] = rw none refl in
    sym (append-nil (map (λ x. x.now) so_far)) ∙ ap (λ t. map (λ x. x.now) so_far ++ t) (sym left) ∙ before
