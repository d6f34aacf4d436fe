-- Words beside what was seen of them. Assumes nothing.
use Rattle.std.proofs.Common.{◌≡◌, ◌∙◌, ℕ, zero, suc, ◌<◌, ◌≤◌, Bool, true, false, nat_lt, List, [], ◌∷◌, length, slice_set, refl, sym, ap, subst, arith, rules}
use Rattle.std.specs.Prelude.{◌==◌, slice_index, if◌then◌else◌}
use Rattle.std.proofs.lemmas.Bool.{eqb-true}
use Rattle.c_calls.specs.Words.{first_change, seen_with}

pub all : (words seen : List ℕ) → length seen ≡ length words → first_change words seen ≡ length words → seen ≡ words
all [] [] same none = refl
all [] (value ∷ seen) same none = absurd cc
all (word ∷ words) [] same none = absurd cc
all (word ∷ words) (value ∷ seen) same none = at (word == value) refl none (all words seen)
  where
    at : (is : Bool) → (word == value) ≡ is → (if is then suc (first_change words seen) else 0) ≡ suc (length words)
        → (length seen ≡ length words → first_change words seen ≡ length words → seen ≡ words) → value ∷ seen ≡ word ∷ words
    at true is none rest =
        let short : length seen ≡ length words = omega (arith, same) in
        let ended : first_change words seen ≡ length words = omega (arith, none) in
        ap (λ (v : ℕ). v ∷ seen) (sym (eqb-true word value is)) ∙ ap (λ (xs : List ℕ). word ∷ xs) (rest short ended)
    at false is none rest = absurd cc

pub within : (words seen : List ℕ) → length seen ≡ length words → first_change words seen ≤ length words
within [] seen same = omega arith
within (word ∷ words) [] same = absurd cc
within (word ∷ words) (value ∷ seen) same = at (word == value) (within words seen)
  where
    at : (is : Bool) → (length seen ≡ length words → first_change words seen ≤ length words) → (if is then suc (first_change words seen) else 0) ≤ suc (length words)
    at true rest =
        let short : length seen ≡ length words = omega (arith, same) in
        let few = rest short in
        omega (arith, few)
    at false rest = omega arith

-- what was seen, with another word at a place that there is
abbrev with_at : (words seen : List ℕ) → ℕ → List ℕ
with_at words seen place = if nat_lt place (length words) then slice_set seen place (slice_index words place) else seen

set-length : (seen : List ℕ) (place word : ℕ) → length (slice_set seen place word) ≡ length seen
set-length [] place word = refl
set-length (value ∷ seen) zero word = refl
set-length (value ∷ seen) (suc place) word = ap suc (set-length seen place word)

pub kept : (words seen : List ℕ) → length (seen_with words seen) ≡ length seen
kept words seen = at (nat_lt (first_change words seen) (length words))
  where
    at : (is : Bool) → length (if is then slice_set seen (first_change words seen) (slice_index words (first_change words seen)) else seen) ≡ length seen
    at true = set-length seen (first_change words seen) (slice_index words (first_change words seen))
    at false = refl

behind : (word value : ℕ) (words seen : List ℕ) (place : ℕ) (is : Bool)
    → (if is then slice_set (value ∷ seen) (suc place) (slice_index (word ∷ words) (suc place)) else value ∷ seen)
    ≡ value ∷ (if is then slice_set seen place (slice_index words place) else seen)
behind word value words seen place true = refl
behind word value words seen place false = refl

itself : (word : ℕ) → (word == word) ≡ true
itself word = search rules

found : (word : ℕ) (words seen : List ℕ) → 0 < first_change (word ∷ words) (word ∷ seen)
found word words seen = subst (λ (is : Bool). 0 < (if is then suc (first_change words seen) else 0)) (sym (itself word)) (omega arith)

less : (a b : ℕ) → nat_lt (suc a) (suc b) ≡ nat_lt a b
less a b = search rules

first : (word value : ℕ) (words seen : List ℕ) → with_at (word ∷ words) (value ∷ seen) 0 ≡ word ∷ seen
first word value words seen = at (nat_lt 0 (length (word ∷ words))) (search rules)
  where
    at : (is : Bool) → is ≡ true → (if is then slice_set (value ∷ seen) 0 (slice_index (word ∷ words) 0) else value ∷ seen) ≡ word ∷ seen
    at true e = refl
    at false e = absurd cc

pub on : (words seen : List ℕ) → length seen ≡ length words → first_change words seen < length words → first_change words seen < first_change words (seen_with words seen)
on [] seen same some = absurd (omega (arith, some))
on (word ∷ words) [] same some = absurd cc
on (word ∷ words) (value ∷ seen) same some = at (word == value) refl some (on words seen)
  where
    short : length seen ≡ length words
    short = omega (arith, same)

    at : (is : Bool) → (word == value) ≡ is → (if is then suc (first_change words seen) else 0) < suc (length words)
        → (length seen ≡ length words → first_change words seen < length words → first_change words seen < first_change words (seen_with words seen))
        → (if is then suc (first_change words seen) else 0)
        < first_change (word ∷ words) (with_at (word ∷ words) (value ∷ seen) (if is then suc (first_change words seen) else 0))
    at true is some rest =
        let under : first_change words seen < length words = omega (arith, some) in
        let more = rest short under in
        subst (λ (xs : List ℕ). suc (first_change words seen) < first_change (word ∷ words) xs) (sym (behind word value words seen (first_change words seen) (nat_lt (suc (first_change words seen)) (length (word ∷ words)))
        ∙ ap (λ (b : Bool). value ∷ (if b then slice_set seen (first_change words seen) (slice_index words (first_change words seen)) else seen)) (less (first_change words seen) (length words))))
        (subst (λ (b : Bool). suc (first_change words seen) < (if b then suc (first_change words (seen_with words seen)) else 0)) (sym is) (omega (arith, more)))
    at false is some rest = subst (λ (xs : List ℕ). 0 < first_change (word ∷ words) xs) (sym (first word value words seen)) (found word words seen)
