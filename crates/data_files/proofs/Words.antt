-- The words of tables after some were set.
use Rattle.std.proofs.Common.{◌≡◌, ◌<◌, ℕ, suc, ◌+◌, ◌-◌, ◌∙◌, Bool, Option, true, false, ◌&&◌, cond, List, [], ◌∷◌, length, Some, None, refl, sym, ap, arith, slice_get, nat_lt, nat_le, ◌==◌}
use Rattle.std.specs.FinMap.{get-insert}
use Rattle.std.proofs.lemmas.Bool.Decides.{nat_tests}
use Rattle.data_files.specs.Tables.{DataTables, with_word, with_words, word_at}
use Rattle.data_files.proofs.Placed.{places_total, tied}

-- a word after another was set
pub word_at-with_word : (t : DataTables) (n i v m j : ℕ) → word_at (with_word t n i v) m j ≡ cond ((m == n) && (j == i)) (Some v) (word_at t m j)
word_at-with_word t n i v m j =
    get-insert places_total t.words (n, i) v (m, j) ∙ ap (λ b. cond b (Some v) (word_at t m j)) (tied m j n i)

-- whether a place is one of so many from an index on
abbrev pub is_among : ℕ → ℕ → ℕ → Bool
is_among first count j = nat_le first j && nat_lt j (first + count)

none_among : (same : Bool) (first j : ℕ) → (same && is_among first 0 j) ≡ false
none_among same first j = grind (arith, nat_tests)

before : (first count j : ℕ) → j < first → is_among first count j ≡ false
before first count j low = grind (arith, nat_tests)

before_next : (first count j : ℕ) → j ≡ first → is_among (first + 1) count j ≡ false
before_next first count j here = grind (arith, nat_tests)

at_first : (first count j : ℕ) → j ≡ first → is_among first (suc count) j ≡ true
at_first first count j here = grind (arith, nat_tests)

after_first : (first count j : ℕ) → first < j → is_among (first + 1) count j ≡ is_among first (suc count) j
after_first first count j high = grind (arith, nat_tests)

differs : (first j : ℕ) → j < first → (j == first) ≡ false
differs first j low = grind (arith, nat_tests)

exceeds : (first j : ℕ) → first < j → (j == first) ≡ false
exceeds first j high = grind (arith, nat_tests)

same_place : (first j : ℕ) → j ≡ first → (j == first) ≡ true
same_place first j here = grind (arith, nat_tests)

data Compared (first j : ℕ) : Type 0 where
  Low : j < first → Compared first j
  Here : j ≡ first → Compared first j
  High : first < j → Compared first j

below_case : (first j : ℕ) (b : Bool) → nat_lt j first ≡ b → (c : Bool) → (j == first) ≡ c → Compared first j
below_case first j true t c u = Low (grind (arith, nat_tests))
below_case first j false t true u = Here (grind (arith, nat_tests))
below_case first j false t false u = High (grind (arith, nat_tests))

compared : (first j : ℕ) → Compared first j
compared first j = below_case first j (nat_lt j first) refl (j == first) refl

-- one word of several
one_of : (first j w : ℕ) (rest : List ℕ) (o : Option ℕ) → Compared first j →
    cond (is_among (first + 1) (length rest) j) (slice_get rest (j - (first + 1))) (cond (j == first) (Some w) o) ≡ cond (is_among first (suc (length rest)) j) (slice_get (w ∷ rest) (j - first)) o
one_of first j w rest o (Low low) =
    ap (λ b. cond b (slice_get rest (j - (first + 1))) (cond (j == first) (Some w) o)) (before (first + 1) (length rest) j (omega arith))
    ∙ ap (λ b. cond b (Some w) o) (differs first j low)
    ∙ sym (ap (λ b. cond b (slice_get (w ∷ rest) (j - first)) o) (before first (suc (length rest)) j low))
one_of first j w rest o (Here here) =
    let none : j - first ≡ 0 = omega arith in
    ap (λ b. cond b (slice_get rest (j - (first + 1))) (cond (j == first) (Some w) o)) (before_next first (length rest) j here)
    ∙ ap (λ b. cond b (Some w) o) (same_place first j here)
    ∙ sym (ap (λ k. slice_get (w ∷ rest) k) none)
    ∙ sym (ap (λ b. cond b (slice_get (w ∷ rest) (j - first)) o) (at_first first (length rest) j here))
one_of first j w rest o (High high) =
    let next : j - first ≡ suc (j - (first + 1)) = omega arith in
    ap (λ b. cond b (slice_get rest (j - (first + 1))) (cond (j == first) (Some w) o)) (after_first first (length rest) j high)
    ∙ ap (λ b. cond (is_among first (suc (length rest)) j) (slice_get rest (j - (first + 1))) (cond b (Some w) o)) (exceeds first j high)
    ∙ sym (ap (λ k. cond (is_among first (suc (length rest)) j) (slice_get (w ∷ rest) k) o) next)

in_file : (same : Bool) (first j w : ℕ) (rest : List ℕ) (o : Option ℕ) →
    cond (same && is_among (first + 1) (length rest) j) (slice_get rest (j - (first + 1))) (cond (same && (j == first)) (Some w) o) ≡ cond (same && is_among first (suc (length rest)) j) (slice_get (w ∷ rest) (j - first)) o
in_file true first j w rest o = one_of first j w rest o (compared first j)
in_file false first j w rest o = refl

pub word_at-with_words : (t : DataTables) (n first : ℕ) (words : List ℕ) (m j : ℕ) →
    word_at (with_words t n first words) m j ≡ cond ((m == n) && (nat_le first j && nat_lt j (first + length words))) (slice_get words (j - first)) (word_at t m j)
word_at-with_words t n first [] m j = sym (ap (λ b. cond b None (word_at t m j)) (none_among (m == n) first j))
word_at-with_words t n first (w ∷ rest) m j =
    word_at-with_words (with_word t n first w) n (first + 1) rest m j
    ∙ ap (cond ((m == n) && is_among (first + 1) (length rest) j) (slice_get rest (j - (first + 1)))) (word_at-with_word t n first w m j)
    ∙ in_file (m == n) first j w rest (word_at t m j)
