-- The words of one file, found at their places.
use Rattle.std.proofs.Common.{◌≡◌, ◌<◌, ℕ, suc, zero, ◌+◌, ◌∙◌, Bool, Option, true, false, ◌&&◌, cond, List, [], ◌∷◌, ◌++◌, length, Some, None, refl, sym, ap, arith, set, slice_get, ◌==◌}
use Rattle.std.specs.Option.{option_or}
use Rattle.std.specs.Ordering.{nat_cmp, ordering_then, eq_by_cmp, is_eq}
use Rattle.std.specs.Cmp.{IsTotalOrder, nat_cmp_total, unsigned_tied}
use Rattle.std.specs.declared.cmp.Ordering.{Ordering}
use Rattle.std.specs.declared.cmp.Ordering.TheVariants.{Less, Equal, Greater}
use Rattle.std.specs.FinMap as map_of
use Rattle.std.proofs.lemmas.Cmp.{on_total, then_total}
use Rattle.std.proofs.lemmas.Map.Lookups.{exact_pairs, exact_unsigned}
use Rattle.std.proofs.lemmas.Bool.Decides.{nat_tests}
use Rattle.data_files.specs.Tables.{place_cmp, placed}

pub places_total : IsTotalOrder place_cmp
places_total = then_total (on_total (λ p. p.0) nat_cmp_total) (on_total (λ p. p.1) nat_cmp_total)

-- places that compare alike are one
pub exact_places : (x y : ℕ × ℕ) → place_cmp x y ≡ Equal → x ≡ y
exact_places = exact_pairs nat_cmp nat_cmp exact_unsigned exact_unsigned

is_eq-then : (a b : Ordering) → is_eq (ordering_then a b) ≡ (is_eq a && is_eq b)
is_eq-then Less b = refl
is_eq-then Equal b = refl
is_eq-then Greater b = refl

-- two places tie where they are the same file and the same index
pub tied : (m j n k : ℕ) → eq_by_cmp place_cmp (m, j) (n, k) ≡ ((m == n) && (j == k))
tied m j n k = is_eq-then (nat_cmp m n) (nat_cmp j k) ∙ ap (λ b. b && is_eq (nat_cmp j k)) (unsigned_tied m n) ∙ ap (λ b. (m == n) && b) (unsigned_tied j k)

pub cond-or : {A : Type 0} (b : Bool) (x : A) (a c : Option A) → cond b (Some x) (option_or a c) ≡ option_or (cond b (Some x) a) c
cond-or true x a c = refl
cond-or false x a c = refl

pub or-cond : {A : Type 0} (b : Bool) (x : A) (a c : Option A) → (b ≡ true → a ≡ None) → option_or a (cond b (Some x) c) ≡ cond b (Some x) (option_or a c)
or-cond true x a c none = ap (λ o. option_or o (Some x)) (none refl)
or-cond false x a c none = refl

pub or-None : {A : Type 0} (a : Option A) → option_or a None ≡ a
or-None None = refl
or-None (Some x) = refl

pub both-None : {A : Type 0} (a b : Option A) → option_or a b ≡ None → (a ≡ None) × (b ≡ None)
both-None None b e = (refl, e)
both-None (Some x) b e = cc

shadowed : {A : Type 0} (b : Bool) (x y z : A) → cond b x z ≡ cond b x (cond b y z)
shadowed true x y z = refl
shadowed false x y z = refl

swapped : {A : Type 0} (a b : Bool) (x y z : A) → (a ≡ true → b ≡ true → ⊥) → cond a x (cond b y z) ≡ cond b y (cond a x z)
swapped true true x y z apart = absurd (apart refl refl)
swapped true false x y z apart = refl
swapped false b x y z apart = refl

pub other : (m n : ℕ) → (n == m) ≡ false → (m == n) ≡ false
other m n e = grind (arith, nat_tests)

same_index : (a b c d e : ℕ) → ((a == b) && (c == d)) ≡ true → ((a == b) && (c == e)) ≡ true → d ≡ e
same_index a b c d e p q = grind (arith, nat_tests)

pub same_number : (a b c d : ℕ) → ((a == b) && (c == d)) ≡ true → a ≡ b
same_number a b c d p = grind (arith, nat_tests)

tied_itself : (n k : ℕ) → ((n == n) && (k == k)) ≡ true
tied_itself n k = grind (arith, nat_tests)

not_tied : (n i k : ℕ) → (i ≡ k → ⊥) → ((n == n) && (i == k)) ≡ false
not_tied n i k apart = grind (arith, nat_tests)

pub find-append : (q : ℕ × ℕ) (es fs : List ((ℕ × ℕ) × ℕ)) → map_of.find place_cmp q (es ++ fs) ≡ option_or (map_of.find place_cmp q es) (map_of.find place_cmp q fs)
find-append q [] fs = refl
find-append q (e ∷ es) fs =
    ap (cond (eq_by_cmp place_cmp q e.0) (Some e.1)) (find-append q es fs)
    ∙ cond-or (eq_by_cmp place_cmp q e.0) e.1 (map_of.find place_cmp q es) (map_of.find place_cmp q fs)

-- a file has no word of another number
pub find-placed_other : (m j n k : ℕ) (ws : List ℕ) → (m == n) ≡ false → map_of.find place_cmp (m, j) (placed n k ws) ≡ None
find-placed_other m j n k [] apart = refl
find-placed_other m j n k (w ∷ ws) apart =
    ap (λ b. cond b (Some w) (map_of.find place_cmp (m, j) (placed n (k + 1) ws))) (tied m j n k ∙ ap (λ b. b && (j == k)) apart)
    ∙ find-placed_other m j n (k + 1) ws apart

-- a file has its words at their indexes
pub find-placed_at : (n j i k : ℕ) (ws : List ℕ) → i ≡ k + j → map_of.find place_cmp (n, i) (placed n k ws) ≡ slice_get ws j
find-placed_at n j i k [] e = refl
find-placed_at n zero i k (w ∷ ws) e =
    let here : i ≡ k = omega arith in
    ap (λ b. cond b (Some w) (map_of.find place_cmp (n, i) (placed n (k + 1) ws))) (tied n i n k ∙ ap (λ x. (n == n) && (x == k)) here ∙ tied_itself n k)
find-placed_at n (suc j) i k (w ∷ ws) e =
    ap (λ b. cond b (Some w) (map_of.find place_cmp (n, i) (placed n (k + 1) ws))) (tied n i n k ∙ not_tied n i k (λ same. omega arith))
    ∙ find-placed_at n j i (k + 1) ws (omega arith)

-- another word at an index of a file
pub find-placed_set : (q : ℕ × ℕ) (n j i k : ℕ) (ws : List ℕ) (v : ℕ) → i ≡ k + j → j < length ws →
    map_of.find place_cmp q (placed n k (set ws j v)) ≡ cond (eq_by_cmp place_cmp q (n, i)) (Some v) (map_of.find place_cmp q (placed n k ws))
find-placed_set q n j i k [] v e within = absurd (omega arith)
find-placed_set q n zero i k (w ∷ ws) v e within =
    let here : k ≡ i = omega arith in
    shadowed (eq_by_cmp place_cmp q (n, k)) (Some v) (Some w) (map_of.find place_cmp q (placed n (k + 1) ws))
    ∙ ap (λ x. cond (eq_by_cmp place_cmp q (n, x)) (Some v) (map_of.find place_cmp q (placed n k (w ∷ ws)))) here
find-placed_set q n (suc j) i k (w ∷ ws) v e within =
    ap (cond (eq_by_cmp place_cmp q (n, k)) (Some w)) (find-placed_set q n j i (k + 1) ws v (omega arith) (omega arith))
    ∙ swapped (eq_by_cmp place_cmp q (n, k)) (eq_by_cmp place_cmp q (n, i)) (Some w) (Some v) (map_of.find place_cmp q (placed n (k + 1) ws)) (λ first later.
    let same : k ≡ i = same_index q.0 n q.1 k i (sym (tied q.0 q.1 n k) ∙ first) (sym (tied q.0 q.1 n i) ∙ later) in
    omega arith)
