-- Elements at their places, where one of them is another now; and numbers that differ from place to place.
use Rattle.std.proofs.Common.{◌≡◌, ◌∙◌, ℕ, zero, suc, Bool, true, false, List, [], ◌∷◌, map, Some, refl, ap, sym}
use Rattle.std.specs.Prelude.{slice_get, slice_set, nat_eq}
use Rattle.std.specs.List.{IsDistinct, AllByRecursion}
use Rattle.std.proofs.lemmas.Bool.{eq-eqb}
use Rattle.each_once.proofs.Sublists.{same-some}

-- ---- one element is another

pub set-same : {X : Type 0} (xs : List X) (place : ℕ) (was now : X) → slice_get xs place ≡ Some was → slice_get (slice_set xs place now) place ≡ Some now
set-same [] place was now is = absurd cc
set-same (first ∷ xs) zero was now is = refl
set-same (first ∷ xs) (suc place) was now is = set-same xs place was now is

pub set-other : {X : Type 0} (xs : List X) (place other : ℕ) (now : X) → (other ≡ place → ⊥) → slice_get (slice_set xs place now) other ≡ slice_get xs other
set-other [] place other now differ = refl
set-other (first ∷ xs) zero zero now differ = absurd (differ refl)
set-other (first ∷ xs) zero (suc other) now differ = refl
set-other (first ∷ xs) (suc place) zero now differ = refl
set-other (first ∷ xs) (suc place) (suc other) now differ = set-other xs place other now (λ same. differ (ap (λ n. suc n) same))

-- one of the same number
pub set-map : {X : Type 0} (f : X → ℕ) (xs : List X) (place : ℕ) (was now : X) → slice_get xs place ≡ Some was → f now ≡ f was → map f (slice_set xs place now) ≡ map f xs
set-map f [] place was now is same = refl
set-map f (first ∷ xs) zero was now is same = ap (λ n. n ∷ map f xs) (same ∙ ap f (sym (same-some first was is)))
set-map f (first ∷ xs) (suc place) was now is same = ap (λ ns. f first ∷ ns) (set-map f xs place was now is same)

-- ---- numbers

other-at : (n : ℕ) (ns : List ℕ) (place : ℕ) → AllByRecursion (λ m. nat_eq n m ≡ false) ns → slice_get ns place ≡ Some n → ⊥
other-at n [] place others is = cc
other-at n (m ∷ ns) zero others is = let same : nat_eq n m ≡ true = eq-eqb n m (sym (same-some m n is)) in let other = others.0 in cc
other-at n (m ∷ ns) (suc place) others is = other-at n ns place others.1 is

-- a number stands at one place
pub one-place : (ns : List ℕ) (p q n : ℕ) → IsDistinct nat_eq ns → slice_get ns p ≡ Some n → slice_get ns q ≡ Some n → p ≡ q
unfolding IsDistinct
one-place [] p q n differ at-p at-q = absurd cc
one-place (m ∷ ns) zero zero n differ at-p at-q = refl
one-place (m ∷ ns) zero (suc q) n differ at-p at-q = absurd (other-at m ns q differ.0 (at-q ∙ sym at-p))
one-place (m ∷ ns) (suc p) zero n differ at-p at-q = absurd (other-at m ns p differ.0 (at-p ∙ sym at-q))
one-place (m ∷ ns) (suc p) (suc q) n differ at-p at-q = ap suc (one-place ns p q n differ.1 at-p at-q)

pub not-equal : (test : Bool) → (test ≡ true → ⊥) → test ≡ false
not-equal true not = absurd (not refl)
not-equal false not = refl
