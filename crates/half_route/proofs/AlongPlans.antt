-- What holds of each plan of a list and the station of it: at a place, where one station is another, and where all are.
use Rattle.std.proofs.Common.{◌≡◌, ℕ, zero, suc, List, [], ◌∷◌, map, Some, refl, subst, arith}
use Rattle.std.specs.Prelude.{slice_get, slice_set}
use Rattle.std.specs.List.{AllZip}
use Rattle.each_once.proofs.Sublists.{same-some}

module _ {X Y : Type 0} (R : X → Y → Type 0) where
  -- what stands at a place in the second list, with what stands there in the first
  pub zip-at : (xs : List X) (ys : List Y) (place : ℕ) (y : Y) → AllZip R xs ys → slice_get ys place ≡ Some y → (x : X) × (slice_get xs place ≡ Some x) × R x y
  zip-at [] [] place y all is = absurd cc
  zip-at [] (first ∷ ys) place y all is = absurd all
  zip-at (x ∷ xs) [] place y all is = absurd all
  zip-at (x ∷ xs) (first ∷ ys) zero y all is = (x, refl, subst (λ (now : Y). R x now) (same-some first y is) all.0)
  zip-at (x ∷ xs) (first ∷ ys) (suc place) y all is = zip-at xs ys place y all.1 is

  -- each is changed
  pub zip-map : (f : Y → Y) (xs : List X) (ys : List Y) → ((x : X) (y : Y) → R x y → R x (f y)) → AllZip R xs ys → AllZip R xs (map f ys)
  zip-map f [] [] keeps all = tt
  zip-map f [] (y ∷ ys) keeps all = absurd all
  zip-map f (x ∷ xs) [] keeps all = absurd all
  zip-map f (x ∷ xs) (y ∷ ys) keeps all = (keeps x y all.0, zip-map f xs ys keeps all.1)

-- each is as before, of which more is known now
pub zip-each : {X Y : Type 0} (R Q : X → Y → Type 0) (xs : List X) (ys : List Y) → ((place : ℕ) (x : X) (y : Y) → slice_get ys place ≡ Some y → R x y → Q x y) → AllZip R xs ys → AllZip Q xs ys
zip-each R Q [] [] each all = tt
zip-each R Q [] (y ∷ ys) each all = absurd all
zip-each R Q (x ∷ xs) [] each all = absurd all
zip-each R Q (x ∷ xs) (y ∷ ys) each all = (each zero x y refl all.0, zip-each R Q xs ys (λ place. each (suc place)) all.1)

-- one is another now, and the others are as before
pub zip-set : {X Y : Type 0} (R Q : X → Y → Type 0) (xs : List X) (ys : List Y) (place : ℕ) (was now : Y) → slice_get ys place ≡ Some was → ((x : X) → R x was → Q x now)
    → ((other : ℕ) (x : X) (y : Y) → (other ≡ place → ⊥) → slice_get ys other ≡ Some y → R x y → Q x y) → AllZip R xs ys → AllZip Q xs (slice_set ys place now)
zip-set R Q [] [] place was now is one others all = tt
zip-set R Q [] (y ∷ ys) place was now is one others all = absurd all
zip-set R Q (x ∷ xs) [] place was now is one others all = absurd all
zip-set R Q (x ∷ xs) (y ∷ ys) zero was now is one others all =
    (one x (subst (R x) (same-some y was is) all.0), zip-each R Q xs ys (λ place x y. others (suc place) x y (λ same. omega (arith, same))) all.1)
zip-set R Q (x ∷ xs) (y ∷ ys) (suc place) was now is one others all =
    (others zero x y (λ same. omega (arith, same)) refl all.0, zip-set R Q xs ys place was now is one (λ other x y differ. others (suc other) x y (λ same. differ (omega (arith, same)))) all.1)
