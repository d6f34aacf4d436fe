-- The first place of a list that passes a test, where some element passes it.
use Rattle.std.proofs.Common.{◌≡◌, ◌∙◌, ℕ, suc, ◌+◌, ◌<◌, Bool, true, false, ◌||◌, cond, not, nat_lt, List, [], ◌∷◌, length, Some, None, refl, ap, sym, slice_get, position, arith}
use Rattle.std.specs.List.{list_any, position_or_len, prefix_len}
use Rattle.std.proofs.lemmas.Bool.{lt-ltb}

-- where it is, and what stands there
record FirstOf {X : Type 0} (p : X → Bool) (xs : List X) : Type 0 where
  place : ℕ
  element : X
  is : position_or_len p xs ≡ place
  within : place < length xs
  stands : slice_get xs place ≡ Some element
  passes : p element ≡ true

first-of : {X : Type 0} (p : X → Bool) (xs : List X) → list_any p xs ≡ true → FirstOf p xs
first-of p [] any = absurd cc
first-of {X} p (x ∷ xs) any = elim (p x) as (λ b. p x ≡ b → FirstOf p (x ∷ xs)) [
  | true ↦ λ passes. record { place = 0; element = x; is = ap (λ (b : Bool). cond (not b) (1 + prefix_len (λ (y : X). not (p y)) xs) 0) passes; within = omega arith; stands = refl; passes = passes }
  | false ↦ λ fails.
      let rest = first-of p xs (sym (ap (λ (b : Bool). b || list_any p xs) fails) ∙ any) in
      let within = rest.within in
      let more : 1 + rest.place ≡ suc rest.place = omega arith in
      record {
        place = suc rest.place;
        element = rest.element;
        is = ap (λ (b : Bool). cond (not b) (1 + prefix_len (λ (y : X). not (p y)) xs) 0) fails ∙ ap (λ (n : ℕ). 1 + n) rest.is ∙ more;
        within = omega (arith, within);
        stands = rest.stands;
        passes = rest.passes;
      }
] refl

pub first-place : {X : Type 0} (p : X → Bool) (xs : List X) → list_any p xs ≡ true → (place : ℕ) × (x : X) × (position p xs ≡ Some place) × (slice_get xs place ≡ Some x) × (p x ≡ true)
first-place p xs any =
    let first = first-of p xs any in
    let at = ap (λ (n : ℕ). cond (nat_lt n (length xs)) (Some n) None) first.is in
    let inside = ap (λ (b : Bool). cond b (Some first.place) None) (lt-ltb first.place (length xs) first.within) in
    (first.place, first.element, at ∙ inside, first.stands, first.passes)
