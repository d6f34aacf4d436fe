-- The first place of a list at which something holds.
use Rattle.std.proofs.Common.{◌≡◌, ◌∙◌, ◌<◌, ◌+◌, ℕ, zero, suc, Bool, true, false, cond, List, [], ◌∷◌, ◌++◌, Option, None, Some, get_or, length, map, take, refl, sym, ap, arith}
use Rattle.std.specs.Prelude.{position}
use Rattle.std.specs.List.{position_from}
use Rattle.std.proofs.lemmas.Iterator.Adapters.{position_from-zero}

-- there is none exactly where the head isn't one, and none is behind it
none-ahead : (b : Bool) (at : ℕ) (behind : Option ℕ) → cond b (Some at) behind ≡ None → (b ≡ false) × (behind ≡ None)
none-ahead true at behind none = absurd cc
none-ahead false at behind none = (refl, none)

found-from : {X : Type 0} (p : X → Bool) (at : ℕ) (xs : List X) (i : ℕ) (x : X) → i < length xs → position_from p at (take i xs) ≡ None → p (get_or xs i x) ≡ true → position_from p at xs ≡ Some (at + i)
found-from p at [] i x there none is = absurd (omega (arith, there))
found-from p at (y ∷ ys) zero x there none is = rw is (ap Some (omega arith))
found-from p at (y ∷ ys) (suc i) x there none is =
    let ahead = none-ahead (p y) at (position_from p (at + 1) (take i ys)) none in
    let sum : at + 1 + i ≡ at + suc i = omega arith in
    rw ahead.0 (found-from p (at + 1) ys i x (omega (arith, there)) ahead.1 is ∙ ap Some sum)

none-from : {X : Type 0} (p : X → Bool) (at : ℕ) (xs : List X) (i : ℕ) (x : X) → i < length xs → position_from p at (take i xs) ≡ None → p (get_or xs i x) ≡ false → position_from p at (take (suc i) xs) ≡ None
none-from p at [] i x there none is = absurd (omega (arith, there))
none-from p at (y ∷ ys) zero x there none is = rw is refl
none-from p at (y ∷ ys) (suc i) x there none is =
    let ahead = none-ahead (p y) at (position_from p (at + 1) (take i ys)) none in
    rw ahead.0 (none-from p (at + 1) ys i x (omega (arith, there)) ahead.1 is)

-- the first is found where none stands before it
pub found-there : {X : Type 0} (p : X → Bool) (xs : List X) (i : ℕ) (x : X) → i < length xs → position p (take i xs) ≡ None → p (get_or xs i x) ≡ true → position p xs ≡ Some i
found-there p xs i x there none is =
    position_from-zero p xs ∙ found-from p 0 xs i x there (sym (position_from-zero p (take i xs)) ∙ none) is ∙ ap Some (omega arith)

-- none stands up to and with one that isn't
pub none-further : {X : Type 0} (p : X → Bool) (xs : List X) (i : ℕ) (x : X) → i < length xs → position p (take i xs) ≡ None → p (get_or xs i x) ≡ false → position p (take (i + 1) xs) ≡ None
none-further p xs i x there none is =
    let next : i + 1 ≡ suc i = omega arith in
    rw next (position_from-zero p (take (suc i) xs) ∙ none-from p 0 xs i x there (sym (position_from-zero p (take i xs)) ∙ none) is)

-- what is found of the images of things
mapped-from : {X Y : Type 0} (p : Y → Bool) (f : X → Y) (at : ℕ) (xs : List X) → position_from (λ x. p (f x)) at xs ≡ position_from p at (map f xs)
mapped-from p f at [] = refl
mapped-from p f at (x ∷ xs) = ap (cond (p (f x)) (Some at)) (mapped-from p f (at + 1) xs)

pub position-mapped : {X Y : Type 0} (p : Y → Bool) (f : X → Y) (xs : List X) → position (λ x. p (f x)) xs ≡ position p (map f xs)
position-mapped p f xs = position_from-zero (λ x. p (f x)) xs ∙ mapped-from p f 0 xs ∙ sym (position_from-zero p (map f xs))

-- none is one
abbrev pub NoneIs : {X : Type 0} → (X → Bool) → List X → Type 0
NoneIs p [] = Unit {0}
NoneIs p (x ∷ xs) = (p x ≡ false) × NoneIs p xs

pub none-joined : {X : Type 0} (p : X → Bool) (xs ys : List X) → NoneIs p xs → NoneIs p ys → NoneIs p (xs ++ ys)
none-joined p [] ys none none' = none'
none-joined p (x ∷ xs) ys (is, none) none' = (is, none-joined p xs ys none none')

none-at : {X : Type 0} (p : X → Bool) (at : ℕ) (xs : List X) → NoneIs p xs → position_from p at xs ≡ None
none-at p at [] none = refl
none-at p at (x ∷ xs) (is, none) = rw is (none-at p (at + 1) xs none)

pub none-there : {X : Type 0} (p : X → Bool) (xs : List X) → NoneIs p xs → position p xs ≡ None
none-there p xs none = position_from-zero p xs ∙ none-at p 0 xs none
