-- Lists within lists, in order, and lists whose elements differ.
use Rattle.std.proofs.Common.{◌≡◌, ◌∙◌, ℕ, zero, suc, ◌≤◌, Bool, true, false, List, [], ◌∷◌, ◌++◌, map, cond, Some, refl, ap, sym, subst, arith, take, append-nil, length, is_none, Option, None}
use Rattle.std.specs.Prelude.{slice_get, All, Contains}
use Rattle.std.specs.List.{filter}
use Rattle.std.proofs.lemmas.List.Elements.{filter-append}
use Rattle.std.proofs.lemmas.Option.{slice_get_within, get_or_from_slice_get}

-- a list has this element
abbrev pub Has : {A : Type 0} → List A → A → Type 0
Has xs x = (k : ℕ) × (slice_get xs k ≡ Some x)

pub same-some : {A : Type 0} (x y : A) → Some x ≡ Some y → x ≡ y
same-some x y e = cc

pub none-is : {A : Type 0} (o : Option A) → is_none o ≡ true → o ≡ None
none-is None is = refl
none-is (Some x) is = absurd cc

-- ---- one element, at its place

pub get-more : {A : Type 0} (xs ys : List A) (k : ℕ) (x : A) → slice_get xs k ≡ Some x → slice_get (xs ++ ys) k ≡ Some x
get-more [] ys k x is = cc
get-more (y ∷ xs) ys zero x is = is
get-more (y ∷ xs) ys (suc k) x is = get-more xs ys k x is

pub get-seam : {A : Type 0} (front : List A) (x : A) (back : List A) → slice_get (front ++ x ∷ back) (length front) ≡ Some x
get-seam [] x back = refl
get-seam (y ∷ front) x back = get-seam front x back

pub get-last : {A : Type 0} (xs : List A) (x : A) → Has (xs ++ x ∷ []) x
get-last [] x = (0, refl)
get-last (y ∷ xs) x = let last = get-last xs x in (suc last.0, last.1)

-- ---- a list within another

-- the elements of one list stand in another, in order
pub data IsWithin {A : Type 0} : List A → List A → Type 0 where
  nothing : IsWithin [] []
  skips : (y : A) (xs ys : List A) → IsWithin xs ys → IsWithin xs (y ∷ ys)
  keeps : (x : A) (xs ys : List A) → IsWithin xs ys → IsWithin (x ∷ xs) (x ∷ ys)

pub within-none : {A : Type 0} (ys : List A) → IsWithin [] ys
within-none [] = nothing
within-none (y ∷ ys) = skips y [] ys (within-none ys)

pub within-all : {A : Type 0} (xs : List A) → IsWithin xs xs
within-all [] = nothing
within-all (x ∷ xs) = keeps x xs xs (within-all xs)

pub within-front : {A : Type 0} (xs ys zs : List A) → IsWithin xs ys → IsWithin xs (ys ++ zs)
within-front _ _ zs nothing = within-none zs
within-front _ _ zs (skips y xs ys h) = skips y xs (ys ++ zs) (within-front xs ys zs h)
within-front _ _ zs (keeps x xs ys h) = keeps x xs (ys ++ zs) (within-front xs ys zs h)

pub within-take : {A : Type 0} (n : ℕ) (xs ys : List A) → IsWithin xs (take n ys) → IsWithin xs ys
within-take zero xs ys h = within-front xs [] ys h
within-take (suc n) xs [] h = h
within-take (suc n) _ (y ∷ ys) (skips _ xs _ h) = skips y xs ys (within-take n xs ys h)
within-take (suc n) _ (y ∷ ys) (keeps _ xs _ h) = keeps y xs ys (within-take n xs ys h)

may-skip : {A : Type 0} (b : Bool) (y : A) (xs ys : List A) → IsWithin xs ys → IsWithin xs (cond b (y ∷ ys) ys)
may-skip true y xs ys h = skips y xs ys h
may-skip false y xs ys h = h

may-keep : {A : Type 0} (b : Bool) (x : A) (xs ys : List A) → IsWithin xs ys → IsWithin (cond b (x ∷ xs) xs) (cond b (x ∷ ys) ys)
may-keep true x xs ys h = keeps x xs ys h
may-keep false x xs ys h = h

pub within-filter : {A : Type 0} (p : A → Bool) (xs ys : List A) → IsWithin xs ys → IsWithin (filter p xs) (filter p ys)
within-filter p _ _ nothing = nothing
within-filter p _ _ (skips y xs ys h) = may-skip (p y) y (filter p xs) (filter p ys) (within-filter p xs ys h)
within-filter p _ _ (keeps x xs ys h) = may-keep (p x) x (filter p xs) (filter p ys) (within-filter p xs ys h)

pub within-has : {A : Type 0} (xs ys : List A) (x : A) → IsWithin xs ys → Has xs x → Has ys x
within-has _ _ x nothing has = absurd (let no = has.1 in cc)
within-has _ _ x (skips y xs ys h) has = let later = within-has xs ys x h has in (suc later.0, later.1)
within-has _ _ x (keeps y xs ys h) (zero, is) = (0, is)
within-has _ _ x (keeps y xs ys h) (suc k, is) = let later = within-has xs ys x h (k, is) in (suc later.0, later.1)

-- with one element more, which stands later
pub within-push : {A : Type 0} (n m : ℕ) (xs ys : List A) (x : A) → IsWithin xs (take n ys) → n ≤ m → slice_get ys m ≡ Some x → IsWithin (xs ++ x ∷ []) (take (suc m) ys)
within-push n m xs [] x h later is = cc
within-push zero zero _ (y ∷ ys) x nothing later is = subst (λ z. IsWithin (x ∷ []) (z ∷ [])) (same-some x y (sym is)) (keeps x [] [] nothing)
within-push zero (suc m) _ (y ∷ ys) x nothing later is = skips y (x ∷ []) (take (suc m) ys) (within-push zero m [] ys x nothing (omega arith) is)
within-push (suc n) zero xs (y ∷ ys) x h later is = absurd (omega arith)
within-push (suc n) (suc m) _ (y ∷ ys) x (skips _ xs _ h) later is = skips y (xs ++ x ∷ []) (take (suc m) ys) (within-push n m xs ys x h (omega arith) is)
within-push (suc n) (suc m) _ (y ∷ ys) x (keeps _ xs _ h) later is = keeps y (xs ++ x ∷ []) (take (suc m) ys) (within-push n m xs ys x h (omega arith) is)

-- ---- lists whose elements differ

abbrev pub IsOther : {A : Type 0} → A → List A → Type 0
IsOther x [] = Unit {0}
IsOther x (y ∷ ys) = (x ≡ y → ⊥) × IsOther x ys

abbrev pub Differ : {A : Type 0} → List A → Type 0
Differ [] = Unit {0}
Differ (x ∷ xs) = IsOther x xs × Differ xs

other-within : {A B : Type 0} (f : A → B) (b : B) (xs ys : List A) → IsWithin xs ys → IsOther b (map f ys) → IsOther b (map f xs)
other-within f b _ _ nothing other = tt
other-within f b _ _ (skips y xs ys h) other = other-within f b xs ys h other.1
other-within f b _ _ (keeps x xs ys h) other = (other.0, other-within f b xs ys h other.1)

pub differ-within : {A B : Type 0} (f : A → B) (xs ys : List A) → IsWithin xs ys → Differ (map f ys) → Differ (map f xs)
differ-within f _ _ nothing differ = tt
differ-within f _ _ (skips y xs ys h) differ = differ-within f xs ys h differ.1
differ-within f _ _ (keeps x xs ys h) differ = (other-within f (f x) xs ys h differ.0, differ-within f xs ys h differ.1)

-- those of a front
pub differ-front : {A B : Type 0} (f : A → B) (xs ys : List A) → Differ (map f (xs ++ ys)) → Differ (map f xs)
differ-front f xs ys = differ-within f xs (xs ++ ys) (within-front xs xs ys (within-all xs))

other-has : {A B : Type 0} (f : A → B) (b : B) (xs : List A) (k : ℕ) (x : A) → IsOther b (map f xs) → slice_get xs k ≡ Some x → b ≡ f x → ⊥
other-has f b [] k x other is same = cc
other-has f b (y ∷ xs) zero x other is same = other.0 (same ∙ ap f (same-some x y (sym is)))
other-has f b (y ∷ xs) (suc k) x other is same = other-has f b xs k x other.1 is same

-- an element before the last differs from it
pub differ-last : {A B : Type 0} (f : A → B) (xs : List A) (k : ℕ) (x last : A) → Differ (map f (xs ++ last ∷ [])) → slice_get xs k ≡ Some x → f x ≡ f last → ⊥
differ-last f [] k x last differ is same = cc
differ-last f (y ∷ xs) zero x last differ is same =
    let at = get-last xs last in
    other-has f (f y) (xs ++ last ∷ []) at.0 last differ.0 at.1 (ap f (same-some y x is) ∙ same)
differ-last f (y ∷ xs) (suc k) x last differ is same = differ-last f xs k x last differ.1 is same

-- elements that don't differ stand at one place
pub differ-at : {A B : Type 0} (f : A → B) (xs : List A) (i j : ℕ) (x y : A) → Differ (map f xs) → slice_get xs i ≡ Some x → slice_get xs j ≡ Some y → f x ≡ f y → i ≡ j
differ-at f [] i j x y differ is-x is-y same = cc
differ-at f (z ∷ xs) zero zero x y differ is-x is-y same = refl
differ-at f (z ∷ xs) zero (suc j) x y differ is-x is-y same = absurd (other-has f (f z) xs j y differ.0 is-y (ap f (same-some z x is-x) ∙ same))
differ-at f (z ∷ xs) (suc i) zero x y differ is-x is-y same = absurd (other-has f (f z) xs i x differ.0 is-x (ap f (same-some z y is-y) ∙ sym same))
differ-at f (z ∷ xs) (suc i) (suc j) x y differ is-x is-y same = ap suc (differ-at f xs i j x y differ.1 is-x is-y same)

-- ---- elements of other lists

has-cond : {A : Type 0} (b : Bool) (y : A) (ys : List A) (x : A) → Has ys x → Has (cond b (y ∷ ys) ys) x
has-cond true y ys x h = (suc h.0, h.1)
has-cond false y ys x h = h

pub has-filter : {A : Type 0} (p : A → Bool) (xs : List A) (k : ℕ) (x : A) → p x ≡ true → slice_get xs k ≡ Some x → Has (filter p xs) x
has-filter p [] k x passes is = absurd cc
has-filter p (y ∷ xs) zero x passes is = let first : p y ≡ true = ap p (same-some y x is) ∙ passes in rw first (0, is)
has-filter p (y ∷ xs) (suc k) x passes is = has-cond (p y) y (filter p xs) x (has-filter p xs k x passes is)

pub from-map : {A B : Type 0} (f : A → B) (xs : List A) (k : ℕ) (y : B) → slice_get (map f xs) k ≡ Some y → (x : A) × (slice_get xs k ≡ Some x) × (f x ≡ y)
from-map f [] k y is = absurd cc
from-map f (x ∷ xs) zero y is = (x, refl, same-some (f x) y is)
from-map f (x ∷ xs) (suc k) y is = from-map f xs k y is

pub contains-at : {A : Type 0} (xs : List A) (k : ℕ) (x : A) → slice_get xs k ≡ Some x → Contains xs x
contains-at xs k x is = (k, slice_get_within xs k x is, get_or_from_slice_get xs k x x is)

-- what all have, the element at a place has
pub all-at : {A : Type 0} (P : A → Type 0) (xs : List A) (k : ℕ) (x : A) → All P xs → slice_get xs k ≡ Some x → P x
all-at P xs k x all is = subst P (get_or_from_slice_get xs k x x is) (all k x (slice_get_within xs k x is))

-- what all have shows what all have
pub all-as : {A : Type 0} (P Q : A → Type 0) (xs : List A) → ((x : A) → P x → Q x) → All P xs → All Q xs
all-as P Q xs each all k d inside = each _ (all k d inside)

pub filter-keeps : {A : Type 0} (p : A → Bool) (xs : List A) (x : A) → p x ≡ true → filter p (xs ++ x ∷ []) ≡ filter p xs ++ x ∷ []
filter-keeps p xs x passes = filter-append p xs (x ∷ []) ∙ rw passes refl

pub filter-drops : {A : Type 0} (p : A → Bool) (xs : List A) (x : A) → p x ≡ false → filter p (xs ++ x ∷ []) ≡ filter p xs
filter-drops p xs x fails = filter-append p xs (x ∷ []) ∙ rw fails (append-nil (filter p xs))
