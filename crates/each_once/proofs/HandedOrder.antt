-- The order in which bodies are handed out: places in a list, those of each source from the front on.
use Rattle.std.proofs.Common.{◌≡◌, ◌∙◌, ◌⊎◌, ℕ, zero, suc, ◌<◌, Bool, true, false, ◌||◌, eqb, List, [], ◌∷◌, ◌++◌, length, map, Some, refl, sym, ap, inl, inr, arith}
use Rattle.std.specs.Prelude.{slice_get, slice_index, slice_index_or}
use Rattle.std.proofs.lemmas.Bool.{cases_order, eq-eqb, eqb-true, false_from_ne_true}
use Rattle.std.proofs.lemmas.List.{get_or_append_left}
use Rattle.std.proofs.lemmas.Option.{slice_get_within}
use Rattle.each_once.proofs.Sublists.{IsWithin, nothing, skips, keeps, get-more, same-some, Differ, IsOther, differ-at}

-- the source of the body at a place: SRC, its second byte
abbrev pub source_at : List (List ℕ) → ℕ → ℕ
source_at bodies place = slice_index (slice_index_or bodies place []) 1

-- these bodies are at these places
abbrev pub AreAt : List (List ℕ) → List ℕ → List (List ℕ) → Type 0
AreAt bodies [] [] = Unit {0}
AreAt bodies [] (x ∷ xs) = ⊥
AreAt bodies (p ∷ ps) [] = ⊥
AreAt bodies (p ∷ ps) (x ∷ xs) = (slice_get bodies p ≡ Some x) × AreAt bodies ps xs

-- of two places of one source the first is the lower; so the places differ
abbrev pub IsEarlier : List (List ℕ) → ℕ → ℕ → Type 0
IsEarlier bodies p q = source_at bodies p ≡ source_at bodies q → p < q

abbrev pub IsEarlierThanAll : List (List ℕ) → ℕ → List ℕ → Type 0
IsEarlierThanAll bodies p [] = Unit {0}
IsEarlierThanAll bodies p (q ∷ qs) = IsEarlier bodies p q × IsEarlierThanAll bodies p qs

-- the places of each source rise
abbrev pub RiseBySource : List (List ℕ) → List ℕ → Type 0
RiseBySource bodies [] = Unit {0}
RiseBySource bodies (p ∷ ps) = IsEarlierThanAll bodies p ps × RiseBySource bodies ps

abbrev pub is_among : ℕ → List ℕ → Bool
is_among place [] = false
is_among place (p ∷ ps) = eqb place p || is_among place ps

-- these bodies were handed out in some order, and wait no more; what waits stands behind those of its source
pub record AreInTurn (bodies : List (List ℕ)) (waits : List Bool) (handed : List (List ℕ)) : Type 0 where
  pub order : List ℕ
  pub are_at : AreAt bodies order handed
  pub rise : RiseBySource bodies order
  pub waiting : (place : ℕ) (w : Bool) → slice_get waits place ≡ Some w → is_among place order ≡ true → w ≡ false
  pub behind : (p q : ℕ) → is_among p order ≡ true → slice_get waits q ≡ Some true → IsEarlier bodies p q

pub none-in-turn : AreInTurn [] [] []
none-in-turn = record { order = []; are_at = tt; rise = tt; waiting = λ place w is. absurd cc; behind = λ p q is. absurd cc }

-- ---- places

pub either-or : (a b : Bool) → (a || b) ≡ true → (a ≡ true) ⊎ (b ≡ true)
either-or true b is = inl refl
either-or false b is = inr is

or-left : (a b : Bool) → a ≡ true → (a || b) ≡ true
or-left true b is = refl
or-left false b is = absurd cc

or-right : (a b : Bool) → b ≡ true → (a || b) ≡ true
or-right true b is = refl
or-right false b is = is

or-false : (a b : Bool) → b ≡ false → (a || b) ≡ a
or-false true b fails = refl
or-false false b fails = fails

or-next : (a b c : Bool) → (a || (b || c)) ≡ ((a || b) || c)
or-next true b c = refl
or-next false b c = refl

among-push : (place : ℕ) (ps : List ℕ) (q : ℕ) → is_among place (ps ++ q ∷ []) ≡ (is_among place ps || eqb place q)
among-push place [] q = or-false (eqb place q) false refl
among-push place (p ∷ ps) q = ap (λ b. eqb place p || b) (among-push place ps q) ∙ or-next (eqb place p) (is_among place ps) (eqb place q)

-- a place at which a body is, is inside
pub at-inside : (bodies : List (List ℕ)) (ps : List ℕ) (xs : List (List ℕ)) (place : ℕ) → AreAt bodies ps xs → is_among place ps ≡ true → place < length bodies
at-inside bodies [] xs place at is = absurd cc
at-inside bodies (p ∷ ps) [] place at is = absurd at
at-inside bodies (p ∷ ps) (x ∷ xs) place at is =
    elim (either-or (eqb place p) (is_among place ps) is) [
      | inl here ↦ let inside = slice_get_within bodies p x at.0 in omega (arith, inside, eqb-true place p here)
      | inr later ↦ at-inside bodies ps xs place at.1 later
    ]

-- the place of the body at a place of the order
pub place-of : (bodies : List (List ℕ)) (ps : List ℕ) (xs : List (List ℕ)) (k : ℕ) (x : List ℕ) → AreAt bodies ps xs → slice_get xs k ≡ Some x → (place : ℕ) × (slice_get bodies place ≡ Some x) × (is_among place ps ≡ true)
place-of bodies [] [] k x at is = absurd cc
place-of bodies [] (y ∷ xs) k x at is = absurd at
place-of bodies (p ∷ ps) [] k x at is = absurd at
place-of bodies (p ∷ ps) (y ∷ xs) zero x at is = (p, at.0 ∙ is, ap (λ b. b || is_among p ps) (eq-eqb p p refl))
place-of bodies (p ∷ ps) (y ∷ xs) (suc k) x at is =
    let later = place-of bodies ps xs k x at.1 is in
    (later.0, later.1, or-right (eqb later.0 p) (is_among later.0 ps) later.2)

-- ---- more bodies

pub at-more : (bodies more : List (List ℕ)) (ps : List ℕ) (xs : List (List ℕ)) → AreAt bodies ps xs → AreAt (bodies ++ more) ps xs
at-more bodies more [] [] at = tt
at-more bodies more [] (x ∷ xs) at = absurd at
at-more bodies more (p ∷ ps) [] at = absurd at
at-more bodies more (p ∷ ps) (x ∷ xs) at = (get-more bodies more p x at.0, at-more bodies more ps xs at.1)

source-more : (bodies more : List (List ℕ)) (p : ℕ) → p < length bodies → source_at (bodies ++ more) p ≡ source_at bodies p
source-more bodies more p inside = ap (λ body. slice_index body 1) (get_or_append_left bodies more [] p inside)

earlier-more : (bodies more : List (List ℕ)) (p q : ℕ) → p < length bodies → q < length bodies → IsEarlier bodies p q → IsEarlier (bodies ++ more) p q
earlier-more bodies more p q inside_p inside_q earlier same = earlier (sym (source-more bodies more p inside_p) ∙ same ∙ source-more bodies more q inside_q)

earlier-all-more : (bodies more : List (List ℕ)) (p : ℕ) (ps : List ℕ) (xs : List (List ℕ)) → p < length bodies → AreAt bodies ps xs → IsEarlierThanAll bodies p ps → IsEarlierThanAll (bodies ++ more) p ps
earlier-all-more bodies more p [] xs inside at all = tt
earlier-all-more bodies more p (q ∷ ps) [] inside at all = absurd at
earlier-all-more bodies more p (q ∷ ps) (x ∷ xs) inside at all = (earlier-more bodies more p q inside (slice_get_within bodies q x at.0) all.0, earlier-all-more bodies more p ps xs inside at.1 all.1)

rise-more : (bodies more : List (List ℕ)) (ps : List ℕ) (xs : List (List ℕ)) → AreAt bodies ps xs → RiseBySource bodies ps → RiseBySource (bodies ++ more) ps
rise-more bodies more [] xs at rise = tt
rise-more bodies more (p ∷ ps) [] at rise = absurd at
rise-more bodies more (p ∷ ps) (x ∷ xs) at rise = (earlier-all-more bodies more p ps xs (slice_get_within bodies p x at.0) at.1 rise.0, rise-more bodies more ps xs at.1 rise.1)

-- an element at a place of a list with one more is an old one, or the last
pub push-cases : {A : Type 0} (xs : List A) (last : A) (k : ℕ) (x : A) → slice_get (xs ++ last ∷ []) k ≡ Some x → (slice_get xs k ≡ Some x) ⊎ ((k ≡ length xs) × (x ≡ last))
push-cases [] last zero x is = inr (refl, sym (same-some last x is))
push-cases [] last (suc k) x is = absurd cc
push-cases (y ∷ xs) last zero x is = inl is
push-cases (y ∷ xs) last (suc k) x is = elim (push-cases xs last k x is) [ inl old ↦ inl old | inr new ↦ inr (ap suc new.0, new.1) ]

-- a body more, which waits
pub turn-issue : (bodies : List (List ℕ)) (waits : List Bool) (handed : List (List ℕ)) (body : List ℕ) → length waits ≡ length bodies → AreInTurn bodies waits handed → AreInTurn (bodies ++ body ∷ []) (waits ++ true ∷ []) handed
turn-issue bodies waits handed body same h = record {
  order = h.order;
  are_at = at-more bodies (body ∷ []) h.order handed h.are_at;
  rise = rise-more bodies (body ∷ []) h.order handed h.are_at h.rise;
  waiting = λ place w is among. elim (push-cases waits true place w is) [
    | inl old ↦ h.waiting place w old among
    | inr new ↦ absurd (let inside = at-inside bodies h.order handed place h.are_at among in omega (arith, inside, new.0, same))
  ];
  behind = λ p q is at. let inside = at-inside bodies h.order handed p h.are_at is in elim (push-cases waits true q true at) [
    | inl old ↦ let inside_q = slice_get_within waits q true old in earlier-more bodies (body ∷ []) p q inside (omega (arith, inside_q, same)) (h.behind p q is old)
    | inr new ↦ λ _. omega (arith, inside, new.0, same)
  ];
}

-- ---- a body is handed out

pub at-push : (bodies : List (List ℕ)) (ps : List ℕ) (xs : List (List ℕ)) (q : ℕ) (x : List ℕ) → slice_get bodies q ≡ Some x → AreAt bodies ps xs → AreAt bodies (ps ++ q ∷ []) (xs ++ x ∷ [])
at-push bodies [] [] q x is at = (is, tt)
at-push bodies [] (y ∷ xs) q x is at = absurd at
at-push bodies (p ∷ ps) [] q x is at = absurd at
at-push bodies (p ∷ ps) (y ∷ xs) q x is at = (at.0, at-push bodies ps xs q x is at.1)

earlier-push : (bodies : List (List ℕ)) (p : ℕ) (ps : List ℕ) (q : ℕ) → IsEarlier bodies p q → IsEarlierThanAll bodies p ps → IsEarlierThanAll bodies p (ps ++ q ∷ [])
earlier-push bodies p [] q new all = (new, tt)
earlier-push bodies p (r ∷ ps) q new all = (all.0, earlier-push bodies p ps q new all.1)

rise-push : (bodies : List (List ℕ)) (ps : List ℕ) (q : ℕ) → ((p : ℕ) → is_among p ps ≡ true → IsEarlier bodies p q) → RiseBySource bodies ps → RiseBySource bodies (ps ++ q ∷ [])
rise-push bodies [] q earlier rise = (tt, tt)
rise-push bodies (p ∷ ps) q earlier rise = (
  earlier-push bodies p ps q (earlier p (or-left (eqb p p) (is_among p ps) (eq-eqb p p refl))) rise.0,
  rise-push bodies ps q (λ r is. earlier r (or-right (eqb r p) (is_among r ps) is)) rise.1,
)

-- what waits is what waited, but for the body at one place
abbrev pub ButOne : ℕ → List Bool → List Bool → Type 0
ButOne q waits later = (place : ℕ) (w : Bool) → slice_get later place ≡ Some w → ((place ≡ q) × (w ≡ false)) ⊎ ((place ≡ q → ⊥) × (slice_get waits place ≡ Some w))

-- a body is handed out that waited, before all others of its source that wait
pub turn-hand_out : (bodies : List (List ℕ)) (waits later : List Bool) (handed : List (List ℕ)) (q : ℕ) (body : List ℕ) → slice_get bodies q ≡ Some body → slice_get waits q ≡ Some true
    → ((r : ℕ) → r < q → slice_get waits r ≡ Some true → source_at bodies q ≡ source_at bodies r → ⊥) → ButOne q waits later → AreInTurn bodies waits handed → AreInTurn bodies later (handed ++ body ∷ [])
turn-hand_out bodies waits later handed q body at waits-q first but h = record {
  order = h.order ++ q ∷ [];
  are_at = at-push bodies h.order handed q body at h.are_at;
  rise = rise-push bodies h.order q (λ p is. h.behind p q is waits-q) h.rise;
  waiting = λ place w is among. elim (but place w is) [
    | inl this ↦ this.1
    | inr other ↦ h.waiting place w other.1
        (sym (among-push place h.order q ∙ or-false (is_among place h.order) (eqb place q) (false_from_ne_true (eqb place q) (λ yes. other.0 (eqb-true place q yes)))) ∙ among)
  ];
  behind = λ p r is at-r. elim (but r true at-r) [
    | inl this ↦ absurd (let no : true ≡ false = this.1 in cc)
    | inr other ↦ elim (either-or (is_among p h.order) (eqb p q) (sym (among-push p h.order q) ∙ is)) [
      | inl old ↦ h.behind p r old other.1
      | inr new ↦ next p r (eqb-true p q new) other.0 other.1
    ]
  ];
}
  where
    next : (p r : ℕ) → p ≡ q → (r ≡ q → ⊥) → slice_get waits r ≡ Some true → IsEarlier bodies p r
    next p r same apart waits-r source = elim (cases_order p r) [
      | inl equal ↦ absurd (apart (sym equal ∙ same))
      | inr unequal ↦ elim unequal [
        | inl below ↦ below
        | inr above ↦ absurd (first r (omega (arith, above, same)) waits-r (ap (source_at bodies) (sym same) ∙ source))
      ]
    ]

-- nothing waits any more
pub turn-clear : (bodies : List (List ℕ)) (waits later : List Bool) (handed : List (List ℕ)) → ((place : ℕ) (w : Bool) → slice_get later place ≡ Some w → w ≡ false) → AreInTurn bodies waits handed → AreInTurn bodies later handed
turn-clear bodies waits later handed none h = record {
  order = h.order;
  are_at = h.are_at;
  rise = h.rise;
  waiting = λ place w is among. none place w is;
  behind = λ p q is at. absurd (let no : true ≡ false = none q true at in cc);
}

-- ---- some of what was handed out

earlier-within : (bodies : List (List ℕ)) (p : ℕ) (some all : List ℕ) → IsWithin some all → IsEarlierThanAll bodies p all → IsEarlierThanAll bodies p some
earlier-within bodies p _ _ nothing h = tt
earlier-within bodies p _ _ (skips q some all within) h = earlier-within bodies p some all within h.1
earlier-within bodies p _ _ (keeps q some all within) h = (h.0, earlier-within bodies p some all within h.1)

pub rise-within : (bodies : List (List ℕ)) (some all : List ℕ) → IsWithin some all → RiseBySource bodies all → RiseBySource bodies some
rise-within bodies _ _ nothing h = tt
rise-within bodies _ _ (skips p some all within) h = rise-within bodies some all within h.1
rise-within bodies _ _ (keeps p some all within) h = (earlier-within bodies p some all within h.0, rise-within bodies some all within h.1)

-- the places of bodies that stand in a list, in order, stand in that list's places
pub places-within : (bodies : List (List ℕ)) (ps : List ℕ) (some all : List (List ℕ)) → IsWithin some all → AreAt bodies ps all → (places : List ℕ) × IsWithin places ps × AreAt bodies places some
places-within bodies [] _ _ nothing at = ([], nothing, tt)
places-within bodies (p ∷ ps) _ _ nothing at = absurd at
places-within bodies [] _ _ (skips x some all within) at = absurd at
places-within bodies (p ∷ ps) _ _ (skips x some all within) at = let later = places-within bodies ps some all within at.1 in (later.0, skips p later.0 ps later.1, later.2)
places-within bodies [] _ _ (keeps x some all within) at = absurd at
places-within bodies (p ∷ ps) _ _ (keeps x some all within) at = let later = places-within bodies ps some all within at.1 in (p ∷ later.0, keeps p later.0 ps later.1, (at.0, later.2))

-- ---- what was handed out differs where the bodies do

others-differ : {B : Type 0} (f : List ℕ → B) (bodies : List (List ℕ)) (p : ℕ) (x : List ℕ) (ps : List ℕ) (xs : List (List ℕ)) → Differ (map f bodies) → slice_get bodies p ≡ Some x → AreAt bodies ps xs → IsEarlierThanAll bodies p ps
    → IsOther (f x) (map f xs)
others-differ f bodies p x [] [] differ is at all = tt
others-differ f bodies p x [] (y ∷ ys) differ is at all = absurd at
others-differ f bodies p x (q ∷ ps) [] differ is at all = absurd at
others-differ f bodies p x (q ∷ ps) (y ∷ ys) differ is at all = (
  λ same. let place = differ-at f bodies p q x y differ is at.0 same in let lower = all.0 (ap (source_at bodies) place) in omega (arith, place, lower),
  others-differ f bodies p x ps ys differ is at.1 all.1,
)

pub turn-differ : {B : Type 0} (f : List ℕ → B) (bodies : List (List ℕ)) (ps : List ℕ) (xs : List (List ℕ)) → Differ (map f bodies) → AreAt bodies ps xs → RiseBySource bodies ps → Differ (map f xs)
turn-differ f bodies [] [] differ at rise = tt
turn-differ f bodies [] (x ∷ xs) differ at rise = absurd at
turn-differ f bodies (p ∷ ps) [] differ at rise = absurd at
turn-differ f bodies (p ∷ ps) (x ∷ xs) differ at rise = (others-differ f bodies p x ps xs differ at.0 at.1 rise.0, turn-differ f bodies ps xs differ at.1 rise.1)
