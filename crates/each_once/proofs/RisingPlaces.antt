-- Where bodies stand among commands: at places that rise, or those of each source do.
use Rattle.std.proofs.Common.{◌≡◌, ◌∙◌, ℕ, zero, suc, ◌+◌, ◌<◌, ◌≤◌, true, false, List, [], ◌∷◌, ◌++◌, length, map, Option, Some, cond, refl, ap, ap₂, sym, subst, arith, append_assoc, length-append, add-one}
use Rattle.std.specs.Prelude.{Bool, slice_get, slice_index, nat_eq, All}
use Rattle.std.specs.List.{filter, IsDistinct, AllByRecursion}
use Rattle.std.specs.List.Sorted.{IsStrictlyIncreasing}
use Rattle.std.proofs.lemmas.Bool.{cond_both, eq-eqb, eqb-true, false_from_ne_true}
use Rattle.std.proofs.lemmas.List.{length-map}
use Rattle.std.proofs.lemmas.Option.{slice_get_within, get_or_from_slice_get}
use Rattle.pccc_envelope.specs.Envelope.{tns_of}
use Rattle.df1_node.specs.Initiator.{Issued}
use Rattle.each_once.specs.BySource.{AreOnceOf, AreAllOf, is_of_source}
use Rattle.each_once.specs.Direction.{AreSomeOf}
use Rattle.each_once.specs.Once.{AreApart}
use Rattle.each_once.proofs.Sublists.{IsWithin, nothing, skips, keeps, from-map, get-seam, same-some}
use Rattle.each_once.proofs.HandedOrder.{AreAt, AreInTurn, IsEarlier, IsEarlierThanAll, RiseBySource, source_at, places-within, rise-within}
use Rattle.each_once.proofs.HandedOut.{AreNumbered, numbered-at, numbered-apart}

-- numbers that rise, from one on
abbrev pub RiseFrom : ℕ → List ℕ → Type 0
RiseFrom low [] = Unit {0}
RiseFrom low (x ∷ xs) = (low ≤ x) × RiseFrom (suc x) xs

pub rise-lower : (low high : ℕ) (xs : List ℕ) → low ≤ high → RiseFrom high xs → RiseFrom low xs
rise-lower low high [] below h = tt
rise-lower low high (x ∷ xs) below h = (omega (arith, h.0), h.1)

rise-first : (low : ℕ) (xs : List ℕ) → RiseFrom low xs → 0 < length xs → low ≤ slice_index xs 0
rise-first low [] h some = absurd (omega arith)
rise-first low (x ∷ xs) h some = h.0

pub increasing : (low : ℕ) (xs : List ℕ) → RiseFrom low xs → IsStrictlyIncreasing xs
increasing low [] h k inside = absurd (omega arith)
increasing low (x ∷ xs) h zero inside = let more = rise-first (suc x) xs h.1 (omega arith) in omega (arith, more)
increasing low (x ∷ xs) h (suc k) inside = let more = increasing (suc x) xs h.1 k (omega arith) in rw add-one (rw add-one at more)

-- ---- places

abbrev ArePlaces : {A : Type 0} → ℕ → List A → List A → Type 0
ArePlaces low all xs = (places : List ℕ) × RiseFrom low places × (map Some xs ≡ map (slice_get all) places)

places-of : {A : Type 0} (front xs ys : List A) → IsWithin xs ys → ArePlaces (length front) (front ++ ys) xs
places-of front _ _ nothing = ([], tt, refl)
places-of {A} front _ _ (skips y xs ys h) =
    let later = places-of (front ++ y ∷ []) xs ys h in
    let same : (front ++ y ∷ []) ++ ys ≡ front ++ y ∷ ys = append_assoc front (y ∷ []) ys in (
      later.0,
      rise-lower (length front) (length (front ++ y ∷ [])) later.0 (omega (arith, length-append front (y ∷ []))) later.1,
      later.2 ∙ ap (λ (all : List A). map (slice_get all) later.0) same,
    )
places-of {A} front _ _ (keeps x xs ys h) =
    let later = places-of (front ++ x ∷ []) xs ys h in
    let same : (front ++ x ∷ []) ++ ys ≡ front ++ x ∷ ys = append_assoc front (x ∷ []) ys in (
      length front ∷ later.0,
      (omega arith, rise-lower (suc (length front)) (length (front ++ x ∷ [])) later.0 (omega (arith, length-append front (x ∷ []))) later.1),
      ap₂ (λ (o : Option A) (os : List (Option A)). o ∷ os) (sym (get-seam front x ys)) (later.2 ∙ ap (λ (all : List A). map (slice_get all) later.0) same),
    )

-- elements of a list that stand in it in order
pub some-of : (some all : List (List ℕ)) → IsWithin some all → AreSomeOf some all
some-of some all within = let places = places-of [] some all within in (places.0, increasing 0 places.0 places.1, places.2)

-- ---- places that rise by source

-- numbers of which each is less than all later ones
abbrev IsBelowAll : ℕ → List ℕ → Type 0
IsBelowAll p [] = Unit {0}
IsBelowAll p (q ∷ qs) = (p < q) × IsBelowAll p qs

below-first : (p : ℕ) (qs : List ℕ) → IsBelowAll p qs → 0 < length qs → p < slice_index qs 0
below-first p [] h some = absurd (omega arith)
below-first p (q ∷ qs) h some = h.0

increasing-cons : (p : ℕ) (qs : List ℕ) → IsBelowAll p qs → IsStrictlyIncreasing qs → IsStrictlyIncreasing (p ∷ qs)
increasing-cons p qs below h zero inside = below-first p qs below (omega arith)
increasing-cons p qs below h (suc k) inside = let more = h k (omega arith) in rw add-one (rw add-one at more)

is-of : (all : List (List ℕ)) (source place : ℕ) → is_of_source all source place ≡ true → source_at all place ≡ source
is-of all source place is = eqb-true (source_at all place) source is

below-others : (all : List (List ℕ)) (source p : ℕ) (ps : List ℕ) → source_at all p ≡ source → IsEarlierThanAll all p ps → IsBelowAll p (filter (is_of_source all source) ps)
below-others all source p [] same h = tt
below-others all source p (q ∷ qs) same h =
    cond_both (is_of_source all source q) (q ∷ filter (is_of_source all source) qs) (filter (is_of_source all source) qs) (IsBelowAll p)
    (λ of. (h.0 (same ∙ sym (is-of all source q of)), below-others all source p qs same h.1))
    (λ _. below-others all source p qs same h.1)

-- the places of one source rise
increasing-of : (all : List (List ℕ)) (source : ℕ) (places : List ℕ) → RiseBySource all places → IsStrictlyIncreasing (filter (is_of_source all source) places)
increasing-of all source [] h = λ k inside. absurd (omega arith)
increasing-of all source (p ∷ ps) h =
    cond_both (is_of_source all source p) (p ∷ filter (is_of_source all source) ps) (filter (is_of_source all source) ps) IsStrictlyIncreasing
    (λ of. increasing-cons p (filter (is_of_source all source) ps) (below-others all source p ps (is-of all source p of) h.0) (increasing-of all source ps h.1))
    (λ _. increasing-of all source ps h.1)

others-differ : (all : List (List ℕ)) (p : ℕ) (ps : List ℕ) → IsEarlierThanAll all p ps → AllByRecursion (λ q. nat_eq p q ≡ false) ps
others-differ all p [] h = tt
others-differ all p (q ∷ qs) h = (false_from_ne_true (nat_eq p q) (λ yes. let same = eqb-true p q yes in let lower = h.0 (ap (source_at all) same) in absurd (omega arith)), others-differ all p qs h.1)

places-differ : (all : List (List ℕ)) (places : List ℕ) → RiseBySource all places → IsDistinct nat_eq places
unfolding IsDistinct
places-differ all [] h = tt
places-differ all (p ∷ ps) h = (others-differ all p ps h.0, places-differ all ps h.1)

at-places : (all : List (List ℕ)) (places : List ℕ) (some : List (List ℕ)) → AreAt all places some → map Some some ≡ map (slice_get all) places
at-places all [] [] h = refl
at-places all [] (x ∷ xs) h = absurd h
at-places all (p ∷ ps) [] h = absurd h
at-places all (p ∷ ps) (x ∷ xs) h = ap₂ (λ (o : Option (List ℕ)) (os : List (Option (List ℕ))). o ∷ os) (sym h.0) (at-places all ps xs h.1)

once-at : (all : List (List ℕ)) (places : List ℕ) (some : List (List ℕ)) → RiseBySource all places → AreAt all places some → AreOnceOf some all
once-at all places some rise at = (places, places-differ all places rise, λ source. increasing-of all source places rise, at-places all places some at)

-- bodies that stand in order among what was handed out in turn
pub some-in-turn : (some handed all : List (List ℕ)) (waits : List Bool) → IsWithin some handed → AreInTurn all waits handed → AreOnceOf some all
some-in-turn some handed all waits within turn =
    let places = places-within all turn.order some handed within turn.are_at in
    once-at all places.0 some (rise-within all places.0 turn.order places.1 turn.rise) places.2

-- ---- among those that pass a test

-- how many before a place pass it
abbrev rank : (List ℕ → Bool) → List (List ℕ) → ℕ → ℕ
rank p [] k = 0
rank p (x ∷ xs) zero = 0
rank p (x ∷ xs) (suc k) = cond (p x) (suc (rank p xs k)) (rank p xs k)

rank-at : (p : List ℕ → Bool) (all : List (List ℕ)) (k : ℕ) (x : List ℕ) → slice_get all k ≡ Some x → p x ≡ true → slice_get (filter p all) (rank p all k) ≡ Some x
rank-at p [] k x at passes = absurd cc
rank-at p (y ∷ ys) zero x at passes = let here : p y ≡ true = ap p (same-some y x at) ∙ passes in rw here at
rank-at p (y ∷ ys) (suc k) x at passes = by-test (p y) (rank-at p ys k x at passes)
  where
    by-test : (b : Bool) → slice_get (filter p ys) (rank p ys k) ≡ Some x → slice_get (cond b (y ∷ filter p ys) (filter p ys)) (cond b (suc (rank p ys k)) (rank p ys k)) ≡ Some x
    by-test true later = later
    by-test false later = later

rank-lower : (p : List ℕ → Bool) (all : List (List ℕ)) (j k : ℕ) (x : List ℕ) → slice_get all j ≡ Some x → p x ≡ true → j < k → rank p all j < rank p all k
rank-lower p [] j k x at passes less = absurd cc
rank-lower p (y ∷ ys) zero zero x at passes less = absurd (omega (arith, less))
rank-lower p (y ∷ ys) zero (suc k) x at passes less = let here : p y ≡ true = ap p (same-some y x at) ∙ passes in rw here (omega arith)
rank-lower p (y ∷ ys) (suc j) zero x at passes less = absurd (omega (arith, less))
rank-lower p (y ∷ ys) (suc j) (suc k) x at passes less = both (p y) (rank p ys j) (rank p ys k) (rank-lower p ys j k x at passes (omega (arith, less)))
  where
    both : (b : Bool) (m n : ℕ) → m < n → cond b (suc m) m < cond b (suc n) n
    both true m n below = omega (arith, below)
    both false m n below = below

source-is : (all : List (List ℕ)) (k : ℕ) (x : List ℕ) → slice_get all k ≡ Some x → source_at all k ≡ slice_index x 1
source-is all k x at = ap (λ (body : List ℕ). slice_index body 1) (get_or_from_slice_get all k x [] at)

earlier-rank : (p : List ℕ → Bool) (all : List (List ℕ)) (j k : ℕ) (x y : List ℕ) → slice_get all j ≡ Some x → slice_get all k ≡ Some y → p x ≡ true → p y ≡ true → IsEarlier all j k → IsEarlier (filter p all) (rank p all j) (rank p all k)
earlier-rank p all j k x y at-x at-y of-x of-y earlier same =
    rank-lower p all j k x at-x of-x
    (earlier (source-is all j x at-x ∙ sym (source-is (filter p all) (rank p all j) x (rank-at p all j x at-x of-x)) ∙ same ∙ source-is (filter p all) (rank p all k) y (rank-at p all k y at-y of-y) ∙ sym (source-is all k y at-y)))

-- each of these bodies passes it
abbrev AllPass : (List ℕ → Bool) → List (List ℕ) → Type 0
AllPass p xs = (k : ℕ) (x : List ℕ) → slice_get xs k ≡ Some x → p x ≡ true

earlier-all-rank : (p : List ℕ → Bool) (all : List (List ℕ)) (j : ℕ) (x : List ℕ) (ps : List ℕ) (xs : List (List ℕ)) → slice_get all j ≡ Some x → p x ≡ true → AreAt all ps xs → AllPass p xs → IsEarlierThanAll all j ps → IsEarlierThanAll (filter p all) (rank p all j) (map (rank p all) ps)
earlier-all-rank p all j x [] xs at passes are each h = tt
earlier-all-rank p all j x (k ∷ ps) [] at passes are each h = absurd are
earlier-all-rank p all j x (k ∷ ps) (y ∷ xs) at passes are each h = (earlier-rank p all j k x y at are.0 passes (each 0 y refl) h.0, earlier-all-rank p all j x ps xs at passes are.1 (λ n z is. each (suc n) z is) h.1)

rise-rank : (p : List ℕ → Bool) (all : List (List ℕ)) (ps : List ℕ) (xs : List (List ℕ)) → AreAt all ps xs → AllPass p xs → RiseBySource all ps → RiseBySource (filter p all) (map (rank p all) ps)
rise-rank p all [] xs are each h = tt
rise-rank p all (k ∷ ps) [] are each h = absurd are
rise-rank p all (k ∷ ps) (y ∷ xs) are each h = (earlier-all-rank p all k y ps xs are.0 (each 0 y refl) are.1 (λ n z is. each (suc n) z is) h.0, rise-rank p all ps xs are.1 (λ n z is. each (suc n) z is) h.1)

at-rank : (p : List ℕ → Bool) (all : List (List ℕ)) (ps : List ℕ) (xs : List (List ℕ)) → AreAt all ps xs → AllPass p xs → AreAt (filter p all) (map (rank p all) ps) xs
at-rank p all [] [] are each = tt
at-rank p all [] (x ∷ xs) are each = absurd are
at-rank p all (k ∷ ps) [] are each = absurd are
at-rank p all (k ∷ ps) (x ∷ xs) are each = (rank-at p all k x are.0 (each 0 x refl), at-rank p all ps xs are.1 (λ n z is. each (suc n) z is))

-- bodies that pass it, and stand in order among what was handed out in turn
pub passing-in-turn : (p : List ℕ → Bool) (some handed all : List (List ℕ)) (waits : List Bool) → IsWithin some handed → AreInTurn all waits handed → ((k : ℕ) (x : List ℕ) → slice_get some k ≡ Some x → p x ≡ true) → AreOnceOf some (filter p all)
passing-in-turn p some handed all waits within turn each =
    let places = places-within all turn.order some handed within turn.are_at in
    let rise = rise-within all places.0 turn.order places.1 turn.rise in
    once-at (filter p all) (map (rank p all) places.0) some (rise-rank p all places.0 some places.2 each rise) (at-rank p all places.0 some places.2 each)

-- ---- one source

all-of-one : (all : List (List ℕ)) (source : ℕ) (some : List (List ℕ)) (places : List ℕ) → All (λ body. slice_index body 1 ≡ source) all → map Some some ≡ map (slice_get all) places
    → filter (is_of_source all source) places ≡ places
all-of-one all source some [] one at = refl
all-of-one all source [] (p ∷ ps) one at = absurd cc
all-of-one all source (x ∷ xs) (p ∷ ps) one at =
    let here : slice_get all p ≡ Some x = cc in
    let later : map Some xs ≡ map (slice_get all) ps = cc in
    let inside = slice_get_within all p x here in
    let body = get_or_from_slice_get all p x [] here in
    let is : is_of_source all source p ≡ true = eq-eqb (source_at all p) source (one p [] inside) in
    rw is (ap (λ (qs : List ℕ). p ∷ qs) (all-of-one all source xs ps one later))

-- where all bodies have one source, what is some of each source in order is some of all in order
pub some-of-one-source : (some all : List (List ℕ)) (source : ℕ) → All (λ body. slice_index body 1 ≡ source) all → AreOnceOf some all → AreSomeOf some all
some-of-one-source some all source one once =
    (once.0, subst IsStrictlyIncreasing (all-of-one all source some once.0 one once.3) (once.2 source), once.3)

-- numbers that rise, from one on
pub rise-of : (low : ℕ) (xs : List ℕ) → (0 < length xs → low ≤ slice_index xs 0) → IsStrictlyIncreasing xs → RiseFrom low xs
rise-of low [] first h = tt
rise-of low (x ∷ xs) first h = (first (omega arith), rise-of (suc x) xs (λ some. let next = h 0 (omega (arith, some)) in omega (arith, next)) (λ k inside. let more = h (suc k) (omega (arith, inside)) in rw add-one (rw add-one at more)))

-- so many fit below a bound
rise-room : (all : List (List ℕ)) (low : ℕ) (places : List ℕ) (some : List (List ℕ)) → RiseFrom low places → low ≤ length all → map Some some ≡ map (slice_get all) places → low + length places ≤ length all
rise-room all low [] some h below at = omega (arith, below)
rise-room all low (p ∷ ps) [] h below at = absurd cc
rise-room all low (p ∷ ps) (x ∷ xs) h below at =
    let here : slice_get all p ≡ Some x = cc in
    let later : map Some xs ≡ map (slice_get all) ps = cc in
    let inside = slice_get_within all p x here in
    let more = rise-room all (suc p) ps xs h.1 (omega (arith, inside)) later in
    omega (arith, more, h.0)

-- so where there are as many places as elements, they are those of all, one after another
all-places : (front rest : List (List ℕ)) (places : List ℕ) (some : List (List ℕ)) → RiseFrom (length front) places → map Some some ≡ map (slice_get (front ++ rest)) places → length some ≡ length rest → some ≡ rest
all-places front [] places [] h at count = refl
all-places front [] places (x ∷ xs) h at count = absurd (omega (arith, count))
all-places front (y ∷ ys) places [] h at count = absurd (omega (arith, count))
all-places front (y ∷ ys) [] (x ∷ xs) h at count = absurd cc
all-places front (y ∷ ys) (p ∷ ps) (x ∷ xs) h at count =
    let here : slice_get (front ++ y ∷ ys) p ≡ Some x = cc in
    let later : map Some xs ≡ map (slice_get (front ++ y ∷ ys)) ps = cc in
    let inside = slice_get_within (front ++ y ∷ ys) p x here in
    let room = rise-room (front ++ y ∷ ys) (suc p) ps xs h.1 (omega (arith, inside)) later in
    let size = length-append front (y ∷ ys) in
    let as-many = sym (length-map ps (slice_get (front ++ y ∷ ys))) ∙ ap length (sym later) ∙ length-map xs Some in
    let place : p ≡ length front = omega (arith, room, size, as-many, count, h.0) in
    let first : x ≡ y = same-some x y (sym here ∙ ap (slice_get (front ++ y ∷ ys)) place ∙ get-seam front y ys) in
    let same : front ++ y ∷ ys ≡ (front ++ y ∷ []) ++ ys = sym (append_assoc front (y ∷ []) ys) in
    let one = length-append front (y ∷ []) in
    let rest = all-places (front ++ y ∷ []) ys ps xs (rise-lower (length (front ++ y ∷ [])) (suc p) ps (omega (arith, one, place)) h.1) (later ∙ ap (λ (all : List (List ℕ)). map (slice_get all) ps) same) (omega (arith, count)) in
    ap₂ (λ (b : List ℕ) (bs : List (List ℕ)). b ∷ bs) first rest

-- what is all of one source in order is the list itself
pub all-of-one-source : (some all : List (List ℕ)) (source : ℕ) → All (λ body. slice_index body 1 ≡ source) all → AreAllOf some all → some ≡ all
all-of-one-source some all source one whole =
    let places = some-of-one-source some all source one whole.0 in
    all-places [] all places.0 some (rise-of 0 places.0 (λ some. omega arith) places.1) places.2 whole.1

-- ---- commands

pub are-apart : (tns : ℕ) (issued : List Issued) → length issued ≤ 65535 → AreNumbered tns 0 issued → AreApart (map (λ c. c.body) issued)
are-apart tns issued few numbered p q body at-p at-q =
    let c = from-map (λ (x : Issued). x.body) issued p body at-p in
    let d = from-map (λ (x : Issued). x.body) issued q body at-q in
    let inside_p = slice_get_within issued p c.0 c.1 in
    let inside_q = slice_get_within issued q d.0 d.1 in
    let number_p = (numbered-at tns 0 issued p c.0 numbered c.1).0 in
    let number_q = (numbered-at tns 0 issued q d.0 numbered d.1).0 in
    let same : 0 + p ≡ 0 + q = numbered-apart tns (0 + p) (0 + q) (omega (arith, inside_p)) (omega (arith, inside_q)) (sym number_p ∙ ap tns_of (c.2 ∙ sym d.2) ∙ number_q) in
    omega (arith, same)
