-- Stations, by their numbers and places.
use Rattle.std.proofs.Common.{◌≡◌, ℕ, ◌+◌, ◌-◌, ◌<◌, ◌≤◌, Bool, true, false, cond, not, eqb, ltb, List, [], ◌∷◌, ◌++◌, length, get_or, set, take, Option, Some, None, is_some, refl, sym, ap, ◌∙◌, ◌||◌, inl, inr, arith, length-append}
use Rattle.std.specs.Prelude.{option_map, option_and_then}
use Rattle.std.specs.List.{position, position_or_len, slice_get}
use Rattle.std.specs.Option.{option_map_or, option_or, unwrap_or}
use Rattle.std.specs.Ordering.{nat_cmp}
use Rattle.std.specs.Cmp.{unsigned_tied}
use Rattle.std.specs.BTreeMap.{BTreeMap, Updates, is_at}
use Rattle.std.proofs.Math.Seq.{map-set_same, take-append_seam}
use Rattle.std.proofs.lemmas.Bool.{cases_lt, eqb-true, eq-eqb, le-ltb, lt-ltb, ne_eqb}
use Rattle.std.proofs.lemmas.List.Folds.{find_at, position_or_len_push}
use Rattle.std.proofs.lemmas.List.Sums.{prefix_len-le-length}
use Rattle.std.proofs.lemmas.Option.{slice_get-get_or, slice_get_past, slice_get_within, unwrap_or-slice_get}
use Rattle.script_parts.specs.HalfPlayable.{is_declared}
use Rattle.half_script.specs.declared.stations.StationDraft.{StationDraft}
use Rattle.half_script.specs.Stations.{ArePlaces, declared, fresh_station, has_number, numbers_in, station_at}

abbrev place_or_all : ℕ → List StationDraft → ℕ
place_or_all n stations = position_or_len (has_number n) stations

-- ---- a number that is declared

-- a station is found where its number is declared
pub is_found : (n : ℕ) (stations : List StationDraft) → is_some (station_at stations n) ≡ is_declared (numbers_in stations) n
is_found n [] = refl
is_found n (s ∷ stations) =
    elim (eqb s.number n) as (λ b. is_some (cond b (Some s) (station_at stations n)) ≡ (b || is_declared (numbers_in stations) n)) [
      | true ↦ refl
      | false ↦ is_found n stations
    ]

-- which has that number
pub numbered : (n : ℕ) (stations : List StationDraft) → option_map (λ (s : StationDraft). s.number) (station_at stations n) ≡ declared (numbers_in stations) n
numbered n [] = refl
numbered n (s ∷ stations) =
    elim (eqb s.number n) as (λ b. eqb s.number n ≡ b → option_map (λ (x : StationDraft). x.number) (cond b (Some s) (station_at stations n)) ≡ cond (b || is_declared (numbers_in stations) n) (Some n) None) [
      | true ↦ λ is. ap Some (eqb-true s.number n is)
      | false ↦ λ is. numbered n stations
    ] refl

-- ---- the place of a number

got : (stations : List StationDraft) (k : ℕ) → is_some (slice_get stations k) ≡ ltb k (length stations)
got stations k = elim (cases_lt k (length stations)) [
  | inl lt ↦ rw (slice_get-get_or stations k (fresh_station 0) lt, lt-ltb k (length stations) lt) refl
  | inr le ↦ rw (slice_get_past stations k le, le-ltb k (length stations) le) refl
]

some_if : (b : Bool) (n : ℕ) → is_some (cond b (Some n) None) ≡ b
some_if true n = refl
some_if false n = refl

pub is_placed : (n : ℕ) (stations : List StationDraft) → is_some (position (has_number n) stations) ≡ is_declared (numbers_in stations) n
is_placed n stations =
    some_if (ltb (place_or_all n stations) (length stations)) (place_or_all n stations)
    ∙ sym (got stations (place_or_all n stations)) ∙ ap is_some (sym (find_at (has_number n) stations)) ∙ is_found n stations

pub found_there : (n : ℕ) (stations : List StationDraft) → station_at stations n ≡ option_and_then (slice_get stations) (position (has_number n) stations)
found_there n stations = find_at (has_number n) stations ∙ elim (cases_lt (place_or_all n stations) (length stations)) [
  | inl lt ↦ rw (lt-ltb (place_or_all n stations) (length stations) lt) refl
  | inr le ↦ rw (le-ltb (place_or_all n stations) (length stations) le, slice_get_past stations (place_or_all n stations) le) refl
]

some_place : (b : Bool) (at place : ℕ) → cond b (Some at) None ≡ Some place → (b ≡ true) × (at ≡ place)
some_place true at place is = (refl, cc)
some_place false at place is = cc

-- a place is one of the list's
pub place_is : (n place : ℕ) (stations : List StationDraft) → position (has_number n) stations ≡ Some place → (place_or_all n stations ≡ place) × (place < length stations)
place_is n place stations is =
    let parts = some_place (ltb (place_or_all n stations) (length stations)) (place_or_all n stations) place is in
    elim (cases_lt (place_or_all n stations) (length stations)) [
      | inl lt ↦ (parts.1, let same = parts.1 in omega (arith, same, lt))
      | inr le ↦ let no : ltb (place_or_all n stations) (length stations) ≡ false = le-ltb (place_or_all n stations) (length stations) le in let yes : ltb (place_or_all n stations) (length stations) ≡ true = parts.0 in cc
    ]

pub there : (n place : ℕ) (stations : List StationDraft) (d : StationDraft) → position (has_number n) stations ≡ Some place → station_at stations n ≡ Some (get_or stations place d)
there n place stations d is =
    found_there n stations ∙ ap (option_and_then (slice_get stations)) is ∙ slice_get-get_or stations place d (place_is n place stations is).1

-- ---- one station more

or_None : {A : Type 0} (a : Option A) → option_or a None ≡ a
or_None None = refl
or_None (Some x) = refl

push_place : (n : ℕ) (stations : List StationDraft) (s : StationDraft) → position (has_number n) (stations ++ s ∷ []) ≡ option_or (position (has_number n) stations) (cond (eqb s.number n) (Some (length stations)) None)
push_place n stations s =
    let at = place_or_all n stations in
    let size = length stations in
    let all : length (stations ++ s ∷ []) ≡ size + 1 = length-append stations (s ∷ []) in
    let most : at ≤ size = prefix_len-le-length (λ (x : StationDraft). not (has_number n x)) stations in
    rw (position_or_len_push (has_number n) stations s, all)
    (elim (cases_lt at size) [
      | inl lt ↦
          let other : eqb at size ≡ false = ne_eqb at size (λ e. omega (arith, e)) in
          let within : ltb at (size + 1) ≡ true = lt-ltb at (size + 1) (omega arith) in
          rw (other, within, lt-ltb at size lt) refl
      | inr le ↦
          let same : eqb at size ≡ true = eq-eqb at size (omega arith) in
          rw (same, le-ltb at size le)
          (elim (eqb s.number n) as (λ b. cond (ltb (size + cond b 0 1) (size + 1)) (Some (size + cond b 0 1)) None ≡ cond b (Some size) None) [
            | true ↦ let within : ltb (size + 0) (size + 1) ≡ true = lt-ltb (size + 0) (size + 1) (omega arith) in let here : size + 0 ≡ size = omega arith in rw within (ap Some here)
            | false ↦ let past : ltb (size + 1) (size + 1) ≡ false = le-ltb (size + 1) (size + 1) (omega arith) in rw past refl
          ])
    ])

first_or : (o : Option ℕ) (s : ℕ) → Some (unwrap_or o s) ≡ option_or o (Some s)
first_or None s = refl
first_or (Some x) s = refl

one_more : (b : Bool) (size first : ℕ) (o : Option ℕ) → (b ≡ true → first ≡ unwrap_or o size) → cond b (Some first) o ≡ option_or o (cond b (Some size) None)
one_more true size first o is = ap Some (is refl) ∙ first_or o size
one_more false size first o is = sym (or_None o)

pub places_with : (m new : BTreeMap ℕ ℕ) (stations : List StationDraft) (s : StationDraft) (place : ℕ) → length stations < 32 → ArePlaces m stations → Updates nat_cmp m new s.number (Some place) → place ≡ unwrap_or (position (has_number s.number) stations) (length stations) → ArePlaces new (stations ++ s ∷ [])
places_with m new stations s place room are h is = record {
  same = λ n.
      h.0 n
      ∙ ap (cond (is_at (nat_cmp s.number) n) (Some place)) (are.same n)
      ∙ ap (λ b. cond b (Some place) (position (has_number n) stations)) (unsigned_tied s.number n)
      ∙ one_more (eqb s.number n) (length stations) place (position (has_number n) stations) (λ same. is ∙ ap (λ k. unwrap_or (position (has_number k) stations) (length stations)) (eqb-true s.number n same))
      ∙ sym (push_place n stations s);
  at_most = let size = length-append stations (s ∷ []) in omega (arith, size);
}

-- ---- one station changed

pub same_numbers : (stations : List StationDraft) (place : ℕ) (s d : StationDraft) → s.number ≡ (get_or stations place d).number → numbers_in (set stations place s) ≡ numbers_in stations
same_numbers stations place s d number = map-set_same (λ (x : StationDraft). x.number) stations place s d number

-- a station that is found is one of the list's
pub found_in : (n : ℕ) (stations : List StationDraft) (s : StationDraft) → station_at stations n ≡ Some s → (place_or_all n stations < length stations) × (get_or stations (place_or_all n stations) s ≡ s)
found_in n stations s is =
    let at : slice_get stations (place_or_all n stations) ≡ Some s = sym (find_at (has_number n) stations) ∙ is in
    (slice_get_within stations (place_or_all n stations) s at, sym (unwrap_or-slice_get stations (place_or_all n stations) s) ∙ ap (λ o. unwrap_or o s) at)

-- the stations with the first of a number changed, if there is one
abbrev pub with_change : (StationDraft → StationDraft) → List StationDraft → ℕ → Option StationDraft → List StationDraft
with_change f stations n o = option_map_or (λ s. set stations (position_or_len (has_number n) stations) (f s)) o stations

pub changed_there : (f : StationDraft → StationDraft) (stations : List StationDraft) (n place : ℕ) (now next : StationDraft) → Some place ≡ position (has_number n) stations → now ≡ get_or stations place now → next ≡ f now
    → set stations place next ≡ with_change f stations n (station_at stations n)
changed_there f stations n place now next is at taken =
    let found : station_at stations n ≡ Some now = there n place stations now (sym is) ∙ ap Some (sym at) in
    let here : place_or_all n stations ≡ place = (place_is n place stations (sym is)).0 in
    rw (found, here, taken) refl

-- ---- a station that is put back

pub same_entries : (m new : BTreeMap ℕ ℕ) (stations : List StationDraft) → new.entries ≡ m.entries → ArePlaces m stations → ArePlaces new stations
same_entries m new stations e are = record { same = λ n. rw e (are.same n); at_most = are.at_most }

pub popped : (old items : List StationDraft) (s : StationDraft) (n : ℕ) → items ≡ old ++ s ∷ [] → n ≡ length items → take (n - 1) items ≡ old
popped old items s n is size =
    let all : length items ≡ length old + 1 = ap length is ∙ length-append old (s ∷ []) in
    let front : n - 1 ≡ length old = omega (arith, size, all) in
    rw (front, is) (take-append_seam old (s ∷ []))

-- ---- a station that is read

pub some_map : {A B : Type 0} (f : A → B) (o : Option A) → is_some (option_map f o) ≡ is_some o
some_map f None = refl
some_map f (Some x) = refl

pub read_there : (stations : List StationDraft) (n place : ℕ) (o : Option StationDraft) → Some place ≡ position (has_number n) stations → is_some o ≡ ltb place (length stations) → ((d : StationDraft) → unwrap_or o d ≡ get_or stations place d) → o ≡ station_at stations n
read_there stations n place None is some at =
    let within : ltb place (length stations) ≡ true = lt-ltb place (length stations) (place_is n place stations (sym is)).1 in
    let no : false ≡ ltb place (length stations) = some in cc
read_there stations n place (Some s) is some at = ap Some (at s) ∙ sym (there n place stations s (sym is))
