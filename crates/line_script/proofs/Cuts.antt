-- A list that is cut at each element that passes a test: by its first cut.
use Rattle.std.proofs.Common.{◌≡◌, ℕ, ◌+◌, ◌-◌, ◌<◌, Bool, true, false, List, [], ◌∷◌, length, take, drop, Some, None, cond, refl, sym, ap, ◌∙◌, subst, arith, inl, inr}
use Rattle.std.specs.List.{slice_split, onto_first, position, position_or_len}
use Rattle.std.proofs.lemmas.Bool.{cases_lt, lt-ltb}
use Rattle.std.proofs.lemmas.List.{take_rest}
use Rattle.std.proofs.lemmas.List.Quantifiers.{position-Some}
use Rattle.std.proofs.lemmas.List.Splits.{slice_split_first, slice_split_none}
use Rattle.std.proofs.lemmas.List.Sums.{position_or_len_is, fails_before_first}

pub split-at : (p : ℕ → Bool) (xs : List ℕ) (i : ℕ) → position p xs ≡ Some i → (i < length xs) × (slice_split p xs ≡ take i xs ∷ slice_split p (take (length xs - (i + 1)) (drop (i + 1) xs)))
split-at p xs i found =
    let at = position-Some p xs i 0 found in
    let lt : i < length xs = at.0 in
    let is : position_or_len p xs ≡ i = position_or_len_is p xs i 0 (omega arith) at.2 (λ _. at.1) in
    let first = slice_split_first p xs 0 (rw is lt) in
    let P : ℕ → Type 0 = λ k. slice_split p xs ≡ take k xs ∷ slice_split p (drop (k + 1) xs) in
    (lt, rw (take_rest xs (i + 1)) (subst P is first))

pub split-none : (p : ℕ → Bool) (xs : List ℕ) → position p xs ≡ None → slice_split p xs ≡ xs ∷ []
split-none p xs none = elim (cases_lt (position_or_len p xs) (length xs)) [
  | inl lt ↦ let some : position p xs ≡ Some (position_or_len p xs) = rw (lt-ltb (position_or_len p xs) (length xs) lt) refl in let no : Some (position_or_len p xs) ≡ None = sym some ∙ none in cc
  | inr le ↦ slice_split_none p xs (λ k d lt. fails_before_first p xs k d (omega arith))
]

-- there is a first part
pub split-first : (p : ℕ → Bool) (xs : List ℕ) → (part : List ℕ) × (parts : List (List ℕ)) × (slice_split p xs ≡ part ∷ parts)
split-first p [] = ([], [], refl)
split-first p (x ∷ xs) =
    let rest = split-first p xs in
    elim (p x) as (λ b. (part : List ℕ) × (parts : List (List ℕ)) × (cond b ([] ∷ slice_split p xs) (onto_first x (slice_split p xs)) ≡ part ∷ parts)) [
      | true ↦ ([], slice_split p xs, refl)
      | false ↦ (x ∷ rest.0, rest.1, ap (onto_first x) rest.2)
    ]
