-- Some elements of a list, each once, and those of each source in order.
use Rattle.std.specs.Prelude.{◌≡◌, ℕ, Bool, List, length, map, filter, slice_get, slice_index, slice_index_or, nat_eq, ◌==◌, Some, []}
use Rattle.std.specs.List.{IsDistinct}
use Rattle.std.specs.List.Sorted.{IsStrictlyIncreasing}

-- the body at a place is of this source: SRC, its second byte
abbrev pub is_of_source : List (List ℕ) → ℕ → ℕ → Bool
is_of_source all source place = slice_index (slice_index_or all place []) 1 == source

-- some elements of a list, at different places, of which those of each source rise
abbrev pub AreOnceOf : List (List ℕ) → List (List ℕ) → Type 0
AreOnceOf some all =
    (places : List ℕ) × IsDistinct nat_eq places × ((source : ℕ) → IsStrictlyIncreasing (filter (is_of_source all source) places)) × (map Some some ≡ map (slice_get all) places)

-- all elements of a list, each once, those of each source in order
abbrev pub AreAllOf : List (List ℕ) → List (List ℕ) → Type 0
AreAllOf some all = AreOnceOf some all × (length some ≡ length all)
