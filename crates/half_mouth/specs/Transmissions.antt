-- The messages of the transmissions of an end, one after another, and the bytes that it gave.
use Rattle.std.specs.Prelude.{ℕ, zero, suc, ◌-◌, ◌^◌, Bool, false, is_some, List, [], ◌∷◌, ◌++◌, length, map, min, Option, Some, None, option_to_list, slice_get, unwrap_or}
use Rattle.std.specs.List.{filter_map, last_or}
use Rattle.df1_base.specs.declared.link.Out.{Out}

-- the bytes that were given
abbrev pub bytes_given : List Out → List ℕ
bytes_given outs = map {A = Out} (λ out. out.byte) outs

-- the byte is the last of a transmission
abbrev pub ends_here : Option Out → Bool
ends_here None = false
ends_here (Some out) = is_some out.last_of

-- the numbers of the transmissions whose last bytes were given, in order
abbrev pub numbers_ended : List Out → List ℕ
numbers_ended outs = filter_map {X = Out} (λ out. out.last_of) outs

-- 1, 2, 3 and so on up to this one
abbrev pub counted_to : ℕ → List ℕ
counted_to zero = []
counted_to (suc n) = counted_to n ++ suc n ∷ []

-- the last of the bodies, empty where there is none
abbrev pub last_body : List (List ℕ) → List ℕ
last_body bodies = unwrap_or (last_or None bodies) []

-- the last once more
abbrev pub with_again : List (List ℕ) → List (List ℕ)
with_again bodies = bodies ++ option_to_list (last_or None bodies)

-- how many there are, of a count that stops at the last value of u64
abbrev pub count_of : List (List ℕ) → ℕ
count_of bodies = min (length bodies) (2 ^ 64 - 1)

-- the body of transmission n, counted from 1
abbrev pub transmission_at : List (List ℕ) → ℕ → Option (List ℕ)
transmission_at bodies zero = None
transmission_at bodies (suc place) = slice_get bodies place
