-- Values in data, which has at most 244 bytes.
use Rattle.std.specs.Prelude.{ℕ, ◌+◌, ◌*◌, ◌/◌, ◌%◌, ◌^◌, Bool, ◌&&◌, ◌==◌, nat_le, List, [], ◌∷◌, length}

-- whole words
abbrev pub are_words : List ℕ → Bool
are_words bytes = (length bytes % 2 == 0) && nat_le (length bytes) 244

-- whole floats
abbrev pub are_floats : List ℕ → Bool
are_floats bytes = (length bytes % 4 == 0) && nat_le (length bytes) 244

-- the bits of floats: four bytes each, low first
abbrev pub floats_of : List ℕ → List ℕ
floats_of [] = []
floats_of (a ∷ []) = []
floats_of (a ∷ b ∷ []) = []
floats_of (a ∷ b ∷ c ∷ []) = []
floats_of (a ∷ b ∷ c ∷ d ∷ bytes) = (a + 2 ^ 8 * b + 2 ^ 16 * c + 2 ^ 24 * d) ∷ floats_of bytes

-- the words of a float, the low one first
abbrev pub float_words : ℕ → List ℕ
float_words bits = bits % 2 ^ 16 ∷ bits / 2 ^ 16 ∷ []
