-- The words that a masked write makes. Words are numbers below 65536.
use Rattle.std.specs.Prelude.{ℕ, ◌-◌, List, [], ◌∷◌, bit_and, bit_or}

-- (old and not mask) or (new and mask)
abbrev pub masked_word : ℕ → ℕ → ℕ → ℕ
masked_word mask old new = bit_or (bit_and old (65535 - mask)) (bit_and new mask)

-- the same of each word
abbrev pub masked : ℕ → List ℕ → List ℕ → List ℕ
masked mask [] news = []
masked mask (old ∷ olds) [] = []
masked mask (old ∷ olds) (new ∷ news) = masked_word mask old new ∷ masked mask olds news
