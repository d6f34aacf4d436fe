-- The orders of a transfer: a run of words from the beginning of a data file, 100 at a time.
use Rattle.std.specs.Prelude.{ℕ, zero, suc, ◌+◌, ◌-◌, ◌*◌, ◌/◌, ◌%◌, Bool, ◌&&◌, List, [], ◌∷◌, ◌++◌, length, take, drop, min, nat_le}
use Rattle.logical_address.specs.declared.levels.Levels.{Levels}
use Rattle.logical_address.specs.Shortest.{shortest_levels}

-- how many orders a transfer of so many words has: one for each 100, and one for what is left
abbrev pub orders_of : ℕ → ℕ
orders_of words = (words + 99) / 100

-- orders are counted from 1
abbrev pub is_order : ℕ → ℕ → Bool
is_order words j = nat_le 1 j && nat_le j (orders_of words)

-- the first word of an order, counted from 0
abbrev pub first_word : ℕ → ℕ
first_word j = 100 * (j - 1)

-- how many words an order of a transfer moves: 100, or what is left
abbrev pub words_of_order : ℕ → ℕ → ℕ
words_of_order words j = min (words - first_word j) 100

-- a number in two bytes, low first
abbrev pub two_bytes : ℕ → List ℕ
two_bytes n = n % 256 ∷ n / 256 ∷ []

-- the address of the beginning of a file
abbrev pub start_of : ℕ → Levels
start_of file = record { area = 0; file = file; element = 0; sub = 0 }

-- the offset and the total of an order, and the address
abbrev pub place_bytes : ℕ → ℕ → ℕ → List ℕ
place_bytes file words j = two_bytes (first_word j) ++ two_bytes words ++ shortest_levels (start_of file)

-- the order that reads: CMD, FNC, offset, total, address, and how many bytes
abbrev pub pull_payload : ℕ → ℕ → ℕ → List ℕ
pull_payload file words j = 0x0F ∷ 0x01 ∷ place_bytes file words j ++ (2 * words_of_order words j) ∷ []

-- the data of an order that writes: its words of all of them
abbrev pub data_of_order : List ℕ → ℕ → List ℕ
data_of_order bytes j = take (2 * words_of_order (length bytes / 2) j) (drop (2 * first_word j) bytes)

-- the data of the first so many orders, joined
abbrev pub data_of_orders : List ℕ → ℕ → List ℕ
data_of_orders bytes zero = []
data_of_orders bytes (suc n) = data_of_orders bytes n ++ data_of_order bytes (suc n)

-- the order that writes: CMD, FNC, offset, total, address, and the data
abbrev pub push_payload : ℕ → List ℕ → ℕ → List ℕ
push_payload file bytes j = 0x0F ∷ 0x00 ∷ place_bytes file (length bytes / 2) j ++ data_of_order bytes j

-- the first so many orders of a transfer, in order
abbrev pub all_orders : (ℕ → List ℕ) → ℕ → List (List ℕ)
all_orders order zero = []
all_orders order (suc n) = all_orders order n ++ order (suc n) ∷ []
