-- The orders of a transfer as a station reads them, and the data of all of them.
use Rattle.std.proofs.Common.{◌≡◌, ℕ, zero, suc, ◌+◌, ◌-◌, ◌*◌, ◌/◌, ◌%◌, ◌<◌, ◌≤◌, Bool, true, List, [], ◌∷◌, ◌++◌, length, take, drop, min, refl, sym, ap, ap₂, ◌∙◌, arith, Result, Ok}
use Rattle.std.specs.Prelude.{IsTrue, nat_le, ◌&&◌, not, ◌==◌}
use Rattle.std.proofs.lemmas.Bool.{and_parts}
use Rattle.std.proofs.lemmas.Bool.Decides.{nat_tests}
use Rattle.std.proofs.lemmas.List.{take_min, take_all, take-append-drop, drop-take, length-take, length-drop}
use Rattle.df1_base.specs.declared.code.Code.{Code}
use Rattle.logical_address.specs.declared.levels.Levels.{Levels}
use Rattle.logical_address.specs.Shortest.{shortest_levels}
use Rattle.logical_address.proofs.Addresses.{levels_read_back}
use Rattle.plc_commands.specs.Order.{Order, RangeRead, RangeWrite, window}
use Rattle.plc_commands.specs.Fields.{◌>>=◌, levels, after_levels, last_byte, words, only_if}
use Rattle.plc_commands.specs.Reading.{order_of, range_read, range_write}
use Rattle.bulk_orders.specs.Orders.{data_of_order, data_of_orders, first_word, is_order, orders_of, pull_payload, push_payload, start_of, words_of_order}

two-back : (n : ℕ) → n % 256 + 256 * (n / 256) ≡ n
two-back n = omega arith

drop-front : {A : Type 0} (front rest : List A) → drop (length front) (front ++ rest) ≡ rest
drop-front [] rest = refl
drop-front (x ∷ front) rest = drop-front front rest

-- the address in front of the rest
levels-front : (at : Levels) (rest : List ℕ) → levels (shortest_levels at ++ rest) ≡ Ok (at, rest)
levels-front at rest =
    ap (after_levels (shortest_levels at ++ rest)) (levels_read_back at rest)
    ∙ ap (λ (left : List ℕ). let found : Result (Levels × List ℕ) Code = Ok (at, left) in found) (drop-front (shortest_levels at) rest)

-- an order that reads, behind its offset and its total
abbrev read-at : ℕ → ℕ → Result (Levels × List ℕ) Code → Result Order Code
read-at offset total found = found >>= (λ at. last_byte at.1 >>= (λ size. Ok (RangeRead (window offset total at.0) size)))

pub reads : (file total j : ℕ) → order_of 0x0F (drop 1 (pull_payload file total j)) ≡ Ok (RangeRead (window (first_word j) total (start_of file)) (2 * words_of_order total j))
unfolding range_read
reads file total j =
    let size : ℕ = 2 * words_of_order total j in
    ap (read-at (first_word j % 256 + 256 * (first_word j / 256)) (total % 256 + 256 * (total / 256))) (levels-front (start_of file) (size ∷ []))
    ∙ ap₂ (λ (o t : ℕ). let order : Result Order Code = Ok (RangeRead (window o t (start_of file)) size) in order) (two-back (first_word j)) (two-back total)

-- an order that writes, behind its offset and its total
abbrev write-at : ℕ → ℕ → Result (Levels × List ℕ) Code → Result Order Code
write-at offset total found = found >>= (λ at. words at.1 >>= (λ bytes. Ok (RangeWrite (window offset total at.0) bytes)))

-- data of whole words, and at least one
whole-words : (bytes : List ℕ) (n : ℕ) → length bytes ≡ 2 * n → 1 ≤ n → words bytes ≡ Ok bytes
whole-words bytes n size some =
    let test : (not (length bytes == 0) && (length bytes % 2 == 0)) ≡ true = rw size (even n some) in
    ap (λ (b : Bool). only_if b bytes) test
  where
    even : (n : ℕ) → 1 ≤ n → (not (2 * n == 0) && (2 * n % 2 == 0)) ≡ true
    even n some = grind (arith, nat_tests)

-- how many bytes an order that writes has
pub data-size : (bytes : List ℕ) (j : ℕ) → length bytes ≡ 2 * (length bytes / 2) → IsTrue (is_order (length bytes / 2) j) → (length (data_of_order bytes j) ≡ 2 * words_of_order (length bytes / 2) j) × (1 ≤ words_of_order (length bytes / 2) j)
data-size bytes j whole is =
    let parts = and_parts (nat_le 1 j) (nat_le j (orders_of (length bytes / 2))) is in
    let some : 1 ≤ j = grind (arith, nat_tests, parts.0) in
    let within : j ≤ orders_of (length bytes / 2) = grind (arith, nat_tests, parts.1) in
    let below : 100 * (j - 1) < length bytes / 2 = omega (arith, some, within) in
    let left : length (drop (2 * first_word j) bytes) ≡ length bytes - 2 * first_word j = length-drop (2 * first_word j) bytes in
    (length-take (2 * words_of_order (length bytes / 2) j) (drop (2 * first_word j) bytes) ∙ (let same : min (2 * words_of_order (length bytes / 2) j) (length (drop (2 * first_word j) bytes)) ≡ 2 * words_of_order (length bytes / 2) j = omega (arith, left, whole, below) in same), omega (arith, below))

pub writes : (file : ℕ) (bytes : List ℕ) (j : ℕ) → length bytes ≡ 2 * (length bytes / 2) → IsTrue (is_order (length bytes / 2) j) →
    order_of 0x0F (drop 1 (push_payload file bytes j)) ≡ Ok (RangeWrite (window (first_word j) (length bytes / 2) (start_of file)) (data_of_order bytes j))
unfolding range_write
writes file bytes j whole is =
    let total : ℕ = length bytes / 2 in
    let given : List ℕ = data_of_order bytes j in
    let size = data-size bytes j whole is in
    ap (write-at (first_word j % 256 + 256 * (first_word j / 256)) (total % 256 + 256 * (total / 256))) (levels-front (start_of file) given)
    ∙ ap (λ (read : Result (List ℕ) Code). read >>= (λ bytes. let order : Result Order Code = Ok (RangeWrite (window (first_word j % 256 + 256 * (first_word j / 256)) (total % 256 + 256 * (total / 256)) (start_of file)) bytes) in order)) (whole-words given (words_of_order total j) size.0 size.1)
    ∙ ap₂ (λ (o t : ℕ). let order : Result Order Code = Ok (RangeWrite (window o t (start_of file)) given) in order) (two-back (first_word j)) (two-back total)

-- ---- all of the data

-- an order has the next 200 bytes, or what is left
of-order : (bytes : List ℕ) (n : ℕ) → length bytes ≡ 2 * (length bytes / 2) → data_of_order bytes (suc n) ≡ take 200 (drop (200 * n) bytes)
of-order bytes n whole =
    let at : 2 * first_word (suc n) ≡ 200 * n = omega arith in
    let left : length (drop (200 * n) bytes) ≡ length bytes - 200 * n = length-drop (200 * n) bytes in
    let size : 2 * words_of_order (length bytes / 2) (suc n) ≡ min 200 (length (drop (200 * n) bytes)) = omega (arith, left, whole) in
    ap₂ (λ (k m : ℕ). take k (drop m bytes)) size at ∙ take_min 200 (drop (200 * n) bytes)

take-less : (a b : ℕ) (l : List ℕ) → take a (take (a + b) l) ≡ take a l
take-less zero b l = refl
take-less (suc a) b [] = ap (λ (n : ℕ). take (suc a) (take n [])) (let more : suc a + b ≡ suc (a + b) = omega arith in more)
take-less (suc a) b (x ∷ l) = ap (λ (n : ℕ). take (suc a) (take n (x ∷ l))) (let more : suc a + b ≡ suc (a + b) = omega arith in more) ∙ ap (λ (xs : List ℕ). x ∷ xs) (take-less a b l)

take-parts : (a b : ℕ) (l : List ℕ) → take (a + b) l ≡ take a l ++ take b (drop a l)
take-parts a b l = sym (take-append-drop a (take (a + b) l)) ∙ ap₂ (λ (xs ys : List ℕ). xs ++ ys) (take-less a b l) (drop-take a b l)

first-orders : (bytes : List ℕ) (n : ℕ) → length bytes ≡ 2 * (length bytes / 2) → data_of_orders bytes n ≡ take (200 * n) bytes
first-orders bytes zero whole = refl
first-orders bytes (suc n) whole =
    ap₂ (λ (xs ys : List ℕ). xs ++ ys) (first-orders bytes n whole) (of-order bytes n whole)
    ∙ sym (take-parts (200 * n) 200 bytes)
    ∙ ap (λ (k : ℕ). take k bytes) (let more : 200 * n + 200 ≡ 200 * suc n = omega arith in more)

pub all-data : (bytes : List ℕ) → length bytes ≡ 2 * (length bytes / 2) → data_of_orders bytes (orders_of (length bytes / 2)) ≡ bytes
all-data bytes whole = first-orders bytes (orders_of (length bytes / 2)) whole ∙ take_all (200 * orders_of (length bytes / 2)) bytes (omega (arith, whole))
