-- Words that a masked write makes, one after the other.
use Rattle.std.proofs.Common.{◌≡◌, ℕ, zero, suc, ◌+◌, ◌-◌, ◌*◌, ◌/◌, ◌%◌, ◌<◌, ◌≤◌, List, [], ◌∷◌, ◌++◌, length, get_or, drop, bit_and, bit_or, refl, sym, ap, ◌∙◌, append_assoc, arith}
use Rattle.std.specs.Int.Bits.{and_zero_r, or_zero_l}
use Rattle.std.proofs.Math.Seq.{drop-cons}
use Rattle.std.proofs.lemmas.Nat.{and_mask}
use Rattle.std.proofs.lemmas.List.Concat.{flat_map-cons}
use Rattle.data_files.specs.WordBytes.{bytes_of, words_of}
use Rattle.slc_commands.specs.Words.{masked_word, masked}

-- ---- masks

all_bits_word : (old new : ℕ) → new < 65536 → masked_word 65535 old new ≡ new
all_bits_word old new fits =
    let none : bit_and old (65535 - 65535) ≡ 0 = and_zero_r old in
    let all : bit_and new 65535 ≡ new % 65536 = and_mask new 16 in
    let same : new % 65536 ≡ new = omega arith in
    ap (λ n. bit_or n (bit_and new 65535)) none ∙ or_zero_l (bit_and new 65535) ∙ all ∙ same

pub all_bits : (old new : List ℕ) → length old ≡ length new → ((k d : ℕ) → k < length new → get_or new k d < 65536) → masked 65535 old new ≡ new
all_bits [] [] same fit = refl
all_bits [] (n ∷ new) same fit = absurd (omega arith)
all_bits (o ∷ old) [] same fit = absurd (omega arith)
all_bits (o ∷ old) (n ∷ new) same fit =
    let cons : ℕ → List ℕ → List ℕ = λ w ws. w ∷ ws in
    let tail : length old ≡ length new = omega arith in
    ap (λ w. cons w (masked 65535 old new)) (all_bits_word o n (fit 0 0 (omega arith))) ∙ ap (cons n) (all_bits old new tail (λ k d lt. fit (suc k) d (omega arith)))

pub length-masked : (mask : ℕ) (old new : List ℕ) → length old ≤ length new → length (masked mask old new) ≡ length old
length-masked mask [] new le = refl
length-masked mask (o ∷ old) [] le = absurd (omega arith)
length-masked mask (o ∷ old) (n ∷ new) le = let tail : length old ≤ length new = omega arith in let rest = length-masked mask old new tail in omega arith

pub masked_step : (mask : ℕ) (old bytes : List ℕ) (i : ℕ) (front whole : List ℕ) → i < length old → length bytes ≡ 2 * length old → front ++ masked mask (drop i old) (words_of (drop (2 * i) bytes)) ≡ whole
    → (front ++ masked_word mask (get_or old i 0) (get_or bytes (2 * i) 0 + 256 * get_or bytes (2 * i + 1) 0) ∷ []) ++ masked mask (drop (i + 1) old) (words_of (drop (2 * (i + 1)) bytes)) ≡ whole
masked_step mask old bytes i front whole lt size so_far =
    let low = get_or bytes (2 * i) 0 in
    let high = get_or bytes (suc (2 * i)) 0 in
    let first : 2 * i < length bytes = omega arith in
    let second : suc (2 * i) < length bytes = omega arith in
    let after : 2 * (i + 1) ≡ suc (suc (2 * i)) = omega arith in
    let next : i + 1 ≡ suc i = omega arith in
    let place : 2 * i + 1 ≡ suc (2 * i) = omega arith in
    let olds : drop i old ≡ get_or old i 0 ∷ drop (suc i) old = drop-cons old i 0 lt in
    let pair : drop (2 * i) bytes ≡ low ∷ high ∷ drop (suc (suc (2 * i))) bytes = drop-cons bytes (2 * i) 0 first ∙ ap (λ (xs : List ℕ). low ∷ xs) (drop-cons bytes (suc (2 * i)) 0 second) in
    let word = masked_word mask (get_or old i 0) (low + 256 * high) in
    let tail = masked mask (drop (suc i) old) (words_of (drop (suc (suc (2 * i))) bytes)) in
    let cut : masked mask (drop i old) (words_of (drop (2 * i) bytes)) ≡ word ∷ tail = ap (λ (xs : List ℕ). masked mask xs (words_of (drop (2 * i) bytes))) olds ∙ ap (λ (xs : List ℕ). masked mask (get_or old i 0 ∷ drop (suc i) old) (words_of xs)) pair in
    let here : front ++ (word ∷ tail) ≡ whole = ap (λ (xs : List ℕ). front ++ xs) (sym cut) ∙ so_far in
    let regrouped : (front ++ word ∷ []) ++ tail ≡ front ++ (word ∷ tail) = append_assoc front (word ∷ []) tail in
    rw (after, place, next) (regrouped ∙ here)
