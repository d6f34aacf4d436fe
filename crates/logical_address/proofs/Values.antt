-- What is read as a value is spelled so, and what is spelled so is read.
use Rattle.std.proofs.Common.{◌≡◌, ◌≢◌, ℕ, ◌+◌, ◌*◌, ◌/◌, ◌%◌, ◌<◌, ◌≤◌, Bool, true, false, eqb, ltb, List, [], ◌∷◌, ◌++◌, length, Option, Some, refl, sym, ap, subst, ◌∙◌, arith}
use Rattle.std.proofs.lemmas.Bool.{cond_both, eqb-false, eqb-true, ne_eqb, ltb-true, ltb-false}
use Rattle.logical_address.specs.Spelling.{SpellsValue, one_byte, marked, SpellsOptional, given, left_out, IsFront, IsShortest}
use Rattle.logical_address.specs.Shortest.{shortest_value}
use Rattle.logical_address.specs.Reading.{byte_front, word_front, value_front, optional_front, value_at}
use Rattle.logical_address.proofs.Fronts.{IsBytes, IsBytes-rest, Takes, some_is, used_spelled}

-- ---- what is read is spelled so

pub byte_takes : (bytes : List ℕ) (b : ℕ) (rest : List ℕ) → IsBytes bytes → byte_front bytes ≡ Some (b, rest) → (bytes ≡ b ∷ rest) × IsBytes rest
byte_takes [] b rest fits e = absurd cc
byte_takes (a ∷ bytes) b rest fits e =
    let P : ℕ × List ℕ → Type 0 = λ found. (a ∷ bytes ≡ found.0 ∷ found.1) × IsBytes found.1 in
    subst P (some_is (a, bytes) (b, rest) e) (refl, IsBytes-rest a bytes fits)

-- two bytes that are a number
pub record TakesWord (bytes : List ℕ) (n : ℕ) (rest : List ℕ) : Type 0 where
  pub low : ℕ
  pub high : ℕ
  pub is : n ≡ low + 256 * high
  pub parts : bytes ≡ low ∷ high ∷ rest
  pub rest_fits : IsBytes rest

pub word_takes : (bytes : List ℕ) (n : ℕ) (rest : List ℕ) → IsBytes bytes → word_front bytes ≡ Some (n, rest) → TakesWord bytes n rest
word_takes [] n rest fits e = absurd cc
word_takes (low ∷ []) n rest fits e = absurd cc
word_takes (low ∷ high ∷ bytes) n rest fits e =
    let P : ℕ × List ℕ → Type 0 = λ found. TakesWord (low ∷ high ∷ bytes) found.0 found.1 in
    subst P (some_is (low + 256 * high, bytes) (n, rest) e)
    (record { low = low; high = high; is = refl; parts = refl; rest_fits = IsBytes-rest high bytes (IsBytes-rest low (high ∷ bytes) fits) })

pub value_takes : (bytes : List ℕ) (n : ℕ) (rest : List ℕ) → IsBytes bytes → value_front bytes ≡ Some (n, rest) → Takes (SpellsValue n) bytes rest
value_takes [] n rest fits e = absurd cc
value_takes (b ∷ bytes) n rest fits e =
    cond_both (eqb b 255) (word_front bytes) (Some (b, bytes)) (λ found. found ≡ Some (n, rest) → Takes (SpellsValue n) (b ∷ bytes) rest)
    (λ is h.
    let w = word_takes bytes n rest (IsBytes-rest b bytes fits) h in
    record { front = 255 ∷ w.low ∷ w.high ∷ []; spelled = marked w.is; parts = ap (λ (x : ℕ). x ∷ bytes) (eqb-true b 255 is) ∙ ap (λ (xs : List ℕ). 255 ∷ xs) w.parts; rest_fits = w.rest_fits })
    (λ isn't h.
    let other : b ≢ 255 = eqb-false b 255 isn't in
    let byte : b < 256 = fits 0 in
    let small : b < 255 = omega arith in
    let P : ℕ × List ℕ → Type 0 = λ found. Takes (SpellsValue found.0) (b ∷ bytes) found.1 in
    subst P (some_is (b, bytes) (n, rest) h) (record { front = b ∷ []; spelled = one_byte small; parts = refl; rest_fits = IsBytes-rest b bytes fits }))
    e

pub optional_takes : (is_given : Bool) (bytes : List ℕ) (n : ℕ) (rest : List ℕ) → IsBytes bytes → optional_front is_given bytes ≡ Some (n, rest) → Takes (SpellsOptional is_given n) bytes rest
optional_takes true bytes n rest fits e =
    let t = value_takes bytes n rest fits e in
    record { front = t.front; spelled = given t.spelled; parts = t.parts; rest_fits = t.rest_fits }
optional_takes false bytes n rest fits e =
    let P : ℕ × List ℕ → Type 0 = λ found. Takes (SpellsOptional false found.0) bytes found.1 in
    subst P (some_is (0, bytes) (n, rest) e) (record { front = []; spelled = left_out; parts = refl; rest_fits = fits })

-- ---- what is spelled so is read

pub value_again : {n : ℕ} {front : List ℕ} → SpellsValue n front → (rest : List ℕ) → value_front (front ++ rest) ≡ Some (n, rest)
value_again (one_byte {n} small) rest = let other : n ≢ 255 = λ e. omega arith in rw (ne_eqb n 255 other) refl
value_again (marked {n} {low} {high} is) rest = let found : ℕ → Option (ℕ × List ℕ) = λ m. Some (m, rest) in ap found (sym is)

pub optional_again : {is_given : Bool} {n : ℕ} {front : List ℕ} → SpellsOptional is_given n front → (rest : List ℕ) → optional_front is_given (front ++ rest) ≡ Some (n, rest)
optional_again (given spelled) rest = value_again spelled rest
optional_again left_out rest = refl

-- ---- the shortest spelling

pub value_spelled : (n : ℕ) → SpellsValue n (shortest_value n)
value_spelled n =
    cond_both (ltb n 255) (n ∷ []) (255 ∷ n % 256 ∷ n / 256 ∷ []) (λ bytes. SpellsValue n bytes) (λ small. one_byte (ltb-true n 255 small)) (λ large. marked (omega arith))

pub value_length : (n : ℕ) (bytes : List ℕ) → SpellsValue n bytes → length (shortest_value n) ≤ length bytes
value_length n bytes (one_byte small) = cond_both (ltb n 255) (n ∷ []) (255 ∷ n % 256 ∷ n / 256 ∷ []) (λ front. length front ≤ 1) (λ _. omega arith) (λ large. let above : 255 ≤ n = ltb-false n 255 large in absurd (omega arith))
value_length n bytes (marked is) = cond_both (ltb n 255) (n ∷ []) (255 ∷ n % 256 ∷ n / 256 ∷ []) (λ front. length front ≤ 3) (λ _. omega arith) (λ _. omega arith)

pub value_shortest : (n : ℕ) → IsShortest (SpellsValue n) (shortest_value n)
value_shortest n = record { spelled = value_spelled n; none_shorter = value_length n }

-- ---- the reader

pub value_at_spelled : (bytes : List ℕ) (found : ℕ × ℕ) → IsBytes bytes → Some found ≡ value_at bytes → IsFront (SpellsValue found.0) found.1 bytes
value_at_spelled bytes found fits e = used_spelled SpellsValue bytes (value_front bytes) found (λ n rest h. value_takes bytes n rest fits h) e
