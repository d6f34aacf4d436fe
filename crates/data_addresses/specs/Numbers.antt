-- Decimal numbers in a text. A text is a list of bytes, and its digits are the bytes 48 to 57.
use Rattle.std.specs.Prelude.{◌≡◌, ◌≢◌, ℕ, ◌+◌, ◌-◌, ◌*◌, ◌≤◌, Bool, true, ◌&&◌, ◌==◌, nat_le, List, [], ◌∷◌, length, drop, if◌then◌else◌, Option, Some, None}

abbrev pub is_digit : ℕ → Bool
is_digit b = nat_le 48 b && nat_le b 57

-- the number that digits are after those of a number in front of them
abbrev pub number_from : ℕ → List ℕ → ℕ
number_from n [] = n
number_from n (d ∷ ds) = number_from (10 * n + (d - 48)) ds

abbrev pub number_of : List ℕ → ℕ
number_of ds = number_from 0 ds

abbrev pub AreDigits : List ℕ → Type 0
AreDigits [] = Unit {0}
AreDigits (b ∷ bs) = (is_digit b ≡ true) × AreDigits bs

-- a number up to the greatest that may stand there: one digit or more
pub record SpellsNumber (most n : ℕ) (text : List ℕ) : Type 0 where
  pub some : text ≢ []
  pub each : AreDigits text
  pub value : n ≡ number_of text
  pub within : n ≤ most

-- ---- how it is read

-- the digits at the front
abbrev pub digits : List ℕ → List ℕ
digits [] = []
digits (b ∷ rest) = if is_digit b then b ∷ digits rest else []

-- the number at the front, and what follows its digits; none where there is no digit, or a greater number
abbrev pub number_front : ℕ → List ℕ → Option (ℕ × List ℕ)
number_front most text =
    if length (digits text) == 0 then None
    else if nat_le (number_of (digits text)) most then Some (number_of (digits text), drop (length (digits text)) text)
    else None
