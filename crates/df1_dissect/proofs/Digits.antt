-- Bytes in hexadecimal, byte by byte.
use Rattle.std.proofs.Common.{◌≡◌, ◌∙◌, ◌/◌, ◌%◌, ℕ, ◌+◌, ◌<◌, List, [], ◌∷◌, ◌++◌, length, take, get_or, refl, ap}
use Rattle.std.specs.Prelude.{slice_index}
use Rattle.std.proofs.lemmas.List.{take_more}
use Rattle.hex.specs.Hex.{encode_upper, encode_with, upper_digits}

pub digits-behind : (bytes more : List ℕ) → encode_upper (bytes ++ more) ≡ encode_upper bytes ++ encode_upper more
unfolding encode_with
digits-behind [] more = refl
digits-behind (byte ∷ bytes) more = ap (λ (rest : List ℕ). slice_index upper_digits (byte / 16) ∷ slice_index upper_digits (byte % 16) ∷ rest) (digits-behind bytes more)

-- one byte more
pub digits-more : (bytes : List ℕ) (i d : ℕ) → i < length bytes → encode_upper (take (i + 1) bytes) ≡ encode_upper (take i bytes) ++ encode_upper (get_or bytes i d ∷ [])
digits-more bytes i d lt = ap encode_upper (take_more bytes i d lt) ∙ digits-behind (take i bytes) (get_or bytes i d ∷ [])

pub no-digits : encode_upper [] ≡ []
unfolding encode_with
no-digits = refl
