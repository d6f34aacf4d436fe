-- The words of a float are the float again.
use Rattle.std.proofs.Common.{◌≡◌, ℕ, ◌+◌, ◌*◌, ◌/◌, ◌%◌, ◌<◌, ◌^◌, List, [], ◌∷◌, ap, ◌∙◌, arith}
use Rattle.data_files.specs.WordBytes.{bytes_of}
use Rattle.data_files.proofs.WordLists.{bytes_of-cons}
use Rattle.reply_values.specs.Values.{float_words, floats_of}

pub float_again : (bits : ℕ) → bits < 2 ^ 32 → floats_of (bytes_of (float_words bits)) ≡ bits ∷ []
float_again bits small =
    let low : ℕ = bits % 2 ^ 16 in
    let high : ℕ = bits / 2 ^ 16 in
    let bytes : bytes_of (float_words bits) ≡ low % 256 ∷ low / 256 ∷ high % 256 ∷ high / 256 ∷ [] =
    bytes_of-cons low (high ∷ []) ∙ ap (λ (xs : List ℕ). low % 256 ∷ low / 256 ∷ xs) (bytes_of-cons high []) in
    let same : low % 256 + 2 ^ 8 * (low / 256) + 2 ^ 16 * (high % 256) + 2 ^ 24 * (high / 256) ≡ bits = omega arith in
    ap floats_of bytes ∙ ap (λ (n : ℕ). n ∷ []) same
