-- Words and their bytes, one after the other.
use Rattle.std.proofs.Common.{◌≡◌, ℕ, zero, suc, ◌+◌, ◌*◌, ◌/◌, ◌%◌, List, [], ◌∷◌, length, refl, ap, ◌∙◌, arith}
use Rattle.std.proofs.lemmas.List.Concat.{flat_map-cons}
use Rattle.data_files.specs.WordBytes.{bytes_of, words_of}

pub bytes_of-cons : (word : ℕ) (words : List ℕ) → bytes_of (word ∷ words) ≡ word % 256 ∷ word / 256 ∷ bytes_of words
bytes_of-cons word words = flat_map-cons (λ w. w % 256 ∷ w / 256 ∷ []) word words

pub length-bytes_of : (words : List ℕ) → length (bytes_of words) ≡ 2 * length words
length-bytes_of [] = refl
length-bytes_of (word ∷ words) = let rest = length-bytes_of words in ap length (bytes_of-cons word words) ∙ omega arith

pub words_of-bytes_of : (words : List ℕ) → words_of (bytes_of words) ≡ words
words_of-bytes_of [] = refl
words_of-bytes_of (word ∷ words) =
    let cons : ℕ → List ℕ → List ℕ = λ w ws. w ∷ ws in
    let low : word % 256 + 256 * (word / 256) ≡ word = omega arith in
    ap words_of (bytes_of-cons word words) ∙ ap (λ w. cons w (words_of (bytes_of words))) low ∙ ap (cons word) (words_of-bytes_of words)

pub length-words_of : (count : ℕ) (bytes : List ℕ) → length bytes ≡ 2 * count → length (words_of bytes) ≡ count
length-words_of zero [] is = refl
length-words_of zero (a ∷ bytes) is = absurd (omega arith)
length-words_of (suc count) [] is = absurd (omega arith)
length-words_of (suc count) (a ∷ []) is = absurd (omega arith)
length-words_of (suc count) (a ∷ b ∷ bytes) is = let tail : length bytes ≡ 2 * count = omega arith in let rest = length-words_of count bytes tail in omega arith
