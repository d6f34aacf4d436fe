-- What is sent, without its marks.
use Rattle.std.proofs.Common.{◌≡◌, ℕ, Bool, true, false, cond, eqb, List, [], ◌∷◌, ◌++◌, refl, ap, ◌∙◌}
use Rattle.std.specs.List.{flat_map}
use Rattle.std.proofs.lemmas.List.{map-append}
use Rattle.df1_frame.specs.Spelling.{Plain, Doubled, piece_bytes, pieces_of, framed}
use Rattle.half_frame.specs.Spelling.{bytes_of, piece_sent, text_sent, unmarked}

pub bytes_of-unmarked : (bytes : List ℕ) → bytes_of (unmarked bytes) ≡ bytes
bytes_of-unmarked [] = refl
bytes_of-unmarked (b ∷ bytes) = ap (λ (l : List ℕ). b ∷ l) (bytes_of-unmarked bytes)

bytes_of-piece : (b : ℕ) (dle : Bool) → bytes_of (piece_sent (cond dle Doubled (Plain b))) ≡ piece_bytes (cond dle Doubled (Plain b))
bytes_of-piece b true = refl
bytes_of-piece b false = refl

bytes_of-body : (body : List ℕ) → bytes_of (flat_map piece_sent (pieces_of body)) ≡ flat_map piece_bytes (pieces_of body)
bytes_of-body [] = refl
bytes_of-body (b ∷ body) =
    map-append _ (piece_sent (cond (eqb b 16) Doubled (Plain b))) (flat_map piece_sent (pieces_of body))
    ∙ ap (λ (l : List ℕ). l ++ bytes_of (flat_map piece_sent (pieces_of body))) (bytes_of-piece b (eqb b 16))
    ∙ ap (λ (l : List ℕ). piece_bytes (cond (eqb b 16) Doubled (Plain b)) ++ l) (bytes_of-body body)

pub bytes_of-text : (body check : List ℕ) → bytes_of (text_sent body check) ≡ framed (pieces_of body) check
bytes_of-text body check = ap (λ (l : List ℕ). 16 ∷ 2 ∷ l)
    (map-append _ (flat_map piece_sent (pieces_of body)) (unmarked (16 ∷ 3 ∷ check))
    ∙ ap (λ (l : List ℕ). l ++ bytes_of (unmarked (16 ∷ 3 ∷ check))) (bytes_of-body body)
    ∙ ap (λ (l : List ℕ). flat_map piece_bytes (pieces_of body) ++ 16 ∷ 3 ∷ l) (bytes_of-unmarked check))
