-- Pieces and checks, one more at the end, and as many answers as bytes.
use Rattle.std.proofs.Common.{◌≡◌, ◌≢◌, ℕ, suc, true, false, List, [], ◌∷◌, ◌++◌, length, Option, IsSome, Some, None, refl, sym, ap, ◌∙◌, eqb, eq-eqb}
use Rattle.std.proofs.lemmas.Bool.{false≢true, and_right}
use Rattle.std.specs.List.{flat_map}
use Rattle.df1_check.specs.declared.Check.{Check}
use Rattle.df1_check.specs.declared.Check.TheVariants as kinds
use Rattle.df1_frame.specs.Spelling.{Piece, Plain, Doubled, Response, piece_bytes, response, IsPiece, ArePieces, check_bytes, check_len, same}
use Rattle.df1_frame.specs.Grammar.{piece_heard, check_heard, unheard}

pub ArePieces-push : (pieces : List Piece) (piece : Piece) → ArePieces pieces → IsPiece piece → ArePieces (pieces ++ piece ∷ [])
ArePieces-push [] piece h u = (u, tt)
ArePieces-push (x ∷ pieces) piece h u = (h.0, ArePieces-push pieces piece h.1 u)

pub not_response : (code n : ℕ) → response n ≡ None → IsSome (response code) → code ≢ n
not_response code n none some e = let none' : response code ≡ None = ap response e ∙ none in absurd (false≢true (rw none' at some))

pub length-pieces : (pieces : List Piece) → length (flat_map piece_heard pieces) ≡ length (flat_map piece_bytes pieces)
length-pieces [] = refl
length-pieces (Plain b ∷ pieces) = ap suc (length-pieces pieces)
length-pieces (Doubled ∷ pieces) = ap (λ (n : ℕ). suc (suc n)) (length-pieces pieces)
length-pieces (Response code ∷ pieces) = ap (λ (n : ℕ). suc (suc n)) (length-pieces pieces)

pub length-unheard : (H : Type 0) (bytes : List ℕ) → length (unheard {H = H} bytes) ≡ length bytes
length-unheard H [] = refl
length-unheard H (b ∷ bytes) = ap suc (length-unheard H bytes)

pub length-check_heard : {H : Type 0} (h : H) (check : List ℕ) → length (check_heard h check) ≡ length check
length-check_heard h [] = refl
length-check_heard h (b ∷ []) = refl
length-check_heard h (b ∷ c ∷ more) = ap suc (length-check_heard h (c ∷ more))

pub check_heard-push : {H : Type 0} (h : H) (check : List ℕ) (b : ℕ) → check_heard h (check ++ b ∷ []) ≡ unheard check ++ Some h ∷ []
check_heard-push h [] b = refl
check_heard-push h (x ∷ []) b = refl
check_heard-push {H = H} h (x ∷ y ∷ more) b = ap (λ (l : List (Option H)). None ∷ l) (check_heard-push h (y ∷ more) b)

pub unheard-push : (H : Type 0) (bytes : List ℕ) (b : ℕ) → unheard {H = H} (bytes ++ b ∷ []) ≡ unheard bytes ++ None ∷ []
unheard-push H [] b = refl
unheard-push H (x ∷ more) b = ap (λ (l : List (Option H)). None ∷ l) (unheard-push H more b)

pub same-length : (xs ys : List ℕ) → (length xs ≡ length ys → ⊥) → false ≡ same xs ys
same-length [] [] h = absurd (h refl)
same-length [] (y ∷ ys) h = refl
same-length (x ∷ xs) [] h = refl
same-length (x ∷ xs) (y ∷ ys) h = sym (and_right (eqb x y) (same xs ys) (sym (same-length xs ys (λ e. h (ap suc e)))))

pub wrong-length : (kind : Check) (r : ℕ) (check : List ℕ) → (length check ≡ check_len kind → ⊥) → false ≡ same check (check_bytes kind r)
unfolding check_bytes
wrong-length kinds.Bcc r check h = same-length check (check_bytes kinds.Bcc r) h
wrong-length kinds.Crc r check h = same-length check (check_bytes kinds.Crc r) h

pub length-check : (kind : Check) (r : ℕ) → length (check_bytes kind r) ≡ check_len kind
unfolding check_bytes
length-check kinds.Bcc r = refl
length-check kinds.Crc r = refl

pub same-same : (xs : List ℕ) → same xs xs ≡ true
same-same [] = refl
same-same (x ∷ xs) = rw (eq-eqb x x refl, same-same xs) refl
