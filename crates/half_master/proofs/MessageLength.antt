-- How many bytes a message has.
use Rattle.std.proofs.Common.{◌≡◌, ℕ, ◌*◌, ◌≤◌, Bool, true, false, cond, eqb, List, [], ◌∷◌, ◌++◌, length, arith, length-append}
use Rattle.std.specs.List.{flat_map}
use Rattle.std.proofs.lemmas.List.{length-map}
use Rattle.df1_check.specs.declared.Check.{Check}
use Rattle.df1_check.specs.declared.Check.TheVariants as kind
use Rattle.df1_frame.specs.Spelling.{Plain, Doubled, pieces_of, check_of, check_len}
use Rattle.df1_frame.proofs.SpellingLemmas.{length-check}
use Rattle.half_frame.specs.Spelling.{piece_sent, message_sent, station_head, text_sent, unmarked}

piece-length : (b : ℕ) (dle : Bool) → length (piece_sent (cond dle Doubled (Plain b))) ≤ 2
piece-length b true = omega arith
piece-length b false = omega arith

body-length : (body : List ℕ) → length (flat_map piece_sent (pieces_of body)) ≤ 2 * length body
body-length [] = omega arith
body-length (b ∷ body) =
    omega (arith, length-append (piece_sent (cond (eqb b 16) Doubled (Plain b))) (flat_map piece_sent (pieces_of body)), piece-length b (eqb b 16), body-length body)

check-length : (check : Check) → check_len check ≤ 2
check-length kind.Bcc = omega arith
check-length kind.Crc = omega arith

text-length : (body check : List ℕ) → length body ≤ 250 → length check ≤ 2 → length (text_sent body check) ≤ 506
text-length body check fits few =
    let all = length-append (flat_map piece_sent (pieces_of body)) (unmarked (16 ∷ 3 ∷ check)) in
    let end : length (unmarked (16 ∷ 3 ∷ check)) ≡ length (16 ∷ 3 ∷ check) = length-map (16 ∷ 3 ∷ check) _ in
    omega (arith, all, end, body-length body, fits, few)

-- a message has at most 509 bytes
pub message-length : (check : Check) (number : ℕ) (body : List ℕ) → length body ≤ 250 → length (message_sent check number body) ≤ 509
message-length check number body fits =
    let few : length (check_of check (station_head check number ++ body)) ≡ check_len check = length-check check _ in
    let text = text-length body (check_of check (station_head check number ++ body)) fits (omega (arith, few, check-length check)) in
    omega (arith, text)
