-- The bytes that lie between two places of a buffer.
use Rattle.std.proofs.Common.{◌≡◌, ℕ, ◌+◌, ◌-◌, ◌≤◌, List, ◌++◌, take, drop, length, ap, sym, ◌∙◌, arith}
use Rattle.std.proofs.lemmas.List.{drop-take, drop-drop, length-take-le, take-append-le}
use Rattle.std.proofs.Math.Seq.{take-append-add}

-- the first of them are used
pub used : (bytes : List ℕ) (at end count : ℕ) → count ≤ end - at → take (end - (at + count)) (drop (at + count) bytes) ≡ drop count (take (end - at) (drop at bytes))
used bytes at end count few =
    let left : end - at ≡ count + (end - (at + count)) = omega (arith, few) in
    let gone : drop count (drop at bytes) ≡ drop (at + count) bytes = drop-drop count at bytes in
    sym (ap (λ n. drop count (take n (drop at bytes))) left ∙ drop-take count (end - (at + count)) (drop at bytes) ∙ ap (take (end - (at + count))) gone)

-- more bytes stand behind the first
pub behind : (bytes more rest : List ℕ) (count n : ℕ) → count ≤ length bytes → n ≤ length more → take (count + n) (take count bytes ++ (more ++ rest)) ≡ take count bytes ++ take n more
behind bytes more rest count n long few =
    let size : length (take count bytes) ≡ count = length-take-le count bytes long in
    ap (λ k. take (k + n) (take count bytes ++ (more ++ rest))) (sym size) ∙ take-append-add (take count bytes) (more ++ rest) n ∙ ap (λ k. take count bytes ++ k) (take-append-le n more rest few)
