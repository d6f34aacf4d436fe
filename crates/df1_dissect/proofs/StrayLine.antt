-- The line of a byte outside as an array holds it, with the places in it that are changed from one byte to the next.
use Rattle.std.proofs.Common.{◌≡◌, ◌∙◌, ℕ, ◌+◌, ◌/◌, ◌%◌, List, [], ◌∷◌, ◌++◌, length, drop, refl, sym, ap, arith, append_assoc, length-append}
use Rattle.std.specs.Prelude.{decimal, slice_index}
use Rattle.std.proofs.Math.ListN.{set}
use Rattle.std.proofs.Math.Seq.{set-append_seam}
use Rattle.std.proofs.lemmas.List.{drop-set-add}
use Rattle.hex.specs.Hex.{encode_with, upper_digits}
use Rattle.df1_dissect.specs.Dissection.{stray_line}
use Rattle.df1_dissect.specs.Lines.{kind_text}

-- both offsets with these digits before their last ones, and the two digits of the byte
abbrev pub stray_with : List ℕ → ℕ → ℕ → ℕ → ℕ → List ℕ
stray_with tens x y high low = tens ++ x ∷ 32 ∷ (tens ++ y ∷ 32 ∷ 115 ∷ 116 ∷ 114 ∷ 97 ∷ 121 ∷ 32 ∷ high ∷ low ∷ 10 ∷ [])

-- from its start on the array has such a line
pub record IsStray (line : List ℕ) (start : ℕ) (tens : List ℕ) : Type 0 where
  pub x : ℕ
  pub y : ℕ
  pub high : ℕ
  pub low : ℕ
  pub is : drop start line ≡ stray_with tens x y high low

-- ---- a change of one place

seam : (front rest : List ℕ) (old new i : ℕ) → i ≡ length front → set (front ++ old ∷ rest) i new ≡ front ++ new ∷ rest
seam front rest old new i at = ap (λ n. set (front ++ old ∷ rest) n new) at ∙ set-append_seam front old rest new

first-set : (tens : List ℕ) (x y high low one : ℕ) → set (stray_with tens x y high low) (length tens) one ≡ stray_with tens one y high low
first-set tens x y high low one = seam tens (32 ∷ (tens ++ y ∷ 32 ∷ 115 ∷ 116 ∷ 114 ∷ 97 ∷ 121 ∷ 32 ∷ high ∷ low ∷ 10 ∷ [])) x one (length tens) refl

second-set : (tens : List ℕ) (x y high low one i : ℕ) → i ≡ length tens + (2 + length tens) → set (stray_with tens x y high low) i one ≡ stray_with tens x one high low
second-set tens x y high low one i at =
    let front : List ℕ = tens ++ x ∷ 32 ∷ tens in
    let rest : List ℕ = 32 ∷ 115 ∷ 116 ∷ 114 ∷ 97 ∷ 121 ∷ 32 ∷ high ∷ low ∷ 10 ∷ [] in
    let size : length front ≡ length tens + length (x ∷ 32 ∷ tens) = length-append tens (x ∷ 32 ∷ tens) in
    ap (λ (l : List ℕ). set l i one) (sym (append_assoc tens (x ∷ 32 ∷ tens) (y ∷ rest)))
    ∙ seam front rest y one i (omega (arith, at, size))
    ∙ append_assoc tens (x ∷ 32 ∷ tens) (one ∷ rest)

high-set : (tens : List ℕ) (x y high low new i : ℕ) → i ≡ length tens + (10 + length tens) → set (stray_with tens x y high low) i new ≡ stray_with tens x y new low
high-set tens x y high low new i at =
    let word : List ℕ = y ∷ 32 ∷ 115 ∷ 116 ∷ 114 ∷ 97 ∷ 121 ∷ 32 ∷ [] in
    let middle : List ℕ = x ∷ 32 ∷ (tens ++ word) in
    let front : List ℕ = tens ++ middle in
    let size : length front ≡ length tens + length middle = length-append tens middle in
    let inner : length (tens ++ word) ≡ length tens + 8 = length-append tens word in
    ap (λ (l : List ℕ). set (tens ++ x ∷ 32 ∷ l) i new) (sym (append_assoc tens word (high ∷ low ∷ 10 ∷ [])))
    ∙ ap (λ (l : List ℕ). set l i new) (sym (append_assoc tens middle (high ∷ low ∷ 10 ∷ [])))
    ∙ seam front (low ∷ 10 ∷ []) high new i (omega (arith, at, size, inner))
    ∙ append_assoc tens middle (new ∷ low ∷ 10 ∷ [])
    ∙ ap (λ (l : List ℕ). tens ++ x ∷ 32 ∷ l) (append_assoc tens word (new ∷ low ∷ 10 ∷ []))

low-set : (tens : List ℕ) (x y high low new i : ℕ) → i ≡ length tens + (11 + length tens) → set (stray_with tens x y high low) i new ≡ stray_with tens x y high new
low-set tens x y high low new i at =
    let word : List ℕ = y ∷ 32 ∷ 115 ∷ 116 ∷ 114 ∷ 97 ∷ 121 ∷ 32 ∷ high ∷ [] in
    let middle : List ℕ = x ∷ 32 ∷ (tens ++ word) in
    let front : List ℕ = tens ++ middle in
    let size : length front ≡ length tens + length middle = length-append tens middle in
    let inner : length (tens ++ word) ≡ length tens + 9 = length-append tens word in
    ap (λ (l : List ℕ). set (tens ++ x ∷ 32 ∷ l) i new) (sym (append_assoc tens word (low ∷ 10 ∷ [])))
    ∙ ap (λ (l : List ℕ). set l i new) (sym (append_assoc tens middle (low ∷ 10 ∷ [])))
    ∙ seam front (10 ∷ []) low new i (omega (arith, at, size, inner))
    ∙ append_assoc tens middle (new ∷ 10 ∷ [])
    ∙ ap (λ (l : List ℕ). tens ++ x ∷ 32 ∷ l) (append_assoc tens word (new ∷ 10 ∷ []))

-- ---- the changes from one byte to the next

-- The place of each, counted from the start of the line and from that of the array.
pub changed : (line : List ℕ) (start first : ℕ) (tens : List ℕ) (one high low : ℕ) → IsStray line start tens → first ≡ start + length tens → 18 ≡ start + (length tens + (2 + length tens))
    → drop start (set (set (set (set line first one) 18 one) 26 high) 27 low) ≡ stray_with tens one one high low
changed line start first tens one high low was at width =
    let n = length tens in
    let one-set = set line first one in
    let two-set = set one-set 18 one in
    let three-set = set two-set 26 high in
    let i2 : ℕ = n + (2 + n) in
    let i3 : ℕ = n + (10 + n) in
    let i4 : ℕ = n + (11 + n) in
    let p2 : 18 ≡ start + i2 = width in
    let p3 : 26 ≡ start + i3 = omega (arith, width) in
    let p4 : 27 ≡ start + i4 = omega (arith, width) in
    let d1 : drop start one-set ≡ stray_with tens one was.y was.high was.low =
    ap (λ k. drop start (set line k one)) at ∙ drop-set-add start line n one ∙ ap (λ (l : List ℕ). set l n one) was.is ∙ first-set tens was.x was.y was.high was.low one in
    let d2 : drop start two-set ≡ stray_with tens one one was.high was.low =
    ap (λ k. drop start (set one-set k one)) p2 ∙ drop-set-add start one-set i2 one ∙ ap (λ (l : List ℕ). set l i2 one) d1 ∙ second-set tens one was.y was.high was.low one i2 refl in
    let d3 : drop start three-set ≡ stray_with tens one one high was.low =
    ap (λ k. drop start (set two-set k high)) p3 ∙ drop-set-add start two-set i3 high ∙ ap (λ (l : List ℕ). set l i3 high) d2 ∙ high-set tens one one was.high was.low high i3 refl in
    ap (λ k. drop start (set three-set k low)) p4 ∙ drop-set-add start three-set i4 low ∙ ap (λ (l : List ℕ). set l i4 low) d3 ∙ low-set tens one one high was.low low i4 refl

-- ---- what the line says

pub stray-line-is : (at b one : ℕ) (tens : List ℕ) → decimal at ≡ tens ++ one ∷ [] → stray_with tens one one (slice_index upper_digits (b / 16)) (slice_index upper_digits (b % 16)) ≡ stray_line at b
unfolding encode_with kind_text
stray-line-is at b one tens is = rw is (simp append_assoc)

-- ---- the line at first

-- both offsets written, each with its last digit, before the word
pub first-line : (tens : List ℕ) (one : ℕ) → (tens ++ one ∷ []) ++ (32 ∷ ((tens ++ one ∷ []) ++ 32 ∷ 115 ∷ 116 ∷ 114 ∷ 97 ∷ 121 ∷ 32 ∷ 48 ∷ 48 ∷ 10 ∷ [])) ≡ stray_with tens one one 48 48
first-line tens one = simp append_assoc
