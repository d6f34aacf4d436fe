-- Offsets that are written into an array from its end.
use Rattle.std.proofs.Common.{◌≡◌, ◌∙◌, ℕ, suc, ◌-◌, ◌<◌, ◌≤◌, List, ◌∷◌, length, take, drop, get_or, sym, ap, arith, drop-cons}
use Rattle.std.proofs.lemmas.List.{get_or-take}

-- a space stands before what was written last
pub spaced : (buf buf' : List ℕ) (second : ℕ) → take second buf' ≡ take second buf → 1 ≤ second → second ≤ length buf' → get_or buf (second - 1) 0 ≡ 32 → drop (second - 1) buf' ≡ 32 ∷ drop second buf'
spaced buf buf' second before some within space =
    let at = second - 1 in
    let inside : at < second = omega arith in
    let one : get_or buf' at 0 ≡ 32 = sym (get_or-take second buf' at 0 inside) ∙ ap (λ (l : List ℕ). get_or l at 0) before ∙ get_or-take second buf at 0 inside ∙ space in
    let next : suc at ≡ second = omega arith in
    drop-cons buf' at 0 (omega arith) ∙ ap (λ n. n ∷ drop (suc at) buf') one ∙ ap (λ n. 32 ∷ drop n buf') next
