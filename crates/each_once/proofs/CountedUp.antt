-- What is counted up one by one: unit steps of one kind, and bytes.
use Rattle.std.proofs.Common.{◌≡◌, ◌∙◌, ℕ, ◌+◌, ◌-◌, ◌<◌, suc, List, ◌∷◌, length, drop, drop-cons, get_or, ap, refl, arith}
use Rattle.std.proofs.Math.Numerals.{suc-eq-add-one}
use Rattle.std.specs.Prelude.{replicate}

-- the steps that are left are one and those that are left then
pub repeat-next : {D : Type 0} (deed : D) (n i : ℕ) → i < n → replicate (n - i) deed ≡ deed ∷ replicate (n - (i + 1)) deed
repeat-next deed n i lt =
    let more : n - i ≡ suc (n - (i + 1)) = omega arith in
    rw more refl

-- the bytes that are left are one and those that are left then
pub drop-next : (xs : List ℕ) (i : ℕ) → i < length xs → drop i xs ≡ get_or xs i 0 ∷ drop (i + 1) xs
drop-next xs i lt = drop-cons xs i 0 lt ∙ ap (λ (j : ℕ). get_or xs i 0 ∷ drop j xs) (suc-eq-add-one i)
