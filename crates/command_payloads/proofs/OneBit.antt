-- One bit of a word is set or cleared, and the others stay.
use Rattle.std.proofs.Common.{◌≡◌, ◌≢◌, ℕ, ◌-◌, ◌*◌, ◌%◌, ◌^◌, ◌<◌, ◌≤◌, Bool, true, false, cond, eqb, max, bit_and, bit_or, refl, sym, ap, ap₂, subst, ◌∙◌, arith}
use Rattle.std.specs.Int.{bit_at, bit_not}
use Rattle.std.proofs.lemmas.Bool.{cond_both, eqb-false, eqb-true}
use Rattle.std.proofs.lemmas.Nat.{pow_below}
use Rattle.std.proofs.lemmas.Nat.Bits.{bit_at-pow_other, bit_at-pow_same, bit_at-zero, bit_at_clear_other, bit_at_clear_same, bit_at_or}
use Rattle.std.proofs.Common.{w16}

-- all bits but one
others : (bit : ℕ) → bit ≤ 15 → 65535 - 2 ^ bit ≡ bit_not w16 (1 * 2 ^ bit % 2 ^ 16)
others bit within =
    let small : 2 ^ bit < 2 ^ 16 = pow_below bit 16 (omega arith) in
    let same : 1 * 2 ^ bit % 2 ^ 16 ≡ 2 ^ bit = omega arith in
    ap (bit_not w16) (sym same)

is_set : (bit : ℕ) (on : Bool) → bit_at (cond on (2 ^ bit) 0) bit ≡ cond on 1 0
is_set bit true = bit_at-pow_same bit
is_set bit false = bit_at-zero bit

is_clear : (bit i : ℕ) (on : Bool) → i ≢ bit → bit_at (cond on (2 ^ bit) 0) i ≡ 0
is_clear bit i true other = bit_at-pow_other bit i other
is_clear bit i false other = bit_at-zero i

larger : (on : Bool) → max 0 (cond on 1 0) ≡ cond on 1 0
larger true = refl
larger false = refl

this_bit : (bit old : ℕ) (on : Bool) → bit ≤ 15 → bit_at (bit_or (bit_and old (65535 - 2 ^ bit)) (cond on (2 ^ bit) 0)) bit ≡ cond on 1 0
this_bit bit old on within =
    let cleared : bit_at (bit_and old (65535 - 2 ^ bit)) bit ≡ 0 =
    ap (λ (n : ℕ). bit_at (bit_and old n) bit) (others bit within) ∙ bit_at_clear_same w16 old bit (omega arith) in
    bit_at_or (bit_and old (65535 - 2 ^ bit)) (cond on (2 ^ bit) 0) bit ∙ ap₂ (λ (m n : ℕ). max m n) cleared (is_set bit on) ∙ larger on

other_bit : (bit old i : ℕ) (on : Bool) → bit ≤ 15 → i ≤ 15 → i ≢ bit → bit_at (bit_or (bit_and old (65535 - 2 ^ bit)) (cond on (2 ^ bit) 0)) i ≡ bit_at old i
other_bit bit old i on within inside other =
    let kept : bit_at (bit_and old (65535 - 2 ^ bit)) i ≡ bit_at old i =
    ap (λ (n : ℕ). bit_at (bit_and old n) i) (others bit within) ∙ bit_at_clear_other w16 old bit (omega arith) i (omega arith) other in
    let same : max (bit_at old i) 0 ≡ bit_at old i = omega arith in
    bit_at_or (bit_and old (65535 - 2 ^ bit)) (cond on (2 ^ bit) 0) i ∙ ap₂ (λ (m n : ℕ). max m n) kept (is_clear bit i on other) ∙ same

pub bit_written : (bit old i : ℕ) (on : Bool) → bit ≤ 15 → i ≤ 15 → bit_at (bit_or (bit_and old (65535 - 2 ^ bit)) (cond on (2 ^ bit) 0)) i ≡ cond (eqb i bit) (cond on 1 0) (bit_at old i)
bit_written bit old i on within inside =
    let word : ℕ = bit_or (bit_and old (65535 - 2 ^ bit)) (cond on (2 ^ bit) 0) in
    let P : ℕ → Type 0 = λ k. bit_at word k ≡ cond on 1 0 in
    cond_both (eqb i bit) (cond on 1 0) (bit_at old i) (λ (n : ℕ). bit_at word i ≡ n)
    (λ is. subst P (sym (eqb-true i bit is)) (this_bit bit old on within))
    (λ isn't. other_bit bit old i on within inside (eqb-false i bit isn't))
