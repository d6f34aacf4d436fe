-- One look-up in the table of the CRC is eight shifts.
use Rattle.std.proofs.Common.{◌≡◌, ◌<◌, ℕ, ◌*◌, ◌/◌, ◌%◌, ◌==◌, map, cond, true, false, refl, sym, ap, ◌∙◌, get_or, slice_get, Some, arith, bit_xor, Bool}
use Rattle.std.specs.Int.Bits.{xor_assoc, xor_zero_r}
use Rattle.std.specs.List.{range_with_len}
use Rattle.std.proofs.lemmas.Nat.{xor_comm, xor_mod, xor_shr}
use Rattle.std.proofs.lemmas.List.FromFn.{get_or-map-range_with_len}
use Rattle.std.proofs.lemmas.Option.{slice_get-get_or}
use Rattle.df1_check.specs.declared.table.TheConstants.{CRC_TABLE}
use Rattle.df1_check.specs.Checks.{crc_bit, eight_shifts}

-- the table is eight shifts of each register from 0 to 255 in turn
whole : CRC_TABLE ≡ map eight_shifts (range_with_len 0 256)
unfolding eight_shifts
whole = refl

pub entry : (register d : ℕ) → register < 256 → get_or CRC_TABLE register d ≡ eight_shifts register
entry register d below = ap (λ t. get_or t register d) whole ∙ get_or-map-range_with_len eight_shifts 0 256 register register d below (omega arith)

pub entry_at : (register : ℕ) → register < 256 → slice_get CRC_TABLE register ≡ Some (eight_shifts register)
entry_at register below = slice_get-get_or CRC_TABLE register 0 below ∙ ap Some (entry register 0 below)

-- what stands above the lowest bit is shifted along
half : (low high : ℕ) → bit_xor low (2 * high) / 2 ≡ bit_xor (low / 2) high
half low high = let even : 2 * high / 2 ≡ high = omega arith in xor_shr low (2 * high) 1 ∙ ap (bit_xor (low / 2)) even

lowest : (low high : ℕ) → bit_xor low (2 * high) % 2 ≡ low % 2
lowest low high =
    let even : 2 * high % 2 ≡ 0 = omega arith in
    xor_mod low (2 * high) 1 ∙ ap (bit_xor (low % 2)) even ∙ xor_zero_r (low % 2)

changed_over : (a b c : ℕ) → bit_xor (bit_xor a b) c ≡ bit_xor (bit_xor a c) b
changed_over a b c = xor_assoc a b c ∙ ap (bit_xor a) (xor_comm b c) ∙ sym (xor_assoc a c b)

combined : (odd : Bool) (a high : ℕ) → cond odd (bit_xor (bit_xor a high) 0xA001) (bit_xor a high) ≡ bit_xor (cond odd (bit_xor a 0xA001) a) high
combined true a high = changed_over a high 0xA001
combined false a high = refl

shifted : (register low twice high : ℕ) → register ≡ bit_xor low twice → twice ≡ 2 * high → crc_bit register ≡ bit_xor (crc_bit low) high
shifted register low twice high is double =
    let split : register ≡ bit_xor low (2 * high) = is ∙ ap (bit_xor low) double in
    ap crc_bit split
    ∙ ap (λ r. cond (r == 1) (bit_xor (bit_xor low (2 * high) / 2) 0xA001) (bit_xor low (2 * high) / 2)) (lowest low high)
    ∙ ap (λ y. cond (low % 2 == 1) (bit_xor y 0xA001) y) (half low high)
    ∙ combined (low % 2 == 1) (low / 2) high

-- a register is its low byte beside what stands above
same_parts : (x y : ℕ) → x % 256 ≡ y % 256 → x / 256 ≡ y / 256 → x ≡ y
same_parts x y low high = omega arith

parts : (register : ℕ) → register ≡ bit_xor (register % 256) (256 * (register / 256))
parts register =
    let none : 256 * (register / 256) % 256 ≡ 0 = omega arith in
    let all : 256 * (register / 256) / 256 ≡ register / 256 = omega arith in
    let same : register % 256 % 256 ≡ register % 256 = omega arith in
    let nothing : register % 256 / 256 ≡ 0 = omega arith in
    same_parts register _
    (sym (xor_mod (register % 256) (256 * (register / 256)) 8 ∙ ap (bit_xor (register % 256 % 256)) none ∙ xor_zero_r _ ∙ same))
    (sym (xor_shr (register % 256) (256 * (register / 256)) 8 ∙ ap (λ n. bit_xor n (256 * (register / 256) / 256)) nothing ∙ all))

eight : (register low high : ℕ) → register ≡ bit_xor low (256 * high) → eight_shifts register ≡ bit_xor (eight_shifts low) high
unfolding eight_shifts
eight register low high is =
    let e1 : 256 * high ≡ 2 * (128 * high) = omega arith in
    let e2 : 128 * high ≡ 2 * (64 * high) = omega arith in
    let e3 : 64 * high ≡ 2 * (32 * high) = omega arith in
    let e4 : 32 * high ≡ 2 * (16 * high) = omega arith in
    let e5 : 16 * high ≡ 2 * (8 * high) = omega arith in
    let e6 : 8 * high ≡ 2 * (4 * high) = omega arith in
    let e7 : 4 * high ≡ 2 * (2 * high) = omega arith in
    shifted _ _ _ high (shifted _ _ _ (2 * high) (shifted _ _ _ (4 * high) (shifted _ _ _ (8 * high) (shifted _ _ _ (16 * high) (shifted _ _ _ (32 * high) (shifted _ _ _ (64 * high) (shifted _ _ _ (128 * high) is e1) e2) e3) e4) e5) e6) e7) refl

pub look_up : (register : ℕ) → bit_xor (eight_shifts (register % 256)) (register / 256) ≡ eight_shifts register
look_up register = sym (eight register (register % 256) (register / 256) (parts register))
