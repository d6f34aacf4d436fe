use Rattle.std.proofs.Common.{◌≡◌, ◌≤◌, ◌<◌, ◌+◌, ◌*◌, ◌-◌, ◌^◌, true, refl, arith, get_or, add-one}
use Rattle.std.specs.Char.{digit_value, is_ascii_digit}
use Rattle.std.proofs.Math.Nat.{pow-le-pow_right, pow-suc}
use Rattle.std.proofs.lemmas.Grind.{common_steps}
use Rattle.std.proofs.lemmas.Int.Digits.{digits_value_more}
use Rattle.std.proofs.lemmas.List.Folds.{list_all_more}
use Rattle.script_statement.proofs.words.number_of.Goals as goal

pub overflow_mul-value : goal.overflow_mul-value
overflow_mul-value c =
    let few : 10 ^ c.loop-byte.byte-index ≤ 10 ^ 8 = pow-le-pow_right {n = 10} (omega arith) {i = c.loop-byte.byte-index} {j = 8} (omega arith) in
    omega (arith, few)

pub overflow_add-value : goal.overflow_add-value
overflow_add-value c =
    let few : 10 ^ c.loop-byte.byte-index ≤ 10 ^ 8 = pow-le-pow_right {n = 10} (omega arith) {i = c.loop-byte.byte-index} {j = 8} (omega arith) in
    omega (arith, few)

pub loop-byte-preserved : goal.loop-byte-preserved
loop-byte-preserved c =
    let i = c.loop-byte.byte-index in
    let word = c.args.word.now in
    let is_digit : is_ascii_digit (get_or word i 0) ≡ true = grind (arith, common_steps) in
    let digit : digit_value (get_or word i 0) ≡ get_or word i 0 - 48 = grind (arith, common_steps) in
    let tens : get_or word i 0 - 48 < 10 = grind (arith, common_steps) in
    let power : 10 ^ (i + 1) ≡ 10 ^ i * 10 = rw add-one (pow-suc 10 i) in
    record {
      digits = rw (list_all_more is_ascii_digit word i 0 c.loop-byte-test.true, c.loop-byte.invariant.digits, is_digit) refl;
      value = rw (digits_value_more 10 word i c.loop-byte-test.true, ← c.loop-byte.invariant.value, digit, c.from.ensures) refl;
      small = omega arith;
    }
