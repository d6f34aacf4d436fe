-- The checks with one byte more.
use Rattle.std.proofs.Common.{◌≡◌, ℕ, List, [], ◌∷◌, ◌++◌, refl, arith}
use Rattle.std.proofs.lemmas.List.Sums.{fold-append, sum_by-append}
use Rattle.df1_check.specs.declared.Check.{Check}
use Rattle.df1_check.specs.declared.Check.TheVariants as kind
use Rattle.df1_check.specs.Checks.{check_value, crc_byte, take_byte, taken, with_byte}

-- the value over one byte more
pub check_value-push : (check : Check) (bytes : List ℕ) (b : ℕ) → check_value check (bytes ++ b ∷ []) ≡ with_byte check (check_value check bytes) b
unfolding with_byte
check_value-push kind.Bcc bytes b = omega (arith, sum_by-append (λ (x : ℕ). x) bytes (b ∷ []))
check_value-push kind.Crc bytes b = fold-append crc_byte 0 bytes (b ∷ [])

-- what has taken the bytes, and takes one more, has taken them all
pub take_byte-taken : (check : Check) (bytes : List ℕ) (b : ℕ) → take_byte (taken check bytes) b ≡ taken check (bytes ++ b ∷ [])
take_byte-taken check bytes b = rw (check_value-push check bytes b) refl
