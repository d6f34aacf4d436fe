-- Bit 6 of CMD: its test in the code, and that a reply's form has it.
use Rattle.std.proofs.Common.{◌≡◌, ℕ, ◌*◌, ◌<◌, zero, suc, not, max, List, ◌++◌, true, eqb, nat_eq, bit_and, refl, ap, ◌∙◌, arith}
use Rattle.std.specs.Int.{bit_at}
use Rattle.std.proofs.lemmas.Nat.Bits.{and_pow, bit_at_or, bit_at-lt}
use Rattle.pccc_envelope.specs.declared.envelope.Envelope.{Envelope}
use Rattle.pccc_envelope.specs.Envelope.{reply_form, spelling, is_reply}

bit_test : (n : ℕ) → n < 2 → not (nat_eq (n * 64) 0) ≡ eqb n 1
bit_test zero small = refl
bit_test (suc zero) small = refl
bit_test (suc (suc n)) small = absurd (omega arith)

max-one : (n : ℕ) → n < 2 → max n 1 ≡ 1
max-one n small = omega arith

-- masking with 64 tests bit 6
pub and_64 : (n : ℕ) → not (nat_eq (bit_and n 64) 0) ≡ eqb (bit_at n 6) 1
and_64 n = ap (λ m. not (nat_eq m 0)) (and_pow n 6) ∙ bit_test (bit_at n 6) (bit_at-lt n 6)

-- a body that begins with a reply's form is a reply
pub is_reply-reply_form : (e : Envelope) (sts : ℕ) (rest : List ℕ) → is_reply (spelling (reply_form e sts) ++ rest) ≡ true
is_reply-reply_form e sts rest =
    ap (λ n. eqb n 1) (bit_at_or e.cmd 64 6 ∙ max-one (bit_at e.cmd 6) (bit_at-lt e.cmd 6))
