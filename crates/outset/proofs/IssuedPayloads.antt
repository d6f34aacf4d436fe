-- A payload that may be issued is, where an initiator has commands left.
use Rattle.std.proofs.Common.{◌≡◌, ◌∙◌, ℕ, ◌<◌, Bool, true, false, List, [], ◌∷◌, length, not, eqb, None, refl, sym, ap, arith}
use Rattle.std.specs.Prelude.{IsTrue, ◌&&◌, ◌==◌, nat_le, nat_lt, bit_and}
use Rattle.std.specs.Int.{bit_at}
use Rattle.std.proofs.lemmas.Bool.Decides.{nat_tests}
use Rattle.pccc_envelope.proofs.Replies.{and_64}
use Rattle.df1_node.specs.Initiator.{InitiatorState, issue_fault}
use Rattle.script_statement.specs.Statements.{is_payload}

and-both : (a b : Bool) → IsTrue (a && b) → (a ≡ true) × (b ≡ true)
and-both true true h = (refl, refl)
and-both true false h = absurd cc
and-both false b h = absurd cc

cons-some : (x : ℕ) (xs : List ℕ) → (length (x ∷ xs) == 0) ≡ false
cons-some x xs = grind (arith, nat_tests)

fits-not-over : (n : ℕ) → nat_le n 245 ≡ true → nat_lt 245 n ≡ false
fits-not-over n h = grind (arith, nat_tests)

few-left : (n : ℕ) → n < 65535 → nat_le 65535 n ≡ false
few-left n h = grind (arith, nat_tests)

pub payload-issues : (s : InitiatorState) (payload : List ℕ) → IsTrue (is_payload payload) → length s.issued < 65535 → issue_fault s payload ≡ None
payload-issues s [] h few = absurd cc
payload-issues s (cmd ∷ rest) h few =
    let parts = and-both (nat_le (length (cmd ∷ rest)) 245) (bit_and cmd 0x40 == 0) h in
    let some : (length (cmd ∷ rest) == 0) ≡ false = cons-some cmd rest in
    let fits : nat_lt 245 (length (cmd ∷ rest)) ≡ false = fits-not-over (length (cmd ∷ rest)) parts.0 in
    let command : eqb (bit_at cmd 6) 1 ≡ false = sym (and_64 cmd) ∙ ap not parts.1 in
    let left : nat_le 65535 (length s.issued) ≡ false = few-left (length s.issued) few in
    rw (some, fits, command, left) refl
