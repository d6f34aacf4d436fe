-- A line that issues a command: its words, and the statement that they are, without a look at the other forms.
use Rattle.std.proofs.Common.{◌≡◌, ◌≤◌, ◌∙◌, ◌+◌, ◌*◌, ◌%◌, ◌&&◌, ℕ, Bool, true, false, cond, eqb, List, [], ◌∷◌, Option, Some, None, IfSome, Result, Ok, Err, refl, sym, ap, subst, arith, length, drop, nat_eq, slice_index_or, unwrap_or}
use Rattle.std.specs.Prelude.{codes, filter, not}
use Rattle.std.specs.List.{slice_split, onto_first}
use Rattle.std.specs.Result.{result_ok}
use Rattle.std.specs.Str.{bytes_eq}
use Rattle.std.proofs.lemmas.Grind.{common_steps}
use Rattle.hex.specs.Hex.{decode_pairs, digit_or_error, hex_digit_value, pair_value, value_at, ◌>>=◌}
use Rattle.hex.specs.declared.error.FromHexError.{FromHexError}
use Rattle.hex.specs.declared.error.FromHexError.TheVariants.{OddLength}
use Rattle.script_statement.specs.Statements.{end_of, event_with, is_payload, issue_line, operand_event, payload_of, station_line, statement_of, two_words}
use Rattle.script_statement.specs.Words.{hex_of, is_blank, number_of, words}
use Rattle.script_statement.specs.declared.statement.EndName.{EndName}
use Rattle.script_statement.specs.declared.statement.EndName.TheVariants.{Known}
use Rattle.script_statement.specs.declared.statement.EndLetter.{EndLetter}
use Rattle.script_statement.specs.declared.statement.Statement.TheVariants.{Issue}
use Rattle.line_script.specs.Lines.{is_passed_over}
use Rattle.line_script.proofs.Steps.{front}

-- ---- hexadecimal digits are one word

first-ok : {A B : Type 0} (r : Result A FromHexError) (f : A → Result B FromHexError) (b : B) → (r >>= f) ≡ Ok b → (a : A) × (r ≡ Ok a) × (f a ≡ Ok b)
first-ok (Ok a) f b is = (a, refl, is)
first-ok (Err e) f b is = absurd cc

blank-is-none : (c : ℕ) → is_blank c ≡ true → hex_digit_value c ≡ None
blank-is-none c blank = grind (arith, common_steps)

digit-is-no-blank : (c i v : ℕ) → value_at c i ≡ Ok v → is_blank c ≡ false
digit-is-no-blank c i v is = elim (is_blank c) as (λ b. is_blank c ≡ b → b ≡ false) [
  | true ↦ λ e. let none = ap (digit_or_error c i) (blank-is-none c e) in let no = sym is ∙ none in absurd cc
  | false ↦ λ e. refl
] refl

pair-is-no-blank : (high low i v : ℕ) → pair_value high low i ≡ Ok v → (is_blank high ≡ false) × (is_blank low ≡ false)
pair-is-no-blank high low i v is =
    let first = first-ok (value_at high i) (λ h. value_at low (i + 1) >>= (λ l. Ok (h * 16 + l))) v is in
    let second = first-ok (value_at low (i + 1)) (λ l. Ok (first.0 * 16 + l)) v first.2 in
    (digit-is-no-blank high i first.0 first.1, digit-is-no-blank low (i + 1) second.0 second.1)

pairs-are-one : (i : ℕ) (digits bytes : List ℕ) → decode_pairs i digits ≡ Ok bytes → slice_split is_blank digits ≡ digits ∷ []
unfolding decode_pairs
pairs-are-one i [] bytes is = refl
pairs-are-one i (digit ∷ []) bytes is = absurd cc
pairs-are-one i (high ∷ low ∷ rest) bytes is =
    let pair = first-ok (pair_value high low i) (λ byte. decode_pairs (i + 2) rest >>= (λ more. Ok (byte ∷ more))) bytes is in
    let behind = first-ok (decode_pairs (i + 2) rest) (λ more. Ok (pair.0 ∷ more)) bytes pair.2 in
    let no = pair-is-no-blank high low i pair.0 pair.1 in
    rw (no.0, no.1) (ap (λ ws. onto_first high (onto_first low ws)) (pairs-are-one (i + 2) rest behind.0 behind.1))

decoded : (digits bytes : List ℕ) → hex_of digits ≡ Some bytes → decode_pairs 0 digits ≡ Ok bytes
decoded digits bytes is = elim (eqb (length digits % 2) 1) as (λ b. result_ok (cond b (Err OddLength) (decode_pairs 0 digits)) ≡ Some bytes → decode_pairs 0 digits ≡ Ok bytes) [
  | true ↦ λ is. absurd cc
  | false ↦ λ is. elim (decode_pairs 0 digits) as (λ (r : Result (List ℕ) FromHexError). result_ok r ≡ Some bytes → r ≡ Ok bytes) [
    | Ok found ↦ λ is. ap (λ o. Ok (unwrap_or o found)) is
    | Err e ↦ λ is. absurd cc
  ] is
] is

-- ---- the payload that digits spell

payload-is-bytes : (bytes payload : List ℕ) → payload_of bytes ≡ Some payload → bytes ≡ payload
payload-is-bytes bytes payload is = elim (is_payload bytes) as (λ b. cond b (Some bytes) None ≡ Some payload → bytes ≡ payload) [
  | true ↦ λ is. ap (λ o. unwrap_or o bytes) is
  | false ↦ λ is. absurd cc
] is

no-digits : (bytes payload : List ℕ) → decode_pairs 0 [] ≡ Ok bytes → payload_of bytes ≡ Some payload → ⊥
unfolding decode_pairs
no-digits [] payload decoded is = cc
no-digits (b ∷ bytes) payload decoded is = cc

payload-says : (digits bytes payload : List ℕ) → Some bytes ≡ hex_of digits → Some payload ≡ payload_of bytes
    → (hex_of digits ≡ Some payload) × (payload_of payload ≡ Some payload) × (words digits ≡ digits ∷ [])
payload-says [] bytes payload hex is = absurd (no-digits bytes payload (decoded [] bytes (sym hex)) (sym is))
payload-says (d ∷ digits) bytes payload hex is =
    let same = payload-is-bytes bytes payload (sym is) in
    let some : eqb (length (d ∷ digits)) 0 ≡ false = grind (arith, common_steps) in
    (sym hex ∙ ap Some same, ap payload_of (sym same) ∙ sym is, ap (filter (λ (w : List ℕ). not (eqb (length w) 0))) (pairs-are-one 0 (d ∷ digits) bytes (decoded (d ∷ digits) bytes (sym hex))) ∙ rw some refl)

pub payload-found : (digits bytes : List ℕ) (payload : Option (List ℕ)) → Some bytes ≡ hex_of digits → payload ≡ payload_of bytes
    → IfSome payload (λ p. (hex_of digits ≡ Some p) × (payload_of p ≡ Some p) × (words digits ≡ digits ∷ []))
payload-found digits bytes None hex is = tt
payload-found digits bytes (Some payload) hex is = payload-says digits bytes payload hex is

-- ---- a whole line

both-fail : (a : Bool) → (a && false) ≡ false
both-fail true = refl
both-fail false = refl

command-words : (e : ℕ) (digits : List ℕ) → is_blank e ≡ false → words digits ≡ digits ∷ [] → words (e ∷ 105 ∷ 32 ∷ digits) ≡ (e ∷ 105 ∷ []) ∷ digits ∷ []
command-words e digits blank one = rw blank (ap (λ ws. (e ∷ 105 ∷ []) ∷ ws) one)

two-words : (e : ℕ) (digits payload : List ℕ) (side : EndLetter) → end_of (e ∷ []) ≡ Some (Known side) → hex_of digits ≡ Some payload → payload_of payload ≡ Some payload
    → two_words (e ∷ 105 ∷ []) digits ≡ Some (Issue side (Some payload))
two-words e digits payload side known hex is =
    let other : bytes_eq (e ∷ 105 ∷ []) (codes "station") ≡ false = both-fail (nat_eq e 115) in
    ap (λ (b : Bool). cond b (station_line (number_of digits)) (operand_event (e ∷ 105 ∷ []) digits)) other
    ∙ ap (λ (end : Option EndName). event_with end 105 digits) known
    ∙ ap (issue_line side) hex
    ∙ ap (λ (p : Option (List ℕ)). Some (Issue side p)) is

command-says : (e : ℕ) (digits payload : List ℕ) (side : EndLetter) → end_of (e ∷ []) ≡ Some (Known side) → is_blank e ≡ false → eqb e 35 ≡ false
    → hex_of digits ≡ Some payload → payload_of payload ≡ Some payload → words digits ≡ digits ∷ []
    → (is_passed_over (words (e ∷ 105 ∷ 32 ∷ digits)) ≡ false) × (statement_of (words (e ∷ 105 ∷ 32 ∷ digits)) ≡ Some (Issue side (Some payload)))
unfolding statement_of
command-says e digits payload side known end comment hex is one =
    let said = command-words e digits end one in
    (ap is_passed_over said ∙ comment, ap statement_of said ∙ two-words e digits payload side known hex is)

pub is-command : (line digits payload : List ℕ) (side : EndLetter)
    → 3 ≤ length line → slice_index_or line 1 0 ≡ 105 → slice_index_or line 2 0 ≡ 32 → digits ≡ drop 3 line
    → end_of (slice_index_or line 0 0 ∷ []) ≡ Some (Known side) → is_blank (slice_index_or line 0 0) ≡ false → eqb (slice_index_or line 0 0) 35 ≡ false
    → hex_of digits ≡ Some payload → payload_of payload ≡ Some payload → words digits ≡ digits ∷ []
    → (is_passed_over (words line) ≡ false) × (statement_of (words line) ≡ Some (Issue side (Some payload)))
is-command line digits payload side some letter third rest known end comment hex is one =
    let bytes = front line some third ∙ ap (λ i. slice_index_or line 0 0 ∷ i ∷ 32 ∷ drop 3 line) letter ∙ ap (λ o. slice_index_or line 0 0 ∷ 105 ∷ 32 ∷ o) (sym rest) in
    subst (λ (l : List ℕ). (is_passed_over (words l) ≡ false) × (statement_of (words l) ≡ Some (Issue side (Some payload)))) (sym bytes)
    (command-says (slice_index_or line 0 0) digits payload side known end comment hex is one)
