-- A line that is a step: its words, and the statement that they are, without a look at the other forms.
use Rattle.std.proofs.Common.{◌≡◌, ◌≤◌, ◌∙◌, ◌&&◌, ℕ, Bool, true, false, cond, eqb, List, [], ◌∷◌, Option, Some, None, refl, sym, ap, subst, arith, length, drop, nat_eq, slice_index_or}
use Rattle.std.specs.Prelude.{codes, filter, not}
use Rattle.std.specs.Char.{is_ascii_digit}
use Rattle.std.specs.List.{list_all, slice_split, onto_first}
use Rattle.std.specs.Str.{bytes_eq}
use Rattle.std.proofs.lemmas.Grind.{common_steps}
use Rattle.script_statement.specs.Statements.{end_of, event_with, operand_event, side_event, station_line, statement_of, times_line, two_words, verb_of}
use Rattle.script_statement.specs.Words.{is_blank, is_number, number_of, within, words}
use Rattle.script_statement.specs.declared.statement.EndName.{EndName}
use Rattle.script_statement.specs.declared.statement.EndName.TheVariants.{Known}
use Rattle.script_statement.specs.declared.statement.EndLetter.{EndLetter}
use Rattle.script_statement.specs.declared.statement.Verb.{Verb}
use Rattle.script_statement.specs.declared.statement.Statement.TheVariants.{Times}
use Rattle.line_script.specs.Lines.{is_passed_over}

both_fail : (a b : Bool) → (a && (b && false)) ≡ false
both_fail true true = refl
both_fail true false = refl
both_fail false b = refl

pub in_bounds : (n : ℕ) → 1 ≤ n → n ≤ 99 → within 1 4000000 (Some n) ≡ Some n
in_bounds n least most = grind (arith, common_steps)

pub digit_in_word : (d : ℕ) → is_ascii_digit d ≡ true → is_blank d ≡ false
digit_in_word d is = grind (arith, common_steps)

-- digits are one word
digits_are_one : (word : List ℕ) → list_all is_ascii_digit word ≡ true → slice_split is_blank word ≡ word ∷ []
digits_are_one [] all = refl
digits_are_one (d ∷ word) all =
    let first : is_ascii_digit d ≡ true = grind (arith, common_steps) in
    let rest : list_all is_ascii_digit word ≡ true = grind (arith, common_steps) in
    rw (digit_in_word d first) (ap (onto_first d) (digits_are_one word rest))

-- a number is digits, at least one
pub number_is_digits : (word : List ℕ) (n : ℕ) → number_of word ≡ Some n → is_number word ≡ true
unfolding number_of
number_is_digits word n is = elim (is_number word) as (λ b. is_number word ≡ b → cond b (Some (Rattle.std.specs.Str.Parse.digits_value 10 word)) None ≡ Some n → is_number word ≡ true) [
  | true ↦ λ e is. e
  | false ↦ λ e is. cc
] refl is

pub number_is_one : (word : List ℕ) (n : ℕ) → number_of word ≡ Some n → filter (λ w. not (eqb (length w) 0)) (slice_split is_blank word) ≡ word ∷ []
number_is_one word n is =
    let number = number_is_digits word n is in
    let all : list_all is_ascii_digit word ≡ true = grind (arith, common_steps) in
    let some : eqb (length word) 0 ≡ false = grind (arith, common_steps) in
    ap (filter (λ (w : List ℕ). not (eqb (length w) 0))) (digits_are_one word all) ∙ rw some refl

-- an end and a verb in one word, and a number
pub step_words : (e v : ℕ) (operand : List ℕ) (n : ℕ) → is_blank e ≡ false → is_blank v ≡ false → number_of operand ≡ Some n
    → words (e ∷ v ∷ 32 ∷ operand) ≡ (e ∷ v ∷ []) ∷ operand ∷ []
step_words e v operand n end verb is = rw (end, verb) (ap (λ ws. (e ∷ v ∷ []) ∷ ws) (number_is_one operand n is))

two_bytes : (e v : ℕ) (operand : List ℕ) (side : EndLetter) (verb : Verb) (n : ℕ)
    → end_of (e ∷ []) ≡ Some (Known side)
    → ((s : EndLetter) (o : List ℕ) → side_event s v o ≡ times_line s (Some verb) (number_of o))
    → number_of operand ≡ Some n → 1 ≤ n → n ≤ 99
    → two_words (e ∷ v ∷ []) operand ≡ Some (Times side verb (Some n))
two_bytes e v operand side verb n known letter counted least most =
    let other : bytes_eq (e ∷ v ∷ []) (codes "station") ≡ false = both_fail (nat_eq e 115) (nat_eq v 116) in
    ap (λ (b : Bool). cond b (station_line (number_of operand)) (operand_event (e ∷ v ∷ []) operand)) other
    ∙ ap (λ (end : Option EndName). event_with end v operand) known
    ∙ letter side operand
    ∙ ap (times_line side (Some verb)) counted
    ∙ ap (λ (m : Option ℕ). Some (Times side verb m)) (in_bounds n least most)

-- ---- the letter of a verb

-- a verb of a step is by one of four letters
pub letter_of : (v : ℕ) (verb : Verb) → verb_of v ≡ Some verb → (is_blank v ≡ false) × (eqb v 105 ≡ false) × (eqb v 99 ≡ false) × (eqb v 110 ≡ false)
letter_of v verb is = (grind (arith, common_steps), grind (arith, common_steps), grind (arith, common_steps), grind (arith, common_steps))

by_letter : (v : ℕ) (verb : Verb) → verb_of v ≡ Some verb → (side : EndLetter) (operand : List ℕ) → side_event side v operand ≡ times_line side (Some verb) (number_of operand)
by_letter v verb is side operand = let other = letter_of v verb is in rw (other.1, other.2, other.3) (ap (λ (w : Option Verb). times_line side w (number_of operand)) is)

-- what a step says
step_says : (e v : ℕ) (operand : List ℕ) (side : EndLetter) (verb : Verb) (n : ℕ)
    → end_of (e ∷ []) ≡ Some (Known side) → is_blank e ≡ false → eqb e 35 ≡ false
    → is_blank v ≡ false → ((s : EndLetter) (o : List ℕ) → side_event s v o ≡ times_line s (Some verb) (number_of o))
    → number_of operand ≡ Some n → 1 ≤ n → n ≤ 99
    → (is_passed_over (words (e ∷ v ∷ 32 ∷ operand)) ≡ false) × (statement_of (words (e ∷ v ∷ 32 ∷ operand)) ≡ Some (Times side verb (Some n)))
unfolding statement_of
step_says e v operand side verb n known end comment blank letter counted least most =
    let said = step_words e v operand n end blank counted in
    (ap is_passed_over said ∙ comment, ap statement_of said ∙ two_bytes e v operand side verb n known letter counted least most)

-- the bytes of a line of three and more
pub front : (line : List ℕ) → 3 ≤ length line → slice_index_or line 2 0 ≡ 32 → line ≡ slice_index_or line 0 0 ∷ slice_index_or line 1 0 ∷ 32 ∷ drop 3 line
front [] some third = absurd (omega (arith, some))
front (a ∷ []) some third = absurd (omega (arith, some))
front (a ∷ b ∷ []) some third = absurd (omega (arith, some))
front (a ∷ b ∷ c ∷ rest) some third = ap (λ x. a ∷ b ∷ x ∷ rest) third

pub is_step : (line operand : List ℕ) (side : EndLetter) (verb : Verb) (n : ℕ)
    → 3 ≤ length line → slice_index_or line 2 0 ≡ 32 → operand ≡ drop 3 line
    → end_of (slice_index_or line 0 0 ∷ []) ≡ Some (Known side) → is_blank (slice_index_or line 0 0) ≡ false → eqb (slice_index_or line 0 0) 35 ≡ false
    → verb_of (slice_index_or line 1 0) ≡ Some verb → number_of operand ≡ Some n → 1 ≤ n → n ≤ 99
    → (is_passed_over (words line) ≡ false) × (statement_of (words line) ≡ Some (Times side verb (Some n)))
is_step line operand side verb n some third rest known end comment letter counted least most =
    let bytes = front line some third ∙ ap (λ o. slice_index_or line 0 0 ∷ slice_index_or line 1 0 ∷ 32 ∷ o) (sym rest) in
    subst (λ (l : List ℕ). (is_passed_over (words l) ≡ false) × (statement_of (words l) ≡ Some (Times side verb (Some n)))) (sym bytes)
    (step_says (slice_index_or line 0 0) (slice_index_or line 1 0) operand side verb n known end comment (letter_of (slice_index_or line 1 0) verb letter).0 (by_letter (slice_index_or line 1 0) verb letter) counted least most)
