-- A line that gives the first value of a word: its words, and the statement that they are, without a look at the other forms.
use Rattle.std.proofs.Common.{◌≡◌, ◌≤◌, ◌<◌, ◌∙◌, ◌+◌, ◌-◌, ◌++◌, ℕ, suc, true, false, eqb, List, [], ◌∷◌, Option, Some, get_or, slice_index_or, drop-cons, refl, sym, ap, arith, length, drop, take}
use Rattle.std.specs.Prelude.{filter, not}
use Rattle.std.specs.List.{position}
use Rattle.std.proofs.Math.Numerals.{suc-eq-add-one}
use Rattle.std.specs.Char.{is_ascii_digit}
use Rattle.std.specs.List.{list_all, slice_split, onto_first}
use Rattle.std.proofs.lemmas.Bool.{eqb-true}
use Rattle.std.proofs.lemmas.Grind.{common_steps}
use Rattle.std.proofs.lemmas.List.{take-append-drop, take_rest}
use Rattle.std.proofs.lemmas.List.Quantifiers.{position-Some}
use Rattle.duplex_script.specs.Drafts.{word_given}
use Rattle.script_statement.specs.Statements.{end_of, statement_of, word_line}
use Rattle.script_statement.specs.Words.{is_blank, number_of, register_of, within, words}
use Rattle.script_statement.specs.declared.statement.EndName.{EndName}
use Rattle.script_statement.specs.declared.statement.EndName.TheVariants.{Known}
use Rattle.script_statement.specs.declared.statement.EndLetter.{EndLetter}
use Rattle.script_statement.specs.declared.statement.Statement.TheVariants.{Setup}
use Rattle.script_statement.specs.declared.setup_statement.SetupStatement.TheVariants.{Word}
use Rattle.line_script.specs.Lines.{is_passed_over}
use Rattle.line_script.proofs.Steps.{digit_in_word, number_is_digits}

-- digits before a blank are a word
digits_first : (word rest : List ℕ) → list_all is_ascii_digit word ≡ true → slice_split is_blank (word ++ 32 ∷ rest) ≡ word ∷ slice_split is_blank rest
digits_first [] rest all = refl
digits_first (d ∷ word) rest all =
    let first : is_ascii_digit d ≡ true = grind (arith, common_steps) in
    let more : list_all is_ascii_digit word ≡ true = grind (arith, common_steps) in
    rw (digit_in_word d first) (ap (onto_first d) (digits_first word rest more))

number_first : (word rest : List ℕ) (n : ℕ) → number_of word ≡ Some n → words (word ++ 32 ∷ rest) ≡ word ∷ words rest
number_first word rest n is =
    let number = number_is_digits word n is in
    let all : list_all is_ascii_digit word ≡ true = grind (arith, common_steps) in
    let some : eqb (length word) 0 ≡ false = grind (arith, common_steps) in
    ap (filter (λ (w : List ℕ). not (eqb (length w) 0))) (digits_first word rest all) ∙ rw some refl

pub cut_at : (bytes : List ℕ) (i : ℕ) → position (λ b. eqb b 32) bytes ≡ Some i → bytes ≡ take i bytes ++ 32 ∷ take (length bytes - (i + 1)) (drop (i + 1) bytes)
cut_at bytes i found =
    let at = position-Some (λ b. eqb b 32) bytes i 0 found in
    let lt : i < length bytes = at.0 in
    let blank : get_or bytes i 0 ≡ 32 = eqb-true (get_or bytes i 0) 32 at.1 in
    sym (take-append-drop i bytes) ∙ ap (λ t. take i bytes ++ t) (drop-cons bytes i 0 lt ∙ ap (λ b. b ∷ drop (suc i) bytes) blank ∙ ap (λ j. 32 ∷ drop j bytes) (suc-eq-add-one i) ∙ ap (λ t. 32 ∷ t) (sym (take_rest bytes (i + 1))))

-- a number before the first blank, and the words behind that
pub number_cut : (bytes : List ℕ) (i n : ℕ) → position (λ b. eqb b 32) bytes ≡ Some i → number_of (take i bytes) ≡ Some n
    → words bytes ≡ take i bytes ∷ words (take (length bytes - (i + 1)) (drop (i + 1) bytes))
number_cut bytes i n found is = ap words (cut_at bytes i found) ∙ number_first (take i bytes) (take (length bytes - (i + 1)) (drop (i + 1) bytes)) n is

-- ---- a whole line

words_of_line : (e : ℕ) (operands : List ℕ) → is_blank e ≡ false → words (119 ∷ 111 ∷ 114 ∷ 100 ∷ 32 ∷ e ∷ 32 ∷ operands) ≡ (119 ∷ 111 ∷ 114 ∷ 100 ∷ []) ∷ (e ∷ []) ∷ words operands
words_of_line e operands blank = rw blank refl

said : (e : ℕ) (first second third : List ℕ) (side : EndLetter) (number file index value : ℕ)
    → end_of (e ∷ []) ≡ Some (Known side) → number_of first ≡ Some number → number_of second ≡ Some index → register_of third ≡ Some value → within 0 999 (Some number) ≡ Some file
    → statement_of ((119 ∷ 111 ∷ 114 ∷ 100 ∷ []) ∷ (e ∷ []) ∷ first ∷ second ∷ third ∷ []) ≡ Some (word_given side file index value)
unfolding statement_of
said e first second third side number file index value end is_number is_index is_value is_file =
    ap (λ (o : Option EndName). word_line o (number_of first) (number_of second) (register_of third)) end
    ∙ ap (λ (o : Option ℕ). word_line (Some (Known side)) o (number_of second) (register_of third)) is_number
    ∙ ap (λ (o : Option ℕ). word_line (Some (Known side)) (Some number) o (register_of third)) is_index
    ∙ ap (λ (o : Option ℕ). word_line (Some (Known side)) (Some number) (Some index) o) is_value
    ∙ ap (λ (o : Option ℕ). Some (Setup (Known side) (Word o index value))) is_file

-- the name, an end, two numbers and a value
pub word_says : (line operands first rest second third : List ℕ) (e : ℕ) (side : EndLetter) (number file index value : ℕ)
    → line ≡ 119 ∷ 111 ∷ 114 ∷ 100 ∷ 32 ∷ e ∷ 32 ∷ operands → end_of (e ∷ []) ≡ Some (Known side) → is_blank e ≡ false
    → words operands ≡ first ∷ words rest → number_of first ≡ Some number → words rest ≡ second ∷ words third → number_of second ≡ Some index
    → words third ≡ third ∷ [] → register_of third ≡ Some value → within 0 999 (Some number) ≡ Some file
    → (is_passed_over (words line) ≡ false) × (statement_of (words line) ≡ Some (word_given side file index value))
word_says line operands first rest second third e side number file index value bytes end blank one is_number two is_index three is_value is_file =
    let all : words line ≡ (119 ∷ 111 ∷ 114 ∷ 100 ∷ []) ∷ (e ∷ []) ∷ first ∷ second ∷ third ∷ [] =
    ap words bytes ∙ words_of_line e operands blank ∙ ap (λ (ws : List (List ℕ)). (119 ∷ 111 ∷ 114 ∷ 100 ∷ []) ∷ (e ∷ []) ∷ ws) (one ∙ ap (λ (ws : List (List ℕ)). first ∷ ws) (two ∙ ap (λ (ws : List (List ℕ)). second ∷ ws) three)) in
    (ap is_passed_over all, ap statement_of all ∙ said e first second third side number file index value end is_number is_index is_value is_file)

-- the bytes of a line of seven and more that begins with the name, and has an end between blanks
pub front : (line operands : List ℕ) → 7 ≤ length line → slice_index_or line 0 0 ≡ 119 → slice_index_or line 1 0 ≡ 111 → slice_index_or line 2 0 ≡ 114 → slice_index_or line 3 0 ≡ 100
    → slice_index_or line 4 0 ≡ 32 → slice_index_or line 6 0 ≡ 32 → operands ≡ drop 7 line
    → line ≡ 119 ∷ 111 ∷ 114 ∷ 100 ∷ 32 ∷ slice_index_or line 5 0 ∷ 32 ∷ operands
front [] operands some w o r d b c rest = absurd (omega (arith, some))
front (_ ∷ []) operands some w o r d b c rest = absurd (omega (arith, some))
front (_ ∷ _ ∷ []) operands some w o r d b c rest = absurd (omega (arith, some))
front (_ ∷ _ ∷ _ ∷ []) operands some w o r d b c rest = absurd (omega (arith, some))
front (_ ∷ _ ∷ _ ∷ _ ∷ []) operands some w o r d b c rest = absurd (omega (arith, some))
front (_ ∷ _ ∷ _ ∷ _ ∷ _ ∷ []) operands some w o r d b c rest = absurd (omega (arith, some))
front (_ ∷ _ ∷ _ ∷ _ ∷ _ ∷ _ ∷ []) operands some w o r d b c rest = absurd (omega (arith, some))
front (b0 ∷ b1 ∷ b2 ∷ b3 ∷ b4 ∷ b5 ∷ b6 ∷ more) operands some w o r d b c rest =
    ap (λ x. x ∷ b1 ∷ b2 ∷ b3 ∷ b4 ∷ b5 ∷ b6 ∷ more) w ∙ ap (λ x. 119 ∷ x ∷ b2 ∷ b3 ∷ b4 ∷ b5 ∷ b6 ∷ more) o ∙ ap (λ x. 119 ∷ 111 ∷ x ∷ b3 ∷ b4 ∷ b5 ∷ b6 ∷ more) r
    ∙ ap (λ x. 119 ∷ 111 ∷ 114 ∷ x ∷ b4 ∷ b5 ∷ b6 ∷ more) d ∙ ap (λ x. 119 ∷ 111 ∷ 114 ∷ 100 ∷ x ∷ b5 ∷ b6 ∷ more) b ∙ ap (λ x. 119 ∷ 111 ∷ 114 ∷ 100 ∷ 32 ∷ b5 ∷ x ∷ more) c
    ∙ ap (λ t. 119 ∷ 111 ∷ 114 ∷ 100 ∷ 32 ∷ b5 ∷ 32 ∷ t) (sym rest)
