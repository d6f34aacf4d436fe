-- A line by which bytes of a master arrive at a station: its words, and the statement that they are, without a look at the other forms.
use Rattle.std.proofs.Common.{◌≡◌, ◌≤◌, ◌∙◌, ℕ, false, List, [], ◌∷◌, Option, Some, refl, sym, ap, arith, length, drop, slice_index_or}
use Rattle.script_statement.specs.Statements.{half_deliver, half_line, statement_of, to_station}
use Rattle.script_statement.specs.Words.{number_of, words}
use Rattle.script_statement.specs.declared.half_event.HalfEvent.TheVariants.{Deliver}
use Rattle.script_statement.specs.declared.half_event.Way.TheVariants.{ToStation}
use Rattle.script_statement.specs.declared.statement.Statement.TheVariants.{Half}
use Rattle.line_script.specs.Lines.{is_passed_over}
use Rattle.line_script.specs.Steps.{delivery}
use Rattle.line_script.proofs.Steps.{in_bounds, number_is_one}

words_of_line : (operands : List ℕ) → words (109 ∷ 100 ∷ 32 ∷ operands) ≡ (109 ∷ 100 ∷ []) ∷ words operands
words_of_line operands = refl

said : (first second : List ℕ) (station n : ℕ) → number_of first ≡ Some station → number_of second ≡ Some n → 1 ≤ n → n ≤ 99
    → statement_of ((109 ∷ 100 ∷ []) ∷ first ∷ second ∷ []) ≡ Some (delivery station n)
unfolding statement_of
said first second station n is_station is_count least most =
    ap (λ (o : Option ℕ). half_line (to_station o 100 second)) is_station
    ∙ ap (λ (o : Option ℕ). half_line (half_deliver (ToStation station) o)) is_count
    ∙ ap (λ (m : Option ℕ). Some (Half (Deliver (ToStation station) m))) (in_bounds n least most)

-- the master's letter with that of arriving, the number of a station, and a count
pub delivery_says : (line operands first second : List ℕ) (station n : ℕ) → line ≡ 109 ∷ 100 ∷ 32 ∷ operands
    → words operands ≡ first ∷ words second → number_of first ≡ Some station → number_of second ≡ Some n → 1 ≤ n → n ≤ 99
    → (is_passed_over (words line) ≡ false) × (statement_of (words line) ≡ Some (delivery station n))
delivery_says line operands first second station n bytes one is_station is_count least most =
    let all : words line ≡ (109 ∷ 100 ∷ []) ∷ first ∷ second ∷ [] =
    ap words bytes ∙ words_of_line operands ∙ ap (λ (ws : List (List ℕ)). (109 ∷ 100 ∷ []) ∷ ws) (one ∙ ap (λ (ws : List (List ℕ)). first ∷ ws) (number_is_one second n is_count)) in
    (ap is_passed_over all, ap statement_of all ∙ said first second station n is_station is_count least most)

-- the bytes of a line of three and more that begins with both letters and a blank
pub front : (line operands : List ℕ) → 3 ≤ length line → slice_index_or line 0 0 ≡ 109 → slice_index_or line 1 0 ≡ 100 → slice_index_or line 2 0 ≡ 32 → operands ≡ drop 3 line
    → line ≡ 109 ∷ 100 ∷ 32 ∷ operands
front [] operands some m d blank rest = absurd (omega (arith, some))
front (_ ∷ []) operands some m d blank rest = absurd (omega (arith, some))
front (_ ∷ _ ∷ []) operands some m d blank rest = absurd (omega (arith, some))
front (b0 ∷ b1 ∷ b2 ∷ more) operands some m d blank rest =
    ap (λ x. x ∷ b1 ∷ b2 ∷ more) m ∙ ap (λ x. 109 ∷ x ∷ b2 ∷ more) d ∙ ap (λ x. 109 ∷ 100 ∷ x ∷ more) blank ∙ ap (λ t. 109 ∷ 100 ∷ 32 ∷ t) (sym rest)
