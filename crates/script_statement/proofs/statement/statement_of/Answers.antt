use Rattle.std.proofs.Common.{map, ◌≡◌, ◌≢◌, ◌<◌, ◌≤◌, length, sym, arith, rules, ℕ, List, Bor, None}
use Rattle.std.proofs.lemmas.List.{length-map}
use Rattle.script_statement.specs.Statements.{statement_of}
use Rattle.script_statement.proofs.Forms.{no_form}
use Rattle.script_statement.proofs.statement.statement_of.Goals as goal
use Rattle.script_statement.proofs.statement.statement_of.Goals.{in_default-via-then-words-lt1, in_default-via-else-words-lt1+else-words-lt2+else-words-lt3+else-words-lt4+else-words-lt5+else-words-lt6}

-- words of which there are none, or more than five
none : (words : List (Bor (List ℕ))) → length words ≢ 1 → length words ≢ 2 → length words ≢ 3 → length words ≢ 4 → length words ≢ 5 → None ≡ statement_of (map (λ x. x.now) words)
none words one two three four five =
    let size : length (map (λ x. x.now) words) ≡ length words = length-map _ _ in
    sym (no_form (map (λ x. x.now) words) (rw size one) (rw size two) (rw size three) (rw size four) (rw size five))

pub returns-in_default : goal.returns-in_default
returns-in_default c =
    elim c.in_default.branch [
      | in_default-via-then-words-lt1 w ↦
          let few : length c.args.words.now < 1 = search rules in
          record { value = none c.args.words.now (omega arith) (omega arith) (omega arith) (omega arith) (omega arith); memory = tt }
      | in_default-via-else-words-lt1+else-words-lt2+else-words-lt3+else-words-lt4+else-words-lt5+else-words-lt6 w ↦
          let many : 6 ≤ length c.args.words.now = search rules in
          record { value = none c.args.words.now (omega arith) (omega arith) (omega arith) (omega arith) (omega arith); memory = tt }
    ]
