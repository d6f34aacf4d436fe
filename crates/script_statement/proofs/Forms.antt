-- Lines that are none of the forms by the count of their words.
use Rattle.std.proofs.Common.{◌≡◌, ◌≢◌, ℕ, List, [], ◌∷◌, length, take, None, refl}
use Rattle.script_statement.specs.Statements.{station_issue, statement_of}

pub no_form : (words : List (List ℕ)) → length words ≢ 1 → length words ≢ 2 → length words ≢ 3 → length words ≢ 4 → length words ≢ 5 → statement_of words ≡ None
unfolding statement_of
no_form [] one two three four five = refl
no_form (a ∷ []) one two three four five = absurd (one refl)
no_form (a ∷ b ∷ []) one two three four five = absurd (two refl)
no_form (a ∷ b ∷ c ∷ []) one two three four five = absurd (three refl)
no_form (a ∷ b ∷ c ∷ d ∷ []) one two three four five = absurd (four refl)
no_form (a ∷ b ∷ c ∷ d ∷ e ∷ []) one two three four five = absurd (five refl)
no_form (a ∷ b ∷ c ∷ d ∷ e ∷ f ∷ more) one two three four five = refl

-- a line is read by its first six words
pub first_six : (words : List (List ℕ)) → statement_of (take 6 words) ≡ statement_of words
unfolding statement_of
first_six [] = refl
first_six (a ∷ []) = refl
first_six (a ∷ b ∷ []) = refl
first_six (a ∷ b ∷ c ∷ []) = refl
first_six (a ∷ b ∷ c ∷ d ∷ []) = refl
first_six (a ∷ b ∷ c ∷ d ∷ e ∷ []) = refl
first_six (a ∷ b ∷ c ∷ d ∷ e ∷ f ∷ more) = refl

pub no_command : (words : List (List ℕ)) → length words ≢ 3 → station_issue words ≡ None
unfolding station_issue
no_command [] three = refl
no_command (a ∷ []) three = refl
no_command (a ∷ b ∷ []) three = refl
no_command (a ∷ b ∷ c ∷ []) three = absurd (three refl)
no_command (a ∷ b ∷ c ∷ d ∷ more) three = refl

pub command_by_six : (words : List (List ℕ)) → station_issue (take 6 words) ≡ station_issue words
unfolding station_issue
command_by_six [] = refl
command_by_six (a ∷ []) = refl
command_by_six (a ∷ b ∷ []) = refl
command_by_six (a ∷ b ∷ c ∷ []) = refl
command_by_six (a ∷ b ∷ c ∷ d ∷ more) = refl
