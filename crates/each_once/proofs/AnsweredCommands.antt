-- A command that is answered is told as such, and its answer is told.
use Rattle.std.proofs.Common.{◌≡◌, ◌∙◌, ℕ, suc, Bool, true, false, List, [], ◌∷◌, Option, Some, None, refl, ap, sym}
use Rattle.std.specs.Prelude.{slice_get, ◌==◌}
use Rattle.std.proofs.lemmas.Bool.{eqb-true}
use Rattle.df1_node.specs.Initiator.{Issued, Standing, Answered, Undelivered, Unanswered}
use Rattle.script_statement.specs.declared.who.Who.{Who}
use Rattle.replay_report.specs.declared.record.Line.{Line}
use Rattle.replay_report.specs.declared.record.Line.TheVariants as line
use Rattle.each_once.specs.Commands.{told_of, told_of_command, AreOutcomesTold}
use Rattle.each_once.specs.Once.{IsReplyTo, IsAnswered}
use Rattle.each_once.specs.Tells.{is_who, where_of_command, outcome_at, answers_in, outcomes_in}
use Rattle.each_once.proofs.CommandsUnderWay.{IsDone}

-- ---- an outcome that is a reply is told as an answer

-- the answers have this at some place
abbrev pub IsAmong : ℕ → List ℕ → List (ℕ × List ℕ) → Type 0
IsAmong n reply answers = (k : ℕ) × (slice_get answers k ≡ Some (n, reply))

answered-first : (who by : Who) (n number : ℕ) (reply body : List ℕ) (lines : List Line) (own same : Bool) → is_who who by ≡ own → (number == n) ≡ same → slice_get (outcomes_in who n (line.Answered by number body ∷ lines)) 0 ≡ Some (Answered reply)
    → (slice_get (outcomes_in who n lines) 0 ≡ Some (Answered reply) → IsAmong n reply (answers_in who lines)) → IsAmong n reply (answers_in who (line.Answered by number body ∷ lines))
answered-first who by n number reply body lines true true is at first later =
    let here : outcomes_in who n (line.Answered by number body ∷ lines) ≡ Answered body ∷ outcomes_in who n lines = rw (is, at) refl in
    let answer : Some (Answered body) ≡ Some (Answered reply) = ap (λ (os : List Standing). slice_get os 0) (sym here) ∙ first in
    (0, rw is (ap (λ (m : ℕ). Some (m, body)) (eqb-true number n at) ∙ ap (λ (r : List ℕ). Some (n, r)) (reply-of body reply answer)))
  where
    reply-of : (x y : List ℕ) → Some (Answered x) ≡ Some (Answered y) → x ≡ y
    reply-of x y e = cc
answered-first who by n number reply body lines true false is at first later =
    let here : outcomes_in who n (line.Answered by number body ∷ lines) ≡ outcomes_in who n lines = rw (is, at) refl in
    let among = later (ap (λ (os : List Standing). slice_get os 0) (sym here) ∙ first) in
    let told : answers_in who (line.Answered by number body ∷ lines) ≡ (number, body) ∷ answers_in who lines = rw is refl in
    (suc among.0, ap (λ (all : List (ℕ × List ℕ)). slice_get all (suc among.0)) told ∙ among.1)
answered-first who by n number reply body lines false same is at first later =
    let here : outcomes_in who n (line.Answered by number body ∷ lines) ≡ outcomes_in who n lines = rw is refl in
    let among = later (ap (λ (os : List Standing). slice_get os 0) (sym here) ∙ first) in
    let told : answers_in who (line.Answered by number body ∷ lines) ≡ answers_in who lines = rw is refl in
    (among.0, ap (λ (all : List (ℕ × List ℕ)). slice_get all among.0) told ∙ among.1)

-- a command that was given up has no answer as its outcome
not-answered : (who by : Who) (n number : ℕ) (reply : List ℕ) (outcome : Standing) → (Some outcome ≡ Some (Answered reply) → ⊥) → (own same : Bool) → is_who who by ≡ own → (number == n) ≡ same → where_of_command who n by number outcome ≡ Some (Answered reply) → ⊥
not-answered who by n number reply outcome other true true is at told = let here : where_of_command who n by number outcome ≡ Some outcome = rw (is, at) refl in other (sym here ∙ told)
not-answered who by n number reply outcome other true false is at told = let here : where_of_command who n by number outcome ≡ None = rw (is, at) refl in let no : None ≡ Some (Answered reply) = sym here ∙ told in absurd cc
not-answered who by n number reply outcome other false same is at told = let here : where_of_command who n by number outcome ≡ None = rw is refl in let no : None ≡ Some (Answered reply) = sym here ∙ told in absurd cc

-- so where its line is the first, the first answer is told behind it
later-first : (who : Who) (n : ℕ) (reply : List ℕ) (told : Line) (lines : List Line) (outcome : Option Standing) → outcome_at who n told ≡ outcome → (outcome ≡ Some (Answered reply) → ⊥) → slice_get (outcomes_in who n (told ∷ lines)) 0 ≡ Some (Answered reply)
    → slice_get (outcomes_in who n lines) 0 ≡ Some (Answered reply)
later-first who n reply told lines None is other first =
    let here : outcomes_in who n (told ∷ lines) ≡ outcomes_in who n lines = rw is refl in
    ap (λ (os : List Standing). slice_get os 0) (sym here) ∙ first
later-first who n reply told lines (Some outcome) is other first =
    let here : outcomes_in who n (told ∷ lines) ≡ outcome ∷ outcomes_in who n lines = rw is refl in
    absurd (other (ap (λ (os : List Standing). slice_get os 0) (sym here) ∙ first))

first-answer : (who : Who) (n : ℕ) (reply : List ℕ) (lines : List Line) → slice_get (outcomes_in who n lines) 0 ≡ Some (Answered reply) → IsAmong n reply (answers_in who lines)
first-answer who n reply [] is = absurd cc
first-answer who n reply (line.Sent by bytes ∷ lines) is = first-answer who n reply lines is
first-answer who n reply (line.Exec by body ∷ lines) is = first-answer who n reply lines is
first-answer who n reply (line.Answered by number body ∷ lines) is = answered-first who by n number reply body lines (is_who who by) (number == n) refl refl is (first-answer who n reply lines)
first-answer who n reply (line.Undelivered by number ∷ lines) is = first-answer who n reply lines (later-first who n reply (line.Undelivered by number) lines _ refl (not-answered who by n number reply Undelivered (λ e. absurd cc) (is_who who by) (number == n) refl refl) is)
first-answer who n reply (line.Unanswered by number ∷ lines) is = first-answer who n reply lines (later-first who n reply (line.Unanswered by number) lines _ refl (not-answered who by n number reply Unanswered (λ e. absurd cc) (is_who who by) (number == n) refl refl) is)
first-answer who n reply (line.Stray by body ∷ lines) is = first-answer who n reply lines is
first-answer who n reply (line.Routed by body ∷ lines) is = first-answer who n reply lines is
first-answer who n reply (line.Repeat by ∷ lines) is = first-answer who n reply lines is
first-answer who n reply (line.Full by ∷ lines) is = first-answer who n reply lines is
first-answer who n reply (line.Damaged by ∷ lines) is = first-answer who n reply lines is
first-answer who n reply (line.Enquiry by ∷ lines) is = first-answer who n reply lines is
first-answer who n reply (line.Dropped by ∷ lines) is = first-answer who n reply lines is

-- ---- an answered command

answered-by : (s : Standing) → IsDone s → (reply : List ℕ) × (s ≡ Answered reply)
answered-by (Answered reply) done = (reply, refl)
answered-by other done = absurd done

-- it is told as such, where the reply that is told is the station's to it
pub answered-at : (from : Who) (bodies : List (List ℕ)) (answered : List (List ℕ × List ℕ)) (issued : List Issued) (lines : List Line) → AreOutcomesTold from issued lines → (k : ℕ) (c : Issued) → slice_get issued k ≡ Some c → IsDone c.standing
    → ((reply : List ℕ) → c.standing ≡ Answered reply → IsAmong (suc k) reply (answers_in from lines) → IsReplyTo bodies answered (suc k) reply) → IsAnswered from bodies answered lines (suc k)
answered-at from bodies answered issued lines told k c is done replies =
    let by = answered-by c.standing done in
    let outcome : outcomes_in from (suc k) lines ≡ Answered by.0 ∷ [] = told (suc k) ∙ ap told_of_command is ∙ ap told_of by.1 in
    let among = first-answer from (suc k) by.0 lines (ap (λ (os : List Standing). slice_get os 0) outcome) in
    record { reply = by.0; told = outcome; is_reply = replies by.0 by.1 among }
