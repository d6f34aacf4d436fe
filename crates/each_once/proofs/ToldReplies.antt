-- From commands with how each stands to what the lines of a report tell of them.
use Rattle.std.proofs.Common.{◌≡◌, ◌∙◌, ℕ, zero, suc, ◌≤◌, Bool, true, false, List, [], ◌∷◌, length, map, Option, Some, None, eqb, refl, ap, sym, subst, arith}
use Rattle.std.specs.Prelude.{Contains, if◌then◌else◌}
use Rattle.std.specs.Option.{option_map}
use Rattle.std.specs.List.{cons_option}
use Rattle.std.proofs.lemmas.Bool.Decides.{nat_tests}
use Rattle.std.proofs.lemmas.Option.{slice_get-map}
use Rattle.df1_node.specs.Initiator.{Issued, Standing, Waiting, Out, Answered, Undelivered, Unanswered}
use Rattle.script_statement.specs.declared.who.Who.{Who}
use Rattle.replay_report.specs.declared.record.Line.{Line}
use Rattle.replay_report.specs.declared.record.Line.TheVariants as line
use Rattle.each_once.specs.Commands.{command_at, told_of, told_of_command, AreOutcomesTold}
use Rattle.each_once.specs.Once.{IsReplyTo, IsAstray}
use Rattle.each_once.specs.Tells.{is_who, outcomes_in, given_up_in}
use Rattle.each_once.proofs.KeptCommands.{is_given_up, IsReplyOf, IsOfLost}
use Rattle.each_once.proofs.Sublists.{Has, contains-at}

-- ---- replies, over the bodies alone

pub body-at : (issued : List Issued) (number : ℕ) (c : Issued) → command_at issued number ≡ Some c → command_at (map (λ (x : Issued). x.body) issued) number ≡ Some c.body
body-at issued zero c is = absurd cc
body-at issued (suc place) c is = slice_get-map (λ (x : Issued). x.body) issued place ∙ ap (option_map (λ (x : Issued). x.body)) is

pub reply-to : (issued : List Issued) (answered : List (List ℕ × List ℕ)) (number : ℕ) (reply : List ℕ) → IsReplyOf issued answered number reply → IsReplyTo (map (λ c. c.body) issued) answered number reply
reply-to issued answered number reply r = record { body = r.command.body; is_command = body-at issued number r.command r.is_command; is_answer = r.is_answer }

-- ---- one outcome at most

one-standing : (s : Standing) → length (told_of s) ≤ 1
one-standing Waiting = omega arith
one-standing (Out left) = omega arith
one-standing (Answered reply) = omega arith
one-standing Undelivered = omega arith
one-standing Unanswered = omega arith

one-command : (o : Option Issued) → length (told_of_command o) ≤ 1
one-command None = omega arith
one-command (Some c) = one-standing c.standing

pub one-outcome : (who : Who) (issued : List Issued) (lines : List Line) → AreOutcomesTold who issued lines → (n : ℕ) → length (outcomes_in who n lines) ≤ 1
one-outcome who issued lines told n = rw (told n) (one-command (command_at issued n))

-- ---- what was given up is told as given up

has-rest : {X : Type 0} (o : Option X) (xs : List X) (x : X) → Has xs x → Has (cons_option o xs) x
has-rest None xs x h = h
has-rest (Some y) xs x h = (suc h.0, h.1)

has-both : {X : Type 0} (y : X) (xs : List X) (x : X) (P : Type 0) → (y ≡ x → P) → (Has xs x → P) → Has (y ∷ xs) x → P
has-both y xs x P here later (zero, is) = here (let same : y ≡ x = cc in same)
has-both y xs x P here later (suc k, is) = later (k, is)

same-number : (number n : ℕ) → eqb number n ≡ true → number ≡ n
same-number number n is = grind (arith, nat_tests)

-- a line of an outcome that gives a command up
given-up-line : (mine this : Bool) (number n : ℕ) (one o : Standing) (outcomes : List Standing) (numbers : List ℕ) → eqb number n ≡ this → (Has outcomes o → Has numbers n)
    → Has (cons_option (if mine then (if this then Some one else None) else None) outcomes) o → Has (cons_option (if mine then Some number else None) numbers) n
given-up-line false this number n one o outcomes numbers is later h = later h
given-up-line true false number n one o outcomes numbers is later h = has-rest (Some number) numbers n (later h)
given-up-line true true number n one o outcomes numbers is later h = (zero, ap Some (same-number number n is))

-- a line of an answer
answer-line : (mine this : Bool) (reply : List ℕ) (o : Standing) (outcomes : List Standing) (P : Type 0) → is_given_up o ≡ true → (Has outcomes o → P) → Has (cons_option (if mine then (if this then Some (Answered reply) else None) else None) outcomes) o → P
answer-line false this reply o outcomes P up later h = later h
answer-line true false reply o outcomes P up later h = later h
answer-line true true reply o outcomes P up later h =
    has-both (Answered reply) outcomes o P (λ same. absurd (let no : is_given_up (Answered reply) ≡ true = ap is_given_up same ∙ up in cc)) later h

given-up-told : (who : Who) (n : ℕ) (lines : List Line) (o : Standing) → is_given_up o ≡ true → Has (outcomes_in who n lines) o → Has (given_up_in who lines) n
given-up-told who n [] o up h = absurd (let at : None ≡ Some o = h.1 in cc)
given-up-told who n (line.Answered by number body ∷ lines) o up h = answer-line (is_who who by) (eqb number n) body o (outcomes_in who n lines) (Has (given_up_in who lines) n) up (given-up-told who n lines o up) h
given-up-told who n (line.Undelivered by number ∷ lines) o up h = given-up-line (is_who who by) (eqb number n) number n Undelivered o (outcomes_in who n lines) (given_up_in who lines) refl (given-up-told who n lines o up) h
given-up-told who n (line.Unanswered by number ∷ lines) o up h = given-up-line (is_who who by) (eqb number n) number n Unanswered o (outcomes_in who n lines) (given_up_in who lines) refl (given-up-told who n lines o up) h
given-up-told who n (line.Sent by bytes ∷ lines) o up h = given-up-told who n lines o up h
given-up-told who n (line.Exec by body ∷ lines) o up h = given-up-told who n lines o up h
given-up-told who n (line.Stray by body ∷ lines) o up h = given-up-told who n lines o up h
given-up-told who n (line.Routed by body ∷ lines) o up h = given-up-told who n lines o up h
given-up-told who n (line.Repeat by ∷ lines) o up h = given-up-told who n lines o up h
given-up-told who n (line.Full by ∷ lines) o up h = given-up-told who n lines o up h
given-up-told who n (line.Damaged by ∷ lines) o up h = given-up-told who n lines o up h
given-up-told who n (line.Enquiry by ∷ lines) o up h = given-up-told who n lines o up h
given-up-told who n (line.Dropped by ∷ lines) o up h = given-up-told who n lines o up h

up-told : (s : Standing) → is_given_up s ≡ true → Has (told_of s) s
up-told Waiting up = absurd cc
up-told (Out left) up = absurd cc
up-told (Answered reply) up = absurd cc
up-told Undelivered up = (zero, refl)
up-told Unanswered up = (zero, refl)

-- a command that was given up is told as given up
pub number-told : (who : Who) (issued : List Issued) (lines : List Line) (number : ℕ) (c : Issued) → AreOutcomesTold who issued lines → command_at issued number ≡ Some c → is_given_up c.standing ≡ true → Contains (given_up_in who lines) number
number-told who issued lines number c told is up =
    let outcome : outcomes_in who number lines ≡ told_of c.standing = told number ∙ ap told_of_command is in
    let has = given-up-told who number lines c.standing up (subst (λ (os : List Standing). Has os c.standing) (sym outcome) (up-told c.standing up)) in
    contains-at (given_up_in who lines) has.0 number has.1

pub astray-told : (who : Who) (issued : List Issued) (lines : List Line) (answered : List (List ℕ × List ℕ)) (reply : List ℕ) → AreOutcomesTold who issued lines → IsOfLost issued answered reply
    → IsAstray (map (λ c. c.body) issued) answered (given_up_in who lines) reply
astray-told who issued lines answered reply told a = record {
  number = a.number;
  replies = reply-to issued answered a.number reply a.replies;
  is_given_up = number-told who issued lines a.number a.replies.command told a.replies.is_command a.given_up;
}
