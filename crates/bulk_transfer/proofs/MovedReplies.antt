-- A reply that is told is what end b's station answered to that very order.
use Rattle.std.proofs.Common.{◌≡◌, ◌∙◌, ℕ, zero, suc, List, [], ◌∷◌, Option, Some, None, refl, sym, ap, subst}
use Rattle.df1_node.specs.Answer.{StationState}
use Rattle.df1_node.specs.Initiator.{Issued, Standing, Waiting, Out, Answered, Undelivered, Unanswered, InitiatorState, command}
use Rattle.script_statement.specs.declared.who.Who.TheVariants.{A, B}
use Rattle.replay_report.specs.declared.record.Line.{Line}
use Rattle.each_once.specs.Commands.{AreOutcomesTold, command_at, told_of, told_of_command}
use Rattle.each_once.specs.Exchanges.{exchanges}
use Rattle.each_once.specs.Once.{IsAnswered, IsReplyTo, Once}
use Rattle.each_once.specs.Tells.{answers_in, executed_in, outcomes_in}
use Rattle.each_once.proofs.AnsweredCommands.{answered-at}
use Rattle.each_once.proofs.CommandsUnderWay.{IsDone}
use Rattle.each_once.proofs.Sublists.{all-at}
use Rattle.bulk_transfer.proofs.MovedResults.{IsAnsweredBy}

-- what the lines tell of end a's commands: each was executed once at most and has its own reply, and how it ended
pub record AreTold (i : InitiatorState) (bodies : List (List ℕ)) (station : StationState) (lines : List Line) : Type 0 where
  pub once : Once A B bodies station lines
  pub outcomes : AreOutcomesTold A i.issued lines

same-reply : (x y : List ℕ) → Answered x ∷ [] ≡ Answered y ∷ [] → x ≡ y
same-reply x y e = cc

pub reply-told : (i : InitiatorState) (bodies : List (List ℕ)) (station : StationState) (lines : List Line) → AreTold i bodies station lines → (k : ℕ) (reply : List ℕ) → IsAnsweredBy i (suc k) reply
    → IsReplyTo bodies (exchanges station (executed_in B lines)) (suc k) reply
reply-told i bodies station lines are k reply by =
    let answers = exchanges station (executed_in B lines) in
    let told = answered-at A bodies answers i.issued lines are.outcomes k by.issued by.is_command (subst IsDone (sym by.stands) tt)
    (λ r is among. all-at (λ a. IsReplyTo bodies answers a.0 a.1) (answers_in A lines) among.0 (suc k, r) are.once.answers among.1) in
    let outcome : outcomes_in A (suc k) lines ≡ Answered reply ∷ [] = are.outcomes (suc k) ∙ ap told_of_command by.is_command ∙ ap told_of by.stands in
    subst (IsReplyTo bodies answers (suc k)) (same-reply told.reply reply (sym told.told ∙ outcome)) told.is_reply

-- ---- what is told as answered is

told-so : (standing : Standing) (reply : List ℕ) → told_of standing ≡ Answered reply ∷ [] → standing ≡ Answered reply
told-so Waiting reply told = absurd cc
told-so (Out left) reply told = absurd cc
told-so (Answered other) reply told = cc
told-so Undelivered reply told = absurd cc
told-so Unanswered reply told = absurd cc

told-command : (o : Option Issued) (reply : List ℕ) → told_of_command o ≡ Answered reply ∷ [] → (c : Issued) × (o ≡ Some c) × (c.standing ≡ Answered reply)
told-command None reply told = absurd cc
told-command (Some c) reply told = (c, refl, told-so c.standing reply told)

command-is : (i : InitiatorState) (n : ℕ) → command i n ≡ command_at i.issued n
command-is i zero = refl
command-is i (suc place) = refl

pub answered-by : (i : InitiatorState) (bodies : List (List ℕ)) (answers : List (List ℕ × List ℕ)) (lines : List Line) (n : ℕ) → AreOutcomesTold A i.issued lines → (is : IsAnswered A bodies answers lines n) → IsAnsweredBy i n is.reply
answered-by i bodies answers lines n outcomes is =
    let found = told-command (command_at i.issued n) is.reply (sym (outcomes n) ∙ is.told) in
    record { issued = found.0; is_command = command-is i n ∙ found.1; stands = found.2 }
