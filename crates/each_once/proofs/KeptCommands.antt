-- What holds of replies while a run goes on, over commands with how each stands.
use Rattle.std.proofs.Common.{◌≡◌, ℕ, Bool, true, false, List, Some}
use Rattle.std.specs.Prelude.{Contains}
use Rattle.df1_node.specs.Initiator.{Issued, Standing, Waiting, Out, Answered, Undelivered, Unanswered}
use Rattle.each_once.specs.Commands.{command_at}

-- the command ended without an answer
abbrev pub is_given_up : Standing → Bool
is_given_up Waiting = false
is_given_up (Out left) = false
is_given_up (Answered reply) = false
is_given_up Undelivered = true
is_given_up Unanswered = true

-- a reply is what the station answered to command n when it executed it
pub record IsReplyOf (issued : List Issued) (answered : List (List ℕ × List ℕ)) (number : ℕ) (reply : List ℕ) : Type 0 where
  pub command : Issued
  pub is_command : command_at issued number ≡ Some command
  pub is_answer : Contains answered (command.body, reply)

-- a reply is what the station answered to a command that was given up
pub record IsOfLost (issued : List Issued) (answered : List (List ℕ × List ℕ)) (reply : List ℕ) : Type 0 where
  pub number : ℕ
  pub replies : IsReplyOf issued answered number reply
  pub given_up : is_given_up replies.command.standing ≡ true
