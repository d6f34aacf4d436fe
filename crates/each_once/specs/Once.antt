-- Each command once at most: over the commands that a script issues at one end, and what the report tells of that end and of
-- the station at the other. It knows nothing of frames, checks, acknowledgements, timers and repeats.
use Rattle.std.specs.Prelude.{◌≡◌, ◌≤◌, ℕ, List, [], ◌∷◌, slice_get, length, All, Contains, Some}
use Rattle.df1_node.specs.Answer.{StationState}
use Rattle.df1_node.specs.Initiator.{Answered}
use Rattle.script_statement.specs.declared.who.Who.{Who}
use Rattle.replay_report.specs.declared.record.Line.{Line}
use Rattle.each_once.specs.Commands.{command_at}
use Rattle.each_once.specs.BySource.{AreOnceOf}
use Rattle.each_once.specs.Exchanges.{exchanges}
use Rattle.each_once.specs.Tells.{executed_in, answers_in, strays_in, outcomes_in, given_up_in}

-- no two commands have the same body
abbrev pub AreApart : List (List ℕ) → Type 0
AreApart issued = (p q : ℕ) (body : List ℕ) → slice_get issued p ≡ Some body → slice_get issued q ≡ Some body → p ≡ q

-- a reply is what the station answered to command n when it executed that command
pub record IsReplyTo (issued : List (List ℕ)) (answered : List (List ℕ × List ℕ)) (number : ℕ) (reply : List ℕ) : Type 0 where
  pub body : List ℕ
  pub is_command : command_at issued number ≡ Some body
  pub is_answer : Contains answered (body, reply)

-- command n is told as answered, by what the station answered to that very command, and not otherwise
pub record IsAnswered (from : Who) (issued : List (List ℕ)) (answered : List (List ℕ × List ℕ)) (lines : List Line) (n : ℕ) : Type 0 where
  pub reply : List ℕ
  pub told : outcomes_in from n lines ≡ Answered reply ∷ []
  pub is_reply : IsReplyTo issued answered n reply

-- a reply is what the station answered to a command that was given up
pub record IsAstray (issued : List (List ℕ)) (answered : List (List ℕ × List ℕ)) (given_up : List ℕ) (reply : List ℕ) : Type 0 where
  pub number : ℕ
  pub replies : IsReplyTo issued answered number reply
  pub is_given_up : Contains given_up number

-- The commands that one end issues have different bodies. The station of the other end executes some of them, each once, those of
-- each source in their order. A reply that is told as the answer to command n is what the station answered to that very command. Of each
-- command one outcome is told at most. A stray reply is the answer to a command that is told as given up.
pub record Once (from to : Who) (issued : List (List ℕ)) (first : StationState) (lines : List Line) : Type 0 where
  pub apart : AreApart issued
  pub in_order : AreOnceOf (executed_in to lines) issued
  pub answers : All (λ a. IsReplyTo issued (exchanges first (executed_in to lines)) a.0 a.1) (answers_in from lines)
  pub outcomes : (n : ℕ) → length (outcomes_in from n lines) ≤ 1
  pub strays : All (IsAstray issued (exchanges first (executed_in to lines)) (given_up_in from lines)) (strays_in from lines)
