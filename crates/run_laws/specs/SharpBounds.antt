-- Scripts whose last command has no outcome yet, though hardly a drained tick is left of those that are enough; and one whose line comes to rest.
use Rattle.std.specs.Prelude.{◌≡◌, ◌+◌, ◌*◌, ℕ, zero, suc, true, false, List, [], ◌∷◌, ◌++◌, length, None}
use Rattle.df1_check.specs.declared.Check.TheVariants.{Bcc}
use Rattle.duplex_line.specs.Issues.{commands_of_a}
use Rattle.duplex_line.specs.Run.{plan_of_a}
use Rattle.each_once.specs.Tells.{executed_in, outcomes_in}
use Rattle.half_line.specs.Issues.{commands_of_m}
use Rattle.half_line.specs.Run.{plan_of_m}
use Rattle.line_world.specs.Runs.{record_of}
use Rattle.script_parts.specs.declared.script.Event.{Event}
use Rattle.script_parts.specs.declared.script.Event.TheVariants.{Issue, Take, Deliver, Lose, Foreign, Tick}
use Rattle.script_parts.specs.declared.script.Script.{Script}
use Rattle.script_parts.specs.HalfPlayable.{CanBePlayed}
use Rattle.script_parts.specs.Plans.{first_plan}
use Rattle.script_statement.specs.declared.who.Who.TheVariants.{A, B, M, S}
use Rattle.run_laws.specs.Bounds.{command_ticks, message_ticks, polled_command_ticks}
use Rattle.run_laws.specs.Drained.{drained_ticks, drained_ticks_of_master}
use Rattle.run_laws.specs.Idle.{IsLeftAlone}

-- ---- on a full-duplex line

-- a wait for a response of which a NAK comes at the last tick but one, and the message is sent again
abbrev refused_late : List Event
refused_late = Tick A 9 ∷ Foreign (record { from = B; to = A }) (0x10 ∷ 0x15 ∷ []) ∷ Take A 99 ∷ []

-- a wait that ends with an ENQ
abbrev asked : List Event
asked = Tick A 10 ∷ Take A 9 ∷ []

-- two commands: the first is acknowledged and never answered; then a command of the other end is executed, whose reply waits as
-- long as it may before it is acknowledged; then the second command is acknowledged, and for its reply all ticks but one come
abbrev pub two_waits : Script
two_waits = record {
  half = false;
  check = Bcc;
  ends = first_plan A 0 ∷ first_plan B 1 ∷ [];
  events =
      Issue A None 1 (0x06 ∷ 0x00 ∷ []) ∷ Issue A None 1 (0x06 ∷ 0x00 ∷ []) ∷ Take A 99
      ∷ Foreign (record { from = B; to = A }) (0x10 ∷ 0x06 ∷ []) ∷ Tick A 100
      ∷ Issue B None 0 (0x06 ∷ 0x00 ∷ []) ∷ Take B 99 ∷ Deliver (record { from = B; to = A }) 99
      ∷ Take A 99
      ∷ asked ++ asked ++ asked ++ refused_late ++ refused_late ++ refused_late
      ++ Tick A 10 ∷ Take A 99
      ∷ Foreign (record { from = B; to = A }) (0x10 ∷ 0x06 ∷ []) ∷ Tick A 99
      ∷ [];
}

-- a script that can be played, at whose end one drained tick is missing and the second command has no outcome
pub record IsOneTickShort (script : Script) : Type 0 where
  pub playable : CanBePlayed script
  pub short : drained_ticks A script + 1 ≡ length (commands_of_a script) * command_ticks (plan_of_a script) + length (executed_in A (record_of script).lines) * message_ticks (plan_of_a script)
  pub untold : outcomes_in A 2 (record_of script).lines ≡ []

-- ---- an end at idle

-- the same wait of the other end
abbrev pub asked_by_b : List Event
asked_by_b = Tick B 10 ∷ Take B 9 ∷ []

-- a command that is lost, and a command of the other end, whose ACK is lost and whose reply waits until the first is given up; then the
-- reply is lost as well, and so are all ENQs. At both ends as many ticks come as are enough since the last command was issued or executed
abbrev pub lost_both_ways : Script
lost_both_ways = record {
  half = false;
  check = Bcc;
  ends = first_plan A 0 ∷ first_plan B 1 ∷ [];
  events =
      Issue A None 1 (0x06 ∷ 0x00 ∷ []) ∷ Take A 99 ∷ Issue B None 0 (0x06 ∷ 0x00 ∷ []) ∷ Take B 99 ∷ Deliver (record { from = B; to = A }) 99
      ∷ Take A 99
      ∷ asked ++ asked ++ asked ++ Tick A 10 ∷ Take A 99
      ∷ asked ++ asked ++ asked ++ Tick A 97
      ∷ asked_by_b ++ asked_by_b ++ asked_by_b ++ Tick B 70
      ∷ Lose (record { from = A; to = B }) 999
      ∷ Lose (record { from = B; to = A }) 99
      ∷ [];
}

-- a script that can be played, whose reply waits for a time, and at both of whose ends enough drained ticks came in the end
pub record ComesToRest (script : Script) : Type 0 where
  pub playable : CanBePlayed script
  pub executes : length (executed_in A (record_of script).lines) ≡ 1
  pub alone : IsLeftAlone script (record_of script)

-- ---- on a half-duplex line

-- a poll that nobody answers, so many times
abbrev pub polls : ℕ → List Event
polls zero = []
polls (suc n) = Tick M 1 ∷ Take M 9 ∷ Tick M 10 ∷ polls n

-- a command whose message is sent as often as it may be, and acknowledged at the last tick; no station answers a poll, and the last
-- tick but one for its reply has come
abbrev pub no_poll_answered : Script
no_poll_answered = record {
  half = true;
  check = Bcc;
  ends = first_plan M 0 ∷ first_plan (S 3) 3 ∷ [];
  events =
      Tick M 1 ∷ Take M 9 ∷ Issue M None 3 (0x06 ∷ 0x00 ∷ []) ∷ Tick M 10
      ∷ Take M 99 ∷ Tick M 10 ∷ Take M 99 ∷ Tick M 10 ∷ Take M 99 ∷ Tick M 10 ∷ Take M 99 ∷ Tick M 9
      ∷ Foreign (record { from = S 3; to = M }) (0x10 ∷ 0x06 ∷ []) ∷ polls 99;
}

-- a script that can be played, at whose end two drained ticks are missing and the command has no outcome
pub record IsTwoTicksShort (script : Script) : Type 0 where
  pub playable : CanBePlayed script
  pub short : drained_ticks_of_master script + 2 ≡ length (commands_of_m script) * polled_command_ticks (plan_of_m script)
  pub untold : outcomes_in M 1 (record_of script).lines ≡ []
