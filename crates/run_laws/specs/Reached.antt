-- Scripts at whose end a command is over.
use Rattle.std.specs.Prelude.{◌≡◌, ◌≤◌, ℕ, true, false, List, [], ◌∷◌, ◌++◌, Some, None, Contains, slice_get}
use Rattle.df1_check.specs.declared.Check.TheVariants.{Bcc}
use Rattle.df1_node.specs.Initiator.{Undelivered}
use Rattle.duplex_line.specs.Run as duplex
use Rattle.duplex_line.specs.Run.{plan_of_a}
use Rattle.each_once.specs.Tells.{outcomes_in}
use Rattle.half_line.specs.Acts.{LineStationState}
use Rattle.half_line.specs.Run as polled
use Rattle.line_world.specs.Runs.{record_of}
use Rattle.run_laws.specs.Bounds.{message_ticks}
use Rattle.script_parts.specs.declared.script.Event.{Event}
use Rattle.script_parts.specs.declared.script.Event.TheVariants.{Issue, Take, Lose, Tick}
use Rattle.script_parts.specs.declared.script.Script.{Script}
use Rattle.script_parts.specs.HalfPlayable.{IsHalfPlayable}
use Rattle.script_parts.specs.Plans.{first_plan}
use Rattle.script_parts.specs.Playable.{IsPlayable}
use Rattle.script_statement.specs.declared.who.Who.TheVariants.{A, B, M, S}
use Rattle.run_laws.specs.GivenUp.{IsCleared, lines_so_far}
use Rattle.run_laws.specs.NotHeld.{AtTicksIn, IsDrained}
use Rattle.run_laws.specs.Over.{IsOverAt, IsOverTo}

-- ---- on a full-duplex line

-- a wait in which nothing comes, and whose ENQ is lost, as are all bytes that are on their way
abbrev unheard : List Event
unheard = Tick A 10 ∷ Take A 2 ∷ Lose (record { from = A; to = B }) 99 ∷ []

-- all bytes of a command are lost, and all ENQs after it
abbrev pub all_lost : Script
all_lost = record {
  half = false;
  check = Bcc;
  ends = first_plan A 0 ∷ first_plan B 1 ∷ [];
  events = Issue A None 1 (0x06 ∷ 0x00 ∷ []) ∷ Take A 14 ∷ Lose (record { from = A; to = B }) 14 ∷ unheard ++ unheard ++ unheard ++ Tick A 10 ∷ [];
}

-- a script that can be played, in which no end is deceived and each tick is drained, at whose end command 1 is undelivered and over, and told so, with nothing on its way
pub record GivesUp (script : Script) : Type 0 where
  pub playable : IsPlayable script
  pub honest : (record_of script).deceived ≡ 0
  pub patient : message_ticks (plan_of_a script) ≤ (plan_of_a script).reply_ticks
  pub drained : AtTicksIn IsDrained A (duplex.start script) script.events
  pub body : List ℕ
  pub over : IsOverAt (duplex.last_state script).a 1 body
  pub undelivered : over.standing.standing ≡ Undelivered
  pub cleared : IsCleared (record { from = A; to = B }) script script.events
  pub told : Contains (outcomes_in A 1 (lines_so_far script script.events)) Undelivered

-- ---- on a half-duplex line

-- a wait in which nothing comes; the message is given again, and lost, as are all bytes that are on their way
abbrev unheard_again : List Event
unheard_again = Tick M 10 ∷ Take M 18 ∷ Lose (record { from = M; to = S 3 }) 99 ∷ []

-- all bytes of a command are lost, as often as it is given
abbrev pub all_lost_to_a_station : Script
all_lost_to_a_station = record {
  half = true;
  check = Bcc;
  ends = first_plan M 0 ∷ first_plan (S 3) 3 ∷ [];
  events = Issue M None 3 (0x06 ∷ 0x00 ∷ []) ∷ Take M 18 ∷ Lose (record { from = M; to = S 3 }) 18 ∷ unheard_again ++ unheard_again ++ unheard_again ++ Tick M 10 ∷ [];
}

-- a script that can be played, in which no end is deceived, at whose end command 1 is undelivered and over on its way to the station, and told so, with nothing on its way
pub record GivesUpAtMaster (script : Script) : Type 0 where
  pub playable : IsHalfPlayable script
  pub honest : (record_of script).deceived ≡ 0
  pub side : LineStationState
  pub is_at : slice_get (polled.last_state script).stations 0 ≡ Some side
  pub body : List ℕ
  pub over : IsOverTo (polled.last_state script).master side 1 body
  pub undelivered : over.standing.standing ≡ Undelivered
  pub cleared : IsCleared (record { from = M; to = S 3 }) script script.events
  pub told : Contains (outcomes_in M 1 (lines_so_far script script.events)) Undelivered
