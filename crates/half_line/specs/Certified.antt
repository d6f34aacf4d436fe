-- An answer certifies the stations of a polled line: what a run is in which a command that was still to come is answered, while no byte on its way to a station is lost, altered or foreign, and what holds of a later state.
use Rattle.std.specs.Prelude.{◌≡◌, ℕ, Bool, List, [], ◌∷◌, ◌++◌, Option, None, Some, Contains, IsTrue, slice_get, length}
use Rattle.std.specs.List.{list_all}
use Rattle.df1_node.specs.Node.{NodeState}
use Rattle.half_master.specs.Master as master
use Rattle.script_statement.specs.declared.who.Who.TheVariants.{M}
use Rattle.script_parts.specs.declared.script.Event.{Event}
use Rattle.script_parts.specs.declared.script.Script.{Script}
use Rattle.script_parts.specs.HalfPlayable.{numbers_of}
use Rattle.each_once.specs.Tells.{answers_in}
use Rattle.half_line.specs.Behind.{plain_node}
use Rattle.half_line.specs.declared.way.Way.TheVariants.{ToStation, ToMaster}
use Rattle.half_line.specs.Acts.{LineStationState, HalfState, LinkDeed, StationGives, OnLane}
use Rattle.half_line.specs.Prompt.{is_quiet, IsGentleOn, IsGentle, IsPromptAfter, is_fetched, EndsQuiet, EndsFetched, HasRooms, HasTurns}
use Rattle.half_line.specs.Rest.{is_at_rest, is_between_answers, is_between_calls, is_to_come}
use Rattle.half_line.specs.Run.{start, steps_of, after_event, state_after, lines_after}
use Rattle.half_line.specs.Steps.{UnitStep, AtMaster, AtStation, after_step}

-- ---- no byte on its way to a station is lost, altered or foreign

-- a step loses, alters and adds no byte on its way to a station; what it does to those on their way to the master doesn't matter
abbrev pub ArrivesAt : LineStationState → LinkDeed → Type 0
ArrivesAt side StationGives = Unit {0}
ArrivesAt side (OnLane ToStation deed) = IsGentleOn side.to_it deed
ArrivesAt side (OnLane ToMaster deed) = Unit {0}

abbrev pub ArrivesWith : LinkDeed → Option LineStationState → Type 0
ArrivesWith deed None = Unit {0}
ArrivesWith deed (Some side) = ArrivesAt side deed

abbrev pub AllArrives : HalfState NodeState → UnitStep → Type 0
AllArrives s (AtMaster deed) = Unit {0}
AllArrives s (AtStation place deed) = ArrivesWith deed (slice_get s.stations place)

abbrev pub AllArrivesOver : HalfState NodeState → List UnitStep → Type 0
AllArrivesOver s [] = Unit {0}
AllArrivesOver s (step ∷ steps) = AllArrives s step × AllArrivesOver (after_step plain_node s step) steps

-- however many ticks come
abbrev pub AllArrivesAfter : HalfState NodeState → List Event → Type 0
AllArrivesAfter s [] = Unit {0}
AllArrivesAfter s (e ∷ events) = AllArrivesOver s (steps_of s e) × AllArrivesAfter (after_event plain_node s e) events

-- ---- a command is answered

-- The events of a script in four parts: a front; a middle, over which command n of the master is told as answered that was not handed
-- out in the front; more, which may be nothing; and the rest. Over the middle and what is more no byte on its way to a station is lost,
-- altered or foreign.
pub record IsAnsweredAfter (script : Script) (front middle more rest : List Event) (n : ℕ) : Type 0 where
  pub parts : script.events ≡ front ++ ((middle ++ more) ++ rest)
  pub to_come : IsTrue (is_to_come (state_after plain_node (start script) front).master n)
  pub arrives : AllArrivesAfter (state_after plain_node (start script) front) (middle ++ more)
  pub reply : List ℕ
  pub answered : Contains (answers_in M (lines_after plain_node (state_after plain_node (start script) front) middle)) (n, reply)

-- ---- what holds then

-- the station's ear takes the next byte for the first of an item
abbrev pub is_in_step : LineStationState → Bool
is_in_step side = is_between_calls side.slave.ear.standing

-- where nothing is under way, the ear of each station is in step
abbrev pub AreCertified : HalfState NodeState → Type 0
AreCertified s = IsTrue (is_quiet s) → IsTrue (list_all is_in_step s.stations)

-- after these events no end was deceived so far, and the master's own ear is in step
pub record IsMasterInStep (script : Script) (front : List Event) : Type 0 where
  pub undeceived : (state_after plain_node (start script) front).deceived ≡ 0
  pub in_step : IsTrue (is_between_answers (state_after plain_node (start script) front).master.ear.standing)

-- After these events nothing is under way, the master waits for nothing, and no reply is left at a station. Nothing disturbs the run
-- from there on, and it ends with nothing under way and no reply left; and its stations have room and their turns in time.
pub record GoesOnCalmly (script : Script) (front rest : List Event) : Type 0 where
  pub still : IsTrue (is_quiet (state_after plain_node (start script) front))
  pub idle : IsTrue (master.is_idle (state_after plain_node (start script) front).master.phase)
  pub none_left : IsTrue (is_fetched (state_after plain_node (start script) front))
  pub prompt : IsPromptAfter 0 (state_after plain_node (start script) front) rest
  pub quiet : EndsQuiet script
  pub fetched : EndsFetched script
  pub rooms : HasRooms script
  pub turns : HasTurns script

-- ---- one station

-- no step loses, alters or adds a byte
abbrev pub AreGentleOver : HalfState NodeState → List UnitStep → Type 0
AreGentleOver s [] = Unit {0}
AreGentleOver s (step ∷ steps) = IsGentle s step × AreGentleOver (after_step plain_node s step) steps

-- however many ticks come
abbrev pub AreGentleAfter : HalfState NodeState → List Event → Type 0
AreGentleAfter s [] = Unit {0}
AreGentleAfter s (e ∷ events) = AreGentleOver s (steps_of s e) × AreGentleAfter (after_event plain_node s e) events

-- The same parts, of a line with one station on which nothing is under way after the front: over the middle and what is more no byte is
-- lost, altered or foreign, to the station or from it, and up to there no end was deceived.
pub record IsAnsweredAlone (script : Script) (front middle more rest : List Event) (n : ℕ) : Type 0 where
  pub parts : script.events ≡ front ++ ((middle ++ more) ++ rest)
  pub alone : length (numbers_of script.ends) ≡ 1
  pub quiet : IsTrue (is_quiet (state_after plain_node (start script) front))
  pub to_come : IsTrue (is_to_come (state_after plain_node (start script) front).master n)
  pub gentle : AreGentleAfter (state_after plain_node (start script) front) (middle ++ more)
  pub reply : List ℕ
  pub answered : Contains (answers_in M (lines_after plain_node (state_after plain_node (start script) front) middle)) (n, reply)
  pub undeceived : (state_after plain_node (start script) (front ++ (middle ++ more))).deceived ≡ 0

-- where nothing is under way, the master waits for nothing and no reply is left, the line is at rest
abbrev pub IsCertified : HalfState NodeState → Type 0
IsCertified s = IsTrue (is_quiet s) → IsTrue (master.is_idle s.master.phase) → IsTrue (is_fetched s) → IsTrue (is_at_rest s)
