-- An answer certifies a line: what a run is from a quiet state on in which a command that was still to come is answered, and what holds of a later state.
use Rattle.std.specs.Prelude.{◌≡◌, ℕ, Bool, ◌&&◌, not, List, [], ◌∷◌, ◌++◌, Contains, IsTrue}
use Rattle.duplex_end.specs.End.{holds_message}
use Rattle.script_statement.specs.declared.who.Who.{Who}
use Rattle.script_parts.specs.declared.script.Event.{Event}
use Rattle.script_parts.specs.declared.script.Script.{Script}
use Rattle.each_once.specs.Tells.{answers_in}
use Rattle.duplex_line.specs.Acts.{LineState, Deed, after_deed}
use Rattle.duplex_line.specs.Prompt.{none_late, IsGentle, is_quiet, IsPromptAfter, EndsQuiet, HasRooms}
use Rattle.duplex_line.specs.Rest.{is_at_rest, is_to_come}
use Rattle.duplex_line.specs.Run.{start, who_of, deeds_of, seen_from, after_event, state_after, lines_after}

-- no step loses, alters or adds a byte
abbrev pub AreGentle : LineState → List Deed → Type 0
AreGentle s [] = Unit {0}
AreGentle s (deed ∷ deeds) = IsGentle s.a deed × AreGentle (after_deed s deed) deeds

-- no event loses, alters or adds a byte, however many ticks come
abbrev pub AreGentleAfter : LineState → List Event → Type 0
AreGentleAfter s [] = Unit {0}
AreGentleAfter s (e ∷ events) = AreGentle (seen_from (who_of e) s) (deeds_of e) × AreGentleAfter (after_event s e) events

-- The events of a script in four parts: a front, after which nothing is under way; a middle, over which command n of an end is told as
-- answered that was not handed out in the front; more, which may be nothing; and the rest. Over the middle and what is more no byte is
-- lost, altered or foreign, and up to there no end was deceived.
pub record IsAnsweredAfter (who : Who) (script : Script) (front middle more rest : List Event) (n : ℕ) : Type 0 where
  pub parts : script.events ≡ front ++ ((middle ++ more) ++ rest)
  pub quiet : IsTrue (is_quiet (state_after (start script) front))
  pub to_come : IsTrue (is_to_come (seen_from who (state_after (start script) front)).a n)
  pub gentle : AreGentleAfter (state_after (start script) front) (middle ++ more)
  pub reply : List ℕ
  pub answered : Contains (answers_in who (lines_after (state_after (start script) front) middle)) (n, reply)
  pub undeceived : (state_after (start script) (front ++ (middle ++ more))).deceived ≡ 0

-- no sender has a message
abbrev pub are_senders_idle : LineState → Bool
are_senders_idle s = not (holds_message s.a.end) && not (holds_message s.b.end)

-- where nothing is under way and no sender has a message, the line is at rest
abbrev pub IsCertified : LineState → Type 0
IsCertified s = IsTrue (is_quiet s) → IsTrue (are_senders_idle s) → IsTrue (is_at_rest s)

-- After these events nothing is under way and no sender has a message; nothing disturbs the run from there on, and it ends with nothing
-- under way; and each end has room for as many replies as the other may have commands out.
pub record GoesOnCalmly (script : Script) (front rest : List Event) : Type 0 where
  pub still : IsTrue (is_quiet (state_after (start script) front))
  pub idle : IsTrue (are_senders_idle (state_after (start script) front))
  pub prompt : IsPromptAfter none_late (state_after (start script) front) rest
  pub quiet : EndsQuiet script
  pub rooms : HasRooms script
