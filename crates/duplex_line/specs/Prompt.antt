-- Runs that nothing disturbs: no byte is lost, altered or foreign, and few ticks come between two states in which nothing is under way.
use Rattle.std.specs.Prelude.{◌≡◌, ℕ, ◌+◌, ◌<◌, ◌≤◌, Bool, ◌&&◌, List, [], ◌∷◌, slice_get, is_none, min, None, IsTrue, if◌then◌else◌}
use Rattle.duplex_end.specs.End.{out_at_take}
use Rattle.script_statement.specs.declared.who.Who.{Who}
use Rattle.script_statement.specs.declared.who.Who.TheVariants.{A, B, M, S}
use Rattle.script_parts.specs.declared.script.Event.{Event}
use Rattle.script_parts.specs.declared.script.Script.{Script}
use Rattle.each_once.specs.NodeHost.{node_host}
use Rattle.duplex_line.specs.Acts.{LineEndState, LineState, Deed, Issue, Take, Deliver, Lose, Alter, Foreign, Tick, after_deed}
use Rattle.duplex_line.specs.Run.{start, plan_of_a, plan_of_b, who_of, deeds_of, seen_from, after_event, last_state}

-- an end gives nothing, and nothing of it is on its way
abbrev pub is_idle : LineEndState → Bool
is_idle side = is_none (slice_get side.lane 0) && is_none (out_at_take node_host side.end)

-- nothing is under way
abbrev pub is_quiet : LineState → Bool
is_quiet s = is_idle s.a && is_idle s.b

-- how many ticks came at each end since nothing was under way, while something was
pub record Late : Type 0 where
  pub a : ℕ
  pub b : ℕ

abbrev pub none_late : Late
none_late = record { a = 0; b = 0 }

-- the ticks, looked at from an end
abbrev pub late_seen : Who → Late → Late
late_seen A late = late
late_seen B late = record { a = late.b; b = late.a }
late_seen M late = late
late_seen (S station) late = late

abbrev pub ticks_of : Deed → ℕ
ticks_of (Issue src dst payload) = 0
ticks_of Take = 0
ticks_of Deliver = 0
ticks_of Lose = 0
ticks_of (Alter mask) = 0
ticks_of (Foreign byte) = 0
ticks_of Tick = 1

-- with one step more at the end a: a tick is late that comes while something is under way
abbrev pub late_with : Late → Bool → Deed → Late
late_with late quiet deed = record { a = if quiet then late.a else late.a + ticks_of deed; b = late.b }

abbrev pub late_after : Late → LineState → Deed → Late
late_after late s deed = if is_quiet (after_deed s deed) then none_late else late_with late (is_quiet s) deed

-- fewer than an end waits for a response, and for a reply
abbrev pub patience : LineEndState → ℕ
patience side = min side.end.sender.limits.ack_ticks side.end.host.initiator.reply_ticks

abbrev pub AreFew : Late → LineState → Type 0
AreFew late s = (late.a < patience s.a) × (late.b < patience s.b)

-- a step loses, alters and adds no byte
abbrev pub IsGentle : LineEndState → Deed → Type 0
IsGentle side (Issue src dst payload) = Unit {0}
IsGentle side Take = Unit {0}
IsGentle side Deliver = Unit {0}
IsGentle side Lose = slice_get side.lane 0 ≡ None
IsGentle side (Alter mask) = slice_get side.lane 0 ≡ None
IsGentle side (Foreign byte) = ⊥
IsGentle side Tick = Unit {0}

-- ---- one step after another

abbrev pub late_over : Late → LineState → List Deed → Late
late_over late s [] = late
late_over late s (deed ∷ deeds) = late_over (late_after late s deed) (after_deed s deed) deeds

abbrev pub IsPromptOver : Late → LineState → List Deed → Type 0
IsPromptOver late s [] = Unit {0}
IsPromptOver late s (deed ∷ deeds) = IsGentle s.a deed × AreFew (late_after late s deed) (after_deed s deed) × IsPromptOver (late_after late s deed) (after_deed s deed) deeds

-- the ticks after an event
abbrev pub late_event : Late → LineState → Event → Late
late_event late s e = late_seen (who_of e) (late_over (late_seen (who_of e) late) (seen_from (who_of e) s) (deeds_of e))

abbrev pub IsPromptAfter : Late → LineState → List Event → Type 0
IsPromptAfter late s [] = Unit {0}
IsPromptAfter late s (e ∷ events) = IsPromptOver (late_seen (who_of e) late) (seen_from (who_of e) s) (deeds_of e) × IsPromptAfter (late_event late s e) (after_event s e) events

-- a run that nothing disturbs
abbrev pub IsPrompt : Script → Type 0
IsPrompt script = IsPromptAfter none_late (start script) script.events

-- a run that ends with nothing under way
abbrev pub EndsQuiet : Script → Type 0
EndsQuiet script = IsTrue (is_quiet (last_state script))

-- each end has room for as many replies as the other may have commands out
pub record HasRooms (script : Script) : Type 0 where
  pub of_a : (plan_of_b script).window ≤ (plan_of_a script).room
  pub of_b : (plan_of_a script).window ≤ (plan_of_b script).room
