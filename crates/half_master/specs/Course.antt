-- How the message that a master has out stands, as the signals show it, and at which signals its fate is told.
use Rattle.std.specs.Prelude.{◌≡◌, ℕ, suc, ◌+◌, ◌-◌, Bool, true, false, List, [], ◌∷◌, Option, Some, None, nat_lt, slice_index, if◌then◌else◌}
use Rattle.std.specs.List.{flat_map}
use Rattle.std.specs.Option.{option_map}
use Rattle.df1_base.specs.declared.host.Host.{Ghosts}
use Rattle.df1_base.specs.declared.host.Fate.{Fate}
use Rattle.df1_base.specs.declared.host.Fate.TheVariants as fate
use Rattle.half_frame.specs.declared.heard.MasterHeard.{MasterHeard}
use Rattle.half_frame.specs.declared.heard.MasterHeard.TheVariants as heard
use Rattle.half_mouth.specs.Transmissions.{ends_here}
use Rattle.half_master.specs.declared.MasterSetup.{MasterSetup}
use Rattle.half_master.specs.Stations.{is_listed}
use Rattle.half_master.specs.Master.{MasterState, heard_at, effect_of_byte, effect_at_tick, fate_of, message_next, out_at_take}
use Rattle.half_master.specs.Emission.{Letter, Byte, Tick, Take}
use Rattle.half_master.specs.Fates.{Event, HandedOut, GivenAgain, Told, ForNoStation}

-- since a fate was told last, the last byte of a message was given so often; and since a last byte was given, so many ticks came, if no ACK and no NAK was heard after it
pub record Course : Type 0 where
  pub given : ℕ
  pub ticks : Option ℕ

abbrev pub no_course : Course
no_course = record { given = 0; ticks = None }

-- ---- the fate that is told at a signal

-- a message that is handed out for no station of the list is told as undelivered
abbrev pub fate_of_next : {H : Type 0} → MasterState H → Option (List ℕ) → Option Fate
fate_of_next e None = None
fate_of_next e (Some body) = if is_listed e.stations (slice_index body 0) then None else Some fate.Undelivered

abbrev pub fate_at : {H : Type 0} → Ghosts H → MasterState H → Letter → Option Fate
fate_at m e (Byte b) = fate_of (effect_of_byte m e b)
fate_at m e Tick = fate_of (effect_at_tick m e)
fate_at m e Take = fate_of_next e (message_next m e)

-- the fates among what happens to the host's messages
abbrev pub fates_of : Event → List Fate
fates_of (HandedOut body) = []
fates_of GivenAgain = []
fates_of (Told what) = what ∷ []
fates_of (ForNoStation body) = fate.Undelivered ∷ []

abbrev pub fates_in : List Event → List Fate
fates_in events = flat_map fates_of events

-- ---- the course after a signal

-- an ACK or a NAK ends the count of ticks
abbrev pub course_heard : Option MasterHeard → Course → Course
course_heard (Some heard.Ack) c = record { given = c.given; ticks = None }
course_heard (Some heard.Nak) c = record { given = c.given; ticks = None }
course_heard _ c = c

-- the last byte of a message begins it
abbrev pub course_given : Bool → Course → Course
course_given ends c = if ends then record { given = c.given + 1; ticks = Some 0 } else c

abbrev pub course_seen : {H : Type 0} → Ghosts H → MasterState H → Letter → Course → Course
course_seen m e (Byte b) c = course_heard (heard_at e b) c
course_seen m e Tick c = record { given = c.given; ticks = option_map suc c.ticks }
course_seen m e Take c = course_given (ends_here (out_at_take m e)) c

-- with a fate that is told the next message begins anew
abbrev pub course_told : Option Fate → Course → Course
course_told None c = c
course_told (Some what) c = record { given = 0; ticks = c.ticks }

abbrev pub course_at : {H : Type 0} → Ghosts H → MasterState H → Letter → Course → Course
course_at m e signal c = course_told (fate_at m e signal) (course_seen m e signal c)

-- ---- when a fate is told

-- a message was given, and neither an ACK nor a NAK nor the last tick came since
abbrev pub is_waiting : MasterSetup → Course → Bool
is_waiting setup c = elim c.ticks [ None ↦ false | Some ticks ↦ nat_lt ticks setup.ack_ticks ]

-- one tick is left
abbrev pub IsLastTick : MasterSetup → Course → Type 0
IsLastTick setup c = c.ticks ≡ Some (setup.ack_ticks - 1)

-- a message was given once and then max_resends times again
abbrev pub IsSpent : MasterSetup → Course → Type 0
IsSpent setup c = c.given ≡ setup.max_resends + 1

-- delivered: at an ACK while it waits
abbrev pub IsDelivered : {H : Type 0} → MasterState H → Course → Letter → Type 0
IsDelivered e c (Byte b) = (heard_at e b ≡ Some heard.Ack) × (is_waiting e.setup c ≡ true)
IsDelivered e c Tick = ⊥
IsDelivered e c Take = ⊥

-- the host's next message is for no station of the list
abbrev pub IsForNoStation : {H : Type 0} → MasterState H → Option (List ℕ) → Type 0
IsForNoStation e None = ⊥
IsForNoStation e (Some body) = is_listed e.stations (slice_index body 0) ≡ false

-- undelivered: at a NAK while it waits, and at the last tick, of a message that was given as often as it may be; and where a message is handed out for no station
abbrev pub IsGivenUp : {H : Type 0} → Ghosts H → MasterState H → Course → Letter → Type 0
IsGivenUp m e c (Byte b) = (heard_at e b ≡ Some heard.Nak) × (is_waiting e.setup c ≡ true) × IsSpent e.setup c
IsGivenUp m e c Tick = IsLastTick e.setup c × IsSpent e.setup c
IsGivenUp m e c Take = IsForNoStation e (message_next m e)
