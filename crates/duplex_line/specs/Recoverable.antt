-- Runs of which a line recovers: no byte is lost or foreign, bytes of bodies alone are altered, in few transmissions of each message, and few ticks come between two states in which nothing is under way.
use Rattle.std.specs.Prelude.{◌≡◌, ◌≢◌, ◌⊎◌, ℕ, ◌≤◌, Bool, true, false, ◌&&◌, List, [], ◌∷◌, ◌++◌, slice_get, is_none, is_some, nat_le, ◌==◌, count_by, bit_xor, Option, None, Some, IsTrue, if◌then◌else◌}
use Rattle.std.specs.List.{list_any}
use Rattle.embedded_response.specs.Giving.{chosen}
use Rattle.duplex_end.specs.End.{sent_new}
use Rattle.script_statement.specs.declared.who.Who.{Who}
use Rattle.script_statement.specs.declared.who.Who.TheVariants.{A, B, M, S}
use Rattle.script_parts.specs.declared.script.Event.{Event}
use Rattle.script_parts.specs.declared.script.Script.{Script}
use Rattle.lane_cells.specs.Cells.{LaneCell}
use Rattle.each_once.specs.NodeHost.{node_host}
use Rattle.duplex_line.specs.Acts.{LineEndState, LineState, Deed, Issue, Take, Deliver, Lose, Alter, Foreign, Tick, after_deed}
use Rattle.duplex_line.specs.Run.{start, who_of, deeds_of, seen_from, after_event, last_state}
use Rattle.duplex_line.specs.Prompt.{Late, none_late, late_seen, late_after, late_event, AreFew, EndsQuiet, HasRooms}

-- what was done to the transmissions of an end: the first transmission of each message that it handed out, those of which a byte was altered, each once, and whether the head of its lane was
pub record Damage : Type 0 where
  pub firsts : List ℕ
  pub hits : List ℕ
  pub touched : Bool

abbrev pub no_damage : Damage
no_damage = record { firsts = []; hits = []; touched = false }

-- of which message a transmission is: of the last that had begun with it
abbrev pub message_of : Damage → ℕ → ℕ
message_of d number = count_by (λ first. nat_le first number) d.firsts

-- in how many transmissions of a message a byte was altered
abbrev pub hits_of : Damage → ℕ → ℕ
hits_of d message = count_by (λ number. message_of d number == message) d.hits

-- ---- one step more at the end

-- the next take hands a message out
abbrev pub hands_out : LineEndState → Bool
hands_out side = is_none (chosen side.end.mouth) && is_some (sent_new node_host side.end)

-- how many transmissions an end has begun
abbrev pub transmissions : LineEndState → ℕ
transmissions side = side.end.mouth.begun

abbrev pub with_take : LineEndState → LineEndState → Damage → Damage
with_take side after d = if hands_out side then record d { firsts = d.firsts ++ transmissions after ∷ [] } else d

-- a transmission more, if it isn't among them
abbrev pub with_hit : List ℕ → ℕ → List ℕ
with_hit hits number = if list_any (λ hit. hit == number) hits then hits else hits ++ number ∷ []

-- the head is altered; what it was before counts
abbrev pub hit_by : List ℕ → Option ℕ → List ℕ
hit_by hits None = hits
hit_by hits (Some number) = with_hit hits number

abbrev pub with_alter : Damage → Option LaneCell → Damage
with_alter d None = d
with_alter d (Some cell) = record { firsts = d.firsts; hits = if d.touched then d.hits else hit_by d.hits cell.body_of; touched = true }

abbrev pub damage_with : LineEndState → LineEndState → Damage → Deed → Damage
damage_with side after d (Issue src dst payload) = d
damage_with side after d Take = with_take side after d
damage_with side after d Deliver = record d { touched = false }
damage_with side after d Lose = record d { touched = false }
damage_with side after d (Alter mask) = with_alter d (slice_get side.lane 0)
damage_with side after d (Foreign byte) = d
damage_with side after d Tick = d

-- ---- what may be done

-- a byte that is altered was a one-byte unit of a body, when it was first altered, and it doesn't become a DLE
abbrev pub IsBodyHit : Bool → Option LaneCell → ℕ → Type 0
IsBodyHit touched None mask = Unit {0}
IsBodyHit touched (Some cell) mask = (IsTrue touched ⊎ IsTrue (is_some cell.body_of)) × (bit_xor cell.byte mask ≢ 16)

-- a step loses and adds no byte, and alters bytes of bodies alone
abbrev pub IsMild : LineEndState → Damage → Deed → Type 0
IsMild side d (Issue src dst payload) = Unit {0}
IsMild side d Take = Unit {0}
IsMild side d Deliver = Unit {0}
IsMild side d Lose = slice_get side.lane 0 ≡ None
IsMild side d (Alter mask) = IsBodyHit d.touched (slice_get side.lane 0) mask
IsMild side d (Foreign byte) = ⊥
IsMild side d Tick = Unit {0}

-- of each message an end may be refused as many transmissions as it has NAKs to spare
abbrev pub AreFewHits : LineEndState → Damage → Type 0
AreFewHits side d = (message : ℕ) → hits_of d message ≤ side.end.sender.limits.max_naks

-- ---- one step after another

-- what was done to both ends' transmissions
pub record Damages : Type 0 where
  pub a : Damage
  pub b : Damage

abbrev pub no_damages : Damages
no_damages = record { a = no_damage; b = no_damage }

-- the damage, looked at from an end
abbrev pub damage_seen : Who → Damages → Damages
damage_seen A d = d
damage_seen B d = record { a = d.b; b = d.a }
damage_seen M d = d
damage_seen (S station) d = d

abbrev pub damage_after : Damages → LineState → Deed → Damages
damage_after d s deed = record { a = damage_with s.a (after_deed s deed).a d.a deed; b = d.b }

abbrev pub damage_over : Damages → LineState → List Deed → Damages
damage_over d s [] = d
damage_over d s (deed ∷ deeds) = damage_over (damage_after d s deed) (after_deed s deed) deeds

abbrev pub IsMildOver : Damages → LineState → List Deed → Type 0
IsMildOver d s [] = Unit {0}
IsMildOver d s (deed ∷ deeds) = IsMild s.a d.a deed × AreFewHits (after_deed s deed).a (damage_after d s deed).a × IsMildOver (damage_after d s deed) (after_deed s deed) deeds

abbrev pub AreFewOver : Late → LineState → List Deed → Type 0
AreFewOver late s [] = Unit {0}
AreFewOver late s (deed ∷ deeds) = AreFew (late_after late s deed) (after_deed s deed) × AreFewOver (late_after late s deed) (after_deed s deed) deeds

-- the damage after an event
abbrev pub damage_event : Damages → LineState → Event → Damages
damage_event d s e = damage_seen (who_of e) (damage_over (damage_seen (who_of e) d) (seen_from (who_of e) s) (deeds_of e))

-- no byte is lost or foreign, and bytes of bodies alone are altered, in few transmissions of each message
abbrev pub IsMildAfter : Damages → LineState → List Event → Type 0
IsMildAfter d s [] = Unit {0}
IsMildAfter d s (e ∷ events) = IsMildOver (damage_seen (who_of e) d) (seen_from (who_of e) s) (deeds_of e) × IsMildAfter (damage_event d s e) (after_event s e) events

-- few ticks come between two states in which nothing is under way
abbrev pub HasFewTicksAfter : Late → LineState → List Event → Type 0
HasFewTicksAfter late s [] = Unit {0}
HasFewTicksAfter late s (e ∷ events) = AreFewOver (late_seen (who_of e) late) (seen_from (who_of e) s) (deeds_of e) × HasFewTicksAfter (late_event late s e) (after_event s e) events

-- a run of which the line recovers: it deceives no end, and ends with nothing under way; and each end has room for as many replies as the other may have commands out
pub record IsRecoverable (script : Script) : Type 0 where
  pub undeceived : (last_state script).deceived ≡ 0
  pub quiet : EndsQuiet script
  pub mild : IsMildAfter no_damages (start script) script.events
  pub few : HasFewTicksAfter none_late (start script) script.events
  pub rooms : HasRooms script
