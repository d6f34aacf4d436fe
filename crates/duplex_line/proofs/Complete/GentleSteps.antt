-- Of a run that nothing disturbs nothing is altered: it is one of which the line recovers.
use Rattle.std.proofs.Common.{◌≡◌, ◌∙◌, ℕ, List, [], ◌∷◌, Option, Some, None, refl, arith}
use Rattle.std.specs.Prelude.{slice_get}
use Rattle.script_statement.specs.declared.who.Who.{Who}
use Rattle.script_statement.specs.declared.who.Who.TheVariants.{A, B, M, S}
use Rattle.script_parts.specs.declared.script.Event.{Event}
use Rattle.lane_cells.specs.Cells.{LaneCell}
use Rattle.duplex_line.specs.Acts.{LineEndState, LineState, Deed, Issue, Take, Deliver, Lose, Alter, Foreign, Tick, after_deed}
use Rattle.duplex_line.specs.Run.{who_of, deeds_of, seen_from, after_event}
use Rattle.duplex_line.specs.Prompt.{Late, late_seen, late_after, IsGentle, IsPromptOver, late_event, IsPromptAfter}
use Rattle.duplex_line.specs.Recoverable.{Damage, Damages, hits_of, with_alter, damage_with, IsBodyHit, IsMild, AreFewHits, damage_seen, damage_after, damage_over, IsMildOver, AreFewOver, damage_event, IsMildAfter, HasFewTicksAfter}
use Rattle.duplex_line.proofs.Complete.RunSteps.{hits-taken, damage_events}

-- nothing was altered
abbrev pub IsUnhit : Damages → Type 0
IsUnhit dam = (dam.a.hits ≡ []) × (dam.b.hits ≡ [])

alter-none : (d : Damage) (o : Option LaneCell) (mask : ℕ) → o ≡ None → IsBodyHit d.touched o mask × ((with_alter d o).hits ≡ d.hits)
alter-none d None mask is = (tt, refl)
alter-none d (Some cell) mask is = absurd cc

gentle-mild : (side after : LineEndState) (d : Damage) (deed : Deed) → IsGentle side deed → IsMild side d deed × ((damage_with side after d deed).hits ≡ d.hits)
gentle-mild side after d (Issue src dst payload) gentle = (tt, refl)
gentle-mild side after d Take gentle = (tt, hits-taken side after d)
gentle-mild side after d Deliver gentle = (tt, refl)
gentle-mild side after d Lose gentle = (gentle, refl)
gentle-mild side after d (Alter mask) gentle = alter-none d (slice_get side.lane 0) mask gentle
gentle-mild side after d (Foreign byte) gentle = absurd gentle
gentle-mild side after d Tick gentle = (tt, refl)

unhit-few : (side : LineEndState) (d : Damage) → d.hits ≡ [] → AreFewHits side d
unhit-few side d none message = let zero : hits_of d message ≡ 0 = rw none refl in omega (arith, zero)

prompt-over : (deeds : List Deed) (s : LineState) (late : Late) (dam : Damages) → IsUnhit dam → IsPromptOver late s deeds → IsMildOver dam s deeds × AreFewOver late s deeds × IsUnhit (damage_over dam s deeds)
prompt-over [] s late dam none prompt = (tt, tt, none)
prompt-over (deed ∷ deeds) s late dam none prompt =
    let mild = gentle-mild s.a (after_deed s deed).a dam.a deed prompt.0 in
    let still = mild.1 ∙ none.0 in
    let more = prompt-over deeds (after_deed s deed) (late_after late s deed) (damage_after dam s deed) (still, none.1) prompt.2 in
    ((mild.0, unhit-few (after_deed s deed).a (damage_after dam s deed).a still, more.0), (prompt.1, more.1), more.2)

unhit-seen : (who : Who) (dam : Damages) → IsUnhit dam → IsUnhit (damage_seen who dam)
unhit-seen A dam none = none
unhit-seen B dam none = (none.1, none.0)
unhit-seen M dam none = none
unhit-seen (S station) dam none = none

pub prompt-after : (events : List Event) (s : LineState) (late : Late) (dam : Damages) → IsUnhit dam → IsPromptAfter late s events → IsMildAfter dam s events × HasFewTicksAfter late s events × IsUnhit (damage_events dam s events)
prompt-after [] s late dam none prompt = (tt, tt, none)
prompt-after (e ∷ events) s late dam none prompt =
    let who = who_of e in
    let one = prompt-over (deeds_of e) (seen_from who s) (late_seen who late) (damage_seen who dam) (unhit-seen who dam none) prompt.0 in
    let more = prompt-after events (after_event s e) (late_event late s e) (damage_event dam s e) (unhit-seen who (damage_over (damage_seen who dam) (seen_from who s) (deeds_of e)) one.2) prompt.1 in
    ((one.0, more.0), (one.1, more.1), more.2)
