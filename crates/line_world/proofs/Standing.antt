-- Events one after another whose lines stand: what may happen, what it leaves, and the record of a whole run.
use Rattle.std.proofs.Common.{◌≡◌, ◌∙◌, Bool, true, false, List, [], ◌∷◌, ◌++◌, Result, Ok, Err, IfOk, refl, sym, ap, ap₂, subst, append_assoc, append-nil}
use Rattle.script_statement.specs.declared.who.Who.{Who}
use Rattle.script_parts.specs.declared.script.Event.{Event}
use Rattle.script_parts.specs.declared.script.Script.{Script}
use Rattle.script_parts.specs.HalfPlayable.{CanBePlayed}
use Rattle.replay_report.specs.declared.record.Line.{Line}
use Rattle.replay_report.specs.declared.record.Record.{Record}
use Rattle.duplex_line.specs.Plays as duplex
use Rattle.duplex_line.specs.Run as duplex_run
use Rattle.line_world.specs.declared.world.World.{World}
use Rattle.line_world.specs.declared.world.World.TheVariants.{Duplex, Polled}
use Rattle.line_world.specs.Runs.{AreNext, IsNext, after_event, after_events, all_lines, all_played, begun, begun_in, initiator_of, last_world, lines_in, lines_of, lines_after, played, printed, record_from, record_of, whole_world}
use Rattle.line_world.proofs.EitherMode.{after-behind, begun-lines, duplex-after, played-lines, printed-next, printed-of, printed-record, printed-then}
use Rattle.line_world.proofs.Next.{next-at}

-- ---- some events, and then others

pub all-behind : (w : World) (events more : List Event) → all_played w (events ++ more) ≡ all_played (all_played w events) more
all-behind w [] more = refl
all-behind w (e ∷ events) more = all-behind (played w e) events more

pub next-behind : (w : World) (events more : List Event) → AreNext w (events ++ more) → AreNext w events × AreNext (all_played w events) more
next-behind w [] more next = (tt, next)
next-behind w (e ∷ events) more next = let behind = next-behind (played w e) events more next.1 in ((next.0, behind.0), behind.1)

-- ---- with the lines printed in the end

printed-all : (w : World) (events : List Event) → printed (all_played w events) ≡ after_events (printed w) events
printed-all w [] = refl
printed-all w (e ∷ events) = printed-all (played w e) events ∙ ap (λ (v : World). after_events v events) (printed-then w e)

lines-all : (w : World) (events : List Event) → lines_in (all_played w events) ≡ lines_in w ++ lines_after (printed w) events
lines-all w [] = sym (append-nil (lines_in w))
lines-all w (e ∷ events) =
    lines-all (played w e) events
    ∙ ap (λ l. l ++ lines_after (printed (played w e)) events) (played-lines w e)
    ∙ append_assoc (lines_in w) (lines_of w e) (lines_after (printed (played w e)) events)
    ∙ ap (λ l. lines_in w ++ l) (ap₂ (λ (l : List Line) (v : World). l ++ lines_after v events) (sym (printed-of w e)) (printed-then w e))

begun-printed : (half : Bool) (script : Script) → printed (begun_in half script.check script.ends) ≡ begun_in half script.check script.ends
begun-printed true script = refl
begun-printed false script = refl

whole-printed : (script : Script) → printed (whole_world script) ≡ last_world script
whole-printed script = printed-all (begun script) script.events ∙ ap (λ (v : World). after_events v script.events) (begun-printed script.half script)

whole-lines : (script : Script) → lines_in (whole_world script) ≡ all_lines script
whole-lines script =
    lines-all (begun script) script.events
    ∙ ap₂ (λ (l : List Line) (v : World). l ++ lines_after v script.events) (begun-lines script.half script) (begun-printed script.half script)

-- ---- the record

pub whole-record : (script : Script) → record_from (whole_world script) (lines_in (whole_world script)) ≡ record_of script
unfolding record_of
whole-record script =
    sym (printed-record (whole_world script) (lines_in (whole_world script))) ∙ ap₂ record_from (whole-printed script) (whole-lines script)

-- what holds of the record of a run holds of that of its world
pub of-record : {E : Type 0} (P : Record → Type 0) (script : Script) (w : World) → w ≡ whole_world script → (result : Result Record E) → IfOk result (λ r. r ≡ record_from w (lines_in w)) → P (record_of script) → IfOk result P
of-record P script w world (Err e) is p = tt
of-record P script w world (Ok r) is p =
    subst P (sym (is ∙ ap (λ (v : World). record_from v (lines_in v)) world ∙ whole-record script)) p

-- ---- the initiator of an end

printed-initiator : (w : World) (who : Who) → initiator_of (printed w) who ≡ initiator_of w who
printed-initiator (Duplex p) who = refl
printed-initiator (Polled p) who = refl

-- of a full-duplex script
pub duplex-initiator : (script : Script) (who : Who) → script.half ≡ false → initiator_of (whole_world script) who ≡ duplex.initiator_of (duplex_run.last_state script) who
duplex-initiator script who mode =
    sym (printed-initiator (whole_world script) who)
    ∙ ap (λ (w : World). initiator_of w who) (whole-printed script ∙ duplex-after script script.events mode)

-- ---- the events of a script

next-after : (script : Script) (front rest : List Event) (w : World) → CanBePlayed script → script.events ≡ front ++ rest → printed w ≡ after_events (begun script) front → AreNext w rest
next-after script front [] w h is so_far = tt
next-after script front (e ∷ rest) w h is so_far = (
  printed-next w e (subst (λ (v : World). IsNext v e) (sym so_far) (next-at script front e rest h is)),
  next-after script (front ++ e ∷ []) rest (played w e) h (is ∙ sym (append_assoc front (e ∷ []) rest)) (printed-then w e ∙ ap (λ (v : World). after_event v e) so_far ∙ sym (after-behind (begun script) front (e ∷ []))),
)

pub all-next : (script : Script) → CanBePlayed script → AreNext (begun script) script.events
all-next script h = next-after script [] script.events (begun script) h refl (begun-printed script.half script)
