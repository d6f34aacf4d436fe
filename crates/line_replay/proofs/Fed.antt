-- What a replay shows, event by event and byte by byte.
use Rattle.std.proofs.Common.{◌≡◌, inl, inr, Bool, true, false, ℕ, List, [], ◌∷◌, ◌++◌, Option, Some, None, Result, Ok, Err, refl, sym, ap, subst, ◌∙◌, arith, append_assoc, append-nil, take}
use Rattle.std.specs.Prelude.{◌≢◌, unwrap_or, IfErr, IsErrOf, OnErr}
use Rattle.std.specs.List.{flat_map}
use Rattle.std.proofs.lemmas.Grind.{flat_map-append}
use Rattle.std.proofs.lemmas.List.Elements.{All-nil}
use Rattle.df1_base.specs.Outside.{Put, WroteLess}
use Rattle.std.proofs.KnownBytes.{Appends-nil, Appends-trans}
use Rattle.line_script.specs.declared.fault.Cause.{Cause}
use Rattle.line_script.specs.declared.reader.Reader.{Reader}
use Rattle.line_script.specs.declared.reader.Reader.TheVariants.{Full, Half}
use Rattle.df1_check.specs.declared.Check.{Check}
use Rattle.script_parts.specs.declared.script.EndPlan.{EndPlan}
use Rattle.script_parts.specs.declared.script.Event.{Event}
use Rattle.script_parts.specs.declared.script.Script.{Script}
use Rattle.line_script.specs.declared.fault.ScriptFault.{ScriptFault}
use Rattle.line_script.specs.declared.fault.ScriptFault.TheVariants as script
use Rattle.line_script.specs.Fed.{Fed, StandsFor, EndsFor, IsRefusedFor, IsRefusedAtEnd, accepted_script, script_at}
use Rattle.line_script.specs.Lines.{script_with}
use Rattle.script_parts.specs.Playable.{IsPlayable}
use Rattle.script_parts.specs.HalfPlayable.{CanBePlayed, IsHalfPlayable}
use Rattle.line_script.specs.ScriptText.{script_of}
use Rattle.line_script.proofs.Setup.{Extends, TellsEvents, script-accepted}
use Rattle.line_script.proofs.Shown.{shown-script, script-at-end, tells, front-of, front-by-byte, front-at-end, playable, playable-at-end}
use Rattle.replay_report.specs.Report.{line_text, report}
use Rattle.replay_report.proofs.Writing.{no_back, no_front, some_report}
use Rattle.line_world.specs.declared.world.World.{World}
use Rattle.line_world.specs.Runs.{IsNext, after_event, after_events, all_lines, begun, begun_in, last_world, lines_in, lines_of, lines_after, played, record_from, record_of}
use Rattle.line_world.proofs.EitherMode.{after-behind, lines-behind, no-lines, report-from}
use Rattle.line_world.proofs.Next.{next-at}
use Rattle.line_replay.specs.declared.replayer.StreamFault.{StreamFault}
use Rattle.line_replay.specs.declared.replayer.StreamFault.TheVariants as stream
use Rattle.line_replay.specs.Fed.{Replaying, IsReplayOf, IsReplayAtEnd, IsWorldOf, IsDue, IsRefusedAs, IsRefusedHere, IsRefusedWith, ShowsFront, ShowsLess, ShowsMore, event_text, events_text, rest_text, shown, stream_fault, told, told_by, world_for}

-- ---- some events, and then others

behind : (half : Bool) (check : Check) (ends : List EndPlan) (events more : List Event) → (let script : List Event → Script = λ all. record { half = half; check = check; ends = ends; events = all } in
    events_text (script (events ++ more)) ≡ events_text (script events) ++ flat_map line_text (lines_after (last_world (script events)) more))
behind half check ends events more =
    ap (flat_map line_text) (lines-behind (begun_in half check ends) events more)
    ∙ flat_map-append line_text (lines_after (begun_in half check ends) events) (lines_after (after_events (begun_in half check ends) events) more)

pub text-behind : (d : Reader) (events more : List Event) → events_text (script_with d (events ++ more)) ≡ events_text (script_with d events) ++ flat_map line_text (lines_after (last_world (script_with d events)) more)
text-behind (Full d) events more = behind false (script_with (Full d) []).check (script_with (Full d) []).ends events more
text-behind (Half d) events more = behind true (script_with (Half d) []).check (script_with (Half d) []).ends events more

-- one event more
pub text-with : (d : Reader) (events : List Event) (e : Event) → events_text (script_with d (events ++ e ∷ [])) ≡ events_text (script_with d events) ++ event_text (script_with d events) e
text-with d events e =
    text-behind d events (e ∷ []) ∙ ap (λ l. events_text (script_with d events) ++ flat_map line_text l) (append-nil (lines_of (last_world (script_with d events)) e))

-- ---- what was shown stays a front

no-text : (d : Reader) → events_text (script_with d []) ≡ []
no-text (Full d) = refl
no-text (Half d) = refl

events-of : (d : Reader) (events : List Event) → (script_with d events).events ≡ events
events-of (Full d) events = refl
events-of (Half d) events = refl

-- the setup is that of the first event on
same-text : (d e : Reader) (events all : List Event) → TellsEvents d events → Extends d events (e, all) → events_text (script_with e events) ≡ events_text (script_with d events)
same-text d e events all (inl none) on = rw none (no-text e ∙ sym (no-text d))
same-text d e events all (inr begun) on = ap events_text (on.setup begun events)

pub front-text : (d : Reader) (events : List Event) (read : Reader × List Event) → TellsEvents d events → Extends d events read → (rest : List ℕ) × (events_text (script_at read) ≡ events_text (script_with d events) ++ rest)
front-text d events read (inl none) on = (events_text (script_at read), rw none (sym (ap (λ t. t ++ events_text (script_at read)) (no-text d))))
front-text d events read (inr begun) on = (
  flat_map line_text (lines_after (last_world (script_with d events)) on.more),
  ap (λ all. events_text (script_with read.0 all)) on.are ∙ ap events_text (on.setup begun (events ++ on.more)) ∙ text-behind d events on.more,
)

pub shown-is : (text : List ℕ) (events : List Event) (r : Fed) → StandsFor text events r → shown text ≡ events_text (script_with r.reader events)
unfolding shown
shown-is text events r h = ap events_text (shown-script text events r h)

-- the report of a script is its events' lines, and more
report-parts : (script : Script) → report (record_of script) ≡ events_text script ++ rest_text script
unfolding record_of
report-parts script = report-from (last_world script) (all_lines script)

report-front : (script : Script) → (rest : List ℕ) × (report (record_of script) ≡ events_text script ++ rest)
report-front script = (rest_text script, report-parts script)

pub told-front : (text : List ℕ) (events : List Event) (r : Fed) (more : List ℕ) → StandsFor text events r → (rest : List ℕ) × (told (text ++ more) ≡ shown text ++ rest)
unfolding told accepted_script
told-front text events r more h =
    let on = front-text r.reader events _ (tells text events r h) (front-of text events r more h) in
    let here = shown-is text events r h in
    elim (script_of (text ++ more)) as (λ x. script_of (text ++ more) ≡ x → (rest : List ℕ) × (told_by x (text ++ more) ≡ shown text ++ rest)) [
      | Ok script ↦ λ is.
          let tail = report-front script in
          (on.0 ++ tail.0, tail.1 ∙ ap (λ s. events_text s ++ tail.0) (sym (script-accepted (text ++ more) script is)) ∙ ap (λ t. t ++ tail.0) on.1 ∙ append_assoc (events_text (script_with r.reader events)) on.0 tail.0 ∙ ap (λ t. t ++ (on.0 ++ tail.0)) (sym here))
      | Err fault ↦ λ is. (on.0, on.1 ∙ ap (λ t. t ++ on.0) (sym here))
    ] refl

-- ---- the world

pub world-is : (d : Reader) (events : List Event) (w : Option World) → IsWorldOf (script_with d events) w → world_for (script_with d []) w ≡ last_world (script_with d events)
world-is (Full d) events None none = rw none refl
world-is (Half d) events None none = rw none refl
world-is d events (Some w) is = is.1

pub world-same : (w v : World) → (let o : Option World = Some w in o) ≡ Some v → w ≡ v
world-same w v is = ap (λ o. unwrap_or o w) is

-- it stays the world where only the setup is read anew
pub world-on : (d e : Reader) (events all : List Event) (w : Option World) → TellsEvents d events → Extends d events (e, all) → IsWorldOf (script_with d events) w → IsWorldOf (script_with e events) w
world-on d e events all None tell on is = events-of e events ∙ sym (events-of d events) ∙ is
world-on d e events all (Some w) (inl none) on is = absurd (is.0 (events-of d events ∙ none))
world-on d e events all (Some w) (inr begun) on is = ((λ none. is.0 (events-of d events ∙ sym (events-of e events) ∙ none)), is.1 ∙ ap last_world (sym (on.setup begun events)))

not-empty : (events : List Event) (e : Event) → events ++ e ∷ [] ≡ [] → ⊥
not-empty [] e is = cc
not-empty (x ∷ events) e is = cc

pub world-with : (d : Reader) (events : List Event) (e : Event) → IsWorldOf (script_with d (events ++ e ∷ [])) (Some (after_event (last_world (script_with d events)) e))
world-with (Full d) events e = (not-empty events e, sym (after-behind (begun (script_with (Full d) events)) events (e ∷ [])))
world-with (Half d) events e = (not-empty events e, sym (after-behind (begun (script_with (Half d) events)) events (e ∷ [])))

-- ---- an event that may come next

pub is-next : (d : Reader) (events : List Event) (e : Event) → CanBePlayed (script_with d (events ++ e ∷ [])) → IsNext (last_world (script_with d events)) e
is-next (Full d) events e h = next-at (script_with (Full d) (events ++ e ∷ [])) events e [] h refl
is-next (Half d) events e h = next-at (script_with (Half d) (events ++ e ∷ [])) events e [] h refl

-- the lines that stand after an event are the event's
pub lines-with : (d : Reader) (events : List Event) (e : Event) → lines_in (played (last_world (script_with d events)) e) ≡ lines_of (last_world (script_with d events)) e
lines-with d events e = no-lines (script_with d events) e

-- ---- no more is told

none-behind : (before more rest : List ℕ) → before ++ more ++ rest ≡ before → (more ≡ []) × (rest ≡ [])
none-behind [] more rest same = (no_front more rest same, no_back more rest same)
none-behind (b ∷ before) more rest same = none-behind before more rest cc

-- what is told of all is what is shown of more, where it is what is shown of less
pub still-told : (text front rest bytes : List ℕ) (r : Replaying) (a b : Option (List ℕ)) → bytes ≡ front ++ rest → IsReplayOf (text ++ front) r × ShowsMore (shown text) (shown (text ++ front)) a b
    → told (text ++ bytes) ≡ shown text → told ((text ++ front) ++ rest) ≡ shown (text ++ front)
still-told text front rest bytes r a b is so_far same =
    let tail = told-front (text ++ front) so_far.0.events r.text rest so_far.0.reads in
    let all : told ((text ++ front) ++ rest) ≡ shown text = ap told (append_assoc text front rest ∙ ap (λ t. text ++ t) (sym is)) ∙ same in
    let none = none-behind (shown text) so_far.1.more tail.0 (ap (λ t. t ++ tail.0) (sym so_far.1.shows) ∙ sym tail.1 ∙ all) in
    all ∙ sym (append-nil (shown text)) ∙ ap (λ m. shown text ++ m) (sym none.0) ∙ sym so_far.1.shows

-- ---- a byte more

-- the world is the one that the event is played on
pub plays-by : (text : List ℕ) (r : Replaying) (b : ℕ) (e : Event) (new : Fed) (h : IsReplayOf text r) → StandsFor (text ++ b ∷ []) (h.events ++ e ∷ []) new → IsWorldOf (script_with new.reader h.events) r.world
plays-by text r b e new h reads =
    world-on r.text.reader new.reader h.events (h.events ++ e ∷ []) r.world (tells text h.events r.text h.reads) (front-by-byte text h.events (h.events ++ e ∷ []) r.text new b h.reads reads) h.plays

-- the event that a byte ends may be played
pub due-by : (text : List ℕ) (r : Replaying) (b : ℕ) (e : Event) (new : Fed) (h : IsReplayOf text r) → StandsFor (text ++ b ∷ []) (h.events ++ e ∷ []) new → IsDue (record { text = new; world = r.world }) e
due-by text r b e new h reads = record {
  events = h.events;
  playable = playable (text ++ b ∷ []) (h.events ++ e ∷ []) new reads;
  plays = plays-by text r b e new h reads;
}

-- what is shown with the event that a byte ends
pub shown-with : (text : List ℕ) (r : Replaying) (b : ℕ) (e : Event) (new : Fed) (h : IsReplayOf text r) → StandsFor (text ++ b ∷ []) (h.events ++ e ∷ []) new → shown (text ++ b ∷ []) ≡ shown text ++ event_text (script_with new.reader h.events) e
shown-with text r b e new h reads =
    shown-is (text ++ b ∷ []) (h.events ++ e ∷ []) new reads ∙ text-with new.reader h.events e
    ∙ ap (λ t. t ++ event_text (script_with new.reader h.events) e)
    (same-text r.text.reader new.reader h.events (h.events ++ e ∷ []) (tells text h.events r.text h.reads) (front-by-byte text h.events (h.events ++ e ∷ []) r.text new b h.reads reads) ∙ sym (shown-is text h.events r.text h.reads))

-- a byte that ends no event line
pub replay-without : (text : List ℕ) (r : Replaying) (b : ℕ) (new : Fed) (held : Option (List ℕ)) (h : IsReplayOf text r) → StandsFor (text ++ b ∷ []) (h.events ++ []) new
    → IsReplayOf (text ++ b ∷ []) (record { text = new; world = r.world }) × ShowsMore (shown text) (shown (text ++ b ∷ [])) held held
replay-without text r b new held h reads' =
    let reads : StandsFor (text ++ b ∷ []) h.events new = rw (append-nil h.events) at reads' in
    let told = tells text h.events r.text h.reads in
    let on = front-by-byte text h.events h.events r.text new b h.reads reads in (
      record { events = h.events; reads = reads; plays = world-on r.text.reader new.reader h.events h.events r.world told on h.plays },
      record {
        more = [];
        shows = shown-is (text ++ b ∷ []) h.events new reads ∙ same-text r.text.reader new.reader h.events h.events told on ∙ sym (shown-is text h.events r.text h.reads) ∙ sym (append-nil (shown text));
        put = Appends-nil held;
      },
    )

pub replay-with : (text : List ℕ) (r new : Replaying) (b : ℕ) (e : Event) (fed : Fed) (held held' : Option (List ℕ)) (h : IsReplayOf text r) → StandsFor (text ++ b ∷ []) (h.events ++ e ∷ []) fed
    → (new.text ≡ fed) × IsWorldOf (script_with fed.reader (h.events ++ e ∷ [])) new.world × Put held held' (event_text (script_with fed.reader h.events) e)
    → IsReplayOf (text ++ b ∷ []) new × ShowsMore (shown text) (shown (text ++ b ∷ [])) held held'
replay-with text r new b e fed held held' h reads played = (
  record { events = h.events ++ e ∷ []; reads = subst (StandsFor (text ++ b ∷ []) (h.events ++ e ∷ [])) (sym played.0) reads; plays = subst (λ (f : Fed). IsWorldOf (script_with f.reader (h.events ++ e ∷ [])) new.world) (sym played.0) played.1 },
  record { more = event_text (script_with fed.reader h.events) e; shows = shown-with text r b e fed h reads; put = played.2 },
)

-- less than the event's lines, where a sink has taken no more of them
pub less-with : (text : List ℕ) (r : Replaying) (b : ℕ) (e : Event) (new : Fed) (more : List ℕ) (held held' : Option (List ℕ)) (h : IsReplayOf text r) → StandsFor (text ++ b ∷ []) (h.events ++ e ∷ []) new
    → WroteLess held held' (event_text (script_with new.reader h.events) e) → ShowsLess (shown text) (told (text ++ b ∷ more)) held held'
less-with text r b e new more held held' h reads (rest, some, w) =
    let tail = told-front (text ++ b ∷ []) (h.events ++ e ∷ []) new more reads in (
      record {
        more = w.part;
        rest = rest ++ tail.0;
        shows =
            ap told (sym (append_assoc text (b ∷ []) more)) ∙ tail.1 ∙ ap (λ t. t ++ tail.0) (shown-with text r b e new h reads ∙ ap (λ t. shown text ++ t) w.text_is)
            ∙ append_assoc (shown text) (w.part ++ rest) tail.0 ∙ ap (λ t. shown text ++ t) (append_assoc w.part rest tail.0) ∙ sym (append_assoc (shown text) w.part (rest ++ tail.0));
        put = w.put;
      },
      λ none. some (no_front rest tail.0 none),
    )

-- the event has no lines, where no more is told
pub none-with : (text : List ℕ) (r : Replaying) (b : ℕ) (e : Event) (new : Fed) (more : List ℕ) (h : IsReplayOf text r) → StandsFor (text ++ b ∷ []) (h.events ++ e ∷ []) new
    → told (text ++ b ∷ more) ≡ shown text → event_text (script_with new.reader h.events) e ≡ []
none-with text r b e new more h reads same =
    let tail = told-front (text ++ b ∷ []) (h.events ++ e ∷ []) new more reads in
    (none-behind (shown text) (event_text (script_with new.reader h.events) e) tail.0
    (ap (λ t. t ++ tail.0) (sym (shown-with text r b e new h reads)) ∙ sym tail.1 ∙ ap told (append_assoc text (b ∷ []) more) ∙ same)).0

pub front-without : (text : List ℕ) (r : Replaying) (more : List ℕ) (held : Option (List ℕ)) → IsReplayOf text r → ShowsFront (shown text) (told (text ++ more)) held held
front-without text r more held h =
    let tail = told-front text h.events r.text more h.reads in
    record { more = []; rest = tail.0; shows = tail.1 ∙ ap (λ t. t ++ tail.0) (sym (append-nil (shown text))); put = Appends-nil held }

-- ---- faults

told-refused : (text : List ℕ) (script : Script) (fault : ℕ × Cause) → script_of text ≡ Err fault → accepted_script text ≡ script → told text ≡ events_text script
unfolding told
told-refused text script fault is same = ap (λ x. told_by x text) is ∙ ap events_text same

pub refused-here : (text whole : List ℕ) (r : Replaying) (fault : ScriptFault) (h : IsReplayOf text r) → IsRefusedFor whole (script_with r.text.reader h.events) fault → IsRefusedHere whole (shown text) (stream_fault fault)
refused-here text whole r (script.At line cause) h refused = λ more.
    let at = refused more in
    (at.0, told-refused (whole ++ more) (script_with r.text.reader h.events) (line, cause) at.0 at.1 ∙ sym (shown-is text h.events r.text h.reads))
refused-here text whole r script.NoMemory h refused = tt

pub at_err : {T E P : Type 0} (r : Result T E) → P → OnErr r P
at_err (Ok value) p = tt
at_err (Err fault) p = p

-- ---- at the end of the text

none-full : (script : Script) → IsPlayable script → IsPlayable (record script { events = [] })
none-full script h = record { mode = h.mode; ends = h.ends; events = All-nil _; commands_of_a = omega arith; commands_of_b = omega arith; sum = omega arith }

none-half : (script : Script) → IsHalfPlayable script → IsHalfPlayable (record script { events = [] })
none-half script h = record { mode = h.mode; ends = h.ends; events = All-nil _; commands = omega arith; sum = omega arith }

playable-none : (d : Reader) (events : List Event) → CanBePlayed (script_with d events) → CanBePlayed (script_with d [])
playable-none (Full d) events h = record { full = λ mode. none-full (script_with (Full d) events) (h.full mode); half = λ mode. none-half (script_with (Full d) events) (h.half mode) }
playable-none (Half d) events h = record { full = λ mode. none-full (script_with (Half d) events) (h.full mode); half = λ mode. none-half (script_with (Half d) events) (h.half mode) }

pub playable-rest : (text : List ℕ) (r : Replaying) → IsReplayAtEnd text r → CanBePlayed (script_with r.text.reader [])
playable-rest text r h = playable-none r.text.reader h.events (playable-at-end text h.events r.text h.reads)

told-at-end : (text : List ℕ) (all : List Event) (new : Fed) → EndsFor text all new → (rest : List ℕ) × (told text ≡ events_text (script_with new.reader all) ++ rest)
unfolding told
told-at-end text all new h =
    let accepted = script-at-end text all new h in
    elim (script_of text) as (λ x. script_of text ≡ x → (rest : List ℕ) × (told_by x text ≡ events_text (script_with new.reader all) ++ rest)) [
      | Ok script ↦ λ is. (rest_text script, report-parts script ∙ ap (λ s. events_text s ++ rest_text script) (sym (script-accepted text script is) ∙ accepted))
      | Err fault ↦ λ is. ([], ap events_text accepted ∙ sym (append-nil (events_text (script_with new.reader all))))
    ] refl

pub plays-at-end : (text : List ℕ) (r : Replaying) (all : List Event) (new : Fed) (h : IsReplayOf text r) → EndsFor text all new → IsWorldOf (script_with new.reader h.events) r.world
plays-at-end text r all new h over =
    world-on r.text.reader new.reader h.events all r.world (tells text h.events r.text h.reads) (front-at-end text h.events all r.text new h.reads over) h.plays

pub due-at-end : (text : List ℕ) (r : Replaying) (e : Event) (new : Fed) (h : IsReplayOf text r) → EndsFor text (h.events ++ e ∷ []) new → IsDue (record { text = new; world = r.world }) e
due-at-end text r e new h over = record {
  events = h.events;
  playable = playable-at-end text (h.events ++ e ∷ []) new over;
  plays = plays-at-end text r (h.events ++ e ∷ []) new h over;
}

-- what is shown of the text, by the reader at its end
shown-at-end : (text : List ℕ) (r : Replaying) (all : List Event) (new : Fed) (h : IsReplayOf text r) → EndsFor text all new → events_text (script_with new.reader h.events) ≡ shown text
shown-at-end text r all new h over =
    same-text r.text.reader new.reader h.events all (tells text h.events r.text h.reads) (front-at-end text h.events all r.text new h.reads over) ∙ sym (shown-is text h.events r.text h.reads)

pub ended-without : (text : List ℕ) (r : Replaying) (new : Fed) (h : IsReplayOf text r) → EndsFor text (h.events ++ []) new → IsReplayAtEnd text (record { text = new; world = r.world })
ended-without text r new h over' =
    let over : EndsFor text h.events new = rw (append-nil h.events) at over' in
    record { events = h.events; reads = over; plays = plays-at-end text r h.events new h over }

pub shows-without : (text : List ℕ) (r : Replaying) (new : Fed) (held : Option (List ℕ)) (h : IsReplayOf text r) → EndsFor text (h.events ++ []) new → ShowsMore (shown text) (events_text (accepted_script text)) held held
shows-without text r new held h over' =
    let over : EndsFor text h.events new = rw (append-nil h.events) at over' in
    record {
      more = [];
      shows = ap events_text (script-at-end text h.events new over) ∙ shown-at-end text r h.events new h over ∙ sym (append-nil (shown text));
      put = Appends-nil held;
    }

pub ended-with : (text : List ℕ) (r new : Replaying) (e : Event) (fed : Fed) (h : IsReplayOf text r) → EndsFor text (h.events ++ e ∷ []) fed → new.text ≡ fed → IsWorldOf (script_with fed.reader (h.events ++ e ∷ [])) new.world → IsReplayAtEnd text new
ended-with text r new e fed h over same plays = record {
  events = h.events ++ e ∷ [];
  reads = subst (EndsFor text (h.events ++ e ∷ [])) (sym same) over;
  plays = subst (λ (f : Fed). IsWorldOf (script_with f.reader (h.events ++ e ∷ [])) new.world) (sym same) plays;
}

with-event : (text : List ℕ) (r : Replaying) (e : Event) (fed : Fed) (h : IsReplayOf text r) → EndsFor text (h.events ++ e ∷ []) fed → events_text (script_with fed.reader (h.events ++ e ∷ [])) ≡ shown text ++ event_text (script_with fed.reader h.events) e
with-event text r e fed h over =
    text-with fed.reader h.events e ∙ ap (λ t. t ++ event_text (script_with fed.reader h.events) e) (shown-at-end text r (h.events ++ e ∷ []) fed h over)

pub shows-with : (text : List ℕ) (r : Replaying) (e : Event) (fed : Fed) (held held' : Option (List ℕ)) (h : IsReplayOf text r) → EndsFor text (h.events ++ e ∷ []) fed → Put held held' (event_text (script_with fed.reader h.events) e)
    → ShowsMore (shown text) (events_text (accepted_script text)) held held'
shows-with text r e fed held held' h over put = record {
  more = event_text (script_with fed.reader h.events) e;
  shows = ap events_text (script-at-end text (h.events ++ e ∷ []) fed over) ∙ with-event text r e fed h over;
  put = put;
}

pub less-with-event : (text : List ℕ) (r : Replaying) (e : Event) (fed : Fed) (held held' : Option (List ℕ)) (h : IsReplayOf text r) → EndsFor text (h.events ++ e ∷ []) fed → WroteLess held held' (event_text (script_with fed.reader h.events) e)
    → ShowsLess (shown text) (told text) held held'
less-with-event text r e fed held held' h over (rest, some, w) =
    let tail = told-at-end text (h.events ++ e ∷ []) fed over in (
      record {
        more = w.part;
        rest = rest ++ tail.0;
        shows =
            tail.1 ∙ ap (λ t. t ++ tail.0) (with-event text r e fed h over ∙ ap (λ t. shown text ++ t) w.text_is)
            ∙ append_assoc (shown text) (w.part ++ rest) tail.0 ∙ ap (λ t. shown text ++ t) (append_assoc w.part rest tail.0) ∙ sym (append_assoc (shown text) w.part (rest ++ tail.0));
        put = w.put;
      },
      λ none. some (no_front rest tail.0 none),
    )

pub none-with-event : (text : List ℕ) (r : Replaying) (e : Event) (fed : Fed) (h : IsReplayOf text r) → EndsFor text (h.events ++ e ∷ []) fed → told text ≡ shown text → event_text (script_with fed.reader h.events) e ≡ []
none-with-event text r e fed h over same =
    let tail = told-at-end text (h.events ++ e ∷ []) fed over in
    (none-behind (shown text) (event_text (script_with fed.reader h.events) e) tail.0 (ap (λ t. t ++ tail.0) (sym (with-event text r e fed h over)) ∙ sym tail.1 ∙ same)).0

-- what is told is what the events showed, where it is what was shown before the last line
pub still-open : (text : List ℕ) (r : Replaying) (a b : Option (List ℕ)) → IsReplayAtEnd text r × ShowsMore (shown text) (events_text (accepted_script text)) a b → told text ≡ shown text → told text ≡ events_text (accepted_script text)
still-open text r a b first same =
    let tail = told-at-end text first.0.events r.text first.0.reads in
    let accepted = script-at-end text first.0.events r.text first.0.reads in
    let none = none-behind (shown text) first.1.more tail.0 (ap (λ t. t ++ tail.0) (sym first.1.shows ∙ ap events_text accepted) ∙ sym tail.1 ∙ same) in
    same ∙ sym (append-nil (shown text)) ∙ ap (λ m. shown text ++ m) (sym none.0) ∙ sym first.1.shows

pub front-as-shown : (text : List ℕ) (r : Replaying) (held : Option (List ℕ)) → IsReplayOf text r → ShowsFront (shown text) (told text) held held
front-as-shown text r held h = subst (λ t. ShowsFront (shown text) (told t) held held) (append-nil text) (front-without text r [] held h)

pub refused-line : (text : List ℕ) (r : Replaying) (fault : ScriptFault) (h : IsReplayOf text r) → IsRefusedAtEnd text (script_with r.text.reader h.events) fault → IsRefusedAs text (told text ≡ shown text) (stream_fault fault)
refused-line text r (script.At line cause) h refused = (refused.0, told-refused text (script_with r.text.reader h.events) (line, cause) refused.0 refused.1 ∙ sym (shown-is text h.events r.text h.reads))
refused-line text r script.NoMemory h refused = tt

-- ---- what follows the events

pub shows-rest : (text : List ℕ) (r : Replaying) (held held' : Option (List ℕ)) (h : IsReplayAtEnd text r) → script_of text ≡ Ok (script_with r.text.reader h.events) → Put held held' (rest_text (script_with r.text.reader h.events))
    → (script : Script) × (script_of text ≡ Ok script) × ShowsMore (events_text (accepted_script text)) (told text) held held'
unfolding told
shows-rest text r held held' h is put = (
  script_with r.text.reader h.events,
  is,
  record {
    more = rest_text (script_with r.text.reader h.events);
    shows = ap (λ x. told_by x text) is ∙ report-parts (script_with r.text.reader h.events) ∙ ap (λ s. events_text s ++ rest_text (script_with r.text.reader h.events)) (sym (script-at-end text h.events r.text h.reads));
    put = put;
  },
)

pub less-rest : (text : List ℕ) (r : Replaying) (held held' : Option (List ℕ)) (h : IsReplayAtEnd text r) → script_of text ≡ Ok (script_with r.text.reader h.events) → WroteLess held held' (rest_text (script_with r.text.reader h.events))
    → ShowsLess (events_text (accepted_script text)) (told text) held held'
unfolding told
less-rest text r held held' h is (rest, some, w) = (
  record {
    more = w.part;
    rest = rest;
    shows =
        ap (λ x. told_by x text) is ∙ report-parts (script_with r.text.reader h.events) ∙ ap (λ t. events_text (script_with r.text.reader h.events) ++ t) w.text_is
        ∙ sym (append_assoc (events_text (script_with r.text.reader h.events)) w.part rest)
        ∙ ap (λ s. events_text s ++ w.part ++ rest) (sym (script-at-end text h.events r.text h.reads));
    put = w.put;
  },
  some,
)

-- something is told behind the events
pub some-rest : (text : List ℕ) (r : Replaying) (h : IsReplayAtEnd text r) → script_of text ≡ Ok (script_with r.text.reader h.events) → told text ≢ events_text (accepted_script text)
unfolding told
some-rest text r h is same =
    let script = script_with r.text.reader h.events in
    let all : events_text script ++ rest_text script ≡ events_text script = sym (ap (λ x. told_by x text) is ∙ report-parts script) ∙ same ∙ ap events_text (script-at-end text h.events r.text h.reads) in
    some_report (record_from (last_world script) []) (none-behind (events_text script) (rest_text script) [] (append-nil (events_text script ++ rest_text script) ∙ all)).0

pub refused-open : (text : List ℕ) (r : Replaying) (fault : ScriptFault) (h : IsReplayAtEnd text r) → IsRefusedAtEnd text (script_with r.text.reader h.events) fault → IsRefusedAs text (told text ≡ events_text (accepted_script text)) (stream_fault fault)
refused-open text r (script.At line cause) h refused = (refused.0, told-refused text (script_with r.text.reader h.events) (line, cause) refused.0 refused.1 ∙ ap events_text (sym refused.1))
refused-open text r script.NoMemory h refused = tt

pub front-open : (text : List ℕ) (r : Replaying) (held : Option (List ℕ)) → IsReplayAtEnd text r → ShowsFront (events_text (accepted_script text)) (told text) held held
front-open text r held h =
    let tail = told-at-end text h.events r.text h.reads in
    let accepted = script-at-end text h.events r.text h.reads in
    record {
      more = [];
      rest = tail.0;
      shows = tail.1 ∙ ap (λ s. events_text s ++ tail.0) (sym accepted) ∙ ap (λ t. t ++ tail.0) (sym (append-nil (events_text (accepted_script text))));
      put = Appends-nil held;
    }

-- one after the other
pub front-behind : (before middle all : List ℕ) (a b c : Option (List ℕ)) → ShowsMore before middle a b → ShowsFront middle all b c → ShowsFront before all a c
front-behind before middle all a b c first second = record {
  more = first.more ++ second.more;
  rest = second.rest;
  shows = second.shows ∙ ap (λ t. t ++ second.more ++ second.rest) first.shows ∙ ap (λ t. t ++ second.rest) (append_assoc before first.more second.more);
  put = Appends-trans a b c first.more second.more first.put second.put;
}

pub less-behind : (before middle all : List ℕ) (a b c : Option (List ℕ)) → ShowsMore before middle a b → ShowsLess middle all b c → ShowsLess before all a c
unfolding front-behind
less-behind before middle all a b c first second = (front-behind before middle all a b c first second.0, second.1)

-- ---- bytes one after another

pub shows-behind : (before middle after : List ℕ) (a b c : Option (List ℕ)) → ShowsMore before middle a b → ShowsMore middle after b c → ShowsMore before after a c
shows-behind before middle after a b c first second = record {
  more = first.more ++ second.more;
  shows = second.shows ∙ ap (λ t. t ++ second.more) first.shows ∙ append_assoc before first.more second.more;
  put = Appends-trans a b c first.more second.more first.put second.put;
}

-- where some of the bytes that follow are refused, whatever follows them, all are
pub stops-here : (text bytes whole rest written : List ℕ) (held held' : Option (List ℕ)) (fault : StreamFault) → text ++ bytes ≡ whole ++ rest
    → ShowsMore (shown text) written held held' → IsRefusedHere whole written fault → IsRefusedWith (text ++ bytes) (shown text) held held' fault
stops-here text bytes whole rest written held held' (stream.At line cause) is shows refused = λ more.
    let at = refused (rest ++ more) in
    let same : (text ++ bytes) ++ more ≡ whole ++ (rest ++ more) = ap (λ t. t ++ more) is ∙ append_assoc whole rest more in
    (ap script_of same ∙ at.0, record { more = shows.more; shows = ap told same ∙ at.1 ∙ shows.shows; put = shows.put })
stops-here text bytes whole rest written held held' stream.SinkFailed is shows refused = tt
stops-here text bytes whole rest written held held' stream.NoMemory is shows refused = tt

-- where only a sink that failed changes it, the sink of a refused line is as it was
pub unchanged : {K : Type 0} (sink sink' : K) (fault : StreamFault) (held : K → Option (List ℕ)) (P : Option (List ℕ) → Type 0) → (fault ≢ stream.SinkFailed → sink' ≡ sink) → (fault ≡ stream.SinkFailed → P (held sink')) → P (held sink) → P (held sink')
unchanged sink sink' (stream.At line cause) held P same failed p = subst (λ k. P (held k)) (sym (same (λ is. cc))) p
unchanged sink sink' stream.SinkFailed held P same failed p = failed refl
unchanged sink sink' stream.NoMemory held P same failed p = subst (λ k. P (held k)) (sym (same (λ is. cc))) p

pub front-on-err : {T K : Type 0} (result : Result T StreamFault) (sink sink' : K) (held : K → Option (List ℕ)) (before all : List ℕ) → IfErr result (λ fault. fault ≢ stream.SinkFailed → sink' ≡ sink)
    → (IsErrOf result stream.SinkFailed → ShowsLess before all (held sink) (held sink')) → ShowsFront before all (held sink) (held sink) → OnErr result (ShowsFront before all (held sink) (held sink'))
front-on-err (Ok value) sink sink' held before all same failed none = tt
front-on-err (Err fault) sink sink' held before all same failed none =
    unchanged sink sink' fault held (λ now. ShowsFront before all (held sink) now) same (λ is. (failed (ap Err is)).0) none

-- a faulty line is no sink that failed
pub no-sink-failed : (fault : ScriptFault) (e : StreamFault) → e ≡ stream_fault fault → e ≢ stream.SinkFailed
no-sink-failed (script.At line cause) e is failed = cc
no-sink-failed script.NoMemory e is failed = cc

-- what is refused stays so, whatever follows
pub refused-behind : (whole rest written : List ℕ) (fault : StreamFault) → IsRefusedHere whole written fault → IsRefusedHere (whole ++ rest) written fault
refused-behind whole rest written (stream.At line cause) refused = λ more.
    let same : (whole ++ rest) ++ more ≡ whole ++ (rest ++ more) = append_assoc whole rest more in
    let at = refused (rest ++ more) in
    (ap script_of same ∙ at.0, ap told same ∙ at.1)
refused-behind whole rest written stream.SinkFailed refused = tt
refused-behind whole rest written stream.NoMemory refused = tt

-- ---- more of the rest is taken

pub some-taken : (text front rest : List ℕ) (n : ℕ) (r : Replaying) (a b c : Option (List ℕ)) → ShowsMore (shown text) (shown (text ++ front)) a b
    → IsReplayOf ((text ++ front) ++ take n rest) r × ShowsMore (shown (text ++ front)) (shown ((text ++ front) ++ take n rest)) b c
    → IsReplayOf (text ++ (front ++ take n rest)) r × ShowsMore (shown text) (shown (text ++ (front ++ take n rest))) a c
some-taken text front rest n r a b c so_far now =
    let all = sym (append_assoc text front (take n rest)) in (
      subst (λ (t : List ℕ). IsReplayOf t r) (sym all) now.0,
      subst (λ (t : List ℕ). ShowsMore (shown text) (shown t) a c) (sym all) (shows-behind (shown text) (shown (text ++ front)) (shown ((text ++ front) ++ take n rest)) a b c so_far now.1),
    )

pub none-taken : (text front rest : List ℕ) (n : ℕ) (r : Replaying) (a b c : Option (List ℕ)) → n ≡ 0 → ShowsMore (shown text) (shown (text ++ front)) a b
    → IsReplayOf ((text ++ front) ++ take n rest) r × ShowsMore (shown (text ++ front)) (shown ((text ++ front) ++ take n rest)) b c
    → IsReplayOf (text ++ front) r × ShowsMore (shown text) (shown (text ++ front)) a c
none-taken text front rest n r a b c zero so_far now =
    let same : (text ++ front) ++ take n rest ≡ text ++ front = ap (λ k. (text ++ front) ++ take k rest) zero ∙ append-nil (text ++ front) in (
      subst (λ (t : List ℕ). IsReplayOf t r) same now.0,
      subst (λ (t : List ℕ). ShowsMore (shown text) (shown t) a c) same (shows-behind (shown text) (shown (text ++ front)) (shown ((text ++ front) ++ take n rest)) a b c so_far now.1),
    )
