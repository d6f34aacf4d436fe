-- Runs of either mode: some events and then others, the lines that stand, and what the run of a full-duplex script is.
use Rattle.std.proofs.Common.{◌≡◌, ◌∙◌, ℕ, ◌+◌, ◌<◌, suc, Bool, true, false, List, [], ◌∷◌, ◌++◌, length, drop, drop-cons, get_or, refl, sym, ap, subst, arith, append_assoc}
use Rattle.std.proofs.Math.Numerals.{suc-eq-add-one}
use Rattle.std.specs.Prelude.{sum_by}
use Rattle.std.specs.List.{flat_map}
use Rattle.std.proofs.lemmas.List.Sums.{sum_by-cons}
use Rattle.script_parts.specs.declared.script.Event.{Event}
use Rattle.script_parts.specs.declared.script.Script.{Script}
use Rattle.script_parts.specs.Playable.{IsPlayable, count_of}
use Rattle.script_parts.specs.HalfPlayable.{CanBePlayed, IsHalfPlayable, half_count_of, numbers_of}
use Rattle.replay_report.specs.declared.record.Line.{Line}
use Rattle.replay_report.specs.declared.record.Record.{Record}
use Rattle.replay_report.specs.Report.{line_text, word_text, deceived_text, report}
use Rattle.df1_node.specs.Node.{NodeState}
use Rattle.half_line.specs.Behind.{plain_node}
use Rattle.half_line.specs.Acts.{HalfState}
use Rattle.half_line.specs.Plays.{Played as HalfPlayed, numbers_at, weight}
use Rattle.half_line.specs.Run as polled
use Rattle.half_line.specs.Once.{EachOnce as HalfOnce}
use Rattle.half_line.specs.Prompt.{IsUndisturbed as HalfUndisturbed}
use Rattle.half_line.specs.Complete.{IsComplete as HalfComplete}
use Rattle.half_line.proofs.Certified.AloneRun.{certified-alone, well-alone as polled-well-alone}
use Rattle.half_line.proofs.Certified.WholeRun.{certified as certified-stations, well-after as polled-well-after}
use Rattle.half_line.proofs.Complete.AfterRest.{goes-well as polled-goes-well}
use Rattle.half_line.proofs.Complete.WholeRun.{is-complete as polled-is-complete}
use Rattle.half_line.proofs.Once.EachStation.{each-once as polled-each-once}
use Rattle.half_line.proofs.Once.MasterCommands.{issued-run}
use Rattle.half_line.specs.Wire.{AreDf1Wires as PolledWires}
use Rattle.half_line.proofs.Wire.Told.{all-df1}
use Rattle.half_line.proofs.Once.MasterOutcomes.{outcomes-run}
use Rattle.half_line.proofs.Steps.EventsToCome.{event-numbers, start-numbers}
use Rattle.duplex_line.specs.Acts.{LineState}
use Rattle.duplex_line.specs.Plays.{Played}
use Rattle.duplex_line.specs.Run as duplex
use Rattle.duplex_line.specs.Once.{EachOnce}
use Rattle.duplex_line.specs.Prompt.{IsPrompt, EndsQuiet, HasRooms}
use Rattle.duplex_line.specs.Recoverable.{IsRecoverable}
use Rattle.duplex_line.proofs.Certified.WholeRun.{certified-by-a, certified-by-b, well-after-a, well-after-b}
use Rattle.duplex_line.proofs.Complete.AfterRest.{goes-soundly}
use Rattle.duplex_line.specs.Complete.{IsComplete as DuplexComplete}
use Rattle.duplex_line.proofs.Complete.WholeRun.{is-complete as duplex-is-complete, recovers}
use Rattle.duplex_line.proofs.Once.WholeRun.{each-once}
use Rattle.duplex_line.specs.Wire.{AreDf1Wires as DuplexWires}
use Rattle.duplex_line.proofs.Wire.WholeRun.{wires}
use Rattle.line_world.specs.declared.world.World.{World}
use Rattle.line_world.specs.declared.world.World.TheVariants.{Duplex, Polled}
use Rattle.line_world.specs.Complete.{IsUndisturbed, IsUndisturbedIn, IsComplete, IsCompleteIn}
use Rattle.line_world.specs.Once.{EachCommandOnce, EachOnceIn}
use Rattle.line_world.specs.Recovery.{Recovers, RecoversIn}
use Rattle.line_world.specs.Rested.{GoesWell, PolledGoesWell, GoesWellIn, GoesWellAfterRest}
use Rattle.line_world.specs.Wire.{AreDf1Wires, AreDf1WiresIn}
use Rattle.line_world.specs.Runs.{after_event, after_events, all_lines, begun, begun_in, last_world, lines_in, lines_of, lines_after, played, printed, record_from, record_of, IsNext}

-- ---- some events, and then others

pub after-behind : (w : World) (events more : List Event) → after_events w (events ++ more) ≡ after_events (after_events w events) more
after-behind w [] more = refl
after-behind w (e ∷ events) more = after-behind (after_event w e) events more

pub lines-behind : (w : World) (events more : List Event) → lines_after w (events ++ more) ≡ lines_after w events ++ lines_after (after_events w events) more
lines-behind w [] more = refl
lines-behind w (e ∷ events) more =
    ap (λ l. lines_of w e ++ l) (lines-behind (after_event w e) events more) ∙ sym (append_assoc (lines_of w e) (lines_after (after_event w e) events) (lines_after (after_events (after_event w e) events) more))

-- ---- the lines that stand

printed-lines : (w : World) → lines_in (printed w) ≡ []
printed-lines (Duplex p) = refl
printed-lines (Polled p) = refl

after-lines : (w : World) (events : List Event) → lines_in w ≡ [] → lines_in (after_events w events) ≡ []
after-lines w [] none = none
after-lines w (e ∷ events) none = after-lines (after_event w e) events (printed-lines (played w e))

pub begun-lines : (half : Bool) (script : Script) → lines_in (begun_in half script.check script.ends) ≡ []
begun-lines true script = refl
begun-lines false script = refl

pub played-lines : (w : World) (e : Event) → lines_in (played w e) ≡ lines_in w ++ lines_of w e
played-lines (Duplex p) e = refl
played-lines (Polled p) e = refl

pub last-lines : (script : Script) → lines_in (last_world script) ≡ []
last-lines script = after-lines (begun script) script.events (begun-lines script.half script)

pub no-lines : (script : Script) (e : Event) → lines_in (played (last_world script) e) ≡ lines_of (last_world script) e
no-lines script e = played-lines (last_world script) e ∙ ap (λ l. l ++ lines_of (last_world script) e) (last-lines script)

-- ---- lines that are not printed

-- what may happen next, and what it does, doesn't depend on the lines that stand
pub printed-next : (w : World) (e : Event) → IsNext (printed w) e → IsNext w e
printed-next (Duplex p) e next = record { possible = next.possible; unspent = next.unspent; sum = next.sum }
printed-next (Polled p) e next = record { possible = next.possible; unspent = next.unspent; sum = next.sum }

pub printed-then : (w : World) (e : Event) → printed (played w e) ≡ after_event (printed w) e
printed-then (Duplex p) e = refl
printed-then (Polled p) e = refl

pub printed-of : (w : World) (e : Event) → lines_of (printed w) e ≡ lines_of w e
printed-of (Duplex p) e = refl
printed-of (Polled p) e = refl

pub printed-record : (w : World) (lines : List Line) → record_from (printed w) lines ≡ record_from w lines
printed-record (Duplex p) lines = refl
printed-record (Polled p) lines = refl

-- ---- one event after another, of a script

pub events-next : (events : List Event) (i : ℕ) (e : Event) → i < length events → e ≡ get_or events i e → drop i events ≡ e ∷ drop (i + 1) events
events-next events i e lt is =
    drop-cons events i e lt ∙ ap (λ (x : Event). x ∷ drop (suc i) events) (sym is) ∙ ap (λ (j : ℕ). e ∷ drop j events) (suc-eq-add-one i)

-- ---- the report

pub report-from : (w : World) (lines : List Line) → report (record_from w lines) ≡ flat_map line_text lines ++ report (record_from w [])
unfolding report
report-from (Duplex p) lines = append_assoc (flat_map line_text lines) (flat_map word_text (duplex.all_words p.state)) (deceived_text p.state.deceived)
report-from (Polled p) lines = append_assoc (flat_map line_text lines) (flat_map word_text (polled.all_words plain_node p.state)) (deceived_text p.state.deceived)

-- ---- a full-duplex script

duplex-state : (s : LineState) (sum : ℕ) (events : List Event) → after_events (Duplex (record { state = s; lines = []; events = sum })) events
    ≡ Duplex (record { state = duplex.state_after s events; lines = []; events = sum + sum_by count_of events })
duplex-state s sum [] = let same : sum ≡ sum + sum_by count_of [] = omega arith in ap (λ (n : ℕ). Duplex (record { state = s; lines = []; events = n })) same
duplex-state s sum (e ∷ events) =
    let one = sum_by-cons count_of e events in
    let same : (sum + count_of e) + sum_by count_of events ≡ sum + sum_by count_of (e ∷ events) = omega (arith, one) in
    duplex-state (duplex.after_event s e) (sum + count_of e) events
    ∙ ap (λ (n : ℕ). Duplex (record { state = duplex.state_after (duplex.after_event s e) events; lines = []; events = n })) same

duplex-lines : (p : Played) (events : List Event) → lines_after (Duplex p) events ≡ duplex.lines_after p.state events
duplex-lines p [] = refl
duplex-lines p (e ∷ events) = ap (λ l. duplex.lines_of p.state e ++ l) (duplex-lines (record { state = duplex.after_event p.state e; lines = []; events = p.events + count_of e }) events)

-- the world after some events of a full-duplex script
pub duplex-after : (script : Script) (events : List Event) → script.half ≡ false → after_events (begun script) events
    ≡ Duplex (record { state = duplex.state_after (duplex.start script) events; lines = []; events = 0 + sum_by count_of events })
duplex-after script events mode = rw mode (duplex-state (duplex.start script) 0 events)

-- ---- a half-duplex script

polled-state : (numbers : List ℕ) (s : HalfState NodeState) (sum : ℕ) (events : List Event) → numbers_at s.stations ≡ numbers → after_events (Polled (record { state = s; lines = []; events = sum })) events
    ≡ Polled (record { state = polled.state_after plain_node s events; lines = []; events = sum + sum_by (half_count_of numbers) events })
polled-state numbers s sum [] are = let same : sum ≡ sum + sum_by (half_count_of numbers) [] = omega arith in ap (λ (n : ℕ). Polled (record { state = s; lines = []; events = n })) same
polled-state numbers s sum (e ∷ events) are =
    let one = sum_by-cons (half_count_of numbers) e events in
    let count = half_count_of numbers e in
    let weight : half_count_of (numbers_at s.stations) e ≡ count = ap (λ ns. half_count_of ns e) are in
    let same : (sum + half_count_of (numbers_at s.stations) e) + sum_by (half_count_of numbers) events ≡ sum + sum_by (half_count_of numbers) (e ∷ events) = omega (arith, one, weight) in
    polled-state numbers (polled.after_event plain_node s e) (sum + half_count_of (numbers_at s.stations) e) events (event-numbers plain_node s e ∙ are)
    ∙ ap (λ (n : ℕ). Polled (record { state = polled.state_after plain_node (polled.after_event plain_node s e) events; lines = []; events = n })) same

polled-lines : (p : HalfPlayed NodeState) (events : List Event) → lines_after (Polled p) events ≡ polled.lines_after plain_node p.state events
polled-lines p [] = refl
polled-lines p (e ∷ events) = ap (λ l. polled.lines_of plain_node p.state e ++ l) (polled-lines (record { state = polled.after_event plain_node p.state e; lines = []; events = p.events + weight p e }) events)

-- the world after some events of a half-duplex script
pub polled-after : (script : Script) (events : List Event) → script.half ≡ true → after_events (begun script) events
    ≡ Polled (record { state = polled.state_after plain_node (polled.start script) events; lines = []; events = 0 + sum_by (half_count_of (numbers_of script.ends)) events })
polled-after script events mode = rw mode (polled-state (numbers_of script.ends) (polled.start script) 0 events (start-numbers script))

-- its record is that of the run of a master and its stations
pub polled-record : (script : Script) → script.half ≡ true → record_of script ≡ polled.record_of script
unfolding record_of polled.record_of
polled-record script mode =
    ap (λ (w : World). record_from w (all_lines script)) (polled-after script script.events mode)
    ∙ ap (λ l. polled.record_from plain_node (polled.last_state script) l) (rw mode (polled-lines _ script.events))

-- the record of a full-duplex script is that of the run of two ends
pub duplex-record : (script : Script) → script.half ≡ false → record_of script ≡ duplex.record_of script
unfolding record_of duplex.record_of
duplex-record script mode =
    ap (λ (w : World). record_from w (all_lines script)) (duplex-after script script.events mode)
    ∙ ap (λ l. duplex.record_from (duplex.last_state script) l) (rw mode (duplex-lines _ script.events))

-- ---- each command once, and all of them, on a full-duplex line

pub duplex-once : (script : Script) → IsPlayable script → (record_of script).deceived ≡ 0 → EachOnce script (record_of script)
unfolding duplex.record_of
duplex-once script playable = subst (λ (r : Record). r.deceived ≡ 0 → EachOnce script r) (sym (duplex-record script playable.mode)) (each-once script playable)

duplex-complete : (script : Script) → IsPlayable script → HasRooms script → IsPrompt script → EndsQuiet script → DuplexComplete script (record_of script)
unfolding duplex.record_of
duplex-complete script playable = subst (λ (r : Record). HasRooms script → IsPrompt script → EndsQuiet script → DuplexComplete script r) (sym (duplex-record script playable.mode)) (duplex-is-complete script playable)

-- ---- and on a half-duplex line

polled-honest : (script : Script) → IsHalfPlayable script → (polled.record_of script).deceived ≡ 0 → HalfOnce script (polled.record_of script)
unfolding polled.record_of
polled-honest script playable none = polled-each-once script playable (issued-run script).bodies (outcomes-run script playable) none

pub polled-once : (script : Script) → IsHalfPlayable script → (record_of script).deceived ≡ 0 → HalfOnce script (record_of script)
polled-once script playable = subst (λ (r : Record). r.deceived ≡ 0 → HalfOnce script r) (sym (polled-record script playable.mode)) (polled-honest script playable)

once-in : (half : Bool) (script : Script) → script.half ≡ half → CanBePlayed script → (record_of script).deceived ≡ 0 → EachOnceIn half script (record_of script)
once-in true script mode h = polled-once script (h.half mode)
once-in false script mode h = duplex-once script (h.full mode)

pub each-command-once : (script : Script) → CanBePlayed script → (record_of script).deceived ≡ 0 → EachCommandOnce script (record_of script)
each-command-once script h = once-in script.half script refl h

polled-undisturbed : (script : Script) → IsHalfPlayable script → HalfUndisturbed script → HalfComplete script (polled.record_of script)
unfolding polled.record_of
polled-undisturbed script playable undisturbed = polled-is-complete script playable undisturbed

polled-complete : (script : Script) → IsHalfPlayable script → HalfUndisturbed script → HalfComplete script (record_of script)
polled-complete script playable = subst (λ (r : Record). HalfUndisturbed script → HalfComplete script r) (sym (polled-record script playable.mode)) (polled-undisturbed script playable)

complete-in : (half : Bool) (script : Script) → script.half ≡ half → CanBePlayed script → IsUndisturbedIn half script → IsCompleteIn half script (record_of script)
complete-in true script mode h undisturbed = polled-complete script (h.half mode) undisturbed
complete-in false script mode h undisturbed = duplex-complete script (h.full mode) undisturbed.0 undisturbed.1 undisturbed.2

pub all-complete : (script : Script) → CanBePlayed script → IsUndisturbed script → IsComplete script (record_of script)
all-complete script h = complete-in script.half script refl h

-- ---- damage of which the line recovers

recovers-in : (half : Bool) (script : Script) → script.half ≡ half → CanBePlayed script → RecoversIn half script (record_of script)
unfolding duplex.record_of
recovers-in true script mode h = tt
recovers-in false script mode h = subst (λ (r : Record). IsRecoverable script → DuplexComplete script r) (sym (duplex-record script mode)) (recovers script (h.full mode))

pub all-recover : (script : Script) → CanBePlayed script → Recovers script (record_of script)
all-recover script h = recovers-in script.half script refl h

-- ---- a line that is at rest

polled-rested : (script : Script) → IsHalfPlayable script → PolledGoesWell script (polled.record_of script)
unfolding polled.record_of
polled-rested script playable = record {
  after_rest = λ front rest calm. polled-goes-well script front rest playable calm;
  certified_stations = λ front middle more rest n. certified-stations script front middle more rest n playable;
  certified_alone = λ front middle more rest n. certified-alone script front middle more rest n playable;
  after_answer = λ front middle more rest n. polled-well-after script front middle more rest n playable;
  after_answer_alone = λ front middle more rest n. polled-well-alone script front middle more rest n playable;
}

rested-in : (half : Bool) (script : Script) → script.half ≡ half → CanBePlayed script → GoesWellIn half script (record_of script)
unfolding duplex.record_of
rested-in true script mode h = subst (PolledGoesWell script) (sym (polled-record script mode)) (polled-rested script (h.half mode))
rested-in false script mode h = subst (GoesWell script) (sym (duplex-record script mode)) (record {
  after_rest = goes-soundly script (h.full mode);
  certified_by_a = λ front middle more rest n. certified-by-a script front middle more rest n (h.full mode);
  certified_by_b = λ front middle more rest n. certified-by-b script front middle more rest n (h.full mode);
  after_answer_of_a = λ front middle more rest n. well-after-a script front middle more rest n (h.full mode);
  after_answer_of_b = λ front middle more rest n. well-after-b script front middle more rest n (h.full mode);
})

pub all-rested : (script : Script) → CanBePlayed script → GoesWellAfterRest script (record_of script)
all-rested script h = rested-in script.half script refl h

-- ---- what the ends sent

duplex-wires : (script : Script) → IsPlayable script → DuplexWires script (record_of script)
unfolding duplex.record_of
duplex-wires script playable = subst (DuplexWires script) (sym (duplex-record script playable.mode)) (wires script playable)

polled-sent : (script : Script) → IsHalfPlayable script → PolledWires script (polled.record_of script)
unfolding polled.record_of
polled-sent script playable = all-df1 script playable (issued-run script).bodies

polled-wires : (script : Script) → IsHalfPlayable script → PolledWires script (record_of script)
polled-wires script playable = subst (PolledWires script) (sym (polled-record script playable.mode)) (polled-sent script playable)

wires-in : (half : Bool) (script : Script) → script.half ≡ half → CanBePlayed script → AreDf1WiresIn half script (record_of script)
wires-in true script mode h = polled-wires script (h.half mode)
wires-in false script mode h = duplex-wires script (h.full mode)

pub all-wires : (script : Script) → CanBePlayed script → AreDf1Wires script (record_of script)
all-wires script h = wires-in script.half script refl h
