-- Over a whole run: what holds at its start holds at its end, where no end was deceived.
use Rattle.std.proofs.Common.{◌≡◌, ◌∙◌, ℕ, zero, suc, ◌+◌, ◌≤◌, List, [], ◌∷◌, ◌++◌, map, cond, Option, Some, None, refl, sym, subst, arith, append-nil, append_assoc}
use Rattle.std.specs.Prelude.{All, IsTrue, slice_get, replicate, count_by}
use Rattle.std.proofs.lemmas.List.Elements.{All-head, All-tail}
use Rattle.std.proofs.lemmas.List.Sums.{sum_by-cons}
use Rattle.df1_node.specs.Node.{NodeState}
use Rattle.script_statement.specs.declared.who.Who.{Who}
use Rattle.script_statement.specs.Statements.{is_payload}
use Rattle.script_parts.specs.declared.script.Event.{Event}
use Rattle.script_parts.specs.declared.script.Event.TheVariants as event
use Rattle.script_parts.specs.HalfPlayable.{IsHalfPossible, is_issue}
use Rattle.replay_report.specs.declared.record.Line.{Line}
use Rattle.replay_report.specs.Report.{sent_lines}
use Rattle.half_line.specs.Behind.{plain_node}
use Rattle.half_line.specs.Acts.{LineStationState, HalfState, MasterDeed, LinkDeed, Issue, Give, Tick, StationGives, OnLane, Deliver, Lose, Alter, Foreign, after_link_deed, link_lines}
use Rattle.half_line.specs.Steps.{UnitStep, AtMaster, AtStation, link_of, after_with, after_step, lines_with, lines_at, bytes_over, after_steps, lines_over}
use Rattle.half_line.specs.Run.{station_at, number_of, station_between, way_from, place_of, steps_with, steps_at, steps_of, after_event, giver, lines_of, state_after, lines_after}
use Rattle.half_line.proofs.Once.Invariant.{side-lines, Setting, Holds, entered, left}
use Rattle.half_line.proofs.Once.LinkSteps.{link-deed, earlier}
use Rattle.half_line.proofs.Once.MasterSteps.{holds-issue, holds-give, holds-tick}
use Rattle.half_line.proofs.Once.QuietLines.{IsSilentOf, IsMute, sent-silent, sent-mute}
use Rattle.half_line.proofs.Once.MasterReplies.{master-mute}

-- it holds as long as no end was deceived
abbrev pub Kept : Setting → ℕ → HalfState NodeState → List Line → Type 0
Kept setting count s lines = s.deceived ≡ 0 → Holds setting count s lines

-- more lines that tell nothing of any station
holds-lines : (setting : Setting) (count : ℕ) (s : HalfState NodeState) (lines more : List Line) → ((station : ℕ) → IsSilentOf station more) → IsMute more → Holds setting count s lines → Holds setting count s (lines ++ more)
holds-lines setting count s lines more silent mute h = record {
  commands = h.commands;
  heard = h.heard;
  master = h.master;
  replies = master-mute setting.numbers lines more mute h.replies;
  numbers_are = h.numbers_are;
  sides = λ p side at. side-lines more (silent side.number) (h.sides p side at);
}

-- ---- unit steps

-- a step that isn't an issue
abbrev pub IsPlain : UnitStep → Type 0
IsPlain (AtMaster (Issue src dst payload)) = ⊥
IsPlain (AtMaster Give) = Unit {0}
IsPlain (AtMaster Tick) = Unit {0}
IsPlain (AtStation place deed) = Unit {0}

abbrev pub ArePlain : List UnitStep → Type 0
ArePlain [] = Unit {0}
ArePlain (step ∷ steps) = IsPlain step × ArePlain steps

kept-with : (setting : Setting) (count : ℕ) (place : ℕ) (deed : LinkDeed) (s : HalfState NodeState) (o : Option LineStationState) (lines : List Line) → count ≤ 65535 → slice_get s.stations place ≡ o → Kept setting count s lines
    → Kept setting count (after_with plain_node s place deed o) (lines ++ lines_with plain_node s deed o)
kept-with setting count place deed s None lines few at k none = rw (append-nil lines) (k none)
kept-with setting count place deed s (Some side) lines few at k none =
    left setting count s (lines ++ link_lines plain_node (link_of s side) deed) place side (after_link_deed plain_node (link_of s side) deed) at
    (link-deed setting count s.stations place deed (link_of s side) lines few none (entered setting count s lines place side at (k (earlier plain_node deed (link_of s side) none))))

pub kept-plain : (setting : Setting) (count : ℕ) (step : UnitStep) → IsPlain step → (s : HalfState NodeState) (lines : List Line) → count ≤ 65535 → Kept setting count s lines → Kept setting count (after_step plain_node s step) (lines ++ lines_at plain_node s step)
kept-plain setting count (AtMaster (Issue src dst payload)) plain s lines few k none = absurd plain
kept-plain setting count (AtMaster Give) plain s lines few k none = rw (append-nil lines) (holds-give setting count s lines (k none))
kept-plain setting count (AtMaster Tick) plain s lines few k none = holds-tick setting count s lines (k none)
kept-plain setting count (AtStation place deed) plain s lines few k none = kept-with setting count place deed s (slice_get s.stations place) lines few refl k none

kept-steps : (setting : Setting) (count : ℕ) (steps : List UnitStep) → ArePlain steps → (s : HalfState NodeState) (lines : List Line) → count ≤ 65535 → Kept setting count s lines → Kept setting count (after_steps plain_node s steps) (lines ++ lines_over plain_node s steps)
kept-steps setting count [] plain s lines few k none = rw (append-nil lines) (k none)
kept-steps setting count (step ∷ steps) plain s lines few k none =
    subst (λ (all : List Line). Holds setting count (after_steps plain_node (after_step plain_node s step) steps) all) (append_assoc lines (lines_at plain_node s step) (lines_over plain_node (after_step plain_node s step) steps))
    (kept-steps setting count steps plain.1 (after_step plain_node s step) (lines ++ lines_at plain_node s step) few (kept-plain setting count step plain.0 s lines few k) none)

-- ---- which steps are plain

plain-stations : (place : ℕ) (deeds : List LinkDeed) → ArePlain (map (AtStation place) deeds)
plain-stations place [] = tt
plain-stations place (deed ∷ deeds) = (tt, plain-stations place deeds)

pub plain-with : (o : Option ℕ) (deeds : List LinkDeed) → ArePlain (steps_with o deeds)
plain-with None deeds = tt
plain-with (Some place) deeds = plain-stations place deeds

pub plain-master : (deed : MasterDeed) → IsPlain (AtMaster deed) → (n : ℕ) → ArePlain (map AtMaster (replicate n deed))
plain-master deed plain zero = tt
plain-master deed plain (suc n) = (plain, plain-master deed plain n)

pub plain-take : (stations : List LineStationState) (who : Who) (n : ℕ) (o : Option ℕ) → ArePlain (steps_at stations o (event.Take who n))
plain-take stations who n None = plain-master Give tt n
plain-take stations who n (Some number) = plain-with (place_of stations number) (replicate n StationGives)

-- ---- events

-- how many commands were issued after an event
abbrev pub counted : ℕ → Event → ℕ
counted count (event.Issue who src dst payload) = count + 1
counted count (event.Take who n) = count
counted count (event.Deliver lane n) = count
counted count (event.Lose lane n) = count
counted count (event.Alter lane mask) = count
counted count (event.Foreign lane bytes) = count
counted count (event.Tick who n) = count

-- a command that comes isn't the 65,536th
abbrev pub IsCounted : ℕ → Event → Type 0
IsCounted count e = (count ≤ 65535) × (counted count e ≤ 65535)

-- the steps of an event, with its bytes
pub with-bytes : (setting : Setting) (count : ℕ) (s : HalfState NodeState) (e : Event) (lines : List Line) → Kept setting count (after_event plain_node s e) (lines ++ lines_over plain_node s (steps_of s e)) → Kept setting count (after_event plain_node s e) (lines ++ lines_of plain_node s e)
with-bytes setting count s e lines k none =
    let over = lines_over plain_node s (steps_of s e) in
    let sent = sent_lines (giver (station_at e)) (bytes_over plain_node s (steps_of s e)) in
    subst (λ (all : List Line). Holds setting count (after_event plain_node s e) all) (append_assoc lines over sent)
    (holds-lines setting count (after_event plain_node s e) (lines ++ over) sent (λ station. sent-silent station (giver (station_at e)) (bytes_over plain_node s (steps_of s e))) (sent-mute (giver (station_at e)) (bytes_over plain_node s (steps_of s e))) (k none))

plain-event : (setting : Setting) (count : ℕ) (s : HalfState NodeState) (e : Event) (lines : List Line) → ArePlain (steps_of s e) → count ≤ 65535 → Kept setting count s lines → Kept setting count (after_event plain_node s e) (lines ++ lines_of plain_node s e)
plain-event setting count s e lines plain few k = with-bytes setting count s e lines (kept-steps setting count (steps_of s e) plain s lines few k)

issue-event : (setting : Setting) (count : ℕ) (s : HalfState NodeState) (who : Who) (src : Option ℕ) (dst : ℕ) (payload : List ℕ) (lines : List Line) → IsTrue (is_payload payload) → count + 1 ≤ 65535 → Kept setting count s lines
    → Kept setting (count + 1) (after_event plain_node s (event.Issue who src dst payload)) (lines ++ lines_of plain_node s (event.Issue who src dst payload))
issue-event setting count s who src dst payload lines may few k none = rw (append-nil lines) (holds-issue setting count s src dst payload lines may (omega (arith, few)) (k none))

kept-event : (setting : Setting) (numbers : List ℕ) (count : ℕ) (e : Event) (s : HalfState NodeState) (lines : List Line) → IsHalfPossible numbers e → IsCounted count e → Kept setting count s lines
    → Kept setting (counted count e) (after_event plain_node s e) (lines ++ lines_of plain_node s e)
kept-event setting numbers count (event.Issue who src dst payload) s lines may few k = issue-event setting count s who src dst payload lines may.2 few.1 k
kept-event setting numbers count (event.Take who n) s lines may few k = plain-event setting count s (event.Take who n) lines (plain-take s.stations who n (number_of who)) few.0 k
kept-event setting numbers count (event.Deliver lane n) s lines may few k =
    plain-event setting count s (event.Deliver lane n) lines (plain-with (place_of s.stations (station_between lane.from lane.to)) (replicate n (OnLane (way_from lane.from) Deliver))) few.0 k
kept-event setting numbers count (event.Lose lane n) s lines may few k =
    plain-event setting count s (event.Lose lane n) lines (plain-with (place_of s.stations (station_between lane.from lane.to)) (replicate n (OnLane (way_from lane.from) Lose))) few.0 k
kept-event setting numbers count (event.Alter lane mask) s lines may few k =
    plain-event setting count s (event.Alter lane mask) lines (plain-with (place_of s.stations (station_between lane.from lane.to)) (OnLane (way_from lane.from) (Alter mask) ∷ [])) few.0 k
kept-event setting numbers count (event.Foreign lane bytes) s lines may few k =
    plain-event setting count s (event.Foreign lane bytes) lines (plain-with (place_of s.stations (station_between lane.from lane.to)) (map (λ byte. OnLane (way_from lane.from) (Foreign byte)) bytes)) few.0 k
kept-event setting numbers count (event.Tick who n) s lines may few k = plain-event setting count s (event.Tick who n) lines (plain-master Tick tt n) few.0 k

pub counted-more : (count : ℕ) (e : Event) (events : List Event) → count + count_by is_issue (e ∷ events) ≡ counted count e + count_by is_issue events
counted-more count (event.Issue who src dst payload) events = let more = sum_by-cons (λ (x : Event). cond (is_issue x) 1 0) (event.Issue who src dst payload) events in omega (arith, more)
counted-more count (event.Take who n) events = let more = sum_by-cons (λ (x : Event). cond (is_issue x) 1 0) (event.Take who n) events in omega (arith, more)
counted-more count (event.Deliver lane n) events = let more = sum_by-cons (λ (x : Event). cond (is_issue x) 1 0) (event.Deliver lane n) events in omega (arith, more)
counted-more count (event.Lose lane n) events = let more = sum_by-cons (λ (x : Event). cond (is_issue x) 1 0) (event.Lose lane n) events in omega (arith, more)
counted-more count (event.Alter lane mask) events = let more = sum_by-cons (λ (x : Event). cond (is_issue x) 1 0) (event.Alter lane mask) events in omega (arith, more)
counted-more count (event.Foreign lane bytes) events = let more = sum_by-cons (λ (x : Event). cond (is_issue x) 1 0) (event.Foreign lane bytes) events in omega (arith, more)
counted-more count (event.Tick who n) events = let more = sum_by-cons (λ (x : Event). cond (is_issue x) 1 0) (event.Tick who n) events in omega (arith, more)

-- how many commands were issued after these events
abbrev pub counted_over : ℕ → List Event → ℕ
counted_over count [] = count
counted_over count (e ∷ events) = counted_over (counted count e) events

pub kept-events : (setting : Setting) (numbers : List ℕ) (count : ℕ) (events : List Event) (s : HalfState NodeState) (lines : List Line) → All (IsHalfPossible numbers) events → count + count_by is_issue events ≤ 65535 → Kept setting count s lines
    → Kept setting (counted_over count events) (state_after plain_node s events) (lines ++ lines_after plain_node s events)
kept-events setting numbers count [] s lines possible few k none = rw (append-nil lines) (k none)
kept-events setting numbers count (e ∷ events) s lines possible few k none =
    let more = counted-more count e events in
    let later : counted count e + count_by is_issue events ≤ 65535 = subst (λ n. n ≤ 65535) more few in
    let one = kept-event setting numbers count e s lines (All-head (IsHalfPossible numbers) e events possible) (omega (arith, few), omega (arith, later)) k in
    subst (λ (all : List Line). Holds setting (counted_over (counted count e) events) (state_after plain_node (after_event plain_node s e) events) all) (append_assoc lines (lines_of plain_node s e) (lines_after plain_node (after_event plain_node s e) events))
    (kept-events setting numbers (counted count e) events (after_event plain_node s e) (lines ++ lines_of plain_node s e) (All-tail (IsHalfPossible numbers) e events possible) later one none)

pub counted-within : (count : ℕ) (events : List Event) → counted_over count events ≡ count + count_by is_issue events
counted-within count [] = omega arith
counted-within count (e ∷ events) = counted-within (counted count e) events ∙ sym (counted-more count e events)
