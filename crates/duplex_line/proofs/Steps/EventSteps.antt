-- An event at one end, by what its steps do there.
use Rattle.std.proofs.Common.{◌≡◌, ◌∙◌, ℕ, List, [], ◌∷◌, ◌++◌, map, Result, Ok, Err, OnOk, ◌+◌, refl, sym, ap, append-nil, append_assoc}
use Rattle.std.specs.Prelude.{replicate}
use Rattle.script_statement.specs.declared.who.Who.{Who}
use Rattle.replay_report.specs.declared.record.Line.{Line}
use Rattle.replay_report.specs.Report.{sent_lines}
use Rattle.lane_cells.specs.Cells.{LaneCell}
use Rattle.lane_cells.specs.Cells.{bare}
use Rattle.duplex_line.specs.Acts.{LineEndState, LineState, Deed, Take, Deliver, Lose, Foreign, Tick, after_cell, deceptions_at, cell_lines, after_deed, after_deeds, lines_over, given_over}
use Rattle.duplex_line.specs.Steps.{near_over, near_lines_over}
use Rattle.duplex_line.specs.Run.{other, deed_lines}
use Rattle.duplex_line.proofs.Steps.UnitSteps.{nearer, stays, stays-lines, silent, gives-none}

-- what follows of a success
pub on_ok : {T E P Q : Type 0} (r : Result T E) → (P → Q) → OnOk r P → OnOk r Q
on_ok (Ok t) f p = f p
on_ok (Err e) f p = tt

-- ---- steps that give no byte

-- their lines are those of the event
pub without-bytes : (who : Who) (s : LineState) (deeds : List Deed) → given_over s.a deeds ≡ [] → (old new : List Line) → new ≡ old ++ lines_over who (other who) s deeds → new ≡ old ++ deed_lines who s deeds
without-bytes who s deeds none old new e =
    e ∙ ap (λ (lines : List Line). old ++ lines) (sym (append-nil (lines_over who (other who) s deeds)) ∙ ap (λ (bytes : List ℕ). lines_over who (other who) s deeds ++ sent_lines who bytes) (sym none))

pub delivers-give-none : (n : ℕ) (s : LineEndState) → given_over s (replicate n Deliver) ≡ []
delivers-give-none = gives-none Deliver (λ s. refl)

pub foreign-give-none : (bytes : List ℕ) (s : LineEndState) → given_over s (map Foreign bytes) ≡ []
foreign-give-none [] s = refl
foreign-give-none (byte ∷ bytes) s = foreign-give-none bytes s

-- ---- takes

pub takes-state : (n : ℕ) (s : LineState) (a : LineEndState) → a ≡ near_over s.a (replicate n Take) → nearer s a ≡ after_deeds s (replicate n Take)
takes-state n s a e = ap (nearer s) e ∙ sym (stays Take (λ t. refl) n s)

pub takes-lines : (who : Who) (n : ℕ) (s : LineState) (old new : List Line) → new ≡ old ++ sent_lines who (given_over s.a (replicate n Take)) → new ≡ old ++ deed_lines who s (replicate n Take)
takes-lines who n s old new e =
    let none = stays-lines who (other who) Take (λ t. refl) n s ∙ silent who Take (λ t. refl) n s.a in
    e ∙ ap (λ (lines : List Line). old ++ (lines ++ sent_lines who (given_over s.a (replicate n Take)))) (sym none)

-- ---- losses

pub losses-state : (n : ℕ) (s : LineState) (a : LineEndState) → a ≡ near_over s.a (replicate n Lose) → nearer s a ≡ after_deeds s (replicate n Lose)
losses-state n s a e = ap (nearer s) e ∙ sym (stays Lose (λ t. refl) n s)

pub losses-lines : (who : Who) (n : ℕ) (s : LineState) (old : List Line) → old ≡ old ++ deed_lines who s (replicate n Lose)
losses-lines who n s old =
    let none = stays-lines who (other who) Lose (λ t. refl) n s ∙ silent who Lose (λ t. refl) n s.a in
    without-bytes who s (replicate n Lose) (gives-none Lose (λ t. refl) n s.a) old old (sym (append-nil old) ∙ ap (λ (lines : List Line). old ++ lines) (sym none))

-- ---- ticks

pub ticks-state : (n : ℕ) (s : LineState) (a : LineEndState) → a ≡ near_over s.a (replicate n Tick) → nearer s a ≡ after_deeds s (replicate n Tick)
ticks-state n s a e = ap (nearer s) e ∙ sym (stays Tick (λ t. refl) n s)

pub ticks-lines : (who : Who) (n : ℕ) (s : LineState) (old new : List Line) → new ≡ old ++ near_lines_over who s.a (replicate n Tick) → new ≡ old ++ deed_lines who s (replicate n Tick)
ticks-lines who n s old new e =
    without-bytes who s (replicate n Tick) (gives-none Tick (λ t. refl) n s.a) old new (e ∙ ap (λ (lines : List Line). old ++ lines) (sym (stays-lines who (other who) Tick (λ t. refl) n s)))

-- ---- foreign bytes

-- a foreign byte has arrived
pub foreign-one : (near far after : LineEndState) (count more : ℕ) (cell : LaneCell) (byte : ℕ) → cell ≡ bare byte → after ≡ after_cell far cell → more ≡ count + deceptions_at far cell
    → nearer (record { a = near; b = after; deceived = more }) near ≡ after_deed (record { a = near; b = far; deceived = count }) (Foreign byte)
foreign-one near far after count more cell byte is is-after is-more = rw (is-after, is-more, is) refl

pub foreign-lines-one : (from to : Who) (near far after : LineEndState) (count more : ℕ) (cell : LaneCell) (byte : ℕ) (rest : List Deed) (old new : List Line) → cell ≡ bare byte → after ≡ after_cell far cell → more ≡ count + deceptions_at far cell → new ≡ old ++ cell_lines to far cell
    → new ++ lines_over from to (record { a = near; b = after; deceived = more }) rest ≡ old ++ lines_over from to (record { a = near; b = far; deceived = count }) (Foreign byte ∷ rest)
foreign-lines-one from to near far after count more cell byte rest old new is is-after is-more is-new = rw (is-new, is-after, is-more, is) (append_assoc old (cell_lines to far (bare byte)) _)
