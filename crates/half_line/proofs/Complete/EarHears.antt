-- What an ear hears of the cells on their way to it, and that none of them deceives its end: of either ear of a half-duplex line.
use Rattle.std.proofs.Common.{◌≡◌, ℕ, Bool, true, false, List, [], ◌∷◌, ◌++◌, length, Option, Some, None, ap, sym, subst, ◌∙◌, refl, append_assoc}
use Rattle.std.specs.Prelude.{◌==◌}
use Rattle.df1_check.specs.declared.Check.{Check}
use Rattle.df1_frame.specs.Gathered.{Gathered}
use Rattle.half_frame.specs.declared.framer.Sent.{Sent}
use Rattle.half_frame.specs.TextStep.{Within, Goes, Ends, text_step}
use Rattle.half_mouth.specs.Giving.{out_of}
use Rattle.half_slave.proofs.Sizes.{some-left}
use Rattle.lane_cells.specs.Cells.{LaneCell, Ending, ending_of, cell_of}
use Rattle.half_line.proofs.Complete.ComingCells.{cells_of}
use Rattle.half_line.proofs.Complete.WholeText.{Reads}

-- an ear: its values, what it hears, its step, the body that it lends, how often its end is deceived where this is heard, and which
-- values are in no message and after no DLE. A byte that leads to one of these is one at which something is heard
pub record Ear : Type 1 where
  pub Value : Type 0
  pub What : Type 0
  pub step : Value → ℕ → Value × Option What
  pub lent : Value → List ℕ
  pub deceived : Option What → Option Ending → List ℕ → ℕ
  pub IsOutside : Value → Type 0
  pub tells : (d : Value) (b : ℕ) → IsOutside (step d b).0 → (step d b).1 ≡ None → ⊥

-- a thing that is heard, and the body that is lent there
pub record Telling (E : Ear) : Type 0 where
  pub what : E.What
  pub body : List ℕ

abbrev pub told : (E : Ear) → E.What → List ℕ → Telling E
told E what body = record { what = what; body = body }

abbrev pub telling : (E : Ear) → Option E.What → List ℕ → List (Telling E)
telling E None body = []
telling E (Some what) body = told E what body ∷ []

-- what is heard at one byte
abbrev pub tells_at : (E : Ear) → E.Value → ℕ → List (Telling E)
tells_at E d b = telling E (E.step d b).1 (E.lent (E.step d b).0)

-- all that is heard, in order
abbrev pub tells_of : (E : Ear) → E.Value → List LaneCell → List (Telling E)
tells_of E d [] = []
tells_of E d (cell ∷ cells) = tells_at E d cell.byte ++ tells_of E (E.step d cell.byte).0 cells

-- the ear after them
abbrev pub ear_after : (E : Ear) → E.Value → List LaneCell → E.Value
ear_after E d [] = d
ear_after E d (cell ∷ cells) = ear_after E (E.step d cell.byte).0 cells

-- how often the end is deceived at a cell
abbrev pub deceived_at : (E : Ear) → E.Value → LaneCell → ℕ
deceived_at E d cell = E.deceived (E.step d cell.byte).1 cell.ends (E.lent (E.step d cell.byte).0)

abbrev pub IsHonest : (E : Ear) → E.Value → List LaneCell → Type 0
IsHonest E d [] = Unit {0}
IsHonest E d (cell ∷ cells) = (deceived_at E d cell ≡ 0) × IsHonest E (E.step d cell.byte).0 cells

-- these things are heard of the cells, the last of them at the last cell, and none deceives the end
pub record Hears (E : Ear) (d : E.Value) (cells : List LaneCell) (all : List (Telling E)) : Type 0 where
  pub tells : tells_of E d cells ≡ all
  pub outside : E.IsOutside (ear_after E d cells)
  pub honest : IsHonest E d cells

-- ---- one part behind another

pub hears-nothing : (E : Ear) (d : E.Value) → E.IsOutside d → Hears E d [] []
hears-nothing E d is = record { tells = refl; outside = is; honest = tt }

tells-join : (E : Ear) (d : E.Value) (xs ys : List LaneCell) → tells_of E d (xs ++ ys) ≡ tells_of E d xs ++ tells_of E (ear_after E d xs) ys
tells-join E d [] ys = refl
tells-join E d (cell ∷ xs) ys =
    ap (λ (more : List (Telling E)). tells_at E d cell.byte ++ more) (tells-join E (E.step d cell.byte).0 xs ys)
    ∙ sym (append_assoc (tells_at E d cell.byte) (tells_of E (E.step d cell.byte).0 xs) (tells_of E (ear_after E (E.step d cell.byte).0 xs) ys))

after-join : (E : Ear) (d : E.Value) (xs ys : List LaneCell) → ear_after E d (xs ++ ys) ≡ ear_after E (ear_after E d xs) ys
after-join E d [] ys = refl
after-join E d (cell ∷ xs) ys = after-join E (E.step d cell.byte).0 xs ys

honest-join : (E : Ear) (d : E.Value) (xs ys : List LaneCell) → IsHonest E d xs → IsHonest E (ear_after E d xs) ys → IsHonest E d (xs ++ ys)
honest-join E d [] ys first more = more
honest-join E d (cell ∷ xs) ys first more = (first.0, honest-join E (E.step d cell.byte).0 xs ys first.1 more)

pub hears-join : (E : Ear) (d : E.Value) (xs ys : List LaneCell) (all more : List (Telling E)) → Hears E d xs all → Hears E (ear_after E d xs) ys more → Hears E d (xs ++ ys) (all ++ more)
hears-join E d xs ys all more h g = record {
  tells = tells-join E d xs ys ∙ ap (λ (first : List (Telling E)). first ++ tells_of E (ear_after E d xs) ys) h.tells ∙ ap (λ (rest : List (Telling E)). all ++ rest) g.tells;
  outside = subst E.IsOutside (sym (after-join E d xs ys)) g.outside;
  honest = honest-join E d xs ys h.honest g.honest;
}

-- ---- the first cell arrives

-- nothing is heard at it, or the first of the things is
pub data First (E : Ear) (d : E.Value) (cell : LaneCell) (cells : List LaneCell) (all : List (Telling E)) : Type 0 where
  silent : (E.step d cell.byte).1 ≡ None → Hears E (E.step d cell.byte).0 cells all → First E d cell cells all
  says : (what : E.What) (rest : List (Telling E)) → (E.step d cell.byte).1 ≡ Some what → all ≡ told E what (E.lent (E.step d cell.byte).0) ∷ rest → Hears E (E.step d cell.byte).0 cells rest → First E d cell cells all

first-by : (E : Ear) (d : E.Value) (cell : LaneCell) (cells : List LaneCell) (all : List (Telling E)) (o : Option E.What) → (E.step d cell.byte).1 ≡ o → Hears E d (cell ∷ cells) all → First E d cell cells all
first-by E d cell cells all None is h =
    let same : tells_of E (E.step d cell.byte).0 cells ≡ all = ap (λ (o : Option E.What). telling E o (E.lent (E.step d cell.byte).0) ++ tells_of E (E.step d cell.byte).0 cells) (sym is) ∙ h.tells in
    silent is (record { tells = same; outside = h.outside; honest = h.honest.1 })
first-by E d cell cells all (Some what) is h =
    let same : told E what (E.lent (E.step d cell.byte).0) ∷ tells_of E (E.step d cell.byte).0 cells ≡ all =
    ap (λ (o : Option E.What). telling E o (E.lent (E.step d cell.byte).0) ++ tells_of E (E.step d cell.byte).0 cells) (sym is) ∙ h.tells in
    says what (tells_of E (E.step d cell.byte).0 cells) is (sym same) (record { tells = refl; outside = h.outside; honest = h.honest.1 })

pub first-heard : (E : Ear) (d : E.Value) (cell : LaneCell) (cells : List LaneCell) (all : List (Telling E)) → Hears E d (cell ∷ cells) all → First E d cell cells all
first-heard E d cell cells all h = first-by E d cell cells all (E.step d cell.byte).1 refl h

-- ---- where no more is heard, no cell is left

none-told : (E : Ear) (o : Option E.What) (body : List ℕ) (more : List (Telling E)) → telling E o body ++ more ≡ [] → (o ≡ None) × (more ≡ [])
none-told E None body more e = (refl, e)
none-told E (Some what) body more e = absurd cc

none-left : (E : Ear) (d : E.Value) (cells : List LaneCell) → tells_of E d cells ≡ [] → E.IsOutside (ear_after E d cells) → cells ≡ []
none-left E d [] none is = refl
none-left E d (cell ∷ []) none is = absurd (E.tells d cell.byte is (none-told E (E.step d cell.byte).1 (E.lent (E.step d cell.byte).0) [] none).0)
none-left E d (cell ∷ other ∷ cells) none is =
    let parts = none-told E (E.step d cell.byte).1 (E.lent (E.step d cell.byte).0) (tells_of E (E.step d cell.byte).0 (other ∷ cells)) none in
    let no : other ∷ cells ≡ [] = none-left E (E.step d cell.byte).0 (other ∷ cells) parts.1 is in
    absurd cc

pub hears-none : {E : Ear} {d : E.Value} {cells : List LaneCell} → Hears E d cells [] → cells ≡ []
hears-none {E = E} {d = d} {cells = cells} h = none-left E d cells h.tells h.outside

-- a byte more in front, which isn't the last of what is given
abbrev Sounds : (E : Ear) → Option Ending → List LaneCell → List (Telling E) → Option E.What → E.Value → E.Value × Option E.What → Type 0
Sounds E ends cells all what after to = (telling E to.1 (E.lent to.0) ++ tells_of E to.0 cells ≡ telling E what (E.lent after) ++ all) × E.IsOutside (ear_after E to.0 cells) × (E.deceived to.1 ends (E.lent to.0) ≡ 0) × IsHonest E to.0 cells

hears-cell : (E : Ear) (d to : E.Value) (what : Option E.What) (cell : LaneCell) (cells : List LaneCell) (all : List (Telling E)) → E.step d cell.byte ≡ (to, what) → E.deceived what cell.ends (E.lent to) ≡ 0 → Hears E to cells all
    → Hears E d (cell ∷ cells) (telling E what (E.lent to) ++ all)
hears-cell E d to what cell cells all goes none h =
    let first : Sounds E cell.ends cells all what to (to, what) = (ap (λ (more : List (Telling E)). telling E what (E.lent to) ++ more) h.tells, h.outside, none, h.honest) in
    let now : Sounds E cell.ends cells all what to (E.step d cell.byte) = subst (Sounds E cell.ends cells all what to) (sym goes) first in
    record { tells = now.0; outside = now.1; honest = (now.2, now.3) }

pub hears-byte : (E : Ear) (d to : E.Value) (what : Option E.What) (number : Option ℕ) (sending : List ℕ) (sent : Sent) (left : List Sent) (all : List (Telling E)) → (length left == 0) ≡ false → E.step d sent.byte ≡ (to, what)
    → E.deceived what None (E.lent to) ≡ 0 → Hears E to (cells_of number sending left) all → Hears E d (cells_of number sending (sent ∷ left)) (telling E what (E.lent to) ++ all)
hears-byte E d to what number sending sent left all some goes none h =
    subst (λ (last : Bool). Hears E d (cell_of sending (out_of number sent last) ∷ cells_of number sending left) (telling E what (E.lent to) ++ all)) (sym some)
    (hears-cell E d to what (cell_of sending (out_of number sent false)) (cells_of number sending left) all goes none h)

-- ---- a text

-- how an ear steps in a text, and what it hears at its end
pub record HearsTexts (E : Ear) (check : Check) (at : Within → E.Value) (end : List ℕ → E.Value) (what : E.What) : Type 0 where
  pub goes : (from to : Within) (b : ℕ) → text_step check 250 from b ≡ Goes to → E.step (at from) b ≡ (at to, None)
  pub ends : (from : Within) (so_far : Gathered) (b : ℕ) → text_step check 250 from b ≡ Ends true so_far → E.step (at from) b ≡ (end so_far.bytes, Some what)
  pub lends : (body : List ℕ) → E.lent (end body) ≡ body
  pub outside : (body : List ℕ) → E.IsOutside (end body)
  pub silent : (body : List ℕ) → E.deceived None None body ≡ 0

pub hears-text : (E : Ear) (check : Check) (at : Within → E.Value) (end : List ℕ → E.Value) (what : E.What) → HearsTexts E check at end what → (number : ℕ) (body : List ℕ) → E.deceived (Some what) (Some (ending_of body number)) body ≡ 0
    → (from : Within) (left : List Sent) → Reads check from left body → Hears E (at from) (cells_of (Some number) body left) (told E what body ∷ [])
hears-text E check at end what h number body honest from [] reads = absurd reads
hears-text E check at end what h number body honest from (sent ∷ []) reads =
    let goes : E.step (at from) sent.byte ≡ (end body, Some what) = h.ends from reads.0 sent.byte reads.1 ∙ ap (λ (bytes : List ℕ). (end bytes, Some what)) reads.2 in
    let none : E.deceived (E.step (at from) sent.byte).1 (Some (ending_of body number)) (E.lent (E.step (at from) sent.byte).0) ≡ 0 =
    ap (λ (to : E.Value × Option E.What). E.deceived to.1 (Some (ending_of body number)) (E.lent to.0)) goes
    ∙ ap (λ (lent : List ℕ). E.deceived (Some what) (Some (ending_of body number)) lent) (h.lends body) ∙ honest in
    record { tells = rw (goes, h.lends body) refl; outside = rw goes (h.outside body); honest = (none, tt) }
hears-text E check at end what h number body honest from (sent ∷ second ∷ rest) reads =
    let more = hears-text E check at end what h number body honest reads.0 (second ∷ rest) reads.2 in
    hears-byte E (at from) (at reads.0) None (Some number) body sent (second ∷ rest) (told E what body ∷ []) (some-left second rest) (h.goes from reads.0 sent.byte reads.1) (h.silent (E.lent (at reads.0))) more
