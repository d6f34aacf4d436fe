-- A reader of each side.
use Rattle.std.proofs.Common.{◌≡◌, ◌∙◌, ℕ, ◌-◌, List, [], ◌∷◌, ◌++◌, length, Option, None, Some, append-nil, ap, arith, refl, sym}
use Rattle.df1_check.specs.declared.Check.{Check}
use Rattle.df1_frame.specs.Line.{ReadOff}
use Rattle.df1_frame.specs.Grammar.{full_duplex, Nothing as FullNothing}
use Rattle.df1_frame.proofs.GrammarLemmas.{machine as full_machine}
use Rattle.half_frame.specs.SlaveGrammar.{slave_hears, Nothing as MasterNothing}
use Rattle.half_frame.specs.MasterGrammar.{master_hears, Nothing as SlaveNothing}
use Rattle.half_frame.proofs.SlaveLemmas.{machine as master_machine}
use Rattle.half_frame.proofs.MasterLemmas.{machine as slave_machine}
use Rattle.half_frame.specs.declared.side.Side.{Side}
use Rattle.half_frame.specs.declared.side.Side.TheVariants as side
use Rattle.df1_dissect.specs.declared.reader.Thing.{Thing}
use Rattle.df1_dissect.specs.Hearing.{ear_of_none, lent_by}
use Rattle.df1_dissect.specs.Telling.{Told}
use Rattle.df1_dissect.specs.FullItems.{full_telling}
use Rattle.df1_dissect.specs.MasterItems.{master_telling}
use Rattle.df1_dissect.specs.SlaveItems.{slave_telling}
use Rattle.std.specs.List.{flat_map}
use Rattle.std.proofs.lemmas.Grind.{flat_map-append}
use Rattle.df1_frame.proofs.LineLemmas.{same-split, HasSplit, one-exists}
use Rattle.df1_frame.proofs.GrammarLemmas.{works as full_works}
use Rattle.half_frame.proofs.SlaveLemmas.{works as master_works}
use Rattle.half_frame.proofs.MasterLemmas.{works as slave_works}
use Rattle.df1_dissect.specs.Dissection.{HasLines, Dissects, open_text, lines_at, lines}
use Rattle.df1_dissect.specs.Lines.{line_text}
use Rattle.df1_dissect.specs.Reading.{Reading, StandsFor, Tells, grammar_of, unfinished, told, bad_among}
use Rattle.df1_dissect.specs.Step.{next, telling_at, with_body}
use Rattle.df1_dissect.proofs.TellingLemmas.{read-next, told-next, length-spelling}
use Rattle.df1_dissect.proofs.FullLemmas.{full_listens}
use Rattle.df1_dissect.proofs.MasterSideLemmas.{master_listens}
use Rattle.df1_dissect.proofs.SlaveSideLemmas.{slave_listens}

-- no byte
pub stands-none : (of : Side) (check : Check) → StandsFor of check [] (record { ear = ear_of_none of check; start = 0; fed = 0; heard = 0; bad = 0 })
stands-none side.Full check = record { items = []; front = FullNothing; splits = record { whole = refl; each = tt }; is = refl }
stands-none side.Master check = record { items = []; front = MasterNothing; splits = record { whole = refl; each = tt }; is = refl }
stands-none side.Slave check = record { items = []; front = SlaveNothing; splits = record { whole = refl; each = tt }; is = refl }

pub stands-next : (of : Side) (check : Check) (b : ℕ) (l : List ℕ) (v : Reading) → StandsFor of check l v → StandsFor of check (l ++ b ∷ []) (next v b).0
stands-next side.Full check b l v r = read-next (full_duplex check 250) (full_machine check 250) (full_telling check 250) (full_listens check) b l v r
stands-next side.Master check b l v r = read-next (slave_hears check 250) (master_machine check 250) (master_telling check 250) (master_listens check) b l v r
stands-next side.Slave check b l v r = read-next (master_hears check 250) (slave_machine check 250) (slave_telling check 250) (slave_listens check) b l v r

pub tells-next : (of : Side) (check : Check) (b : ℕ) (l : List ℕ) (v : Reading) (so_far : List Told) → StandsFor of check l v → Tells of check l so_far
    → Tells of check (l ++ b ∷ []) (so_far ++ telling_at (next v b).1 (lent_by (next v b).0.ear))
tells-next side.Full check b l v so_far r q = told-next (full_duplex check 250) (full_machine check 250) (full_telling check 250) (full_listens check) b l v so_far r q
tells-next side.Master check b l v so_far r q = told-next (slave_hears check 250) (master_machine check 250) (master_telling check 250) (master_listens check) b l v so_far r q
tells-next side.Slave check b l v so_far r q = told-next (master_hears check 250) (slave_machine check 250) (slave_telling check 250) (slave_listens check) b l v so_far r q

-- how many bytes are left
pub left-unfinished : (of : Side) (check : Check) (l : List ℕ) (v : Reading) → StandsFor of check l v → ReadOff (grammar_of of check) l (unfinished of check) (v.fed - v.start)
left-unfinished of check l v r =
    let G = grammar_of of check in
    let whole = length-spelling G r.items r.front in
    record { items = r.items; front = r.front; splits = r.splits; is = rw r.is (omega (arith, whole)) }

-- how many were fed
pub fed-length : (of : Side) (check : Check) (l : List ℕ) (v : Reading) → StandsFor of check l v → v.fed ≡ length l
fed-length of check l v r = ap (λ (v : Reading). v.fed) r.is ∙ ap length (sym r.splits.whole)

-- ---- the text

pub has-split : (of : Side) (check : Check) (l : List ℕ) → HasSplit (grammar_of of check) l
has-split side.Full check l = one-exists (full_duplex check 250) (full_machine check 250) (full_works check 250) l
has-split side.Master check l = one-exists (slave_hears check 250) (master_machine check 250) (master_works check 250) l
has-split side.Slave check l = one-exists (master_hears check 250) (slave_machine check 250) (slave_works check 250) l

-- two readings of one list are of one split
pub same-side : (of : Side) (check : Check) {A B : Type 0} (l : List ℕ) (f : List (grammar_of of check).Item → (grammar_of of check).Front → A) (h : List (grammar_of of check).Item → (grammar_of of check).Front → B) (x : A) (y : B)
    → (r : ReadOff (grammar_of of check) l f x) → ReadOff (grammar_of of check) l h y → y ≡ h r.items r.front
same-side side.Full check l f h x y r q = same-split (full_duplex check 250) (full_machine check 250) (full_works check 250) l f h x y r q
same-side side.Master check l f h x y r q = same-split (slave_hears check 250) (master_machine check 250) (master_works check 250) l f h x y r q
same-side side.Slave check l f h x y r q = same-split (master_hears check 250) (slave_machine check 250) (slave_works check 250) l f h x y r q

-- how many things have a line, and how many of these are faults
pub heard-length : (of : Side) (check : Check) (l : List ℕ) (v : Reading) (things : List Told) → StandsFor of check l v → Tells of check l things → v.heard ≡ length things
heard-length of check l v things r q = ap (λ (v : Reading). v.heard) r.is ∙ ap length (sym (same-side of check l _ (told of check) v things r q))

pub bad-among : (of : Side) (check : Check) (l : List ℕ) (v : Reading) (things : List Told) → StandsFor of check l v → Tells of check l things → v.bad ≡ bad_among things
bad-among of check l v things r q = ap (λ (v : Reading). v.bad) r.is ∙ ap bad_among (sym (same-side of check l _ (told of check) v things r q))

-- the lines that a byte completes
pub lines-next : (of : Side) (check : Check) (b : ℕ) (l : List ℕ) (v : Reading) (so_far : List ℕ) → StandsFor of check l v → HasLines of check l so_far
    → HasLines of check (l ++ b ∷ []) (so_far ++ lines_at v b)
lines-next of check b l v so_far r q =
    let things = told of check r.items r.front in
    let t = tells-next of check b l v things r (record { items = r.items; front = r.front; splits = r.splits; is = refl }) in
    let same = same-side of check l _ (lines of check) v so_far r q in
    record {
      items = t.items;
      front = t.front;
      splits = t.splits;
      is = rw same (sym (flat_map-append line_text things (telling_at (next v b).1 (lent_by (next v b).0.ear)))) ∙ ap (flat_map line_text) t.is;
    }

-- and the line of the unfinished item
pub dissects : (of : Side) (check : Check) (l : List ℕ) (v : Reading) (so_far : List ℕ) → StandsFor of check l v → HasLines of check l so_far → Dissects of check l (so_far ++ open_text v.start v.fed)
dissects of check l v so_far r q =
    let same = same-side of check l _ (lines of check) v so_far r q in
    record { items = r.items; front = r.front; splits = r.splits; is = rw (same, r.is) refl }

-- the line of what is told at a byte, where there is something
pub lines-none : (v : Reading) (b : ℕ) → (next v b).1 ≡ None → lines_at v b ≡ []
lines-none v b e = ap (λ (o : Option Thing). flat_map line_text (telling_at o (lent_by (next v b).0.ear))) e

pub lines-some : (v : Reading) (b : ℕ) (one : Thing) → (next v b).1 ≡ Some one → lines_at v b ≡ line_text (with_body one (lent_by (next v b).0.ear))
lines-some v b one e =
    ap (λ (o : Option Thing). flat_map line_text (telling_at o (lent_by (next v b).0.ear))) e ∙ append-nil (line_text (with_body one (lent_by (next v b).0.ear)))
