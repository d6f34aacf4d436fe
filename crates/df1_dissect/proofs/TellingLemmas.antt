-- What a reader of any side keeps and tells after one byte more, where its ear follows the grammar of the side.
use Rattle.std.proofs.Common.{◌≡◌, ℕ, false, ◌+◌, List, [], ◌∷◌, ◌++◌, length, Option, None, Some, refl, sym, ap, ◌∙◌, subst, append_assoc, arith, inl, inr, length-append}
use Rattle.std.proofs.lemmas.Bool.{cases_Bool}
use Rattle.df1_frame.specs.Line.{Grammar, spelling, Splits, ReadOff}
use Rattle.df1_frame.proofs.LineLemmas.{Machine, Works, Split, Splits-more, last_front, same-split}
use Rattle.df1_dissect.specs.declared.ear.Ear.{Ear}
use Rattle.df1_dissect.specs.declared.ear.Turn.{Turn}
use Rattle.df1_dissect.specs.declared.kind.Kind.{Kind}
use Rattle.df1_dissect.specs.declared.reader.Thing.{Thing}
use Rattle.df1_dissect.specs.Kinds.{is_bad}
use Rattle.df1_dissect.specs.Hearing.{ear_next, lent_by, turn_of}
use Rattle.df1_dissect.specs.Telling.{Told, Telling, heard_told, told_from, bytes_of}
use Rattle.df1_dissect.specs.Reading.{Reading, bad_among}
use Rattle.df1_dissect.specs.Step.{thing_of, start_after, heard_with, bad_with, next, telling_at}

-- what a byte at the offset tells behind a front that begins at another, and where the item under way begins then
pub record Moves (G : Grammar) (T : Telling G) (front : G.Front) (at start : ℕ) (to : Split G) (heard : Ear × Turn) : Type 0 where
  pub told : told_from G T start to.0 to.1 ≡ T.front_told start front ++ telling_at (thing_of heard.1 start at) (lent_by heard.0)
  pub starts : start + bytes_of G to.0 ≡ start_after heard.1 start at

-- an ear follows a grammar, and what comes of a byte is what the grammar's items tell
pub record Listens (G : Grammar) (M : Machine G) (T : Telling G) : Type 0 where
  pub works : Works G M
  pub ear : M.Value → Ear
  pub follows : (v : M.Value) (b : ℕ) → (ear_next (ear v) b).0 ≡ ear (M.next v b).0
  pub moves : (before : List G.Item) (front : G.Front) (b at start : ℕ) → G.IsFront front → at ≡ start + length (G.front_bytes front)
      → Moves G T front at start (M.advance front b) (ear_next (ear (M.value before front)) b)

abbrev pub told_of : (G : Grammar) → Telling G → List G.Item → G.Front → List Told
told_of G T items front = told_from G T 0 items front

abbrev pub reading_of : (G : Grammar) (M : Machine G) (T : Telling G) → Listens G M T → List G.Item → G.Front → Reading
reading_of G M T L items front = record {
  ear = L.ear (M.value items front);
  start = bytes_of G items;
  fed = length (spelling G items front);
  heard = length (told_of G T items front);
  bad = bad_among (told_of G T items front);
}

-- what ends an item
pub ends-told : (k : Option Kind) (start at : ℕ) (body : List ℕ) → telling_at (thing_of (turn_of k false) start at) body ≡ heard_told start at k body
ends-told None start at body = refl
ends-told (Some x) start at body = refl

-- ---- offsets

bytes_of-more : (G : Grammar) (items more : List G.Item) → bytes_of G (items ++ more) ≡ bytes_of G items + bytes_of G more
bytes_of-more G [] more = omega arith
bytes_of-more G (item ∷ items) more = omega (arith, bytes_of-more G items more)

pub length-spelling : (G : Grammar) (items : List G.Item) (front : G.Front) → length (spelling G items front) ≡ bytes_of G items + length (G.front_bytes front)
length-spelling G [] front = omega arith
length-spelling G (item ∷ items) front = length-append (G.item_bytes item) (spelling G items front) ∙ omega (arith, length-spelling G items front)

-- ---- what is told

told-more : (G : Grammar) (T : Telling G) (items : List G.Item) (front : G.Front) (to : Split G) (more : List Told) (first start : ℕ) → start ≡ first + bytes_of G items
    → told_from G T start to.0 to.1 ≡ T.front_told start front ++ more → told_from G T first (items ++ to.0) to.1 ≡ told_from G T first items front ++ more
told-more G T [] front to more first start e h =
    let same : start ≡ first = omega arith in
    subst (λ (k : ℕ). told_from G T k to.0 to.1 ≡ T.front_told k front ++ more) same h
told-more G T (item ∷ items) front to more first start e h =
    ap (λ (l : List Told). T.item_told first item ++ l) (told-more G T items front to more (first + length (G.item_bytes item)) start (omega arith) h)
    ∙ sym (append_assoc (T.item_told first item) (told_from G T (first + length (G.item_bytes item)) items front) more)

-- ---- counts

heard_with-length : (count : ℕ) (one : Option Thing) (body : List ℕ) → heard_with count one ≡ count + length (telling_at one body)
heard_with-length count None body = omega arith
heard_with-length count (Some x) body = omega arith

bad_among-append : (xs ys : List Told) → bad_among (xs ++ ys) ≡ bad_among xs + bad_among ys
bad_among-append [] ys = omega arith
bad_among-append (x ∷ xs) ys = elim (cases_Bool (is_bad x.kind)) [
  | inl e ↦ rw e (omega (arith, bad_among-append xs ys))
  | inr e ↦ rw e (bad_among-append xs ys)
]

bad_with-among : (count : ℕ) (one : Option Thing) (body : List ℕ) → bad_with count one ≡ count + bad_among (telling_at one body)
bad_with-among count None body = omega arith
bad_with-among count (Some x) body = elim (cases_Bool (is_bad x.kind)) [
  | inl e ↦ rw e (omega arith)
  | inr e ↦ rw e (omega arith)
]

-- ---- one byte more

same-reading : (e f : Ear) (s t n m h k b d : ℕ) → e ≡ f → s ≡ t → n ≡ m → h ≡ k → b ≡ d
    → ◌≡◌ {A = Reading} (record { ear = e; start = s; fed = n; heard = h; bad = b }) (record { ear = f; start = t; fed = m; heard = k; bad = d })
same-reading e f s t n m h k b d p q r u w = rw (p, q, r, u, w) refl

moves-at : (G : Grammar) (M : Machine G) (T : Telling G) (L : Listens G M T) (b : ℕ) (items : List G.Item) (front : G.Front) → G.IsFront front
    → Moves G T front (length (spelling G items front)) (bytes_of G items) (M.advance front b) (ear_next (L.ear (M.value items front)) b)
moves-at G M T L b items front is = L.moves items front b (length (spelling G items front)) (bytes_of G items) is (length-spelling G items front)

told-on : (G : Grammar) (M : Machine G) (T : Telling G) (L : Listens G M T) (b : ℕ) (items : List G.Item) (front : G.Front) → G.IsFront front
    → told_of G T (items ++ (M.advance front b).0) (M.advance front b).1
    ≡ told_of G T items front ++ telling_at (next (reading_of G M T L items front) b).1 (lent_by (next (reading_of G M T L items front) b).0.ear)
told-on G M T L b items front is =
    told-more G T items front (M.advance front b) _ 0 (bytes_of G items) (omega arith) (moves-at G M T L b items front is).told

reading-on : (G : Grammar) (M : Machine G) (T : Telling G) (L : Listens G M T) (b : ℕ) (l : List ℕ) (items : List G.Item) (front : G.Front) → Splits G l items front
    → (next (reading_of G M T L items front) b).0 ≡ reading_of G M T L (items ++ (M.advance front b).0) (M.advance front b).1
reading-on G M T L b l items front s =
    let is = last_front G items front s.each in
    let c = L.works.continues front b is in
    let to = M.advance front b in
    let r = reading_of G M T L items front in
    let more = Splits-more G M L.works b l items front s in
    let one = (next r b).1 in
    let body = lent_by (next r b).0.ear in
    let all = told-on G M T L b items front is in
    let fed : r.fed + 1 ≡ length (spelling G (items ++ to.0) to.1) = ap (λ n. n + 1) (ap length (sym s.whole)) ∙ sym (length-append l (b ∷ [])) ∙ ap length more.whole in
    same-reading _ _ _ _ _ _ _ _ _ _
    (L.follows (M.value items front) b ∙ ap L.ear (sym (c.value items)))
    (sym (bytes_of-more G items to.0 ∙ (moves-at G M T L b items front is).starts))
    fed
    (heard_with-length r.heard one body ∙ sym (length-append (told_of G T items front) (telling_at one body)) ∙ ap length (sym all))
    (bad_with-among r.bad one body ∙ sym (bad_among-append (told_of G T items front) (telling_at one body)) ∙ ap bad_among (sym all))

pub read-next : (G : Grammar) (M : Machine G) (T : Telling G) (L : Listens G M T) (b : ℕ) (l : List ℕ) (v : Reading) → ReadOff G l (reading_of G M T L) v
    → ReadOff G (l ++ b ∷ []) (reading_of G M T L) (next v b).0
read-next G M T L b l v r = record {
  items = r.items ++ (M.advance r.front b).0;
  front = (M.advance r.front b).1;
  splits = Splits-more G M L.works b l r.items r.front r.splits;
  is = rw r.is (reading-on G M T L b l r.items r.front r.splits);
}

pub told-next : (G : Grammar) (M : Machine G) (T : Telling G) (L : Listens G M T) (b : ℕ) (l : List ℕ) (v : Reading) (so_far : List Told) → ReadOff G l (reading_of G M T L) v
    → ReadOff G l (told_of G T) so_far → ReadOff G (l ++ b ∷ []) (told_of G T) (so_far ++ telling_at (next v b).1 (lent_by (next v b).0.ear))
told-next G M T L b l v so_far r q =
    let same = same-split G M L.works l (reading_of G M T L) (told_of G T) v so_far r q in
    record {
      items = r.items ++ (M.advance r.front b).0;
      front = (M.advance r.front b).1;
      splits = Splits-more G M L.works b l r.items r.front r.splits;
      is = rw (same, r.is) (sym (told-on G M T L b r.items r.front (last_front G r.items r.front r.splits.each)));
    }
