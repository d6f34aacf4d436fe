-- What holds of each grammar that a step from front to front follows: a list has one split, and one byte more goes on with it.
use Rattle.std.proofs.Common.{◌≡◌, ℕ, suc, List, [], ◌∷◌, ◌++◌, length, Option, None, refl, sym, ap, ◌∙◌, subst, append_assoc, arith, length-append}
use Rattle.std.proofs.lemmas.List.{append-nil}
use Rattle.df1_frame.specs.Line.{Grammar, spelling, AreItems, Splits, answers_from, answers, last_of, last_heard, ReadOff}

-- items, and a front
abbrev pub Split : Grammar → Type 0
Split G = List G.Item × G.Front

-- a machine over the grammar: how its value is read off a split and goes on, and how a front does
pub record Machine (G : Grammar) : Type 1 where
  pub Value : Type 0
  pub value : List G.Item → G.Front → Value
  pub next : Value → ℕ → Value × Option G.Heard
  pub start : G.Front
  pub advance : G.Front → ℕ → Split G
  -- what an item before may leave to be heard behind it, before these bytes
  pub Follows : Option G.Heard → List ℕ → Type 0

-- a split after items that are done
abbrev pub after : (G : Grammar) → List G.Item → Split G → Split G
after G done rest = (done ++ rest.0, rest.1)

-- the split of the bytes, a step a byte
abbrev pub run : (G : Grammar) → Machine G → G.Front → List ℕ → Split G
run G M front [] = ([], front)
run G M front (b ∷ bs) = after G (M.advance front b).0 (run G M (M.advance front b).1 bs)

-- one byte more behind a front
pub record Continues (G : Grammar) (M : Machine G) (front : G.Front) (b : ℕ) (to : Split G) : Type 0 where
  pub items : AreItems G to.0 to.1
  pub bytes : spelling G to.0 to.1 ≡ G.front_bytes front ++ b ∷ []
  pub heard : (before : List G.Item) (at : Option G.Heard) → M.Follows at (G.front_bytes front) → answers_from G at to.0 to.1 ≡ G.front_heard at front ++ (M.next (M.value before front) b).1 ∷ []
  pub value : (before : List G.Item) → M.value (before ++ to.0) to.1 ≡ (M.next (M.value before front) b).0

-- the machine follows the grammar
pub record Works (G : Grammar) (M : Machine G) : Type 0 where
  pub start_bytes : G.front_bytes M.start ≡ []
  pub start_is : G.IsFront M.start
  pub start_heard : (at : Option G.Heard) → G.front_heard at M.start ≡ []
  pub more : (item : G.Item) (bytes others : List ℕ) → G.IsItem item bytes → G.IsItem item (bytes ++ others)
  pub follows_nothing : (at : Option G.Heard) → M.Follows at [] → at ≡ None
  pub follows_none : (bytes : List ℕ) → M.Follows None bytes
  pub follows_item : (item : G.Item) (bytes : List ℕ) → G.IsItem item bytes → M.Follows (G.leaves item) bytes
  pub continues : (front : G.Front) (b : ℕ) → G.IsFront front → Continues G M front b (M.advance front b)
  pub run_item : (item : G.Item) (rest : List ℕ) → G.IsItem item rest → run G M M.start (G.item_bytes item ++ rest) ≡ after G (item ∷ []) (run G M M.start rest)
  pub run_front : (front : G.Front) → G.IsFront front → run G M M.start (G.front_bytes front) ≡ ([], front)
  pub length_item : (at : Option G.Heard) (item : G.Item) (rest : List ℕ) → G.IsItem item rest → length (G.item_heard at item) ≡ length (G.item_bytes item)
  pub length_front : (at : Option G.Heard) (front : G.Front) → length (G.front_heard at front) ≡ length (G.front_bytes front)

-- ---- behind the items that came before

pub last_front : (G : Grammar) (items : List G.Item) (front : G.Front) → AreItems G items front → G.IsFront front
last_front G [] front h = h
last_front G (item ∷ items) front h = last_front G items front h.1

spelling-more : (G : Grammar) (M : Machine G) (b : ℕ) (items : List G.Item) (front : G.Front) (to : Split G) → Continues G M front b to → spelling G (items ++ to.0) to.1 ≡ spelling G items front ++ b ∷ []
spelling-more G M b [] front to c = c.bytes
spelling-more G M b (item ∷ items) front to c = ap (λ (l : List ℕ). G.item_bytes item ++ l) (spelling-more G M b items front to c) ∙ sym (append_assoc (G.item_bytes item) (spelling G items front) (b ∷ []))

AreItems-more : (G : Grammar) (M : Machine G) (w : Works G M) (b : ℕ) (items : List G.Item) (front : G.Front) (to : Split G) → Continues G M front b to → AreItems G items front → AreItems G (items ++ to.0) to.1
AreItems-more G M w b [] front to c h = c.items
AreItems-more G M w b (item ∷ items) front to c h =
    (subst (G.IsItem item) (sym (spelling-more G M b items front to c)) (w.more item (spelling G items front) (b ∷ []) h.0), AreItems-more G M w b items front to c h.1)

answers-more : (G : Grammar) (M : Machine G) (w : Works G M) (b : ℕ) (before items : List G.Item) (at : Option G.Heard) (front : G.Front) (to : Split G) → Continues G M front b to → AreItems G items front → M.Follows at (spelling G items front) → answers_from G at (items ++ to.0) to.1 ≡ answers_from G at items front ++ (M.next (M.value before front) b).1 ∷ []
answers-more G M w b before [] at front to c h f = c.heard before at f
answers-more G M w b before (item ∷ items) at front to c h f =
    ap (λ (l : List (Option G.Heard)). G.item_heard at item ++ l) (answers-more G M w b before items (G.leaves item) front to c h.1 (w.follows_item item (spelling G items front) h.0))
    ∙ sym (append_assoc (G.item_heard at item) (answers_from G (G.leaves item) items front) ((M.next (M.value before front) b).1 ∷ []))

length-answers : (G : Grammar) (M : Machine G) (w : Works G M) (at : Option G.Heard) (items : List G.Item) (front : G.Front) → AreItems G items front → length (answers_from G at items front) ≡ length (spelling G items front)
length-answers G M w at [] front h = w.length_front at front
length-answers G M w at (item ∷ items) front h =
    simp length-append (omega (arith, w.length_item at item (spelling G items front) h.0, length-answers G M w (G.leaves item) items front h.1))

pub Splits-more : (G : Grammar) (M : Machine G) (w : Works G M) (b : ℕ) (l : List ℕ) (items : List G.Item) (front : G.Front) → Splits G l items front → Splits G (l ++ b ∷ []) (items ++ (M.advance front b).0) (M.advance front b).1
Splits-more G M w b l items front s =
    let c = w.continues front b (last_front G items front s.each) in
    record {
      whole = ap (λ (bytes : List ℕ). bytes ++ b ∷ []) s.whole ∙ sym (spelling-more G M b items front (M.advance front b) c);
      each = AreItems-more G M w b items front (M.advance front b) c s.each;
    }

-- ---- one split

abbrev pub HasSplit : Grammar → List ℕ → Type 0
HasSplit G l = (items : List G.Item) × (front : G.Front) × Splits G l items front

split-on : (G : Grammar) (M : Machine G) (w : Works G M) (l before : List ℕ) → HasSplit G before → HasSplit G (before ++ l)
split-on G M w [] before s = rw append-nil s
split-on G M w (b ∷ l) before s =
    let more : HasSplit G (before ++ b ∷ []) = (s.0 ++ (M.advance s.1 b).0, (M.advance s.1 b).1, Splits-more G M w b before s.0 s.1 s.2) in
    let all = split-on G M w l (before ++ b ∷ []) more in
    rw (append_assoc before (b ∷ []) l) at all

pub one-exists : (G : Grammar) (M : Machine G) (w : Works G M) (l : List ℕ) → HasSplit G l
one-exists G M w l = split-on G M w l [] ([], M.start, record { whole = sym w.start_bytes; each = w.start_is })

run-spelling : (G : Grammar) (M : Machine G) (w : Works G M) (items : List G.Item) (front : G.Front) → AreItems G items front → run G M M.start (spelling G items front) ≡ (items, front)
run-spelling G M w [] front h = w.run_front front h
run-spelling G M w (item ∷ items) front h =
    w.run_item item (spelling G items front) h.0 ∙ ap (after G (item ∷ [])) (run-spelling G M w items front h.1)

pub one-only : (G : Grammar) (M : Machine G) (w : Works G M) (l : List ℕ) (items others : List G.Item) (front rest : G.Front) → Splits G l items front → Splits G l others rest → (items ≡ others) × (front ≡ rest)
one-only G M w l items others front rest s t =
    let same = sym (run-spelling G M w items front s.each) ∙ ap (run G M M.start) (sym s.whole ∙ t.whole) ∙ run-spelling G M w others rest t.each in
    (ap (λ (x : Split G). x.0) same, ap (λ (x : Split G). x.1) same)

-- ---- the step

pub stands-start : (G : Grammar) (M : Machine G) (w : Works G M) → ReadOff G [] M.value (M.value [] M.start)
stands-start G M w = record { items = []; front = M.start; splits = record { whole = sym w.start_bytes; each = w.start_is }; is = refl }

pub stands-next : (G : Grammar) (M : Machine G) (w : Works G M) (b : ℕ) (l : List ℕ) (v : M.Value) → ReadOff G l M.value v → ReadOff G (l ++ b ∷ []) M.value (M.next v b).0
stands-next G M w b l v r =
    let c = w.continues r.front b (last_front G r.items r.front r.splits.each) in
    record { items = r.items ++ (M.advance r.front b).0; front = (M.advance r.front b).1; splits = Splits-more G M w b l r.items r.front r.splits; is = rw r.is (sym (c.value r.items)) }

pub last_of-push : {H : Type 0} (hs : List (Option H)) (h : Option H) → last_of (hs ++ h ∷ []) ≡ h
last_of-push [] h = refl
last_of-push (x ∷ []) h = refl
last_of-push (x ∷ y ∷ hs) h = last_of-push (y ∷ hs) h

pub last_of-append : {H : Type 0} (hs ks : List (Option H)) → (ks ≡ [] → ⊥) → last_of (hs ++ ks) ≡ last_of ks
last_of-append [] ks some = refl
last_of-append (x ∷ []) [] some = absurd (some refl)
last_of-append (x ∷ []) (k ∷ ks) some = refl
last_of-append (x ∷ y ∷ hs) ks some = last_of-append (y ∷ hs) ks some

pub heard-next : (G : Grammar) (M : Machine G) (w : Works G M) (b : ℕ) (l : List ℕ) (v : M.Value) → ReadOff G l M.value v → ReadOff G (l ++ b ∷ []) (last_heard G) (M.next v b).1
heard-next G M w b l v r =
    let c = w.continues r.front b (last_front G r.items r.front r.splits.each) in
    let h = (M.next (M.value r.items r.front) b).1 in
    let all = answers-more G M w b r.items r.items None r.front (M.advance r.front b) c r.splits.each (w.follows_none (spelling G r.items r.front)) in
    let last : last_heard G (r.items ++ (M.advance r.front b).0) (M.advance r.front b).1 ≡ h = ap last_of all ∙ last_of-push (answers G r.items r.front) h in
    record { items = r.items ++ (M.advance r.front b).0; front = (M.advance r.front b).1; splits = Splits-more G M w b l r.items r.front r.splits; is = rw r.is (sym last) }

-- two readings of one list are of one split
pub same-split : (G : Grammar) (M : Machine G) (w : Works G M) {A B : Type 0} (l : List ℕ) (f : List G.Item → G.Front → A) (h : List G.Item → G.Front → B) (x : A) (y : B) → (r : ReadOff G l f x) → ReadOff G l h y → y ≡ h r.items r.front
same-split G M w l f h x y r q =
    let same = one-only G M w l q.items r.items q.front r.front q.splits r.splits in
    rw (← same.0, ← same.1) q.is

pub answers-next : (G : Grammar) (M : Machine G) (w : Works G M) (b : ℕ) (l : List ℕ) (v : M.Value) (heard : List (Option G.Heard)) → ReadOff G l M.value v → ReadOff G l (answers G) heard → ReadOff G (l ++ b ∷ []) (answers G) (heard ++ (M.next v b).1 ∷ [])
answers-next G M w b l v heard r q =
    let c = w.continues r.front b (last_front G r.items r.front r.splits.each) in
    let all = answers-more G M w b r.items r.items None r.front (M.advance r.front b) c r.splits.each (w.follows_none (spelling G r.items r.front)) in
    let so_far = same-split G M w l M.value (answers G) v heard r q in
    record { items = r.items ++ (M.advance r.front b).0; front = (M.advance r.front b).1; splits = Splits-more G M w b l r.items r.front r.splits; is = rw (so_far, r.is) (sym all) }

pub answers-start : (G : Grammar) (M : Machine G) (w : Works G M) → ReadOff G [] (answers G) []
answers-start G M w = record { items = []; front = M.start; splits = record { whole = sym w.start_bytes; each = w.start_is }; is = sym (w.start_heard None) }

-- ---- whole items, and then more

spelling-join : (G : Grammar) (M : Machine G) (w : Works G M) (items more : List G.Item) (front : G.Front) → spelling G (items ++ more) front ≡ spelling G items M.start ++ spelling G more front
spelling-join G M w [] more front = ap (λ (l : List ℕ). l ++ spelling G more front) (sym w.start_bytes)
spelling-join G M w (item ∷ items) more front =
    ap (λ (l : List ℕ). G.item_bytes item ++ l) (spelling-join G M w items more front) ∙ sym (append_assoc (G.item_bytes item) (spelling G items M.start) (spelling G more front))

AreItems-join : (G : Grammar) (M : Machine G) (w : Works G M) (items more : List G.Item) (front : G.Front) → AreItems G items M.start → AreItems G more front → AreItems G (items ++ more) front
AreItems-join G M w [] more front h m = m
AreItems-join G M w (item ∷ items) more front h m =
    (subst (G.IsItem item) (sym (spelling-join G M w items more front)) (w.more item (spelling G items M.start) (spelling G more front) h.0), AreItems-join G M w items more front h.1 m)

answers-join : (G : Grammar) (M : Machine G) (w : Works G M) (at : Option G.Heard) (items more : List G.Item) (front : G.Front) → AreItems G items M.start → M.Follows at (spelling G items M.start) → answers_from G at (items ++ more) front ≡ answers_from G at items M.start ++ answers G more front
answers-join G M w at [] more front h f =
    let none = w.follows_nothing at (subst (M.Follows at) w.start_bytes f) in
    rw (w.start_heard at, none) refl
answers-join G M w at (item ∷ items) more front h f =
    ap (λ (l : List (Option G.Heard)). G.item_heard at item ++ l) (answers-join G M w (G.leaves item) items more front h.1 (w.follows_item item (spelling G items M.start) h.0))
    ∙ sym (append_assoc (G.item_heard at item) (answers_from G (G.leaves item) items M.start) (answers G more front))

pub Splits-join : (G : Grammar) (M : Machine G) (w : Works G M) (l bytes : List ℕ) (items more : List G.Item) (front : G.Front) → Splits G l items M.start → Splits G bytes more front → Splits G (l ++ bytes) (items ++ more) front
Splits-join G M w l bytes items more front s t = record { whole = rw (s.whole, t.whole) (sym (spelling-join G M w items more front)); each = AreItems-join G M w items more front s.each t.each }

pub heard-join : (G : Grammar) (M : Machine G) (w : Works G M) (l bytes : List ℕ) (items more : List G.Item) (front : G.Front) → Splits G l items M.start → Splits G bytes more front → ReadOff G (l ++ bytes) (answers G) (answers G items M.start ++ answers G more front)
heard-join G M w l bytes items more front s t = record { items = items ++ more; front = front; splits = Splits-join G M w l bytes items more front s t; is = sym (answers-join G M w None items more front s.each (w.follows_none (spelling G items M.start))) }

-- ---- whatever follows

-- the bytes have a split with these answers
abbrev pub Answered : (G : Grammar) → List ℕ → List (Option G.Heard) → Type 0
Answered G l heard = ReadOff G l (answers G) heard

-- with as many answers more as bytes
abbrev pub AnsweredOn : (G : Grammar) → List ℕ → List (Option G.Heard) → List ℕ → Type 0
AnsweredOn G l heard more = (later : List (Option G.Heard)) × (length later ≡ length more) × Answered G (l ++ more) (heard ++ later)

answered-push : (G : Grammar) (M : Machine G) (w : Works G M) (b : ℕ) (l : List ℕ) (heard : List (Option G.Heard)) → Answered G l heard → (h : Option G.Heard) × Answered G (l ++ b ∷ []) (heard ++ h ∷ [])
answered-push G M w b l heard r =
    let v = M.value r.items r.front in
    let q : ReadOff G l M.value v = record { items = r.items; front = r.front; splits = r.splits; is = refl } in
    ((M.next v b).1, answers-next G M w b l v heard q r)

pub answered-on : (G : Grammar) (M : Machine G) (w : Works G M) (more l : List ℕ) (heard : List (Option G.Heard)) → Answered G l heard → AnsweredOn G l heard more
answered-on G M w [] l heard r = ([], refl, rw (append-nil l, append-nil heard) r)
answered-on G M w (b ∷ more) l heard r =
    let one = answered-push G M w b l heard r in
    let rest = answered-on G M w more (l ++ b ∷ []) (heard ++ one.0 ∷ []) one.1 in
    let bytes = append_assoc l (b ∷ []) more in
    let told = append_assoc heard (one.0 ∷ []) rest.0 in
    (one.0 ∷ rest.0, ap suc rest.1, rw (bytes, told) at rest.2)

pub answers-length : (G : Grammar) (M : Machine G) (w : Works G M) (l : List ℕ) (items : List G.Item) (front : G.Front) → Splits G l items front → length (answers G items front) ≡ length l
answers-length G M w l items front s = length-answers G M w None items front s.each ∙ ap length (sym s.whole)

-- two lists of answers to the same bytes are the same
pub one-answered : (G : Grammar) (M : Machine G) (w : Works G M) (l : List ℕ) (heard others : List (Option G.Heard)) → Answered G l heard → Answered G l others → heard ≡ others
one-answered G M w l heard others r q = let e = same-split G M w l (answers G) (answers G) heard others r q in r.is ∙ sym e
