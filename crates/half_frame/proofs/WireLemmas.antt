-- Right items that are given byte by byte consist of right items at each byte.
use Rattle.std.proofs.Common.{◌≡◌, ◌≢◌, ℕ, ◌+◌, Bool, true, inl, inr, List, [], ◌∷◌, ◌++◌, length, Option, Some, None, refl, sym, ap, subst, ◌∙◌, append_assoc, arith, length-append}
use Rattle.std.specs.Prelude.{◌⊎◌, option_to_list}
use Rattle.std.specs.List.{flat_map, AllByRecursion}
use Rattle.std.proofs.lemmas.List.{append-nil}
use Rattle.std.proofs.lemmas.List.Concat.{flat_map-append}
use Rattle.df1_frame.specs.Line.{Grammar, spelling, Splits}
use Rattle.df1_frame.specs.Wire.{AreSendingsOf, IsLast}
use Rattle.df1_frame.proofs.Sendings.{Sends, nothing, takes_up, sends, are-sendings}
use Rattle.df1_frame.proofs.LineLemmas.{Machine, Works, Splits-more, Splits-join, one-exists, one-only, last_front}
use Rattle.half_frame.specs.Wire.{Rights, IsOfLast, IsBegun, AreRightBytes}
use Rattle.half_frame.proofs.WholeItems.{splits-one}

-- ---- a part of an item is a front

-- a split goes on, whatever follows
goes-on : (G : Grammar) (M : Machine G) (w : Works G M) (more before : List ℕ) (items : List G.Item) (front : G.Front) → Splits G before items front
    → (later : List G.Item) × (last : G.Front) × Splits G (before ++ more) (items ++ later) last
goes-on G M w [] before items front s = ([], front, rw (append-nil before, append-nil items) s)
goes-on G M w (b ∷ more) before items front s =
    let one = (M.advance front b).0 in
    let rest = goes-on G M w more (before ++ b ∷ []) (items ++ one) (M.advance front b).1 (Splits-more G M w b before items front s) in
    (one ++ rest.0, rest.1, rw (sym (append_assoc before (b ∷ []) more), sym (append_assoc items one rest.0)) rest.2)

nothing-more : {A : Type 0} (xs ys : List A) → length (xs ++ ys) ≡ length xs → ys ≡ []
nothing-more xs [] same = refl
nothing-more xs (y ∷ ys) same = absurd (let both = length-append xs (y ∷ ys) in omega (arith, both, same))

-- the split of a part has no whole item
part-front : (G : Grammar) (M : Machine G) (w : Works G M) (item : G.Item) (part rest : List ℕ) → G.IsItem item [] → G.item_bytes item ≡ part ++ rest → rest ≢ [] → (items : List G.Item) (front : G.Front) → Splits G part items front
    → G.IsFront front × (G.front_bytes front ≡ part)
part-front G M w item part rest is whole some [] front s = (s.each, sym s.whole)
part-front G M w item part rest is whole some (first ∷ items) front s =
    let all = goes-on G M w rest part (first ∷ items) front s in
    let one = splits-one G M w item is in
    let same = one-only G M w (part ++ rest) ((first ∷ items) ++ all.0) (item ∷ []) all.1 M.start all.2 (rw whole at one) in
    let first_is : first ≡ item = cc (same.0) in
    let bytes : part ≡ G.item_bytes first ++ spelling G items front = s.whole in
    let long = ap length bytes ∙ length-append (G.item_bytes first) (spelling G items front) in
    let short = ap length whole ∙ length-append part rest in
    let firsts = ap (λ (i : G.Item). length (G.item_bytes i)) first_is in
    absurd (some (nothing-more part rest (let none : length rest ≡ 0 = omega (arith, long, short, firsts) in length-append part rest ∙ omega (arith, none))))

-- ---- what is given, byte by byte

-- whole right items, and a part of one more, of which these bytes are left
abbrev pub Begun : (G : Grammar) → Rights G → List ℕ → List ℕ → Option G.Item → Type 0
Begun G rights part left None = (part ≡ []) × (left ≡ [])
Begun G rights part left (Some item) = rights.IsRight item × (left ≢ []) × (G.item_bytes item ≡ part ++ left)

pub record Gives (G : Grammar) (M : Machine G) (rights : Rights G) (bodies : List (List ℕ)) (bytes left : List ℕ) : Type 0 where
  pub items : List G.Item
  pub before : List ℕ
  pub part : List ℕ
  pub unfinished : Option G.Item
  pub splits : Splits G before items M.start
  pub each : AllByRecursion rights.IsRight items
  pub bytes_are : bytes ≡ before ++ part
  pub begun : Begun G rights part left unfinished
  pub bodies_are : bodies ≡ flat_map rights.bodies_at (items ++ option_to_list unfinished)

-- each right item may stand at the end
abbrev pub MayEnd : (G : Grammar) → Rights G → Type 0
MayEnd G rights = (item : G.Item) → rights.IsRight item → G.IsItem item []

pub gives-none : (G : Grammar) (M : Machine G) (w : Works G M) (rights : Rights G) → Gives G M rights [] [] []
gives-none G M w rights = record {
  items = [];
  before = [];
  part = [];
  unfinished = None;
  splits = record { whole = sym w.start_bytes; each = w.start_is };
  each = tt;
  bytes_are = refl;
  begun = (refl, refl);
  bodies_are = refl;
}

all-push : {A : Type 0} (P : A → Type 0) (xs : List A) (x : A) → AllByRecursion P xs → P x → AllByRecursion P (xs ++ x ∷ [])
all-push P [] x all last = (last, tt)
all-push P (y ∷ xs) x all last = (all.0, all-push P xs x all.1 last)

-- a right item is begun where none is left
pub gives-begun : (G : Grammar) (M : Machine G) (rights : Rights G) (bodies : List (List ℕ)) (bytes left : List ℕ) (item : G.Item) → rights.IsRight item → left ≢ [] → G.item_bytes item ≡ left → Gives G M rights bodies bytes []
    → Gives G M rights (bodies ++ rights.bodies_at item) bytes left
gives-begun G M rights bodies bytes left item good some whole g =
    elim g.unfinished as (λ u. Begun G rights g.part [] u → bodies ≡ flat_map rights.bodies_at (g.items ++ option_to_list u) → Gives G M rights (bodies ++ rights.bodies_at item) bytes left) [
      | None ↦ λ begun are. record {
        items = g.items;
        before = g.before;
        part = [];
        unfinished = Some item;
        splits = g.splits;
        each = g.each;
        bytes_are = g.bytes_are ∙ ap (λ (p : List ℕ). g.before ++ p) begun.0;
        begun = (good, some, whole);
        bodies_are = ap (λ (l : List (List ℕ)). l ++ rights.bodies_at item) (are ∙ ap (flat_map rights.bodies_at) (append-nil g.items))
            ∙ ap (λ (l : List (List ℕ)). flat_map rights.bodies_at g.items ++ l) (sym (append-nil (rights.bodies_at item)))
            ∙ sym (flat_map-append rights.bodies_at g.items (item ∷ []));
      }
      | Some other ↦ λ begun are. absurd (begun.1 refl)
    ] g.begun g.bodies_are

-- a byte is given
one-given : (G : Grammar) (M : Machine G) (w : Works G M) (rights : Rights G) (may : MayEnd G rights) (bodies : List (List ℕ)) (bytes : List ℕ) (b : ℕ) (left : List ℕ) (g : Gives G M rights bodies bytes (b ∷ left)) (item : G.Item)
    → Begun G rights g.part (b ∷ left) (Some item) → bodies ≡ flat_map rights.bodies_at (g.items ++ item ∷ []) → Gives G M rights bodies (bytes ++ b ∷ []) left
one-given G M w rights may bodies bytes b [] g item begun are = record {
  items = g.items ++ item ∷ [];
  before = g.before ++ G.item_bytes item;
  part = [];
  unfinished = None;
  splits = Splits-join G M w g.before (G.item_bytes item) g.items (item ∷ []) M.start g.splits (splits-one G M w item (may item begun.0));
  each = all-push rights.IsRight g.items item g.each begun.0;
  bytes_are = ap (λ (l : List ℕ). l ++ b ∷ []) g.bytes_are ∙ append_assoc g.before g.part (b ∷ []) ∙ ap (λ (l : List ℕ). g.before ++ l) (sym begun.2) ∙ sym (append-nil (g.before ++ G.item_bytes item));
  begun = (refl, refl);
  bodies_are = are ∙ ap (flat_map rights.bodies_at) (sym (append-nil (g.items ++ item ∷ [])));
}
one-given G M w rights may bodies bytes b (next ∷ left) g item begun are = record {
  items = g.items;
  before = g.before;
  part = g.part ++ b ∷ [];
  unfinished = Some item;
  splits = g.splits;
  each = g.each;
  bytes_are = ap (λ (l : List ℕ). l ++ b ∷ []) g.bytes_are ∙ append_assoc g.before g.part (b ∷ []);
  begun = (begun.0, λ none. cc, begun.2 ∙ sym (append_assoc g.part (b ∷ []) (next ∷ left)));
  bodies_are = are;
}

pub gives-byte : (G : Grammar) (M : Machine G) (w : Works G M) (rights : Rights G) (may : MayEnd G rights) (bodies : List (List ℕ)) (bytes : List ℕ) (b : ℕ) (left : List ℕ) → Gives G M rights bodies bytes (b ∷ left) → Gives G M rights bodies (bytes ++ b ∷ []) left
gives-byte G M w rights may bodies bytes b left g =
    elim g.unfinished as (λ u. Begun G rights g.part (b ∷ left) u → bodies ≡ flat_map rights.bodies_at (g.items ++ option_to_list u) → Gives G M rights bodies (bytes ++ b ∷ []) left) [
      | None ↦ λ begun are. absurd (let none = begun.1 in cc)
      | Some item ↦ λ begun are. one-given G M w rights may bodies bytes b left g item begun are
    ] g.begun g.bodies_are

-- ---- what was given is right

-- an item is one message at most
abbrev pub AtMostOne : List (List ℕ) → Type 0
AtMostOne bodies = (bodies ≡ []) ⊎ ((body : List ℕ) × (bodies ≡ body ∷ []))

abbrev pub AreSingle : (G : Grammar) → Rights G → Type 0
AreSingle G rights = (item : G.Item) → AtMostOne (rights.bodies_at item)

last-same : (xs ys : List (List ℕ)) (x y : List ℕ) → xs ++ x ∷ [] ≡ ys ++ y ∷ [] → (xs ≡ ys) × (x ≡ y)
last-same [] [] x y same = (refl, cc)
last-same [] (b ∷ ys) x y same = absurd (let short : [] ≡ ys ++ y ∷ [] = cc in let long = ap length short ∙ length-append ys (y ∷ []) in omega (arith, long))
last-same (a ∷ xs) [] x y same = absurd (let short : xs ++ x ∷ [] ≡ [] = cc in let long = sym (length-append xs (x ∷ [])) ∙ ap length short in omega (arith, long))
last-same (a ∷ xs) (b ∷ ys) x y same =
    let rest = last-same xs ys x y cc in
    let first : a ≡ b = cc in
    (cc (rest.0, first), rest.1)

-- the last transmission isn't whole yet
record ButLast (bodies messages : List (List ℕ)) (last : List ℕ) : Type 0 where
  pub carries : AreSendingsOf bodies messages
  pub is_last : IsLast messages last

but-last : (sent bodies messages : List (List ℕ)) (last : List ℕ) (all : Bool) → Sends sent messages all → all ≡ true → sent ≡ bodies ++ last ∷ [] → ButLast bodies messages last
but-last sent bodies messages last all nothing now is = absurd (let long = ap length is ∙ length-append bodies (last ∷ []) in omega (arith, long))
but-last sent bodies messages last all (takes_up some before message h) now is = absurd cc
but-last sent bodies messages last all (sends some before message was h) now is =
    let same = last-same some bodies message last is in
    record {
      carries = subst (λ (l : List (List ℕ)). AreSendingsOf l (before ++ message ∷ [])) same.0 (are-sendings some (before ++ message ∷ []) was h);
      is_last = (before, ap (λ (x : List ℕ). before ++ x ∷ []) same.1);
    }

-- the whole ones, and what has begun
carries-by : (G : Grammar) (rights : Rights G) (sent messages : List (List ℕ)) (items : List G.Item) (item : G.Item) (bodies : List (List ℕ)) → Sends sent messages true → sent ≡ flat_map rights.bodies_at items ++ bodies → AtMostOne bodies
    → AreSendingsOf (flat_map rights.bodies_at items) messages × IsOfLast messages bodies
carries-by G rights sent messages items item bodies all are (inl none) =
    let whole : sent ≡ flat_map rights.bodies_at items = are ∙ ap (λ (l : List (List ℕ)). flat_map rights.bodies_at items ++ l) none ∙ append-nil (flat_map rights.bodies_at items) in
    (subst (λ (l : List (List ℕ)). AreSendingsOf l messages) whole (are-sendings sent messages true all), subst (IsOfLast messages) (sym none) tt)
carries-by G rights sent messages items item bodies all are (inr one) =
    let last = but-last sent (flat_map rights.bodies_at items) messages one.0 true all refl (are ∙ ap (λ (l : List (List ℕ)). flat_map rights.bodies_at items ++ l) one.1) in
    (last.carries, subst (IsOfLast messages) (sym one.1) last.is_last)

right-by : (G : Grammar) (M : Machine G) (w : Works G M) (rights : Rights G) (may : MayEnd G rights) (single : AreSingle G rights) (sent messages : List (List ℕ)) (bytes left : List ℕ) (g : Gives G M rights sent bytes left) (unfinished : Option G.Item)
    → Begun G rights g.part left unfinished → sent ≡ flat_map rights.bodies_at (g.items ++ option_to_list unfinished) → Sends sent messages true → AreRightBytes G rights messages bytes
right-by G M w rights may single sent messages bytes left g None begun are all =
    let whole : sent ≡ flat_map rights.bodies_at g.items = are ∙ ap (flat_map rights.bodies_at) (append-nil g.items) in
    record {
      items = g.items;
      front = M.start;
      splits = subst (λ (l : List ℕ). Splits G l g.items M.start) (sym (g.bytes_are ∙ ap (λ (l : List ℕ). g.before ++ l) begun.0 ∙ append-nil g.before)) g.splits;
      right = g.each;
      carries = subst (λ (l : List (List ℕ)). AreSendingsOf l messages) whole (are-sendings sent messages true all);
      begun = inl w.start_bytes;
    }
right-by G M w rights may single sent messages bytes left g (Some item) begun are all =
    let split = one-exists G M w g.part in
    let front = part-front G M w item g.part left (may item begun.0) begun.2 begun.1 split.0 split.1 split.2 in
    let one : Splits G g.part [] split.1 = record { whole = sym front.1; each = front.0 } in
    let parts : sent ≡ flat_map rights.bodies_at g.items ++ rights.bodies_at item =
    are ∙ flat_map-append rights.bodies_at g.items (item ∷ []) ∙ ap (λ (l : List (List ℕ)). flat_map rights.bodies_at g.items ++ l) (append-nil (rights.bodies_at item)) in
    let carried = carries-by G rights sent messages g.items item (rights.bodies_at item) all parts (single item) in
    record {
      items = g.items ++ [];
      front = split.1;
      splits = subst (λ (l : List ℕ). Splits G l (g.items ++ []) split.1) (sym g.bytes_are) (Splits-join G M w g.before g.part g.items [] split.1 g.splits one);
      right = subst (AllByRecursion rights.IsRight) (sym (append-nil g.items)) g.each;
      carries = subst (λ (l : List G.Item). AreSendingsOf (flat_map rights.bodies_at l) messages) (sym (append-nil g.items)) carried.0;
      begun = inr (record { item = item; right = begun.0; of_last = carried.1; rest = left; some = begun.1; whole = begun.2 ∙ ap (λ (l : List ℕ). l ++ left) (sym front.1) });
    }

pub gives-right : (G : Grammar) (M : Machine G) (w : Works G M) (rights : Rights G) (may : MayEnd G rights) (single : AreSingle G rights) (sent messages : List (List ℕ)) (bytes left : List ℕ) → Gives G M rights sent bytes left → Sends sent messages true → AreRightBytes G rights messages bytes
gives-right G M w rights may single sent messages bytes left g all = right-by G M w rights may single sent messages bytes left g g.unfinished g.begun g.bodies_are all
