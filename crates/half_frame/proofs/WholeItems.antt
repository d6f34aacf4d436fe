-- What is heard in one more whole item, and at each byte, of any grammar that a step follows.
use Rattle.std.proofs.Common.{◌≡◌, ℕ, zero, suc, ◌<◌, List, [], ◌∷◌, ◌++◌, length, get_or, Option, None, refl, sym, ap, ◌∙◌, append_assoc, arith, subst}
use Rattle.std.proofs.lemmas.List.{append-nil, length_push}
use Rattle.df1_frame.specs.Line.{Grammar, Splits, ReadOff, answers, last_of, last_heard}
use Rattle.df1_frame.proofs.LineLemmas.{Machine, Works, Splits-join, heard-join, one-exists, one-answered, answers-length, answered-on, AnsweredOn}

pub splits-one : (G : Grammar) (M : Machine G) (w : Works G M) (item : G.Item) → G.IsItem item [] → Splits G (G.item_bytes item) (item ∷ []) M.start
splits-one G M w item is = record {
  whole = sym (ap (λ (l : List ℕ). G.item_bytes item ++ l) w.start_bytes ∙ append-nil (G.item_bytes item));
  each = (subst (G.IsItem item) (sym w.start_bytes) is, w.start_is);
}

-- what is heard in an item behind whole items
pub heard-whole : (G : Grammar) (M : Machine G) (w : Works G M) (before : List ℕ) (items : List G.Item) (item : G.Item) (known : List (Option G.Heard)) → Splits G before items M.start → G.IsItem item [] → G.item_heard None item ≡ known
    → ReadOff G (before ++ G.item_bytes item) (answers G) (answers G items M.start ++ known)
heard-whole G M w before items item known s is e =
    let one : Splits G (G.item_bytes item) (item ∷ []) M.start = splits-one G M w item is in
    let all = heard-join G M w before (G.item_bytes item) items (item ∷ []) M.start s one in
    let told : answers G (item ∷ []) M.start ≡ known = ap (λ (l : List (Option G.Heard)). G.item_heard None item ++ l) (w.start_heard (G.leaves item)) ∙ append-nil (G.item_heard None item) ∙ e in
    rw told at all

-- and whatever follows
pub heard-later : (G : Grammar) (M : Machine G) (w : Works G M) (before more : List ℕ) (items : List G.Item) (item : G.Item) (known : List (Option G.Heard)) → Splits G before items M.start → G.IsItem item [] → G.item_heard None item ≡ known
    → AnsweredOn G (before ++ G.item_bytes item) (answers G items M.start ++ known) more
heard-later G M w before more items item known s is e = answered-on G M w more (before ++ G.item_bytes item) (answers G items M.start ++ known) (heard-whole G M w before items item known s is e)

-- what is read off at the item's end
pub read-whole : (G : Grammar) (M : Machine G) (w : Works G M) {A : Type 0} (before : List ℕ) (items : List G.Item) (item : G.Item) (f : List G.Item → G.Front → A) (value : A) → Splits G before items M.start → G.IsItem item [] → value ≡ f (items ++ item ∷ []) M.start
    → ReadOff G (before ++ G.item_bytes item) f value
read-whole G M w before items item f value s is e = record {
  items = items ++ item ∷ [];
  front = M.start;
  splits = Splits-join G M w before (G.item_bytes item) items (item ∷ []) M.start s (splits-one G M w item is);
  is = e;
}

-- ---- at each byte

last_of-place : {H : Type 0} (hs : List (Option H)) (n : ℕ) → length hs ≡ suc n → last_of hs ≡ get_or hs n None
last_of-place [] n e = absurd (omega arith)
last_of-place (h ∷ []) n e = let none : n ≡ 0 = omega arith in rw none refl
last_of-place (h ∷ k ∷ hs) zero e = absurd (omega arith)
last_of-place (h ∷ k ∷ hs) (suc n) e = last_of-place (k ∷ hs) n (omega arith)

place-before : {A : Type 0} (xs ys : List A) (n : ℕ) (d : A) → n < length xs → get_or (xs ++ ys) n d ≡ get_or xs n d
place-before [] ys n d lt = absurd (omega arith)
place-before (x ∷ xs) ys zero d lt = refl
place-before (x ∷ xs) ys (suc n) d lt = place-before xs ys n d (omega arith)

-- what is heard at a byte is the answer at its place, whatever follows
pub at-each : (G : Grammar) (M : Machine G) (w : Works G M) (front rest : List ℕ) (b : ℕ) (all : List (Option G.Heard)) → ReadOff G (front ++ b ∷ rest) (answers G) all
    → ReadOff G (front ++ b ∷ []) (last_heard G) (get_or all (length front) None)
at-each G M w front rest b all r =
    let s = one-exists G M w (front ++ b ∷ []) in
    let so_far = answers G s.0 s.1 in
    let many : length so_far ≡ suc (length front) = omega (arith, answers-length G M w (front ++ b ∷ []) s.0 s.1 s.2, length_push front b) in
    let on = answered-on G M w rest (front ++ b ∷ []) so_far (record { items = s.0; front = s.1; splits = s.2; is = refl }) in
    let read = rw (append_assoc front (b ∷ []) rest) at on.2 in
    let same = one-answered G M w (front ++ b ∷ rest) all (so_far ++ on.0) r read in
    record {
      items = s.0;
      front = s.1;
      splits = s.2;
      is = ap (λ (l : List (Option G.Heard)). get_or l (length front) None) same ∙ place-before so_far on.0 (length front) None (omega arith) ∙ sym (last_of-place so_far (length front) many);
    }
