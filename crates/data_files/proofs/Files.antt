-- Where the words of a file lie among the words of all files.
use Rattle.std.proofs.Common.{◌≡◌, ◌<◌, ◌≤◌, ℕ, suc, zero, ◌+◌, ◌∙◌, Bool, Option, ◌⊎◌, inl, inr, true, false, ◌||◌, cond, List, [], ◌∷◌, ◌++◌, length, length-take, length-drop, length-set, map, Some, None, refl, sym, ap, subst, arith, get_or, take, drop, drop-cons, set, slice_get, nat_lt, nat_le, ◌==◌, add_assoc, append-nil, append_assoc}
use Rattle.std.specs.Option.{option_or, option_map, option_map_or, unwrap_or}
use Rattle.std.specs.List.{list_any, flat_map, range_with_len}
use Rattle.std.specs.Ordering.{eq_by_cmp}
use Rattle.std.specs.FinMap as map_of
use Rattle.std.specs.FinMap.{get-from_entries, get-insert, same_map}
use Rattle.std.proofs.lemmas.List.{take_all, take-append-drop, take_more_set, get_or-take, get_or-drop, drop-drop, drop-set-lt, drop-set-add, take-set-le}
use Rattle.std.proofs.Math.Seq.{take-set-lt}
use Rattle.std.proofs.lemmas.List.Sums.{sum_by-cons, sum_by_push}
use Rattle.std.proofs.Math.ListN.{drop_of_length-le}
use Rattle.std.proofs.lemmas.Option.{slice_get-get_or, slice_get_past}
use Rattle.std.proofs.lemmas.Bool.{eqb-true}
use Rattle.std.proofs.lemmas.Bool.Decides.{nat_tests}
use Rattle.data_files.specs.declared.tables.File.{File}
use Rattle.data_files.specs.declared.file_spec.FileSpec.{FileSpec}
use Rattle.data_files.specs.Tables.{DataTables, place_cmp, placed, file_of, has_word, has_words, word_count, total_words, start_of, first_fault, faults, word_at, words_at, with_word, with_words, flat_words}
use Rattle.data_files.specs.Directory.{entries_of, tables_of, found, overwritten}
use Rattle.data_files.proofs.Placed.{places_total, exact_places, tied, or-None, or-cond, cond-or, other, same_number, find-append, find-placed_other, find-placed_at, find-placed_set}
use Rattle.data_files.proofs.NoFault.{IsNext, is_next, no_first_fault}

-- the first file of a number is at this place, and its words begin here
abbrev pub IsAt : ℕ → List FileSpec → ℕ → FileSpec → ℕ → Type 0
IsAt n [] k spec start = ⊥
IsAt n (s ∷ ss) zero spec start = ((s.number == n) ≡ true) × (spec ≡ s) × (start ≡ 0)
IsAt n (s ∷ ss) (suc k) spec start = ((s.number == n) ≡ false) × (rest : ℕ) × (start ≡ word_count s + rest) × IsAt n ss k spec rest

-- there is no file of a number
abbrev pub Lacks : ℕ → List FileSpec → Type 0
Lacks n [] = Unit {0}
Lacks n (s ∷ ss) = ((s.number == n) ≡ false) × Lacks n ss

either : (b : Bool) → (b ≡ true) ⊎ (b ≡ false)
either true = inl refl
either false = inr refl

some_is : {A : Type 0} (x y : A) → Some x ≡ Some y → x ≡ y
some_is x y e = cc

plus_zero : (p : ℕ) → p + 0 ≡ p
plus_zero p = omega arith

plus_none : (p : ℕ) → p ≡ p + 0
plus_none p = omega arith

-- what the directory finds
pub is_at : (p : ℕ) (specs : List FileSpec) (n : ℕ) (f : File) → found p specs n ≡ Some f → (k : ℕ) × (start : ℕ) × IsAt n specs k f.spec start × (f.start ≡ p + start)
is_at p [] n f e = cc
is_at p (s ∷ ss) n f e =
    let here : File = record { spec = s; start = p } in
    let rest : Option File = found (p + word_count s) ss n in
    elim (either (s.number == n)) [
      | inl t ↦
          let is : here ≡ f = some_is here f (sym (ap (λ b. cond b (Some here) rest) t) ∙ e) in
          (0, 0, (t, sym (ap (λ x. x.spec) is), refl), sym (ap (λ x. x.start) is) ∙ plus_none p)
      | inr t ↦
          let more : (k : ℕ) × (start : ℕ) × IsAt n ss k f.spec start × (f.start ≡ p + word_count s + start) = is_at (p + word_count s) ss n f (sym (ap (λ b. cond b (Some here) rest) t) ∙ e) in
          (suc more.0, word_count s + more.1, (t, more.1, refl, more.2), more.3 ∙ add_assoc p (word_count s) more.1)
    ]

pub lacks : (p : ℕ) (specs : List FileSpec) (n : ℕ) → found p specs n ≡ None → Lacks n specs
lacks p [] n e = tt
lacks p (s ∷ ss) n e =
    let here : File = record { spec = s; start = p } in
    let rest : Option File = found (p + word_count s) ss n in
    elim (either (s.number == n)) [
      | inl t ↦ let never : Some here ≡ None = sym (ap (λ b. cond b (Some here) rest) t) ∙ e in cc
      | inr t ↦ (t, lacks (p + word_count s) ss n (sym (ap (λ b. cond b (Some here) rest) t) ∙ e))
    ]

pub found-lacks : (p : ℕ) (specs : List FileSpec) (n : ℕ) → Lacks n specs → found p specs n ≡ None
found-lacks p [] n none = refl
found-lacks p (s ∷ ss) n none = ap (λ b. cond b (Some (record { spec = s; start = p })) (found (p + word_count s) ss n)) none.0 ∙ found-lacks (p + word_count s) ss n none.1

pub file_of-at : (n : ℕ) (specs : List FileSpec) (k : ℕ) (spec : FileSpec) (start : ℕ) → IsAt n specs k spec start → file_of specs n ≡ Some spec
file_of-at n [] k spec start at = absurd at
file_of-at n (s ∷ ss) zero spec start at = ap (λ b. cond b (Some s) (file_of ss n)) at.0 ∙ ap Some (sym at.1)
file_of-at n (s ∷ ss) (suc k) spec start at = ap (λ b. cond b (Some s) (file_of ss n)) at.0 ∙ file_of-at n ss k spec at.1 at.3

pub file_of-lacks : (n : ℕ) (specs : List FileSpec) → Lacks n specs → file_of specs n ≡ None
file_of-lacks n [] none = refl
file_of-lacks n (s ∷ ss) none = ap (λ b. cond b (Some s) (file_of ss n)) none.0 ∙ file_of-lacks n ss none.1

pub start_of-at : (n : ℕ) (specs : List FileSpec) (k : ℕ) (spec : FileSpec) (start : ℕ) → IsAt n specs k spec start → start_of specs n ≡ Some start
start_of-at n [] k spec start at = absurd at
start_of-at n (s ∷ ss) zero spec start at = ap (λ b. cond b (Some 0) (option_map (λ m. word_count s + m) (start_of ss n))) at.0 ∙ ap Some (sym at.2)
start_of-at n (s ∷ ss) (suc k) spec start at =
    ap (λ b. cond b (Some 0) (option_map (λ m. word_count s + m) (start_of ss n))) at.0
    ∙ ap (option_map (λ m. word_count s + m)) (start_of-at n ss k spec at.1 at.3)
    ∙ ap Some (sym at.2)

pub start_of-lacks : (n : ℕ) (specs : List FileSpec) → Lacks n specs → start_of specs n ≡ None
start_of-lacks n [] none = refl
start_of-lacks n (s ∷ ss) none =
    ap (λ b. cond b (Some 0) (option_map (λ m. word_count s + m) (start_of ss n))) none.0
    ∙ ap (option_map (λ m. word_count s + m)) (start_of-lacks n ss none.1)

total-cons : (s : FileSpec) (ss : List FileSpec) → total_words (s ∷ ss) ≡ word_count s + total_words ss
total-cons s ss = sum_by-cons word_count s ss

-- the words of a file end within those of all
pub within : (n : ℕ) (specs : List FileSpec) (k : ℕ) (spec : FileSpec) (start : ℕ) → IsAt n specs k spec start → start + word_count spec ≤ total_words specs
within n [] k spec start at = absurd at
within n (s ∷ ss) zero spec start at =
    let same : word_count spec ≡ word_count s = ap word_count at.1 in
    let none : start ≡ 0 = at.2 in
    let total : total_words (s ∷ ss) ≡ word_count s + total_words ss = total-cons s ss in
    omega arith
within n (s ∷ ss) (suc k) spec start at =
    let more : at.1 + word_count spec ≤ total_words ss = within n ss k spec at.1 at.3 in
    let is : start ≡ word_count s + at.1 = at.2 in
    let total : total_words (s ∷ ss) ≡ word_count s + total_words ss = total-cons s ss in
    omega arith

-- no word is found where there is no such file
pub find-lacks : (n i : ℕ) (specs : List FileSpec) (ws : List ℕ) → Lacks n specs → map_of.find place_cmp (n, i) (entries_of specs ws) ≡ None
find-lacks n i [] ws none = refl
find-lacks n i (s ∷ ss) ws none =
    find-append (n, i) (placed s.number 0 (take (word_count s) ws)) (entries_of ss (drop (word_count s) ws))
    ∙ ap (λ o. option_or o (map_of.find place_cmp (n, i) (entries_of ss (drop (word_count s) ws)))) (find-placed_other n i s.number 0 (take (word_count s) ws) (other n s.number none.0))
    ∙ find-lacks n i ss (drop (word_count s) ws) none.1

or_true : (b : Bool) → (b || true) ≡ true
or_true true = refl
or_true false = refl

any-push : (before : List FileSpec) (s : FileSpec) (n : ℕ) → list_any (λ o. o.number == n) before ≡ true → list_any (λ o. o.number == n) (before ++ s ∷ []) ≡ true
any-push (o ∷ before) s n e = grind (arith, nat_tests, any-push before s n)
any-push [] s n e = cc

any-pushed : (before : List FileSpec) (s : FileSpec) (n : ℕ) → (s.number == n) ≡ true → list_any (λ o. o.number == n) (before ++ s ∷ []) ≡ true
any-pushed [] s n e = ap (λ b. b || false) e
any-pushed (o ∷ before) s n e = ap (λ b. (o.number == n) || b) (any-pushed before s n e) ∙ or_true (o.number == n)

not_true : (b : Bool) → (b ≡ true → ⊥) → b ≡ false
not_true true never = absurd (never refl)
not_true false never = refl

-- where a number stood before, no later file has it
later : (before specs : List FileSpec) (n : ℕ) → first_fault before specs ≡ None → list_any (λ o. o.number == n) before ≡ true → Lacks n specs
later before [] n valid stood = tt
later before (s ∷ ss) n valid stood =
    let next : IsNext before s ss = is_next before s ss valid in
    let differs : (s.number == n) ≡ false =
    not_true (s.number == n) (λ same.
    let is : s.number ≡ n = eqb-true s.number n same in
    let clash : false ≡ true = sym next.new ∙ ap (λ x. list_any (λ o. o.number == x) before) is ∙ stood in
    cc) in
    (differs, later (before ++ s ∷ []) ss n next.rest (any-push before s n stood))

-- the words of the first file of a number
pub find-at : (before : List FileSpec) (n : ℕ) (specs : List FileSpec) (k : ℕ) (spec : FileSpec) (start i : ℕ) (ws : List ℕ) → first_fault before specs ≡ None → IsAt n specs k spec start →
    map_of.find place_cmp (n, i) (entries_of specs ws) ≡ slice_get (take (word_count spec) (drop start ws)) i
find-at before n [] k spec start i ws valid at = absurd at
find-at before n (s ∷ ss) zero spec start i ws valid at =
    let next : IsNext before s ss = is_next before s ss valid in
    let is : n ≡ s.number = sym (eqb-true s.number n at.0) in
    let none : map_of.find place_cmp (n, i) (entries_of ss (drop (word_count s) ws)) ≡ None = find-lacks n i ss (drop (word_count s) ws) (later (before ++ s ∷ []) ss n next.rest (any-pushed before s n at.0)) in
    find-append (n, i) (placed s.number 0 (take (word_count s) ws)) (entries_of ss (drop (word_count s) ws))
    ∙ ap (λ o. option_or (map_of.find place_cmp (n, i) (placed s.number 0 (take (word_count s) ws))) o) none
    ∙ or-None _
    ∙ ap (λ m. map_of.find place_cmp (m, i) (placed s.number 0 (take (word_count s) ws))) is
    ∙ find-placed_at s.number i i 0 (take (word_count s) ws) (omega arith)
    ∙ ap (λ x. slice_get (take (word_count x) ws) i) (sym at.1)
    ∙ ap (λ m. slice_get (take (word_count spec) (drop m ws)) i) (sym at.2)
find-at before n (s ∷ ss) (suc k) spec start i ws valid at =
    let next : IsNext before s ss = is_next before s ss valid in
    find-append (n, i) (placed s.number 0 (take (word_count s) ws)) (entries_of ss (drop (word_count s) ws))
    ∙ ap (λ o. option_or o (map_of.find place_cmp (n, i) (entries_of ss (drop (word_count s) ws)))) (find-placed_other n i s.number 0 (take (word_count s) ws) (other n s.number at.0))
    ∙ find-at (before ++ s ∷ []) n ss k spec at.1 i (drop (word_count s) ws) next.rest at.3
    ∙ ap (λ xs. slice_get (take (word_count spec) xs) i) (drop-drop at.1 (word_count s) ws)
    ∙ ap (λ m. slice_get (take (word_count spec) (drop m ws)) i) (sym at.2)

-- another word of the first file of a number
pub find-set : (q : ℕ × ℕ) (n : ℕ) (specs : List FileSpec) (k : ℕ) (spec : FileSpec) (start i v : ℕ) (ws : List ℕ) → IsAt n specs k spec start → i < word_count spec → total_words specs ≤ length ws →
    map_of.find place_cmp q (entries_of specs (set ws (start + i) v)) ≡ cond (eq_by_cmp place_cmp q (n, i)) (Some v) (map_of.find place_cmp q (entries_of specs ws))
find-set q n [] k spec start i v ws at inside all = absurd at
find-set q n (s ∷ ss) zero spec start i v ws at inside all =
    let is : s.number ≡ n = eqb-true s.number n at.0 in
    let here : start + i ≡ i = omega (arith, at.2) in
    let low : i < word_count s = subst (λ x. i < word_count x) at.1 inside in
    let total : total_words (s ∷ ss) ≡ word_count s + total_words ss = total-cons s ss in
    let held : i < length (take (word_count s) ws) = omega (arith, length-take (word_count s) ws) in
    ap (λ m. map_of.find place_cmp q (entries_of (s ∷ ss) (set ws m v))) here
    ∙ ap (λ xs. map_of.find place_cmp q (placed s.number 0 xs ++ entries_of ss (drop (word_count s) (set ws i v)))) (take-set-lt (word_count s) ws i v low)
    ∙ ap (λ xs. map_of.find place_cmp q (placed s.number 0 (set (take (word_count s) ws) i v) ++ entries_of ss xs)) (drop-set-lt (word_count s) ws i v low)
    ∙ find-append q (placed s.number 0 (set (take (word_count s) ws) i v)) (entries_of ss (drop (word_count s) ws))
    ∙ ap (λ o. option_or o (map_of.find place_cmp q (entries_of ss (drop (word_count s) ws)))) (find-placed_set q s.number i i 0 (take (word_count s) ws) v (omega arith) held)
    ∙ sym (cond-or (eq_by_cmp place_cmp q (s.number, i)) v (map_of.find place_cmp q (placed s.number 0 (take (word_count s) ws))) (map_of.find place_cmp q (entries_of ss (drop (word_count s) ws))))
    ∙ ap (cond (eq_by_cmp place_cmp q (s.number, i)) (Some v)) (sym (find-append q (placed s.number 0 (take (word_count s) ws)) (entries_of ss (drop (word_count s) ws))))
    ∙ ap (λ m. cond (eq_by_cmp place_cmp q (m, i)) (Some v) (map_of.find place_cmp q (entries_of (s ∷ ss) ws))) is
find-set q n (s ∷ ss) (suc k) spec start i v ws at inside all =
    let total : total_words (s ∷ ss) ≡ word_count s + total_words ss = total-cons s ss in
    let place : start + i ≡ word_count s + (at.1 + i) = omega (arith, at.2) in
    let left : total_words ss ≤ length (drop (word_count s) ws) = omega (arith, length-drop (word_count s) ws) in
    ap (λ m. map_of.find place_cmp q (entries_of (s ∷ ss) (set ws m v))) place
    ∙ ap (λ xs. map_of.find place_cmp q (placed s.number 0 xs ++ entries_of ss (drop (word_count s) (set ws (word_count s + (at.1 + i)) v)))) (take-set-le (word_count s) ws (word_count s + (at.1 + i)) v (omega arith))
    ∙ ap (λ xs. map_of.find place_cmp q (placed s.number 0 (take (word_count s) ws) ++ entries_of ss xs)) (drop-set-add (word_count s) ws (at.1 + i) v)
    ∙ find-append q (placed s.number 0 (take (word_count s) ws)) (entries_of ss (set (drop (word_count s) ws) (at.1 + i) v))
    ∙ ap (λ o. option_or (map_of.find place_cmp q (placed s.number 0 (take (word_count s) ws))) o) (find-set q n ss k spec at.1 i v (drop (word_count s) ws) at.3 inside left)
    ∙ or-cond (eq_by_cmp place_cmp q (n, i)) v (map_of.find place_cmp q (placed s.number 0 (take (word_count s) ws))) (map_of.find place_cmp q (entries_of ss (drop (word_count s) ws))) (λ ties.
    let number : q.0 ≡ n = same_number q.0 n q.1 i (sym (tied q.0 q.1 n i) ∙ ties) in
    find-placed_other q.0 q.1 s.number 0 (take (word_count s) ws) (other q.0 s.number (ap (λ m. s.number == m) number ∙ at.0)))
    ∙ ap (cond (eq_by_cmp place_cmp q (n, i)) (Some v)) (sym (find-append q (placed s.number 0 (take (word_count s) ws)) (entries_of ss (drop (word_count s) ws))))

-- the words of tables
part-inside : (c start i d : ℕ) (ws : List ℕ) → i < c → start + c ≤ length ws → slice_get (take c (drop start ws)) i ≡ Some (get_or ws (start + i) d)
part-inside c start i d ws inside all =
    let size : i < length (take c (drop start ws)) = omega (arith, length-take c (drop start ws), length-drop start ws) in
    slice_get-get_or (take c (drop start ws)) i d size ∙ ap Some (get_or-take c (drop start ws) i d inside ∙ get_or-drop start ws i d)

part-past : (c start i : ℕ) (ws : List ℕ) → c ≤ i → slice_get (take c (drop start ws)) i ≡ None
part-past c start i ws past = slice_get_past (take c (drop start ws)) i (omega (arith, length-take c (drop start ws)))

pub word-part : (n : ℕ) (specs : List FileSpec) (k : ℕ) (spec : FileSpec) (start i : ℕ) (ws : List ℕ) → faults specs ≡ None → IsAt n specs k spec start →
    word_at (tables_of specs ws) n i ≡ slice_get (take (word_count spec) (drop start ws)) i
word-part n specs k spec start i ws valid at =
    get-from_entries places_total (entries_of specs ws) (n, i) ∙ find-at [] n specs k spec start i ws (no_first_fault specs valid) at

pub word-inside : (n : ℕ) (specs : List FileSpec) (k : ℕ) (spec : FileSpec) (start i d : ℕ) (ws : List ℕ) → faults specs ≡ None → length ws ≡ total_words specs → IsAt n specs k spec start → i < word_count spec →
    word_at (tables_of specs ws) n i ≡ Some (get_or ws (start + i) d)
word-inside n specs k spec start i d ws valid all at inside =
    let ends : start + word_count spec ≤ total_words specs = within n specs k spec start at in
    word-part n specs k spec start i ws valid at ∙ part-inside (word_count spec) start i d ws inside (omega arith)

pub word-past : (n : ℕ) (specs : List FileSpec) (k : ℕ) (spec : FileSpec) (start i : ℕ) (ws : List ℕ) → faults specs ≡ None → IsAt n specs k spec start → word_count spec ≤ i → word_at (tables_of specs ws) n i ≡ None
word-past n specs k spec start i ws valid at past = word-part n specs k spec start i ws valid at ∙ part-past (word_count spec) start i ws past

pub word-lacks : (n i : ℕ) (specs : List FileSpec) (ws : List ℕ) → Lacks n specs → word_at (tables_of specs ws) n i ≡ None
word-lacks n i specs ws none = get-from_entries places_total (entries_of specs ws) (n, i) ∙ find-lacks n i specs ws none

pub has_word-at : (n : ℕ) (specs : List FileSpec) (k : ℕ) (spec : FileSpec) (start i : ℕ) → IsAt n specs k spec start → has_word specs n i ≡ nat_lt i (word_count spec)
has_word-at n specs k spec start i at = ap (λ o. option_map_or (λ s. nat_lt i (word_count s)) o false) (file_of-at n specs k spec start at)

pub has_word-lacks : (n i : ℕ) (specs : List FileSpec) → Lacks n specs → has_word specs n i ≡ false
has_word-lacks n i specs none = ap (λ o. option_map_or (λ s. nat_lt i (word_count s)) o false) (file_of-lacks n specs none)

pub has_words-at : (n : ℕ) (specs : List FileSpec) (k : ℕ) (spec : FileSpec) (start first count : ℕ) → IsAt n specs k spec start → has_words specs n first count ≡ nat_le (first + count) (word_count spec)
has_words-at n specs k spec start first count at = ap (λ o. option_map_or (λ s. nat_le (first + count) (word_count s)) o false) (file_of-at n specs k spec start at)

pub has_words-lacks : (n first count : ℕ) (specs : List FileSpec) → Lacks n specs → has_words specs n first count ≡ false
has_words-lacks n first count specs none = ap (λ o. option_map_or (λ s. nat_le (first + count) (word_count s)) o false) (file_of-lacks n specs none)

-- tables after a word was set
pub tables-set : (n : ℕ) (specs : List FileSpec) (k : ℕ) (spec : FileSpec) (start i v : ℕ) (ws : List ℕ) → length ws ≡ total_words specs → IsAt n specs k spec start → i < word_count spec →
    tables_of specs (set ws (start + i) v) ≡ with_word (tables_of specs ws) n i v
tables-set n specs k spec start i v ws all at inside =
    let words : map_of.from_entries {R = place_cmp} (entries_of specs (set ws (start + i) v)) ≡ map_of.insert (map_of.from_entries (entries_of specs ws)) (n, i) v =
    same_map places_total exact_places _ _ (λ q.
    get-from_entries places_total (entries_of specs (set ws (start + i) v)) q
    ∙ find-set q n specs k spec start i v ws at inside (omega arith)
    ∙ ap (cond (eq_by_cmp place_cmp q (n, i)) (Some v)) (sym (get-from_entries places_total (entries_of specs ws) q))
    ∙ sym (get-insert places_total (map_of.from_entries (entries_of specs ws)) (n, i) v q)) in
    λ x. record { specs = specs; words = words x }

-- one word after another is written over
overwritten-none : (ws : List ℕ) (place : ℕ) → overwritten ws place [] ≡ ws
overwritten-none ws place = ap (λ p. take place ws ++ drop p ws) (plus_zero place) ∙ take-append-drop place ws

overwritten-one : (ws : List ℕ) (place w : ℕ) (rest : List ℕ) → place < length ws → overwritten ws place (w ∷ rest) ≡ overwritten (set ws place w) (place + 1) rest
overwritten-one ws place w rest within =
    let later : place + length (w ∷ rest) ≡ place + 1 + length rest = omega arith in
    let front : take (place + 1) (set ws place w) ≡ take place ws ++ w ∷ [] = take_more_set ws place w within in
    let back : drop (place + 1 + length rest) (set ws place w) ≡ drop (place + 1 + length rest) ws = drop-set-lt (place + 1 + length rest) ws place w (omega arith) in
    ap (λ p. take place ws ++ ((w ∷ rest) ++ drop p ws)) later
    ∙ sym (append_assoc (take place ws) (w ∷ []) (rest ++ drop (place + 1 + length rest) ws))
    ∙ ap (λ xs. xs ++ (rest ++ drop (place + 1 + length rest) ws)) (sym front)
    ∙ ap (λ xs. take (place + 1) (set ws place w) ++ (rest ++ xs)) (sym back)

-- tables after several words were set
pub tables-overwritten : (n : ℕ) (specs : List FileSpec) (k : ℕ) (spec : FileSpec) (start first place : ℕ) (ws new : List ℕ) → length ws ≡ total_words specs → IsAt n specs k spec start → place ≡ start + first → first + length new ≤ word_count spec →
    tables_of specs (overwritten ws place new) ≡ with_words (tables_of specs ws) n first new
tables-overwritten n specs k spec start first place ws [] all at here inside = ap (tables_of specs) (overwritten-none ws place)
tables-overwritten n specs k spec start first place ws (w ∷ rest) all at here inside =
    let ends : start + word_count spec ≤ total_words specs = within n specs k spec start at in
    let one : tables_of specs (set ws place w) ≡ with_word (tables_of specs ws) n first w = ap (λ p. tables_of specs (set ws p w)) here ∙ tables-set n specs k spec start first w ws all at (omega arith) in
    ap (tables_of specs) (overwritten-one ws place w rest (omega arith))
    ∙ tables-overwritten n specs k spec start (first + 1) (place + 1) (set ws place w) rest (length-set ws place w ∙ all) at (omega arith) (omega arith)
    ∙ ap (λ t. with_words t n (first + 1) rest) one

pub length-overwritten : (ws : List ℕ) (place : ℕ) (new : List ℕ) → place + length new ≤ length ws → length (overwritten ws place new) ≡ length ws
length-overwritten ws place [] within = ap length (overwritten-none ws place)
length-overwritten ws place (w ∷ rest) within =
    ap length (overwritten-one ws place w rest (omega arith))
    ∙ length-overwritten (set ws place w) (place + 1) rest (omega (arith, length-set ws place w))
    ∙ length-set ws place w

pub specs-with_words : (t : DataTables) (n first : ℕ) (words : List ℕ) → (with_words t n first words).specs ≡ t.specs
specs-with_words t n first [] = refl
specs-with_words t n first (w ∷ rest) = specs-with_words (with_word t n first w) n (first + 1) rest

-- several words of a file
words-of_part : (g : ℕ → Option ℕ) (start first count c : ℕ) (ws : List ℕ) → ((i : ℕ) → i < c → g i ≡ Some (get_or ws (start + i) 0)) → first + count ≤ c → start + c ≤ length ws →
    map (λ i. unwrap_or (g i) 0) (range_with_len first count) ≡ take count (drop (start + first) ws)
words-of_part g start first zero c ws is inside all = refl
words-of_part g start first (suc count) c ws is inside all =
    let head : unwrap_or (g first) 0 ≡ get_or ws (start + first) 0 = ap (λ o. unwrap_or o 0) (is first (omega arith)) in
    let rest : map (λ i. unwrap_or (g i) 0) (range_with_len (first + 1) count) ≡ take count (drop (start + (first + 1)) ws) = words-of_part g start (first + 1) count c ws is (omega arith) all in
    let next : start + (first + 1) ≡ suc (start + first) = omega arith in
    let cut : drop (start + first) ws ≡ get_or ws (start + first) 0 ∷ drop (suc (start + first)) ws = drop-cons ws (start + first) 0 (omega arith) in
    ap (λ x. x ∷ map (λ i. unwrap_or (g i) 0) (range_with_len (first + 1) count)) head
    ∙ ap (λ xs. get_or ws (start + first) 0 ∷ xs) (rest ∙ ap (λ p. take count (drop p ws)) next)
    ∙ sym (ap (take (suc count)) cut)

pub words_at-part : (n : ℕ) (specs : List FileSpec) (k : ℕ) (spec : FileSpec) (start first count : ℕ) (ws : List ℕ) → faults specs ≡ None → length ws ≡ total_words specs → IsAt n specs k spec start → first + count ≤ word_count spec →
    words_at (tables_of specs ws) n first count ≡ take count (drop (start + first) ws)
words_at-part n specs k spec start first count ws valid all at inside =
    let ends : start + word_count spec ≤ total_words specs = within n specs k spec start at in
    words-of_part (word_at (tables_of specs ws) n) start first count (word_count spec) ws (λ i low. word-inside n specs k spec start i 0 ws valid all at low) inside (omega arith)

same_number_true : (n : ℕ) → (n == n) ≡ true
same_number_true n = grind (arith, nat_tests)

neither : (a b : Bool) → (a || b) ≡ false → (a ≡ false) × (b ≡ false)
neither true b e = cc
neither false b e = (refl, e)

-- the words of all files, file after file
new-at : (before : List FileSpec) (s : FileSpec) (rest : List FileSpec) → list_any (λ o. o.number == s.number) before ≡ false → IsAt s.number (before ++ s ∷ rest) (length before) s (total_words before)
new-at [] s rest new = (same_number_true s.number, refl, refl)
new-at (o ∷ before) s rest new =
    let parts : ((o.number == s.number) ≡ false) × (list_any (λ p. p.number == s.number) before ≡ false) = neither (o.number == s.number) _ new in
    (parts.0, total_words before, total-cons o before, new-at before s rest parts.1)

flat-from : (all_specs before rest : List FileSpec) (ws : List ℕ) → faults all_specs ≡ None → length ws ≡ total_words all_specs → all_specs ≡ before ++ rest → first_fault before rest ≡ None →
    flat_map (λ s. words_at (tables_of all_specs ws) s.number 0 (word_count s)) rest ≡ drop (total_words before) ws
flat-from all_specs before [] ws valid all is none =
    let same : all_specs ≡ before = is ∙ append-nil before in
    let size : length ws ≤ total_words before = omega (arith, ap total_words same) in
    sym (drop_of_length-le ws size)
flat-from all_specs before (s ∷ rest) ws valid all is none =
    let next : IsNext before s rest = is_next before s rest none in
    let at : IsAt s.number all_specs (length before) s (total_words before) = subst (λ ss. IsAt s.number ss (length before) s (total_words before)) (sym is) (new-at before s rest next.new) in
    let ends : total_words before + word_count s ≤ total_words all_specs = within s.number all_specs (length before) s (total_words before) at in
    let here : words_at (tables_of all_specs ws) s.number 0 (word_count s) ≡ take (word_count s) (drop (total_words before + 0) ws) = words_at-part s.number all_specs (length before) s (total_words before) 0 (word_count s) ws valid all at (omega arith) in
    let none_before : total_words before + 0 ≡ total_words before = omega arith in
    let pushed : total_words (before ++ s ∷ []) ≡ total_words before + word_count s = sum_by_push word_count before s in
    let more : flat_map (λ o. words_at (tables_of all_specs ws) o.number 0 (word_count o)) rest ≡ drop (total_words (before ++ s ∷ [])) ws =
    flat-from all_specs (before ++ s ∷ []) rest ws valid all (is ∙ sym (append_assoc before (s ∷ []) rest)) next.rest in
    ap (λ xs. xs ++ flat_map (λ o. words_at (tables_of all_specs ws) o.number 0 (word_count o)) rest) (here ∙ ap (λ p. take (word_count s) (drop p ws)) none_before)
    ∙ ap (λ xs. take (word_count s) (drop (total_words before) ws) ++ xs) (more ∙ ap (λ p. drop p ws) pushed ∙ sym (drop-drop (word_count s) (total_words before) ws))
    ∙ take-append-drop (word_count s) (drop (total_words before) ws)

pub flat-words : (specs : List FileSpec) (ws : List ℕ) → faults specs ≡ None → length ws ≡ total_words specs → flat_words (tables_of specs ws) ≡ ws
flat-words specs ws valid all = flat-from specs [] specs ws valid all refl (no_first_fault specs valid)

some_mapped : (c start : ℕ) (o : Option ℕ) → option_map (λ m. c + m) o ≡ Some start → (rest : ℕ) × (o ≡ Some rest) × (start ≡ c + rest)
some_mapped c start None e = cc
some_mapped c start (Some rest) e = (rest, refl, sym (some_is (c + rest) start e))

-- what begins at a start
at_start : (specs : List FileSpec) (n start : ℕ) → start_of specs n ≡ Some start → (k : ℕ) × (spec : FileSpec) × IsAt n specs k spec start
at_start [] n start e = cc
at_start (s ∷ ss) n start e =
    let rest : Option ℕ = option_map (λ m. word_count s + m) (start_of ss n) in
    elim (either (s.number == n)) [
      | inl t ↦ (0, s, (t, refl, sym (some_is 0 start (sym (ap (λ b. cond b (Some 0) rest) t) ∙ e))))
      | inr t ↦
          let more : (m : ℕ) × (start_of ss n ≡ Some m) × (start ≡ word_count s + m) = some_mapped (word_count s) start (start_of ss n) (sym (ap (λ b. cond b (Some 0) rest) t) ∙ e) in
          let at : (k : ℕ) × (spec : FileSpec) × IsAt n ss k spec more.0 = at_start ss n more.0 more.1 in
          (suc at.0, at.1, (t, more.0, more.2, at.2))
    ]

is_low : (i n : ℕ) → nat_lt i n ≡ true → i < n
is_low i n h = grind (arith, nat_tests)

-- a word of a file is the word of all at its index after the start
pub flat-each : (specs : List FileSpec) (ws : List ℕ) (n start i : ℕ) → faults specs ≡ None → length ws ≡ total_words specs → start_of specs n ≡ Some start → has_word specs n i ≡ true →
    slice_get ws (start + i) ≡ word_at (tables_of specs ws) n i
flat-each specs ws n start i valid all begins has =
    let found_at : (k : ℕ) × (spec : FileSpec) × IsAt n specs k spec start = at_start specs n start begins in
    let inside : i < word_count found_at.1 = is_low i (word_count found_at.1) (sym (has_word-at n specs found_at.0 found_at.1 start i found_at.2) ∙ has) in
    let ends : start + word_count found_at.1 ≤ total_words specs = within n specs found_at.0 found_at.1 start found_at.2 in
    slice_get-get_or ws (start + i) 0 (omega arith) ∙ sym (word-inside n specs found_at.0 found_at.1 start i 0 ws valid all found_at.2 inside)

-- as many words in place of all
pub refilled : (n : ℕ) (new old : List ℕ) → length new ≡ n → length old ≡ n → take n (new ++ drop (length new) old) ≡ new
refilled n new old size same =
    let rest : drop (length new) old ≡ [] = drop_of_length-le old (omega arith) in
    ap (λ xs. take n (new ++ xs)) rest ∙ ap (take n) (append-nil new) ∙ take_all n new (omega arith)
