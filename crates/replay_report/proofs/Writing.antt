-- A text that is written item by item.
use Rattle.std.proofs.Common.{◌≡◌, ◌≢◌, ℕ, ◌+◌, ◌<◌, ◌≤◌, List, [], ◌∷◌, ◌++◌, length, take, drop, Option, get_or, sym, ap, subst, ◌∙◌, append-nil, append_assoc, take-append-drop, refl}
use Rattle.std.specs.List.{flat_map}
use Rattle.std.proofs.KnownBytes.{Appends-trans}
use Rattle.std.proofs.lemmas.Grind.{flat_map-append}
use Rattle.std.proofs.lemmas.List.{take_all, take_more}
use Rattle.df1_base.specs.Outside.{Put, Wrote, WroteLess}
use Rattle.df1_base.proofs.Laws.{put_wrote}
use Rattle.replay_report.specs.declared.record.Line.{Line}
use Rattle.replay_report.specs.declared.record.Line.TheVariants.{Sent, Exec, Answered, Undelivered, Unanswered, Stray, Routed, Repeat, Full, Damaged, Enquiry, Dropped}
use Rattle.replay_report.specs.declared.record.Record.{Record}
use Rattle.replay_report.specs.Report.{report, line_text, who_text, word_text}

flat_map-more : {X : Type 0} (f : X → List ℕ) (xs : List X) (i : ℕ) (d : X) → i < length xs → flat_map f (take (i + 1) xs) ≡ flat_map f (take i xs) ++ f (get_or xs i d)
flat_map-more f xs i d lt = rw (take_more xs i d lt, flat_map-append, append-nil) refl

-- one item more is written
pub put_item : {X : Type 0} (f : X → List ℕ) (a b c : Option (List ℕ)) (xs : List X) (i : ℕ) (d : X) → i < length xs → Put a b (flat_map f (take i xs)) → Put b c (f (get_or xs i d)) → Put a c (flat_map f (take (i + 1) xs))
put_item f a b c xs i d lt before item =
    subst (Put a c) (sym (flat_map-more f xs i d lt)) (Appends-trans a b c (flat_map f (take i xs)) (f (get_or xs i d)) before item)

-- ---- less than all of a text

pub no_front : (xs ys : List ℕ) → xs ++ ys ≡ [] → xs ≡ []
no_front [] ys none = refl
no_front (x ∷ xs) ys none = cc

pub no_back : (xs ys : List ℕ) → xs ++ ys ≡ [] → ys ≡ []
no_back [] ys none = none
no_back (x ∷ xs) ys none = cc

-- what is less than a text is less than each longer one
pub less_of_more : (a b : Option (List ℕ)) (text more : List ℕ) → WroteLess a b text → WroteLess a b (text ++ more)
less_of_more a b text more (rest, some, w) = (
  rest ++ more,
  λ none. some (no_front rest more none),
  record { part = w.part; text_is = ap (λ k. k ++ more) w.text_is ∙ append_assoc w.part rest more; put = w.put },
)

-- less than what was left of a text
pub less_rest : (a b c : Option (List ℕ)) (text rest : List ℕ) → Wrote a b text rest → WroteLess b c rest → WroteLess a c text
less_rest a b c text rest w (left, some, v) = (
  left,
  some,
  record {
    part = w.part ++ v.part;
    text_is = w.text_is ∙ ap (λ k. w.part ++ k) v.text_is ∙ sym (append_assoc w.part v.part left);
    put = Appends-trans a b c w.part v.part w.put v.put;
  },
)

-- a text, and less than the next
pub less_behind : (a b c : Option (List ℕ)) (text more : List ℕ) → Put a b text → WroteLess b c more → WroteLess a c (text ++ more)
less_behind a b c text more put (rest, some, w) = (rest, some, put_wrote a b c text more rest put w)

-- less than one item more
pub less_item : {X : Type 0} (f : X → List ℕ) (a b c : Option (List ℕ)) (xs : List X) (i : ℕ) (d : X) → i < length xs → Put a b (flat_map f (take i xs)) → WroteLess b c (f (get_or xs i d)) → WroteLess a c (flat_map f xs)
less_item f a b c xs i d lt before less =
    let all : flat_map f (take (i + 1) xs) ++ flat_map f (drop (i + 1) xs) ≡ flat_map f xs = sym (flat_map-append f (take (i + 1) xs) (drop (i + 1) xs)) ∙ ap (flat_map f) (take-append-drop (i + 1) xs) in
    let so_far = subst (WroteLess a c) (sym (flat_map-more f xs i d lt)) (less_behind a b c (flat_map f (take i xs)) (f (get_or xs i d)) before less) in
    subst (WroteLess a c) all (less_of_more a c (flat_map f (take (i + 1) xs)) (flat_map f (drop (i + 1) xs)) so_far)

-- ---- all items

-- what all items make is written once all of them are
pub put_items : {X : Type 0} (f : X → List ℕ) (a b : Option (List ℕ)) (xs : List X) (i : ℕ) → length xs ≤ i → Put a b (flat_map f (take i xs)) → Put a b (flat_map f xs)
put_items f a b xs i all put = rw (take_all i xs all) at put

-- ---- three texts one after another

pub put_three : (a b c d : Option (List ℕ)) (x y z : List ℕ) → Put a b x → Put b c y → Put c d z → Put a d (x ++ y ++ z)
put_three a b c d x y z first second third = Appends-trans a c d (x ++ y) z (Appends-trans a b c x y first second) third

-- less than the first of them, than the second and than the third
pub less_first : (a b : Option (List ℕ)) (x y z : List ℕ) → WroteLess a b x → WroteLess a b (x ++ y ++ z)
less_first a b x y z first = less_of_more a b (x ++ y) z (less_of_more a b x y first)

pub less_second : (a b c : Option (List ℕ)) (x y z : List ℕ) → Put a b x → WroteLess b c y → WroteLess a c (x ++ y ++ z)
less_second a b c x y z first second = less_of_more a c (x ++ y) z (less_behind a b c x y first second)

pub less_third : (a b c d : Option (List ℕ)) (x y z : List ℕ) → Put a b x → Put b c y → WroteLess c d z → WroteLess a d (x ++ y ++ z)
less_third a b c d x y z first second third = less_behind a c d (x ++ y) z (Appends-trans a b c x y first second) third

-- ---- where there is no text

some_behind : (front rest : List ℕ) (b : ℕ) → front ++ b ∷ rest ≢ []
some_behind [] rest b none = cc
some_behind (x ∷ front) rest b none = cc

-- a line has a text
some_line : (one : Line) → line_text one ≢ []
some_line (Sent who bytes) none = some_behind _ [] 10 none
some_line (Exec who body) none = some_behind _ [] 10 none
some_line (Answered who n body) none = some_behind _ [] 10 none
some_line (Undelivered who n) none = some_behind _ [] 10 none
some_line (Unanswered who n) none = some_behind _ [] 10 none
some_line (Stray who body) none = some_behind _ [] 10 none
some_line (Routed who body) none = some_behind _ [] 10 none
some_line (Repeat who) none = some_behind (who_text who) _ 32 none
some_line (Full who) none = some_behind (who_text who) _ 32 none
some_line (Damaged who) none = some_behind (who_text who) _ 32 none
some_line (Enquiry who) none = some_behind (who_text who) _ 32 none
some_line (Dropped who) none = some_behind (who_text who) _ 32 none

-- no text is that of no line
pub no_lines : (lines : List Line) → flat_map line_text lines ≡ [] → lines ≡ []
no_lines [] none = refl
no_lines (one ∷ lines) none = absurd (some_line one (no_front (line_text one) (flat_map line_text lines) none))

-- a report has one
pub some_report : (r : Record) → report r ≢ []
unfolding report
some_report r none = some_behind (flat_map line_text r.lines ++ flat_map word_text r.words) _ 100 none
