-- A text with one byte more, and the texts of a grammar that carries them.
use Rattle.std.proofs.Common.{◌≡◌, ◌≢◌, ℕ, suc, ◌+◌, ◌<◌, ◌≤◌, Bool, true, false, cond, eqb, ltb, leb, List, [], ◌∷◌, ◌++◌, length, take, Option, Some, None, refl, sym, ap, ◌∙◌, append_assoc, arith, inl, inr, length-append}
use Rattle.std.specs.List.{flat_map}
use Rattle.std.proofs.lemmas.List.{append-nil, length_push, map-append, take_all}
use Rattle.std.proofs.lemmas.List.Concat.{flat_map-append}
use Rattle.std.proofs.lemmas.Bool.{ne_eqb, eqb-true, eqb-false, cases_Bool, true≢false, ltb-true, ltb-false, lt-ltb, le-ltb, le-leb, lt-leb, cases_lt, cond_both, and_right}
use Rattle.df1_check.specs.declared.Check.{Check}
use Rattle.df1_check.specs.declared.Check.TheVariants as kinds
use Rattle.df1_frame.specs.declared.heard.Heard.TheVariants as heard
use Rattle.df1_frame.specs.Spelling.{Plain, Doubled, piece_bytes, pieces_of, check_len, check_of, same, framed}
use Rattle.df1_frame.specs.Line.{Grammar}
use Rattle.df1_frame.specs.Grammar.{check_heard, unheard}
use Rattle.df1_frame.specs.Gathered.{gathered_whole_after, verdict}
use Rattle.df1_frame.proofs.LineLemmas.{Machine, Split, after, run}
use Rattle.df1_frame.proofs.SpellingLemmas.{length-unheard, length-check_heard, check_heard-push, unheard-push, same-same}
use Rattle.df1_frame.proofs.GatheredLemmas.{gather-after, close-after}
use Rattle.half_frame.specs.Text.{Text, Opened, OpenedDle, Closed, opened, text_bytes, IsText, opened_heard, text_heard, whole_heard, is_right, BeginsWith}
use Rattle.half_frame.specs.TextStep.{within, begun, Onward, Goes, Ends, Breaks, is_good, text_step}

-- what a text becomes by one byte: a text, a whole one, or one that a pair breaks off
pub data To : Type 0 where
  On : (text : Text) → To
  Whole : (body check : List ℕ) → To
  Cut : (body : List ℕ) → To

abbrev pub advance_text : Check → Text → ℕ → To
advance_text kind (Opened body) b = cond (eqb b 16) (On (OpenedDle body)) (On (Opened (body ++ b ∷ [])))
advance_text kind (OpenedDle body) b = cond (eqb b 3) (On (Closed body [])) (cond (eqb b 16) (On (Opened (body ++ 16 ∷ []))) (Cut body))
advance_text kind (Closed body check) b = cond (ltb (length check + 1) (check_len kind)) (On (Closed body (check ++ b ∷ []))) (Whole body (check ++ b ∷ []))

abbrev pub IsTo : Check → ℕ → To → Type 0
IsTo kind b (On text) = IsText kind text
IsTo kind b (Whole body check) = length check ≡ check_len kind
IsTo kind b (Cut body) = (b ≢ 3) × (b ≢ 16)

-- the bytes are those before, and then this one; a text that is broken off had a DLE behind it
abbrev pub AreBytes : Text → ℕ → To → Type 0
AreBytes text b (On to) = text_bytes to ≡ text_bytes text ++ b ∷ []
AreBytes text b (Whole body check) = framed (pieces_of body) check ≡ text_bytes text ++ b ∷ []
AreBytes text b (Cut body) = text_bytes text ≡ opened body ++ 16 ∷ []

-- what is heard is what was heard before, and then what the byte gives
abbrev pub IsHeard : {H : Type 0} → Option H → Text → To → Type 0
IsHeard first text (On to) = text_heard first to ≡ text_heard first text ++ None ∷ []
IsHeard {H = H} first text (Whole body check) = (h : H) → whole_heard first body h check ≡ text_heard first text ++ Some h ∷ []
IsHeard first text (Cut body) = text_heard first text ≡ opened_heard first body ++ None ∷ []

abbrev pub onward : Check → ℕ → List ℕ → ℕ → To → Onward
onward kind N head b (On text) = Goes (within kind N head text)
onward kind N head b (Whole body check) = Ends (is_right kind N head body check) (gathered_whole_after kind N head body)
onward kind N head b (Cut body) = Breaks b

-- one byte more behind a text
pub record Continues (H : Type 0) (first : Option H) (kind : Check) (N : ℕ) (head : List ℕ) (text : Text) (b : ℕ) (to : To) : Type 0 where
  pub is : IsTo kind b to
  pub bytes : AreBytes text b to
  pub heard : IsHeard first text to
  pub value : text_step kind N (within kind N head text) b ≡ onward kind N head b to

-- ---- the body's bytes

doubled-push : (body : List ℕ) (b : ℕ) → flat_map piece_bytes (pieces_of (body ++ b ∷ [])) ≡ flat_map piece_bytes (pieces_of body) ++ piece_bytes (cond (eqb b 16) Doubled (Plain b))
doubled-push body b = rw (map-append, flat_map-append, append-nil) refl

plain-push : (body : List ℕ) (b : ℕ) → eqb b 16 ≡ false → flat_map piece_bytes (pieces_of (body ++ b ∷ [])) ≡ flat_map piece_bytes (pieces_of body) ++ b ∷ []
plain-push body b e = doubled-push body b ∙ rw e refl

unheard-append : (H : Type 0) (xs ys : List ℕ) → unheard {H = H} (xs ++ ys) ≡ unheard xs ++ unheard ys
unheard-append H [] ys = refl
unheard-append H (x ∷ xs) ys = ap (λ (l : List (Option H)). None ∷ l) (unheard-append H xs ys)

-- ---- what is heard at the end

good_if : (s : Bool) → is_good (cond s heard.Good heard.BadCheck) ≡ s
good_if true = refl
good_if false = refl

short_if : (s : Bool) → is_good (cond s heard.Short heard.BadCheck) ≡ false
short_if true = refl
short_if false = refl

good-right : (kind : Check) (N : ℕ) (head body check : List ℕ) → is_good (verdict kind (gathered_whole_after kind N head body) check) ≡ is_right kind N head body check
good-right kind N head body check = elim (cases_lt N (length body)) [
  | inl lt ↦ rw (lt-ltb N (length body) lt, lt-leb (length body) N lt) (sym (and_right (leb 6 (length body)) false refl))
  | inr le ↦ rw (le-ltb N (length body) le, take_all N body le, le-leb (length body) N le) (elim (cases_lt (length body) 6) [
    | inl short ↦ rw (lt-ltb (length body) 6 short, lt-leb 6 (length body) short) (short_if (same check (check_of kind (head ++ body))))
    | inr long ↦ rw (le-ltb (length body) 6 long, le-leb 6 (length body) long) (good_if (same check (check_of kind (head ++ body))))
  ])
]

right_fits : (kind : Check) (N : ℕ) (head body check : List ℕ) → is_right kind N head body check ≡ true → length body ≤ N
right_fits kind N head body check e = elim (cases_lt N (length body)) [
  | inl lt ↦ absurd (let no : is_right kind N head body check ≡ false = rw (lt-leb (length body) N lt) (and_right (leb 6 (length body)) false refl) in true≢false (sym e ∙ no))
  | inr le ↦ le
]

-- a text with its own check and a body of 6 to N bytes is right
pub own-right : (kind : Check) (N : ℕ) (head body : List ℕ) → 6 ≤ length body → length body ≤ N → is_right kind N head body (check_of kind (head ++ body)) ≡ true
own-right kind N head body least most = rw (le-leb 6 (length body) least, le-leb (length body) N most, same-same (check_of kind (head ++ body))) refl

-- what is kept of the body of a right text is all of it
pub right-bytes : {A : Type 0} (kind : Check) (N : ℕ) (head body check : List ℕ) (f : List ℕ → A) (other : A) → cond (is_right kind N head body check) (f (take N body)) other ≡ cond (is_right kind N head body check) (f body) other
right-bytes kind N head body check f other = elim (cases_Bool (is_right kind N head body check)) [
  | inl e ↦ rw (take_all N body (right_fits kind N head body check e)) refl
  | inr e ↦ rw e refl
]

-- a text of which DLE STX has come
pub within-begun : (kind : Check) (N : ℕ) (head : List ℕ) → within kind N head (Opened []) ≡ begun kind head
within-begun kind N head =
    let least : 0 ≤ N = omega arith in
    let none : take N [] ≡ [] = take_all {A = ℕ} N [] least in
    rw (none, le-ltb N 0 least, append-nil head) refl

-- ---- one byte more

check_len-positive : (kind : Check) → 0 < check_len kind
check_len-positive kinds.Bcc = omega arith
check_len-positive kinds.Crc = omega arith

continues-opened : (H : Type 0) (first : Option H) (kind : Check) (N : ℕ) (head body : List ℕ) (b : ℕ) → Continues H first kind N head (Opened body) b (advance_text kind (Opened body) b)
continues-opened H first kind N head body b = cond_both (eqb b 16) (On (OpenedDle body)) (On (Opened (body ++ b ∷ []))) (Continues H first kind N head (Opened body) b)
    (λ e. rw (eqb-true b 16 e) (record { is = tt; bytes = refl; heard = refl; value = refl }))
    (λ e. record {
      is = tt;
      bytes = ap (λ (l : List ℕ). 16 ∷ 2 ∷ l) (plain-push body b e);
      heard = ap (λ (l : List (Option H)). None ∷ first ∷ l) (ap unheard (plain-push body b e) ∙ unheard-push H (flat_map piece_bytes (pieces_of body)) b);
      value = rw (e, gather-after kind N head body b) refl;
    })

continues-opened_dle : (H : Type 0) (first : Option H) (kind : Check) (N : ℕ) (head body : List ℕ) (b : ℕ) → Continues H first kind N head (OpenedDle body) b (advance_text kind (OpenedDle body) b)
continues-opened_dle H first kind N head body b =
    let P = λ (to : To). Continues H first kind N head (OpenedDle body) b to in
    cond_both (eqb b 3) (On (Closed body [])) _ P
    (λ e3. rw (eqb-true b 3 e3) (record {
      is = check_len-positive kind;
      bytes = sym (append_assoc (opened body) (16 ∷ []) (3 ∷ []));
      heard = sym (append_assoc (opened_heard first body) (None ∷ []) (None ∷ []));
      value = rw (close-after kind N head body) refl;
    }))
    (λ e3. cond_both (eqb b 16) (On (Opened (body ++ 16 ∷ []))) _ P
    (λ e16. rw (eqb-true b 16 e16) (record {
      is = tt;
      bytes = ap (λ (l : List ℕ). 16 ∷ 2 ∷ l) (doubled-push body 16) ∙ sym (append_assoc (opened body) (16 ∷ []) (16 ∷ []));
      heard =
          ap (λ (l : List (Option H)). None ∷ first ∷ l) (ap unheard (doubled-push body 16) ∙ unheard-append H (flat_map piece_bytes (pieces_of body)) (16 ∷ 16 ∷ []))
          ∙ sym (append_assoc (opened_heard first body) (None ∷ []) (None ∷ []));
      value = rw (gather-after kind N head body 16) refl;
    }))
    (λ e16. record {
      is = (eqb-false b 3 e3, eqb-false b 16 e16);
      bytes = refl;
      heard = refl;
      value = rw (e3, e16) refl;
    }))

continues-closed : (H : Type 0) (first : Option H) (kind : Check) (N : ℕ) (head body check : List ℕ) (b : ℕ) → length check < check_len kind → Continues H first kind N head (Closed body check) b (advance_text kind (Closed body check) b)
continues-closed H first kind N head body check b part = cond_both (ltb (length check + 1) (check_len kind)) (On (Closed body (check ++ b ∷ []))) (Whole body (check ++ b ∷ [])) (Continues H first kind N head (Closed body check) b)
    (λ e. record {
      is = omega (arith, length_push check b, ltb-true (length check + 1) (check_len kind) e);
      bytes = sym (append_assoc (opened body) (16 ∷ 3 ∷ check) (b ∷ []));
      heard = rw (unheard-push H check b) (sym (append_assoc (opened_heard first body) (None ∷ None ∷ unheard check) (None ∷ [])));
      value = rw e refl;
    })
    (λ e. record {
      is = omega (arith, length_push check b, ltb-false (length check + 1) (check_len kind) e);
      bytes = sym (append_assoc (opened body) (16 ∷ 3 ∷ check) (b ∷ []));
      heard = λ h. rw (check_heard-push h check b) (sym (append_assoc (opened_heard first body) (None ∷ None ∷ unheard check) (Some h ∷ [])));
      value = rw (e, good-right kind N head body (check ++ b ∷ [])) refl;
    })

pub continues : (H : Type 0) (first : Option H) (kind : Check) (N : ℕ) (head : List ℕ) (text : Text) (b : ℕ) → IsText kind text → Continues H first kind N head text b (advance_text kind text b)
continues H first kind N head (Opened body) b h = continues-opened H first kind N head body b
continues H first kind N head (OpenedDle body) b h = continues-opened_dle H first kind N head body b
continues H first kind N head (Closed body check) b h = continues-closed H first kind N head body check b h

-- ---- lengths

pub length-opened : {H : Type 0} (first : Option H) (body : List ℕ) → length (opened_heard first body) ≡ length (opened body)
length-opened {H = H} first body = ap (λ (n : ℕ). suc (suc n)) (length-unheard H (flat_map piece_bytes (pieces_of body)))

length-behind : {H : Type 0} (first : Option H) (body : List ℕ) (xs : List (Option H)) (ys : List ℕ) → length xs ≡ length ys → length (opened_heard first body ++ xs) ≡ length (opened body ++ ys)
length-behind first body xs ys e = simp length-append (omega (arith, length-opened first body))

pub length-text : {H : Type 0} (first : Option H) (text : Text) → length (text_heard first text) ≡ length (text_bytes text)
length-text first (Opened body) = length-opened first body
length-text first (OpenedDle body) = length-behind first body (None ∷ []) (16 ∷ []) refl
length-text {H = H} first (Closed body check) = length-behind first body (None ∷ None ∷ unheard check) (16 ∷ 3 ∷ check) (ap (λ (n : ℕ). suc (suc n)) (length-unheard H check))

pub length-whole : {H : Type 0} (first : Option H) (body : List ℕ) (h : H) (check : List ℕ) → length (whole_heard first body h check) ≡ length (framed (pieces_of body) check)
length-whole first body h check = length-behind first body (None ∷ None ∷ check_heard h check) (16 ∷ 3 ∷ check) (ap (λ (n : ℕ). suc (suc n)) (length-check_heard h check))

-- ---- one more behind a seam

pub seam : {A : Type 0} (xs ys zs : List A) → (xs ++ (ys ++ zs)) ++ [] ≡ (xs ++ ys) ++ zs
seam xs ys zs = simp (append-nil, append_assoc)

pub more-begins : (codes bytes others : List ℕ) → BeginsWith codes bytes → BeginsWith codes (bytes ++ others)
more-begins [] bytes others h = absurd h
more-begins (code ∷ codes) bytes others (inl h) = inl (h.0 ++ others, rw (h.1) refl)
more-begins (code ∷ codes) bytes others (inr h) = inr (more-begins codes bytes others h)

-- ---- a grammar that carries texts

-- what a front with this text becomes
abbrev pub carried : (G : Grammar) → Machine G → (Text → G.Front) → (List ℕ → List ℕ → G.Item) → (List ℕ → ℕ → Split G) → ℕ → To → Split G
carried G M front whole cut b (On text) = ([], front text)
carried G M front whole cut b (Whole body check) = (whole body check ∷ [], M.start)
carried G M front whole cut b (Cut body) = cut body b

pub record Carries (G : Grammar) (M : Machine G) (kind : Check) : Type 0 where
  pub front : Text → G.Front
  pub whole : List ℕ → List ℕ → G.Item
  pub cut : List ℕ → ℕ → Split G
  pub advances : (text : Text) (b : ℕ) → M.advance (front text) b ≡ carried G M front whole cut b (advance_text kind text b)

-- a text's bytes after DLE STX
abbrev pub tail : Text → List ℕ
tail (Opened body) = flat_map piece_bytes (pieces_of body)
tail (OpenedDle body) = flat_map piece_bytes (pieces_of body) ++ 16 ∷ []
tail (Closed body check) = flat_map piece_bytes (pieces_of body) ++ 16 ∷ 3 ∷ check

pub text-tail : (text : Text) → text_bytes text ≡ 16 ∷ 2 ∷ tail text
text-tail (Opened body) = refl
text-tail (OpenedDle body) = refl
text-tail (Closed body check) = refl

run-on : (G : Grammar) (M : Machine G) (front to : G.Front) (b : ℕ) (rest : List ℕ) → M.advance front b ≡ ([], to) → run G M front (b ∷ rest) ≡ run G M to rest
run-on G M front to b rest e = rw e refl

pub run-body : (G : Grammar) (M : Machine G) (kind : Check) (c : Carries G M kind) (body before rest : List ℕ) → run G M (c.front (Opened before)) (flat_map piece_bytes (pieces_of body) ++ rest) ≡ run G M (c.front (Opened (before ++ body))) rest
run-body G M kind c [] before rest = rw append-nil refl
run-body G M kind c (b ∷ body) before rest =
    let others = flat_map piece_bytes (pieces_of body) in
    cond_both (eqb b 16) Doubled (Plain b) (λ p. run G M (c.front (Opened before)) ((piece_bytes p ++ others) ++ rest) ≡ run G M (c.front (Opened (before ++ b ∷ body))) rest)
    (λ e.
    run-on G M (c.front (Opened before)) (c.front (OpenedDle before)) 16 (16 ∷ (others ++ rest)) (c.advances (Opened before) 16)
    ∙ run-on G M (c.front (OpenedDle before)) (c.front (Opened (before ++ 16 ∷ []))) 16 (others ++ rest) (c.advances (OpenedDle before) 16)
    ∙ run-body G M kind c body (before ++ 16 ∷ []) rest
    ∙ rw (append_assoc before (16 ∷ []) body, eqb-true b 16 e) refl)
    (λ e.
    run-on G M (c.front (Opened before)) (c.front (Opened (before ++ b ∷ []))) b (others ++ rest) (c.advances (Opened before) b ∙ rw e refl)
    ∙ run-body G M kind c body (before ++ b ∷ []) rest
    ∙ rw (append_assoc before (b ∷ []) body) refl)

-- too little of a check
run-part : (G : Grammar) (M : Machine G) (kind : Check) (c : Carries G M kind) (body check before : List ℕ) → length before + length check < check_len kind → run G M (c.front (Closed body before)) check ≡ ([], c.front (Closed body (before ++ check)))
run-part G M kind c body [] before h = rw append-nil refl
run-part G M kind c body (b ∷ more) before h =
    let lt : length before + 1 < check_len kind = omega arith in
    let lt' : length (before ++ b ∷ []) + length more < check_len kind = omega (arith, length_push before b) in
    run-on G M (c.front (Closed body before)) (c.front (Closed body (before ++ b ∷ []))) b more (c.advances (Closed body before) b ∙ rw (lt-ltb (length before + 1) (check_len kind) lt) refl)
    ∙ run-part G M kind c body more (before ++ b ∷ []) lt'
    ∙ rw (append_assoc before (b ∷ []) more) refl

-- a whole check
run-check : (G : Grammar) (M : Machine G) (kind : Check) (c : Carries G M kind) (body check before rest : List ℕ) → 0 < length check → length before + length check ≡ check_len kind → run G M (c.front (Closed body before)) (check ++ rest) ≡ after G (c.whole body (before ++ check) ∷ []) (run G M M.start rest)
run-check G M kind c body [] before rest some h = absurd (omega arith)
run-check G M kind c body (b ∷ []) before rest some h =
    let le : check_len kind ≤ length before + 1 = omega arith in
    let e : M.advance (c.front (Closed body before)) b ≡ (c.whole body (before ++ b ∷ []) ∷ [], M.start) = c.advances (Closed body before) b ∙ rw (le-ltb (length before + 1) (check_len kind) le) refl in
    rw e refl
run-check G M kind c body (b ∷ d ∷ more) before rest some h =
    let lt : length before + 1 < check_len kind = omega arith in
    let e : length (before ++ b ∷ []) + length (d ∷ more) ≡ check_len kind = omega (arith, length_push before b) in
    run-on G M (c.front (Closed body before)) (c.front (Closed body (before ++ b ∷ []))) b ((d ∷ more) ++ rest) (c.advances (Closed body before) b ∙ rw (lt-ltb (length before + 1) (check_len kind) lt) refl)
    ∙ run-check G M kind c body (d ∷ more) (before ++ b ∷ []) rest (omega arith) e
    ∙ rw (append_assoc before (b ∷ []) (d ∷ more)) refl

-- a DLE behind a body
run-dle : (G : Grammar) (M : Machine G) (kind : Check) (c : Carries G M kind) (body rest : List ℕ) → run G M (c.front (Opened [])) (flat_map piece_bytes (pieces_of body) ++ 16 ∷ rest) ≡ run G M (c.front (OpenedDle body)) rest
run-dle G M kind c body rest = run-body G M kind c body [] (16 ∷ rest) ∙ run-on G M (c.front (Opened body)) (c.front (OpenedDle body)) 16 rest (c.advances (Opened body) 16)

-- the end of a body
run-end : (G : Grammar) (M : Machine G) (kind : Check) (c : Carries G M kind) (body rest : List ℕ) → run G M (c.front (Opened [])) (flat_map piece_bytes (pieces_of body) ++ 16 ∷ 3 ∷ rest) ≡ run G M (c.front (Closed body [])) rest
run-end G M kind c body rest = run-dle G M kind c body (3 ∷ rest) ∙ run-on G M (c.front (OpenedDle body)) (c.front (Closed body [])) 3 rest (c.advances (OpenedDle body) 3)

pub run-text : (G : Grammar) (M : Machine G) (kind : Check) (c : Carries G M kind) (text : Text) → IsText kind text → run G M (c.front (Opened [])) (tail text) ≡ ([], c.front text)
run-text G M kind c (Opened body) h = ap (run G M (c.front (Opened []))) (sym (append-nil (flat_map piece_bytes (pieces_of body)))) ∙ run-body G M kind c body [] []
run-text G M kind c (OpenedDle body) h = run-dle G M kind c body []
run-text G M kind c (Closed body check) h = run-end G M kind c body check ∙ run-part G M kind c body check [] (omega arith)

pub run-whole : (G : Grammar) (M : Machine G) (kind : Check) (c : Carries G M kind) (body check rest : List ℕ) → length check ≡ check_len kind → run G M (c.front (Opened [])) (flat_map piece_bytes (pieces_of body) ++ 16 ∷ 3 ∷ (check ++ rest)) ≡ after G (c.whole body check ∷ []) (run G M M.start rest)
run-whole G M kind c body check rest h = run-end G M kind c body (check ++ rest) ∙ run-check G M kind c body check [] rest (omega (arith, check_len-positive kind)) (omega arith)

-- a body that a pair breaks off
pub run-cut : (G : Grammar) (M : Machine G) (kind : Check) (c : Carries G M kind) (body rest : List ℕ) (code : ℕ) → code ≢ 3 → code ≢ 16 → run G M (c.front (Opened [])) (flat_map piece_bytes (pieces_of body) ++ 16 ∷ code ∷ rest) ≡ after G (c.cut body code).0 (run G M (c.cut body code).1 rest)
run-cut G M kind c body rest code not3 not16 =
    let e : M.advance (c.front (OpenedDle body)) code ≡ c.cut body code = c.advances (OpenedDle body) code ∙ rw (ne_eqb code 3 not3, ne_eqb code 16 not16) refl in
    run-dle G M kind c body (code ∷ rest) ∙ rw e refl
