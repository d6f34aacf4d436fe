-- The full-duplex grammar is followed by a step from front to front.
use Rattle.std.proofs.Common.{◌≡◌, ℕ, suc, ◌+◌, ◌<◌, ◌≤◌, false, cond, eqb, ltb, List, [], ◌∷◌, ◌++◌, length, Option, IsSome, Some, None, refl, sym, ap, ◌∙◌, append_assoc, arith, length-append}
use Rattle.std.specs.Prelude.{IfSome}
use Rattle.std.specs.List.{flat_map}
use Rattle.std.proofs.lemmas.List.{append-nil, length_push}
use Rattle.std.proofs.lemmas.List.Concat.{flat_map-append}
use Rattle.std.proofs.lemmas.Bool.{ne_eqb, eqb-true, eqb-false, ltb-true, ltb-false, lt-ltb, le-ltb, cond_both}
use Rattle.df1_frame.specs.declared.heard.Heard.{Heard}
use Rattle.df1_frame.specs.declared.heard.Heard.TheVariants as heard
use Rattle.df1_check.specs.declared.Check.{Check}
use Rattle.df1_check.specs.declared.Check.TheVariants as kinds
use Rattle.df1_check.specs.Checks.{check_value}
use Rattle.df1_frame.specs.Spelling.{Piece, Plain, Doubled, Response, piece_bytes, response, ArePieces, body_of, check_len, check_of, covered, opening, Spells}
use Rattle.df1_frame.specs.Line.{Splits, ReadOff, answers}
use Rattle.df1_frame.specs.Grammar.{Item, Stray, Pair, Frame, Broken, Restart, Front, Nothing, Dle, Opened, OpenedDle, Closed, OpensFrame, frame_heard, check_heard, unheard, item_bytes, front_bytes, IsItem, IsFront, opening_heard, item_heard, front_heard, leaves, full_duplex, good_answers}
use Rattle.df1_frame.specs.Standing.{Outside, Ended, Decoding, ended, ended_by, decoding, is_inside, has_begun, standing, lent, lent_at}
use Rattle.df1_frame.specs.Step.{outside_next, step, next}
use Rattle.df1_frame.proofs.LineLemmas.{Machine, Continues, Works, after, run, Splits-join, heard-join}
use Rattle.df1_frame.proofs.SpellingLemmas.{ArePieces-push, not_response, length-pieces, length-unheard, length-check_heard, check_heard-push, unheard-push, length-check, same-same}
use Rattle.df1_frame.proofs.GatheredLemmas.{gathered-nothing, gather-gathered, close-gathered, verdict-gathered, left_by-gathered}

abbrev pub To : Type 0
To = List Item × Front

abbrev pub respond : List Piece → ℕ → Option Heard → To
respond pieces b None = (Broken pieces b ∷ [], Nothing)
respond pieces b (Some h) = ([], Opened (pieces ++ Response b ∷ []))

-- what a front becomes by one byte: items that are whole now, and a front
abbrev pub advance : Check → Front → ℕ → To
advance kind Nothing b = cond (eqb b 16) ([], Dle) (Stray b ∷ [], Nothing)
advance kind Dle b = cond (eqb b 2) ([], Opened []) (Pair b ∷ [], Nothing)
advance kind (Opened pieces) b = cond (eqb b 16) ([], OpenedDle pieces) ([], Opened (pieces ++ Plain b ∷ []))
advance kind (OpenedDle pieces) b =
    cond (eqb b 2) (Restart pieces ∷ [], Opened [])
    (cond (eqb b 3) ([], Closed pieces [])
    (cond (eqb b 16) ([], Opened (pieces ++ Doubled ∷ [])) (respond pieces b (response b))))
advance kind (Closed pieces check) b =
    cond (ltb (length check + 1) (check_len kind)) ([], Closed pieces (check ++ b ∷ [])) (Frame pieces (check ++ b ∷ []) ∷ [], Nothing)

-- after a restart the bytes open a frame
abbrev Follows : Option Heard → List ℕ → Type 0
Follows at bytes = IfSome at (λ _. OpensFrame bytes)

abbrev pub machine : (kind : Check) (N : ℕ) → Machine (full_duplex kind N)
machine kind N = record { Value = Decoding; value = decoding kind N; next = next N; start = Nothing; advance = advance kind; Follows = Follows }

abbrev Goes : Check → ℕ → Front → ℕ → To → Type 0
Goes kind N front b to = Continues (full_duplex kind N) (machine kind N) front b to

-- ---- a split is what the run makes of its bytes

abbrev Run : Check → ℕ → Front → List ℕ → To
Run kind N front bytes = run (full_duplex kind N) (machine kind N) front bytes

respond_some : (pieces : List Piece) (code : ℕ) (o : Option Heard) → IsSome o → respond pieces code o ≡ ([], Opened (pieces ++ Response code ∷ []))
respond_some pieces code None h = absurd cc
respond_some pieces code (Some x) h = refl

run-pieces : (kind : Check) (N : ℕ) (pieces before : List Piece) (rest : List ℕ) → ArePieces pieces → Run kind N (Opened before) (flat_map piece_bytes pieces ++ rest) ≡ Run kind N (Opened (before ++ pieces)) rest
run-pieces kind N [] before rest h = rw append-nil refl
run-pieces kind N (Plain b ∷ pieces) before rest h =
    rw (ne_eqb b 16 h.0) (run-pieces kind N pieces (before ++ Plain b ∷ []) rest h.1 ∙ rw append_assoc refl)
run-pieces kind N (Doubled ∷ pieces) before rest h = run-pieces kind N pieces (before ++ Doubled ∷ []) rest h.1 ∙ rw append_assoc refl
run-pieces kind N (Response code ∷ pieces) before rest h =
    rw (ne_eqb code 2 (not_response code 2 refl h.0), ne_eqb code 3 (not_response code 3 refl h.0), ne_eqb code 16 (not_response code 16 refl h.0), respond_some before code (response code) h.0)
    (run-pieces kind N pieces (before ++ Response code ∷ []) rest h.1 ∙ rw append_assoc refl)

-- too little of a check
run-part : (kind : Check) (N : ℕ) (pieces : List Piece) (check before : List ℕ) → length before + length check < check_len kind → Run kind N (Closed pieces before) check ≡ ([], Closed pieces (before ++ check))
run-part kind N pieces [] before h = rw append-nil refl
run-part kind N pieces (b ∷ more) before h =
    let lt : length before + 1 < check_len kind = omega arith in
    let lt' : length (before ++ b ∷ []) + length more < check_len kind = omega (arith, length_push before b) in
    rw (lt-ltb (length before + 1) (check_len kind) lt) (run-part kind N pieces more (before ++ b ∷ []) lt' ∙ rw append_assoc refl)

-- a whole check
run-check : (kind : Check) (N : ℕ) (pieces : List Piece) (check before rest : List ℕ) → 0 < length check → length before + length check ≡ check_len kind → Run kind N (Closed pieces before) (check ++ rest) ≡ after (full_duplex kind N) (Frame pieces (before ++ check) ∷ []) (Run kind N Nothing rest)
run-check kind N pieces [] before rest some h = absurd (omega arith)
run-check kind N pieces (b ∷ []) before rest some h =
    let le : check_len kind ≤ length before + 1 = omega arith in
    rw (le-ltb (length before + 1) (check_len kind) le) refl
run-check kind N pieces (b ∷ c ∷ more) before rest some h =
    let lt : length before + 1 < check_len kind = omega arith in
    let e : length (before ++ b ∷ []) + length (c ∷ more) ≡ check_len kind = omega (arith, length_push before b) in
    rw (lt-ltb (length before + 1) (check_len kind) lt) (run-check kind N pieces (c ∷ more) (before ++ b ∷ []) rest (omega arith) e ∙ rw append_assoc refl)

check_len-positive : (kind : Check) → 0 < check_len kind
check_len-positive kinds.Bcc = omega arith
check_len-positive kinds.Crc = omega arith

run-item : (kind : Check) (N : ℕ) (item : Item) (rest : List ℕ) → IsItem kind item rest → Run kind N Nothing (item_bytes item ++ rest) ≡ after (full_duplex kind N) (item ∷ []) (Run kind N Nothing rest)
run-item kind N (Stray b) rest h = rw (ne_eqb b 16 h) refl
run-item kind N (Pair code) rest h = rw (ne_eqb code 2 h) refl
run-item kind N (Frame pieces check) rest h =
    rw (append_assoc (flat_map piece_bytes pieces) (16 ∷ 3 ∷ check) rest)
    (run-pieces kind N pieces [] (16 ∷ 3 ∷ (check ++ rest)) h.0 ∙ run-check kind N pieces check [] rest (omega (arith, check_len-positive kind)) (omega arith))
run-item kind N (Broken pieces code) rest h =
    rw (append_assoc (flat_map piece_bytes pieces) (16 ∷ code ∷ []) rest)
    (run-pieces kind N pieces [] (16 ∷ code ∷ rest) h.0 ∙ rw (ne_eqb code 2 h.1, ne_eqb code 3 h.2, ne_eqb code 16 h.3, h.4) refl)
run-item kind N (Restart pieces) rest h = run-pieces kind N pieces [] rest h.0 ∙ rw (h.1.1) refl

run-front : (kind : Check) (N : ℕ) (front : Front) → IsFront kind front → Run kind N Nothing (front_bytes front) ≡ ([], front)
run-front kind N Nothing h = refl
run-front kind N Dle h = refl
run-front kind N (Opened pieces) h = ap (Run kind N (Opened [])) (sym (append-nil (flat_map piece_bytes pieces))) ∙ run-pieces kind N pieces [] [] h
run-front kind N (OpenedDle pieces) h = run-pieces kind N pieces [] (16 ∷ []) h
run-front kind N (Closed pieces check) h = run-pieces kind N pieces [] (16 ∷ 3 ∷ check) h.0 ∙ run-part kind N pieces check [] (omega arith)

-- ---- one byte more

ended-push : (N : ℕ) (items : List Item) (item : Item) → ended N (items ++ item ∷ []) ≡ ended_by N item
ended-push N [] item = refl
ended-push N (x ∷ []) item = refl
ended-push N (x ∷ y ∷ items) item = ended-push N (y ∷ items) item

pub step-ended : (kind : Check) (N : ℕ) (items : List Item) (b : ℕ) → step kind N (ended N items) b ≡ outside_next b
step-ended kind N [] b = refl
step-ended kind N (Stray x ∷ []) b = refl
step-ended kind N (Pair code ∷ []) b = refl
step-ended kind N (Frame pieces check ∷ []) b = cond_both (ltb N (length (body_of pieces))) Outside (Ended (body_of pieces)) (λ r. step kind N r b ≡ outside_next b) (λ _. refl) (λ _. refl)
step-ended kind N (Broken pieces code ∷ []) b = refl
step-ended kind N (Restart pieces ∷ []) b = refl
step-ended kind N (x ∷ y ∷ items) b = step-ended kind N (y ∷ items) b

no_restart : (at : Option Heard) → Follows at (16 ∷ []) → at ≡ None
no_restart None h = refl
no_restart (Some x) h = absurd (let e : 16 ∷ [] ≡ 16 ∷ 2 ∷ h.0 = h.1 in cc)

follows_nothing : (at : Option Heard) → Follows at [] → at ≡ None
follows_nothing None h = refl
follows_nothing (Some x) h = absurd (let e : [] ≡ 16 ∷ 2 ∷ h.0 = h.1 in cc)

seam : {A : Type 0} (xs ys zs : List A) → (xs ++ (ys ++ zs)) ++ [] ≡ (xs ++ ys) ++ zs
seam xs ys zs = simp (append-nil, append_assoc)

goes-nothing : (kind : Check) (N b : ℕ) → Goes kind N Nothing b (advance kind Nothing b)
goes-nothing kind N b = cond_both (eqb b 16) ([], Dle) (Stray b ∷ [], Nothing) (Goes kind N Nothing b)
    (λ e. rw (eqb-true b 16 e) (record {
      items = tt;
      bytes = refl;
      heard = λ before at f. rw (step-ended kind N before 16) refl;
      value = λ before. rw (step-ended kind N before 16) refl;
    }))
    (λ e. record {
      items = (eqb-false b 16 e, tt);
      bytes = refl;
      heard = λ before at f. rw (step-ended kind N before b, e) refl;
      value = λ before. rw (step-ended kind N before b, e, ended-push N before (Stray b)) refl;
    })

goes-dle : (kind : Check) (N b : ℕ) → Goes kind N Dle b (advance kind Dle b)
goes-dle kind N b = cond_both (eqb b 2) ([], Opened []) (Pair b ∷ [], Nothing) (Goes kind N Dle b)
    (λ e. rw (eqb-true b 2 e) (record {
      items = tt;
      bytes = refl;
      heard = λ before at f. rw (no_restart at f) refl;
      value = λ before. rw (gathered-nothing kind N) refl;
    }))
    (λ e. record {
      items = (eqb-false b 2 e, tt);
      bytes = refl;
      heard = λ before at f. rw e refl;
      value = λ before. rw (e, ended-push N before (Pair b)) refl;
    })

goes-opened : (kind : Check) (N b : ℕ) (pieces : List Piece) → ArePieces pieces → Goes kind N (Opened pieces) b (advance kind (Opened pieces) b)
goes-opened kind N b pieces h = cond_both (eqb b 16) ([], OpenedDle pieces) ([], Opened (pieces ++ Plain b ∷ [])) (Goes kind N (Opened pieces) b)
    (λ e. rw (eqb-true b 16 e) (record {
      items = h;
      bytes = refl;
      heard = λ before at f. refl;
      value = λ before. refl;
    }))
    (λ e. record {
      items = ArePieces-push pieces (Plain b) h (eqb-false b 16 e);
      bytes = rw flat_map-append refl;
      heard = λ before at f. rw (e, flat_map-append) refl;
      value = λ before. rw (e, gather-gathered, flat_map-append) refl;
    })

-- the second byte of a pair within a frame that is none of 2, 3 and 16
goes-respond : (kind : Check) (N b : ℕ) (pieces : List Piece) → ArePieces pieces → eqb b 2 ≡ false → eqb b 3 ≡ false → eqb b 16 ≡ false → (o : Option Heard) → response b ≡ o → Goes kind N (OpenedDle pieces) b (respond pieces b o)
goes-respond kind N b pieces h e2 e3 e16 None r = record {
  items = ((h, eqb-false b 2 e2, eqb-false b 3 e3, eqb-false b 16 e16, r), tt);
  bytes = simp (append-nil, append_assoc);
  heard = λ before at f. rw (e2, e3, e16, r) (seam (opening_heard at pieces) (None ∷ []) (Some (heard.Broken b) ∷ []));
  value = λ before. rw (e2, e3, e16, r, ended-push N before (Broken pieces b)) refl;
}
goes-respond kind N b pieces h e2 e3 e16 (Some x) r = record {
  items = ArePieces-push pieces (Response b) h (rw r refl);
  bytes = simp (flat_map-append, append_assoc);
  heard = λ before at f. rw (e2, e3, e16, r) (simp (flat_map-append, r) (sym (append_assoc (opening_heard at pieces) (None ∷ []) (Some x ∷ []))));
  value = λ before. rw (e2, e3, e16, r) (simp (flat_map-append, append-nil));
}

goes-opened_dle : (kind : Check) (N b : ℕ) (pieces : List Piece) → ArePieces pieces → Goes kind N (OpenedDle pieces) b (advance kind (OpenedDle pieces) b)
goes-opened_dle kind N b pieces h =
    let P = λ (to : To). Goes kind N (OpenedDle pieces) b to in
    cond_both (eqb b 2) (Restart pieces ∷ [], Opened []) _ P
    (λ e2. rw (eqb-true b 2 e2) (record {
      items = ((h, ([], refl)), tt);
      bytes = simp append_assoc;
      heard = λ before at f. simp append_assoc;
      value = λ before. rw (gathered-nothing kind N) refl;
    }))
    (λ e2. cond_both (eqb b 3) ([], Closed pieces []) _ P
    (λ e3. rw (eqb-true b 3 e3) (record {
      items = (h, check_len-positive kind);
      bytes = simp append_assoc;
      heard = λ before at f. simp append_assoc;
      value = λ before. rw (close-gathered kind N (body_of pieces)) refl;
    }))
    (λ e3. cond_both (eqb b 16) ([], Opened (pieces ++ Doubled ∷ [])) _ P
    (λ e16. rw (eqb-true b 16 e16) (record {
      items = ArePieces-push pieces Doubled h tt;
      bytes = simp (flat_map-append, append_assoc);
      heard = λ before at f. simp (flat_map-append, append_assoc);
      value = λ before. rw (gather-gathered, flat_map-append) refl;
    }))
    (λ e16. goes-respond kind N b pieces h e2 e3 e16 (response b) refl)))

goes-closed : (kind : Check) (N b : ℕ) (pieces : List Piece) (check : List ℕ) → ArePieces pieces → length check < check_len kind → Goes kind N (Closed pieces check) b (advance kind (Closed pieces check) b)
goes-closed kind N b pieces check h part = cond_both (ltb (length check + 1) (check_len kind)) ([], Closed pieces (check ++ b ∷ [])) (Frame pieces (check ++ b ∷ []) ∷ [], Nothing) (Goes kind N (Closed pieces check) b)
    (λ e. record {
      items = (h, omega (arith, length_push check b, ltb-true (length check + 1) (check_len kind) e));
      bytes = sym (append_assoc (opening pieces) (16 ∷ 3 ∷ check) (b ∷ []));
      heard = λ before at f. rw (e, unheard-push Heard check b) (sym (append_assoc (opening_heard at pieces) (None ∷ None ∷ unheard check) (None ∷ [])));
      value = λ before. rw e refl;
    })
    (λ e. record {
      items = ((h, omega (arith, length_push check b, ltb-false (length check + 1) (check_len kind) e)), tt);
      bytes = seam (opening pieces) (16 ∷ 3 ∷ check) (b ∷ []);
      heard = λ before at f. rw (e, verdict-gathered, check_heard-push) (seam (opening_heard at pieces) (None ∷ None ∷ unheard check) (Some (frame_heard kind N (body_of pieces) (check ++ b ∷ [])) ∷ []));
      value = λ before. rw (e, left_by-gathered, ended-push N before (Frame pieces (check ++ b ∷ []))) refl;
    })

goes : (kind : Check) (N : ℕ) (front : Front) (b : ℕ) → IsFront kind front → Goes kind N front b (advance kind front b)
goes kind N Nothing b h = goes-nothing kind N b
goes kind N Dle b h = goes-dle kind N b
goes kind N (Opened pieces) b h = goes-opened kind N b pieces h
goes kind N (OpenedDle pieces) b h = goes-opened_dle kind N b pieces h
goes kind N (Closed pieces check) b h = goes-closed kind N b pieces check h.0 h.1

-- ---- the laws that Works asks for

more : (kind : Check) (item : Item) (bytes others : List ℕ) → IsItem kind item bytes → IsItem kind item (bytes ++ others)
more kind (Stray x) bytes others h = h
more kind (Pair code) bytes others h = h
more kind (Frame pieces check) bytes others h = h
more kind (Broken pieces code) bytes others h = h
more kind (Restart pieces) bytes others h = (h.0, (h.1.0 ++ others, rw h.1.1 refl))

follows : (kind : Check) (item : Item) (bytes : List ℕ) → IsItem kind item bytes → Follows (leaves item) bytes
follows kind (Stray x) bytes h = tt
follows kind (Pair code) bytes h = tt
follows kind (Frame pieces check) bytes h = tt
follows kind (Broken pieces code) bytes h = tt
follows kind (Restart pieces) bytes h = h.1

length-opening : (at : Option Heard) (pieces : List Piece) (xs : List (Option Heard)) (ys : List ℕ) → length xs ≡ length ys → length (opening_heard at pieces ++ xs) ≡ length (opening pieces ++ ys)
length-opening at pieces xs ys e = simp length-append (omega (arith, length-pieces pieces))

length-item : (kind : Check) (N : ℕ) (at : Option Heard) (item : Item) → length (item_heard kind N at item) ≡ length (item_bytes item)
length-item kind N at (Stray b) = refl
length-item kind N at (Pair code) = refl
length-item kind N at (Frame pieces check) =
    let h = frame_heard kind N (body_of pieces) check in
    length-opening at pieces (None ∷ None ∷ check_heard h check) (16 ∷ 3 ∷ check) (ap (λ (n : ℕ). suc (suc n)) (length-check_heard h check))
length-item kind N at (Broken pieces code) = length-opening at pieces (None ∷ Some (heard.Broken code) ∷ []) (16 ∷ code ∷ []) refl
length-item kind N at (Restart pieces) = ap (λ (n : ℕ). suc (suc n)) (length-pieces pieces)

length-front : (at : Option Heard) (front : Front) → length (front_heard at front) ≡ length (front_bytes front)
length-front at Nothing = refl
length-front at Dle = refl
length-front at (Opened pieces) = ap (λ (n : ℕ). suc (suc n)) (length-pieces pieces)
length-front at (OpenedDle pieces) = length-opening at pieces (None ∷ []) (16 ∷ []) refl
length-front at (Closed pieces check) = length-opening at pieces (None ∷ None ∷ unheard check) (16 ∷ 3 ∷ check) (ap (λ (n : ℕ). suc (suc n)) (length-unheard Heard check))

pub works : (kind : Check) (N : ℕ) → Works (full_duplex kind N) (machine kind N)
works kind N = record {
  start_bytes = refl;
  start_is = tt;
  start_heard = λ _. refl;
  more = more kind;
  follows_nothing = follows_nothing;
  follows_none = λ _. tt;
  follows_item = follows kind;
  continues = goes kind N;
  run_item = run-item kind N;
  run_front = run-front kind N;
  length_item = λ at item _ _. length-item kind N at item;
  length_front = length-front;
}

-- ---- a frame behind whole items

frame_good : (kind : Check) (N : ℕ) (body : List ℕ) → 6 ≤ length body → length body ≤ N → frame_heard kind N body (check_of kind body) ≡ heard.Good
frame_good kind N body least most = rw (le-ltb N (length body) most, same-same (check_of kind body), le-ltb (length body) 6 least) refl

Splits-frame : (kind : Check) (N : ℕ) (pieces : List Piece) (body bytes : List ℕ) → Spells kind pieces body bytes → Splits (full_duplex kind N) bytes (Frame pieces (check_of kind body) ∷ []) Nothing
Splits-frame kind N pieces body bytes p = record { whole = p.spelled ∙ sym (append-nil (item_bytes (Frame pieces (check_of kind body)))); each = ((p.each, length-check kind (check_value kind (covered kind body))), tt) }

pub good-heard : (kind : Check) (N : ℕ) (l body bytes : List ℕ) (items : List Item) (pieces : List Piece) → Splits (full_duplex kind N) l items Nothing → Spells kind pieces body bytes → 6 ≤ length body → length body ≤ N → ReadOff (full_duplex kind N) (l ++ bytes) (answers (full_duplex kind N)) (answers (full_duplex kind N) items Nothing ++ good_answers kind pieces)
good-heard kind N l body bytes items pieces s p least most =
    let frame = Frame pieces (check_of kind body) in
    let good : answers (full_duplex kind N) (frame ∷ []) Nothing ≡ good_answers kind pieces =
    rw (append-nil, p.carries, frame_good kind N body least most) refl in
    let all = heard-join (full_duplex kind N) (machine kind N) (works kind N) l bytes items (frame ∷ []) Nothing s (Splits-frame kind N pieces body bytes p) in
    rw good at all

pub good-lent : (kind : Check) (N : ℕ) (l body bytes : List ℕ) (items : List Item) (pieces : List Piece) → Splits (full_duplex kind N) l items Nothing → Spells kind pieces body bytes → length body ≤ N → ReadOff (full_duplex kind N) (l ++ bytes) (lent kind N) body
good-lent kind N l body bytes items pieces s p most =
    let frame = Frame pieces (check_of kind body) in
    record {
      items = items ++ frame ∷ [];
      front = Nothing;
      splits = Splits-join (full_duplex kind N) (machine kind N) (works kind N) l bytes items (frame ∷ []) Nothing s (Splits-frame kind N pieces body bytes p);
      is = sym (ap lent_at (ended-push N items frame) ∙ rw (p.carries, le-ltb N (length body) most) refl);
    }

-- ---- inside a frame

not_inside-ended : (N : ℕ) (items : List Item) → is_inside (ended N items) ≡ false
not_inside-ended N [] = refl
not_inside-ended N (Stray x ∷ []) = refl
not_inside-ended N (Pair code ∷ []) = refl
not_inside-ended N (Frame pieces check ∷ []) = cond_both (ltb N (length (body_of pieces))) Outside (Ended (body_of pieces)) (λ s. is_inside s ≡ false) (λ _. refl) (λ _. refl)
not_inside-ended N (Broken pieces code ∷ []) = refl
not_inside-ended N (Restart pieces ∷ []) = refl
not_inside-ended N (x ∷ y ∷ items) = not_inside-ended N (y ∷ items)

pub is_inside-standing : (kind : Check) (N : ℕ) (items : List Item) (front : Front) → is_inside (standing kind N items front) ≡ has_begun items front
is_inside-standing kind N items Nothing = not_inside-ended N items
is_inside-standing kind N items Dle = refl
is_inside-standing kind N items (Opened pieces) = refl
is_inside-standing kind N items (OpenedDle pieces) = refl
is_inside-standing kind N items (Closed pieces bytes) = refl
