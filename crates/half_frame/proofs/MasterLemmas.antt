-- The grammar of what the master hears is followed by a step from front to front.
use Rattle.std.proofs.Common.{◌≡◌, ℕ, ◌+◌, ◌≤◌, false, cond, eqb, List, [], ◌∷◌, ◌++◌, length, Option, Some, None, refl, sym, ap, ◌∙◌, append_assoc, arith, inl, inr, length-append}
use Rattle.std.specs.Prelude.{IfSome}
use Rattle.std.specs.List.{flat_map}
use Rattle.std.proofs.lemmas.List.{append-nil}
use Rattle.std.proofs.lemmas.Bool.{ne_eqb, eqb-true, eqb-false, cond_both}
use Rattle.df1_check.specs.declared.Check.{Check}
use Rattle.df1_frame.specs.Spelling.{piece_bytes, pieces_of, covered, check_of, framed}
use Rattle.df1_check.specs.Checks.{check_value}
use Rattle.df1_frame.proofs.SpellingLemmas.{length-check}
use Rattle.df1_frame.proofs.LineLemmas.{Machine, Continues, Works, after, run}
use Rattle.half_frame.specs.declared.heard.MasterHeard.{MasterHeard}
use Rattle.half_frame.specs.declared.heard.MasterHeard.TheVariants as heard
use Rattle.half_frame.specs.Text.{Text, Opened, BeginsWith, is_right, opened, opened_heard}
use Rattle.half_frame.specs.MasterGrammar.{Item, Stray, Pair, Message, Broken, CutOff, Front, Nothing, Dle, InText, item_bytes, front_bytes, item_heard, front_heard, message_heard, reply_answers, beginnings, IsItem, IsFront, leaves, master_hears}
use Rattle.half_frame.specs.MasterStanding.{Outside, Ended, Listening, ended, ended_by, listening, standing, is_inside, has_begun, lent, lent_at}
use Rattle.half_frame.specs.MasterStep.{outside_next, step, next}
use Rattle.half_frame.proofs.TextLemmas.{To, On, Whole, Cut, advance_text, Continues as TextContinues, continues, more-begins, seam, own-right, right-bytes, within-begun, Carries, carried, text-tail, run-text, run-whole, run-cut, length-text, length-whole, length-opened}

abbrev pub Split : Type 0
Split = List Item × Front

-- a pair that doesn't go on with a text
abbrev pub cut : List ℕ → ℕ → Split
cut body b = cond (eqb b 2) (CutOff body ∷ [], InText (Opened [])) (Broken body b ∷ [], Nothing)

abbrev pub on_text : ℕ → To → Split
on_text b (On text) = ([], InText text)
on_text b (Whole body check) = (Message body check ∷ [], Nothing)
on_text b (Cut body) = cut body b

-- what a front becomes by one byte: items that are whole now, and a front
abbrev advance : Check → Front → ℕ → Split
advance kind Nothing b = cond (eqb b 16) ([], Dle) (Stray b ∷ [], Nothing)
advance kind Dle b = cond (eqb b 2) ([], InText (Opened [])) (Pair b ∷ [], Nothing)
advance kind (InText text) b = on_text b (advance_text kind text b)

-- after a message that was cut off the bytes begin the next
abbrev Follows : Option MasterHeard → List ℕ → Type 0
Follows at bytes = IfSome at (λ _. BeginsWith beginnings bytes)

abbrev pub machine : (kind : Check) (N : ℕ) → Machine (master_hears kind N)
machine kind N = record { Value = Listening; value = listening kind N; next = next N; start = Nothing; advance = advance kind; Follows = Follows }

abbrev Goes : Check → ℕ → Front → ℕ → Split → Type 0
Goes kind N front b to = Continues (master_hears kind N) (machine kind N) front b to

-- ---- a split is what the run makes of its bytes

on_text-carried : (kind : Check) (N b : ℕ) (to : To) → on_text b to ≡ carried (master_hears kind N) (machine kind N) InText Message cut b to
on_text-carried kind N b (On text) = refl
on_text-carried kind N b (Whole body check) = refl
on_text-carried kind N b (Cut body) = refl

abbrev carries : (kind : Check) (N : ℕ) → Carries (master_hears kind N) (machine kind N) kind
carries kind N = record { front = InText; whole = Message; cut = cut; advances = λ text b. on_text-carried kind N b (advance_text kind text b) }

abbrev Run : Check → ℕ → Front → List ℕ → Split
Run kind N front bytes = run (master_hears kind N) (machine kind N) front bytes

run-cut_off : (kind : Check) (N : ℕ) (body rest : List ℕ) → BeginsWith beginnings rest → Run kind N Nothing (opened body ++ rest) ≡ after (master_hears kind N) (CutOff body ∷ []) (Run kind N Nothing rest)
run-cut_off kind N body rest (inl h) = rw (h.1) (run-cut (master_hears kind N) (machine kind N) kind (carries kind N) body h.0 2 (omega arith) (omega arith))
run-cut_off kind N body rest (inr h) = absurd h

run-item : (kind : Check) (N : ℕ) (item : Item) (rest : List ℕ) → IsItem kind item rest → Run kind N Nothing (item_bytes item ++ rest) ≡ after (master_hears kind N) (item ∷ []) (Run kind N Nothing rest)
run-item kind N (Stray b) rest h = rw (ne_eqb b 16 h) refl
run-item kind N (Pair code) rest h = rw (ne_eqb code 2 h) refl
run-item kind N (Message body check) rest h =
    rw (append_assoc (flat_map piece_bytes (pieces_of body)) (16 ∷ 3 ∷ check) rest)
    (run-whole (master_hears kind N) (machine kind N) kind (carries kind N) body check rest h)
run-item kind N (Broken body code) rest h =
    rw (append_assoc (flat_map piece_bytes (pieces_of body)) (16 ∷ code ∷ []) rest)
    (run-cut (master_hears kind N) (machine kind N) kind (carries kind N) body rest code h.0 h.1 ∙ rw (ne_eqb code 2 h.2) refl)
run-item kind N (CutOff body) rest h = run-cut_off kind N body rest h

run-front : (kind : Check) (N : ℕ) (front : Front) → IsFront kind front → Run kind N Nothing (front_bytes front) ≡ ([], front)
run-front kind N Nothing h = refl
run-front kind N Dle h = refl
run-front kind N (InText text) h = rw (text-tail text) (run-text (master_hears kind N) (machine kind N) kind (carries kind N) text h)

-- ---- one byte more

ended-push : (kind : Check) (N : ℕ) (items : List Item) (item : Item) → ended kind N (items ++ item ∷ []) ≡ ended_by kind N item
ended-push kind N [] item = refl
ended-push kind N (x ∷ []) item = refl
ended-push kind N (x ∷ y ∷ items) item = ended-push kind N (y ∷ items) item

pub step-ended : (kind : Check) (N : ℕ) (items : List Item) (b : ℕ) → step kind N (ended kind N items) b ≡ outside_next b
step-ended kind N [] b = refl
step-ended kind N (Stray x ∷ []) b = refl
step-ended kind N (Pair code ∷ []) b = refl
step-ended kind N (Message body check ∷ []) b = cond_both (is_right kind N [] body check) (Ended body) Outside (λ s. step kind N s b ≡ outside_next b) (λ _. refl) (λ _. refl)
step-ended kind N (Broken body code ∷ []) b = refl
step-ended kind N (CutOff body ∷ []) b = refl
step-ended kind N (x ∷ y ∷ items) b = step-ended kind N (y ∷ items) b

not_cut : (at : Option MasterHeard) → Follows at (16 ∷ []) → at ≡ None
not_cut None h = refl
not_cut (Some x) (inl h) = absurd (let e : 16 ∷ [] ≡ 16 ∷ 2 ∷ h.0 = h.1 in cc)
not_cut (Some x) (inr h) = absurd h

follows_nothing : (at : Option MasterHeard) → Follows at [] → at ≡ None
follows_nothing None h = refl
follows_nothing (Some x) (inl h) = absurd (let e : [] ≡ 16 ∷ 2 ∷ h.0 = h.1 in cc)
follows_nothing (Some x) (inr h) = absurd h

goes-nothing : (kind : Check) (N b : ℕ) → Goes kind N Nothing b (advance kind Nothing b)
goes-nothing kind N b = cond_both (eqb b 16) ([], Dle) (Stray b ∷ [], Nothing) (Goes kind N Nothing b)
    (λ e. rw (eqb-true b 16 e) (record {
      items = tt;
      bytes = refl;
      heard = λ before at f. rw (step-ended kind N before 16) refl;
      value = λ before. rw (step-ended kind N before 16) refl;
    }))
    (λ e. record {
      items = (eqb-false b 16 e, tt);
      bytes = refl;
      heard = λ before at f. rw (step-ended kind N before b, e) refl;
      value = λ before. rw (step-ended kind N before b, e, ended-push kind N before (Stray b)) refl;
    })

goes-dle : (kind : Check) (N b : ℕ) → Goes kind N Dle b (advance kind Dle b)
goes-dle kind N b = cond_both (eqb b 2) ([], InText (Opened [])) (Pair b ∷ [], Nothing) (Goes kind N Dle b)
    (λ e. rw (eqb-true b 2 e) (record {
      items = tt;
      bytes = refl;
      heard = λ before at f. rw (not_cut at f) refl;
      value = λ before. rw (within-begun kind N []) refl;
    }))
    (λ e. record {
      items = (eqb-false b 2 e, tt);
      bytes = refl;
      heard = λ before at f. rw e refl;
      value = λ before. rw (e, ended-push kind N before (Pair b)) refl;
    })

goes-text : (kind : Check) (N : ℕ) (text : Text) (b : ℕ) (to : To) → ((at : Option MasterHeard) → TextContinues MasterHeard at kind N [] text b to) → Goes kind N (InText text) b (on_text b to)
goes-text kind N text b (On more) c =
    let any = c None in
    record {
      items = any.is;
      bytes = any.bytes;
      heard = λ before at f. let one = c at in rw one.value one.heard;
      value = λ before. rw any.value refl;
    }
goes-text kind N text b (Whole body check) c =
    let any = c None in
    record {
      items = (any.is, tt);
      bytes = append-nil (framed (pieces_of body) check) ∙ any.bytes;
      heard = λ before at f. let one = c at in rw (one.value, append-nil) (one.heard (message_heard kind N body check));
      value = λ before. rw (any.value, ended-push kind N before (Message body check), right-bytes kind N [] body check Ended Outside) refl;
    }
goes-text kind N text b (Cut body) c =
    let any = c None in
    cond_both (eqb b 2) (CutOff body ∷ [], InText (Opened [])) (Broken body b ∷ [], Nothing) (Goes kind N (InText text) b)
    (λ e. record {
      items = (inl ([], refl), tt);
      bytes = rw (any.bytes, eqb-true b 2 e) (sym (append_assoc (opened body) (16 ∷ []) (2 ∷ [])));
      heard = λ before at f. let one = c at in rw (one.heard, one.value) (sym (append_assoc (opened_heard at body) (None ∷ []) (Some heard.Damaged ∷ [])));
      value = λ before. rw (any.value, e, within-begun kind N []) refl;
    })
    (λ e. record {
      items = ((any.is.0, any.is.1, eqb-false b 2 e), tt);
      bytes = rw any.bytes (seam (opened body) (16 ∷ []) (b ∷ []));
      heard = λ before at f. let one = c at in rw (one.heard, one.value) (seam (opened_heard at body) (None ∷ []) (Some heard.Damaged ∷ []));
      value = λ before. rw (any.value, e, ended-push kind N before (Broken body b)) refl;
    })

goes : (kind : Check) (N : ℕ) (front : Front) (b : ℕ) → IsFront kind front → Goes kind N front b (advance kind front b)
goes kind N Nothing b h = goes-nothing kind N b
goes kind N Dle b h = goes-dle kind N b
goes kind N (InText text) b h = goes-text kind N text b (advance_text kind text b) (λ at. continues MasterHeard at kind N [] text b h)

-- ---- the laws that Works asks for

more : (kind : Check) (item : Item) (bytes others : List ℕ) → IsItem kind item bytes → IsItem kind item (bytes ++ others)
more kind (Stray x) bytes others h = h
more kind (Pair code) bytes others h = h
more kind (Message body check) bytes others h = h
more kind (Broken body code) bytes others h = h
more kind (CutOff body) bytes others h = more-begins beginnings bytes others h

follows : (kind : Check) (item : Item) (bytes : List ℕ) → IsItem kind item bytes → Follows (leaves item) bytes
follows kind (Stray x) bytes h = tt
follows kind (Pair code) bytes h = tt
follows kind (Message body check) bytes h = tt
follows kind (Broken body code) bytes h = tt
follows kind (CutOff body) bytes h = h

length-item : (kind : Check) (N : ℕ) (at : Option MasterHeard) (item : Item) → length (item_heard kind N at item) ≡ length (item_bytes item)
length-item kind N at (Stray b) = refl
length-item kind N at (Pair code) = refl
length-item kind N at (Message body check) = length-whole at body (message_heard kind N body check) check
length-item kind N at (Broken body code) = simp length-append (ap (λ (n : ℕ). n + 2) (length-opened at body))
length-item kind N at (CutOff body) = length-opened at body

length-front : (at : Option MasterHeard) (front : Front) → length (front_heard at front) ≡ length (front_bytes front)
length-front at Nothing = refl
length-front at Dle = refl
length-front at (InText text) = length-text at text

pub works : (kind : Check) (N : ℕ) → Works (master_hears kind N) (machine kind N)
works kind N = record {
  start_bytes = refl;
  start_is = tt;
  start_heard = λ _. refl;
  more = more kind;
  follows_nothing = follows_nothing;
  follows_none = λ _. tt;
  follows_item = follows kind;
  continues = goes kind N;
  run_item = run-item kind N;
  run_front = run-front kind N;
  length_item = λ at item _ _. length-item kind N at item;
  length_front = length-front;
}

-- ---- inside a message

not_inside-ended : (kind : Check) (N : ℕ) (items : List Item) → is_inside (ended kind N items) ≡ false
not_inside-ended kind N [] = refl
not_inside-ended kind N (Stray x ∷ []) = refl
not_inside-ended kind N (Pair code ∷ []) = refl
not_inside-ended kind N (Message body check ∷ []) = cond_both (is_right kind N [] body check) (Ended body) Outside (λ s. is_inside s ≡ false) (λ _. refl) (λ _. refl)
not_inside-ended kind N (Broken body code ∷ []) = refl
not_inside-ended kind N (CutOff body ∷ []) = refl
not_inside-ended kind N (x ∷ y ∷ items) = not_inside-ended kind N (y ∷ items)

pub is_inside-standing : (kind : Check) (N : ℕ) (items : List Item) (front : Front) → is_inside (standing kind N items front) ≡ has_begun items front
is_inside-standing kind N items Nothing = not_inside-ended kind N items
is_inside-standing kind N items Dle = refl
is_inside-standing kind N items (InText text) = refl

-- ---- right messages

-- a slave's message with its own check
abbrev pub reply : Check → List ℕ → Item
reply kind body = Message body (check_of kind body)

pub reply_is : (kind : Check) (body : List ℕ) → IsItem kind (reply kind body) []
reply_is kind body = length-check kind (check_value kind (covered kind body))

pub reply_right : (kind : Check) (N : ℕ) (body : List ℕ) → 6 ≤ length body → length body ≤ N → item_heard kind N None (reply kind body) ≡ reply_answers kind body
reply_right kind N body least most = rw (own-right kind N [] body least most) refl

pub reply_lent : (kind : Check) (N : ℕ) (body : List ℕ) (items : List Item) → 6 ≤ length body → length body ≤ N → body ≡ lent kind N (items ++ reply kind body ∷ []) Nothing
reply_lent kind N body items least most = sym (ap lent_at (ended-push kind N items (reply kind body)) ∙ rw (own-right kind N [] body least most) refl)
