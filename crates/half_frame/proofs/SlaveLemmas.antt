-- The grammar of what a slave hears is followed by a step from front to front.
use Rattle.std.proofs.Common.{◌≡◌, ℕ, suc, ◌+◌, ◌≤◌, false, cond, eqb, List, [], ◌∷◌, ◌++◌, length, Option, Some, None, refl, sym, ap, ◌∙◌, append_assoc, arith, inl, inr, length-append}
use Rattle.std.specs.Prelude.{IfSome}
use Rattle.std.specs.List.{flat_map}
use Rattle.std.proofs.lemmas.List.{append-nil}
use Rattle.std.proofs.lemmas.Bool.{ne_eqb, eq-eqb, eqb-true, eqb-false, cond_both}
use Rattle.df1_check.specs.declared.Check.{Check}
use Rattle.df1_frame.specs.Spelling.{piece_bytes, pieces_of, covered, check_of, framed}
use Rattle.df1_check.specs.Checks.{bcc, check_value}
use Rattle.df1_frame.proofs.SpellingLemmas.{length-check}
use Rattle.df1_frame.proofs.LineLemmas.{Machine, Continues, Works, after, run}
use Rattle.half_frame.specs.declared.heard.SlaveHeard.{SlaveHeard}
use Rattle.half_frame.specs.declared.heard.SlaveHeard.TheVariants as heard
use Rattle.half_frame.specs.Spelling.{station_head}
use Rattle.half_frame.specs.Text.{Text, Opened, BeginsWith, is_right}
use Rattle.half_frame.specs.SlaveGrammar.{Begun, Station, Body, Item, Stray, Pair, Poll, Message, NoText, Broken, CutOff, Front, Nothing, Dle, Soh, Enq, Polled, Headed, HeadedDle, InText, begun_bytes, begun_heard, damaged, item_bytes, front_bytes, item_heard, front_heard, message_heard, poll_answers, message_answers, beginnings, BreaksOff, IsItem, IsFront, leaves, slave_hears}
use Rattle.half_frame.specs.SlaveStanding.{Outside, Ended, Listening, ended, ended_by, listening, standing, is_inside, has_begun, lent, lent_at}
use Rattle.half_frame.specs.SlaveStep.{outside_next, begun_by, step, next}
use Rattle.half_frame.proofs.TextLemmas.{To, On, Whole, Cut, advance_text, Continues as TextContinues, continues, more-begins, seam, own-right, right-bytes, within-begun, Carries, carried, text-tail, run-text, run-whole, run-cut, length-text, length-whole, length-opened}

abbrev pub Split : Type 0
Split = List Item × Front

-- a pair that doesn't go on with what has begun
abbrev pub cut : Begun → ℕ → Split
cut begun b = cond (eqb b 1) (CutOff begun ∷ [], Soh) (cond (eqb b 5) (CutOff begun ∷ [], Enq) (Broken begun b ∷ [], Nothing))

abbrev pub on_text : ℕ → ℕ → To → Split
on_text stn b (On text) = ([], InText stn text)
on_text stn b (Whole body check) = (Message stn body check ∷ [], Nothing)
on_text stn b (Cut body) = cut (Body stn body) b

-- what a front becomes by one byte: items that are whole now, and a front
abbrev advance : Check → Front → ℕ → Split
advance kind Nothing b = cond (eqb b 16) ([], Dle) (Stray b ∷ [], Nothing)
advance kind Dle b = cond (eqb b 1) ([], Soh) (cond (eqb b 5) ([], Enq) (Pair b ∷ [], Nothing))
advance kind Soh b = ([], Headed b)
advance kind Enq b = ([], Polled b)
advance kind (Polled stn) b = (Poll stn b ∷ [], Nothing)
advance kind (Headed stn) b = cond (eqb b 16) ([], HeadedDle stn) (NoText stn b ∷ [], Nothing)
advance kind (HeadedDle stn) b = cond (eqb b 2) ([], InText stn (Opened [])) (cut (Station stn) b)
advance kind (InText stn text) b = on_text stn b (advance_text kind text b)

-- after a message that was cut off the bytes begin an item
abbrev Follows : Option SlaveHeard → List ℕ → Type 0
Follows at bytes = IfSome at (λ _. BeginsWith beginnings bytes)

abbrev pub machine : (kind : Check) (N : ℕ) → Machine (slave_hears kind N)
machine kind N = record { Value = Listening; value = listening kind N; next = next N; start = Nothing; advance = advance kind; Follows = Follows }

abbrev Goes : Check → ℕ → Front → ℕ → Split → Type 0
Goes kind N front b to = Continues (slave_hears kind N) (machine kind N) front b to

-- ---- a split is what the run makes of its bytes

on_text-carried : (kind : Check) (N stn b : ℕ) (to : To) → on_text stn b to ≡ carried (slave_hears kind N) (machine kind N) (InText stn) (Message stn) (λ body code. cut (Body stn body) code) b to
on_text-carried kind N stn b (On text) = refl
on_text-carried kind N stn b (Whole body check) = refl
on_text-carried kind N stn b (Cut body) = refl

abbrev carries : (kind : Check) (N stn : ℕ) → Carries (slave_hears kind N) (machine kind N) kind
carries kind N stn = record { front = InText stn; whole = Message stn; cut = λ body code. cut (Body stn body) code; advances = λ text b. on_text-carried kind N stn b (advance_text kind text b) }

abbrev Run : Check → ℕ → Front → List ℕ → Split
Run kind N front bytes = run (slave_hears kind N) (machine kind N) front bytes

run-cut_off : (kind : Check) (N : ℕ) (begun : Begun) (rest : List ℕ) → BeginsWith beginnings rest → Run kind N Nothing (begun_bytes begun ++ rest) ≡ after (slave_hears kind N) (CutOff begun ∷ []) (Run kind N Nothing rest)
run-cut_off kind N (Station stn) rest (inl h) = rw (h.1) refl
run-cut_off kind N (Station stn) rest (inr (inl h)) = rw (h.1) refl
run-cut_off kind N (Station stn) rest (inr (inr h)) = absurd h
run-cut_off kind N (Body stn body) rest (inl h) = rw (h.1) (run-cut (slave_hears kind N) (machine kind N) kind (carries kind N stn) body h.0 1 (omega arith) (omega arith))
run-cut_off kind N (Body stn body) rest (inr (inl h)) = rw (h.1) (run-cut (slave_hears kind N) (machine kind N) kind (carries kind N stn) body h.0 5 (omega arith) (omega arith))
run-cut_off kind N (Body stn body) rest (inr (inr h)) = absurd h

run-broken : (kind : Check) (N : ℕ) (begun : Begun) (code : ℕ) (rest : List ℕ) → IsItem kind (Broken begun code) rest → Run kind N Nothing (item_bytes (Broken begun code) ++ rest) ≡ after (slave_hears kind N) (Broken begun code ∷ []) (Run kind N Nothing rest)
run-broken kind N (Station stn) code rest h = rw (ne_eqb code 2 h.0, ne_eqb code 1 h.1, ne_eqb code 5 h.2) refl
run-broken kind N (Body stn body) code rest h =
    rw (append_assoc (flat_map piece_bytes (pieces_of body)) (16 ∷ code ∷ []) rest)
    (run-cut (slave_hears kind N) (machine kind N) kind (carries kind N stn) body rest code h.0.0 h.0.1 ∙ rw (ne_eqb code 1 h.1, ne_eqb code 5 h.2) refl)

run-item : (kind : Check) (N : ℕ) (item : Item) (rest : List ℕ) → IsItem kind item rest → Run kind N Nothing (item_bytes item ++ rest) ≡ after (slave_hears kind N) (item ∷ []) (Run kind N Nothing rest)
run-item kind N (Stray b) rest h = rw (ne_eqb b 16 h) refl
run-item kind N (Pair code) rest h = rw (ne_eqb code 1 h.0, ne_eqb code 5 h.1) refl
run-item kind N (Poll stn check) rest h = refl
run-item kind N (Message stn body check) rest h =
    rw (append_assoc (flat_map piece_bytes (pieces_of body)) (16 ∷ 3 ∷ check) rest)
    (run-whole (slave_hears kind N) (machine kind N) kind (carries kind N stn) body check rest h)
run-item kind N (NoText stn b) rest h = rw (ne_eqb b 16 h) refl
run-item kind N (Broken begun code) rest h = run-broken kind N begun code rest h
run-item kind N (CutOff begun) rest h = run-cut_off kind N begun rest h

run-front : (kind : Check) (N : ℕ) (front : Front) → IsFront kind front → Run kind N Nothing (front_bytes front) ≡ ([], front)
run-front kind N Nothing h = refl
run-front kind N Dle h = refl
run-front kind N Soh h = refl
run-front kind N Enq h = refl
run-front kind N (Polled stn) h = refl
run-front kind N (Headed stn) h = refl
run-front kind N (HeadedDle stn) h = refl
run-front kind N (InText stn text) h = rw (text-tail text) (run-text (slave_hears kind N) (machine kind N) kind (carries kind N stn) text h)

-- ---- one byte more

ended-push : (kind : Check) (N : ℕ) (items : List Item) (item : Item) → ended kind N (items ++ item ∷ []) ≡ ended_by kind N item
ended-push kind N [] item = refl
ended-push kind N (x ∷ []) item = refl
ended-push kind N (x ∷ y ∷ items) item = ended-push kind N (y ∷ items) item

step-ended_by : (kind : Check) (N : ℕ) (item : Item) (b : ℕ) → step kind N (ended_by kind N item) b ≡ outside_next b
step-ended_by kind N (Stray x) b = refl
step-ended_by kind N (Pair code) b = refl
step-ended_by kind N (Poll stn check) b = refl
step-ended_by kind N (Message stn body check) b = cond_both (is_right kind N (station_head kind stn) body check) (Ended body) Outside (λ s. step kind N s b ≡ outside_next b) (λ _. refl) (λ _. refl)
step-ended_by kind N (NoText stn x) b = refl
step-ended_by kind N (Broken begun code) b = refl
step-ended_by kind N (CutOff begun) b = refl

pub step-ended : (kind : Check) (N : ℕ) (items : List Item) (b : ℕ) → step kind N (ended kind N items) b ≡ outside_next b
step-ended kind N [] b = refl
step-ended kind N (item ∷ []) b = step-ended_by kind N item b
step-ended kind N (x ∷ y ∷ items) b = step-ended kind N (y ∷ items) b

not_cut : (at : Option SlaveHeard) → Follows at (16 ∷ []) → at ≡ None
not_cut None h = refl
not_cut (Some x) (inl h) = absurd (let e : 16 ∷ [] ≡ 16 ∷ 1 ∷ h.0 = h.1 in cc)
not_cut (Some x) (inr (inl h)) = absurd (let e : 16 ∷ [] ≡ 16 ∷ 5 ∷ h.0 = h.1 in cc)
not_cut (Some x) (inr (inr h)) = absurd h

follows_nothing : (at : Option SlaveHeard) → Follows at [] → at ≡ None
follows_nothing None h = refl
follows_nothing (Some x) (inl h) = absurd (let e : [] ≡ 16 ∷ 1 ∷ h.0 = h.1 in cc)
follows_nothing (Some x) (inr (inl h)) = absurd (let e : [] ≡ 16 ∷ 5 ∷ h.0 = h.1 in cc)
follows_nothing (Some x) (inr (inr h)) = absurd h

goes-nothing : (kind : Check) (N b : ℕ) → Goes kind N Nothing b (advance kind Nothing b)
goes-nothing kind N b = cond_both (eqb b 16) ([], Dle) (Stray b ∷ [], Nothing) (Goes kind N Nothing b)
    (λ e. rw (eqb-true b 16 e) (record {
      items = tt;
      bytes = refl;
      heard = λ before at f. rw (step-ended kind N before 16) refl;
      value = λ before. rw (step-ended kind N before 16) refl;
    }))
    (λ e. record {
      items = (eqb-false b 16 e, tt);
      bytes = refl;
      heard = λ before at f. rw (step-ended kind N before b, e) refl;
      value = λ before. rw (step-ended kind N before b, e, ended-push kind N before (Stray b)) refl;
    })

goes-dle : (kind : Check) (N b : ℕ) → Goes kind N Dle b (advance kind Dle b)
goes-dle kind N b = cond_both (eqb b 1) ([], Soh) _ (Goes kind N Dle b)
    (λ e1. rw (eqb-true b 1 e1) (record {
      items = tt;
      bytes = refl;
      heard = λ before at f. rw (not_cut at f) refl;
      value = λ before. refl;
    }))
    (λ e1. cond_both (eqb b 5) ([], Enq) (Pair b ∷ [], Nothing) (Goes kind N Dle b)
    (λ e5. rw (eqb-true b 5 e5) (record {
      items = tt;
      bytes = refl;
      heard = λ before at f. rw (not_cut at f) refl;
      value = λ before. refl;
    }))
    (λ e5. record {
      items = ((eqb-false b 1 e1, eqb-false b 5 e5), tt);
      bytes = refl;
      heard = λ before at f. rw (e1, e5) refl;
      value = λ before. rw (e1, e5, ended-push kind N before (Pair b)) refl;
    }))

goes-poll : (kind : Check) (N stn b : ℕ) → Goes kind N (Polled stn) b (Poll stn b ∷ [], Nothing)
goes-poll kind N stn b = record {
  items = (tt, tt);
  bytes = refl;
  heard = λ before at f. refl;
  value = λ before. rw (ended-push kind N before (Poll stn b)) refl;
}

goes-headed : (kind : Check) (N stn b : ℕ) → Goes kind N (Headed stn) b (advance kind (Headed stn) b)
goes-headed kind N stn b = cond_both (eqb b 16) ([], HeadedDle stn) (NoText stn b ∷ [], Nothing) (Goes kind N (Headed stn) b)
    (λ e. rw (eqb-true b 16 e) (record {
      items = tt;
      bytes = refl;
      heard = λ before at f. refl;
      value = λ before. refl;
    }))
    (λ e. record {
      items = (eqb-false b 16 e, tt);
      bytes = refl;
      heard = λ before at f. rw e refl;
      value = λ before. rw (e, ended-push kind N before (NoText stn b)) refl;
    })

-- by a pair that doesn't go on with what has begun
goes-cut : (kind : Check) (N : ℕ) (begun : Begun) (b : ℕ) (front : Front) → BreaksOff begun b → front_bytes front ≡ begun_bytes begun ++ 16 ∷ []
    → ((at : Option SlaveHeard) → front_heard at front ≡ begun_heard at begun ++ None ∷ [])
    → ((before : List Item) → step kind N (standing kind N before front) b ≡ (begun_by b, Some (damaged begun)))
    → Goes kind N front b (cut begun b)
goes-cut kind N begun b front ends bytes heard to = cond_both (eqb b 1) (CutOff begun ∷ [], Soh) _ (Goes kind N front b)
    (λ e1. record {
      items = (inl ([], refl), tt);
      bytes = rw (bytes, eqb-true b 1 e1) (sym (append_assoc (begun_bytes begun) (16 ∷ []) (1 ∷ [])));
      heard = λ before at f. rw (heard at, to before) (sym (append_assoc (begun_heard at begun) (None ∷ []) (Some (damaged begun) ∷ [])));
      value = λ before. rw (to before, e1) refl;
    })
    (λ e1. cond_both (eqb b 5) (CutOff begun ∷ [], Enq) (Broken begun b ∷ [], Nothing) (Goes kind N front b)
    (λ e5. record {
      items = (inr (inl ([], refl)), tt);
      bytes = rw (bytes, eqb-true b 5 e5) (sym (append_assoc (begun_bytes begun) (16 ∷ []) (5 ∷ [])));
      heard = λ before at f. rw (heard at, to before) (sym (append_assoc (begun_heard at begun) (None ∷ []) (Some (damaged begun) ∷ [])));
      value = λ before. rw (to before, e1, e5) refl;
    })
    (λ e5. record {
      items = ((ends, eqb-false b 1 e1, eqb-false b 5 e5), tt);
      bytes = rw bytes (seam (begun_bytes begun) (16 ∷ []) (b ∷ []));
      heard = λ before at f. rw (heard at, to before) (seam (begun_heard at begun) (None ∷ []) (Some (damaged begun) ∷ []));
      value = λ before. rw (to before, e1, e5, ended-push kind N before (Broken begun b)) refl;
    }))

goes-headed_dle : (kind : Check) (N stn b : ℕ) → Goes kind N (HeadedDle stn) b (advance kind (HeadedDle stn) b)
goes-headed_dle kind N stn b = cond_both (eqb b 2) ([], InText stn (Opened [])) (cut (Station stn) b) (Goes kind N (HeadedDle stn) b)
    (λ e. rw (eqb-true b 2 e) (record {
      items = tt;
      bytes = refl;
      heard = λ before at f. refl;
      value = λ before. rw (within-begun kind N (station_head kind stn)) refl;
    }))
    (λ e. goes-cut kind N (Station stn) b (HeadedDle stn) (eqb-false b 2 e) refl (λ at. refl) (λ before. rw e refl))

goes-text : (kind : Check) (N stn : ℕ) (text : Text) (b : ℕ) (to : To) → TextContinues SlaveHeard (Some (heard.Header stn)) kind N (station_head kind stn) text b to → Goes kind N (InText stn text) b (on_text stn b to)
goes-text kind N stn text b (On more) c = record {
  items = c.is;
  bytes = ap (λ (l : List ℕ). 16 ∷ 1 ∷ stn ∷ l) c.bytes;
  heard = λ before at f. rw c.value (ap (λ (l : List (Option SlaveHeard)). None ∷ at ∷ None ∷ l) c.heard);
  value = λ before. rw c.value refl;
}
goes-text kind N stn text b (Whole body check) c =
    record {
      items = (c.is, tt);
      bytes = ap (λ (l : List ℕ). 16 ∷ 1 ∷ stn ∷ l) (append-nil (framed (pieces_of body) check) ∙ c.bytes);
      heard = λ before at f. rw (c.value, append-nil) (ap (λ (l : List (Option SlaveHeard)). None ∷ at ∷ None ∷ l) (c.heard (message_heard kind N stn body check)));
      value = λ before. rw (c.value, ended-push kind N before (Message stn body check), right-bytes kind N (station_head kind stn) body check Ended Outside) refl;
    }
goes-text kind N stn text b (Cut body) c =
    goes-cut kind N (Body stn body) b (InText stn text) c.is
    (ap (λ (l : List ℕ). 16 ∷ 1 ∷ stn ∷ l) c.bytes)
    (λ at. ap (λ (l : List (Option SlaveHeard)). None ∷ at ∷ None ∷ l) c.heard)
    (λ before. rw c.value refl)

goes : (kind : Check) (N : ℕ) (front : Front) (b : ℕ) → IsFront kind front → Goes kind N front b (advance kind front b)
goes kind N Nothing b h = goes-nothing kind N b
goes kind N Dle b h = goes-dle kind N b
goes kind N Soh b h = record { items = tt; bytes = refl; heard = λ before at f. refl; value = λ before. refl }
goes kind N Enq b h = record { items = tt; bytes = refl; heard = λ before at f. refl; value = λ before. refl }
goes kind N (Polled stn) b h = goes-poll kind N stn b
goes kind N (Headed stn) b h = goes-headed kind N stn b
goes kind N (HeadedDle stn) b h = goes-headed_dle kind N stn b
goes kind N (InText stn text) b h =
    goes-text kind N stn text b (advance_text kind text b) (continues SlaveHeard (Some (heard.Header stn)) kind N (station_head kind stn) text b h)

-- ---- the laws that Works asks for

more : (kind : Check) (item : Item) (bytes others : List ℕ) → IsItem kind item bytes → IsItem kind item (bytes ++ others)
more kind (Stray x) bytes others h = h
more kind (Pair code) bytes others h = h
more kind (Poll stn check) bytes others h = h
more kind (Message stn body check) bytes others h = h
more kind (NoText stn b) bytes others h = h
more kind (Broken begun code) bytes others h = h
more kind (CutOff begun) bytes others h = more-begins beginnings bytes others h

follows : (kind : Check) (item : Item) (bytes : List ℕ) → IsItem kind item bytes → Follows (leaves item) bytes
follows kind (Stray x) bytes h = tt
follows kind (Pair code) bytes h = tt
follows kind (Poll stn check) bytes h = tt
follows kind (Message stn body check) bytes h = tt
follows kind (NoText stn b) bytes h = tt
follows kind (Broken begun code) bytes h = tt
follows kind (CutOff begun) bytes h = h

abbrev headed : ℕ → ℕ
headed n = suc (suc (suc n))

length-begun : (at : Option SlaveHeard) (begun : Begun) → length (begun_heard at begun) ≡ length (begun_bytes begun)
length-begun at (Station stn) = refl
length-begun at (Body stn body) = ap headed (length-opened (Some (heard.Header stn)) body)

length-item : (kind : Check) (N : ℕ) (at : Option SlaveHeard) (item : Item) → length (item_heard kind N at item) ≡ length (item_bytes item)
length-item kind N at (Stray b) = refl
length-item kind N at (Pair code) = refl
length-item kind N at (Poll stn check) = refl
length-item kind N at (Message stn body check) = ap headed (length-whole (Some (heard.Header stn)) body (message_heard kind N stn body check) check)
length-item kind N at (NoText stn b) = refl
length-item kind N at (Broken begun code) = simp length-append (ap (λ (n : ℕ). n + 2) (length-begun at begun))
length-item kind N at (CutOff begun) = length-begun at begun

length-front : (at : Option SlaveHeard) (front : Front) → length (front_heard at front) ≡ length (front_bytes front)
length-front at Nothing = refl
length-front at Dle = refl
length-front at Soh = refl
length-front at Enq = refl
length-front at (Polled stn) = refl
length-front at (Headed stn) = refl
length-front at (HeadedDle stn) = refl
length-front at (InText stn text) = ap headed (length-text (Some (heard.Header stn)) text)

pub works : (kind : Check) (N : ℕ) → Works (slave_hears kind N) (machine kind N)
works kind N = record {
  start_bytes = refl;
  start_is = tt;
  start_heard = λ _. refl;
  more = more kind;
  follows_nothing = follows_nothing;
  follows_none = λ _. tt;
  follows_item = follows kind;
  continues = goes kind N;
  run_item = run-item kind N;
  run_front = run-front kind N;
  length_item = λ at item _ _. length-item kind N at item;
  length_front = length-front;
}

-- ---- inside a message or a poll

not_inside-ended_by : (kind : Check) (N : ℕ) (item : Item) → is_inside (ended_by kind N item) ≡ false
not_inside-ended_by kind N (Stray x) = refl
not_inside-ended_by kind N (Pair code) = refl
not_inside-ended_by kind N (Poll stn check) = refl
not_inside-ended_by kind N (Message stn body check) = cond_both (is_right kind N (station_head kind stn) body check) (Ended body) Outside (λ s. is_inside s ≡ false) (λ _. refl) (λ _. refl)
not_inside-ended_by kind N (NoText stn x) = refl
not_inside-ended_by kind N (Broken begun code) = refl
not_inside-ended_by kind N (CutOff begun) = refl

not_inside-ended : (kind : Check) (N : ℕ) (items : List Item) → is_inside (ended kind N items) ≡ false
not_inside-ended kind N [] = refl
not_inside-ended kind N (item ∷ []) = not_inside-ended_by kind N item
not_inside-ended kind N (x ∷ y ∷ items) = not_inside-ended kind N (y ∷ items)

pub is_inside-standing : (kind : Check) (N : ℕ) (items : List Item) (front : Front) → is_inside (standing kind N items front) ≡ has_begun items front
is_inside-standing kind N items Nothing = not_inside-ended kind N items
is_inside-standing kind N items Dle = refl
is_inside-standing kind N items Soh = refl
is_inside-standing kind N items Enq = refl
is_inside-standing kind N items (Polled stn) = refl
is_inside-standing kind N items (Headed stn) = refl
is_inside-standing kind N items (HeadedDle stn) = refl
is_inside-standing kind N items (InText stn text) = refl

-- ---- right messages and polls

pub poll_right : (kind : Check) (N stn : ℕ) → item_heard kind N None (Poll stn (bcc (stn ∷ []))) ≡ poll_answers stn
poll_right kind N stn = rw (eq-eqb (bcc (stn ∷ [])) (bcc (stn ∷ [])) refl) refl

-- a message to a station with its own check
abbrev pub message : Check → ℕ → List ℕ → Item
message kind stn body = Message stn body (check_of kind (station_head kind stn ++ body))

pub message_is : (kind : Check) (stn : ℕ) (body : List ℕ) → IsItem kind (message kind stn body) []
message_is kind stn body = length-check kind (check_value kind (covered kind (station_head kind stn ++ body)))

pub message_right : (kind : Check) (N stn : ℕ) (body : List ℕ) → 6 ≤ length body → length body ≤ N → item_heard kind N None (message kind stn body) ≡ message_answers kind stn body
message_right kind N stn body least most = rw (own-right kind N (station_head kind stn) body least most) refl

pub message_lent : (kind : Check) (N stn : ℕ) (body : List ℕ) (items : List Item) → 6 ≤ length body → length body ≤ N → body ≡ lent kind N (items ++ message kind stn body ∷ []) Nothing
message_lent kind N stn body items least most =
    sym (ap lent_at (ended-push kind N items (message kind stn body)) ∙ rw (own-right kind N (station_head kind stn) body least most) refl)
