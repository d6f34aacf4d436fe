-- An ear of a full-duplex line tells what the line's items tell.
use Rattle.std.proofs.Common.{◌≡◌, ℕ, ◌+◌, ◌-◌, true, false, cond, eqb, ltb, List, [], ◌∷◌, ◌++◌, length, Option, Some, None, refl, sym, ap, subst, ◌∙◌, append_assoc, arith, length-append}
use Rattle.std.specs.List.{flat_map}
use Rattle.std.proofs.lemmas.List.{append-nil, length_push}
use Rattle.std.proofs.lemmas.Bool.{cond_both}
use Rattle.df1_check.specs.declared.Check.{Check}
use Rattle.df1_frame.specs.declared.heard.Heard.{Heard}
use Rattle.df1_frame.specs.declared.heard.Heard.TheVariants as heard
use Rattle.df1_frame.specs.Spelling.{Piece, Plain, Doubled, Response, piece_bytes, response, body_of, check_len, opening, framed}
use Rattle.df1_frame.specs.Grammar.{Item, Stray, Pair, Frame, Restart, Front, Nothing, Dle, Opened, OpenedDle, Closed, front_bytes, IsFront, frame_heard, stray_pair_heard, full_duplex}
use Rattle.df1_frame.specs.Standing.{Outside, Ended, ended_by, decoding, lent_at, is_inside}
use Rattle.df1_frame.proofs.LineLemmas.{Split}
use Rattle.df1_frame.proofs.GatheredLemmas.{verdict-gathered, left_by-gathered}
use Rattle.df1_frame.proofs.GrammarLemmas.{machine, works, step-ended, respond}
use Rattle.df1_dissect.specs.declared.kind.Kind.{Kind}
use Rattle.df1_dissect.specs.declared.kind.Kind.TheVariants as kind
use Rattle.df1_dissect.specs.declared.ear.Ear.TheVariants as ear
use Rattle.df1_dissect.specs.declared.ear.Turn.TheVariants as turn
use Rattle.df1_dissect.specs.Kinds.{full_kind}
use Rattle.df1_dissect.specs.Hearing.{turn_of, ear_next}
use Rattle.df1_dissect.specs.Telling.{Told, plain, heard_told}
use Rattle.df1_dissect.specs.FullItems.{responses_told, inner_told, item_told, full_telling}
use Rattle.df1_dissect.specs.Step.{start_after}
use Rattle.df1_dissect.proofs.TellingLemmas.{Moves, Listens, ends-told}

abbrev Goes : (check : Check) → List Item → Front → ℕ → ℕ → ℕ → Split (full_duplex check 250) → Type 0
Goes check before front b at start to = Moves (full_duplex check 250) (full_telling check 250) front at start to (ear_next (ear.Full (decoding check 250 before front)) b)

-- ---- responses between a frame's ends

responses-push : (at : ℕ) (pieces : List Piece) (piece : Piece) (end : ℕ) → end ≡ at + length (flat_map piece_bytes pieces)
    → responses_told at (pieces ++ piece ∷ []) ≡ responses_told at pieces ++ responses_told end (piece ∷ [])
responses-push at [] piece end e = let same : end ≡ at = omega arith in rw same refl
responses-push at (Plain b ∷ pieces) piece end e = responses-push (at + 1) pieces piece end (omega arith)
responses-push at (Doubled ∷ pieces) piece end e = responses-push (at + 2) pieces piece end (omega arith)
responses-push at (Response code ∷ pieces) piece end e =
    let told = heard_told at (at + 1) (full_kind (response code)) [] in
    ap (λ (l : List Told). told ++ l) (responses-push (at + 2) pieces piece end (omega arith)) ∙ sym (append_assoc told (responses_told (at + 2) pieces) (responses_told end (piece ∷ [])))

quiet-push : (start : ℕ) (pieces : List Piece) (piece : Piece) → ((at : ℕ) → responses_told at (piece ∷ []) ≡ []) → inner_told start (pieces ++ piece ∷ []) ≡ inner_told start pieces ++ []
quiet-push start pieces piece none =
    responses-push (start + 2) pieces piece (start + 2 + length (flat_map piece_bytes pieces)) refl ∙ ap (λ (l : List Told). inner_told start pieces ++ l) (none (start + 2 + length (flat_map piece_bytes pieces)))

-- ---- what ends an item

ends-starts : (h : Heard) (start at : ℕ) → start_after (turn_of (full_kind (Some h)) false) start at ≡ at + 1
ends-starts heard.Good start at = refl
ends-starts heard.Short start at = refl
ends-starts heard.BadCheck start at = refl
ends-starts heard.Long start at = refl
ends-starts (heard.Broken code) start at = refl
ends-starts heard.Restart start at = refl
ends-starts heard.Ack start at = refl
ends-starts heard.Nak start at = refl
ends-starts heard.Enq start at = refl
ends-starts (heard.Stray b) start at = refl
ends-starts (heard.StrayPair code) start at = refl

-- ---- one byte more

goes-nothing : (check : Check) (before : List Item) (b at start : ℕ) → at ≡ start + 0 → Goes check before Nothing b at start (cond (eqb b 16) ([], Dle) (Stray b ∷ [], Nothing))
goes-nothing check before b at start e0 = cond_both (eqb b 16) ([], Dle) (Stray b ∷ [], Nothing) (Goes check before Nothing b at start)
    (λ e. record { told = rw (step-ended check 250 before b, e) refl; starts = rw (step-ended check 250 before b, e) (omega arith) })
    (λ e. let same : at ≡ start = omega arith in record { told = rw (step-ended check 250 before b, e, same) refl; starts = rw (step-ended check 250 before b, e) (omega arith) })

goes-dle : (check : Check) (before : List Item) (b at start : ℕ) → at ≡ start + 1 → Goes check before Dle b at start (cond (eqb b 2) ([], Opened []) (Pair b ∷ [], Nothing))
goes-dle check before b at start e0 = cond_both (eqb b 2) ([], Opened []) (Pair b ∷ [], Nothing) (Goes check before Dle b at start)
    (λ e. record { told = rw e refl; starts = rw e (omega arith) })
    (λ e.
    let h = stray_pair_heard (response b) b in
    record {
      told = rw (e, e0) (append-nil (heard_told start (start + 1) (full_kind (Some h)) []) ∙ sym (ends-told (full_kind (Some h)) start (start + 1) []));
      starts = rw (e, ends-starts h start at) (omega arith);
    })

goes-opened : (check : Check) (before : List Item) (b at start : ℕ) (pieces : List Piece) → Goes check before (Opened pieces) b at start (cond (eqb b 16) ([], OpenedDle pieces) ([], Opened (pieces ++ Plain b ∷ [])))
goes-opened check before b at start pieces = cond_both (eqb b 16) ([], OpenedDle pieces) ([], Opened (pieces ++ Plain b ∷ [])) (Goes check before (Opened pieces) b at start)
    (λ e. record { told = rw e (sym (append-nil (inner_told start pieces))); starts = rw e (omega arith) })
    (λ e. record { told = rw e (quiet-push start pieces (Plain b) (λ _. refl)); starts = rw e (omega arith) })

-- a response that stands inside a frame tells its kind
abbrev IsInner : Option Heard → Type 0
IsInner None = Unit {0}
IsInner (Some h) = (k : Kind) × (full_kind (Some h) ≡ Some k) × (turn_of (full_kind (Some h)) true ≡ turn.Within k)

response-inner : (b : ℕ) → IsInner (response b)
response-inner b = cond_both (eqb b 6) (Some heard.Ack) _ IsInner (λ _. (kind.Ack, refl, refl))
    (λ _. cond_both _ (Some heard.Nak) None IsInner (λ _. (kind.Nak, refl, refl)) (λ _. tt))

goes-respond : (check : Check) (before : List Item) (b at start : ℕ) (pieces : List Piece) → at ≡ start + length (opening pieces ++ 16 ∷ []) → eqb b 2 ≡ false → eqb b 3 ≡ false → eqb b 16 ≡ false
    → (o : Option Heard) → response b ≡ o → Goes check before (OpenedDle pieces) b at start (respond pieces b o)
goes-respond check before b at start pieces e0 e2 e3 e16 None r =
    let last : start + (length (opening pieces) + 1) ≡ at = sym (e0 ∙ ap (λ n. start + n) (length_push (opening pieces) 16)) in
    record {
      told = rw (e2, e3, e16, r) (append-nil (inner_told start pieces ++ plain start (start + (length (opening pieces) + 1)) (kind.Broken b)) ∙ ap (λ n. inner_told start pieces ++ plain start n (kind.Broken b)) last);
      starts = rw (e2, e3, e16, r) (simp length-append (omega (arith, last)));
    }
goes-respond check before b at start pieces e0 e2 e3 e16 (Some h) r =
    let w : IsInner (Some h) = subst IsInner r (response-inner b) in
    let end = start + 2 + length (flat_map piece_bytes pieces) in
    let last : at ≡ end + 1 = e0 ∙ ap (λ n. start + n) (length_push (opening pieces) 16) ∙ omega arith in
    let first : at - 1 ≡ end = omega (arith, last) in
    record {
      told = rw (e2, e3, e16, r) (responses-push (start + 2) pieces (Response b) end refl ∙ rw (r, w.2, w.1, first, last) refl);
      starts = rw (e2, e3, e16, r, w.2) (omega arith);
    }

goes-opened_dle : (check : Check) (before : List Item) (b at start : ℕ) (pieces : List Piece) → at ≡ start + length (opening pieces ++ 16 ∷ [])
    → Goes check before (OpenedDle pieces) b at start (cond (eqb b 2) (Restart pieces ∷ [], Opened []) (cond (eqb b 3) ([], Closed pieces []) (cond (eqb b 16) ([], Opened (pieces ++ Doubled ∷ [])) (respond pieces b (response b)))))
goes-opened_dle check before b at start pieces e0 =
    let P = Goes check before (OpenedDle pieces) b at start in
    let last : start + (length (opening pieces) + 1) ≡ at = sym (e0 ∙ ap (λ n. start + n) (length_push (opening pieces) 16)) in
    cond_both (eqb b 2) (Restart pieces ∷ [], Opened []) _ P
    (λ e2. record {
      told = rw e2 (append-nil (inner_told start pieces ++ plain start (start + (length (opening pieces) + 1)) kind.Restart) ∙ ap (λ n. inner_told start pieces ++ plain start n kind.Restart) last);
      starts = rw e2 (omega (arith, last));
    })
    (λ e2. cond_both (eqb b 3) ([], Closed pieces []) _ P
    (λ e3. record { told = rw (e2, e3) (sym (append-nil (inner_told start pieces))); starts = rw (e2, e3) (omega arith) })
    (λ e3. cond_both (eqb b 16) ([], Opened (pieces ++ Doubled ∷ [])) _ P
    (λ e16. record { told = rw (e2, e3, e16) (quiet-push start pieces Doubled (λ _. refl)); starts = rw (e2, e3, e16) (omega arith) })
    (λ e16. goes-respond check before b at start pieces e0 e2 e3 e16 (response b) refl)))

-- no frame is under way after a frame's end
ended-outside : (body : List ℕ) → is_inside (cond (ltb 250 (length body)) Outside (Ended body)) ≡ false
ended-outside body = cond_both (ltb 250 (length body)) Outside (Ended body) (λ s. is_inside s ≡ false) (λ _. refl) (λ _. refl)

goes-closed : (check : Check) (before : List Item) (b at start : ℕ) (pieces : List Piece) (bytes : List ℕ) → at ≡ start + length (framed pieces bytes)
    → Goes check before (Closed pieces bytes) b at start (cond (ltb (length bytes + 1) (check_len check)) ([], Closed pieces (bytes ++ b ∷ [])) (Frame pieces (bytes ++ b ∷ []) ∷ [], Nothing))
goes-closed check before b at start pieces bytes e0 =
    let all = bytes ++ b ∷ [] in
    let body = body_of pieces in
    let h = frame_heard check 250 body all in
    let lent = lent_at (ended_by 250 (Frame pieces all)) in
    let size : length (framed pieces all) ≡ length (framed pieces bytes) + 1 = ap length (sym (append_assoc (opening pieces) (16 ∷ 3 ∷ bytes) (b ∷ []))) ∙ length_push (framed pieces bytes) b in
    let last : start + (length (framed pieces all) - 1) ≡ at = omega (arith, size, e0) in
    cond_both (ltb (length bytes + 1) (check_len check)) ([], Closed pieces all) (Frame pieces all ∷ [], Nothing) (Goes check before (Closed pieces bytes) b at start)
    (λ e. record { told = rw e (sym (append-nil (inner_told start pieces))); starts = rw e (omega arith) })
    (λ e. record {
      told =
          rw (e, verdict-gathered, left_by-gathered, ended-outside body)
          (append-nil (item_told check 250 start (Frame pieces all))
          ∙ ap (λ n. inner_told start pieces ++ heard_told start n (full_kind (Some h)) lent) last
          ∙ ap (λ (l : List Told). inner_told start pieces ++ l) (sym (ends-told (full_kind (Some h)) start at lent)));
      starts = rw (e, verdict-gathered, left_by-gathered, ended-outside body, ends-starts h start at) (omega (arith, size, e0));
    })

pub goes : (check : Check) (before : List Item) (front : Front) (b at start : ℕ) → IsFront check front → at ≡ start + length (front_bytes front) → Goes check before front b at start ((machine check 250).advance front b)
goes check before Nothing b at start is e = goes-nothing check before b at start e
goes check before Dle b at start is e = goes-dle check before b at start e
goes check before (Opened pieces) b at start is e = goes-opened check before b at start pieces
goes check before (OpenedDle pieces) b at start is e = goes-opened_dle check before b at start pieces e
goes check before (Closed pieces bytes) b at start is e = goes-closed check before b at start pieces bytes e

abbrev pub full_listens : (check : Check) → Listens (full_duplex check 250) (machine check 250) (full_telling check 250)
full_listens check = record { works = works check 250; ear = ear.Full; follows = λ v b. refl; moves = goes check }
