-- An ear of the slaves' bytes tells what their items tell.
use Rattle.std.proofs.Common.{◌≡◌, ℕ, ◌+◌, ◌-◌, false, Bool, cond, eqb, List, [], ◌∷◌, ◌++◌, length, Some, None, refl, sym, ap, ◌∙◌, arith, length-append}
use Rattle.std.proofs.lemmas.List.{append-nil, length_push}
use Rattle.std.proofs.lemmas.Bool.{cond_both}
use Rattle.df1_check.specs.declared.Check.{Check}
use Rattle.df1_frame.specs.Spelling.{pieces_of, framed}
use Rattle.df1_frame.proofs.LineLemmas.{Split}
use Rattle.half_frame.specs.declared.heard.MasterHeard.{MasterHeard}
use Rattle.half_frame.specs.declared.heard.MasterHeard.TheVariants as heard
use Rattle.half_frame.specs.Text.{Text, Opened, opened, is_right, text_bytes}
use Rattle.half_frame.specs.MasterGrammar.{Item, Stray, Pair, Message, Broken, CutOff, Front, Nothing, Dle, InText, front_bytes, IsFront, pair_heard, message_heard, master_hears}
use Rattle.half_frame.specs.MasterStanding.{Outside, Ended, ended_by, listening, lent_at, is_inside}
use Rattle.half_frame.proofs.TextLemmas.{To, On, Whole, Cut, advance_text, Continues as TextContinues, continues, right-bytes}
use Rattle.half_frame.proofs.MasterLemmas.{machine, works, step-ended, cut, on_text}
use Rattle.df1_dissect.specs.declared.ear.Ear.TheVariants as ear
use Rattle.df1_dissect.specs.Kinds.{slave_kind}
use Rattle.df1_dissect.specs.Hearing.{turn_of, ear_next}
use Rattle.df1_dissect.specs.Telling.{heard_told}
use Rattle.df1_dissect.specs.SlaveItems.{item_told, slave_telling}
use Rattle.df1_dissect.specs.Step.{start_after}
use Rattle.df1_dissect.proofs.TellingLemmas.{Moves, Listens, ends-told}

abbrev Goes : (check : Check) → List Item → Front → ℕ → ℕ → ℕ → Split (master_hears check 250) → Type 0
Goes check before front b at start to = Moves (master_hears check 250) (slave_telling check 250) front at start to (ear_next (ear.Slave (listening check 250 before front)) b)

ends-starts : (h : MasterHeard) (start at : ℕ) → start_after (turn_of (slave_kind (Some h)) false) start at ≡ at + 1
ends-starts heard.Good start at = refl
ends-starts heard.Damaged start at = refl
ends-starts heard.Ack start at = refl
ends-starts heard.Nak start at = refl
ends-starts heard.Eot start at = refl
ends-starts (heard.Stray b) start at = refl
ends-starts (heard.StrayPair code) start at = refl

-- ---- one byte more

goes-nothing : (check : Check) (before : List Item) (b at start : ℕ) → at ≡ start + 0 → Goes check before Nothing b at start (cond (eqb b 16) ([], Dle) (Stray b ∷ [], Nothing))
goes-nothing check before b at start e0 = cond_both (eqb b 16) ([], Dle) (Stray b ∷ [], Nothing) (Goes check before Nothing b at start)
    (λ e. record { told = rw (step-ended check 250 before b, e) refl; starts = rw (step-ended check 250 before b, e) (omega arith) })
    (λ e. let same : at ≡ start = omega arith in record { told = rw (step-ended check 250 before b, e, same) refl; starts = rw (step-ended check 250 before b, e) (omega arith) })

goes-dle : (check : Check) (before : List Item) (b at start : ℕ) → at ≡ start + 1 → Goes check before Dle b at start (cond (eqb b 2) ([], InText (Opened [])) (Pair b ∷ [], Nothing))
goes-dle check before b at start e0 = cond_both (eqb b 2) ([], InText (Opened [])) (Pair b ∷ [], Nothing) (Goes check before Dle b at start)
    (λ e. record { told = rw e refl; starts = rw e (omega arith) })
    (λ e.
    let h = pair_heard b in
    record {
      told = rw (e, e0) (append-nil (heard_told start (start + 1) (slave_kind (Some h)) []) ∙ sym (ends-told (slave_kind (Some h)) start (start + 1) []));
      starts = rw (e, ends-starts h start at) (omega arith);
    })

-- after a whole message no item is under way, and its body is lent where it is right
ended-outside : (right : Bool) (body : List ℕ) → is_inside (cond right (Ended body) Outside) ≡ false
ended-outside right body = cond_both right (Ended body) Outside (λ s. is_inside s ≡ false) (λ _. refl) (λ _. refl)

goes-whole : (check : Check) (before : List Item) (b at start : ℕ) (text : Text) (body bytes : List ℕ) → at ≡ start + length (text_bytes text) → TextContinues MasterHeard None check 250 [] text b (Whole body bytes)
    → Goes check before (InText text) b at start (Message body bytes ∷ [], Nothing)
goes-whole check before b at start text body bytes e0 c =
    let right = is_right check 250 [] body bytes in
    let h = message_heard check 250 body bytes in
    let lent = lent_at (ended_by check 250 (Message body bytes)) in
    let kept = right-bytes check 250 [] body bytes Ended Outside in
    let size : length (framed (pieces_of body) bytes) ≡ length (text_bytes text) + 1 = ap length c.bytes ∙ length_push (text_bytes text) b in
    let last : start + (length (framed (pieces_of body) bytes) - 1) ≡ at = omega (arith, size, e0) in
    record {
      told =
          rw (c.value, kept, ended-outside right body)
          (append-nil (item_told check 250 start (Message body bytes))
          ∙ ap (λ n. heard_told start n (slave_kind (Some h)) lent) last
          ∙ sym (ends-told (slave_kind (Some h)) start at lent));
      starts = rw (c.value, kept, ended-outside right body, ends-starts h start at) (omega (arith, size, e0));
    }

goes-cut : (check : Check) (before : List Item) (b at start : ℕ) (text : Text) (body : List ℕ) → at ≡ start + length (text_bytes text) → TextContinues MasterHeard None check 250 [] text b (Cut body)
    → Goes check before (InText text) b at start (cut body b)
goes-cut check before b at start text body e0 c =
    let last : start + (length (opened body) + 1) ≡ at = sym (e0 ∙ ap (λ n. start + n) (ap length c.bytes ∙ length_push (opened body) 16)) in
    let size : length (opened body ++ 16 ∷ b ∷ []) ≡ length (opened body) + 2 = length-append (opened body) (16 ∷ b ∷ []) in
    cond_both (eqb b 2) (CutOff body ∷ [], InText (Opened [])) (Broken body b ∷ [], Nothing) (Goes check before (InText text) b at start)
    (λ e. record { told = rw (c.value, e, last) refl; starts = rw (c.value, e) (omega (arith, last)) })
    (λ e. record { told = rw (c.value, e, last) refl; starts = rw (c.value, e) (omega (arith, last, size)) })

goes-text : (check : Check) (before : List Item) (b at start : ℕ) (text : Text) (to : To) → at ≡ start + length (text_bytes text) → TextContinues MasterHeard None check 250 [] text b to
    → Goes check before (InText text) b at start (on_text b to)
goes-text check before b at start text (On more) e0 c = record { told = rw c.value refl; starts = rw c.value (omega arith) }
goes-text check before b at start text (Whole body bytes) e0 c = goes-whole check before b at start text body bytes e0 c
goes-text check before b at start text (Cut body) e0 c = goes-cut check before b at start text body e0 c

pub goes : (check : Check) (before : List Item) (front : Front) (b at start : ℕ) → IsFront check front → at ≡ start + length (front_bytes front) → Goes check before front b at start ((machine check 250).advance front b)
goes check before Nothing b at start is e = goes-nothing check before b at start e
goes check before Dle b at start is e = goes-dle check before b at start e
goes check before (InText text) b at start is e = goes-text check before b at start text (advance_text check text b) e (continues MasterHeard None check 250 [] text b is)

abbrev pub slave_listens : (check : Check) → Listens (master_hears check 250) (machine check 250) (slave_telling check 250)
slave_listens check = record { works = works check 250; ear = ear.Slave; follows = λ v b. refl; moves = goes check }
