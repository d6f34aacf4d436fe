-- An ear of the master's bytes tells what their items tell.
use Rattle.std.proofs.Common.{◌≡◌, ℕ, ◌+◌, ◌-◌, false, Bool, cond, eqb, List, [], ◌∷◌, ◌++◌, length, Some, refl, sym, ap, ◌∙◌, arith, length-append}
use Rattle.std.proofs.lemmas.List.{append-nil, length_push}
use Rattle.std.proofs.lemmas.Bool.{cond_both}
use Rattle.df1_check.specs.declared.Check.{Check}
use Rattle.df1_check.specs.Checks.{bcc}
use Rattle.df1_frame.specs.Spelling.{pieces_of, framed}
use Rattle.df1_frame.proofs.LineLemmas.{Split}
use Rattle.half_frame.specs.declared.heard.SlaveHeard.{SlaveHeard}
use Rattle.half_frame.specs.declared.heard.SlaveHeard.TheVariants as heard
use Rattle.half_frame.specs.Spelling.{station_head}
use Rattle.half_frame.specs.Text.{Text, Opened, opened, is_right, text_bytes}
use Rattle.half_frame.specs.SlaveGrammar.{Begun, Station, Body, Item, Stray, Pair, Poll, Message, NoText, Broken, CutOff, Front, Nothing, Dle, Soh, Enq, Polled, Headed, HeadedDle, InText, begun_bytes, item_bytes, front_bytes, IsFront, damaged, pair_heard, poll_heard, message_heard, slave_hears}
use Rattle.half_frame.specs.SlaveStanding.{Outside, Ended, ended_by, listening, standing, lent_at, is_inside}
use Rattle.half_frame.specs.SlaveStep.{step, begun_by}
use Rattle.half_frame.proofs.TextLemmas.{To, On, Whole, Cut, advance_text, Continues as TextContinues, continues, right-bytes}
use Rattle.half_frame.proofs.SlaveLemmas.{machine, works, step-ended, cut, on_text}
use Rattle.df1_dissect.specs.declared.kind.Kind.TheVariants as kind
use Rattle.df1_dissect.specs.declared.ear.Ear.TheVariants as ear
use Rattle.df1_dissect.specs.Kinds.{master_kind}
use Rattle.df1_dissect.specs.Hearing.{turn_of, ear_next}
use Rattle.df1_dissect.specs.Telling.{heard_told}
use Rattle.df1_dissect.specs.MasterItems.{item_told, master_telling}
use Rattle.df1_dissect.specs.Step.{start_after}
use Rattle.df1_dissect.proofs.TellingLemmas.{Moves, Listens, ends-told}

abbrev Goes : (check : Check) → List Item → Front → ℕ → ℕ → ℕ → Split (slave_hears check 250) → Type 0
Goes check before front b at start to = Moves (slave_hears check 250) (master_telling check 250) front at start to (ear_next (ear.Master (listening check 250 before front)) b)

-- what has a line and ends an item
abbrev IsEnd : SlaveHeard → Type 0
IsEnd h = (start at : ℕ) → start_after (turn_of (master_kind (Some h)) false) start at ≡ at + 1

pair-ends : (b : ℕ) → IsEnd (pair_heard b)
pair-ends b = cond_both (eqb b 6) heard.Ack _ IsEnd (λ _ start at. refl)
    (λ _. cond_both _ heard.Reset (heard.StrayPair b) IsEnd (λ _ start at. refl) (λ _ start at. refl))

poll-ends : (stn b : ℕ) → IsEnd (poll_heard stn b)
poll-ends stn b = cond_both (eqb b (bcc (stn ∷ []))) (heard.Poll stn) heard.BadPoll IsEnd (λ _ start at. refl) (λ _ start at. refl)

message-ends : (check : Check) (stn : ℕ) (body bytes : List ℕ) → IsEnd (message_heard check 250 stn body bytes)
message-ends check stn body bytes = cond_both (is_right check 250 (station_head check stn) body bytes) (heard.Addressed stn) (heard.Damaged stn) IsEnd (λ _ start at. refl) (λ _ start at. refl)

-- ---- one byte more

goes-nothing : (check : Check) (before : List Item) (b at start : ℕ) → at ≡ start + 0 → Goes check before Nothing b at start (cond (eqb b 16) ([], Dle) (Stray b ∷ [], Nothing))
goes-nothing check before b at start e0 = cond_both (eqb b 16) ([], Dle) (Stray b ∷ [], Nothing) (Goes check before Nothing b at start)
    (λ e. record { told = rw (step-ended check 250 before b, e) refl; starts = rw (step-ended check 250 before b, e) (omega arith) })
    (λ e. let same : at ≡ start = omega arith in record { told = rw (step-ended check 250 before b, e, same) refl; starts = rw (step-ended check 250 before b, e) (omega arith) })

goes-dle : (check : Check) (before : List Item) (b at start : ℕ) → at ≡ start + 1 → Goes check before Dle b at start (cond (eqb b 1) ([], Soh) (cond (eqb b 5) ([], Enq) (Pair b ∷ [], Nothing)))
goes-dle check before b at start e0 =
    let P = Goes check before Dle b at start in
    cond_both (eqb b 1) ([], Soh) _ P
    (λ e1. record { told = rw e1 refl; starts = rw e1 (omega arith) })
    (λ e1. cond_both (eqb b 5) ([], Enq) (Pair b ∷ [], Nothing) P
    (λ e5. record { told = rw (e1, e5) refl; starts = rw (e1, e5) (omega arith) })
    (λ e5.
    let h = pair_heard b in
    record {
      told = rw (e1, e5, e0) (append-nil (heard_told start (start + 1) (master_kind (Some h)) []) ∙ sym (ends-told (master_kind (Some h)) start (start + 1) []));
      starts = rw (e1, e5, pair-ends b start at) (omega arith);
    }))

goes-poll : (check : Check) (before : List Item) (b at start stn : ℕ) → at ≡ start + 3 → Goes check before (Polled stn) b at start (Poll stn b ∷ [], Nothing)
goes-poll check before b at start stn e0 =
    let h = poll_heard stn b in
    record {
      told = rw e0 (append-nil (heard_told start (start + 3) (master_kind (Some h)) []) ∙ sym (ends-told (master_kind (Some h)) start (start + 3) []));
      starts = rw (poll-ends stn b start at) (omega arith);
    }

goes-headed : (check : Check) (before : List Item) (b at start stn : ℕ) → at ≡ start + 3 → Goes check before (Headed stn) b at start (cond (eqb b 16) ([], HeadedDle stn) (NoText stn b ∷ [], Nothing))
goes-headed check before b at start stn e0 = cond_both (eqb b 16) ([], HeadedDle stn) (NoText stn b ∷ [], Nothing) (Goes check before (Headed stn) b at start)
    (λ e. record { told = rw e refl; starts = rw e (omega arith) })
    (λ e. record { told = rw (e, e0) refl; starts = rw e (omega arith) })

damaged-told : (begun : Begun) (first last : ℕ) (stn : ℕ) → damaged begun ≡ heard.Damaged stn → heard_told first last (master_kind (Some (damaged begun))) [] ≡ heard_told first last (Some (kind.DamagedFor stn)) []
damaged-told begun first last stn is = rw is refl

-- a pair that doesn't go on with what has begun
goes-cut : (check : Check) (before : List Item) (b at start stn : ℕ) (begun : Begun) (front : Front) → at ≡ start + (length (begun_bytes begun) + 1) → damaged begun ≡ heard.Damaged stn
    → step check 250 (standing check 250 before front) b ≡ (begun_by b, Some (damaged begun)) → Goes check before front b at start (cut begun b)
goes-cut check before b at start stn begun front e0 is to =
    let P = Goes check before front b at start in
    let last = sym e0 in
    let size : length (begun_bytes begun ++ 16 ∷ b ∷ []) ≡ length (begun_bytes begun) + 2 = length-append (begun_bytes begun) (16 ∷ b ∷ []) in
    cond_both (eqb b 1) (CutOff begun ∷ [], Soh) _ P
    (λ e1. record { told = rw (to, e1, is, last) refl; starts = rw (to, e1, is) (omega (arith, last)) })
    (λ e1. cond_both (eqb b 5) (CutOff begun ∷ [], Enq) (Broken begun b ∷ [], Nothing) P
    (λ e5. record { told = rw (to, e1, e5, is, last) refl; starts = rw (to, e1, e5, is) (omega (arith, last)) })
    (λ e5. record { told = rw (to, e1, e5, is, last) refl; starts = rw (to, e1, e5, is) (omega (arith, last, size)) }))

goes-headed_dle : (check : Check) (before : List Item) (b at start stn : ℕ) → at ≡ start + 4 → Goes check before (HeadedDle stn) b at start (cond (eqb b 2) ([], InText stn (Opened [])) (cut (Station stn) b))
goes-headed_dle check before b at start stn e0 = cond_both (eqb b 2) ([], InText stn (Opened [])) (cut (Station stn) b) (Goes check before (HeadedDle stn) b at start)
    (λ e. record { told = rw e refl; starts = rw e (omega arith) })
    (λ e. goes-cut check before b at start stn (Station stn) (HeadedDle stn) e0 refl (rw e refl))

-- after a whole message no item is under way
ended-outside : (right : Bool) (body : List ℕ) → is_inside (cond right (Ended body) Outside) ≡ false
ended-outside right body = cond_both right (Ended body) Outside (λ s. is_inside s ≡ false) (λ _. refl) (λ _. refl)

goes-whole : (check : Check) (before : List Item) (b at start stn : ℕ) (text : Text) (body bytes : List ℕ) → at ≡ start + (3 + length (text_bytes text))
    → TextContinues SlaveHeard (Some (heard.Header stn)) check 250 (station_head check stn) text b (Whole body bytes) → Goes check before (InText stn text) b at start (Message stn body bytes ∷ [], Nothing)
goes-whole check before b at start stn text body bytes e0 c =
    let head = station_head check stn in
    let right = is_right check 250 head body bytes in
    let h = message_heard check 250 stn body bytes in
    let lent = lent_at (ended_by check 250 (Message stn body bytes)) in
    let kept = right-bytes check 250 head body bytes Ended Outside in
    let size : length (framed (pieces_of body) bytes) ≡ length (text_bytes text) + 1 = ap length c.bytes ∙ length_push (text_bytes text) b in
    let last : start + (length (item_bytes (Message stn body bytes)) - 1) ≡ at = omega (arith, size, e0) in
    record {
      told =
          rw (c.value, kept, ended-outside right body)
          (append-nil (item_told check 250 start (Message stn body bytes))
          ∙ ap (λ n. heard_told start n (master_kind (Some h)) lent) last
          ∙ sym (ends-told (master_kind (Some h)) start at lent));
      starts = rw (c.value, kept, ended-outside right body, message-ends check stn body bytes start at) (omega (arith, size, e0));
    }

goes-text : (check : Check) (before : List Item) (b at start stn : ℕ) (text : Text) (to : To) → at ≡ start + (3 + length (text_bytes text))
    → TextContinues SlaveHeard (Some (heard.Header stn)) check 250 (station_head check stn) text b to → Goes check before (InText stn text) b at start (on_text stn b to)
goes-text check before b at start stn text (On more) e0 c = record { told = rw c.value refl; starts = rw c.value (omega arith) }
goes-text check before b at start stn text (Whole body bytes) e0 c = goes-whole check before b at start stn text body bytes e0 c
goes-text check before b at start stn text (Cut body) e0 c =
    let size : length (text_bytes text) ≡ length (opened body) + 1 = ap length c.bytes ∙ length_push (opened body) 16 in
    goes-cut check before b at start stn (Body stn body) (InText stn text) (omega (arith, size, e0)) refl (rw c.value refl)

pub goes : (check : Check) (before : List Item) (front : Front) (b at start : ℕ) → IsFront check front → at ≡ start + length (front_bytes front) → Goes check before front b at start ((machine check 250).advance front b)
goes check before Nothing b at start is e = goes-nothing check before b at start e
goes check before Dle b at start is e = goes-dle check before b at start e
goes check before Soh b at start is e = record { told = refl; starts = omega arith }
goes check before Enq b at start is e = record { told = refl; starts = omega arith }
goes check before (Polled stn) b at start is e = goes-poll check before b at start stn e
goes check before (Headed stn) b at start is e = goes-headed check before b at start stn e
goes check before (HeadedDle stn) b at start is e = goes-headed_dle check before b at start stn e
goes check before (InText stn text) b at start is e =
    goes-text check before b at start stn text (advance_text check text b) (omega arith) (continues SlaveHeard (Some (heard.Header stn)) check 250 (station_head check stn) text b is)

abbrev pub master_listens : (check : Check) → Listens (slave_hears check 250) (machine check 250) (master_telling check 250)
master_listens check = record { works = works check 250; ear = ear.Master; follows = λ v b. refl; moves = goes check }
