-- What a text says that comes byte by byte: by its whole lines, and by the line that is begun and what follows it.
use Rattle.std.proofs.Common.{◌≡◌, ℕ, ◌+◌, ◌-◌, ◌<◌, ◌≤◌, Bool, true, false, cond, eqb, ltb, leb, List, [], ◌∷◌, ◌++◌, length, Option, Result, Ok, Err, refl, sym, ap, subst, ◌∙◌, arith, append_assoc, append-nil, length-append}
use Rattle.std.specs.Prelude.{◌&&◌, ◌||◌, MatchResult}
use Rattle.std.specs.List.{list_any, onto_first}
use Rattle.std.specs.Option.{option_to_list}
use Rattle.std.proofs.lemmas.Bool.{lt-ltb, le-ltb, eqb-true}
use Rattle.std.proofs.lemmas.List.Folds.{list_any-append}
use Rattle.line_script.specs.declared.fault.Cause.{Cause}
use Rattle.line_script.specs.declared.fault.Cause.TheVariants as cause
use Rattle.line_script.specs.declared.reader.Reader.{Reader}
use Rattle.script_parts.specs.declared.script.Event.{Event}
use Rattle.script_parts.specs.declared.script.Script.{Script}
use Rattle.line_script.specs.Readers.{fresh, stage_of}
use Rattle.line_script.specs.declared.fault.LineFault.{LineFault}
use Rattle.line_script.specs.declared.fault.LineFault.TheVariants.{Faulty, NoMemory}
use Rattle.line_script.specs.declared.fault.ScriptFault.{ScriptFault}
use Rattle.line_script.specs.declared.fault.ScriptFault.TheVariants as fault
use Rattle.line_script.specs.Refusal.{IsFaulty, fault_at}
use Rattle.line_script.specs.Fed.{Fed, StandsFor, EndsFor, IsRefusedFor, IsRefusedAtEnd, lines_of, accepted, accepted_on, accepted_script, script_at}
use Rattle.line_script.specs.Left.{after_lines, and_then}
use Rattle.line_script.specs.declared.profile.Profile.TheVariants.{Replay}
use Rattle.line_script.specs.Lines.{TextLine, text_line, lines_from, after_line, finished, is_ended, script_with}
use Rattle.line_script.specs.ScriptText.{at_line, with_event, script_from, parts, script_of}
use Rattle.line_script.specs.Unfinished.{unfinished, unfinished_after}
use Rattle.line_script.proofs.Cuts.{split-first}
use Rattle.line_script.proofs.LongTexts.{onto_all, onto_all-first, onto_all-nil, over_cause, first_over, at_end}
use Rattle.line_script.proofs.Unfinished.{long_cause, refused_last}

-- ---- a text is cut behind a line feed

cut-from : (text more front : List ℕ) (start : ℕ) → unfinished_after (length front) text ≡ 0
    → lines_from start (onto_all front (parts (text ++ more))) ≡ lines_from start (onto_all front (parts text)) ++ lines_from (start + (length front + length text)) (parts more)
cut-from [] more [] start ends =
    let cut = split-first (λ byte. eqb byte 10) more in
    let place : start + 0 ≡ start = omega arith in
    rw place (ap (lines_from start) (onto_all-nil (parts more) cut.0 cut.1 cut.2))
cut-from [] more (x ∷ front) start ends = absurd (omega (arith, ends))
cut-from (x ∷ text) more front start ends =
    let cut = split-first (λ byte. eqb byte 10) text in
    let cut' = split-first (λ byte. eqb byte 10) (text ++ more) in
    elim (eqb x 10) as (λ b. unfinished_after (cond b 0 (length front + 1)) text ≡ 0
    → lines_from start (onto_all front (cond b ([] ∷ parts (text ++ more)) (onto_first x (parts (text ++ more)))))
    ≡ lines_from start (onto_all front (cond b ([] ∷ parts text) (onto_first x (parts text)))) ++ lines_from (start + (length front + length (x ∷ text))) (parts more)) [
      | true ↦ λ ends'.
          let place : start + (length front + 1) + (0 + length text) ≡ start + (length front + length (x ∷ text)) = omega arith in
          rw (append-nil front, cut.2, cut'.2)
          (ap (λ (l : List TextLine). text_line start front true ∷ l)
          (rw (← place) (rw (onto_all-nil (parts (text ++ more)) cut'.0 cut'.1 cut'.2, onto_all-nil (parts text) cut.0 cut.1 cut.2, cut.2, cut'.2) at (cut-from text more [] (start + (length front + 1)) ends'))))
      | false ↦ λ ends'.
          let size : length (front ++ x ∷ []) ≡ length front + 1 = omega (arith, length-append front (x ∷ [])) in
          let place : length (front ++ x ∷ []) + length text ≡ length front + length (x ∷ text) = omega (arith, size) in
          rw (onto_all-first front x (parts (text ++ more)), onto_all-first front x (parts text))
          (rw (← place) (cut-from text more (front ++ x ∷ []) start (rw size ends')))
    ] ends

pub cut-lines : (text more : List ℕ) → unfinished text ≡ 0 → lines_of (text ++ more) ≡ lines_of text ++ lines_from (length text) (parts more)
cut-lines text more ends =
    let cut = split-first (λ byte. eqb byte 10) text in
    let cut' = split-first (λ byte. eqb byte 10) (text ++ more) in
    let place : 0 + (0 + length text) ≡ length text = omega arith in
    rw (onto_all-nil (parts (text ++ more)) cut'.0 cut'.1 cut'.2, onto_all-nil (parts text) cut.0 cut.1 cut.2, place) at (cut-from text more [] 0 ends)

-- ---- lines behind others that were accepted

abbrev read_or : Reader × List Event → Result (Reader × List Event) Cause → Reader × List Event
read_or other (Ok read) = read
read_or other (Err c) = other

pub same-read : (d e : Reader) (events all : List Event) → (let read : Result (Reader × List Event) Cause = Ok (d, events) in read) ≡ Ok (e, all) → (d ≡ e) × (events ≡ all)
same-read d e events all is = (ap (λ r. (read_or (d, events) r).0) is, ap (λ r. (read_or (d, events) r).1) is)

pub read-behind : (lines more : List TextLine) (d e : Reader) (events all : List Event) → after_lines d events lines ≡ Ok (e, all) → after_lines d events (lines ++ more) ≡ after_lines e all more
read-behind [] more d e events all is = let same = same-read d e events all is in rw (same.0, same.1) refl
read-behind (line ∷ lines) more d e events all is =
    elim (with_event events (after_line d line)) as (λ r. and_then r (λ step. after_lines step.0 step.1 lines) ≡ Ok (e, all) → and_then r (λ step. after_lines step.0 step.1 (lines ++ more)) ≡ after_lines e all more) [
      | Err c ↦ λ no. cc
      | Ok step ↦ λ on. read-behind lines more step.0 e step.1 all on
    ] is

pub script-behind : (lines more : List TextLine) (d e : Reader) (events all : List Event) (number : ℕ) → after_lines d events lines ≡ Ok (e, all) → script_from d events number (lines ++ more) ≡ script_from e all (number + length lines) more
script-behind [] more d e events all number is =
    let same = same-read d e events all is in
    let n : number + 0 ≡ number = omega arith in
    rw (same.0, same.1, n) refl
script-behind (line ∷ lines) more d e events all number is =
    let n : number + 1 + length lines ≡ number + length (line ∷ lines) = omega arith in
    elim (with_event events (after_line d line)) as (λ r. and_then r (λ step. after_lines step.0 step.1 lines) ≡ Ok (e, all)
    → at_line number r (λ step. script_from step.0 step.1 (number + 1) (lines ++ more)) ≡ script_from e all (number + length (line ∷ lines)) more) [
      | Err c ↦ λ no. cc
      | Ok step ↦ λ on. rw n at (script-behind lines more step.0 e step.1 all (number + 1) on)
    ] is

pub accepted-behind : (lines more : List TextLine) (d e : Reader) (events all : List Event) → after_lines d events lines ≡ Ok (e, all) → accepted d events (lines ++ more) ≡ accepted e all more
accepted-behind [] more d e events all is = let same = same-read d e events all is in rw (same.0, same.1) refl
accepted-behind (line ∷ lines) more d e events all is =
    elim (with_event events (after_line d line)) as (λ r. and_then r (λ step. after_lines step.0 step.1 lines) ≡ Ok (e, all)
    → accepted_on (d, events) r (λ step. accepted step.0 step.1 (lines ++ more)) ≡ accepted e all more) [
      | Err c ↦ λ no. cc
      | Ok step ↦ λ on. accepted-behind lines more step.0 e step.1 all on
    ] is

-- ---- a line without a line feed, and then one

abbrev HasNone : List ℕ → Type 0
HasNone line = list_any (λ byte. eqb byte 10) line ≡ false

both-false : (a b : Bool) → (a || b) ≡ false → (a ≡ false) × (b ≡ false)
both-false true b h = cc
both-false false b h = (refl, h)

-- the first byte, and what follows it
no-feed : (x : ℕ) (line : List ℕ) → HasNone (x ∷ line) → (eqb x 10 ≡ false) × HasNone line
no-feed x line none = both-false (eqb x 10) (list_any (λ byte. eqb byte 10) line) none

one-more : (line : List ℕ) (b : ℕ) → HasNone line → eqb b 10 ≡ false → HasNone (line ++ b ∷ [])
one-more line b none other = list_any-append (λ byte. eqb byte 10) line (b ∷ []) ∙ rw (none, other) refl

pub one-part : (line more : List ℕ) → HasNone line → parts (line ++ 10 ∷ more) ≡ line ∷ parts more
one-part [] more none = refl
one-part (x ∷ line) more none =
    let no = no-feed x line none in
    rw (no.0, one-part line more no.1) refl

pub last-part : (line : List ℕ) → HasNone line → parts line ≡ line ∷ []
last-part [] none = refl
last-part (x ∷ line) none = let no = no-feed x line none in rw (no.0, last-part line no.1) refl

-- the parts of a text that begins with a line that goes on
pub begun-part : (line more : List ℕ) → HasNone line → (rest : List ℕ) × (others : List (List ℕ)) × (parts (line ++ more) ≡ (line ++ rest) ∷ others)
begun-part [] more none = split-first (λ byte. eqb byte 10) more
begun-part (x ∷ line) more none =
    let no = no-feed x line none in
    let rest = begun-part line more no.1 in
    (rest.0, rest.1, rw (no.0, rest.2) refl)

-- how many bytes stand behind the last line feed
pub unfinished-behind : (before : ℕ) (text more : List ℕ) → unfinished_after before (text ++ more) ≡ unfinished_after (unfinished_after before text) more
unfinished-behind before [] more = refl
unfinished-behind before (x ∷ text) more = unfinished-behind (cond (eqb x 10) 0 (before + 1)) text more

pub unfinished-line : (before : ℕ) (line : List ℕ) → HasNone line → unfinished_after before line ≡ before + length line
unfinished-line before [] none = omega arith
unfinished-line before (x ∷ line) none =
    let no = no-feed x line none in
    rw (no.0) (let rest = unfinished-line (before + 1) line no.1 in omega (arith, rest))

-- ---- what a reader stands for

-- whatever follows its whole lines, the text says what the reader makes of it
pub goes-on : (text : List ℕ) (events : List Event) (r : Fed) (more : List ℕ) (h : StandsFor text events r) → script_of (h.whole ++ more) ≡ script_from r.reader events r.number (lines_from r.start (parts more))
unfolding script_of
goes-on text events r more h =
    let number : 1 + length (lines_of h.whole) ≡ r.number = let is = h.number_is in omega (arith, is) in
    rw (h.start_is, ← number)
    (ap (script_from fresh [] 1) (cut-lines h.whole more h.ends) ∙ script-behind (lines_of h.whole) (lines_from (length h.whole) (parts more)) fresh r.reader [] events 1 h.read)

-- so does the text itself
pub goes-on-from-text : (text : List ℕ) (events : List Event) (r : Fed) (more : List ℕ) → StandsFor text events r → script_of (text ++ more) ≡ script_from r.reader events r.number (lines_from r.start (parts (r.line ++ more)))
goes-on-from-text text events r more h =
    ap (λ t. script_of (t ++ more)) h.text_is ∙ ap script_of (append_assoc h.whole r.line more) ∙ goes-on text events r (r.line ++ more) h

-- ---- a line that is faulty

-- later lines have greater numbers
abbrev number_or : ℕ → Result Script (ℕ × Cause) → ℕ
number_or other (Ok script) = other
number_or other (Err fault) = fault.0

fault-number : (n k : ℕ) (b c : Cause) → (let read : Result Script (ℕ × Cause) = Err (n, b) in read) ≡ Err (k, c) → n ≡ k
fault-number n k b c is = ap (number_or 0) is

open-at : (over : Bool) (script : Script) (number k : ℕ) (c : Cause) → at_line number (cond over (Ok script) (Err cause.NoEnd)) Ok ≡ Err (k, c) → number ≤ k
open-at true script number k c is = cc
open-at false script number k c is = let same = fault-number number k cause.NoEnd c is in omega (arith, same)

numbers-rise : (lines : List TextLine) (d : Reader) (events : List Event) (number k : ℕ) (c : Cause) → script_from d events number lines ≡ Err (k, c) → number ≤ k
numbers-rise [] d events number k c is = open-at (is_ended (stage_of d)) (script_with d events) number k c is
numbers-rise (line ∷ lines) d events number k c is =
    elim (with_event events (after_line d line)) as (λ r. at_line number r (λ step. script_from step.0 step.1 (number + 1) lines) ≡ Err (k, c) → number ≤ k) [
      | Err cause ↦ λ no. let same = fault-number number k cause c no in omega (arith, same)
      | Ok step ↦ λ on. let later = numbers-rise lines step.0 step.1 (number + 1) k c on in omega (arith, later)
    ] is

-- where the first of some lines is faulty, or there is none, nothing more is accepted
none-accepted : (lines : List TextLine) (d : Reader) (events : List Event) (number : ℕ) (c : Cause) → script_from d events number lines ≡ Err (number, c) → accepted d events lines ≡ (d, events)
none-accepted [] d events number c is = refl
none-accepted (line ∷ lines) d events number c is =
    elim (with_event events (after_line d line)) as (λ r. at_line number r (λ step. script_from step.0 step.1 (number + 1) lines) ≡ Err (number, c) → accepted_on (d, events) r (λ step. accepted step.0 step.1 lines) ≡ (d, events)) [
      | Err cause ↦ λ no. refl
      | Ok step ↦ λ on. let later = numbers-rise lines step.0 step.1 (number + 1) number c on in absurd (omega (arith, later))
    ] is

-- what a text says that goes on
pub accepted-on-from-text : (text : List ℕ) (events : List Event) (r : Fed) (more : List ℕ) → StandsFor text events r → accepted fresh [] (lines_of (text ++ more)) ≡ accepted r.reader events (lines_from r.start (parts (r.line ++ more)))
accepted-on-from-text text events r more h =
    ap (λ t. accepted fresh [] (lines_of (t ++ more))) h.text_is
    ∙ ap (λ t. accepted fresh [] (lines_of t)) (append_assoc h.whole r.line more)
    ∙ ap (accepted fresh []) (cut-lines h.whole (r.line ++ more) h.ends)
    ∙ rw (← h.start_is) (accepted-behind (lines_of h.whole) (lines_from r.start (parts (r.line ++ more))) fresh r.reader [] events h.read)

pub refused-with : (text : List ℕ) (events : List Event) (r : Fed) (more : List ℕ) (c : Cause) → StandsFor text events r → script_of (text ++ more) ≡ Err (r.number, c) → (script_of (text ++ more) ≡ Err (r.number, c)) × (accepted_script (text ++ more) ≡ script_with r.reader events)
unfolding accepted_script
refused-with text events r more c h is =
    let here : script_from r.reader events r.number (lines_from r.start (parts (r.line ++ more))) ≡ Err (r.number, c) = sym (goes-on-from-text text events r more h) ∙ is in
    (is, ap script_at (accepted-on-from-text text events r more h ∙ none-accepted (lines_from r.start (parts (r.line ++ more))) r.reader events r.number c here))

-- a text with a byte more is refused, whatever follows
pub refused-for : (text : List ℕ) (events : List Event) (r : Fed) (b : ℕ) (c : Cause) → StandsFor text events r → ((more : List ℕ) → script_of ((text ++ b ∷ []) ++ more) ≡ Err (r.number, c)) → IsRefusedFor (text ++ b ∷ []) (script_with r.reader events) (fault.At r.number c)
refused-for text events r b c h is = λ more.
    let same : (text ++ b ∷ []) ++ more ≡ text ++ b ∷ more = append_assoc text (b ∷ []) more in
    let found = refused-with text events r (b ∷ more) c h (ap script_of (sym same) ∙ is more) in
    (is more, ap accepted_script same ∙ found.1)

-- the byte past the longest script
pub refused-by-size : (text : List ℕ) (events : List Event) (r : Fed) (b : ℕ) (more : List ℕ) → StandsFor text events r → r.start + length r.line ≤ 16777216 → 16777216 ≤ r.start + length r.line → length r.line ≤ 1024
    → script_of ((text ++ b ∷ []) ++ more) ≡ Err (r.number, cause.Size)
refused-by-size text events r b more h within reached short =
    let near : ltb (16777216 - r.start) 1025 ≡ true = lt-ltb (16777216 - r.start) 1025 (omega arith) in
    let size : over_cause r.start ≡ cause.Size = rw near refl in
    ap script_of (append_assoc text (b ∷ []) more) ∙ goes-on-from-text text events r (b ∷ more) h
    ∙ elim (eqb b 10) as (λ is. (eqb b 10 ≡ is) → script_from r.reader events r.number (lines_from r.start (parts (r.line ++ b ∷ more))) ≡ Err (r.number, over_cause r.start)) [
      | true ↦ λ is.
          let cut = split-first (λ byte. eqb byte 10) more in
          rw (eqb-true b 10 is, one-part r.line more h.begun, cut.2)
          (first_over Replay r.reader events r.number r.start r.line true (lines_from (r.start + (length r.line + 1)) (cut.0 ∷ cut.1)) (omega arith) (omega arith))
      | false ↦ λ is.
          let none : HasNone (r.line ++ b ∷ []) = one-more r.line b h.begun is in
          let cut = begun-part (r.line ++ b ∷ []) more none in
          rw (← append_assoc r.line (b ∷ []) more, cut.2)
          (at_end Replay r.reader events r.number r.start (r.line ++ b ∷ []) cut.0 cut.1 (omega arith) (omega (arith, length-append r.line (b ∷ []))))
    ] refl
    ∙ ap (λ (c : Cause). Err (r.number, c)) size

pub no-size : (a b : Bool) → b ≡ false → cond (a && b) cause.Size cause.Long ≡ cause.Long
no-size true b is = rw is refl
no-size false b is = refl

-- the byte past the longest line
pub refused-by-length : (text : List ℕ) (events : List Event) (r : Fed) (b : ℕ) (more : List ℕ) → StandsFor text events r → eqb b 10 ≡ false → 1024 ≤ length r.line → r.start + length r.line < 16777216
    → script_of ((text ++ b ∷ []) ++ more) ≡ Err (r.number, cause.Long)
refused-by-length text events r b more h is long within =
    let far : ltb (16777216 - r.start) 1025 ≡ false = le-ltb (16777216 - r.start) 1025 (omega arith) in
    let size : long_cause r.start ≡ cause.Long = no-size (leb r.start 16777216) (ltb (16777216 - r.start) 1025) far in
    let none : HasNone (r.line ++ b ∷ []) = one-more r.line b h.begun is in
    let cut = begun-part (r.line ++ b ∷ []) more none in
    ap script_of (append_assoc text (b ∷ []) more) ∙ goes-on-from-text text events r (b ∷ more) h
    ∙ rw (← append_assoc r.line (b ∷ []) more, cut.2)
    (refused_last Replay r.reader events r.number r.start (r.line ++ b ∷ []) cut.0 cut.1 (omega (arith, length-append r.line (b ∷ []))))
    ∙ ap (λ (c : Cause). Err (r.number, c)) size

-- a line that is faulty by what it says
faulty-line : (text : List ℕ) (events : List Event) (r : Fed) (more : List ℕ) (c : Cause) → StandsFor text events r → after_line r.reader (text_line r.start r.line true) ≡ Err c
    → script_of ((text ++ 10 ∷ []) ++ more) ≡ Err (r.number, c)
faulty-line text events r more c h is =
    let cut = split-first (λ byte. eqb byte 10) more in
    ap script_of (append_assoc text (10 ∷ []) more) ∙ goes-on-from-text text events r (10 ∷ more) h
    ∙ rw (one-part r.line more h.begun, cut.2, is) refl

pub refused-line : (text : List ℕ) (events : List Event) (r : Fed) (fault : LineFault) → StandsFor text events r → IsFaulty fault (after_line r.reader (text_line r.start r.line true)) → IsRefusedFor (text ++ 10 ∷ []) (script_with r.reader events) (fault_at r.number fault)
refused-line text events r (Faulty c) h is = refused-for text events r 10 c h (λ more. faulty-line text events r more c h is)
refused-line text events r NoMemory h is = tt

-- a line that is accepted
pub stands-behind : (text : List ℕ) (events : List Event) (r : Fed) (e : Reader) (event : Option Event) → StandsFor text events r → after_line r.reader (text_line r.start r.line true) ≡ Ok (e, event)
    → StandsFor (text ++ 10 ∷ []) (events ++ option_to_list event) (record { reader = e; line = []; number = r.number + 1; start = r.start + (length r.line + 1) })
stands-behind text events r e event h is =
    let whole = h.whole ++ (r.line ++ 10 ∷ []) in
    let lines : lines_of whole ≡ lines_of h.whole ++ text_line r.start r.line true ∷ [] =
    cut-lines h.whole (r.line ++ 10 ∷ []) h.ends ∙ rw (one-part r.line [] h.begun, h.start_is) refl in
    let size : length (lines_of whole) ≡ length (lines_of h.whole) + 1 = ap length lines ∙ length-append (lines_of h.whole) (text_line r.start r.line true ∷ []) in
    let number = h.number_is in
    let start = h.start_is in
    record {
      whole = whole;
      text_is = ap (λ t. t ++ 10 ∷ []) h.text_is ∙ append_assoc h.whole r.line (10 ∷ []) ∙ sym (append-nil whole);
      ends = unfinished-behind 0 h.whole (r.line ++ 10 ∷ []) ∙ unfinished-behind (unfinished h.whole) r.line (10 ∷ []);
      begun = refl;
      read = ap (after_lines fresh []) lines ∙ read-behind (lines_of h.whole) (text_line r.start r.line true ∷ []) fresh r.reader [] events h.read ∙ rw is refl;
      number_is = omega (arith, number, size);
      start_is = omega (arith, start, length-append h.whole (r.line ++ 10 ∷ []), length-append r.line (10 ∷ []));
    }

same-fed : (r : Fed) (line : List ℕ) (number start : ℕ) → r.line ≡ line → r.number ≡ number → r.start ≡ start → r ≡ record { reader = r.reader; line = line; number = number; start = start }
same-fed r line number start a b c = rw (← a, ← b, ← c) refl

abbrev line_of : Fed → TextLine
line_of r = text_line r.start r.line true

pub line-read : (text : List ℕ) (events : List Event) (r : Fed) (b : ℕ) (result : Result (Option Event) ScriptFault) (new : Fed) → StandsFor text events r → b ≡ 10
    → MatchResult result
    (λ event. (after_line r.reader (line_of r) ≡ Ok (new.reader, event)) × (new.line ≡ []) × (new.number ≡ r.number + 1) × (new.start ≡ r.start + (length r.line + 1)))
    (λ fault. (cause : LineFault) × (fault ≡ fault_at r.number cause) × IsFaulty cause (after_line r.reader (line_of r)))
    → MatchResult result (λ event. StandsFor (text ++ b ∷ []) (events ++ option_to_list event) new) (IsRefusedFor (text ++ b ∷ []) (script_with r.reader events))
line-read text events r b (Ok event) new h is read =
    let same : new ≡ record { reader = new.reader; line = []; number = r.number + 1; start = r.start + (length r.line + 1) } = same-fed new [] (r.number + 1) (r.start + (length r.line + 1)) read.1 read.2 read.3 in
    rw is (subst (StandsFor (text ++ 10 ∷ []) (events ++ option_to_list event)) (sym same) (stands-behind text events r new.reader event h read.0))
line-read text events r b (Err fault) new h is read =
    rw is (subst (IsRefusedFor (text ++ 10 ∷ []) (script_with r.reader events)) (sym read.1) (refused-line text events r read.0 h read.2))

-- ---- at the end of the text

pub ends-without-line : (text : List ℕ) (events : List Event) (r : Fed) → StandsFor text events r → r.line ≡ [] → EndsFor text (events ++ []) r
ends-without-line text events r h none =
    let is : text ≡ h.whole = h.text_is ∙ ap (λ line. h.whole ++ line) none ∙ append-nil h.whole in
    rw (append-nil events, is) (record { read = h.read; number_is = h.number_is })

unended-lines : (start : ℕ) (line : List ℕ) → (line ≡ [] → ⊥) → lines_from start (line ∷ []) ≡ text_line start line false ∷ []
unended-lines start [] some = absurd (some refl)
unended-lines start (x ∷ line) some = refl

-- the lines of a text whose last line no line feed ends
last-lines : (text : List ℕ) (events : List Event) (r : Fed) (h : StandsFor text events r) → (r.line ≡ [] → ⊥) → lines_of text ≡ lines_of h.whole ++ text_line r.start r.line false ∷ []
last-lines text events r h some =
    ap lines_of h.text_is ∙ cut-lines h.whole r.line h.ends
    ∙ rw (last-part r.line h.begun, ← h.start_is, unended-lines r.start r.line some) refl

ends-with-line : (text : List ℕ) (events : List Event) (r new : Fed) (event : Option Event) → StandsFor text events r → (r.line ≡ [] → ⊥) → after_line r.reader (text_line r.start r.line false) ≡ Ok (new.reader, event) → new.number ≡ r.number + 1
    → EndsFor text (events ++ option_to_list event) new
ends-with-line text events r new event h some is next =
    let lines = last-lines text events r h some in
    let number = h.number_is in
    let size : length (lines_of text) ≡ length (lines_of h.whole) + 1 = ap length lines ∙ length-append (lines_of h.whole) (text_line r.start r.line false ∷ []) in
    record {
      read = ap (after_lines fresh []) lines ∙ read-behind (lines_of h.whole) (text_line r.start r.line false ∷ []) fresh r.reader [] events h.read ∙ rw is refl;
      number_is = omega (arith, number, size, next);
    }

last-fault : (text : List ℕ) (events : List Event) (r : Fed) (c : Cause) → StandsFor text events r → (r.line ≡ [] → ⊥) → after_line r.reader (text_line r.start r.line false) ≡ Err c → script_of text ≡ Err (r.number, c)
unfolding script_of
last-fault text events r c h some is =
    let number : 1 + length (lines_of h.whole) ≡ r.number = let is' = h.number_is in omega (arith, is') in
    ap (script_from fresh [] 1) (last-lines text events r h some)
    ∙ script-behind (lines_of h.whole) (text_line r.start r.line false ∷ []) fresh r.reader [] events 1 h.read
    ∙ rw (number, is) refl

refused-last-line : (text : List ℕ) (events : List Event) (r : Fed) (fault : LineFault) → StandsFor text events r → (r.line ≡ [] → ⊥) → IsFaulty fault (after_line r.reader (text_line r.start r.line false)) → IsRefusedAtEnd text (script_with r.reader events) (fault_at r.number fault)
refused-last-line text events r (Faulty c) h some is =
    let all : text ++ [] ≡ text = append-nil text in
    rw all at (refused-with text events r [] c h (ap script_of all ∙ last-fault text events r c h some is))
refused-last-line text events r NoMemory h some is = tt

pub last-line-read : (text : List ℕ) (events : List Event) (r new : Fed) (result : Result (Option Event) ScriptFault) → StandsFor text events r → (r.line ≡ [] → ⊥)
    → MatchResult result
    (λ event. (after_line r.reader (text_line r.start r.line false) ≡ Ok (new.reader, event)) × (new.line ≡ []) × (new.number ≡ r.number + 1) × (new.start ≡ r.start + (length r.line + 0)))
    (λ fault. (cause : LineFault) × (fault ≡ fault_at r.number cause) × IsFaulty cause (after_line r.reader (text_line r.start r.line false)))
    → MatchResult result (λ event. EndsFor text (events ++ option_to_list event) new) (IsRefusedAtEnd text (script_with r.reader events))
last-line-read text events r new (Ok event) h some read = ends-with-line text events r new event h some read.0 read.2
last-line-read text events r new (Err fault) h some read = subst (IsRefusedAtEnd text (script_with r.reader events)) (sym read.1) (refused-last-line text events r read.0 h some read.2)

-- what the whole text says
pub says-at-end : (text : List ℕ) (events : List Event) (r : Fed) → EndsFor text events r → script_of text ≡ at_line r.number (finished r.reader events) Ok
unfolding script_of
says-at-end text events r h =
    let number : 1 + length (lines_of text) ≡ r.number = let is = h.number_is in omega (arith, is) in
    ap (script_from fresh [] 1) (sym (append-nil (lines_of text)))
    ∙ script-behind (lines_of text) [] fresh r.reader [] events 1 h.read
    ∙ rw number refl

pub closed : (text : List ℕ) (events : List Event) (r : Fed) → EndsFor text events r → is_ended (stage_of r.reader) ≡ true → script_of text ≡ Ok (script_with r.reader events)
closed text events r h is = says-at-end text events r h ∙ rw is refl

pub left-open : (text : List ℕ) (events : List Event) (r : Fed) → EndsFor text events r → is_ended (stage_of r.reader) ≡ false → IsRefusedAtEnd text (script_with r.reader events) (fault.At r.number cause.NoEnd)
unfolding accepted_script
left-open text events r h is =
    (says-at-end text events r h ∙ rw is refl, ap (λ lines. script_at (accepted fresh [] lines)) (sym (append-nil (lines_of text))) ∙ ap script_at (accepted-behind (lines_of text) [] fresh r.reader [] events h.read))
