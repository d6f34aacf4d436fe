-- A line that is refused stays so, whatever follows.
use Rattle.std.proofs.Common.{◌≡◌, ◌⊎◌, ℕ, ◌+◌, ◌-◌, ◌<◌, min, Bool, true, false, cond, ltb, leb, eqb, List, [], ◌∷◌, ◌++◌, length, Option, Result, Ok, Err, refl, sym, ap, ◌∙◌, arith, inl, inr, append-nil, length-append}
use Rattle.std.specs.Prelude.{◌&&◌}
use Rattle.std.specs.List.{onto_first}
use Rattle.std.proofs.lemmas.Bool.{lt-ltb}
use Rattle.line_script.specs.declared.fault.Cause.{Cause}
use Rattle.line_script.specs.declared.fault.Cause.TheVariants as cause
use Rattle.line_script.specs.declared.reader.Reader.{Reader}
use Rattle.script_parts.specs.declared.script.Event.{Event}
use Rattle.script_parts.specs.declared.script.Script.{Script}
use Rattle.line_script.specs.declared.profile.Profile.{Profile}
use Rattle.line_script.specs.Lines.{TextLine, text_line, lines_from, line_for, words_for, content, is_ended, script_with}
use Rattle.script_statement.specs.Words.{words}
use Rattle.line_script.specs.ScriptText.{at_line, lines_for, with_event, parts, script_for}
use Rattle.line_script.specs.Readers.{fresh_for, stage_of}
use Rattle.line_script.specs.Unfinished.{unfinished_after, IsSettled}
use Rattle.line_script.proofs.Cuts.{split-first}
use Rattle.line_script.proofs.LongTexts.{by-lines, onto_all, onto_all-first, onto_all-nil, Read, read_on}

-- the cause of a line of over 1,024 bytes
abbrev pub long_cause : ℕ → Cause
long_cause start = cond (leb start 16777216 && ltb (16777216 - start) 1025) cause.Size cause.Long

one_cause : (near : Bool) (read : Result (Reader × Option Event) Cause) → cond near (Err cause.Size) (cond true (Err cause.Long) read) ≡ Err (cond near cause.Size cause.Long)
one_cause true read = refl
one_cause false read = refl

long_line : (profile : Profile) (d : Reader) (start : ℕ) (line : List ℕ) (ended : Bool) → 1024 < length line → line_for profile d (text_line start line ended) ≡ Err (long_cause start)
long_line profile d start line ended long =
    let all : min 1025 (length line + cond ended 1 0) ≡ 1025 = omega arith in
    let is : ltb 1024 (length line) ≡ true = lt-ltb 1024 (length line) long in
    rw (all, is) (one_cause (leb start 16777216 && ltb (16777216 - start) 1025) (words_for profile d (words (content (text_line start line ended)))))

-- a line that is refused, whatever lines follow
refused_first : (profile : Profile) (d : Reader) (events : List Event) (number start : ℕ) (line : List ℕ) (ended : Bool) (lines : List TextLine) → 1024 < length line
    → lines_for profile d events number (text_line start line ended ∷ lines) ≡ Err (number, long_cause start)
refused_first profile d events number start line ended lines long =
    ap (λ r. at_line number (with_event events r) (λ step. lines_for profile step.0 step.1 (number + 1) lines)) (long_line profile d start line ended long)

-- a last line of over 1,024 bytes
pub refused_last : (profile : Profile) (d : Reader) (events : List Event) (number start : ℕ) (line more : List ℕ) (rest : List (List ℕ)) → 1024 < length line
    → read_on profile d events number start ((line ++ more) ∷ rest) ≡ Err (number, long_cause start)
refused_last profile d events number start [] more [] long = absurd (omega arith)
refused_last profile d events number start (x ∷ line) more [] long = refused_first profile d events number start ((x ∷ line) ++ more) false [] (omega (arith, length-append (x ∷ line) more))
refused_last profile d events number start line more (next ∷ rest) long =
    refused_first profile d events number start (line ++ more) true (lines_from (start + (length (line ++ more) + 1)) (next ∷ rest)) (omega (arith, length-append line more))

-- at the end of a text only `end` can be missing
abbrev told : Read → Cause
told (Ok script) = cause.NoEnd
told (Err fault) = fault.1

open_at : (ended : Bool) (script : Script) (number k : ℕ) (c : Cause) → at_line number (cond ended (Ok script) (Err cause.NoEnd)) Ok ≡ Err (k, c) → c ≡ cause.NoEnd
open_at true script number k c is = sym (ap told is)
open_at false script number k c is = sym (ap told is)

only_open : (profile : Profile) (d : Reader) (events : List Event) (number k : ℕ) (c : Cause) → lines_for profile d events number [] ≡ Err (k, c) → c ≡ cause.NoEnd
only_open profile d events number k c is = open_at (is_ended (stage_of d)) (script_with d events) number k c is

-- one line that both texts have, and then what they have behind it
after_both : (number k : ℕ) (c : Cause) (r : Result (Reader × List Event) Cause) (f g : Reader × List Event → Read) → ((step : Reader × List Event) → f step ≡ Err (k, c) → g step ≡ Err (k, c))
    → at_line number r f ≡ Err (k, c) → at_line number r g ≡ Err (k, c)
after_both number k c (Err cause) f g lead is = is
after_both number k c (Ok step) f g lead is = lead step is

-- the last line, with `front` as its bytes
at_last : (profile : Profile) (d : Reader) (events : List Event) (number start k : ℕ) (c : Cause) (front more : List ℕ) (rest : List (List ℕ)) → (length front ≡ 0) ⊎ (1024 < length front) → (c ≡ cause.NoEnd → ⊥)
    → read_on profile d events number start (front ∷ []) ≡ Err (k, c) → read_on profile d events number start ((front ++ more) ∷ rest) ≡ Err (k, c)
at_last profile d events number start k c [] more rest settled other is = absurd (other (only_open profile d events number k c is))
at_last profile d events number start k c (x ∷ front) more rest settled other is = elim settled [
  | inl none ↦ absurd (omega (arith, none))
  | inr long ↦ refused_last profile d events number start (x ∷ front) more rest long ∙ sym (refused_first profile d events number start (x ∷ front) false [] long) ∙ is
]

pub stays_from : (profile : Profile) (text more front : List ℕ) (d : Reader) (events : List Event) (number start k : ℕ) (c : Cause)
    → (unfinished_after (length front) text ≡ 0) ⊎ (1024 < unfinished_after (length front) text) → (c ≡ cause.NoEnd → ⊥)
    → read_on profile d events number start (onto_all front (parts text)) ≡ Err (k, c) → read_on profile d events number start (onto_all front (parts (text ++ more))) ≡ Err (k, c)
stays_from profile [] more front d events number start k c settled other is =
    let cut = split-first (λ byte. eqb byte 10) more in
    rw (cut.2) (at_last profile d events number start k c front cut.0 cut.1 settled other (rw (append-nil front) at is))
stays_from profile (x ∷ text) more front d events number start k c settled other is =
    let cut = split-first (λ byte. eqb byte 10) text in
    let cut' = split-first (λ byte. eqb byte 10) (text ++ more) in
    elim (eqb x 10) as (λ b. ((unfinished_after (cond b 0 (length front + 1)) text ≡ 0) ⊎ (1024 < unfinished_after (cond b 0 (length front + 1)) text))
    → read_on profile d events number start (onto_all front (cond b ([] ∷ parts text) (onto_first x (parts text)))) ≡ Err (k, c)
    → read_on profile d events number start (onto_all front (cond b ([] ∷ parts (text ++ more)) (onto_first x (parts (text ++ more))))) ≡ Err (k, c)) [
      | true ↦ λ settled' is'.
          rw (append-nil front, cut'.2)
          (after_both number k c (with_event events (line_for profile d (text_line start front true)))
          (λ step. read_on profile step.0 step.1 (number + 1) (start + (length front + 1)) (cut.0 ∷ cut.1))
          (λ step. read_on profile step.0 step.1 (number + 1) (start + (length front + 1)) (cut'.0 ∷ cut'.1))
          (λ step. rw (cut.2, cut'.2) at (stays_from profile text more [] step.0 step.1 (number + 1) (start + (length front + 1)) k c settled' other))
          (rw (append-nil front, cut.2) at is'))
      | false ↦ λ settled' is'.
          let size : length (front ++ x ∷ []) ≡ length front + 1 = omega (arith, length-append front (x ∷ [])) in
          rw (onto_all-first front x (parts (text ++ more)))
          (stays_from profile text more (front ++ x ∷ []) d events number start k c (rw size settled') other (rw (onto_all-first front x (parts text)) at is'))
    ] settled is

pub stays_refused : (profile : Profile) (text more : List ℕ) (number : ℕ) (fault : Cause) → IsSettled text → script_for profile text ≡ Err (number, fault) → (fault ≡ cause.NoEnd → ⊥) → script_for profile (text ++ more) ≡ Err (number, fault)
stays_refused profile text more number fault settled is other =
    let cut = split-first (λ byte. eqb byte 10) text in
    let cut' = split-first (λ byte. eqb byte 10) (text ++ more) in
    let all = ap (read_on profile (fresh_for profile) [] 1 0) (onto_all-nil (parts text) cut.0 cut.1 cut.2) ∙ sym (by-lines profile text) ∙ is in
    by-lines profile (text ++ more)
    ∙ ap (read_on profile (fresh_for profile) [] 1 0) (sym (onto_all-nil (parts (text ++ more)) cut'.0 cut'.1 cut'.2))
    ∙ stays_from profile text more [] (fresh_for profile) [] 1 0 number fault settled other all
