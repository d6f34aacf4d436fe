-- A text over the limit is refused where its first bytes are, and for the same cause, whatever follows them.
use Rattle.std.proofs.Common.{◌≡◌, ℕ, ◌+◌, ◌-◌, ◌<◌, ◌≤◌, min, Bool, true, false, cond, ltb, leb, eqb, List, [], ◌∷◌, ◌++◌, length, Option, Result, Ok, Err, refl, sym, ap, ◌∙◌, arith, inl, inr, append_assoc, append-nil, length-append}
use Rattle.std.specs.Prelude.{◌&&◌}
use Rattle.std.specs.List.{onto_first}
use Rattle.std.proofs.lemmas.Bool.{cases_lt, lt-ltb, le-ltb, le-leb, and_right}
use Rattle.line_script.specs.declared.fault.Cause.{Cause}
use Rattle.line_script.specs.declared.fault.Cause.TheVariants as cause
use Rattle.line_script.specs.declared.reader.Reader.{Reader}
use Rattle.script_parts.specs.declared.script.Event.{Event}
use Rattle.script_parts.specs.declared.script.Script.{Script}
use Rattle.line_script.specs.declared.profile.Profile.{Profile}
use Rattle.line_script.specs.declared.profile.Profile.TheVariants.{Replay, Route, Rehearse}
use Rattle.line_script.specs.Lines.{TextLine, text_line, lines_from, line_for}
use Rattle.line_script.specs.ScriptText.{at_line, lines_for, with_event, parts, script_for, script_of, text_for}
use Rattle.line_script.specs.Readers.{fresh_for}
use Rattle.line_script.proofs.Cuts.{split-first}

-- a text says what its lines say
pub by-lines : (profile : Profile) (text : List ℕ) → script_for profile text ≡ text_for profile text
unfolding script_for script_of
by-lines Replay text = refl
by-lines Route text = refl
by-lines Rehearse text = refl

-- the cause of a line with the first byte over the limit
abbrev pub over_cause : ℕ → Cause
over_cause start = cond (ltb (16777216 - start) 1025) cause.Size cause.Long

one_or_none : (ended : Bool) → cond ended 1 0 ≤ 1
one_or_none true = omega arith
one_or_none false = omega arith

-- a line with the first byte over the limit, its line feed counted
over : (profile : Profile) (d : Reader) (start : ℕ) (line : List ℕ) (ended : Bool) → start ≤ 16777216 → 16777216 < start + (length line + cond ended 1 0) → line_for profile d (text_line start line ended) ≡ Err (over_cause start)
over profile d start line ended le past = elim (cases_lt (16777216 - start) 1025) [
  | inl near ↦
      let at_start : leb start 16777216 ≡ true = le-leb start 16777216 le in
      let within : 16777216 - start < min 1025 (length line + cond ended 1 0) = omega arith in
      let reached : ltb (16777216 - start) (min 1025 (length line + cond ended 1 0)) ≡ true = lt-ltb _ _ within in
      rw (at_start, reached, lt-ltb (16777216 - start) 1025 near) refl
  | inr far ↦
      let few : min 1025 (length line + cond ended 1 0) ≤ 16777216 - start = omega arith in
      let beyond : ltb (16777216 - start) (min 1025 (length line + cond ended 1 0)) ≡ false = le-ltb _ _ few in
      let not_reached : (leb start 16777216 && ltb (16777216 - start) (min 1025 (length line + cond ended 1 0))) ≡ false = and_right _ _ beyond in
      let long : 1024 < length line = omega (arith, one_or_none ended) in
      rw (not_reached, lt-ltb 1024 (length line) long, le-ltb (16777216 - start) 1025 far) refl
]

-- parts with more at the front of the first
abbrev pub onto_all : List ℕ → List (List ℕ) → List (List ℕ)
onto_all front [] = front ∷ []
onto_all front (part ∷ parts) = (front ++ part) ∷ parts

pub onto_all-first : (front : List ℕ) (x : ℕ) (ps : List (List ℕ)) → onto_all front (onto_first x ps) ≡ onto_all (front ++ x ∷ []) ps
onto_all-first front x [] = refl
onto_all-first front x (part ∷ ps) = ap (λ (l : List ℕ). l ∷ ps) (sym (append_assoc front (x ∷ []) part))

pub onto_all-nil : (ps : List (List ℕ)) (part : List ℕ) (more : List (List ℕ)) → ps ≡ part ∷ more → onto_all [] ps ≡ ps
onto_all-nil ps part more is = rw is refl

-- the reading from a place of the text on
abbrev pub Read : Type 0
Read = Result Script (ℕ × Cause)

abbrev pub read_on : Profile → Reader → List Event → ℕ → ℕ → List (List ℕ) → Read
read_on profile d events number start ps = lines_for profile d events number (lines_from start ps)

-- both are refused at one line for one cause
record SameFault (r s : Read) : Type 0 where
  number : ℕ
  cause : Cause
  first : r ≡ Err (number, cause)
  second : s ≡ Err (number, cause)

pub first_over : (profile : Profile) (d : Reader) (events : List Event) (number start : ℕ) (line : List ℕ) (ended : Bool) (lines : List TextLine) → start ≤ 16777216 → 16777216 < start + (length line + cond ended 1 0)
    → lines_for profile d events number (text_line start line ended ∷ lines) ≡ Err (number, over_cause start)
first_over profile d events number start line ended lines le past =
    let fault = over profile d start line ended le past in
    ap (λ r. at_line number (with_event events r) (λ step. lines_for profile step.0 step.1 (number + 1) lines)) fault

-- the last line of the shorter text, which goes on in the longer one
unfinished : (profile : Profile) (d : Reader) (events : List Event) (number start : ℕ) (line more : List ℕ) → start ≤ 16777216 → 16777216 < start + length line
    → read_on profile d events number start ((line ++ more) ∷ []) ≡ Err (number, over_cause start)
unfinished profile d events number start [] more le past = absurd (omega arith)
unfinished profile d events number start (x ∷ line) more le past =
    first_over profile d events number start ((x ∷ line) ++ more) false [] le (omega (arith, length-append (x ∷ line) more))

pub at_end : (profile : Profile) (d : Reader) (events : List Event) (number start : ℕ) (line more : List ℕ) (rest : List (List ℕ)) → start ≤ 16777216 → 16777216 < start + length line
    → read_on profile d events number start ((line ++ more) ∷ rest) ≡ Err (number, over_cause start)
at_end profile d events number start line more [] le past = unfinished profile d events number start line more le past
at_end profile d events number start line more (next ∷ rest) le past =
    first_over profile d events number start (line ++ more) true (lines_from (start + (length (line ++ more) + 1)) (next ∷ rest)) le (omega (arith, length-append line more))

-- one line, the same in both texts, and then what they have behind it
line_by_line : (number : ℕ) (r : Result (Reader × List Event) Cause) (f g : Reader × List Event → Read) → ((step : Reader × List Event) → r ≡ Ok step → SameFault (f step) (g step))
    → SameFault (at_line number r f) (at_line number r g)
line_by_line number (Err cause) f g same = record { number = number; cause = cause; first = refl; second = refl }
line_by_line number (Ok step) f g same = same step refl

no_step : (events : List Event) (r : Result (Reader × Option Event) Cause) (c : Cause) (step : Reader × List Event) → r ≡ Err c → with_event events r ≡ Ok step → ⊥
no_step events r c step is ok = let no : Err c ≡ Ok step = sym (ap (with_event events) is) ∙ ok in cc

whole_line : (profile : Profile) (d : Reader) (events : List Event) (number start : ℕ) (line p q : List ℕ) (ps qs : List (List ℕ))
    → ((step : Reader × List Event) → with_event events (line_for profile d (text_line start line true)) ≡ Ok step
    → SameFault (read_on profile step.0 step.1 (number + 1) (start + (length line + 1)) (p ∷ ps)) (read_on profile step.0 step.1 (number + 1) (start + (length line + 1)) (q ∷ qs)))
    → SameFault (read_on profile d events number start (line ∷ p ∷ ps)) (read_on profile d events number start (line ∷ q ∷ qs))
whole_line profile d events number start line p q ps qs same =
    line_by_line number (with_event events (line_for profile d (text_line start line true)))
    (λ step. read_on profile step.0 step.1 (number + 1) (start + (length line + 1)) (p ∷ ps))
    (λ step. read_on profile step.0 step.1 (number + 1) (start + (length line + 1)) (q ∷ qs)) same

same_fault : (profile : Profile) (text more front : List ℕ) (d : Reader) (events : List Event) (number start : ℕ) → start ≤ 16777216 → 16777216 < start + (length front + length text)
    → SameFault (read_on profile d events number start (onto_all front (parts text))) (read_on profile d events number start (onto_all front (parts (text ++ more))))
same_fault profile [] more front d events number start le past =
    let cut = split-first (λ byte. eqb byte 10) more in
    record {
      number = number;
      cause = over_cause start;
      first = at_end profile d events number start front [] [] le (omega arith);
      second = rw (cut.2) (at_end profile d events number start front cut.0 cut.1 le (omega arith));
    }
same_fault profile (x ∷ text) more front d events number start le past =
    let cut = split-first (λ byte. eqb byte 10) text in
    let cut' = split-first (λ byte. eqb byte 10) (text ++ more) in
    elim (eqb x 10) as (λ b. SameFault (read_on profile d events number start (onto_all front (cond b ([] ∷ parts text) (onto_first x (parts text))))) (read_on profile d events number start (onto_all front (cond b ([] ∷ parts (text ++ more)) (onto_first x (parts (text ++ more))))))) [
      | true ↦
          rw (append-nil front, cut.2, cut'.2)
          (whole_line profile d events number start front cut.0 cut'.0 cut.1 cut'.1 (λ step ok. elim (cases_lt 16777216 (start + (length front + 1))) [
            | inl past' ↦ absurd (no_step events (line_for profile d (text_line start front true)) (over_cause start) step (over profile d start front true le (omega arith)) ok)
            | inr le' ↦ rw (cut.2, cut'.2) at (same_fault profile text more [] step.0 step.1 (number + 1) (start + (length front + 1)) le' (omega arith))
          ]))
      | false ↦
          rw (onto_all-first front x (parts text), onto_all-first front x (parts (text ++ more)))
          (same_fault profile text more (front ++ x ∷ []) d events number start le (omega (arith, length-append front (x ∷ []))))
    ]

pub refused_over : (profile : Profile) (text more : List ℕ) → 16777216 < length text → (number : ℕ) × (fault : Cause) × (script_for profile text ≡ Err (number, fault)) × (script_for profile (text ++ more) ≡ Err (number, fault))
refused_over profile text more long =
    let cut = split-first (λ byte. eqb byte 10) text in
    let cut' = split-first (λ byte. eqb byte 10) (text ++ more) in
    let same = same_fault profile text more [] (fresh_for profile) [] 1 0 (omega arith) (omega arith) in
    let first = ap (read_on profile (fresh_for profile) [] 1 0) (sym (onto_all-nil (parts text) cut.0 cut.1 cut.2)) ∙ same.first in
    let second = ap (read_on profile (fresh_for profile) [] 1 0) (sym (onto_all-nil (parts (text ++ more)) cut'.0 cut'.1 cut'.2)) ∙ same.second in
    (same.number, same.cause, by-lines profile text ∙ first, by-lines profile (text ++ more) ∙ second)
