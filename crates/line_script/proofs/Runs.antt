-- A run of bytes without a line feed, and a line feed behind it: what a reader makes of them at once is what it makes of them one by one.
use Rattle.std.proofs.Common.{◌≡◌, ◌∙◌, ℕ, ◌+◌, ◌-◌, ◌<◌, ◌≤◌, true, false, eqb, ltb, leb, min, List, [], ◌∷◌, ◌++◌, length, Option, Result, Ok, Err, refl, sym, ap, arith, append_assoc, length-append}
use Rattle.std.specs.Prelude.{IsErr, MatchResult}
use Rattle.std.specs.Option.{option_to_list}
use Rattle.std.proofs.lemmas.Bool.{eqb-true, lt-ltb, le-ltb}
use Rattle.std.proofs.lemmas.List.Folds.{list_any-append}
use Rattle.line_script.specs.declared.fault.Cause.{Cause}
use Rattle.line_script.specs.declared.fault.Cause.TheVariants as cause
use Rattle.line_script.specs.declared.fault.LineFault.{LineFault}
use Rattle.line_script.specs.declared.fault.LineFault.TheVariants.{Faulty}
use Rattle.line_script.specs.declared.fault.ScriptFault.{ScriptFault}
use Rattle.line_script.specs.declared.fault.ScriptFault.TheVariants as fault
use Rattle.script_parts.specs.declared.script.Event.{Event}
use Rattle.script_parts.specs.declared.script.Script.{Script}
use Rattle.line_script.specs.Fed.{Fed, HasNoFeed, IsRefusedFor, StandsFor, accepted_script}
use Rattle.line_script.specs.declared.profile.Profile.TheVariants.{Replay}
use Rattle.line_script.specs.Lines.{after_line, script_with, text_line}
use Rattle.line_script.specs.Refusal.{IsFaulty, fault_at}
use Rattle.line_script.specs.ScriptText.{script_of}
use Rattle.line_script.specs.Unfinished.{unfinished}
use Rattle.line_script.proofs.LongTexts.{at_end, over_cause}
use Rattle.line_script.proofs.Unfinished.{long_cause, refused_last}
use Rattle.line_script.proofs.Fed.{begun-part, goes-on-from-text, line-read, no-size, refused-with}
use Rattle.line_script.proofs.Shown.{left-begun}

-- a reader with more bytes of the line that is begun
abbrev pub holding : Fed → List ℕ → Fed
holding r run = record r { line = r.line ++ run }

pub stands-holding : (text run : List ℕ) (events : List Event) (r : Fed) → HasNoFeed run → StandsFor text events r → StandsFor (text ++ run) events (holding r run)
stands-holding text run events r none h = record {
  whole = h.whole;
  text_is = ap (λ t. t ++ run) h.text_is ∙ append_assoc h.whole r.line run;
  ends = h.ends;
  begun = list_any-append (λ byte. eqb byte 10) r.line run ∙ rw (h.begun, none) refl;
  read = h.read;
  number_is = h.number_is;
  start_is = h.start_is;
}

-- ---- a run that is refused

run-refused : (text run : List ℕ) (events : List Event) (r : Fed) (c : Cause) → HasNoFeed run → StandsFor text events r → ((more : List ℕ) → script_of ((text ++ run) ++ more) ≡ Err (r.number, c)) → IsRefusedFor (text ++ run) (script_with r.reader events) (fault.At r.number c)
run-refused text run events r c none h is = λ more. refused-with (text ++ run) events (holding r run) more c (stands-holding text run events r none h) (is more)

-- the byte past the longest script
pub run-past-script : (text run : List ℕ) (events : List Event) (r : Fed) → HasNoFeed run → StandsFor text events r → r.start ≤ 16777216 → 16777216 - r.start < min (length r.line + length run) 1025
    → IsRefusedFor (text ++ run) (script_with r.reader events) (fault.At r.number cause.Size)
run-past-script text run events r none h within past = run-refused text run events r cause.Size none h (λ more.
    let near : ltb (16777216 - r.start) 1025 ≡ true = lt-ltb (16777216 - r.start) 1025 (omega arith) in
    let size : over_cause r.start ≡ cause.Size = rw near refl in
    let begun = stands-holding text run events r none h in
    let cut = begun-part (r.line ++ run) more begun.begun in
    goes-on-from-text (text ++ run) events (holding r run) more begun
    ∙ rw (cut.2) (at_end Replay r.reader events r.number r.start (r.line ++ run) cut.0 cut.1 within (omega (arith, length-append r.line run)))
    ∙ ap (λ (c : Cause). Err (r.number, c)) size)

-- the byte past the longest line
pub run-past-line : (text run : List ℕ) (events : List Event) (r : Fed) → HasNoFeed run → StandsFor text events r → 1024 < length r.line + length run → 1025 ≤ 16777216 - r.start
    → IsRefusedFor (text ++ run) (script_with r.reader events) (fault.At r.number cause.Long)
run-past-line text run events r none h long far = run-refused text run events r cause.Long none h (λ more.
    let late : ltb (16777216 - r.start) 1025 ≡ false = le-ltb (16777216 - r.start) 1025 far in
    let size : long_cause r.start ≡ cause.Long = no-size (leb r.start 16777216) (ltb (16777216 - r.start) 1025) late in
    let begun = stands-holding text run events r none h in
    let cut = begun-part (r.line ++ run) more begun.begun in
    goes-on-from-text (text ++ run) events (holding r run) more begun
    ∙ rw (cut.2) (refused_last Replay r.reader events r.number r.start (r.line ++ run) cut.0 cut.1 (omega (arith, length-append r.line run)))
    ∙ ap (λ (c : Cause). Err (r.number, c)) size)

-- what is refused stays so with more behind it
pub refused-on : (text more : List ℕ) (script : Script) (f : ScriptFault) → IsRefusedFor text script f → IsRefusedFor (text ++ more) script f
refused-on text more script (fault.At line c) refused = λ rest.
    let same : (text ++ more) ++ rest ≡ text ++ (more ++ rest) = append_assoc text more rest in
    let at = refused (more ++ rest) in
    (ap script_of same ∙ at.0, ap accepted_script same ∙ at.1)
refused-on text more script fault.NoMemory refused = tt

-- ---- a line that is read where none is begun

pub is-empty : (line : List ℕ) → eqb (length line) 0 ≡ true → line ≡ []
is-empty [] is = refl
is-empty (x ∷ line) is = let none : length (x ∷ line) ≡ 0 = eqb-true (length (x ∷ line)) 0 is in absurd (omega (arith, none))

pub line-read-whole : (text run : List ℕ) (events : List Event) (r new : Fed) (result : Result (Option Event) ScriptFault) → HasNoFeed run → StandsFor text events r → r.line ≡ []
    → MatchResult result
    (λ event. (after_line r.reader (text_line r.start run true) ≡ Ok (new.reader, event)) × (new.line ≡ []) × (new.number ≡ r.number + 1) × (new.start ≡ r.start + (length run + 1)))
    (λ fault. (cause : LineFault) × (fault ≡ fault_at r.number cause) × IsFaulty cause (after_line r.reader (text_line r.start run true)))
    → MatchResult result (λ event. StandsFor ((text ++ run) ++ 10 ∷ []) (events ++ option_to_list event) new) (IsRefusedFor ((text ++ run) ++ 10 ∷ []) (script_with r.reader events))
line-read-whole text run events r new result none h empty read =
    let whole : r.line ++ run ≡ run = ap (λ line. line ++ run) empty in
    line-read (text ++ run) events (holding r run) 10 result new (stands-holding text run events r none h) refl (rw whole read)

-- where all lines of a text are ended, none is begun
pub none-begun : (text : List ℕ) (events : List Event) (r : Fed) → StandsFor text events r → unfinished text ≡ 0 → r.line ≡ []
none-begun text events r h ends = is-empty r.line (ap (λ n. eqb n 0) (sym (left-begun text events r h) ∙ ends))

-- a line that is faulty there makes a text that is no script, whatever follows
pub faulty-line : (text line rest : List ℕ) (events : List Event) (r : Fed) → HasNoFeed line → StandsFor text events r → unfinished text ≡ 0
    → IsErr (after_line r.reader (text_line r.start line true)) → IsErr (script_of ((text ++ line) ++ 10 ∷ rest))
faulty-line text line rest events r none h ends faulty =
    elim (after_line r.reader (text_line r.start line true)) as (λ a. after_line r.reader (text_line r.start line true) ≡ a → IsErr a → IsErr (script_of ((text ++ line) ++ 10 ∷ rest))) [
      | Ok step ↦ λ is no. cc
      | Err c ↦ λ is yes.
          let refused : IsRefusedFor ((text ++ line) ++ 10 ∷ []) (script_with r.reader events) (fault.At r.number c) =
          line-read-whole text line events r r (Err (fault.At r.number c)) none h (none-begun text events r h ends) (Faulty c, refl, is) in
          let read : script_of ((text ++ line) ++ 10 ∷ rest) ≡ Err (r.number, c) = ap script_of (sym (append_assoc (text ++ line) (10 ∷ []) rest)) ∙ (refused rest).0 in
          rw read refl
    ] refl faulty
