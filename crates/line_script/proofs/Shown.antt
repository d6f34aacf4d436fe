-- What a text shows that comes byte by byte: the script that its whole lines make, which stays a front of what the longer text makes.
use Rattle.std.proofs.Common.{◌≡◌, inl, ℕ, ◌+◌, ◌-◌, true, false, eqb, List, [], ◌∷◌, ◌++◌, length, take, Ok, Err, refl, sym, ap, subst, ◌∙◌, arith, append_assoc, append-nil, length-append}
use Rattle.std.proofs.Math.Seq.{take-append_seam, take-length}
use Rattle.line_script.specs.declared.reader.Reader.{Reader}
use Rattle.script_parts.specs.declared.script.Event.{Event}
use Rattle.line_script.specs.Readers.{fresh}
use Rattle.line_script.specs.Fed.{Fed, StandsFor, EndsFor, lines_of, accepted, accepted_script, ended, script_at}
use Rattle.line_script.specs.Left.{after_lines, and_then}
use Rattle.line_script.specs.Lines.{TextLine, after_line, lines_from, script_with}
use Rattle.script_parts.specs.HalfPlayable.{CanBePlayed}
use Rattle.line_script.specs.ScriptText.{parts, with_event}
use Rattle.line_script.specs.Unfinished.{unfinished, unfinished_after}
use Rattle.line_script.proofs.Fed.{accepted-behind, accepted-on-from-text, same-read, unfinished-behind, unfinished-line}
use Rattle.line_script.proofs.Setup.{Extends, TellsEvents, extends, tells-after}
use Rattle.line_script.proofs.Standing.{Stands, IfNext, lined, closes, stands_at_first}

-- how many bytes stand behind the last line feed
pub left-begun : (text : List ℕ) (events : List Event) (r : Fed) → StandsFor text events r → unfinished text ≡ length r.line
left-begun text events r h =
    let size : 0 + length r.line ≡ length r.line = omega arith in
    ap unfinished h.text_is ∙ unfinished-behind 0 h.whole r.line ∙ ap (λ n. unfinished_after n r.line) h.ends ∙ unfinished-line 0 r.line h.begun ∙ size

seam : (n : ℕ) (xs ys : List ℕ) → n ≡ length xs → take n (xs ++ ys) ≡ xs
seam n xs ys is = rw is (take-append_seam xs ys)

pub ended-is-whole : (text : List ℕ) (events : List Event) (r : Fed) (h : StandsFor text events r) → ended text ≡ h.whole
ended-is-whole text events r h =
    let begun = left-begun text events r h in
    let all : length text ≡ length h.whole + length r.line = ap length h.text_is ∙ length-append h.whole r.line in
    ap (take (length text - unfinished text)) h.text_is ∙ seam (length text - unfinished text) h.whole r.line (omega (arith, begun, all))

-- what is known after lines, as what is accepted of them
accepted-all : (lines : List TextLine) (d : Reader) (events : List Event) → after_lines fresh [] lines ≡ Ok (d, events) → accepted fresh [] lines ≡ (d, events)
accepted-all lines d events is = ap (accepted fresh []) (sym (append-nil lines)) ∙ accepted-behind lines [] fresh d [] events is

pub shown-script : (text : List ℕ) (events : List Event) (r : Fed) → StandsFor text events r → accepted_script (ended text) ≡ script_with r.reader events
unfolding accepted_script
shown-script text events r h =
    ap (λ t. script_at (accepted fresh [] (lines_of t))) (ended-is-whole text events r h) ∙ ap script_at (accepted-all (lines_of h.whole) r.reader events h.read)

pub script-at-end : (text : List ℕ) (events : List Event) (r : Fed) → EndsFor text events r → accepted_script text ≡ script_with r.reader events
unfolding accepted_script
script-at-end text events r h = ap script_at (accepted-all (lines_of text) r.reader events h.read)

pub tells : (text : List ℕ) (events : List Event) (r : Fed) → StandsFor text events r → TellsEvents r.reader events
tells text events r h = tells-after (lines_of h.whole) fresh r.reader [] events (inl refl) h.read

-- ---- what follows adds events

pub front-of : (text : List ℕ) (events : List Event) (r : Fed) (more : List ℕ) → StandsFor text events r → Extends r.reader events (accepted fresh [] (lines_of (text ++ more)))
front-of text events r more h =
    rw (accepted-on-from-text text events r more h) (extends (lines_from r.start (parts (r.line ++ more))) r.reader events)

pub front-at-end : (text : List ℕ) (events all : List Event) (r new : Fed) → StandsFor text events r → EndsFor text all new → Extends r.reader events (new.reader, all)
front-at-end text events all r new h over =
    subst (Extends r.reader events) (ap (λ t. accepted fresh [] (lines_of t)) (append-nil text) ∙ accepted-all (lines_of text) new.reader all over.read) (front-of text events r [] h)

-- a byte that is no line feed ends no line
no-line : (text : List ℕ) (events all : List Event) (r new : Fed) (b : ℕ) → eqb b 10 ≡ false → StandsFor text events r → StandsFor (text ++ b ∷ []) all new → (r.reader ≡ new.reader) × (events ≡ all)
no-line text events all r new b is h h' =
    let begun = left-begun text events r h in
    let left : unfinished (text ++ b ∷ []) ≡ unfinished text + 1 = unfinished-behind 0 text (b ∷ []) ∙ rw is refl in
    let size = length-append text (b ∷ []) in
    let all-is : text ++ b ∷ [] ≡ h.whole ++ (r.line ++ b ∷ []) = ap (λ t. t ++ b ∷ []) h.text_is ∙ append_assoc h.whole r.line (b ∷ []) in
    let whole-size : length text ≡ length h.whole + length r.line = ap length h.text_is ∙ length-append h.whole r.line in
    let whole : h'.whole ≡ h.whole =
    sym (ended-is-whole (text ++ b ∷ []) all new h') ∙ ap (take (length (text ++ b ∷ []) - unfinished (text ++ b ∷ []))) all-is
    ∙ seam (length (text ++ b ∷ []) - unfinished (text ++ b ∷ [])) h.whole (r.line ++ b ∷ []) (omega (arith, begun, left, size, whole-size)) in
    same-read r.reader new.reader events all (sym h.read ∙ ap (λ t. after_lines fresh [] (lines_of t)) (sym whole) ∙ h'.read)

-- a line feed ends all lines so far
all-lines : (text : List ℕ) (all : List Event) (new : Fed) (b : ℕ) → eqb b 10 ≡ true → StandsFor (text ++ b ∷ []) all new → accepted fresh [] (lines_of (text ++ b ∷ [])) ≡ (new.reader, all)
all-lines text all new b is h =
    let none : unfinished (text ++ b ∷ []) ≡ 0 = unfinished-behind 0 text (b ∷ []) ∙ rw is refl in
    let size : length (text ++ b ∷ []) - unfinished (text ++ b ∷ []) ≡ length (text ++ b ∷ []) = omega (arith, none) in
    let whole : text ++ b ∷ [] ≡ h.whole = sym (take-length (text ++ b ∷ [])) ∙ ap (λ n. take n (text ++ b ∷ [])) (sym size) ∙ ended-is-whole (text ++ b ∷ []) all new h in
    ap (λ t. accepted fresh [] (lines_of t)) whole ∙ accepted-all (lines_of h.whole) new.reader all h.read

same-extends : (d e : Reader) (events all : List Event) → (d ≡ e) × (events ≡ all) → Extends d events (e, all)
same-extends d e events all same = rw (← same.0, ← same.1) (record { more = []; are = sym (append-nil events); setup = λ begun. λ x. refl })

pub front-by-byte : (text : List ℕ) (events all : List Event) (r new : Fed) (b : ℕ) → StandsFor text events r → StandsFor (text ++ b ∷ []) all new → Extends r.reader events (new.reader, all)
front-by-byte text events all r new b h h' =
    elim (eqb b 10) as (λ x. eqb b 10 ≡ x → Extends r.reader events (new.reader, all)) [
      | true ↦ λ is. subst (Extends r.reader events) (all-lines text all new b is h') (front-of text events r (b ∷ []) h)
      | false ↦ λ is. same-extends r.reader new.reader events all (no-line text events all r new b is h h')
    ] refl

-- ---- the script so far can be played

stands-after : (lines : List TextLine) (d e : Reader) (events all : List Event) → Stands d events → after_lines d events lines ≡ Ok (e, all) → Stands e all
stands-after [] d e events all h is = let same = same-read d e events all is in rw (← same.0, ← same.1) h
stands-after (line ∷ lines) d e events all h is =
    elim (after_line d line) as (λ r. IfNext events r → and_then (with_event events r) (λ step. after_lines step.0 step.1 lines) ≡ Ok (e, all) → Stands e all) [
      | Err c ↦ λ next no. cc
      | Ok step ↦ λ next on. stands-after lines step.0 e _ all next on
    ] (lined d events line h) is

pub playable : (text : List ℕ) (events : List Event) (r : Fed) → StandsFor text events r → CanBePlayed (script_with r.reader events)
playable text events r h = closes r.reader events (stands-after (lines_of h.whole) fresh r.reader [] events stands_at_first h.read)

pub playable-at-end : (text : List ℕ) (events : List Event) (r : Fed) → EndsFor text events r → CanBePlayed (script_with r.reader events)
playable-at-end text events r h = closes r.reader events (stands-after (lines_of text) fresh r.reader [] events stands_at_first h.read)
