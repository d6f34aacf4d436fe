use Rattle.std.proofs.Common.{◌≡◌, arith, ◌∙◌, ◌+◌, ◌++◌, ◌∷◌, [], ℕ, List, Ok, Option, Some, ap, append_assoc, eqb, false, length, refl, rules, subst, sym, take, true, unwrap_or}
use Rattle.std.specs.Prelude.{IsErr}
use Rattle.duplex_script.specs.Drafts.{times_event}
use Rattle.line_script.specs.Fed.{Fed, HasNoFeed, StandsFor}
use Rattle.line_script.specs.Lines.{after_line, text_line}
use Rattle.line_script.specs.Steps.{step_before}
use Rattle.line_script.specs.Unfinished.{unfinished}
use Rattle.line_script.specs.declared.step.TimesEvent.{TimesEvent}
use Rattle.line_script.proofs.Runs.{faulty-line, is-empty, line-read-whole, none-begun}
use Rattle.line_script.proofs.Shown.{left-begun}
use Rattle.line_script.proofs.StepLines.{before_size, none_behind, step_line}
use Rattle.line_script.proofs.text_reader.TextReader.feed_step.Goals as goal

pub returns-then-not-is_empty-clause-refused : goal.returns-then-not-is_empty-clause-refused
returns-then-not-is_empty-clause-refused c is text line more rest events step h ends bytes known =
    let none = ap length (ap (λ (r : Fed). r.line) c.self.view_is ∙ none-begun text events c.args.self.now h ends) in
    let some : eqb (length c.self.inside.line.items) 0 ≡ false = search rules in
    let no : true ≡ false = sym (ap (λ n. eqb n 0) none) ∙ some in cc

pub returns-in_err-line-clause-refused : goal.returns-in_err-line-clause-refused
returns-in_err-line-clause-refused c none text line more rest events step h ends bytes is =
    let size = before_size line step is in
    let found = c.in_err-line.ensures.first line more (none_behind 4 line (step_line line step is)) size.0 size.1 bytes in cc

pub returns-in_err-step-clause-refused : goal.returns-in_err-step-clause-refused
returns-in_err-step-clause-refused c none text line more rest events step h ends bytes is =
    let read = c.in_ok-line.line.now in
    let size = before_size line step is in
    let same : line ≡ read = sym (ap (λ o. unwrap_or o line) (c.in_ok-line.ensures.first line more (none_behind 4 line (step_line line step is)) size.0 size.1 bytes)) in
    let faulty = subst (λ (r : Fed). IsErr (after_line r.reader (text_line r.start line true))) c.self.view_is
    (subst (λ (l : List ℕ). IsErr (after_line c.self.inside.reader (text_line c.self.inside.start l true))) (sym same)
    (c.in_err-step.ensures.refused refl step (ap step_before (sym same) ∙ is))) in
    faulty-line text line rest events c.args.self.now (step_line line step is) h ends faulty

pub returns-clause-begun : goal.returns-clause-begun
returns-clause-begun c text events h some =
    let none : eqb (length c.self.inside.line.items) 0 ≡ true = search rules in
    let empty = is-empty c.self.inside.line.items none in
    let ends : unfinished text ≡ 0 = left-begun text events c.args.self.now h ∙ ap length (sym (ap (λ (r : Fed). r.line) c.self.view_is) ∙ empty) in
    absurd (omega (arith, ends, some))

pub returns-clause-stands : goal.returns-clause-stands
returns-clause-stands c text events h x is =
    let inside = c.self.inside in
    let bytes = c.args.bytes.now in
    let line = c.in_ok-line.line.now in
    let step = c.in_ok-step.step in
    let r : Fed = record { reader = inside.reader; line = inside.line.items; number = inside.number; start = inside.start } in
    let new : Fed = record { reader = c.take_step.new.self; line = inside.line.items; number = inside.number + 1; start = inside.start + (length line + 1) } in
    let none : eqb (length inside.line.items) 0 ≡ true = search rules in
    let empty = is-empty inside.line.items none in
    let taken = c.in_ok-step.ensures.step in
    let read = line-read-whole text line events r new (Ok (Some (times_event step.side step.verb step.n))) (step_line line step taken.0) (subst (StandsFor text events) (sym c.self.view_is) h) empty (taken.1, empty, refl, refl) in
    let front : text ++ take (length line + 1) bytes ≡ (text ++ line) ++ 10 ∷ [] = ap (λ t. text ++ t) c.in_ok-line.ensures.cut.2 ∙ sym (append_assoc text line (10 ∷ [])) in
    let stands : StandsFor (text ++ take (length line + 1) bytes) (events ++ times_event step.side step.verb step.n ∷ []) new = subst (λ t. StandsFor t (events ++ times_event step.side step.verb step.n ∷ []) new) (sym front) read in
    subst (λ (t : TimesEvent × ℕ). StandsFor (text ++ take t.1 bytes) (events ++ times_event t.0.side t.0.verb t.0.n ∷ []) new) (ap (λ (o : Option (TimesEvent × ℕ)). unwrap_or o (step, length line + 1)) is) stands

pub returns-clause-line : goal.returns-clause-line
returns-clause-line c x is =
    let bytes = c.args.bytes.now in
    let line = c.in_ok-line.line.now in
    let step = c.in_ok-step.step in
    let known = c.in_ok-step.ensures.step.0 in
    let cut : (l : List ℕ) × (take (length line + 1) bytes ≡ l ++ 10 ∷ []) × HasNoFeed l × (step_before l ≡ Some step) =
    (line, c.in_ok-line.ensures.cut.2, step_line line step known, known) in
    subst (λ (t : TimesEvent × ℕ). (l : List ℕ) × (take t.1 bytes ≡ l ++ 10 ∷ []) × HasNoFeed l × (step_before l ≡ Some t.0)) (ap (λ (o : Option (TimesEvent × ℕ)). unwrap_or o (step, length line + 1)) is) cut
