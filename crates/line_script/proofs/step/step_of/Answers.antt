use Rattle.std.proofs.Common.{◌≡◌, ◌≤◌, false, Some, Option, length, rules, refl, ap, subst, sym, unwrap_or, slice_index_or}
use Rattle.std.proofs.lemmas.List.{take_rest}
use Rattle.script_statement.specs.Statements.{statement_of}
use Rattle.script_statement.specs.Words.{words}
use Rattle.script_statement.specs.declared.statement.Statement.TheVariants.{Times}
use Rattle.line_script.specs.Lines.{is_passed_over}
use Rattle.line_script.specs.declared.step.TimesEvent.{TimesEvent}
use Rattle.line_script.proofs.Steps.{is_step}
use Rattle.line_script.proofs.step.step_of.Goals as goal

pub returns-in_ok-count_of-in-32-clause-says : goal.returns-in_ok-count_of-in-32-clause-says
returns-in_ok-count_of-in-32-clause-says c =
    let line = c.args.line.now in
    let side = c.in_ok-side_of-in-32.field-0 in
    let verb = c.in_ok-verb_of-in-32.field-0 in
    let n = c.in_ok-count_of-in-32.field-0 in
    let some : 3 ≤ length line = search rules in
    let blank : slice_index_or line 2 0 ≡ 32 = search rules in
    let end = c.in_ok-side_of-in-32.ensures.letter side refl in
    let count = c.in_ok-count_of-in-32.ensures.number n refl in
    let known : (is_passed_over (words line) ≡ false) × (statement_of (words line) ≡ Some (Times side verb (Some n))) =
    is_step line _ side verb n some blank (take_rest line 3) end.0 end.1 end.2 (sym c.in_ok-verb_of-in-32.ensures) count.0 count.1 count.2 in
    let step : TimesEvent = record { side = side; verb = verb; n = n } in
    λ x is. subst (λ (s : TimesEvent). (is_passed_over (words line) ≡ false) × (statement_of (words line) ≡ Some (Times s.side s.verb (Some s.n)))) (ap (λ (o : Option TimesEvent). unwrap_or o step) is) known
