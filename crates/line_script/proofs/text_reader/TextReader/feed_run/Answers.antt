-- A run past a limit is refused, whatever follows it.
use Rattle.std.proofs.Common.{◌∙◌, ◌++◌, ap, arith, subst, sym}
use Rattle.std.proofs.lemmas.Grind.{common_steps}
use Rattle.line_script.specs.declared.fault.Cause.TheVariants as cause
use Rattle.line_script.specs.declared.fault.ScriptFault.TheVariants.{At}
use Rattle.line_script.specs.Lines.{script_with}
use Rattle.line_script.specs.Fed.{Fed, IsRefusedFor}
use Rattle.line_script.proofs.Runs.{run-past-line, run-past-script}
use Rattle.line_script.proofs.text_reader.TextReader.feed_run.Goals as goal

pub returns-then-self-min-clause-stands : goal.returns-then-self-min-clause-stands
returns-then-self-min-clause-stands c text events h =
    let within = c.self.invariant.0 in
    let past = c.if-self-min.true in
    let is = c.self.view_is in
    subst (IsRefusedFor (text ++ c.args.run.now) (script_with c.args.self.now.reader events)) (sym c.refusal.ensures)
    (run-past-script text c.args.run.now events c.args.self.now c.requires h (grind (arith, common_steps)) (grind (arith, common_steps)))

pub returns-in-Err-clause-stands : goal.returns-in-Err-clause-stands
returns-in-Err-clause-stands c text events h =
    let within = c.self.invariant.0 in
    let near = c.if-self-min.false in
    let full = c.in-Err.ensures.variant in
    let is = c.self.view_is in
    subst (IsRefusedFor (text ++ c.args.run.now) (script_with c.args.self.now.reader events)) (sym (c.refusal-in-Err.ensures ∙ ap (λ (r : Fed). At r.number cause.Long) is))
    (run-past-line text c.args.run.now events c.args.self.now c.requires h (grind (arith, common_steps)) (grind (arith, common_steps)))
