use Rattle.std.proofs.Common.{◌++◌, ◌∷◌, [], arith, subst, sym}
use Rattle.std.proofs.lemmas.Grind.{common_steps}
use Rattle.std.proofs.lemmas.Bool.Decides.{nat_tests}
use Rattle.line_script.specs.declared.fault.Cause.TheVariants as cause
use Rattle.line_script.specs.Lines.{script_with}
use Rattle.line_script.specs.Fed.{IsRefusedFor}
use Rattle.line_script.proofs.Fed.{refused-by-size, refused-by-length, refused-for, line-read}
use Rattle.line_script.proofs.text_reader.TextReader.feed.Goals as goal

pub returns-then-self-len-ge-SCRIPT : goal.returns-then-self-len-ge-SCRIPT
returns-then-self-len-ge-SCRIPT c text events h =
    let within = c.self.invariant.0 in
    let reached = c.if-self-len-ge-SCRIPT.true in
    let is = c.self.view_is in
    subst (IsRefusedFor (text ++ c.args.b ∷ []) (script_with c.args.self.now.reader events)) (sym c.refusal.ensures)
    (refused-for text events c.args.self.now c.args.b cause.Size h (λ more. refused-by-size text events c.args.self.now c.args.b more h (grind (arith, nat_tests, common_steps)) (grind (arith, nat_tests, common_steps)) (grind (arith, nat_tests, common_steps))))

pub returns-then-b-eq10 : goal.returns-then-b-eq10
returns-then-b-eq10 c text events h = line-read text events c.args.self.now c.args.b c.end_line.result c.end_line.new.self h (let is = c.if-b-eq10.true in grind (arith, nat_tests, common_steps)) c.end_line.ensures

pub returns-then-is_full : goal.returns-then-is_full
returns-then-is_full c text events h =
    let within = c.self.invariant.0 in
    let reached = c.if-self-len-ge-SCRIPT.false in
    let other = c.if-b-eq10.false in
    let full = c.if-is_full.ensures.value in
    let is = c.self.view_is in
    subst (IsRefusedFor (text ++ c.args.b ∷ []) (script_with c.args.self.now.reader events)) (sym c.refusal-then-is_full.ensures)
    (refused-for text events c.args.self.now c.args.b cause.Long h (λ more. refused-by-length text events c.args.self.now c.args.b more h (grind (arith, nat_tests, common_steps)) (grind (arith, nat_tests, common_steps)) (grind (arith, nat_tests, common_steps))))
