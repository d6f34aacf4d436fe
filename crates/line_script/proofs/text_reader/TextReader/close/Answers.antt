use Rattle.std.proofs.Common.{◌≡◌, ◌∙◌, true, false, subst, sym}
use Rattle.line_script.specs.Fed.{Fed, IsRefusedAtEnd}
use Rattle.line_script.specs.Readers.{stage_of}
use Rattle.line_script.specs.Lines.{is_ended, script_with}
use Rattle.line_script.proofs.Fed.{closed, left-open}
use Rattle.line_script.proofs.text_reader.TextReader.close.Goals as goal

pub returns-then-is_ended : goal.returns-then-is_ended
returns-then-is_ended c text events h =
    closed text events c.args.self.now h (subst (λ (r : Fed). is_ended (stage_of r.reader) ≡ true) c.self.view_is (sym c.is_ended.ensures ∙ c.if-is_ended.true))

pub returns-else-is_ended : goal.returns-else-is_ended
returns-else-is_ended c text events h =
    subst (IsRefusedAtEnd text (script_with c.args.self.now.reader events)) (sym c.refusal.ensures)
    (left-open text events c.args.self.now h (subst (λ (r : Fed). is_ended (stage_of r.reader) ≡ false) c.self.view_is (sym c.is_ended.ensures ∙ c.if-is_ended.false)))
