use Rattle.std.proofs.Common.{◌∙◌, ap, length, sym}
use Rattle.line_script.specs.Fed.{Fed}
use Rattle.line_script.proofs.Shown.{left-begun}
use Rattle.line_script.proofs.text_reader.TextReader.held.Goals as goal

pub returns-clause-begun : goal.returns-clause-begun
returns-clause-begun c text events h = c.len.ensures.value ∙ ap (λ (r : Fed). length r.line) c.self.view_is ∙ sym (left-begun text events c.args.self.now h)
