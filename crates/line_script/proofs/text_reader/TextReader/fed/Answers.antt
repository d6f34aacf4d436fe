use Rattle.std.proofs.Common.{◌≡◌, ◌+◌, ◌∙◌, ap, arith, length, length-append}
use Rattle.line_script.specs.Fed.{Fed}
use Rattle.line_script.proofs.text_reader.TextReader.fed.Goals as goal

pub returns-clause-all : goal.returns-clause-all
returns-clause-all c text events h =
    let start = ap (λ (r : Fed). r.start) c.self.view_is in
    let line = ap (λ (r : Fed). length r.line) c.self.view_is in
    let held = c.len.ensures.value in
    let before = h.start_is in
    let all : length text ≡ length h.whole + length c.args.self.now.line = ap length h.text_is ∙ length-append h.whole c.args.self.now.line in
    omega (arith, start, line, held, before, all)
