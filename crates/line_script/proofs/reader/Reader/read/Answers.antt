use Rattle.std.proofs.Common.{◌≡◌, ◌∙◌, ℕ, false, List, sym, ap, length}
use Rattle.std.proofs.lemmas.Bool.{le-ltb}
use Rattle.script_statement.specs.Words.{words}
use Rattle.line_script.specs.Lines.{after_line, after_words, is_long, reaches_limit, text_line}
use Rattle.line_script.proofs.reader.Reader.read.Goals as goal

pub returns-in-None-given_command : goal.returns-in-None-given_command
returns-in-None-given_command c =
    let d = c.args.self.now in
    let line = text_line c.args.start c.args.line.now c.args.is_ended in
    let near : reaches_limit line ≡ false = sym c.reaches_limit.ensures ∙ c.if-reaches_limit.false in
    let short : is_long line ≡ false = le-ltb 1024 (length c.args.line.now) c.if-line-gt-LINE.false in
    let same : after_line d line ≡ after_words d (words c.content-said.result.now) = rw (near, short) (sym (ap (λ (l : List ℕ). after_words d (words l)) c.content-said.ensures)) in
    rw same c.read_said.ensures
