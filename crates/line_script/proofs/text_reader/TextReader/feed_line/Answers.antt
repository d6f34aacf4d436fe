-- A line is read whole, or its run is held first, and what refuses that refuses the line.
use Rattle.std.proofs.Common.{◌≡◌, ◌∙◌, ◌++◌, ◌∷◌, [], subst, sym}
use Rattle.line_script.specs.Fed.{Fed}
use Rattle.line_script.specs.Lines.{script_with}
use Rattle.line_script.proofs.Runs.{is-empty, line-read-whole, refused-on}
use Rattle.line_script.proofs.text_reader.TextReader.feed_line.Goals as goal

pub returns-then-is_empty : goal.returns-then-is_empty
returns-then-is_empty c text events h =
    line-read-whole text c.args.run.now events c.args.self.now c.read_line.new.self c.read_line.result c.requires h
    (subst (λ (r : Fed). r.line ≡ []) c.self.view_is (is-empty c.self.inside.line.items (sym c.is_empty.ensures ∙ c.if-is_empty.true))) c.read_line.ensures

pub returns-in-Err : goal.returns-in-Err
returns-in-Err c text events h =
    refused-on (text ++ c.args.run.now) (10 ∷ []) (script_with c.args.self.now.reader events) c.in-Err.fault (c.in-Err.ensures.stands text events h)
