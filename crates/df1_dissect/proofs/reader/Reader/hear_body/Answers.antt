-- A run in a body: nothing is told.
use Rattle.std.proofs.Common.{◌≡◌, ◌∙◌, true, length, take, sym}
use Rattle.std.proofs.lemmas.List.{length-take-le}
use Rattle.df1_dissect.specs.Runs.{ear_inside}
use Rattle.df1_dissect.proofs.RunLemmas.{after-goes, lines-goes}
use Rattle.df1_dissect.proofs.reader.Reader.hear_body.Goals as goal

pub returns-clause-value : goal.returns-clause-value
returns-clause-value c =
    let v = c.self.inside in
    let run = take c.hear_run-count.result c.args.bytes.now in
    let size : length run ≡ c.hear_run-count.result = length-take-le c.hear_run-count.result c.args.bytes.now c.hear_run-count.ensures.most in
    let within : ear_inside v.ear ≡ true = sym c.inside-inside.ensures ∙ c.if-not-inside.false in
    let all = after-goes v.ear v.start v.fed v.heard v.bad run (rw within at c.hear_run-count.ensures.turns) in
    rw (← c.self.view_is, c.hear_run-count.ensures.value) (sym (rw size at all))

pub returns-clause-lines : goal.returns-clause-lines
returns-clause-lines c =
    let v = c.self.inside in
    let run = take c.hear_run-count.result c.args.bytes.now in
    let within : ear_inside v.ear ≡ true = sym c.inside-inside.ensures ∙ c.if-not-inside.false in
    rw (← c.self.view_is) (lines-goes v.ear v.start v.fed v.heard v.bad run (rw within at c.hear_run-count.ensures.turns))
