-- A run outside: each byte is told as a stray one.
use Rattle.std.proofs.Common.{◌≡◌, ◌<◌, ◌∙◌, false, length, take, sym, arith}
use Rattle.std.proofs.lemmas.List.{length-take-le}
use Rattle.df1_dissect.specs.Runs.{ear_inside}
use Rattle.df1_dissect.proofs.RunLemmas.{after-outside, lines-strays}
use Rattle.df1_dissect.proofs.reader.Reader.hear_strays.Goals as goal

pub returns-clause-value : goal.returns-clause-value
returns-clause-value c =
    let v = c.self.inside in
    let run = take c.hear_run-count.result c.args.bytes.now in
    let size : length run ≡ c.hear_run-count.result = length-take-le c.hear_run-count.result c.args.bytes.now c.hear_run-count.ensures.most in
    let some : 0 < length run = omega (arith, size, c.if-count-eq0.false) in
    let out : ear_inside v.ear ≡ false = sym c.inside-inside.ensures ∙ c.if-inside.false in
    let all = after-outside v.ear v.start v.fed v.heard v.bad run some (rw out at c.hear_run-count.ensures.turns) in
    rw (← c.self.view_is, c.hear_run-count.ensures.value) (sym (rw size at all))

pub returns-clause-lines : goal.returns-clause-lines
returns-clause-lines c =
    let v = c.self.inside in
    let run = take c.hear_run-count.result c.args.bytes.now in
    let out : ear_inside v.ear ≡ false = sym c.inside-inside.ensures ∙ c.if-inside.false in
    rw (← c.self.view_is) (lines-strays v.ear v.start v.fed v.heard v.bad run c.if-self.false (rw out at c.hear_run-count.ensures.turns))
