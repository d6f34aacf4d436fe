-- The reader is as it was where no run was taken, and then hears the first byte.
use Rattle.std.proofs.Common.{◌≡◌, ◌∙◌, [], ◌∷◌, take, get_or, sym, ap, arith}
use Rattle.std.proofs.lemmas.List.{take_more}
use Rattle.df1_dissect.specs.Reading.{Reading}
use Rattle.df1_dissect.specs.Step.{next}
use Rattle.df1_dissect.specs.Runs.{after}
use Rattle.df1_dissect.proofs.reader.Reader.hear_some.Goals as goal

pub returns-clause-value : goal.returns-clause-value
returns-clause-value c =
    let v = c.args.self.now in
    let all = c.args.bytes.now in
    let none : c.hear_run-count.result ≡ 0 = omega (arith, c.if-count-gt0.false) in
    let same : c.hear_run-count.new.self ≡ v = c.hear_run-count.ensures.value ∙ ap (λ n. after v (take n all)) none in
    let first : take 1 all ≡ get_or all 0 0 ∷ [] = take_more all 0 0 c.requires.some in
    c.hear.ensures.value ∙ ap (λ (r : Reading). (next r (get_or all 0 0)).0) same ∙ ap (after v) (sym first)
