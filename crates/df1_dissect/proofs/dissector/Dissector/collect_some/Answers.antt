-- A run, or the first byte.
use Rattle.std.proofs.Common.{◌≡◌, ◌∙◌, ◌+◌, ℕ, List, [], ◌∷◌, ◌++◌, take, get_or, sym, ap, append-nil, arith}
use Rattle.std.proofs.lemmas.List.{length-take-le, take_more}
use Rattle.df1_dissect.specs.Reading.{Reading}
use Rattle.df1_dissect.specs.Step.{next}
use Rattle.df1_dissect.specs.Dissection.{lines_at, lines_in}
use Rattle.df1_dissect.specs.Runs.{after}
use Rattle.df1_dissect.proofs.RunLemmas.{after-fed, lines-after, stands-after}
use Rattle.df1_dissect.proofs.dissector.Dissector.collect_some.Goals as goal

pub returns-then-count-gt0-clause-stands : goal.returns-then-count-gt0-clause-stands
returns-then-count-gt0-clause-stands c = λ side check before stands.
    rw c.collect_run-count.ensures.value (stands-after side check (take c.collect_run-count.result c.args.bytes.now) before c.args.self.now stands)

pub returns-then-count-gt0-clause-lines : goal.returns-then-count-gt0-clause-lines
returns-then-count-gt0-clause-lines c = λ side check before so_far stands lines.
    lines-after side check (take c.collect_run-count.result c.args.bytes.now) before c.args.self.now so_far stands lines

pub returns-then-count-gt0-clause-fed : goal.returns-then-count-gt0-clause-fed
returns-then-count-gt0-clause-fed c =
    let n = c.collect_run-count.result in
    let run = take n c.args.bytes.now in
    let size = length-take-le n c.args.bytes.now c.collect_run-count.ensures.most in
    ap (λ (r : Reading). r.fed) c.collect_run-count.ensures.value ∙ after-fed run c.args.self.now ∙ ap (λ n. c.args.self.now.fed + n) size

-- the reader is as it was where no run was taken
pub returns-clause-value : goal.returns-clause-value
returns-clause-value c =
    let v = c.args.self.now in
    let all = c.args.bytes.now in
    let none : c.collect_run-count.result ≡ 0 = omega (arith, c.if-count-gt0.false) in
    let same : c.collect_run-count.new.self ≡ v = c.collect_run-count.ensures.value ∙ ap (λ n. after v (take n all)) none in
    let first : take 1 all ≡ get_or all 0 0 ∷ [] = take_more all 0 0 c.requires.some in
    c.collect.ensures.value ∙ ap (λ (r : Reading). (next r (get_or all 0 0)).0) same ∙ ap (after v) (sym first)

pub returns-clause-lines : goal.returns-clause-lines
returns-clause-lines c = λ side check before so_far stands lines. lines-after side check (take 1 c.args.bytes.now) before c.args.self.now so_far stands lines

pub returns-clause-added : goal.returns-clause-added
returns-clause-added c =
    let v = c.args.self.now in
    let all = c.args.bytes.now in
    let b = get_or all 0 0 in
    let old = c.args.lines.now.items in
    let none : c.collect_run-count.result ≡ 0 = omega (arith, c.if-count-gt0.false) in
    let same : c.collect_run-count.new.self ≡ v = c.collect_run-count.ensures.value ∙ ap (λ n. after v (take n all)) none in
    let left : c.collect_run-count.new.lines.items ≡ old = c.collect_run-count.ensures.added ∙ ap (λ n. old ++ lines_in v (take n all)) none ∙ append-nil old in
    let first : take 1 all ≡ b ∷ [] = take_more all 0 0 c.requires.some in
    c.collect.ensures.added
    ∙ ap (λ (r : Reading). c.collect_run-count.new.lines.items ++ lines_at r b) same
    ∙ ap (λ (l : List ℕ). l ++ lines_at v b) left
    ∙ ap (λ (l : List ℕ). old ++ l) (sym (append-nil (lines_at v b)) ∙ ap (lines_in v) (sym first))
