use Rattle.std.proofs.Common.{◌≡◌, ◌-◌, ◌<◌, ◌∙◌, false, not, eqb, ap, sym, arith, length, take, drop}
use Rattle.std.specs.Prelude.{unwrap_or}
use Rattle.std.proofs.lemmas.Bool.{eqb-true, eqb-false}
use Rattle.std.proofs.lemmas.List.{take_rest}
use Rattle.script_statement.specs.Words.{is_blank}
use Rattle.script_statement.proofs.FirstWords.{none_left, next_words, or_length}
use Rattle.script_statement.proofs.words.next_word.Goals as goal

pub returns-then-is_empty : goal.returns-then-is_empty
returns-then-is_empty c =
    let line = c.args.line.now in
    let at = c.unwrap_or.ensures ∙ ap (λ o. unwrap_or o (length line)) c.word_start.ensures ∙ or_length (λ byte. not (is_blank byte)) line in
    let rest = take_rest line c.unwrap_or.result in
    let begun = rw (rest, at) at c.is_empty.ensures in
    none_left line (eqb-true _ 0 (sym begun ∙ c.if-is_empty.true))

pub returns : goal.returns
returns c =
    let line = c.args.line.now in
    let begun = take (length line - c.unwrap_or.result) (drop c.unwrap_or.result line) in
    let at = c.unwrap_or.ensures ∙ ap (λ o. unwrap_or o (length line)) c.word_start.ensures ∙ or_length (λ byte. not (is_blank byte)) line in
    let is = take_rest line c.unwrap_or.result ∙ ap (λ n. drop n line) at in
    let end = c.unwrap_or-2.ensures ∙ ap (λ o. unwrap_or o (length begun)) c.word_end.ensures ∙ or_length is_blank begun in
    let test : eqb (length begun) 0 ≡ false = sym c.is_empty.ensures ∙ c.if-is_empty.false in
    let some : 0 < length begun = let other = eqb-false (length begun) 0 test in omega (arith, other) in
    rw (c.split_at.ensures.front, c.split_at.ensures.back, end) (next_words line begun is some)
