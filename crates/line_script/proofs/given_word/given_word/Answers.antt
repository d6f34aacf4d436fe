use Rattle.std.proofs.Common.{◌≡◌, ◌≤◌, length, rules, refl, sym, slice_index_or}
use Rattle.std.proofs.lemmas.List.{take_rest}
use Rattle.line_script.proofs.GivenWords.{front, word_says}
use Rattle.line_script.proofs.given_word.given_word.Goals as goal

pub returns-in_ok-value_of-in-119 : goal.returns-in_ok-value_of-in-119
returns-in_ok-value_of-in-119 c =
    let line = c.args.line.now in
    let some : 7 ≤ length line = search rules in
    let w : slice_index_or line 0 0 ≡ 119 = search rules in
    let o : slice_index_or line 1 0 ≡ 111 = search rules in
    let r : slice_index_or line 2 0 ≡ 114 = search rules in
    let d : slice_index_or line 3 0 ≡ 100 = search rules in
    let blank : slice_index_or line 4 0 ≡ 32 = search rules in
    let blank-2 : slice_index_or line 6 0 ≡ 32 = search rules in
    let bytes = front line _ some w o r d blank blank-2 (take_rest line 7) in
    let side = c.in_ok-side-in-119.side in
    let end = c.in_ok-side-in-119.ensures.letter side refl in
    let file = c.in_ok-file-in-119.ensures in
    let index = c.in_ok-index-in-119.ensures in
    let value = c.in_ok-value_of-in-119.ensures in
    word_says line _ file.0 c.in_ok-file-in-119.rest.now index.0 c.in_ok-index-in-119.digits.now (slice_index_or line 5 0) side c.in_ok-file-in-119.file c.in_ok-file_number-in-119.field-0 c.in_ok-index-in-119.index c.in_ok-value_of-in-119.field-0
    bytes end.0 end.1 file.2 file.1 index.2 index.1 value.1 value.0 (sym c.in_ok-file_number-in-119.ensures)
