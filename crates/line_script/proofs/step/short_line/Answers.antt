-- Where the bytes behind four, and behind five, are no line feed, the first line is longer.
use Rattle.std.proofs.Common.{◌≡◌, List, Some, false, eqb, ℕ, ap, arith, rules, slice_index_or}
use Rattle.line_script.proofs.StepLines.{longer_line, whole_line}
use Rattle.line_script.proofs.step.short_line.Goals as goal

pub returns-in-10-2-clause-first : goal.returns-in-10-2-clause-first
returns-in-10-2-clause-first c line more none least most all =
    let bytes = c.args.bytes.now in
    let not_four : eqb (slice_index_or bytes 4 0) 10 ≡ false = search rules in
    let feed : slice_index_or bytes 5 0 ≡ 10 = search rules in
    ap (λ (l : List ℕ). Some l) (whole_line 5 bytes line more none (omega arith) (longer_line 4 bytes line more least all not_four) all feed)

pub returns-in-10-3-clause-first : goal.returns-in-10-3-clause-first
returns-in-10-3-clause-first c line more none least most all =
    let bytes = c.args.bytes.now in
    let not_four : eqb (slice_index_or bytes 4 0) 10 ≡ false = search rules in
    let not_five : eqb (slice_index_or bytes 5 0) 10 ≡ false = search rules in
    let feed : slice_index_or bytes 6 0 ≡ 10 = search rules in
    let five = longer_line 4 bytes line more least all not_four in
    ap (λ (l : List ℕ). Some l) (whole_line 6 bytes line more none (omega arith) (longer_line 5 bytes line more five all not_five) all feed)
