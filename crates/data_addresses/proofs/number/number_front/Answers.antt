use Rattle.std.proofs.Common.{ℕ, List, Option, Some, None, rules, arith, ap, ◌∙◌}
use Rattle.data_addresses.proofs.Digits.{count_within, number_is, rest_after}
use Rattle.data_addresses.proofs.number.number_front.Goals as goal

pub slice_bounds-number_of-end : goal.slice_bounds-number_of-end
slice_bounds-number_of-end c = count_within c.digit_count-count.result c.args.text.now c.digit_count-count.ensures

pub returns-in_err-number-clause-reads : goal.returns-in_err-number-clause-reads
returns-in_err-number-clause-reads c =
    rw c.from_residual.ensures (number_is c.args.text.now c.args.most c.digit_count-count.result None c.digit_count-count.ensures (λ none. omega arith) (search rules))

pub returns-clause-reads : goal.returns-clause-reads
returns-clause-reads c =
    let found : List ℕ → Option (ℕ × List ℕ) = λ rest. Some (c.in_ok-number.number, rest) in
    ap found (rest_after c.digit_count-count.result c.args.text.now)
    ∙ number_is c.args.text.now c.args.most c.digit_count-count.result (Some c.in_ok-number.number) c.digit_count-count.ensures (λ none. omega arith) (search rules)
