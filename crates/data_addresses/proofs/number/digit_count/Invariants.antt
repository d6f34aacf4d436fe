use Rattle.std.proofs.Common.{◌≡◌, ◌+◌, length, drop}
use Rattle.data_addresses.specs.Numbers.{digits}
use Rattle.data_addresses.proofs.number.digit_count.Given as goal

-- each byte so far is a digit
abbrev pub invariant-loop-count : goal.invariant-loop-count
invariant-loop-count l = l.count + length (digits (drop l.count l.text)) ≡ length (digits l.text)
