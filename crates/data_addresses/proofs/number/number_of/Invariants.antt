use Rattle.std.proofs.Common.{◌≡◌, ◌≤◌, drop}
use Rattle.data_addresses.specs.Numbers.{number_from, number_of}
use Rattle.data_addresses.proofs.number.number_of.Given as goal

-- the number so far
abbrev pub invariant-loop-digit : goal.invariant-loop-digit
invariant-loop-digit l = record {
  so_far : number_from l.number (drop l.digit-index l.digits) ≡ number_of l.digits;
  within : l.number ≤ l.most;
}
